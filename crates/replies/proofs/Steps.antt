-- What is put into the room: a line of a name and a number, and `frame K mark M`.
use Prim.Native.Nat.{ℕ, ◌+◌, ◌≤◌}
use mathlib.Core.Path.{◌≡◌, ◌∙◌}
use mathlib.Core.List.{List, ◌++◌}
use native.Mathlib.Omega.{arith}
use lib.ListN.{length, length-append}
use lib.Seq.{sets}
use Rattle.stream.specs.Room.{sets_append, sets_over}
use Rattle.stream.specs.Decimal.{decimal, figure, decimal_long, figure_long}
use Rattle.replies.specs.Replies.{frame_word, mark_word, frame_mark}
use Rattle.replies.specs.Promised.{Put}

pub put_line : (name : List ℕ) (v : ℕ) (room : List ℕ) {n : ℕ} {now : List ℕ} → length name ≤ 8 → 64 ≤ length room → n ≡ 0 + length (figure name v) → now ≡ sets room 0 (figure name v) → Put (figure name v) room n now
put_line name v room h r e f = let l = figure_long name v in record { long = omega arith; fits = omega arith; put = f ∙ sets_over (figure name v) room (omega arith) }

-- three parts, one behind the other
pub put_mark : (k mark : ℕ) (room one two : List ℕ) (a b n : ℕ) {now : List ℕ} → 64 ≤ length room → a ≡ 0 + 6 → one ≡ sets room 0 frame_word → b ≡ a + length (decimal k) → two ≡ sets one a (decimal k) → n ≡ b + length (figure mark_word mark) → now ≡ sets two b (figure mark_word mark) → Put (frame_mark k mark) room n now
unfolding frame_mark
put_mark k mark room one two a b n {now} r p e q f s g =
    let x = length-append (decimal k) (figure mark_word mark) in
    let y = length-append frame_word (decimal k ++ figure mark_word mark) in
    let d = decimal_long k in
    let m = figure_long mark_word mark in
    let t : sets two b (figure mark_word mark) ≡ sets room 0 (frame_mark k mark) = rw (q, f, e, p) (sets_append (decimal k) (figure mark_word mark) (sets room 0 frame_word) 6 ∙ sets_append frame_word (decimal k ++ figure mark_word mark) room 0) in
    record { long = omega arith; fits = omega arith; put = g ∙ t ∙ sets_over (frame_mark k mark) room (omega arith) }
