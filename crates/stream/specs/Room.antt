-- A text over the beginning of a room, and a text behind it.
use Rattle.std.specs.Prelude.{ℕ, suc, ◌+◌, ◌-◌, ◌<◌, ◌≤◌, ◌≡◌, refl, List, [], ◌∷◌, ◌++◌, length, get_or, take, drop, set}
use Rattle.std.proofs.Common.{sym, ap, ◌∙◌, append_assoc, append-nil, add-one, add-zero, zero-add, arith, length-append, length-drop, drop_of_length-le, take_at, drop_at, drop-drop, take-suc, drop-cons, take_all, length-take-le}
use Rattle.io.specs.Counts.{IsPrefixLen}
use Rattle.std.proofs.lemmas.List.{set_at}
use Rattle.std.proofs.lemmas.List.Edits.{sets, sets-eq}

unfoldable pub over : List ℕ → List ℕ → List ℕ
over text room = text ++ drop (length text) room

pub over_none : (room : List ℕ) → room ≡ over [] room
unfolding over
over_none room = refl

pub over_long : (text room : List ℕ) → length text ≤ length room → length (over text room) ≡ length room
unfolding over
over_long text room h = let a = length-append text (drop (length text) room) in let d = length-drop (length text) room in omega arith

-- a text behind one that is there
pub over_more : (text next room : List ℕ) → take (length text) (over text room) ++ over next (drop (length text) (over text room)) ≡ over (text ++ next) room
unfolding over
over_more text next room =
    rw (take_at text (drop (length text) room) (length text) refl, drop_at text (drop (length text) room) (length text) refl, drop-drop, append_assoc, length-append)

-- `&mut room[at..]` was lent, «at» being n, and comes back with a text over its beginning
pub tail_back : (room text : List ℕ) (n at : ℕ) {part : List ℕ} → at ≡ n → n ≤ length room → part ≡ over text (take (length room - at) (drop at room)) → take at room ++ (part ++ drop (length room - at) (drop at room)) ≡ take n room ++ over text (drop n room)
tail_back room text n at same h e =
    let d = length-drop at room in
    let f = rw (take_all (length room - at) (drop at room) (omega arith)) at e in
    rw (drop_of_length-le (drop at room) {i = length room - at} (omega arith), append-nil, f, same)

-- ---- the loop that puts it there, a byte a turn
pub over_next : (text room : List ℕ) (i : ℕ) → i < length text → length text ≤ length room → set (over (take i text) room) i (get_or text i 0) ≡ over (take (i + 1) text) room
unfolding over
over_next text room i h f =
    let a = length-take-le i text (omega arith) in
    let b = length-take-le (suc i) text (omega arith) in
    rw (add-one i, a, b, drop-cons room i 0 (omega arith), take-suc text i 0 h, append_assoc) (set_at (take i text) (get_or room i 0) (drop (suc i) room) (get_or text i 0) i a)

-- n bytes at the start of a room, as lending `&room[..n]` asks it
pub counts : (n : ℕ) (room : List ℕ) → n ≤ length room → IsPrefixLen n room
counts n room h = (h, sym (length-take-le n room h))

-- a room that a text was put into
pub over_counts : (text room : List ℕ) {after : List ℕ} (n : ℕ) → after ≡ over text room → n ≡ length text → length text ≤ length room → IsPrefixLen n after
over_counts text room n e m h = let l = over_long text room h in rw e (counts n (over text room) (omega arith))

-- ---- texts from a place on, one behind the other: `sets` of lib.Seq
pub sets_append : (s t l : List ℕ) (i : ℕ) → sets (sets l i s) (i + length s) t ≡ sets l i (s ++ t)
sets_append [] t l i = rw add-zero
sets_append (a ∷ s) t l i = let e : i + suc (length s) ≡ suc i + length s = omega arith in rw e (sets_append s t (set l i a) (suc i))

pub sets_over : (text room : List ℕ) → length text ≤ length room → sets room 0 text ≡ over text room
unfolding over
sets_over text room h = sets-eq text room 0 (omega arith) ∙ ap (λ (n : ℕ). text ++ drop n room) (zero-add (length text))

-- `&mut room[n..]` comes back with a text over its beginning
pub tail_sets : (room text : List ℕ) (n : ℕ) {part : List ℕ} → n + length text ≤ length room → part ≡ over text (take (length room - n) (drop n room)) → take n room ++ (part ++ drop (length room - n) (drop n room)) ≡ sets room n text
unfolding over
tail_sets room text n h e = tail_back room text n n refl (omega arith) e ∙ rw (drop-drop, sets-eq text room n h, append_assoc)
