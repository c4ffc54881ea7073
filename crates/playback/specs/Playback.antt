-- What the player writes: all of it follows from the bytes of the table file, of the recording and of its input.
use Rattle.std.specs.Prelude.{ℕ, zero, suc, ◌≡◌, refl, List, Bool, true, false, cond, eqb, ltb, ℤ, length, take, drop}
use Rattle.std.proofs.Common.{ap, arith, length-take, take_all, ltb-true, ltb-false, ne_eqb}
use Rattle.stream.specs.Lines.{lines}
use Rattle.stream.specs.Told.{texts}
use Rattle.stream.specs.Decimal.{figure}
use Rattle.state.specs.declared.State.{State}
use Rattle.state.specs.State.{fault}
use Rattle.table_file.specs.File as File
use Rattle.heard.specs.Recording.{line_step, line_text, tables_text}
use Rattle.slot_users.specs.Users.{SLOTS}
use Rattle.shelf.specs.Shelf.{number}
use Rattle.shelf.specs.Run.{Shelf, zeros, after, hold, let_go, holding, letting_go}
use Rattle.places.specs.Frames.{frames}
use Rattle.forward.specs.Forward.{before}
use Rattle.best_save.specs.Best.{best}
use Rattle.seek.specs.Seek.{Sought, not_sought, seek}
use Rattle.commands.specs.Commands.{Command, unknown, command}
use Rattle.replies.specs.Replies.{held_word, let_go_word, unknown_line, answered, frame_mark, save_left, save_said}

-- what a line says; one of more than 40 bytes says nothing that is known
unfoldable pub says : List ℕ → Command
says line = cond (ltb 40 (length line)) unknown (command line)

-- ---- a command on the shelf h, of a recording
module _ (words : List ℤ) (bytes recording : List ℕ) where
  -- the state before frame k: what a seek finds and, for a save where none is held at or below k, that of playing from the start
  abbrev pub sought : Shelf → ℕ → Sought
  sought h k = seek words bytes h.slots h.images recording k

  unfoldable pub found : Shelf → ℕ → Sought
  found h k =
      cond (ltb (best h.slots k) SLOTS) (sought h k)
      (cond (ltb k (length (frames recording))) (record { number = 0; state = before words bytes recording k }) (not_sought 15))

  -- decode's lines of n frames from frame k on, or of those that there are
  unfoldable pub played : State → ℕ → ℕ → List ℕ
  played s k n = texts (line_step words bytes) (line_text words bytes) s (take n (drop k (frames recording)))

  -- the shelf that a command leaves: `save K`, `hold S`, `let go S`
  unfoldable pub left : Shelf → Command → Shelf
  left h c =
      cond (eqb c.kind 1) (save_left h c.k (found h c.k))
      (cond (eqb c.kind 2) (after h (hold c.k))
      (cond (eqb c.kind 3) (after h (let_go c.k)) h))

  -- its text: of those, and of `seek K`, `play K N` and what is unknown
  unfoldable pub said : Shelf → Command → List ℕ
  said h c =
      cond (eqb c.kind 1) (save_said h c.k (found h c.k))
      (cond (eqb c.kind 2) (answered (number (holding h c.k)) (figure held_word c.k))
      (cond (eqb c.kind 3) (answered (number (letting_go h c.k)) (figure let_go_word c.k))
      (cond (eqb c.kind 4) (answered (sought h c.k).number (frame_mark c.k (sought h c.k).state.mark))
      (cond (eqb c.kind 5) (answered (sought h c.k).number (played (sought h c.k).state c.k c.n))
      unknown_line))))

  -- ---- the lines of an input, one after the other, on a shelf that begins as zeros
  unfoldable pub line_left : Shelf → List ℕ → Shelf
  line_left h line = left h (says line)

  unfoldable pub line_said : Shelf → List ℕ → List ℕ
  line_said h line = said h (says line)

  unfoldable pub transcript : List ℕ → List ℕ
  transcript input = texts line_left line_said zeros (lines input)

-- all that the program writes, by the table file's refusal number
unfoldable pub output : ℕ → List ℕ → List ℕ → List ℕ → List ℕ
output zero file recording input = transcript (File.words file) (File.bytes file) recording input
output (suc n) file recording input = tables_text (suc n) file

unfoldable pub program : List ℕ → List ℕ → List ℕ → List ℕ
program file recording input = output (File.check_file file) file recording input

-- ---- the first 15,835 bytes of a table file tell what all of them do: one that is longer is refused as it is
pub first_bytes : (file recording input : List ℕ) → program (take 15835 file) recording input ≡ program file recording input
unfolding program File.check_file output tables_text fault
first_bytes file recording input = by (ltb 15835 (length file)) refl
  where
    by : (long : Bool) → ltb 15835 (length file) ≡ long → program (take 15835 file) recording input ≡ program file recording input
    by false e = ap (λ (f : List ℕ). program f recording input) (take_all 15835 file (ltb-false 15835 (length file) e))
    by true e =
        let h = ltb-true 15835 (length file) e in
        let t = length-take 15835 file in
        rw (ne_eqb (length file) 15834 (λ z. omega arith), ne_eqb (length (take 15835 file)) 15834 (λ z. omega arith))
