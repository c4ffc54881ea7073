-- What a command of the player is answered: the words, and what is said of a save.
use Rattle.std.specs.Prelude.{ℕ, ◌≡◌, List, [], ◌∷◌, ◌++◌, cond, eqb, Result, Ok, Err}
use Rattle.std.proofs.Common.{refl, eq-eqb, ne_eqb}
use Rattle.stream.specs.Decimal.{decimal, figure}
use Rattle.shelf.specs.Shelf.{number, slot_of}
use Rattle.shelf.specs.Run.{Shelf, after, save, saving}
use Rattle.refusal.specs.declared.Refusal.{Refusal}
use Rattle.refusal.specs.Numbers as Numbers
use Rattle.seek.specs.Seek.{Sought}

-- ---- the words: `refused `, `saved `, `held `, `let go `, `frame `, ` mark `, `unknown`
abbrev pub refused_word : List ℕ
refused_word = 114 ∷ 101 ∷ 102 ∷ 117 ∷ 115 ∷ 101 ∷ 100 ∷ 32 ∷ []

abbrev pub saved_word : List ℕ
saved_word = 115 ∷ 97 ∷ 118 ∷ 101 ∷ 100 ∷ 32 ∷ []

abbrev pub held_word : List ℕ
held_word = 104 ∷ 101 ∷ 108 ∷ 100 ∷ 32 ∷ []

abbrev pub let_go_word : List ℕ
let_go_word = 108 ∷ 101 ∷ 116 ∷ 32 ∷ 103 ∷ 111 ∷ 32 ∷ []

abbrev pub frame_word : List ℕ
frame_word = 102 ∷ 114 ∷ 97 ∷ 109 ∷ 101 ∷ 32 ∷ []

abbrev pub mark_word : List ℕ
mark_word = 32 ∷ 109 ∷ 97 ∷ 114 ∷ 107 ∷ 32 ∷ []

abbrev pub unknown_line : List ℕ
unknown_line = 117 ∷ 110 ∷ 107 ∷ 110 ∷ 111 ∷ 119 ∷ 110 ∷ 10 ∷ []

-- `refused N` for a refusal's number, or what an accepted command is answered
unfoldable pub answered : ℕ → List ℕ → List ℕ
answered n text = cond (eqb n 0) text (figure refused_word n)

pub answered_yes : (n : ℕ) (text : List ℕ) → n ≡ 0 → answered n text ≡ text
unfolding answered
answered_yes n text e = rw (eq-eqb n 0 e)

pub answered_no : (n : ℕ) (text : List ℕ) → (n ≡ 0 → ⊥) → answered n text ≡ figure refused_word n
unfolding answered
answered_no n text z = rw (ne_eqb n 0 z)

-- the same of a function's answer: a refusal's line, or one of a name and a number
abbrev pub refused : Refusal → List ℕ
refused r = figure refused_word (Numbers.number r)

abbrev pub answer_line : List ℕ → Result ℕ Refusal → List ℕ
answer_line name (Ok v) = figure name v
answer_line name (Err r) = refused r

-- a number in the place of what is answered
abbrev pub valued : {A : Type 0} → ℕ → Result A Refusal → Result ℕ Refusal
valued k (Ok x) = Ok k
valued k (Err r) = Err r

pub answered_told : {A : Type 0} (name : List ℕ) (k : ℕ) (a : Result A Refusal) → answered (Numbers.told a) (figure name k) ≡ answer_line name (valued k a)
answered_told name k (Ok x) = answered_yes 0 (figure name k) refl
answered_told name k (Err r) = answered_no (Numbers.number r) (figure name k) (Numbers.number_not_0 r)

-- `frame K mark M`
unfoldable pub frame_mark : ℕ → ℕ → List ℕ
frame_mark k mark = frame_word ++ (decimal k ++ figure mark_word mark)

-- ---- a command on the shelf h, of a recording
-- what `save K` leaves and is answered, where the state before frame K was looked for and s was found
unfoldable pub save_left : Shelf → ℕ → Sought → Shelf
save_left h k s = cond (eqb s.number 0) (after h (save s.state k)) h

unfoldable pub save_said : Shelf → ℕ → Sought → List ℕ
save_said h k s = answered s.number (answered (number (saving h s.state k)) (figure saved_word (slot_of (saving h s.state k))))
