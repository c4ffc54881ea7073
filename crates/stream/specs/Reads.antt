-- A program's turns: a read, and the text that it gives. A read that gives nothing is the end of the input.
use Rattle.std.specs.Prelude.{ℕ, ◌≡◌, Bool, false, ltb, length}
use Rattle.std.proofs.Math.Path.{refl}
use mathlib.Core.List.{List, [], ◌∷◌, ◌++◌, append_assoc}
use Rattle.std.proofs.Common.{arith}
use Rattle.stream.specs.Machine.{fed_all, written_all, fed_append, written_append}

-- a read that gives a byte or more
pub record Read : Type 0 where
  pub head : ℕ
  pub tail : List ℕ

abbrev pub bytes : Read → List ℕ
bytes c = c.head ∷ c.tail

-- all that was read
unfoldable pub input_of : List Read → List ℕ
input_of [] = []
input_of (c ∷ cs) = bytes c ++ input_of cs

module _ {R : Type 0} (fed : R → ℕ → R) (written : R → ℕ → List ℕ) (ending : R → List ℕ) where
  -- what a read gives
  unfoldable pub answer_text : R → List ℕ → List ℕ
  answer_text r [] = ending r
  answer_text r (b ∷ bs) = written_all fed written r (b ∷ bs)

  pub answer_end : (r : R) (chunk : List ℕ) → length chunk ≡ 0 → (fed_all fed r chunk ≡ r) × (answer_text r chunk ≡ ending r)
  unfolding answer_text fed_all
  answer_end r [] e = (refl, refl)
  answer_end r (b ∷ bs) e = absurd (omega arith)

  pub answer_chunk : (r : R) (chunk : List ℕ) → (length chunk ≡ 0 → ⊥) → answer_text r chunk ≡ written_all fed written r chunk
  unfolding answer_text
  answer_chunk r [] h = absurd (h refl)
  answer_chunk r (b ∷ bs) h = refl

  -- what some reads give, and one behind them that gives nothing
  unfoldable pub answers : R → List Read → List ℕ
  answers r [] = answer_text r []
  answers r (c ∷ cs) = answer_text r (bytes c) ++ answers (fed_all fed r (bytes c)) cs

  answers_none : (r : R) → ending r ≡ written_all fed written r [] ++ ending (fed_all fed r [])
  unfolding written_all fed_all
  answers_none r = refl

  pub answers_joined : (r : R) (reads : List Read) → answers r reads ≡ written_all fed written r (input_of reads) ++ ending (fed_all fed r (input_of reads))
  unfolding answers answer_text input_of
  answers_joined r [] = answers_none r
  answers_joined r (c ∷ cs) = rw (answers_joined (fed_all fed r (bytes c)) cs, written_append fed written r (bytes c) (input_of cs), fed_append fed r (bytes c) (input_of cs), append_assoc)

  -- a program's turn from r: there were some bytes, `next` is where they leave the machine, as much was sent as they give, and there may be more just where
  -- there were any; one that failed says no more than where it stopped
  pub record Took (r next : R) (sent : ℕ) (more failed : Bool) : Type 0 where
    pub chunk : List ℕ
    pub follows : next ≡ fed_all fed r chunk
    pub all_sent : failed ≡ false → sent ≡ length (answer_text r chunk)
    pub goes_on : failed ≡ false → more ≡ ltb 0 (length chunk)
