-- What the set's number says of the two tests that it joins.
use Prim.Native.Nat.{ℕ}
use mathlib.Core.Path.{◌≡◌, refl}
use mathlib.Core.List.{List}
use mathlib.Core.Bool.{Bool, true, false, cond, ◌&&◌}
use native.Mathlib.Omega.{arith}
use lib.Dec.{eqb}
use lib.IntN.{ℤ}
use lib.ListN.{length}
use Rattle.sequence.specs.First.{some}
use Rattle.tables.specs.Places.{WORDS, BYTES}
use Rattle.tables.specs.Tables.{broken, check}

module _ (words : List ℤ) (bytes : List ℕ) where
  pub wrong_lengths : check words bytes ≡ 1 → (eqb (length words) WORDS && eqb (length bytes) BYTES) ≡ false
  unfolding check
  wrong_lengths e = by (eqb (length words) WORDS && eqb (length bytes) BYTES) (some (broken words bytes) 7) e
    where
      by : (a b : Bool) → ◌≡◌ {A = ℕ} (cond a (cond b 4 0) 1) 1 → a ≡ false
      by true true e = absurd (omega arith)
      by true false e = absurd (omega arith)
      by false b e = refl

  pub right_lengths : (n : ℕ) → n ≡ check words bytes → (n ≡ 1 → ⊥) → (eqb (length words) WORDS && eqb (length bytes) BYTES) ≡ true
  unfolding check
  right_lengths n e h = by (eqb (length words) WORDS && eqb (length bytes) BYTES) e
    where
      by : (a : Bool) → n ≡ cond a (cond (some (broken words bytes) 7) 4 0) 1 → a ≡ true
      by true e = refl
      by false e = absurd (h e)

  pub broken_rule : (n : ℕ) → n ≡ check words bytes → (n ≡ 1 → ⊥) → (n ≡ 0 → ⊥) → some (broken words bytes) 7 ≡ true
  unfolding check
  broken_rule n e h g = by (eqb (length words) WORDS && eqb (length bytes) BYTES) (some (broken words bytes) 7) e
    where
      by : (a b : Bool) → n ≡ cond a (cond b 4 0) 1 → b ≡ true
      by true true e = refl
      by true false e = absurd (g e)
      by false b e = absurd (h e)
