-- The search for the class from 5 down: the test at k is that of `first` at 5 - k.
use Prim.Native.Nat.{ℕ, ◌+◌, ◌-◌, ◌≤◌, ◌<◌}
use mathlib.Core.Path.{◌≡◌, refl, sym, ap, ◌∙◌}
use mathlib.Core.List.{List}
use mathlib.Core.Bool.{Bool, true, false}
use native.Mathlib.Omega.{arith}
use lib.Dec.{leb}
use lib.IntN.{ℤ}
use borrow.Author.Tests.{le-leb, lt-leb}
use Rattle.sequence.specs.First.{first, first_from, first_more, first_found}
use Rattle.tables.specs.Tables.{base}
use Rattle.code_index.specs.Codebook.{class_of}

module _ (words : List ℤ) (index : ℕ) where
  abbrev reached : ℕ → Bool
  reached k = leb (base words (5 - k)) index

  -- no class above k was reached
  abbrev pub Above : ℕ → Type 0
  Above k = (k ≤ 5) × (first reached 6 ≡ first_from reached (5 - k) (6 - (5 - k)))

  pub above_none : Above 5
  above_none = (omega arith, refl)

  pub above_more : (k : ℕ) → 1 ≤ k → Above k → index < base words k → Above (k - 1)
  above_more k p a h =
      let e : 5 - (5 - k) ≡ k = omega arith in
      let f : 5 - k + 1 ≡ 5 - (k - 1) = omega arith in
      let t : reached (5 - k) ≡ false = lt-leb (base words (5 - (5 - k))) index (rw e h) in
      (omega arith, a.1 ∙ first_more reached (5 - k) 6 (omega arith) t ∙ ap (λ (n : ℕ). first_from reached n (6 - n)) f)

  pub above_found : (k : ℕ) → Above k → base words k ≤ index → k ≡ class_of words index
  unfolding class_of
  above_found k a h =
      let e : 5 - (5 - k) ≡ k = omega arith in
      let t : reached (5 - k) ≡ true = le-leb (base words (5 - (5 - k))) index (rw e h) in
      let q : first reached 6 ≡ 5 - k = a.1 ∙ first_found reached (5 - k) 6 (omega arith) t in
      sym (ap (λ (n : ℕ). 5 - n) q ∙ e)
