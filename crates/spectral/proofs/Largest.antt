-- The loop of `quantise_lsf`.
use mathlib.Core.Path.{◌≡◌, refl, sym, ap, ◌∙◌}
use mathlib.Core.List.{List}
use Prim.Native.Nat.{ℕ, suc, ◌+◌, ◌≤◌, ◌<◌, max}
use native.Mathlib.Numerals.{add-one}
use native.Mathlib.Omega.{arith}
use mathlib.Core.Bool.{Bool, true, false, cond}
use lib.IntN.{ℤ, pos}
use lib.Dec.{ltb}
use borrow.Author.Tests.{ltb-true, ltb-false}
use Rattle.std.specs.Int.{int_max}
use lib.ListN.{length, get_or, set}
use lib.Ieee.{Float, nan}
use Rattle.floats.specs.Floats.{quantise}
use Rattle.sequence.specs.Table.{Written, written_none, written_more, written_end}
use Rattle.sequence.specs.Total.{total_none, total_again}
use Rattle.spectral.specs.Spectral.{largest_of, quantise_lsf}

-- by place k all before it are written, and the prior is the largest of them
abbrev pub Running : List Float → List ℤ → ℤ → ℕ → Type 0
Running lsf out prior k = Written (λ i. pos (largest_of lsf (suc i))) 10 out k × (prior ≡ pos (largest_of lsf k))

pub running_none : (lsf : List Float) (out : List ℤ) → length out ≡ 10 → Running lsf out (pos 0) 0
unfolding largest_of
running_none lsf out h = (written_none _ 10 out h, ap pos (sym (total_none (λ prior x. max x prior) 0 (λ k. quantise 25682 (get_or lsf k nan)))))

-- the larger of two in ℤ
pos_max : (a b : ℕ) → int_max (pos a) (pos b) ≡ pos (max a b)
pos_max a b = go (ltb b a) (ltb-true b a) (ltb-false b a)
  where
    go : (t : Bool) → (t ≡ true → b < a) → (t ≡ false → a ≤ b) → cond t (pos a) (pos b) ≡ pos (max a b)
    go true y n = let h = y refl in let e : a ≡ max a b = omega arith in ap pos e
    go false y n = let h = n refl in let e : b ≡ max a b = omega arith in ap pos e

step : (lsf : List Float) (k : ℕ) → max (quantise 25682 (get_or lsf k nan)) (largest_of lsf k) ≡ largest_of lsf (suc k)
unfolding largest_of
step lsf k = total_again (λ prior x. max x prior) 0 (λ k. quantise 25682 (get_or lsf k nan)) k refl refl ∙ ap (largest_of lsf) (add-one k)

pub running_more : (lsf : List Float) (out : List ℤ) (prior q r : ℤ) (k : ℕ) → Running lsf out prior k → k < 10 → q ≡ pos (quantise 25682 (get_or lsf k nan)) → r ≡ int_max q prior → Running lsf (set out k r) r (k + 1)
running_more lsf out prior q r k i h f g =
    let e : r ≡ pos (largest_of lsf (suc k)) =
    g
    ∙ ap (int_max q) i.1
    ∙ ap (λ (z : ℤ). int_max z (pos (largest_of lsf k))) f
    ∙ pos_max (quantise 25682 (get_or lsf k nan)) (largest_of lsf k)
    ∙ ap pos (step lsf k) in
    (written_more _ 10 out k r i.0 h e, e ∙ ap (λ (n : ℕ). pos (largest_of lsf n)) (sym (add-one k)))

pub running_end : (lsf : List Float) (out : List ℤ) (prior : ℤ) (k : ℕ) → Running lsf out prior k → 10 ≤ k → out ≡ quantise_lsf lsf
unfolding quantise_lsf
running_end lsf out prior k i h = written_end _ 10 out k i.0 h
