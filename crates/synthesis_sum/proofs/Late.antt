-- The last output's term may come in after the input.
use native.Mathlib.Omega.{arith}
use mathlib.Core.List.{List}
use mathlib.Core.Path.{◌≡◌, ap, sym, ◌∙◌}
use Prim.Native.Nat.{ℕ, ◌+◌}
use lib.IntN.{ℤ, pos, ◌+ℤ◌, ◌*ℤ◌}
use Rattle.sequence.specs.Total.{total}
use Rattle.fixed.specs.Fixed.{acc, fold, shift}
use Rattle.fixed.specs.Integers.{mul_add}
use Rattle.fixed.specs.Wrap.{wrap_mul}
use Rattle.fixed.specs.Shifts.{shift_up}
use Rattle.fixed.specs.Sums.{fold_acc, fold_acc_right, fold_swap, sum_first}
use Rattle.synth.specs.Synth.{term, prediction}

late : (s t y : ℤ) → fold (shift (fold s t) (pos 3)) y ≡ fold (fold (shift s (pos 3)) y) (shift t (pos 3))
unfolding fold
late s t y =
    let u : ℤ = s *ℤ pos 8 in
    let v : ℤ = t *ℤ pos 8 in
    let up : (z : ℤ) → shift z (pos 3) ≡ acc (z *ℤ pos 8) = λ z. shift_up z 3 (omega arith) in
    ap (λ (z : ℤ). fold z y) (up (fold s t) ∙ wrap_mul 40 8 (s +ℤ t) ∙ ap acc (mul_add s t (pos 8)))
    ∙ fold_swap u v y
    ∙ ap (λ (z : ℤ). fold z v) (sym (fold_acc u y))
    ∙ ap (λ (z : ℤ). fold (fold z y) v) (sym (up s))
    ∙ sym (fold_acc_right (fold (shift s (pos 3)) y) v)
    ∙ ap (fold (fold (shift s (pos 3)) y)) (sym (up t))

-- the prediction and the input, as a sample has them
pub late_prediction : (a h : List ℤ) (y : ℤ) → fold (shift (prediction a h) (pos 3)) y ≡ fold (fold (shift (total fold (pos 0) (λ (k : ℕ). term a h (k + 1)) 9) (pos 3)) y) (shift (term a h 0) (pos 3))
unfolding prediction
late_prediction a h y = ap (λ (z : ℤ). fold (shift z (pos 3)) y) (sum_first (pos 0) (term a h) 9) ∙ late (total fold (pos 0) (λ (k : ℕ). term a h (k + 1)) 9) (term a h 0) y
