-- The accumulator wraps nowhere in core.rs: of 16-bit numbers a mixed sample is the same with plain sums.
use Rattle.std.proofs.Common.{arith, ap, ◌∙◌}
use Rattle.std.specs.Prelude.{◌≡◌, ◌≤◌, ℤ, pos, nat_abs, ◌+ℤ◌, ◌*ℤ◌}
use Rattle.fixed.specs.Fixed.{fold, sat, hi, mul, shift}
use Rattle.fixed.specs.Abs.{abs_add, abs_mul_le}
use Rattle.fixed.specs.Sums.{fold_fits}
use Rattle.plain.specs.Sums.{Short, short_mul, shift_fits}
use Rattle.half.specs.Core.{mixed}

pub mixed_plain : (pitch_gain_of code_gain_of a c : ℤ) → Short pitch_gain_of → Short code_gain_of → Short a → Short c → mixed pitch_gain_of code_gain_of a c ≡ hi (sat ((mul a pitch_gain_of +ℤ mul c code_gain_of *ℤ pos 2) *ℤ pos 2 +ℤ pos 32768))
unfolding mixed
mixed_plain pitch_gain_of code_gain_of a c p q r s =
    let x : ℤ = mul a pitch_gain_of in
    let y : ℤ = mul c code_gain_of *ℤ pos 2 in
    let b : nat_abs x ≤ 2147483648 = short_mul a pitch_gain_of r p in
    let d : nat_abs y ≤ 4294967296 = abs_mul_le (mul c code_gain_of) (pos 2) 2147483648 2 (short_mul c code_gain_of s q) (omega arith) in
    let e : nat_abs ((x +ℤ y) *ℤ pos 2) ≤ 12884901888 = abs_mul_le (x +ℤ y) (pos 2) 6442450944 2 (omega (arith, abs_add x y)) (omega arith) in
    ap (λ (z : ℤ). hi (sat (fold (shift (fold x z) (pos 1)) (pos 32768)))) (shift_fits (mul c code_gain_of) 1 (omega arith) (omega arith))
    ∙ ap (λ (z : ℤ). hi (sat (fold (shift z (pos 1)) (pos 32768)))) (fold_fits x y (omega arith))
    ∙ ap (λ (z : ℤ). hi (sat (fold z (pos 32768)))) (shift_fits (x +ℤ y) 1 (omega arith) (omega arith))
    ∙ ap (λ (z : ℤ). hi (sat z)) (fold_fits ((x +ℤ y) *ℤ pos 2) (pos 32768) (omega arith))
