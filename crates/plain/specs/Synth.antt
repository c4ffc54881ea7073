-- The accumulator wraps nowhere in synth.rs: of 16-bit numbers an output is the same with plain sums.
use Rattle.std.proofs.Common.{arith, ◌∙◌}
use Rattle.std.specs.Prelude.{List, ◌≡◌, ℕ, ◌+◌, ◌-◌, ◌≤◌, ◌+ℤ◌, ◌*ℤ◌, get_or}
use Rattle.std.proofs.Math.Path.{ap}
use Rattle.std.proofs.Math.IntN.{ℤ, pos, nat_abs}
use Rattle.sequence.specs.Total.{total}
use Rattle.fixed.specs.Fixed.{fold, sat, hi, mul, shift}
use Rattle.fixed.specs.Abs.{abs_add, abs_neg, abs_mul_le}
use Rattle.fixed.specs.Sums.{fold_fits, sum_fits, plain_le}
use Rattle.plain.specs.Sums.{Short, AllShort, short_mul, shift_fits}
use Rattle.synth.specs.Synth.{term, prediction, sample}

-- the plain sum
unfoldable pub plain_prediction : List ℤ → List ℤ → ℤ
plain_prediction a h = total ◌+ℤ◌ (pos 0) (term a h) 10

module _ (a h : List ℤ) (p : AllShort a) (q : AllShort h) where
  term_small : (k : ℕ) → nat_abs (term a h k) ≤ 2147483648
  term_small k = omega (arith, abs_neg (mul (get_or a (k + 1) (pos 0)) (get_or h (9 - k) (pos 0))), short_mul (get_or a (k + 1) (pos 0)) (get_or h (9 - k) (pos 0)) (p (k + 1)) (q (9 - k)))

  prediction_le : nat_abs (plain_prediction a h) ≤ 21474836480
  unfolding plain_prediction
  prediction_le = omega (arith, plain_le (pos 0) (term a h) 2147483648 term_small 10)

  pub prediction_plain : prediction a h ≡ plain_prediction a h
  unfolding prediction plain_prediction
  prediction_plain = sum_fits (pos 0) (term a h) 2147483648 term_small 10 (omega arith)

  -- an output
  pub sample_plain : (x : ℤ) → Short x → sample a h x ≡ hi (sat (plain_prediction a h *ℤ pos 8 +ℤ (x *ℤ pos 65536 +ℤ pos 32768)))
  unfolding sample
  sample_plain x r =
      let s : ℤ = plain_prediction a h in
      let m : nat_abs (s *ℤ pos 8) ≤ 171798691840 = abs_mul_le s (pos 8) 21474836480 8 prediction_le (omega arith) in
      let b : nat_abs (x *ℤ pos 65536) ≤ 2147483648 = abs_mul_le x (pos 65536) 32768 65536 r (omega arith) in
      ap (λ (z : ℤ). hi (sat (fold (shift z (pos 3)) (x *ℤ pos 65536 +ℤ pos 32768)))) prediction_plain
      ∙ ap (λ (z : ℤ). hi (sat (fold z (x *ℤ pos 65536 +ℤ pos 32768)))) (shift_fits s 3 (omega arith) (omega arith))
      ∙ ap (λ (z : ℤ). hi (sat z)) (fold_fits (s *ℤ pos 8) (x *ℤ pos 65536 +ℤ pos 32768) (omega (arith, abs_add (x *ℤ pos 65536) (pos 32768))))
