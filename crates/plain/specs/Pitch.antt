-- The accumulator wraps nowhere in pitch.rs: of 16-bit signals, taps and gains, prediction and sharpening are the same with plain sums. The cut to 32 bits in `mul32x16` and the one to 16 stay.
use Rattle.std.proofs.Common.{arith, ◌∙◌}
use Rattle.std.specs.Prelude.{List, ◌≡◌, ℕ, ◌+◌, ◌-◌, ◌≤◌, ◌<◌, ℤ, pos, nat_abs, ◌*ℤ◌, get_or}
use Rattle.std.proofs.Math.Path.{ap}
use Rattle.std.proofs.Math.IntN.{◌+ℤ◌}
use Rattle.sequence.specs.Total.{total}
use Rattle.fixed.specs.Fixed.{acc, fold, sat, hi, mul32x16, shift}
use Rattle.fixed.specs.Abs.{abs_add, abs_mul_le}
use Rattle.fixed.specs.Products.{abs_mul32x16}
use Rattle.fixed.specs.Wrap.{REACH, acc_fits}
use Rattle.fixed.specs.Sums.{fold_fits, sum_fits, plain_le}
use Rattle.plain.specs.Sums.{Short, AllShort, short_mul, shift_fits}
use Rattle.pitch.specs.Pitch.{before, after, interpolated_sample, predicted, mixed, sharpened}

-- the plain sum
unfoldable pub plain_sample : List ℤ → ℕ → List ℤ → ℕ → ℤ
plain_sample taps phase signal centre = total ◌+ℤ◌ (total ◌+ℤ◌ (pos 0) (before taps phase signal centre) 10) (after taps (3 - phase) signal centre) 10

module _ (taps signal : List ℤ) (p : AllShort taps) (q : AllShort signal) (phase centre : ℕ) where
  before_small : (k : ℕ) → nat_abs (before taps phase signal centre k) ≤ 2147483648
  unfolding before
  before_small k = short_mul _ _ (q _) (p _)

  after_small : (k : ℕ) → nat_abs (after taps (3 - phase) signal centre k) ≤ 2147483648
  unfolding after
  after_small k = short_mul _ _ (q _) (p _)

  half_le : nat_abs (total ◌+ℤ◌ (pos 0) (before taps phase signal centre) 10) ≤ 21474836480
  half_le = omega (arith, plain_le (pos 0) (before taps phase signal centre) 2147483648 before_small 10)

  pub sample_le : nat_abs (plain_sample taps phase signal centre) ≤ 42949672960
  unfolding plain_sample
  sample_le = omega (arith, half_le, plain_le (total ◌+ℤ◌ (pos 0) (before taps phase signal centre) 10) (after taps (3 - phase) signal centre) 2147483648 after_small 10)

  pub sample_plain : interpolated_sample taps phase signal centre ≡ plain_sample taps phase signal centre
  unfolding interpolated_sample plain_sample
  sample_plain =
      ap (λ (z : ℤ). total fold z (after taps (3 - phase) signal centre) 10) (sum_fits (pos 0) (before taps phase signal centre) 2147483648 before_small 10 (omega arith))
      ∙ sum_fits (total ◌+ℤ◌ (pos 0) (before taps phase signal centre) 10) (after taps (3 - phase) signal centre) 2147483648 after_small 10 (omega (arith, half_le))

-- a predicted sample
pub predicted_plain : (taps : List ℤ) (phase delay start n : ℕ) (exc : List ℤ) → AllShort taps → AllShort exc → predicted taps phase delay start n exc ≡ hi (sat (plain_sample taps phase exc (start + n - delay) +ℤ pos 32768))
unfolding predicted
predicted_plain taps phase delay start n exc p q =
    let c : ℕ = start + n - delay in
    ap (λ (z : ℤ). hi (sat (fold z (pos 32768)))) (sample_plain taps exc p q phase c)
    ∙ ap (λ (z : ℤ). hi (sat z)) (fold_fits (plain_sample taps phase exc c) (pos 32768) (omega (arith, sample_le taps exc p q phase c)))

-- a sharpened one
mixed_plain : (value gain x : ℤ) → nat_abs value < REACH → Short gain → Short x → mixed value gain x ≡ hi (mul32x16 value gain *ℤ pos 2 +ℤ x *ℤ pos 65536 +ℤ pos 32768)
unfolding mixed
mixed_plain value gain x v g h =
    let m : ℤ = mul32x16 value gain in
    let a : nat_abs (m *ℤ pos 2) ≤ 4294967296 = abs_mul_le m (pos 2) 2147483648 2 (abs_mul32x16 value gain g) (omega arith) in
    let b : nat_abs (x *ℤ pos 65536) ≤ 2147483648 = abs_mul_le x (pos 65536) 32768 65536 h (omega arith) in
    ap (λ (z : ℤ). hi (acc (shift (mul32x16 z gain) (pos 1) +ℤ x *ℤ pos 65536 +ℤ pos 32768))) (acc_fits value v)
    ∙ ap (λ (z : ℤ). hi (acc (z +ℤ x *ℤ pos 65536 +ℤ pos 32768))) (shift_fits m 1 (omega arith) (omega arith))
    ∙ ap (λ (z : ℤ). hi z) (acc_fits (m *ℤ pos 2 +ℤ x *ℤ pos 65536 +ℤ pos 32768) (omega (arith, abs_add (m *ℤ pos 2) (x *ℤ pos 65536), abs_add (m *ℤ pos 2 +ℤ x *ℤ pos 65536) (pos 32768))))

pub sharpened_plain : (taps : List ℤ) (phase first : ℕ) (gain : ℤ) (n : ℕ) (buf : List ℤ) → AllShort taps → AllShort buf → Short gain
    → sharpened taps phase first gain n buf ≡ hi (mul32x16 (plain_sample taps phase buf (11 + n)) gain *ℤ pos 2 +ℤ get_or buf (21 + first + n) (pos 0) *ℤ pos 65536 +ℤ pos 32768)
unfolding sharpened
sharpened_plain taps phase first gain n buf p q g =
    ap (λ (z : ℤ). mixed z gain (get_or buf (21 + first + n) (pos 0))) (sample_plain taps buf p q phase (11 + n))
    ∙ mixed_plain (plain_sample taps phase buf (11 + n)) gain (get_or buf (21 + first + n) (pos 0)) (omega (arith, sample_le taps buf p q phase (11 + n))) g (q _)
