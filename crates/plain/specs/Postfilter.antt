-- The accumulator wraps nowhere in postfilter.rs: of 16-bit samples and words a section and the final scaling are the same with plain sums. The cut of the memory to 32 bits stays.
use Rattle.std.proofs.Common.{arith, ◌∙◌}
use Rattle.std.specs.Prelude.{◌≡◌, ℕ, ◌+◌, ◌^◌, ◌≤◌, ◌<◌, neg_ℤ, ◌+ℤ◌, ◌*ℤ◌}
use Rattle.std.proofs.Math.Path.{ap}
use Rattle.std.proofs.Math.IntN.{ℤ, pos, nat_abs}
use Rattle.sequence.specs.Total.{total, total_same}
use Rattle.fixed.specs.Fixed.{fold, sat, hi, trunc32, mul, mul32x16, shift}
use Rattle.fixed.specs.Abs.{abs_neg, abs_mul_le}
use Rattle.fixed.specs.Products.{abs_mul32x16}
use Rattle.fixed.specs.Wrap.{acc_fits}
use Rattle.fixed.specs.Sums.{fold_fits, sum_fits, plain_le}
use Rattle.plain.specs.Sums.{Short, AllShort, short_mul, shift_fits}
use Rattle.output_filter.specs.declared.OutputFilter.{OutputFilter}
use Rattle.output_filter.specs.declared.Taps.{Taps}
use Rattle.output_filter.specs.Postfilter.{at, inputs, back, section_sum, rounded, filter_section, scaled}

-- ---- the same with plain sums
unfoldable pub plain_inputs : Taps → OutputFilter → ℕ → ℤ → ℤ
plain_inputs taps filter s value = total ◌+ℤ◌ (mul value (at taps.ff 0)) (λ k. mul (at filter.fir (s + k)) (at taps.ff (k + 1))) 3

abbrev pub plain_back : ℤ → ℤ → ℤ
plain_back x tap = neg_ℤ (mul32x16 x tap *ℤ pos 2)

unfoldable pub plain_sum : Taps → OutputFilter → ℕ → ℤ → ℤ
plain_sum taps filter s value = total ◌+ℤ◌ (plain_inputs taps filter s value) (λ k. plain_back (at filter.iir (s + k)) (at taps.fb k)) 3

-- a sum times m, rounded and saturated
abbrev pub plain_rounded : ℤ → ℕ → ℤ
plain_rounded sum m = hi (sat (sum *ℤ pos m +ℤ pos 32768))

-- ---- and that they are
twice : (x tap : ℤ) → Short tap → nat_abs (mul32x16 x tap *ℤ pos 2) ≤ 4294967296
twice x tap h = abs_mul_le (mul32x16 x tap) (pos 2) 2147483648 2 (abs_mul32x16 x tap h) (omega arith)

back_plain : (x tap : ℤ) → Short tap → back x tap ≡ plain_back x tap
unfolding back
back_plain x tap h = ap neg_ℤ (shift_fits (mul32x16 x tap) 1 (omega arith) (omega (arith, twice x tap h)))

rounded_plain : (sum : ℤ) (s : ℕ) → s < 3 → nat_abs (sum *ℤ pos (2 ^ s)) ≤ 85899345920 → rounded sum (pos s) ≡ plain_rounded sum (2 ^ s)
unfolding rounded
rounded_plain sum s h b =
    ap (λ (z : ℤ). hi (sat (fold z (pos 32768)))) (shift_fits sum s (omega arith) (omega arith))
    ∙ ap (λ (z : ℤ). hi (sat z)) (fold_fits (sum *ℤ pos (2 ^ s)) (pos 32768) (omega arith))

module _ (taps : Taps) (filter : OutputFilter) (s : ℕ) (value : ℤ) (f : AllShort taps.ff) (b : AllShort taps.fb) (d : AllShort filter.fir) (v : Short value) where
  abbrev forward : ℕ → ℤ
  forward k = mul (at filter.fir (s + k)) (at taps.ff (k + 1))

  forward_small : (k : ℕ) → nat_abs (forward k) ≤ 2147483648
  forward_small k = short_mul _ _ (d (s + k)) (f (k + 1))

  inputs_plain : inputs taps filter s value ≡ plain_inputs taps filter s value
  unfolding inputs plain_inputs
  inputs_plain =
      ap (λ (z : ℤ). total fold z forward 3) (acc_fits (mul value (at taps.ff 0)) (omega (arith, short_mul value (at taps.ff 0) v (f 0))))
      ∙ sum_fits (mul value (at taps.ff 0)) forward 2147483648 forward_small 3 (omega (arith, short_mul value (at taps.ff 0) v (f 0)))

  inputs_le : nat_abs (plain_inputs taps filter s value) ≤ 8589934592
  unfolding plain_inputs
  inputs_le = omega (arith, plain_le (mul value (at taps.ff 0)) forward 2147483648 forward_small 3, short_mul value (at taps.ff 0) v (f 0))

  abbrev backward : ℕ → ℤ
  backward k = plain_back (at filter.iir (s + k)) (at taps.fb k)

  backward_small : (k : ℕ) → nat_abs (backward k) ≤ 4294967296
  backward_small k = omega (arith, abs_neg (mul32x16 (at filter.iir (s + k)) (at taps.fb k) *ℤ pos 2), twice (at filter.iir (s + k)) (at taps.fb k) (b k))

  pub sum_plain : section_sum taps filter s value ≡ plain_sum taps filter s value
  unfolding section_sum plain_sum
  sum_plain =
      total_same fold (inputs taps filter s value) (λ (k : ℕ). back (at filter.iir (s + k)) (at taps.fb k)) backward 3 (λ k h. back_plain (at filter.iir (s + k)) (at taps.fb k) (b k))
      ∙ ap (λ (z : ℤ). total fold z backward 3) inputs_plain
      ∙ sum_fits (plain_inputs taps filter s value) backward 4294967296 backward_small 3 (omega (arith, inputs_le))

  sum_le : nat_abs (plain_sum taps filter s value) ≤ 21474836480
  unfolding plain_sum
  sum_le = omega (arith, plain_le (plain_inputs taps filter s value) backward 4294967296 backward_small 3, inputs_le)

  -- a section's output, and what its delay line takes in
  pub section_plain : ((filter_section taps filter s value).value ≡ plain_rounded (plain_sum taps filter s value) 4) × ((filter_section taps filter s value).memory ≡ trunc32 (plain_sum taps filter s value *ℤ pos 2))
  unfolding filter_section
  section_plain =
      let z : ℤ = plain_sum taps filter s value in
      let four : nat_abs (z *ℤ pos 4) ≤ 85899345920 = abs_mul_le z (pos 4) 21474836480 4 sum_le (omega arith) in
      let two : nat_abs (z *ℤ pos 2) ≤ 42949672960 = abs_mul_le z (pos 2) 21474836480 2 sum_le (omega arith) in
      let r : rounded z (pos 2) ≡ plain_rounded z 4 = rounded_plain z 2 (omega arith) four in
      let m : shift z (pos 1) ≡ z *ℤ pos 2 = shift_fits z 1 (omega arith) (omega arith) in
      (ap (λ (x : ℤ). rounded x (pos 2)) sum_plain ∙ r, ap (λ (x : ℤ). trunc32 (shift x (pos 1))) sum_plain ∙ ap (λ (x : ℤ). trunc32 x) m)

pub scaled_plain : (value : ℤ) → Short value → scaled value ≡ plain_rounded (mul value (pos 19661)) 2
unfolding scaled
scaled_plain value v =
    let b : nat_abs (mul value (pos 19661)) ≤ 2147483648 = short_mul value (pos 19661) v (omega arith) in
    let t : nat_abs (mul value (pos 19661) *ℤ pos 2) ≤ 4294967296 = abs_mul_le (mul value (pos 19661)) (pos 2) 2147483648 2 b (omega arith) in
    ap (λ (z : ℤ). rounded z (pos 1)) (acc_fits (mul value (pos 19661)) (omega arith)) ∙ rounded_plain (mul value (pos 19661)) 1 (omega arith) (omega arith)
