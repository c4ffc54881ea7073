-- Steps of restoring division of a number below twice the divisor, which stands at bit 15: what is left is below it again, so that no step passes 32 bits.
use Rattle.std.proofs.Common.{arith, true≢false, ap, sym, ◌∙◌, ltb-true, ltb-false, SFits}
use Rattle.std.specs.Prelude.{Bool, true, false, cond, ◌≡◌, refl, ℕ, zero, suc, ◌+◌, ◌-◌, ◌*◌, ◌≤◌, ◌<◌, ltb, ℤ, pos, negsuc, nat_abs, ◌+ℤ◌, ◌-ℤ◌, ◌*ℤ◌}
use Rattle.std.proofs.Math.Dec.{leb-zero}
use Rattle.std.proofs.Math.IntN.{+ℤ_idr}
use Rattle.std.specs.Int.Signed.{le_z, lt_z}
use Rattle.std.specs.Int.{w16}
use Rattle.sequence.specs.Repeated.{repeated}
use Rattle.fixed.specs.Fixed.{acc, fold, restoring_step, restoring_divide}
use Rattle.fixed.specs.Integers.{sub_is, sub_below, sub_above}
use Rattle.fixed.specs.Wrap.{acc_fits}

pub record Below (num den : ℤ) : Type 0 where
  pub n : ℕ
  pub d : ℕ
  pub num_is : num ≡ pos n
  pub den_is : den ≡ pos d
  pub below : n < d * 65536
  pub small : d < 32768

-- what a step keeps of a number, from the difference, and the quotient's bit
abbrev pub kept : ℤ → ℤ → ℤ
kept num left = cond (le_z (pos 0) left) left num

abbrev pub bit : ℤ → ℤ
bit left = cond (le_z (pos 0) left) (pos 1) (pos 0)

-- a step is these two in the accumulator
pub step_by : (num den : ℤ) → fold (kept num (num -ℤ den *ℤ pos 32768) *ℤ pos 2) (bit (num -ℤ den *ℤ pos 32768)) ≡ restoring_step num den
unfolding restoring_step fold
step_by num den = go (le_z (pos 0) (num -ℤ den *ℤ pos 32768)) refl
  where
    alu : ℤ
    alu = num -ℤ den *ℤ pos 32768

    go : (t : Bool) → le_z (pos 0) alu ≡ t → acc (cond t alu num *ℤ pos 2 +ℤ cond t (pos 1) (pos 0)) ≡ cond t (acc (alu *ℤ pos 2 +ℤ pos 1)) (acc (num *ℤ pos 2))
    go true e = refl
    go false e = ap acc (+ℤ_idr (num *ℤ pos 2))

-- the difference, what is kept and the bit, of such a number
pub record Parts (n d : ℕ) : Type 0 where
  pub k : ℕ
  pub b : ℕ
  pub left_le : nat_abs (pos n -ℤ pos d *ℤ pos 32768) ≤ d * 32768
  pub kept_is : kept (pos n) (pos n -ℤ pos d *ℤ pos 32768) ≡ pos k
  pub bit_is : bit (pos n -ℤ pos d *ℤ pos 32768) ≡ pos b
  pub k_lt : k < d * 32768
  pub b_le : b ≤ 1

pub parts : (n d : ℕ) → n < d * 65536 → Parts n d
parts n d h = go (ltb n (d * 32768)) refl
  where
    go : (t : Bool) → ltb n (d * 32768) ≡ t → Parts n d
    go true t =
        let l : n < d * 32768 = ltb-true n (d * 32768) t in
        let e : pos n -ℤ pos d *ℤ pos 32768 ≡ negsuc (d * 32768 - suc n) = sub_is n (d * 32768) ∙ sub_below n (d * 32768) l in
        record { k = n; b = 0; left_le = rw e (omega arith); kept_is = rw e refl; bit_is = rw e refl; k_lt = l; b_le = omega arith }
    go false t =
        let l : d * 32768 ≤ n = ltb-false n (d * 32768) t in
        let e : pos n -ℤ pos d *ℤ pos 32768 ≡ pos (n - d * 32768) = sub_is n (d * 32768) ∙ sub_above n (d * 32768) l in
        record { k = n - d * 32768; b = 1; left_le = rw e (omega arith); kept_is = rw e (simp (leb-zero (n - d * 32768)) refl); bit_is = rw e (simp (leb-zero (n - d * 32768)) refl); k_lt = omega arith; b_le = omega arith }

step_is : (n d : ℕ) → d < 32768 → (p : Parts n d) → restoring_step (pos n) (pos d) ≡ pos (p.k * 2 + p.b)
unfolding fold
step_is n d s p =
    sym (step_by (pos n) (pos d))
    ∙ ap (λ (z : ℤ). fold (z *ℤ pos 2) (bit (pos n -ℤ pos d *ℤ pos 32768))) p.kept_is
    ∙ ap (λ (z : ℤ). fold (pos p.k *ℤ pos 2) z) p.bit_is
    ∙ acc_fits (pos (p.k * 2 + p.b)) (omega (arith, p.k_lt, p.b_le))

pub step_below : (num den : ℤ) → Below num den → Below (restoring_step num den) den
step_below num den w =
    let p : Parts w.n w.d = parts w.n w.d w.below in
    record {
      n = p.k * 2 + p.b;
      d = w.d;
      num_is = (λ i. restoring_step (w.num_is i) (w.den_is i)) ∙ step_is w.n w.d w.small p;
      den_is = w.den_is;
      below = omega (arith, p.k_lt, p.b_le);
      small = w.small;
    }

-- and so after any number of them
pub divide_below : (num den : ℤ) (k : ℕ) → Below num den → Below (restoring_divide num den k) den
unfolding restoring_divide repeated
divide_below num den zero w = w
divide_below num den (suc k) w = step_below (restoring_divide num den k) den (divide_below num den k w)

-- so it is with the reciprocal's numerator, by a size that is normalised
pub normalised : (size : ℤ) → SFits w16 size → lt_z size (pos 16384) ≡ false → Below (pos (16383 * 65536)) size
normalised (pos d) f t = record { n = 16383 * 65536; d = d; num_is = refl; den_is = refl; below = omega (arith, ltb-false d 16384 t); small = f.sfits }
normalised (negsuc d) f t = absurd (true≢false t)
