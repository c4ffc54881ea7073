-- A mixed sample in 32 bits: the accumulator wraps nowhere, and its two lowest bits and the odd one of the predicted product are not seen.
use native.Mathlib.Omega.{arith}
use mathlib.Core.Bool.{Bool, true, false, cond}
use mathlib.Core.List.{List}
use mathlib.Core.Path.{◌≡◌, refl, ap, sym, ◌∙◌}
use Prim.Native.Nat.{ℕ, ◌+◌, ◌*◌, ◌/◌, ◌≤◌, ◌<◌}
use native.Mathlib.Nat.{le_refl, div-div-eq-div-mul}
use lib.Dec.{ltb}
use lib.IntN.{ℤ, pos, negsuc, nat_abs, ◌+ℤ◌, ◌*ℤ◌, +ℤ_comm, +ℤ_assoc}
use lib.ListN.{length, get_or, take, drop}
use lib.Seq.{get_or-take, get_or-drop}
use lib.Signed.{shr_z}
use mir.Syntax.{w16}
use mir.Val.{SFits}
use borrow.Author.Tests.{lt-ltb, le-ltb, ltb-true, ltb-false}
use Rattle.sequence.specs.Count.{count_same}
use Rattle.sequence.specs.Rewritten.{get_or_rewritten_later}
use Rattle.fixed.specs.Fixed.{residue, signed, wrap, acc, clamp, fold, sat, clips, hi, mul, shift}
use Rattle.fixed.specs.Abs.{abs_add, abs_mul_le, abs_shr_by}
use Rattle.fixed.specs.Clips.{ends}
use Rattle.fixed.specs.Integers.{mul_add, mul_mul}
use Rattle.fixed.specs.Machine.{abs_sfits}
use Rattle.fixed.specs.Quotients.{shr_add, shr_scale}
use Rattle.fixed.specs.Shifts.{shift_up}
use Rattle.fixed.specs.Wrap.{REACH, wrap_add, wrap_add_right, wrap_mul, wrap_id, acc_fits}
use Rattle.pitch.specs.Unclipped.{none_clipped}
use Rattle.half.specs.Core as Spec

-- ---- the high half of what is saturated to 32 bits is the number's, saturated to 16
tops : (hi (pos 2147483647) ≡ pos 32767) × (hi (negsuc 2147483647) ≡ negsuc 32767)
unfolding wrap signed residue
tops = (refl, refl)

hi_sat : (z : ℤ) → hi (sat z) ≡ clamp (negsuc 32767) (pos 32767) (shr_z z 65536)
unfolding clamp
hi_sat (pos n) = go (ltb 2147483647 n) refl
  where
    go : (t : Bool) → ltb 2147483647 n ≡ t → hi (cond t (pos 2147483647) (pos n)) ≡ cond (ltb 32767 (n / 65536)) (pos 32767) (pos (n / 65536))
    go true e = let g : ltb 32767 (n / 65536) ≡ true = lt-ltb 32767 (n / 65536) (omega (arith, ltb-true 2147483647 n e)) in simp g tops.0
    go false e =
        let l = ltb-false 2147483647 n e in
        let g : ltb 32767 (n / 65536) ≡ false = le-ltb 32767 (n / 65536) (omega arith) in
        simp g (wrap_id 15 (pos (n / 65536)) (omega arith))
hi_sat (negsuc n) = go (ltb 2147483647 n) refl
  where
    go : (t : Bool) → ltb 2147483647 n ≡ t → hi (cond t (negsuc 2147483647) (negsuc n)) ≡ cond (ltb 32767 (n / 65536)) (negsuc 32767) (negsuc (n / 65536))
    go true e = let g : ltb 32767 (n / 65536) ≡ true = lt-ltb 32767 (n / 65536) (omega (arith, ltb-true 2147483647 n e)) in simp g tops.1
    go false e =
        let l = ltb-false 2147483647 n e in
        let g : ltb 32767 (n / 65536) ≡ false = le-ltb 32767 (n / 65536) (omega arith) in
        simp g (wrap_id 15 (negsuc (n / 65536)) (omega arith))

shr_shr : (z : ℤ) (m n : ℕ) → shr_z (shr_z z m) n ≡ shr_z z (m * n)
shr_shr (pos a) m n = ap pos (div-div-eq-div-mul a m n)
shr_shr (negsuc a) m n = ap negsuc (div-div-eq-div-mul a m n)

-- ---- of the two products: what is saturated, as a plain sum, and the sum of 32 bits
module _ (p q : ℤ) where
  abbrev plain : ℤ
  plain = (p *ℤ pos 2 +ℤ q *ℤ pos 2 *ℤ pos 2) *ℤ pos 2 +ℤ pos 32768

  -- half the first product, and the second
  abbrev halved : ℤ
  halved = shr_z p 2 +ℤ q

  fours : plain ≡ ((q +ℤ pos 4096) *ℤ pos 2 +ℤ p) *ℤ pos 4
  fours =
      ap (λ (z : ℤ). z +ℤ pos 32768) (mul_add (p *ℤ pos 2) (q *ℤ pos 2 *ℤ pos 2) (pos 2) ∙ (λ i. mul_mul p (pos 2) (pos 2) i +ℤ (ap (λ (z : ℤ). z *ℤ pos 2) (mul_mul q (pos 2) (pos 2)) ∙ mul_mul q (pos 4) (pos 2)) i))
      ∙ +ℤ_assoc (p *ℤ pos 4) (q *ℤ pos 8) (pos 32768)
      ∙ +ℤ_comm (p *ℤ pos 4) (q *ℤ pos 8 +ℤ pos 32768)
      ∙ ap (λ (z : ℤ). z +ℤ p *ℤ pos 4) (sym (mul_add q (pos 4096) (pos 8)) ∙ sym (mul_mul (q +ℤ pos 4096) (pos 2) (pos 4)))
      ∙ sym (mul_add ((q +ℤ pos 4096) *ℤ pos 2) p (pos 4))

  high : shr_z plain 65536 ≡ shr_z (halved +ℤ pos 4096) 8192
  high =
      let w : ℤ = (q +ℤ pos 4096) *ℤ pos 2 +ℤ p in
      ap (λ (z : ℤ). shr_z z 65536) fours
      ∙ shr_scale w 16384 4 (omega arith) (omega arith)
      ∙ sym (shr_shr w 2 8192)
      ∙ ap (λ (z : ℤ). shr_z z 8192) (shr_add (q +ℤ pos 4096) p 2 (omega arith) ∙ +ℤ_comm (q +ℤ pos 4096) (shr_z p 2) ∙ sym (+ℤ_assoc (shr_z p 2) q (pos 4096)))

  -- both at most 2 ^ 30
  module _ (f : nat_abs p ≤ 1073741824) (g : nat_abs q ≤ 1073741824) where
    pub halved_le : nat_abs halved ≤ 1610612736
    halved_le = omega (arith, abs_shr_by p 2 536870912 (omega arith) (omega arith), abs_add (shr_z p 2) q)

    plain_le : nat_abs plain < REACH
    plain_le =
        let a : nat_abs (p *ℤ pos 2) ≤ 2147483648 = abs_mul_le p (pos 2) 1073741824 2 f (omega arith) in
        let b : nat_abs (q *ℤ pos 2) ≤ 2147483648 = abs_mul_le q (pos 2) 1073741824 2 g (omega arith) in
        let d : nat_abs (q *ℤ pos 2 *ℤ pos 2) ≤ 4294967296 = abs_mul_le (q *ℤ pos 2) (pos 2) 2147483648 2 b (omega arith) in
        let s : ℤ = p *ℤ pos 2 +ℤ q *ℤ pos 2 *ℤ pos 2 in
        let e : nat_abs s ≤ 6442450944 = omega (arith, abs_add (p *ℤ pos 2) (q *ℤ pos 2 *ℤ pos 2)) in
        let h : nat_abs (s *ℤ pos 2) ≤ 12884901888 = abs_mul_le s (pos 2) 6442450944 2 e (omega arith) in
        omega (arith, abs_add (s *ℤ pos 2) (pos 32768))

    whole : fold (shift (fold (p *ℤ pos 2) (shift (q *ℤ pos 2) (pos 1))) (pos 1)) (pos 32768) ≡ plain
    unfolding fold
    whole =
        let up : (z : ℤ) → shift z (pos 1) ≡ acc (z *ℤ pos 2) = λ z. shift_up z 1 (omega arith) in
        let s : ℤ = p *ℤ pos 2 +ℤ q *ℤ pos 2 *ℤ pos 2 in
        ap (λ (z : ℤ). acc (shift (acc (p *ℤ pos 2 +ℤ z)) (pos 1) +ℤ pos 32768)) (up (q *ℤ pos 2))
        ∙ ap (λ (z : ℤ). acc (shift z (pos 1) +ℤ pos 32768)) (wrap_add_right 40 (p *ℤ pos 2) (q *ℤ pos 2 *ℤ pos 2))
        ∙ ap (λ (z : ℤ). acc (z +ℤ pos 32768)) (up (acc s) ∙ wrap_mul 40 2 s)
        ∙ wrap_add 40 (s *ℤ pos 2) (pos 32768)
        ∙ acc_fits plain plain_le

-- ---- a sample
module _ (pitch_gain_of code_gain_of a c : ℤ) (f : SFits w16 pitch_gain_of) (g : SFits w16 code_gain_of) (h : SFits w16 a) (k : SFits w16 c) where
  pub product_le : nat_abs (a *ℤ pitch_gain_of) ≤ 1073741824
  product_le = abs_mul_le a pitch_gain_of 32768 32768 (abs_sfits w16 a h) (abs_sfits w16 pitch_gain_of f)

  pub product2_le : nat_abs (c *ℤ code_gain_of) ≤ 1073741824
  product2_le = abs_mul_le c code_gain_of 32768 32768 (abs_sfits w16 c k) (abs_sfits w16 code_gain_of g)

  pub mixed_is : Spec.mixed pitch_gain_of code_gain_of a c ≡ clamp (negsuc 32767) (pos 32767) (shr_z (shr_z (a *ℤ pitch_gain_of) 2 +ℤ c *ℤ code_gain_of +ℤ pos 4096) 8192)
  unfolding Spec.mixed mul
  mixed_is =
      let p : ℤ = a *ℤ pitch_gain_of in
      let q : ℤ = c *ℤ code_gain_of in
      ap (λ (z : ℤ). hi (sat z)) (whole p q product_le product2_le) ∙ hi_sat (plain p q) ∙ ap (clamp (negsuc 32767) (pos 32767)) (high p q)

-- ---- how many are clipped
module _ (pitch_gain_of code_gain_of : ℤ) (innovation : List ℤ) (start : ℕ) (exc : List ℤ) where
  -- the sum of sample k of a list
  abbrev sum : ℕ → List ℤ → ℤ
  sum k x = Spec.mixed_sum pitch_gain_of code_gain_of (get_or x (start + k) (pos 0)) (get_or innovation k (pos 0))

  -- none where no mixed sample is at an end
  pub none_mixed : start + 80 ≤ length exc → ends (take 80 (drop start (Spec.mix pitch_gain_of code_gain_of innovation start exc))) ≡ 0 → Spec.mix_clipped pitch_gain_of code_gain_of innovation start exc ≡ 0
  unfolding Spec.mix Spec.mix_clipped
  none_mixed h e =
      let g : ℕ → List ℤ → ℤ = Spec.mixed_at pitch_gain_of code_gain_of innovation start in
      count_same _ _ 80 (λ k p. ap (λ (z : ℤ). clips (Spec.mixed_sum pitch_gain_of code_gain_of z (get_or innovation k (pos 0)))) (sym (get_or_rewritten_later g start exc k (start + k) (pos 0) (le_refl (start + k)))))
      ∙ none_clipped g sum (λ k x. Spec.mixed_sum_lem pitch_gain_of code_gain_of _ _) start exc 80 h e

  -- as many as of the predicted samples by themselves
  pub part_clipped : Spec.mix_clipped pitch_gain_of code_gain_of innovation 0 (Spec.part exc start) ≡ Spec.mix_clipped pitch_gain_of code_gain_of innovation start exc
  unfolding Spec.mix_clipped Spec.part
  part_clipped =
      count_same _ _ 80
      (λ k p. ap (λ (z : ℤ). clips (Spec.mixed_sum pitch_gain_of code_gain_of z (get_or innovation k (pos 0)))) (get_or-take 80 (drop start exc) (0 + k) (pos 0) (omega arith) ∙ get_or-drop start exc (0 + k) (pos 0) ∙ ap (λ (i : ℕ). get_or exc (start + i) (pos 0)) (omega arith)))
