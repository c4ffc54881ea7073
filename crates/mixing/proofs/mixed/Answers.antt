-- The products and the sums fit, so each is what the machine reads; the library's clamp is the definition's.
use native.Mathlib.Omega.{arith}
use mathlib.Core.Path.{◌≡◌, sym, ap, ◌∙◌}
use Prim.Native.Nat.{◌≤◌, ◌<◌}
use lib.IntN.{ℤ, pos, negsuc, nat_abs, ◌+ℤ◌, ◌*ℤ◌}
use lib.Signed.{shr_z, mag}
use mir.Syntax.{w16, w32}
use mir.Val.{SFits, to_z, of_z}
use mir.ValLaws.{to_z-of_z}
use borrow.Author.Rules.{rules}
use Rattle.fixed.specs.Fixed as Fixed
use Rattle.fixed.specs.Abs.{abs_add}
use Rattle.fixed.specs.Clips.{clamped}
use Rattle.fixed.specs.Machine.{back, sfits_abs, shr_sfits}
use Rattle.fixed.specs.Wrap.{acc_fits}
use Rattle.half.specs.Core as Spec
use Rattle.mixing.proofs.Mixing.{product_le, product2_le, halved_le, mixed_is}
use Rattle.mixing.proofs.mixed.Goals as goal
use Rattle.mixing.proofs.mixed.Goals.{After-from-4, After-fold_narrow, After-fold_narrow-v}

-- what a widened number reads as
wide : (z r : ℤ) → SFits w16 z → mag r < 2147483648 → r ≡ to_z w16 (of_z w16 z) → to_z w32 (of_z w32 r) ≡ z
wide z r f t e = back w32 r t ∙ e ∙ to_z-of_z w16 z f

-- the two products
module _ (s : goal.After-from-4) where
  abbrev p : ℤ
  p = s.args.a *ℤ s.args.pitch_gain

  abbrev q : ℤ
  q = s.args.c *ℤ s.args.code_gain

  p_le : nat_abs p ≤ 1073741824
  p_le = product_le s.args.pitch_gain s.args.code_gain s.args.a s.args.c s.ranges.pitch_gain s.ranges.code_gain s.ranges.a s.ranges.c

  q_le : nat_abs q ≤ 1073741824
  q_le = product2_le s.args.pitch_gain s.args.code_gain s.args.a s.args.c s.ranges.pitch_gain s.ranges.code_gain s.ranges.a s.ranges.c

  p_fits : SFits w32 p
  p_fits = sfits_abs w32 p (omega (arith, p_le))

  q_fits : SFits w32 q
  q_fits = sfits_abs w32 q (omega (arith, q_le))

  half_is : to_z w32 (of_z w32 (shr_z (to_z w32 (of_z w32 (to_z w32 (of_z w32 s.from.result) *ℤ to_z w32 (of_z w32 s.from-2.result)))) 2)) ≡ shr_z p 2
  half_is =
      rw (wide s.args.a s.from.result s.ranges.a s.from.type_inv s.from.ensures, wide s.args.pitch_gain s.from-2.result s.ranges.pitch_gain s.from-2.type_inv s.from-2.ensures, to_z-of_z w32 p p_fits)
      (to_z-of_z w32 (shr_z p 2) (shr_sfits w32 p 2 p_fits))

  second_is : to_z w32 (of_z w32 (to_z w32 (of_z w32 s.from-3.result) *ℤ to_z w32 (of_z w32 s.from-4.result))) ≡ q
  second_is =
      rw (wide s.args.c s.from-3.result s.ranges.c s.from-3.type_inv s.from-3.ensures, wide s.args.code_gain s.from-4.result s.ranges.code_gain s.from-4.type_inv s.from-4.ensures)
      (to_z-of_z w32 q q_fits)

  abbrev sum : ℤ
  sum = shr_z p 2 +ℤ q

  sum_le : nat_abs sum ≤ 1610612736
  sum_le = halved_le p q p_le q_le

pub fold_narrow-requires : goal.fold_narrow-requires
fold_narrow-requires c = rw (half_is c, second_is c) (omega (arith, sum_le c))

sum_is : (c : goal.After-fold_narrow) → to_z w32 (of_z w32 c.fold_narrow.result) ≡ sum c.before
unfolding Fixed.fold
sum_is c =
    back w32 c.fold_narrow.result c.fold_narrow.type_inv ∙ c.fold_narrow.ensures ∙ (λ i. Fixed.fold (half_is c.before i) (second_is c.before i))
    ∙ acc_fits (sum c.before) (omega (arith, sum_le c.before))

pub fold_narrow-v-requires : goal.fold_narrow-v-requires
fold_narrow-v-requires c = rw (sum_is c) (omega (arith, sum_le c.before, abs_add (sum c.before) (pos 4096)))

-- the sum without its low bits, which is saturated
module _ (c : goal.After-fold_narrow-v) where
  abbrev s : goal.After-from-4
  s = c.before.before

  abbrev v : ℤ
  v = shr_z (sum s +ℤ pos 4096) 8192

  rounded_le : nat_abs (sum s +ℤ pos 4096) ≤ 1610616832
  rounded_le = omega (arith, sum_le s, abs_add (sum s) (pos 4096))

  v_is : to_z w32 (of_z w32 (shr_z (to_z w32 (of_z w32 c.fold_narrow-v.result)) 8192)) ≡ v
  unfolding Fixed.fold
  v_is =
      let f = c.fold_narrow-v in
      let e : to_z w32 (of_z w32 f.result) ≡ sum s +ℤ pos 4096 =
      back w32 f.result f.type_inv ∙ f.ensures ∙ ap (λ (z : ℤ). Fixed.fold z (pos 4096)) (sum_is c.before) ∙ acc_fits (sum s +ℤ pos 4096) (omega (arith, rounded_le)) in
      rw e (to_z-of_z w32 v (shr_sfits w32 (sum s +ℤ pos 4096) 8192 (sfits_abs w32 _ (omega (arith, rounded_le)))))

  is : Spec.mixed s.args.pitch_gain s.args.code_gain s.args.a s.args.c ≡ Fixed.clamp (negsuc 32767) (pos 32767) v
  is = mixed_is s.args.pitch_gain s.args.code_gain s.args.a s.args.c s.ranges.pitch_gain s.ranges.code_gain s.ranges.a s.ranges.c

pub returns : goal.returns
returns c =
    let r = c.clamp.result in
    let f : SFits w16 (to_z w32 (of_z w32 r)) = search rules in
    to_z-of_z w16 _ f ∙ back w32 r c.clamp.type_inv ∙ rw (v_is c.before) at c.clamp.ensures.value ∙ clamped 32767 32767 (v c.before) ∙ sym (is c.before)
