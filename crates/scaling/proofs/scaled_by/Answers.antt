-- The product of two 16-bit numbers, and the sum, are within 32 bits.
use native.Mathlib.Omega.{arith}
use mathlib.Core.Path.{◌≡◌, ◌∙◌, ap}
use Prim.Native.Nat.{◌≤◌}
use lib.IntN.{ℤ, pos, nat_abs, ◌+ℤ◌, ◌*ℤ◌}
use lib.Signed.{shr_z}
use mir.Syntax.{w16, w32}
use mir.Val.{SFits}
use mir.ValLaws.{to_z-of_z}
use Rattle.fixed.specs.Abs.{abs_add, abs_mul_le}
use Rattle.fixed.specs.Sums.{fold_fits}
use Rattle.fixed.specs.Machine.{back, sfits_abs, abs_sfits, shr_sfits, widens_to, widened_to}
use Rattle.output_filter.specs.Sections as Sections
use Rattle.scaling.proofs.scaled_by.Goals as goal
use Rattle.scaling.proofs.scaled_by.Goals.{Start}

module _ (s : goal.Start) where
  abbrev p : ℤ
  p = s.args.value *ℤ s.args.scale

  product_le : nat_abs p ≤ 1073741824
  product_le = abs_mul_le s.args.value s.args.scale 32768 32768 (abs_sfits w16 s.args.value s.ranges.value) (abs_sfits w16 s.args.scale s.ranges.scale)

  product_fits : SFits w32 p
  product_fits = sfits_abs w32 p (omega (arith, product_le))

pub overflow_cast-value : goal.overflow_cast-value
overflow_cast-value c = widens_to w32 tt c.ranges.value

pub overflow_cast-scale : goal.overflow_cast-scale
overflow_cast-scale c = widens_to w32 tt c.ranges.scale

pub overflow_mul-value : goal.overflow_mul-value
overflow_mul-value c = simp (widened_to w32 tt c.ranges.value, widened_to w32 tt c.ranges.scale) (product_fits c)

pub fold_narrow-requires : goal.fold_narrow-requires
fold_narrow-requires c =
    simp (widened_to w32 tt c.ranges.value, widened_to w32 tt c.ranges.scale, to_z-of_z w32 _ (product_fits c)) (omega (arith, abs_add (p c) (pos 8192), product_le c))

pub returns : goal.returns
unfolding Sections.scaled_by
returns c =
    let s = c.before in
    let f = c.fold_narrow in
    let e : f.result ≡ p s +ℤ pos 8192 = simp (widened_to w32 tt s.ranges.value, widened_to w32 tt s.ranges.scale, to_z-of_z w32 _ (product_fits s)) at f.ensures ∙ fold_fits (p s) (pos 8192) (omega (arith, product_le s)) in
    let w : SFits w32 f.result = record { sfits = f.type_inv } in
    simp (back w32 f.result f.type_inv, to_z-of_z w32 _ (shr_sfits w32 f.result 16384 w)) (ap (λ (z : ℤ). shr_z z 16384) e)
