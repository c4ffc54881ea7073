-- All that the step makes has 32 bits, by the number's parts; together they are the step.
use native.Mathlib.Omega.{arith}
use mathlib.Core.Bool.{Bool, true, false, cond}
use mathlib.Core.Path.{◌≡◌, refl, ◌∙◌, ap}
use Prim.Native.Nat.{◌≤◌}
use lib.IntN.{ℤ, pos, nat_abs, ◌+ℤ◌, ◌-ℤ◌, ◌*ℤ◌}
use mir.Syntax.{w16, w32}
use lib.Signed.{le_z}
use mir.Val.{SFits, to_z, of_z, bool_byte}
use mir.ValLaws.{to_z-of_z}
use Rattle.fixed.specs.Abs.{abs_mul_le}
use Rattle.fixed.specs.Machine.{abs_sfits, sfits_abs, widens_to, widened_to}
use Rattle.reciprocal.specs.Narrow.{Parts, parts, kept, bit, step_by}
use Rattle.reciprocal.proofs.narrow_step.Goals as goal
use Rattle.reciprocal.proofs.narrow_step.Goals.{After-from, After-kept, Start}

module _ (c : goal.Start) where
  abbrev num : ℤ
  num = c.args.num

  abbrev den : ℤ
  den = c.args.den

  abbrev left : ℤ
  left = num -ℤ den *ℤ pos 32768

  p : Parts c.requires.n c.requires.d
  p = parts c.requires.n c.requires.d c.requires.below

  d_fits : SFits w32 (den *ℤ pos 32768)
  d_fits = sfits_abs w32 _ (omega (arith, abs_mul_le den (pos 32768) 32768 32768 (abs_sfits w16 den c.ranges.den) (omega arith)))

  left_fits : SFits w32 left
  left_fits = sfits_abs w32 _ (omega (arith, ap nat_abs (λ i. c.requires.num_is i -ℤ c.requires.den_is i *ℤ pos 32768), p.left_le, c.requires.small))

  kept_is : kept num left ≡ pos p.k
  kept_is = (λ i. kept (c.requires.num_is i) (c.requires.num_is i -ℤ c.requires.den_is i *ℤ pos 32768)) ∙ p.kept_is

  bit_is : bit left ≡ pos p.b
  bit_is = (λ i. bit (c.requires.num_is i -ℤ c.requires.den_is i *ℤ pos 32768)) ∙ p.bit_is

  twice_fits : SFits w32 (kept num left *ℤ pos 2)
  twice_fits = sfits_abs w32 _ (omega (arith, ap (λ (z : ℤ). nat_abs (z *ℤ pos 2)) kept_is, p.k_lt, c.requires.small))

  sum_le : nat_abs (kept num left *ℤ pos 2 +ℤ bit left) ≤ 2147483647
  sum_le = omega (arith, ap nat_abs (λ i. kept_is i *ℤ pos 2 +ℤ bit_is i), p.k_lt, p.b_le, c.requires.small)

  den_back : to_z w32 (of_z w32 (to_z w16 (of_z w16 den))) ≡ den
  den_back = widened_to w32 tt c.ranges.den

  num_back : to_z w32 (of_z w32 num) ≡ num
  num_back = to_z-of_z w32 num c.ranges.num

  d_back : to_z w32 (of_z w32 (den *ℤ pos 32768)) ≡ den *ℤ pos 32768
  d_back = to_z-of_z w32 _ d_fits

  left_back : to_z w32 (of_z w32 left) ≡ left
  left_back = to_z-of_z w32 _ left_fits

pub overflow_cast-left : goal.overflow_cast-left
overflow_cast-left c = widens_to w32 tt c.ranges.den

pub overflow_mul-left : goal.overflow_mul-left
overflow_mul-left c = simp (den_back c) (d_fits c)

pub overflow_sub-left : goal.overflow_sub-left
overflow_sub-left c = simp (den_back c, num_back c, d_back c) (left_fits c)

-- the bit of a test
chosen : (t : Bool) → pos (bool_byte t) ≡ cond t (pos 1) (pos 0)
chosen true = refl
chosen false = refl

-- what the two calls gave
kept_gave : (c : goal.After-kept) → to_z w32 (of_z w32 c.kept.result) ≡ kept (num c.before) (left c.before)
kept_gave c =
    let b = c.before in
    to_z-of_z w32 _ (record { sfits = c.kept.type_inv }) ∙ simp (den_back b, num_back b, d_back b, left_back b) at c.kept.ensures

bit_gave : (c : goal.After-from) → to_z w32 (of_z w32 c.from.result) ≡ bit (left c.before.before)
bit_gave c =
    let b = c.before.before in
    to_z-of_z w32 _ (record { sfits = c.from.type_inv }) ∙ simp (den_back b, num_back b, d_back b, left_back b) at c.from.ensures ∙ chosen (le_z (pos 0) (left b))

pub overflow_mul-kept : goal.overflow_mul-kept
overflow_mul-kept c = simp (kept_gave c) (twice_fits c.before)

pub fold_narrow-requires : goal.fold_narrow-requires
fold_narrow-requires c = let b = c.before.before in simp (kept_gave c.before, bit_gave c, to_z-of_z w32 _ (twice_fits b)) (sum_le b)

pub returns : goal.returns
returns c =
    let b = c.before.before.before in
    to_z-of_z w32 _ (record { sfits = c.fold_narrow.type_inv })
    ∙ simp (kept_gave c.before.before, bit_gave c.before, to_z-of_z w32 _ (twice_fits b)) at c.fold_narrow.ensures
    ∙ step_by (num b) (den b)
