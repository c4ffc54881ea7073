-- Each call's result as it is defined; the test for 0 decides the case.
use native.Mathlib.Omega.{arith}
use mathlib.Core.Bool.{true, false}
use mathlib.Core.Path.{◌≡◌, ◌∙◌, ap}
use lib.Dec.{eqb}
use lib.IntN.{ℤ, pos, nat_abs, ◌+ℤ◌}
use borrow.Author.Tests.{eq-eqb, ne_eqb}
use mir.Syntax.{w32, w64}
use mir.Val.{SFits, to_z, of_z}
use mir.ValLaws.{to_z-of_z}
use Rattle.fixed.specs.Fixed as Fixed
use Rattle.fixed.specs.Abs.{abs_add}
use Rattle.fixed.specs.Machine.{sfits_abs, back, zero_bits, bits_zero}
use Rattle.fixed.specs.Bounds.{abs_shift}
use Rattle.fixed.specs.Shifts.{abs_exp}
use Rattle.reciprocal.proofs.normalised_reciprocal.Goals as goal
use Rattle.reciprocal.proofs.normalised_reciprocal.Goals.{After-acc, After-exp-e, After-shift, After-signed_reciprocal-quotient, Start}

e_is : (c : goal.After-exp-e) → to_z w32 (of_z w32 c.exp-e.result) ≡ Fixed.exp c.before.args.value
e_is c = back w32 c.exp-e.result c.exp-e.type_inv ∙ simp (to_z-of_z w64 _ c.before.ranges.value) at c.exp-e.ensures

e_fits : (c : goal.After-exp-e) → SFits w32 (Fixed.exp c.before.args.value +ℤ pos 1)
e_fits c = sfits_abs w32 _ (omega (arith, abs_add (Fixed.exp c.before.args.value) (pos 1), abs_exp c.before.args.value))

-- value, normalised
abbrev N : goal.Start → ℤ
N s = Fixed.shift s.args.value (Fixed.exp s.args.value)

shift_is : (c : goal.After-shift) → to_z w64 (of_z w64 c.shift.result) ≡ N c.before.before
shift_is c =
    back w64 c.shift.result c.shift.type_inv
    ∙ simp (to_z-of_z w64 _ c.before.before.ranges.value, e_is c.before) at c.shift.ensures

pub signed_reciprocal-quotient-requires : goal.signed_reciprocal-quotient-requires
signed_reciprocal-quotient-requires c = rw (shift_is c) (abs_shift _ _)

q_is : (c : goal.After-signed_reciprocal-quotient) → to_z w64 (of_z w64 c.signed_reciprocal-quotient.result) ≡ Fixed.signed_reciprocal (N c.before.before.before)
q_is c = back w64 c.signed_reciprocal-quotient.result c.signed_reciprocal-quotient.type_inv ∙ simp (shift_is c.before) at c.signed_reciprocal-quotient.ensures

pub overflow_add-exponent : goal.overflow_add-exponent
overflow_add-exponent c = let b = c.before.before in simp (e_is b) (e_fits b)

-- what the accumulator holds
module _ (c : goal.After-acc) where
  abbrev b : goal.After-exp-e
  b = c.before.before.before

  abbrev a : ℤ
  a = c.acc.result

  a_is : a ≡ Fixed.acc b.before.args.value
  a_is = let f = b.before.ranges.value in simp (to_z-of_z w64 _ f) at c.acc.ensures

pub returns-then-acc-eq0 : goal.returns-then-acc-eq0
unfolding Fixed.normalised_reciprocal
returns-then-acc-eq0 c =
    let k = c.before in
    let t : eqb (nat_abs (Fixed.acc (b k).before.args.value)) 0 ≡ true = eq-eqb _ 0 (rw (a_is k) at (zero_bits (a k) (record { sfits = k.acc.type_inv }) c.if-acc-eq0.true)) in
    simp (q_is k.before, e_is (b k), to_z-of_z w32 _ (e_fits (b k)), t)

pub returns-else-acc-eq0 : goal.returns-else-acc-eq0
unfolding Fixed.normalised_reciprocal
returns-else-acc-eq0 c =
    let k = c.before in
    let t : eqb (nat_abs (Fixed.acc (b k).before.args.value)) 0 ≡ false = ne_eqb _ 0 (λ e. c.if-acc-eq0.false (bits_zero (a k) (ap nat_abs (a_is k) ∙ e))) in
    simp (q_is k.before, e_is (b k), to_z-of_z w32 _ (e_fits (b k)), t)
