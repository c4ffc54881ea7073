-- The doubled number and what is taken away from it have 42 bits; together they are the doubled difference, and the bit.
use native.Mathlib.Omega.{arith}
use mathlib.Core.Bool.{true, false}
use mathlib.Core.Path.{◌≡◌, sym, ◌∙◌, ap}
use lib.IntN.{ℤ, pos, neg_ℤ, nat_abs, ◌+ℤ◌, ◌-ℤ◌, ◌*ℤ◌, +ℤ_assoc, +ℤ_comm, +ℤ_idr}
use lib.Signed.{le_z}
use Prim.Native.Nat.{◌≤◌}
use mir.Syntax.{w16, w64}
use mir.Val.{SFits, to_z, of_z}
use mir.ValLaws.{to_z-of_z}
use Rattle.fixed.specs.Wrap.{REACH}
use Rattle.fixed.specs.Fixed as Fixed
use Rattle.fixed.specs.Abs.{abs_sub, abs_mul_le}
use Rattle.fixed.specs.Integers.{mul_add, neg_mul}
use Rattle.fixed.specs.Machine.{abs_sfits, sfits_abs, back, widens, widened}
use Rattle.reciprocal.proofs.restoring_step.Goals as goal
use Rattle.reciprocal.proofs.restoring_step.Goals.{Start, then-num-divisor-ge0, else-num-divisor-ge0}

-- the doubled difference and the quotient's bit
taken : (n d : ℤ) → n *ℤ pos 2 +ℤ (pos 1 -ℤ d *ℤ pos 2) ≡ (n -ℤ d) *ℤ pos 2 +ℤ pos 1
taken n d =
    let e : ℤ = neg_ℤ (d *ℤ pos 2) in
    ap (λ (z : ℤ). n *ℤ pos 2 +ℤ z) (+ℤ_comm (pos 1) e) ∙ sym (+ℤ_assoc (n *ℤ pos 2) e (pos 1))
    ∙ ap (λ (z : ℤ). z +ℤ pos 1) (ap (λ (z : ℤ). n *ℤ pos 2 +ℤ z) (sym (neg_mul d (pos 2))) ∙ sym (mul_add n (neg_ℤ d) (pos 2)))

module _ (c : goal.Start) where
  abbrev num : ℤ
  num = c.args.num

  abbrev den : ℤ
  den = c.args.den

  abbrev d : ℤ
  d = den *ℤ pos 32768

  d_le : nat_abs d ≤ 1073741824
  d_le = abs_mul_le den (pos 32768) 32768 32768 (abs_sfits w16 den c.ranges.den) (omega arith)

  d_fits : SFits w64 d
  d_fits = sfits_abs w64 _ (omega (arith, d_le))

  alu_fits : SFits w64 (num -ℤ d)
  alu_fits = sfits_abs w64 _ (omega (arith, abs_sub num d, d_le, c.requires))

  twice_le : nat_abs (d *ℤ pos 2) ≤ 2147483648
  twice_le = abs_mul_le d (pos 2) 1073741824 2 d_le (omega arith)

  twice_fits : SFits w64 (d *ℤ pos 2)
  twice_fits = sfits_abs w64 _ (omega (arith, twice_le))

  term_fits : SFits w64 (pos 1 -ℤ d *ℤ pos 2)
  term_fits = sfits_abs w64 _ (omega (arith, twice_le, abs_sub (pos 1) (d *ℤ pos 2)))

  num_fits : SFits w64 (num *ℤ pos 2)
  num_fits = sfits_abs w64 _ (omega (arith, abs_mul_le num (pos 2) REACH 2 c.requires (omega arith)))

  den_back : to_z w64 (of_z w64 (to_z w16 (of_z w16 den))) ≡ den
  den_back = widened tt c.ranges.den

  num_back : to_z w64 (of_z w64 num) ≡ num
  num_back = to_z-of_z w64 num c.ranges.num

  d_back : to_z w64 (of_z w64 d) ≡ d
  d_back = to_z-of_z w64 _ d_fits

pub overflow_cast-divisor : goal.overflow_cast-divisor
overflow_cast-divisor c = widens tt c.ranges.den

pub overflow_mul-divisor : goal.overflow_mul-divisor
overflow_mul-divisor c = simp (den_back c) (d_fits c)

pub overflow_sub-num : goal.overflow_sub-num
overflow_sub-num c = simp (den_back c, num_back c, d_back c) (alu_fits c)

pub overflow_mul-term : goal.overflow_mul-term
overflow_mul-term c = let b = c.before in simp (den_back b, d_back b) (twice_fits b)

pub overflow_sub-term : goal.overflow_sub-term
overflow_sub-term c = let b = c.before in simp (den_back b, d_back b, to_z-of_z w64 _ (twice_fits b)) (term_fits b)

pub overflow_mul-num : goal.overflow_mul-num
overflow_mul-num c = let b = c.before in simp (num_back b) (num_fits b)

pub returns : goal.returns
unfolding Fixed.restoring_step Fixed.fold
returns c = elim c.if-num-divisor-ge0.branch [
  | then-num-divisor-ge0 w ↦
      let t : le_z (pos 0) (num b -ℤ d b) ≡ true = simp (den_back b, num_back b, d_back b, to_z-of_z w64 _ (alu_fits b)) at w.if-num-divisor-ge0.true in
      let u : to_z w64 c.if-num-divisor-ge0.term-bits ≡ pos 1 -ℤ d b *ℤ pos 2 = w.term-is ∙ simp (den_back b, d_back b, to_z-of_z w64 _ (twice_fits b)) (to_z-of_z w64 _ (term_fits b)) in
      sum ∙ ap (λ (z : ℤ). Fixed.acc (num b *ℤ pos 2 +ℤ z)) u ∙ ap (λ (z : ℤ). Fixed.acc z) (taken (num b) (d b)) ∙ simp t
  | else-num-divisor-ge0 w ↦
      let t : le_z (pos 0) (num b -ℤ d b) ≡ false = simp (den_back b, num_back b, d_back b, to_z-of_z w64 _ (alu_fits b)) at w.if-num-divisor-ge0.false in
      sum ∙ ap (λ (z : ℤ). Fixed.acc (num b *ℤ pos 2 +ℤ z)) w.term-is ∙ ap (λ (z : ℤ). Fixed.acc z) (+ℤ_idr (num b *ℤ pos 2)) ∙ simp t
]
  where
    b : goal.Start
    b = c.before.before

    sum : to_z w64 (of_z w64 c.fold.result) ≡ Fixed.acc (num b *ℤ pos 2 +ℤ to_z w64 c.if-num-divisor-ge0.term-bits)
    sum = back w64 c.fold.result c.fold.type_inv ∙ simp (num_back b, to_z-of_z w64 _ (num_fits b)) at c.fold.ensures
