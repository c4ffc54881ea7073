-- The magnitude of an accumulator has 40 bits, so 24 of the 64 bits that are counted are 0 besides.
use native.Mathlib.Omega.{arith}
use mathlib.Core.Bool.{false}
use mathlib.Core.Path.{◌≡◌, ◌∙◌, ap, sym}
use lib.Dec.{eqb}
use lib.Count.{count_leading_zeros, leading_le, leading_length, leading_unique}
use lib.IntN.{ℤ, pos, nat_abs, ◌-ℤ◌}
use lib.Signed.{mag}
use borrow.Author.Tests.{eq-eqb, ne_eqb}
use Prim.Native.Nat.{ℕ, ◌<◌, ◌+◌}
use mir.Syntax.{w64, w32}
use mir.Val.{SFits, to_z}
use mir.ValLaws.{to_z-of_z, to_z_pos}
use Rattle.fixed.specs.Fixed as Fixed
use Rattle.fixed.specs.Integers.{sub_same}
use Rattle.fixed.specs.Abs.{abs_sub}
use Rattle.fixed.specs.Machine.{back, sfits_abs, zero_bits, bits_zero}
use Rattle.fixed.specs.Shifts.{mag_acc}
use Rattle.reciprocal.proofs.exp.Goals as goal
use Rattle.reciprocal.proofs.exp.Goals.{After-acc-a, After-magnitude}

-- of 64 digits 24 more are 0 than of 40
leading_40 : (n : ℕ) → n < 1099511627776 → count_leading_zeros 64 n ≡ count_leading_zeros 40 n + 24
leading_40 n h =
    let s = leading_length 40 n h in
    let e : count_leading_zeros 40 n + 24 + s.0 ≡ 64 = omega (arith, s.1) in
    sym (leading_unique 64 n (count_leading_zeros 40 n + 24) s.0 e s.2 s.3)

module _ (c : goal.After-acc-a) where
  abbrev a : ℤ
  a = c.acc-a.result

  a_is : a ≡ Fixed.acc c.before.args.v
  a_is = let f = c.before.ranges.v in simp to_z-of_z at c.acc-a.ensures

  a_fits : SFits w64 a
  a_fits = record { sfits = c.acc-a.type_inv }

pub returns-then-a-eq0 : goal.returns-then-a-eq0
unfolding Fixed.exp
returns-then-a-eq0 c =
    let b = c.before in
    let z : nat_abs (Fixed.acc b.before.args.v) ≡ 0 = rw (a_is b) at (zero_bits (a b) (a_fits b) c.if-a-eq0.true) in
    simp (eq-eqb (nat_abs (Fixed.acc b.before.args.v)) 0 z)

module _ (c : goal.After-magnitude) where
  abbrev k : ℕ
  k = c.magnitude.result

  k_is : k ≡ mag (a c.before.before)
  k_is = rw (back w64 (a c.before.before) c.before.before.acc-a.type_inv) at c.magnitude.ensures

  L_back : to_z w32 (count_leading_zeros 64 k) ≡ pos (count_leading_zeros 64 k)
  L_back = to_z_pos w32 _ (omega (arith, leading_le 64 k))

  r_fits : SFits w32 (pos (count_leading_zeros 64 k) -ℤ pos 33)
  r_fits = sfits_abs w32 _ (omega (arith, abs_sub (pos (count_leading_zeros 64 k)) (pos 33), leading_le 64 k))

pub overflow_cast-result : goal.overflow_cast-result
overflow_cast-result c = sfits_abs w32 _ (omega (arith, leading_le 64 c.magnitude.result))

pub overflow_sub-result : goal.overflow_sub-result
overflow_sub-result c = rw (L_back c) (r_fits c)

pub returns : goal.returns
unfolding Fixed.exp
returns c =
    let b = c.before.before in
    let v = b.before.args.v in
    let t : eqb (nat_abs (Fixed.acc v)) 0 ≡ false = ne_eqb (nat_abs (Fixed.acc v)) 0 (λ e. c.before.if-a-eq0.false (bits_zero (a b) (ap nat_abs (a_is b) ∙ e))) in
    let h : mag (Fixed.acc v) < 1099511627776 = omega (arith, mag_acc v) in
    rw (L_back c)
    (to_z-of_z w32 _ (r_fits c)
    ∙ ap (λ (m : ℕ). pos (count_leading_zeros 64 m) -ℤ pos 33) (k_is c ∙ ap mag (a_is b))
    ∙ ap (λ (l : ℕ). pos l -ℤ pos 33) (leading_40 (mag (Fixed.acc v)) h)
    ∙ sub_same (count_leading_zeros 40 (mag (Fixed.acc v)) + 24) 33 (count_leading_zeros 40 (mag (Fixed.acc v))) 9 (omega arith)
    ∙ simp t)
