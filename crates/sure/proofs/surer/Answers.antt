-- The two tests are the definition's; a gain of 16 bits is 0 where its bits are.
use borrow.Author.Tests.{lt-ltb, le-ltb, eq-eqb, ne_eqb}
use native.Mathlib.Omega.{arith}
use mathlib.Core.Path.{◌≡◌}
use lib.IntN.{ℤ, pos, negsuc, nat_abs}
use mir.Syntax.{w16}
use mir.Val.{SFits, of_z}
use Rattle.sure.specs.Sure.{surer}
use Rattle.sure.proofs.surer.Goals as goal

zero_bits : (z : ℤ) → SFits w16 z → of_z w16 z ≡ 0 → nat_abs z ≡ 0
zero_bits (pos n) f e = e
zero_bits (negsuc n) f e = omega (arith, e, f.sfits)

bits_zero : (z : ℤ) → nat_abs z ≡ 0 → of_z w16 z ≡ 0
bits_zero (pos n) e = e
bits_zero (negsuc n) e = omega (arith, e)

pub returns-then-w-ge2 : goal.returns-then-w-ge2
unfolding surer
returns-then-w-ge2 c = rw (le-ltb _ _ c.if-w-ge2.true)

pub returns-then-gain-eq0 : goal.returns-then-gain-eq0
unfolding surer
returns-then-gain-eq0 c = rw (lt-ltb _ _ c.if-w-ge2.false, eq-eqb _ _ (zero_bits c.args.gain c.ranges.gain c.if-gain-eq0.true))

pub returns-else-gain-eq0 : goal.returns-else-gain-eq0
unfolding surer
returns-else-gain-eq0 c = rw (lt-ltb _ _ c.if-w-ge2.false, ne_eqb _ _ (λ z. c.if-gain-eq0.false (bits_zero c.args.gain z)))
