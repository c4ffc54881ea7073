-- By the amount's sign: its low six bits are its remainder by 64, and a shift up drops bits that the accumulator does not have.
use borrow.Author.Tests.{leb-false}
use native.Mathlib.Omega.{arith}
use native.Mathlib.Nat.{zero-add, mod-lt}
use mathlib.Core.Bool.{true, false, true≢false}
use mathlib.Core.Path.{◌≡◌, refl, ◌∙◌, ap, sym}
use lib.Bits.{bit_and, and_mask}
use lib.IntN.{ℤ, pos, negsuc, ◌-ℤ◌, ◌*ℤ◌, nat_abs}
use lib.Signed.{shr_z, le_z}
use Prim.Native.Nat.{ℕ, suc, ◌<◌, ◌*◌, ◌%◌, ◌^◌}
use mir.Syntax.{w32, w64}
use mir.Val.{SFits, to_z, of_z}
use mir.ValLaws.{to_z-of_z}
use Rattle.fixed.specs.Fixed as Fixed
use Rattle.fixed.specs.Machine.{shl_wrap, shr_sfits, sfits_abs, abs_sfits, back, widens, widened}
use Rattle.fixed.proofs.shift.Goals as goal
use Rattle.fixed.proofs.shift.Goals.{Else-n-ge0, Start}

amount : (n : ℕ) → bit_and n 63 < 64
amount n = rw (and_mask n 6) (mod-lt n (omega arith))

up : (v s : ℤ) → le_z (pos 0) s ≡ true → SFits w64 v → Fixed.acc (to_z w64 ((of_z w64 v * 2 ^ bit_and (of_z w64 s) 63) % 2 ^ 64)) ≡ Fixed.shift v s
unfolding Fixed.shift
up v (pos n) t f = shl_wrap 40 24 (2 ^ bit_and n 63) v refl f ∙ ap (λ (k : ℕ). Fixed.acc (v *ℤ pos (2 ^ k))) (and_mask n 6)
up v (negsuc n) t f = absurd (true≢false (sym t))

minus : (s : ℤ) → le_z (pos 0) s ≡ false → pos 0 -ℤ s ≡ pos (nat_abs s)
minus (pos n) t = let h : n < 0 = leb-false 0 n t in absurd (omega arith)
minus (negsuc n) t = ap pos (zero-add (suc n))

down : (v s : ℤ) → le_z (pos 0) s ≡ false → Fixed.acc (shr_z v (2 ^ bit_and (nat_abs s) 63)) ≡ Fixed.shift v s
unfolding Fixed.shift
down v (pos n) t = let h : n < 0 = leb-false 0 n t in absurd (omega arith)
down v (negsuc n) t = ap (λ (k : ℕ). Fixed.acc (shr_z v (2 ^ k))) (and_mask (suc n) 6)

module _ (c : goal.Start) where
  s_read : to_z w32 (of_z w32 c.args.s) ≡ c.args.s
  s_read = to_z-of_z w32 c.args.s c.ranges.s

  s_back : to_z w64 (of_z w64 (to_z w32 (of_z w32 c.args.s))) ≡ c.args.s
  s_back = widened tt c.ranges.s

pub overflow_cast-n : goal.overflow_cast-n
overflow_cast-n c = widens tt c.ranges.s

pub overflow_shl-v : goal.overflow_shl-v
overflow_shl-v c = amount (of_z w64 (to_z w32 (of_z w32 c.before.args.s)))

module _ (c : goal.Else-n-ge0) where
  abbrev b : goal.Start
  b = c.before

  below : le_z (pos 0) b.args.s ≡ false
  below = simp (s_back b) at c.if-n-ge0.false

  minus_is : pos 0 -ℤ to_z w64 (of_z w64 (to_z w32 (of_z w32 b.args.s))) ≡ pos (nat_abs b.args.s)
  minus_is = rw (s_back b) (minus b.args.s below)

pub overflow_sub-n : goal.overflow_sub-n
overflow_sub-n c = rw (minus_is c) (sfits_abs w64 _ (omega (arith, abs_sfits w32 c.before.args.s c.before.ranges.s)))

pub overflow_shr-v : goal.overflow_shr-v
overflow_shr-v c = amount (of_z w64 (pos 0 -ℤ to_z w64 (of_z w64 (to_z w32 (of_z w32 c.before.args.s)))))

pub returns-then-n-ge0 : goal.returns-then-n-ge0
returns-then-n-ge0 c =
    let k = c.before in
    let a = k.before.args in
    back w64 c.acc.result c.acc.type_inv ∙ simp (s_read k.before) at c.acc.ensures ∙ up a.v a.s (simp (s_back k.before) at k.if-n-ge0.true) k.before.ranges.v

pub returns-else-n-ge0 : goal.returns-else-n-ge0
returns-else-n-ge0 c =
    let k = c.before in
    let a = (b k).args in
    let f = (b k).ranges.v in
    back w64 c.acc-else-n-ge0.result c.acc-else-n-ge0.type_inv
    ∙ simp (minus_is k, to_z-of_z w64 a.v f, to_z-of_z w64 _ (shr_sfits w64 a.v (2 ^ bit_and (nat_abs a.s) 63) f)) at c.acc-else-n-ge0.ensures
    ∙ down a.v a.s (below k)
