-- One call after the other; the input at bit 16 and the rounding constant have 33 bits.
use native.Mathlib.Omega.{arith}
use mathlib.Core.Path.{◌≡◌, ◌∙◌}
use lib.IntN.{ℤ, pos, nat_abs, ◌+ℤ◌, ◌*ℤ◌}
use Prim.Native.Nat.{ℕ, ◌≤◌, ◌+◌}
use Rattle.sequence.specs.Total.{total}
use mir.Syntax.{w16, w64}
use mir.Val.{SFits, to_z, of_z}
use mir.ValLaws.{to_z-of_z}
use Rattle.fixed.specs.Fixed as Fixed
use Rattle.fixed.specs.Abs.{abs_add, abs_mul_le}
use Rattle.fixed.specs.Machine.{abs_sfits, sfits_abs, back, widens, widened}
use Rattle.synth.specs.Synth as Synth
use Rattle.synthesis_sum.proofs.known.Goals as goal
use Rattle.synthesis_sum.proofs.known.Goals.{After-shift-sum, Start}

module _ (c : goal.After-shift-sum) where
  abbrev b : goal.Start
  b = c.before.before

  abbrev x : ℤ
  x = b.args.x

  v_is : to_z w64 (of_z w64 c.shift-sum.result) ≡ Fixed.shift (total Fixed.fold (pos 0) (λ (k : ℕ). Synth.term b.args.a.now b.args.history.now (k + 1)) 9) (pos 3)
  v_is = cc (back w64 c.shift-sum.result c.shift-sum.type_inv, back w64 c.before.older.result c.before.older.type_inv)

  x_back : to_z w64 (of_z w64 (to_z w16 (of_z w16 x))) ≡ x
  x_back = widened tt b.ranges.x

  m_le : nat_abs (x *ℤ pos 65536) ≤ 2147483648
  m_le = abs_mul_le x (pos 65536) 32768 65536 (abs_sfits w16 x b.ranges.x) (omega arith)

  m_fits : SFits w64 (x *ℤ pos 65536)
  m_fits = sfits_abs w64 _ (omega (arith, m_le))

  t_fits : (r : ℕ) → r ≤ 65536 → SFits w64 (x *ℤ pos 65536 +ℤ pos r)
  t_fits r h = sfits_abs w64 _ (omega (arith, m_le, abs_add (x *ℤ pos 65536) (pos r)))

pub overflow_cast-x : goal.overflow_cast-x
overflow_cast-x c = widens tt c.before.before.ranges.x

pub overflow_mul-x : goal.overflow_mul-x
overflow_mul-x c = simp (x_back c) (m_fits c)

pub overflow_add-x : goal.overflow_add-x
overflow_add-x c = simp (x_back c, to_z-of_z w64 _ (m_fits c)) (t_fits c _ (omega arith))

pub returns : goal.returns
returns c =
    let k = c.before in
    back w64 c.fold.result c.fold.type_inv
    ∙ simp (x_back k, v_is k, to_z-of_z w64 _ (m_fits k), to_z-of_z w64 _ (t_fits k 32768 (omega arith))) at c.fold.ensures
