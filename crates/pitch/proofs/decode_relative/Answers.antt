-- The lag integer where the codes begin is a natural number, and all that is summed is one.
use native.Mathlib.Omega.{arith}
use mathlib.Core.Path.{◌≡◌, ◌∙◌, ap}
use Prim.Native.Nat.{ℕ, ◌*◌, ◌+◌, ◌-◌, ◌≤◌}
use lib.IntN.{pos, nat_abs}
use mir.Syntax.{w16}
use mir.Val.{to_z, of_z}
use mir.ValLaws.{to_z-of_z}
use Rattle.fixed.specs.Machine.{back}
use Rattle.pitch.specs.Pitch as Pitch
use Rattle.pitch.specs.Lags.{lowest_range}
use Rattle.pitch.proofs.decode_relative.Goals as goal
use Rattle.pitch.proofs.decode_relative.Goals.{After-lowest-m}

module _ (c : goal.After-lowest-m) where
  abbrev m : ℕ
  m = Pitch.lowest c.before.args.prev

  range : (20 ≤ m) × (m ≤ 134)
  range = lowest_range c.before.args.prev

  m_is : to_z w16 (of_z w16 c.lowest-m.result) ≡ pos m
  m_is = back w16 c.lowest-m.result c.lowest-m.type_inv ∙ simp (to_z-of_z w16 _ c.before.ranges.prev) at c.lowest-m.ensures

pub overflow_cast-m : goal.overflow_cast-m
overflow_cast-m c = rw (m_is c) (tt, record { fits = omega (arith, range c) })

pub overflow_mul-m : goal.overflow_mul-m
overflow_mul-m c = rw (m_is c) (record { fits = omega (arith, range c) })

pub overflow_add-m : goal.overflow_add-m
overflow_add-m c = rw (m_is c) (record { fits = omega (arith, range c, c.before.requires) })

pub overflow_sub-m : goal.overflow_sub-m
overflow_sub-m c = rw (m_is c) (omega (arith, range c))

pub thirds-requires : goal.thirds-requires
thirds-requires c = rw (m_is c) (omega (arith, range c, c.before.requires))

pub returns : goal.returns
unfolding Pitch.decode_relative
returns c =
    let e : nat_abs (to_z w16 (of_z w16 c.before.lowest-m.result)) * 3 + c.before.before.args.code - 2 ≡ 3 * m c.before + c.before.before.args.code - 2 = rw (m_is c.before) (omega arith) in
    c.thirds.ensures ∙ ap Pitch.thirds e
