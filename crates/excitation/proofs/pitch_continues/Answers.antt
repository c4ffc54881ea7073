use mathlib.Core.Bool.{true, false}
use mathlib.Core.Path.{◌≡◌, ◌∙◌, sym}
use lib.IntN.{ℤ}
use mir.Syntax.{w16}
use mir.Val.{to_z, of_z}
use mir.ValLaws.{to_z-of_z}
use Rattle.excitation.specs.Excitation as Excitation
use Rattle.excitation.proofs.pitch_continues.Goals as goal
use Rattle.excitation.proofs.pitch_continues.Goals.{After-above_floor, Start}

module _ (c : goal.Start) where
  abbrev lag : ℤ
  lag = c.args.lag

  abbrev previous : ℤ
  previous = c.args.previous_lag

  lag_back : to_z w16 (of_z w16 lag) ≡ lag
  lag_back = to_z-of_z w16 lag c.ranges.lag

  previous_back : to_z w16 (of_z w16 previous) ≡ previous
  previous_back = to_z-of_z w16 previous c.ranges.previous_lag

above_is : (c : goal.After-above_floor) → c.above_floor.result ≡ Excitation.above_floor (lag c.before) (previous c.before)
above_is c = simp (lag_back c.before, previous_back c.before) at c.above_floor.ensures

pub returns-then-above_floor : goal.returns-then-above_floor
unfolding Excitation.pitch_continues
returns-then-above_floor c =
    let b = c.before.before in
    let t : Excitation.above_floor (lag b.before) (previous b.before) ≡ true = sym (above_is b) ∙ c.before.if-above_floor.true in
    simp t (simp (lag_back b.before, previous_back b.before) at c.below_ceiling.ensures)

pub returns-else-above_floor : goal.returns-else-above_floor
unfolding Excitation.pitch_continues
returns-else-above_floor c =
    let b = c.before in
    let t : Excitation.above_floor (lag b.before) (previous b.before) ≡ false = sym (above_is b) ∙ c.if-above_floor.false in
    c.if-above_floor.false ∙ simp t
