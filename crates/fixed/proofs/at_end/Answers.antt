-- Each arm, by the test that led there.
use mathlib.Core.Path.{◌≡◌, sym, ◌∙◌, ap}
use mathlib.Core.Bool.{Bool, true, false, ◌||◌}
use lib.IntN.{pos, negsuc}
use lib.Signed.{lt_z}
use mir.ValLaws.{to_z-of_z}
use Rattle.fixed.specs.Clips.{at_end}
use Rattle.fixed.proofs.at_end.Goals as goal

pub returns-then-x-ltminus32767 : goal.returns-then-x-ltminus32767
unfolding at_end
returns-then-x-ltminus32767 c =
    let f = c.before.ranges.x in
    let t : lt_z c.before.args.x (negsuc 32766) ≡ true = simp to_z-of_z at c.if-x-ltminus32767.true in
    c.if-x-ltminus32767.true ∙ sym (ap (λ (b : Bool). b || lt_z (pos 32766) c.before.args.x) t)

pub returns-else-x-ltminus32767 : goal.returns-else-x-ltminus32767
unfolding at_end
returns-else-x-ltminus32767 c =
    let f = c.before.ranges.x in
    let t : lt_z c.before.args.x (negsuc 32766) ≡ false = simp to_z-of_z at c.if-x-ltminus32767.false in
    simp to_z-of_z (sym (ap (λ (b : Bool). b || lt_z (pos 32766) c.before.args.x) t))
