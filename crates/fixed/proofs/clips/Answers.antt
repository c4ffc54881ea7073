-- Each arm, by the test that led there: saturation changes what is beyond an end.
use mathlib.Core.Path.{◌≡◌, sym, ◌∙◌, ap}
use mathlib.Core.Bool.{Bool, true, false, ◌||◌}
use lib.IntN.{pos, negsuc}
use lib.Signed.{lt_z}
use mir.ValLaws.{to_z-of_z}
use Rattle.fixed.specs.Clips.{clips_beyond}
use Rattle.fixed.proofs.clips.Goals as goal

pub returns-then-v-ltminus2147483648 : goal.returns-then-v-ltminus2147483648
returns-then-v-ltminus2147483648 c =
    let f = c.before.ranges.v in
    let t : lt_z c.before.args.v (negsuc 2147483647) ≡ true = simp to_z-of_z at c.if-v-ltminus2147483648.true in
    c.if-v-ltminus2147483648.true ∙ sym (clips_beyond c.before.args.v ∙ ap (λ (b : Bool). b || lt_z (pos 2147483647) c.before.args.v) t)

pub returns-else-v-ltminus2147483648 : goal.returns-else-v-ltminus2147483648
returns-else-v-ltminus2147483648 c =
    let f = c.before.ranges.v in
    let t : lt_z c.before.args.v (negsuc 2147483647) ≡ false = simp to_z-of_z at c.if-v-ltminus2147483648.false in
    simp to_z-of_z (sym (clips_beyond c.before.args.v ∙ ap (λ (b : Bool). b || lt_z (pos 2147483647) c.before.args.v) t))
