-- Each arm, by the test that led there.
use mathlib.Core.Path.{◌≡◌, sym, ◌∙◌, ap}
use mathlib.Core.Bool.{Bool, true, false, ◌||◌}
use lib.IntN.{pos, negsuc}
use lib.Signed.{lt_z}
use mir.ValLaws.{to_z-of_z}
use Rattle.output_filter.specs.Sections.{beyond}
use Rattle.scaling.proofs.beyond.Goals as goal

pub returns-then-v-ltminus32768 : goal.returns-then-v-ltminus32768
unfolding beyond
returns-then-v-ltminus32768 c =
    let f = c.before.ranges.v in
    let t : lt_z c.before.args.v (negsuc 32767) ≡ true = simp to_z-of_z at c.if-v-ltminus32768.true in
    c.if-v-ltminus32768.true ∙ sym (ap (λ (b : Bool). b || lt_z (pos 32767) c.before.args.v) t)

pub returns-else-v-ltminus32768 : goal.returns-else-v-ltminus32768
unfolding beyond
returns-else-v-ltminus32768 c =
    let f = c.before.ranges.v in
    let t : lt_z c.before.args.v (negsuc 32767) ≡ false = simp to_z-of_z at c.if-v-ltminus32768.false in
    simp to_z-of_z (sym (ap (λ (b : Bool). b || lt_z (pos 32767) c.before.args.v) t))
