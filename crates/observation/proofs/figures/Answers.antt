-- Each figure is that of the definition: an index below 128 and a class up to 5 are floats exactly.
use borrow.Author.Rules.{rules}
use Prim.Native.Nat.{ℕ, ◌^◌, ◌<◌, ◌≤◌}
use native.Mathlib.Omega.{arith}
use lib.Dec.{T, leb, le→leb}
use lib.Ieee.{in_float}
use mir.Syntax.{w16}
use mathlib.Core.Path.{◌≡◌}
use mir.Val.{to_z, of_z}
use Rattle.observation.specs.Frame.{figures}
use Rattle.observation.proofs.figures.Goals as goal

small : (n : ℕ) → n < 128 → T (leb n (2 ^ 24))
small n h = le→leb n (2 ^ 24) (omega arith)

small_class : (n : ℕ) → n ≤ 5 → T (leb n (2 ^ 24))
small_class n h = le→leb n (2 ^ 24) (omega arith)

pub int_to_float-result : goal.int_to_float-result
unfolding in_float
int_to_float-result c = small _ c.requires.fact_2

pub int_to_float-result-5 : goal.int_to_float-result-5
unfolding in_float
int_to_float-result-5 c = small_class _ c.requires.fact_3

pub returns : goal.returns
unfolding figures
returns c =
    let t = c.args.t in
    let code : to_z w16 (of_z w16 t.code_gain) ≡ t.code_gain = search rules in
    let pitch : to_z w16 (of_z w16 t.pitch_gain) ≡ t.pitch_gain = search rules in
    let lag : to_z w16 (of_z w16 t.lag.integer) ≡ t.lag.integer = search rules in
    rw (c.log_gain-correction.ensures, c.amplitude-amplitude.ensures, c.energy-energy.ensures, code, pitch, lag)
