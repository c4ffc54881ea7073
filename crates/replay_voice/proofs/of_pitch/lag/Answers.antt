-- A code's lag is sane, and the integer of such a lag is in range.
use native.Mathlib.Omega.{arith}
use mir.Syntax.{w16}
use mir.ValLaws.{to_z-of_z}
use Rattle.fixed.specs.Machine.{sfits_abs}
use Rattle.pitch.specs.Pitch.{Sane}
use Rattle.pitch.specs.Lags.{absolute_sane, relative_sane, sane_integer}
use Rattle.replay_voice.proofs.of_pitch.lag.Goals as goal

pub returns-then-n-lt0 : goal.returns-then-n-lt0
returns-then-n-lt0 c =
    let d = c.before.before in
    rw d.decode_absolute-first.ensures (absolute_sane d.before.absolute.result d.before.absolute.ensures)

pub decode_relative-requires : goal.decode_relative-requires
decode_relative-requires c =
    let d = c.before.before.before.before.before in
    let s : Sane d.decode_absolute-first.result = rw d.decode_absolute-first.ensures (absolute_sane d.before.absolute.result d.before.absolute.ensures) in
    let r = sane_integer d.decode_absolute-first.result s in
    (c.before.relative.ensures, rw (to_z-of_z w16 d.decode_absolute-first.result.integer (sfits_abs w16 d.decode_absolute-first.result.integer (omega (arith, r.most)))) r)

pub returns : goal.returns
returns c = rw c.decode_relative.ensures (relative_sane c.before.before.relative.result _ c.before.before.relative.ensures)
