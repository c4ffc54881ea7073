-- Two shifts by 32 wrap 64 bits to 32.
use mathlib.Core.Path.{refl}
use mir.Syntax.{w64}
use mir.ValLaws.{to_z-of_z}
use Rattle.fixed.specs.Machine.{shl_shr, wrap_sfits}
use Rattle.fixed.proofs.trunc32.Goals as goal

pub returns : goal.returns
returns c =
    let v = c.args.v in
    let f = wrap_sfits w64 32 v tt in
    simp (shl_shr 32 32 v refl c.ranges.v, to_z-of_z)
