-- Two shifts by 48 wrap 64 bits to 16, which an i16 holds.
use mathlib.Core.Path.{refl}
use mir.Syntax.{w64, w16}
use mir.ValLaws.{to_z-of_z}
use Rattle.fixed.specs.Machine.{shl_shr, wrap_sfits}
use Rattle.fixed.proofs.low.Goals as goal

pub overflow_cast-result : goal.overflow_cast-result
overflow_cast-result c =
    let v = c.args.v in
    let f = wrap_sfits w64 16 v tt in
    simp (shl_shr 16 48 v refl c.ranges.v, to_z-of_z) (wrap_sfits w16 16 v tt)

pub returns : goal.returns
returns c =
    let v = c.args.v in
    let f = wrap_sfits w64 16 v tt in
    let g = wrap_sfits w16 16 v tt in
    simp (shl_shr 16 48 v refl c.ranges.v, to_z-of_z)
