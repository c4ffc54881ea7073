-- Two's complement, as the definition has it.
use Rattle.std.specs.Prelude.{◌≡◌, ◌+◌, ◌*◌}
use Rattle.std.proofs.Common.{◌∙◌, ap, arith}
use mir.Syntax.{w16}
use mir.Facts.{to_z-of_z}
use borrow.Author.Rules.{sfits_of}
use Rattle.image.specs.Image.{signed}
use Rattle.image.proofs.Flipped.{signed16}
use Rattle.image.proofs.word.Goals as goal

pub returns : goal.returns
returns c =
    let n : c.args.low + c.args.high * 256 ≡ c.args.low + 256 * c.args.high = omega arith in
    to_z-of_z {w = w16} {z = c.from_le_bytes.result} (sfits_of c.from_le_bytes.type_inv) ∙ c.from_le_bytes.ensures ∙ signed16 _ ∙ ap (signed 2) n
