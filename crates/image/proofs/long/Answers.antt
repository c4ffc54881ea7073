-- Two's complement, as the definition has it.
use Rattle.std.proofs.Common.{◌∙◌}
use mir.Syntax.{w32}
use mir.Facts.{to_z-of_z}
use borrow.Author.Rules.{sfits_of}
use Rattle.image.proofs.Flipped.{signed32}
use Rattle.image.proofs.long.Goals as goal

pub returns : goal.returns
returns c = to_z-of_z {w = w32} {z = c.cast_signed.result} (sfits_of c.cast_signed.type_inv) ∙ c.cast_signed.ensures ∙ signed32 c.args.n
