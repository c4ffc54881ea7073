-- Two's complement, as the definition has it.
use Rattle.std.specs.Prelude.{◌≡◌, ℤ, pos, negsuc}
use Rattle.std.proofs.Common.{refl, ◌∙◌, ap, arith}
use mir.Syntax.{w32}
use mir.Val.{of_z}
use mir.Facts.{to_z-of_z}
use Rattle.image.specs.Image.{unsigned}
use Rattle.image_bytes.proofs.unsigned_long.Goals as goal

complement : (z : ℤ) → of_z w32 z ≡ unsigned 4 z
unfolding unsigned
complement (pos n) = refl
complement (negsuc n) = omega arith

pub returns : goal.returns
returns c = c.cast_unsigned.ensures ∙ ap (of_z w32) (to_z-of_z c.ranges.x) ∙ complement c.args.x
