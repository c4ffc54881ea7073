-- The digit is the definition's.
use Rattle.hex_lines.specs.Text.{refused_text}
use Rattle.hex_lines.proofs.refused_text.Goals as goal

pub returns : goal.returns
unfolding refused_text
returns c = rw c.digit.ensures
