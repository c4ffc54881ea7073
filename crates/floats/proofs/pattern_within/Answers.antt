-- Patterns without their sign are in the order of the sizes.
use Rattle.floats.proofs.Patterns.{bits_within}
use Rattle.floats.proofs.pattern_within.Goals as goal

pub returns : goal.returns
returns c = bits_within c.args.n
