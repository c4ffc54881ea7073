-- Each of the three calls gives its part of the definition.
use mathlib.Core.Path.{ap, ◌∙◌}
use lib.Ieee.{lt}
use Rattle.spectral.specs.Spectral.{sort, spread, predict}
use Rattle.frequencies.proofs.predict.Goals as goal

pub returns : goal.returns
unfolding predict
returns c = c.spread.ensures ∙ ap spread (c.before.sort.ensures ∙ ap (sort lt) c.before.before.sums.ensures)
