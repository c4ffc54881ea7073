-- The parts that the calls give are the definition's.
use Rattle.observation.specs.Frame.{report}
use Rattle.observation.proofs.report.Goals as goal

pub returns : goal.returns
unfolding report
returns c =
    rw (c.put_excitation.ensures, c.subframes-subframes.ensures, c.clipped-clipped.ensures, c.pitch_gains-pitch_gains.ensures)
