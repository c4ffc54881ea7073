-- A row is within its book: 65535 / 128 is 511.
use Rattle.code_index.specs.Codebook as Codebook
use Rattle.codebook.proofs.alternative.Goals as goal

pub returns : goal.returns
unfolding Codebook.alternative
returns c = rw (c.place_pulses-2.ensures, c.place_pulses.ensures, c.from-r.ensures)
