-- The test is made of the pattern that was read.
use mathlib.Core.Path.{ap, ◌∙◌}
use mathlib.Core.Bool.{not}
use Prim.Native.Nat.{ℕ}
use lib.Ieee.{of_bits, binary32}
use Rattle.floats.specs.Floats.{within}
use Rattle.tables.specs.Tables as Tables
use Rattle.rule_places.proofs.float_bad.Goals as goal

pub returns : goal.returns
unfolding Tables.float_bad
returns c = ap not (c.pattern_within.ensures ∙ ap (λ (n : ℕ). within 65536 (of_bits binary32 n)) c.before.bits_at.ensures)
