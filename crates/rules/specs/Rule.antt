-- The number of each set rule.
use Rattle.std.specs.Prelude.{ℕ}
use Rattle.rules.specs.declared.Rule.{Rule}
use Rattle.rules.specs.declared.Rule.TheVariants.{Limit, Pulses, Selector, Position, Entry, Float}

abbrev pub number : Rule → ℕ
number Limit = 1
number Pulses = 2
number Selector = 3
number Position = 4
number Entry = 5
number Float = 6
