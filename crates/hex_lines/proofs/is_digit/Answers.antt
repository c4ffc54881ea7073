use Rattle.std.proofs.Common.{ap, ltb, ℕ}
use Rattle.hex_lines.specs.Text.{is_digit}
use Rattle.hex_lines.proofs.is_digit.Goals as goal

pub returns : goal.returns
unfolding is_digit
returns c = ap (λ (n : ℕ). ltb n 16) c.value.ensures
