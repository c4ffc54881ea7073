-- What the library rounds to is the float of the nearest whole number, which the cast reads.
use Rattle.std.proofs.Common.{ap, ◌∙◌}
use lib.Ieee.{to_unsigned}
use Rattle.floats.proofs.Even.{Small, above_minus_one, below_2_64, whole_is}
use Rattle.floats.proofs.round_even.Goals as goal

pub truncating_f32_to_u64-requires : goal.truncating_f32_to_u64-requires
truncating_f32_to_u64-requires c =
    let k : Small c.args.x = (c.requires.fact_1, c.requires.fact_2) in
    rw c.round_ties_even.ensures (record { lower_bound = above_minus_one c.args.x k; upper_bound = below_2_64 c.args.x k })

pub returns : goal.returns
returns c = c.truncating_f32_to_u64.ensures ∙ ap (to_unsigned 64) c.round_ties_even.ensures ∙ whole_is c.args.x (c.requires.fact_1, c.requires.fact_2)
