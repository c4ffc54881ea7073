-- Three runs of four, from the place, and from four and eight places on.
use native.Mathlib.Nat.{add_assoc}
use Rattle.frame_params.proofs.half_params.Goals as goal

pub returns : goal.returns
returns c =
    let x = c.four.ensures in
    let y = c.four-2.ensures in
    let z = c.four-3.ensures in
    let a = c.args.at in
    rw (x, y, z, add_assoc a 4 1, add_assoc a 4 2, add_assoc a 4 3, add_assoc a 8 1, add_assoc a 8 2, add_assoc a 8 3)
