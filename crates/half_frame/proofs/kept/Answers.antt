-- What was copied is the rest.
use mathlib.Core.Path.{◌∙◌}
use native.Mathlib.Omega.{arith}
use Rattle.std.specs.Prelude.{◌-◌, drop}
use lib.ListN.{length-drop}
use lib.Seq.{take_all}
use Rattle.half.specs.Core as Spec
use Rattle.half_frame.proofs.kept.Goals as goal

pub returns : goal.returns
unfolding Spec.kept
returns c =
    let e = c.args.exc.now in
    c.copy_from_slice.ensures.after ∙ take_all (314 - 160) (drop 160 e) (omega (arith, length-drop 160 e, c.requires))
