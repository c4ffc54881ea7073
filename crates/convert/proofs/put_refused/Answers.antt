-- A figure from place 0 on.
use mathlib.Core.Path.{◌∙◌}
use native.Mathlib.Omega.{arith}
use Rattle.stream.specs.Room.{sets_over}
use Rattle.refusal.specs.Numbers.{number}
use Rattle.convert.specs.Convert.{refused}
use Rattle.convert.proofs.Lines.{refused_long}
use Rattle.convert.proofs.put_refused.Goals as goal

pub returns : goal.returns
unfolding refused
returns c =
    let p = rw (c.from.ensures ∙ c.number.ensures) at c.put_figure.ensures in
    let h = refused_long (number c.args.why) in
    record {
      length = omega (arith, p.next);
      text = p.text ∙ sets_over _ _ (omega arith);
    }
