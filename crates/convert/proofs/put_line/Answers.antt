-- Two texts, one behind the other.
use mathlib.Core.Path.{◌∙◌}
use mathlib.Core.List.{[], ◌∷◌, ◌++◌}
use native.Mathlib.Omega.{arith}
use lib.ListN.{length-append}
use Rattle.stream.specs.Room.{sets_append, sets_over}
use Rattle.convert.proofs.put_line.Goals as goal

pub returns : goal.returns
returns c =
    let q = c.put_at.ensures in
    let a = c.args in
    let h = length-append a.line.now (10 ∷ []) in
    record {
      length = omega (arith, h, q.next, c.put_at-n.ensures.next);
      text = q.text ∙ rw (c.put_at-n.ensures.text, c.put_at-n.ensures.next) (sets_append a.line.now (10 ∷ []) a.out.now 0 ∙ sets_over (a.line.now ++ (10 ∷ [])) a.out.now (omega arith));
    }
