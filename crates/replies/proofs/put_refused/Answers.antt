use native.Mathlib.Omega.{arith}
use Rattle.std.proofs.Common.{◌∙◌}
use Rattle.refusal.specs.Numbers as Numbers
use Rattle.replies.proofs.Steps.{put_line}
use Rattle.replies.specs.Replies.{refused_word}
use Rattle.replies.proofs.put_refused.Goals as goal

pub returns : goal.returns
returns c =
    let e = c.from.ensures ∙ c.number.ensures in
    put_line refused_word (Numbers.number c.args.why) c.args.room.now (omega arith) c.requires (rw e at c.put_figure.ensures.next) (rw e at c.put_figure.ensures.text)
