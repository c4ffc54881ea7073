-- The first two bytes go to their places, the others to the rest.
use mathlib.Core.Path.{sym}
use Rattle.channel_lines.specs.Feed.{push, push_by}
use Rattle.channels.proofs.Lines.{push_more}
use Rattle.channels.proofs.push.Goals as goal

pub returns-then-l-eq0 : goal.returns-then-l-eq0
unfolding push push_by
returns-then-l-eq0 c = rw c.if-l-eq0.true

pub returns-then-l-eq1 : goal.returns-then-l-eq1
unfolding push push_by
returns-then-l-eq1 c = rw c.if-l-eq1.true

pub returns : goal.returns
returns c =
    let a = c.args in
    rw c.push-more.ensures (sym (push_more a.line a.b c.if-l-eq0.false c.if-l-eq1.false))
