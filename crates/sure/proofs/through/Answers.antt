-- Each number is the definition's of the one before.
use borrow.Author.Rules.{rules}
use lib.IntN.{pos}
use lib.ListN.{get_or}
use mir.Syntax.{w16}
use Rattle.fixed.specs.Machine.{back}
use Rattle.sure.specs.Sure.{through}
use Rattle.sure.proofs.through.Goals as goal

pub returns : goal.returns
unfolding through
returns c =
    let gains = c.args.gains in
    rw (
      c.holds.ensures,
      c.holds-2.ensures,
      c.holds-3.ensures,
      c.holds-4.ensures,
      c.surer-d.ensures,
      c.surer-c.ensures,
      c.surer-b.ensures,
      c.surer-a.ensures,
      back w16 (get_or gains 0 (pos 0)) (search rules),
      back w16 (get_or gains 1 (pos 0)) (search rules),
      back w16 (get_or gains 2 (pos 0)) (search rules),
      back w16 (get_or gains 3 (pos 0)) (search rules),
    )
