use borrow.Author.Rules.{rules}
use Prim.Native.Nat.{◌+◌}
use mir.Syntax.{w16, w32}
use Rattle.fixed.specs.Machine.{back}
use Rattle.output_filter.specs.Postfilter.{at}
use Rattle.output_filter.specs.Sections.{lines_of}
use Rattle.sections.proofs.lines_of.Goals as goal

pub returns : goal.returns
unfolding lines_of
returns c =
    let t28 = c.before in
    let t23 = t28.before in
    let t18 = t23.before in
    let t13 = t18.before in
    let t8 = t13.before in
    let s = t8.before.before.before in
    let n = s.args.at in
    simp (
      back w16 (at s.args.filter.fir n) (search rules),
      back w16 (at s.args.filter.fir (n + 1)) (search rules),
      back w16 (at s.args.filter.fir (n + 2)) (search rules),
      back w32 (at s.args.filter.iir n) (search rules),
      back w32 (at s.args.filter.iir (n + 1)) (search rules),
      back w32 (at s.args.filter.iir (n + 2)) (search rules),
    )
