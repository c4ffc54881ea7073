use borrow.Author.Rules.{rules}
use mir.Syntax.{w16, w32}
use Rattle.fixed.specs.Machine.{back}
use Rattle.output_filter.specs.Postfilter.{at}
use Rattle.output_filter.specs.Sections.{both}
use Rattle.sections.proofs.both.Goals as goal

pub returns : goal.returns
unfolding both
returns c =
    let t40 = c.before in
    let t37 = t40.before in
    let t34 = t37.before in
    let t31 = t34.before in
    let t28 = t31.before in
    let t24 = t28.before in
    let t21 = t24.before in
    let t18 = t21.before in
    let t15 = t18.before in
    let t12 = t15.before in
    let t9 = t12.before in
    let s = t9.before.before.before.before.before in
    simp (
      back w16 (at s.args.first.fir 0) (search rules),
      back w16 (at s.args.first.fir 1) (search rules),
      back w16 (at s.args.first.fir 2) (search rules),
      back w16 (at s.args.second.fir 0) (search rules),
      back w16 (at s.args.second.fir 1) (search rules),
      back w16 (at s.args.second.fir 2) (search rules),
      back w32 (at s.args.first.iir 0) (search rules),
      back w32 (at s.args.first.iir 1) (search rules),
      back w32 (at s.args.first.iir 2) (search rules),
      back w32 (at s.args.second.iir 0) (search rules),
      back w32 (at s.args.second.iir 1) (search rules),
      back w32 (at s.args.second.iir 2) (search rules),
    )
