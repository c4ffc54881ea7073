-- Both numbers are read before either is written.
use borrow.Author.Rules.{rules}
use mathlib.Core.Path.{◌∙◌}
use lib.IntN.{pos}
use lib.ListN.{get_or}
use mir.Syntax.{w16, w32}
use mir.ValLaws.{to_z-of_z}
use Rattle.fixed.specs.Machine.{back}
use Rattle.levinson.proofs.update_pair.Goals as goal

pub returns : goal.returns
returns c =
    let one = c.before.updated-first in
    let y = c.before.before in
    let b = y.before.before in
    let kn = back w16 (get_or b.args.k.now b.args.n (pos 0)) (search rules) in
    let km = back w16 (get_or b.args.k.now b.args.m (pos 0)) (search rules) in
    let v = to_z-of_z w16 _ b.ranges.kv in
    let i = to_z-of_z w16 _ b.ranges.inverse in
    let e = to_z-of_z w32 _ b.ranges.scale in
    let first = back w16 one.result one.type_inv ∙ simp (kn, km, v, i, e) at one.ensures in
    let second = back w16 c.updated-second.result c.updated-second.type_inv ∙ simp (kn, km, v, i, e) at c.updated-second.ensures in
    rw (first, second)
