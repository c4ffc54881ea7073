-- Where no sample is at an end none was changed; else the local is the count so far.
use borrow.Author.Rules.{rules}
use native.Mathlib.Omega.{arith}
use mathlib.Core.Bool.{Bool}
use mathlib.Core.List.{List, map}
use mathlib.Core.Path.{◌≡◌, sym, ◌∙◌, ap}
use Prim.Native.Nat.{ℕ, ◌+◌, ◌≤◌}
use lib.IntN.{ℤ, pos}
use lib.ListN.{length, get_or, length-map}
use mir.Syntax.{w32}
use Rattle.sequence.specs.Count.{one, count, count_none, count_again, count_end, count_le}
use Rattle.fixed.specs.Clips.{at_end, ends, one_of}
use Rattle.fixed.specs.Machine.{back}
use Rattle.output_filter.specs.Postfilter.{scaled}
use Rattle.output_filter.specs.Sections.{short, clipped_by, none_clipped}
use Rattle.sections.proofs.clipped.Invariants.{test}
use Rattle.sections.proofs.clipped.Goals as goal
use Rattle.sections.proofs.clipped.Goals.{After-from-clipped, At-loop-n, Start}

-- both lists are as long as the first
module _ (s : goal.Start) where
  firsts_le : length s.args.firsts.now ≤ 80
  firsts_le = omega (arith, ap length s.requires.firsts_value.0, length-map s.args.first.now short, s.requires.first_len_bound.0)

  outputs_le : length s.args.outputs.now ≤ 80
  outputs_le =
      let second = s.args.second.now in
      omega (arith, ap length s.requires.firsts_value.1, length-map second short, length-map (map short second) scaled, s.requires.first_len_bound.0, s.requires.first_len_bound.1)

ends_le : (block : List ℤ) → ends block ≤ length block
unfolding ends
ends_le block = count_le (λ n. at_end (get_or block n (pos 0))) (length block)

pub ends-requires : goal.ends-requires
ends-requires c = firsts_le c

pub ends-requires-2 : goal.ends-requires-2
ends-requires-2 c = outputs_le c.before

pub overflow_add-ends : goal.overflow_add-ends
overflow_add-ends c =
    let s = c.before.before in
    omega (arith, c.before.ends.ensures, c.ends-2.ensures, ends_le s.args.firsts.now, ends_le s.args.outputs.now, firsts_le s, outputs_le s)

pub returns-then-ends-eq0 : goal.returns-then-ends-eq0
returns-then-ends-eq0 c =
    let e = c.before in
    let s = e.before.before in
    let h : ends s.args.firsts.now ≡ 0 = omega (arith, e.before.ends.ensures, c.if-ends-eq0.true) in
    let g : ends s.args.outputs.now ≡ 0 = omega (arith, e.ends-2.ensures, c.if-ends-eq0.true) in
    sym (none_clipped s.args.first.now s.args.second.now s.requires.first_len_bound.1 (sym (ap ends s.requires.firsts_value.0) ∙ h) (sym (ap ends s.requires.firsts_value.1) ∙ g))

pub loop-n-init : goal.loop-n-init
loop-n-init c = (omega arith, sym (count_none _))

pub bounds-second-n : goal.bounds-second-n
bounds-second-n c = let l = c.before.before in omega (arith, l.before.before.before.before.requires.first_len_bound.1)

-- a turn
module _ (c : goal.After-from-clipped) where
  abbrev l : goal.At-loop-n
  l = c.before.before.before.before.before

  abbrev s : goal.Start
  s = l.before.before.before.before

  abbrev counts : ℕ → Bool
  counts = test s.args.first.now s.args.second.now

  counted : l.loop-n.clipped + c.from-clipped.result ≡ count counts (l.loop-n.n + 1)
  counted =
      let k = c.before in
      let x = get_or s.args.first.now l.loop-n.n (pos 0) in
      let y = get_or s.args.second.now l.loop-n.n (pos 0) in
      let e : c.from-clipped.result ≡ one (counts l.loop-n.n) = c.from-clipped.ensures ∙ one_of k.clips_at.result ∙ ap one (simp (back w32 x (search rules), back w32 y (search rules)) at k.clips_at.ensures) in
      count_again counts l.loop-n.n l.loop-n.invariant.1 e

pub overflow_add-clipped : goal.overflow_add-clipped
overflow_add-clipped c = omega (arith, counted c, count_le (counts c) ((l c).loop-n.n + 1), (s c).requires.first_len_bound.0)

pub loop-n-preserved : goal.loop-n-preserved
loop-n-preserved c = (omega arith, counted c)

pub returns : goal.returns
unfolding clipped_by
returns c =
    let l = c.before in
    let a = l.before.before.before.before.args in
    count_end (test a.first.now a.second.now) l.loop-n.invariant.0 (omega arith) l.loop-n.invariant.1
