-- A line that begins with the name is as long.
use Prim.Native.Nat.{◌-◌}
use mathlib.Core.Path.{sym, ◌∙◌}
use native.Mathlib.Omega.{arith}
use lib.ListN.{length, drop, length-drop}
use lib.Seq.{take_all}
use Rattle.commands.specs.Commands.{argument, starts_long}
use Rattle.commands.proofs.argument.Goals as goal

pub slice_bounds-number-count : goal.slice_bounds-number-count
slice_bounds-number-count c = let h = starts_long _ _ (sym c.starts.ensures ∙ c.if-starts.true) in omega arith

pub slice_bounds-number-start : goal.slice_bounds-number-start
slice_bounds-number-start c = let h = starts_long _ _ (sym c.starts.ensures ∙ c.if-starts.true) in omega arith

pub returns-then-starts : goal.returns-then-starts
unfolding argument
returns-then-starts c =
    let a = c.args in
    let n = length a.name.now in
    let w = take_all (length a.line.now - n) (drop n a.line.now) (omega (arith, length-drop n a.line.now)) in
    (rw (sym c.starts.ensures ∙ c.if-starts.true, ← w) c.number.ensures.0, c.number.ensures.1)

pub returns : goal.returns
unfolding argument
returns c = (rw (sym c.starts.ensures ∙ c.if-starts.false), omega arith)
