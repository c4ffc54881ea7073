-- One name after the other.
use Prim.Native.Nat.{◌-◌}
use mathlib.Core.Path.{sym, ap, ◌∙◌}
use native.Mathlib.Omega.{arith}
use borrow.Author.Tests.{lt-ltb, le-ltb}
use lib.ListN.{length, drop, length-drop}
use lib.Seq.{take_all}
use Rattle.commands.specs.Commands.{starts_long, command, playing}
use Rattle.commands.proofs.parse.Goals as goal

pub returns-then-s-lt-NONE : goal.returns-then-s-lt-NONE
unfolding command
returns-then-s-lt-NONE c = rw (← c.argument-s.ensures.0, lt-ltb _ _ c.if-s-lt-NONE.true)

pub returns-then-h-lt-NONE : goal.returns-then-h-lt-NONE
unfolding command
returns-then-h-lt-NONE c =
    rw (← c.argument-s.ensures.0, le-ltb _ _ c.if-s-lt-NONE.false, ← c.argument-h.ensures.0, lt-ltb _ _ c.if-h-lt-NONE.true)

pub returns-then-g-lt-NONE : goal.returns-then-g-lt-NONE
unfolding command
returns-then-g-lt-NONE c =
    rw (← c.argument-s.ensures.0, le-ltb _ _ c.if-s-lt-NONE.false, ← c.argument-h.ensures.0, le-ltb _ _ c.if-h-lt-NONE.false, ← c.argument-g.ensures.0, lt-ltb _ _ c.if-g-lt-NONE.true)

pub returns-then-k-lt-NONE : goal.returns-then-k-lt-NONE
unfolding command
returns-then-k-lt-NONE c =
    rw (← c.argument-s.ensures.0, le-ltb _ _ c.if-s-lt-NONE.false, ← c.argument-h.ensures.0, le-ltb _ _ c.if-h-lt-NONE.false, ← c.argument-g.ensures.0, le-ltb _ _ c.if-g-lt-NONE.false, ← c.argument-k.ensures.0, lt-ltb _ _ c.if-k-lt-NONE.true)

pub slice_bounds-playing-count : goal.slice_bounds-playing-count
slice_bounds-playing-count c = let h = starts_long _ _ (sym c.starts.ensures ∙ c.if-starts.true) in omega arith

pub slice_bounds-playing-start : goal.slice_bounds-playing-start
slice_bounds-playing-start c = let h = starts_long _ _ (sym c.starts.ensures ∙ c.if-starts.true) in omega arith

pub returns-then-starts : goal.returns-then-starts
unfolding command
returns-then-starts c =
    let l = c.args.line.now in
    let h = starts_long _ _ (sym c.starts.ensures ∙ c.if-starts.true) in
    let w = take_all (length l - 5) (drop 5 l) (omega (arith, length-drop 5 l)) in
    rw (← c.argument-s.ensures.0, le-ltb _ _ c.if-s-lt-NONE.false, ← c.argument-h.ensures.0, le-ltb _ _ c.if-h-lt-NONE.false, ← c.argument-g.ensures.0, le-ltb _ _ c.if-g-lt-NONE.false, ← c.argument-k.ensures.0, le-ltb _ _ c.if-k-lt-NONE.false, ← c.starts.ensures, c.if-starts.true) (c.playing.ensures ∙ ap playing w)

pub returns : goal.returns
unfolding command
returns c =
    rw (← c.argument-s.ensures.0, le-ltb _ _ c.if-s-lt-NONE.false, ← c.argument-h.ensures.0, le-ltb _ _ c.if-h-lt-NONE.false, ← c.argument-g.ensures.0, le-ltb _ _ c.if-g-lt-NONE.false, ← c.argument-k.ensures.0, le-ltb _ _ c.if-k-lt-NONE.false, ← c.starts.ensures, c.if-starts.false)
