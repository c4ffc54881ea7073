-- Two numbers, or nothing.
use Prim.Native.Nat.{◌+◌, ◌-◌}
use mathlib.Core.Path.{ap, ◌∙◌}
use native.Mathlib.Omega.{arith}
use borrow.Author.Tests.{lt-ltb, le-ltb, eq-eqb, ne_eqb}
use lib.ListN.{length, drop, length-drop}
use lib.Seq.{take_all}
use Rattle.commands.specs.Commands.{number, playing}
use Rattle.commands.proofs.playing.Goals as goal

pub returns-then-text-b : goal.returns-then-text-b
unfolding playing
returns-then-text-b c = rw (← c.blank-b.ensures.0, le-ltb _ _ c.if-text-b.true)

pub returns-then-k-eq-NONE : goal.returns-then-k-eq-NONE
unfolding playing
returns-then-k-eq-NONE c =
    rw (← c.blank-b.ensures.0, lt-ltb _ _ c.if-text-b.false, ← c.number-k.ensures.0, eq-eqb _ _ c.if-k-eq-NONE.true)

pub returns-then-n-eq-NONE : goal.returns-then-n-eq-NONE
unfolding playing
returns-then-n-eq-NONE c =
    let l = c.args.text.now in
    let a = c.blank-b.result + 1 in
    let w = take_all (length l - a) (drop a l) (omega (arith, length-drop a l)) in
    let z = c.number-n.ensures.0 ∙ ap number w in
    rw (← c.blank-b.ensures.0, lt-ltb _ _ c.if-text-b.false, ← c.number-k.ensures.0, ne_eqb _ _ c.if-k-eq-NONE.false, ← z, eq-eqb _ _ c.if-n-eq-NONE.true)

pub returns : goal.returns
unfolding playing
returns c =
    let l = c.args.text.now in
    let a = c.blank-b.result + 1 in
    let w = take_all (length l - a) (drop a l) (omega (arith, length-drop a l)) in
    let z = c.number-n.ensures.0 ∙ ap number w in
    rw (← c.blank-b.ensures.0, lt-ltb _ _ c.if-text-b.false, ← c.number-k.ensures.0, ne_eqb _ _ c.if-k-eq-NONE.false, ← z, ne_eqb _ _ c.if-n-eq-NONE.false)
