-- A line that is longer than what is held is no command.
use borrow.Author.Rules.{rules}
use mathlib.Core.Path.{◌≡◌}
use native.Mathlib.Omega.{arith}
use lib.ListN.{length}
use Rattle.stream.specs.Room.{counts}
use borrow.Author.Tests.{le-leb, lt-leb}
use Rattle.stream.specs.Held.{shown}
use Rattle.hex_lines.specs.Held.{held_line}
use Rattle.commands.specs.Commands.{starts, argument, command}
use Rattle.commands.proofs.read.Goals as goal

pub returns-then-line-gt40 : goal.returns-then-line-gt40
unfolding held_line shown command argument starts
returns-then-line-gt40 c = rw (lt-leb _ 40 c.if-line-gt40.true)

pub slice_bounds-text-end : goal.slice_bounds-text-end
slice_bounds-text-end c =
    let l = c.args.line in
    let z : length l.text ≡ 40 = search rules in
    let h = c.if-line-gt40.false in
    omega arith

pub slice_bounds-parse-end : goal.slice_bounds-parse-end
slice_bounds-parse-end c =
    let l = c.args.line in
    let z : length l.text ≡ 40 = search rules in
    let h = c.if-line-gt40.false in
    (counts l.n l.text (omega arith)).1

pub returns : goal.returns
unfolding held_line shown
returns c = rw (le-leb _ 40 c.if-line-gt40.false) c.parse.ensures
