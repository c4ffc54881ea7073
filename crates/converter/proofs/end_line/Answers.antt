-- What is held is the beginning of the array, or too long.
use native.Mathlib.Omega.{arith}
use mathlib.Core.Path.{◌≡◌, sym, ◌∙◌, ap}
use lib.Dec.{lit<}
use lib.ListN.{length}
use lib.Seq.{length-take-le}
use Rattle.stream.specs.Held.{zeros}
use Rattle.convert.specs.Convert.{text}
use Rattle.converter.specs.Feed.{held_line, too_long}
use Rattle.converter.proofs.Turns.{shown_over, shown_within, settled}
use borrow.Author.Rules.{rules}
use Rattle.converter.proofs.end_line.Goals as goal

pub returns-then-n-gt162 : goal.returns-then-n-gt162
unfolding held_line
returns-then-n-gt162 c =
    let a = c.args in
    let e = ap (text a.way a.first) (shown_over a.line.text a.line.n c.if-n-gt162.true) in
    let s = settled a.way a.first a.line (search rules) (e ∙ too_long a.way a.first (zeros 163) (lit< tt)) a.out.now (c.put_text.ensures.length, c.put_text.ensures.text) in
    record { length = s.0; text = s.1.0; fits = s.1.1.0; paid = s.1.1.1 }

pub slice_bounds-text-end-2 : goal.slice_bounds-text-end-2
slice_bounds-text-end-2 c =
    let h : length c.args.line.text ≡ 162 = search rules in
    omega arith

pub slice_bounds-put_text-end-2 : goal.slice_bounds-put_text-end-2
slice_bounds-put_text-end-2 c =
    let h : length c.args.line.text ≡ 162 = search rules in
    sym (length-take-le _ _ (omega arith))

pub returns : goal.returns
unfolding held_line
returns c =
    let a = c.args in
    let e = ap (text a.way a.first) (shown_within a.line.text a.line.n c.if-n-gt162.false) in
    let s = settled a.way a.first a.line (search rules) e a.out.now (c.put_text-2.ensures.length, c.put_text-2.ensures.text) in
    record { length = s.0; text = s.1.0; fits = s.1.1.0; paid = s.1.1.1 }
