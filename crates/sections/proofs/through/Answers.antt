-- What is written by place n, and the lines after n inputs.
use borrow.Author.Rules.{rules}
use native.Mathlib.Omega.{arith}
use native.Mathlib.Numerals.{add-one}
use mathlib.Core.Path.{◌≡◌, refl, sym, ◌∙◌, ap}
use Prim.Native.Nat.{ℕ}
use lib.IntN.{ℤ, pos}
use lib.ListN.{length, get_or, take}
use lib.Seq.{take_all}
use mir.Syntax.{w16, w32, w64}
use mir.Val.{to_z, of_z}
use Rattle.sequence.specs.Table.{written_none, written_more, written_end, table_of}
use Rattle.fixed.specs.Machine.{back}
use Rattle.output_filter.specs.declared.Lines.{Lines}
use Rattle.output_filter.specs.Sections as Sections
use Rattle.output_filter.specs.Sections.{line_sum, wide, moved, left, length_through, left_more, through_at}
use Rattle.sections.proofs.through.Invariants.{value}
use Rattle.sections.proofs.through.Goals as goal

pub loop-n-init : goal.loop-n-init
unfolding left
loop-n-init c = let a = c.args in (written_none (value a.taps a.lines a.input.now) (length a.input.now) a.output.now c.requires, refl)

pub bounds-output-n : goal.bounds-output-n
bounds-output-n c = let l = c.before.before.before.before in omega (arith, l.loop-n.invariant.0.1)

pub loop-n-preserved : goal.loop-n-preserved
loop-n-preserved c =
    let w = c.before in
    let m = w.before in
    let l = m.before.before.before in
    let a = l.before.args in
    let xs = a.input.now in
    let n = l.loop-n.n in
    let x : ℤ = get_or xs n (pos 0) in
    let i = l.loop-n.invariant in
    let st = left a.taps a.lines (take n xs) in
    let sum : to_z w64 (of_z w64 m.section_sum-sum.result) ≡ line_sum a.taps st x =
    back w64 m.section_sum-sum.result m.section_sum-sum.type_inv ∙ simp (back w16 x (search rules)) at m.section_sum-sum.ensures ∙ ap (λ (s : Lines). line_sum a.taps s x) i.1 in
    let y : to_z w32 (of_z w32 w.wide.result) ≡ value a.taps a.lines xs n =
    back w32 w.wide.result w.wide.type_inv ∙ simp sum at w.wide.ensures in
    let r : c.moved-state.result ≡ moved st x (line_sum a.taps st x) =
    simp (back w16 x (search rules), sum) at c.moved-state.ensures ∙ ap (λ (s : Lines). moved s x (line_sum a.taps st x)) i.1 in (
      written_more (value a.taps a.lines xs) (length xs) l.loop-n.output n _ i.0 (omega arith) y,
      r ∙ sym (ap (λ (k : ℕ). left a.taps a.lines (take k xs)) (add-one n) ∙ left_more a.taps a.lines xs n (omega arith)),
    )

pub returns : goal.returns
returns c =
    let l = c.before in
    let a = l.before.args in
    let xs = a.input.now in
    let i = l.loop-n.invariant in record {
      outputs = written_end (value a.taps a.lines xs) (length xs) l.loop-n.output l.loop-n.n i.0 (omega arith)
          ∙ table_of (value a.taps a.lines xs) (pos 0) (Sections.through a.taps a.lines xs) (length xs) (length_through a.taps a.lines xs) (through_at a.taps a.lines xs);
      left = i.1 ∙ ap (left a.taps a.lines) (take_all l.loop-n.n xs (omega arith));
    }
