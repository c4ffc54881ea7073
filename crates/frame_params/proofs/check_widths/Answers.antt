-- The first field that is over its width, looked for from field 0 on.
use mathlib.Core.Path.{◌≡◌, refl, sym, ◌∙◌}
use mathlib.Core.Bool.{Bool}
use mathlib.Core.List.{List}
use borrow.Author.Tests.{ne_eqb}
use Prim.Native.Nat.{ℕ, ◌^◌}
use native.Mathlib.Omega.{arith}
use lib.Dec.{leb}
use lib.ListN.{get_or}
use Rattle.sequence.specs.First.{first, first_more, first_found, first_none}
use Rattle.bits.specs.Bits.{widths, width_number}
use Rattle.bits.specs.Places.{width_le}
use Rattle.frame_params.proofs.check_widths.Invariants.{wide}
use Rattle.frame_params.proofs.check_widths.Goals as goal

pub loop-k-init : goal.loop-k-init
loop-k-init c = (omega arith, refl)

pub over-requires : goal.over-requires
over-requires c = omega (arith, width_le c.loop-k.k c.loop-k-test.true, c.width.ensures)

-- what the test said, of the width in the table
said : {t r : Bool} {w : ℕ} (fs : List ℕ) (k : ℕ) → w ≡ get_or widths k 0 → r ≡ leb (2 ^ w) (get_or fs k 0) → r ≡ t → wide fs k ≡ t
said fs k h o e = rw h at (sym o ∙ e)

pub returns-then-over : goal.returns-then-over
unfolding width_number
returns-then-over c =
    let l = c.loop-k in
    let f = wide c.args.fields in
    let e : first f 24 ≡ l.k = sym l.invariant.1 ∙ first_found f l.k 24 (omega arith) (said c.args.fields l.k c.width.ensures c.over.ensures c.if-over.true) in
    simp (ne_eqb (first f 24) 24 (λ w. omega arith))

pub loop-k-preserved : goal.loop-k-preserved
loop-k-preserved c =
    let l = c.loop-k in
    let f = wide c.args.fields in
    (omega arith, sym (first_more f l.k 24 (omega arith) (said c.args.fields l.k c.width.ensures c.over.ensures c.if-over.false)) ∙ l.invariant.1)

pub returns : goal.returns
unfolding width_number
returns c =
    let l = c.loop-k in
    let f = wide c.args.fields in
    let e : first f 24 ≡ 24 = sym l.invariant.1 ∙ first_none f l.k 24 (omega arith) ∙ omega arith in
    rw e
