-- The text, a store or three, and the figure are the whole line.
use native.Mathlib.Omega.{arith}
use mathlib.Core.List.{[], ◌∷◌}
use lib.ListN.{length-set}
use Rattle.stream.specs.Decimal.{figure}
use Rattle.hex_lines.specs.Stores.{number_stores, fault_stores, fault_same}
use Rattle.table_file.proofs.put_tables_refused.Goals as goal

pub bounds-out-16 : goal.bounds-out-16
bounds-out-16 c = simp length-set (omega arith)

pub returns-then-told-eq0 : goal.returns-then-told-eq0
returns-then-told-eq0 c =
    let k = number_stores c.args.out.now c.args.number c.args.told c.requires.fact_3 c.if-told-eq0.true in
    rw (c.put.ensures, c.digit.ensures) (record { length = k.0; text = k.1 })

pub bounds-out-16-2 : goal.bounds-out-16-2
bounds-out-16-2 c = simp length-set (omega arith)

pub bounds-out-17 : goal.bounds-out-17
bounds-out-17 c = simp length-set (omega arith)

pub put_figure-requires : goal.put_figure-requires
put_figure-requires c = simp length-set (omega arith)

pub shape_of-out : goal.shape_of-out
shape_of-out c =
    let s = c.args in
    rw (c.put_figure.ensures.text, c.put.ensures) (fault_same s.out.now (figure (32 ∷ []) s.told.place) c.digit.result 32 c.digit-2.result (omega arith))

pub returns : goal.returns
returns c =
    let s = c.args in
    let k = fault_stores s.out.now s.number s.told c.requires.fact_3 c.if-told-eq0.false in
    rw (c.put_figure.ensures.next, c.put_figure.ensures.text, c.digit-2.ensures, c.put.ensures, c.digit.ensures) (record { length = k.0; text = k.1 })
