-- By the answer's variant.
use mathlib.Core.Path.{◌≡◌, refl, sym}
use native.Mathlib.Omega.{arith}
use lib.ListN.{replicate}
use Rattle.receiver.specs.Receiver.{line_of, write_number, written}
use Rattle.receiver.specs.Calls.{written_long}
use Rattle.convert.proofs.Lines.{accepted_line, refused_line}
use Rattle.convert.proofs.put_digits.Goals as goal

pub slice_bounds-put_line-end : goal.slice_bounds-put_line-end
slice_bounds-put_line-end c = sym (rw c.write.ensures.line (written_long _ (replicate 162 48) refl))

pub put_line-requires : goal.put_line-requires
put_line-requires c =
    let w = written_long c.args.payload (replicate 162 48) refl in
    rw c.write.ensures.line (omega arith)

pub returns-in-Ok : goal.returns-in-Ok
unfolding written
returns-in-Ok c =
    let w = c.in-Ok.ensures in
    let q = c.args.payload in
    let p = c.put_line.ensures in
    let e : written q (replicate 162 48) ≡ line_of q = rw (sym w.number) in
    rw (accepted_line (write_number q) (line_of q) w.number) (rw (w.line, e) at p)

pub returns-in-Err : goal.returns-in-Err
returns-in-Err c =
    let q = c.args.payload in
    rw (refused_line (write_number q) c.in-Err.why (line_of q) c.in-Err.ensures.number) c.put_refused.ensures
