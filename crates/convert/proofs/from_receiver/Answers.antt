-- By the answer's variant.
use mathlib.Core.Path.{◌≡◌, refl, sym}
use lib.ListN.{replicate}
use Rattle.receiver.specs.Receiver.{frame_of, read_number, taken}
use Rattle.receiver.specs.Calls.{taken_long}
use Rattle.convert.specs.Convert.{hexadecimal, from_receiver}
use Rattle.convert.proofs.Lines.{accepted_line, refused_line}
use Rattle.convert.proofs.from_receiver.Goals as goal

pub slice_bounds-hexadecimal-end : goal.slice_bounds-hexadecimal-end
slice_bounds-hexadecimal-end c = sym (rw c.read.ensures.payload (taken_long _ (replicate 20 0) refl))

pub hexadecimal-requires : goal.hexadecimal-requires
hexadecimal-requires c = rw c.read.ensures.payload (taken_long _ (replicate 20 0) refl)

pub returns-in-Ok : goal.returns-in-Ok
unfolding taken from_receiver
returns-in-Ok c =
    let w = c.in-Ok.ensures in
    let l = c.args.line.now in
    let e : taken l (replicate 20 0) ≡ frame_of l = rw (sym w.number) in
    rw (accepted_line (read_number l) (hexadecimal (frame_of l)) w.number) (rw (c.hexadecimal.ensures, w.payload, e) at c.put_line.ensures)

pub returns-in-Err : goal.returns-in-Err
unfolding from_receiver
returns-in-Err c =
    let l = c.args.line.now in
    rw (refused_line (read_number l) c.in-Err.why (hexadecimal (frame_of l)) c.in-Err.ensures.number) c.put_refused.ensures
