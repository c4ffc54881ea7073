-- By the test; nothing is written before it is passed.
use Rattle.std.proofs.Common.{Err}
use Rattle.refusal.specs.declared.Refusal.TheVariants.{NoReceiverLine}
use mathlib.Core.Path.{refl, sym, ap, ◌∙◌}
use mathlib.Core.List.{List}
use Prim.Native.Nat.{ℕ}
use Rattle.sequence.specs.Table.{table}
use Rattle.bits.specs.Bits.{byte_of}
use Rattle.receiver.specs.Receiver.{accepted, frame_of, read}
use Rattle.receiver.specs.Lines.{line_length}
use Rattle.receiver.specs.RoundTrips.{line_bits}
use Rattle.receiver.proofs.Walk.{read_settled}
use Rattle.receiver.proofs.read.Goals as goal

pub bits_of-frame_bits-requires : goal.bits_of-frame_bits-requires
bits_of-frame_bits-requires c = line_length _ (sym c.is_line.ensures ∙ c.if-is_line.true)

pub put_bytes-requires : goal.put_bytes-requires
put_bytes-requires c = (refl, rw c.bits_of-frame_bits.ensures (line_bits _))

pub returns-then-is_line : goal.returns-then-is_line
unfolding read frame_of
returns-then-is_line c =
    let b = c.before in
    let a = b.before.before.before.before.args in
    let l = a.line.now in
    let s = read_settled l a.payload.now accepted (rw (sym b.before.before.is_line.ensures ∙ b.before.if-is_line.true)) in
    record { answer = s.0; number = s.1; payload = c.put_bytes.ensures ∙ ap (λ (x : List ℕ). table (byte_of x) 20) b.bits_of-frame_bits.ensures ∙ s.2 }

pub returns : goal.returns
unfolding read
returns c =
    let s = read_settled c.args.line.now c.args.payload.now (Err NoReceiverLine) (rw (sym c.is_line.ensures ∙ c.if-is_line.false)) in
    record { answer = s.0; number = s.1; payload = s.2 }
