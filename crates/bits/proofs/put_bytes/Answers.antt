-- A byte a turn, from the front.
use mathlib.Core.Path.{refl}
use native.Mathlib.Omega.{arith}
use borrow.Author.Rules.{rules}
use Rattle.sequence.specs.Table.{table, written_more, written_end}
use Rattle.bits.specs.Bits.{byte_of}
use Rattle.bits.proofs.put_bytes.Goals as goal

pub loop-b-init : goal.loop-b-init
unfolding table
loop-b-init c = (omega arith, search rules, refl)

pub byte-requires : goal.byte-requires
byte-requires c = (omega arith, c.before.before.before.requires.1)

pub loop-b-preserved : goal.loop-b-preserved
loop-b-preserved c =
    let l = c.before.before.loop-b in
    written_more (byte_of c.before.before.before.before.args.bits.now) 20 l.out l.b c.byte.result l.invariant (omega arith) c.byte.ensures

pub returns : goal.returns
returns c =
    let l = c.before.loop-b in
    written_end (byte_of c.before.before.before.args.bits.now) 20 l.out l.b l.invariant (omega arith)
