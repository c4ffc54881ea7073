-- By turn k the first k records are written.
use mathlib.Core.Path.{◌≡◌, refl}
use lib.ListN.{length}
use Rattle.slot_users.specs.Users.{SLOTS}
use Rattle.desk_records.specs.Records.{RECORDS}
use Rattle.desk_records.proofs.Loops.{stored_none, stored_more, stored_end}
use borrow.Author.Rules.{rules}
use Rattle.desk_records.proofs.write_records.Goals as goal

pub loop-k-init : goal.loop-k-init
loop-k-init c =
    let r : length c.args.records.now ≡ RECORDS = search rules in
    let l : length c.args.slots ≡ SLOTS = search rules in
    (r, l, stored_none c.args.slots c.args.records.now l r)

pub loop-k-preserved : goal.loop-k-preserved
loop-k-preserved c =
    let i = c.loop-k.invariant in
    (i.0, i.1, stored_more c.args.slots c.args.records.now i.1 i.0 c.loop-k.records _ c.loop-k.k _ i.2 c.loop-k-test.true refl c.put_record.ensures)

pub returns : goal.returns
returns c = let i = c.loop-k.invariant in stored_end c.args.slots c.args.records.now i.1 i.0 _ c.loop-k.k i.2 (search rules)
