use Prim.Native.Nat.{◌-◌}
use mathlib.Core.Path.{◌≡◌}
use lib.ListN.{length}
use Rattle.slot_users.specs.Users.{SLOTS}
use Rattle.desk_records.specs.Records.{RECORDS}
use Rattle.desk_records.proofs.Loops.{Stored}
use Rattle.desk_records.proofs.write_records.Given as goal

abbrev pub invariant-loop-k : goal.invariant-loop-k
invariant-loop-k l = (length l.initial.records ≡ RECORDS) × (length l.slots ≡ SLOTS) × Stored l.slots l.initial.records l.records l.k

abbrev pub decreases-loop-k : goal.decreases-loop-k
decreases-loop-k l = SLOTS - l.k
