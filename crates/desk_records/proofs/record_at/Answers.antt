-- A byte, and the four behind it.
use Rattle.image.specs.Bytes.{four_bytes}
use Rattle.desk_records.specs.Records.{record_at}
use Rattle.desk_records.proofs.record_at.Goals as goal

pub returns : goal.returns
unfolding record_at
returns c = rw (c.bits_at.ensures, four_bytes)
