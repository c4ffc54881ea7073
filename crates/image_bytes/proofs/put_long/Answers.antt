-- Four stores.
use lib.ListN.{length-set}
use Rattle.image_bytes.proofs.Loops.{four_stores}
use native.Mathlib.Omega.{arith}
use Rattle.image_bytes.proofs.put_long.Goals as goal

pub bounds-room-at-2 : goal.bounds-room-at-2
bounds-room-at-2 c = simp length-set (omega arith)

pub bounds-room-at-3 : goal.bounds-room-at-3
bounds-room-at-3 c = simp length-set (omega arith)

pub bounds-room-at-4 : goal.bounds-room-at-4
bounds-room-at-4 c = simp length-set (omega arith)

pub returns : goal.returns
returns c = four_stores _ _ _ (omega arith)
