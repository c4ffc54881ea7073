-- Two stores.
use lib.ListN.{length-set}
use Rattle.image_bytes.proofs.Loops.{two_stores}
use native.Mathlib.Omega.{arith}
use Rattle.image_bytes.proofs.put_word.Goals as goal

pub bounds-room-at-2 : goal.bounds-room-at-2
bounds-room-at-2 c = simp length-set (omega arith)

pub returns : goal.returns
returns c = two_stores _ _ _ (omega arith)
