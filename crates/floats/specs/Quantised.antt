-- `quantise` keeps to its bound.
use Rattle.std.specs.Prelude.{ℕ, ◌≤◌, true, false, Float}
use Rattle.std.proofs.Common.{arith}
use Rattle.std.specs.Float.{nan, inf, fin}
use Rattle.floats.specs.Floats.{quantise}

pub quantise_le : (top : ℕ) (x : Float) → quantise top x ≤ top
unfolding quantise
quantise_le top nan = omega arith
quantise_le top (inf true) = omega arith
quantise_le top (inf false) = omega arith
quantise_le top (fin true m e) = omega arith
quantise_le top (fin false m e) = omega arith
