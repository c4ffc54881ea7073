-- A shift of 1 by less than 32 loses nothing.
use mathlib.Core.Path.{ap, ◌∙◌}
use Prim.Native.Nat.{ℕ, ◌^◌}
use native.Mathlib.Nat.{one-mul}
use native.Mathlib.Omega.{arith}
use lib.Dec.{leb}
use lib.Pow.{shl_exact}
use Rattle.frame_params.proofs.over.Goals as goal

pub returns : goal.returns
returns c = rw c.from.ensures (ap (λ (x : ℕ). leb x c.args.v) (shl_exact {a = 1} 1 c.args.w 32 (omega arith) (omega arith) ∙ one-mul (2 ^ c.args.w)))
