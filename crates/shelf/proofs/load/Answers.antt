use Prim.Native.Nat.{ℕ, ◌+◌, ◌-◌, ◌*◌}
use mathlib.Core.Path.{◌≡◌, ap}
use native.Mathlib.Omega.{arith}
use lib.ListN.{take, drop}
use Rattle.image.specs.Image as Image
use Rattle.image.specs.Image.{SIZE}
use Rattle.shelf.specs.Shelf.{state_at}
use Rattle.shelf.proofs.load.Goals as goal

pub returns : goal.returns
unfolding state_at
returns c =
    let a = SIZE * c.args.k in
    let w : a + SIZE - a ≡ SIZE = omega arith in
    rw c.read.ensures (ap (λ (n : ℕ). Image.state (take n (drop (SIZE * c.args.k) c.args.images.now))) w)
