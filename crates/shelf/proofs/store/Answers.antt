use Prim.Native.Nat.{ℕ, ◌+◌, ◌*◌}
use mathlib.Core.Path.{ap}
use mathlib.Core.List.{List, ◌++◌}
use native.Mathlib.Omega.{arith}
use lib.ListN.{take}
use borrow.Rule.Slice.PartMut.{Post-is}
use Rattle.image.specs.Image as Image
use Rattle.image.specs.Image.{SIZE}
use Rattle.shelf.specs.Shelf.{with_image}
use Rattle.shelf.proofs.store.Goals as goal

pub returns : goal.returns
unfolding with_image
returns c =
    let s = c.args in
    rw c.write.ensures (ap (λ (d : List ℕ). take (SIZE * s.k) s.images.now ++ (Image.image s.state ++ d)) (Post-is (SIZE * s.k) (SIZE * s.k + SIZE) s.images.now (omega arith)))
