-- The lent table is the definition's, of 158 places.
use mathlib.Core.Path.{◌≡◌, refl, ap, ◌∙◌}
use mathlib.Core.List.{List}
use Prim.Native.Nat.{ℕ}
use native.Mathlib.Omega.{arith}
use lib.ListN.{length, get_or}
use Rattle.bits.specs.Bits.{groups, places}
use Rattle.bits.proofs.place.Goals as goal

many : length places ≡ 158
unfolding places groups
many = refl

pub bounds-places-j : goal.bounds-places-j
bounds-places-j c = omega (arith, ap length c.before.before.requires.0 ∙ many)

pub returns : goal.returns
returns c = c.from.ensures ∙ ap (λ (l : List ℕ). get_or l c.args.j 0) c.requires.0
