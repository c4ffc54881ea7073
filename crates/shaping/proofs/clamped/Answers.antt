-- The library's clamp is the definition's.
use borrow.Author.Rules.{sfits_of}
use native.Mathlib.Omega.{arith}
use mathlib.Core.Bool.{Bool, true, false}
use mathlib.Core.Path.{◌≡◌, refl, ◌∙◌}
use Prim.Native.Nat.{ℕ, ◌≤◌, ◌<◌}
use lib.Dec.{ltb}
use lib.IntN.{ℤ, pos, negsuc}
use borrow.Author.Tests.{lt-ltb, le-ltb, ltb-true, ltb-false}
use mir.Syntax.{w16}
use mir.ValLaws.{to_z-of_z}
use Rattle.std.specs.Int.{int_min, int_max}
use Rattle.fixed.specs.Fixed.{clamp}
use Rattle.half.specs.Core as Spec
use Rattle.shaping.proofs.clamped.Goals as goal

between : (a b : ℕ) (z : ℤ) → a ≤ b → int_max (pos a) (int_min z (pos b)) ≡ clamp (pos a) (pos b) z
unfolding clamp
between a b (negsuc n) h = refl
between a b (pos n) h = go (ltb b n) (ltb-true b n) (ltb-false b n)
  where
    go : (t : Bool) → (t ≡ true → b < n) → (t ≡ false → n ≤ b) → int_max (pos a) (int_min (pos n) (pos b)) ≡ clamp (pos a) (pos b) (pos n)
    go true y z = let l = y refl in rw (lt-ltb b n l, le-ltb b a h, le-ltb n a (omega arith))
    go false y z = rw (le-ltb b n (z refl))

pub returns : goal.returns
unfolding Spec.clamped
returns c = to_z-of_z w16 _ (sfits_of c.clamp.type_inv) ∙ simp (to_z-of_z w16 _ c.ranges.pitch_gain) at c.clamp.ensures.value ∙ between 3277 13017 c.args.pitch_gain (omega arith)
