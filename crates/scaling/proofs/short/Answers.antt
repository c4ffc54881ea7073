-- The library's clamp is the definition's, and what it gives has 16 bits.
use native.Mathlib.Omega.{arith}
use mathlib.Core.Path.{◌≡◌, ◌∙◌}
use Prim.Native.Nat.{◌<◌}
use lib.IntN.{ℤ, pos, negsuc}
use lib.Signed.{mag, ◌≤ℤ◌}
use mir.Syntax.{w16, w32}
use mir.Val.{SFits}
use mir.ValLaws.{to_z-of_z}
use Rattle.std.proofs.lemmas.Int.{ints}
use Rattle.fixed.specs.Clips.{clamped}
use Rattle.fixed.specs.Machine.{back}
use Rattle.output_filter.specs.Sections.{short}
use Rattle.scaling.proofs.short.Goals as goal
use Rattle.scaling.proofs.short.Goals.{After-clamp}

short_is : (c : After-clamp) → c.clamp.result ≡ short c.args.v
unfolding short
short_is c = simp (to_z-of_z w32 _ c.ranges.v) at c.clamp.ensures.value ∙ clamped 32767 32767 c.args.v

inside : (z : ℤ) → negsuc 32767 ≤ℤ z → z ≤ℤ pos 32767 → mag z < 32768
inside (pos n) l h = omega (arith, ints)
inside (negsuc n) l h = omega (arith, ints)

fits : (c : After-clamp) → SFits w16 c.clamp.result
fits c = record { sfits = inside c.clamp.result c.clamp.ensures.lower_bound c.clamp.ensures.upper_bound }

pub overflow_cast-result : goal.overflow_cast-result
overflow_cast-result c = rw (back w32 c.clamp.result c.clamp.type_inv) (fits c)

pub returns : goal.returns
returns c = rw (back w32 c.clamp.result c.clamp.type_inv) (to_z-of_z w16 _ (fits c) ∙ short_is c)
