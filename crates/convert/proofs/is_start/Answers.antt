-- The line that is compared has one byte.
use Rattle.std.specs.Prelude.{◌≡◌, refl, Bool, true, false, ◌&&◌, List, [], ◌∷◌, ℕ, eqb, length}
use Rattle.std.proofs.Common.{◌∙◌, ne_eqb, arith}
use lib.Pointwise.{pointwise}
use Rattle.hex_lines.specs.Text.{is_only}
use Rattle.convert.proofs.is_start.Goals as goal

whole : (b : Bool) → b && true ≡ b
whole true = refl
whole false = refl

none : (b : Bool) → b && false ≡ false
none true = refl
none false = refl

one : (l : List ℕ) (b : ℕ) → pointwise eqb l (b ∷ []) ≡ is_only b l
unfolding is_only
one [] b = refl
one (x ∷ []) b = whole (eqb x b)
one (x ∷ y ∷ l) b = none (eqb x b) ∙ rw (ne_eqb (length (x ∷ y ∷ l)) 1 (λ e. omega arith))

pub returns-then-first : goal.returns-then-first
returns-then-first c = rw (c.if-first.true, c.eq.ensures, c.as_slice.ensures) (one c.args.line.now 43)
