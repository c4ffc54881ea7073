-- Either way makes the same steps; the mask leaves the residue.
use borrow.Author.Rules.{rules}
use native.Mathlib.Omega.{arith}
use mathlib.Core.Path.{◌≡◌, refl, sym, ◌∙◌, ap}
use Prim.Native.Nat.{ℕ, ◌*◌}
use lib.IntN.{ℤ, pos}
use lib.Bits.{bit_and}
use mir.Syntax.{w16, w32, w64}
use mir.Val.{SFits, Fits, to_z, of_z}
use mir.ValLaws.{to_z-of_z, of_z-to_z}
use Rattle.std.proofs.Math.Facts.{sfits_widen}
use Rattle.fixed.specs.Fixed as Fixed
use Rattle.fixed.specs.Machine.{mask, widens, widened}
use Rattle.reciprocal.specs.Narrow.{normalised}
use Rattle.reciprocal.proofs.reciprocal_bits.Goals as goal
use Rattle.reciprocal.proofs.reciprocal_bits.Goals.{then-size-lt16384, else-size-lt16384}

pub narrow_divide-requires : goal.narrow_divide-requires
narrow_divide-requires c =
    let s = c.before in
    let e : to_z w16 (of_z w16 s.args.size) ≡ s.args.size = to_z-of_z w16 _ s.ranges.size in
    rw e (normalised s.args.size s.ranges.size (simp e at c.if-size-lt16384.false))

pub overflow_cast-divided : goal.overflow_cast-divided
overflow_cast-divided c = let f : SFits w32 c.narrow_divide.result = record { sfits = c.narrow_divide.type_inv } in widens tt f

masked : (size z : ℤ) (x : ℕ) → Fits w64 x → SFits w64 z → to_z w64 x ≡ z → z ≡ Fixed.restoring_divide (pos (16383 * 65536)) size 15 →
    to_z w64 (bit_and x 65535) ≡ pos (Fixed.residue 65536 (Fixed.restoring_divide (pos (16383 * 65536)) size 15))
masked size z x g f e d =
    ap (λ (y : ℕ). to_z w64 (bit_and y 65535)) (sym (of_z-to_z w64 x g) ∙ ap (of_z w64) e) ∙ mask 16 48 z refl (omega arith) f ∙ ap (λ (y : ℤ). pos (Fixed.residue 65536 y)) d

pub returns : goal.returns
returns c =
    let e = to_z-of_z w16 c.args.size c.ranges.size in
    let g : Fits w64 c.if-size-lt16384.divided-bits = search rules in
    elim c.if-size-lt16384.branch [
      | then-size-lt16384 w ↦
          let f : SFits w64 w.restoring_divide-divided.result = search rules in
          masked c.args.size w.restoring_divide-divided.result c.if-size-lt16384.divided-bits g f (w.divided-is ∙ to_z-of_z w64 _ f) (simp e at w.restoring_divide-divided.ensures)
      | else-size-lt16384 w ↦
          let f : SFits w32 w.narrow_divide.result = search rules in
          masked c.args.size w.narrow_divide.result c.if-size-lt16384.divided-bits g (sfits_widen tt f) (w.divided-is ∙ widened tt f) (simp e at w.narrow_divide.ensures)
    ]
