-- By the match's keys.
use borrow.Author.Rules.{rules}
use borrow.Author.Tests.{ne_eqb}
use native.Mathlib.Omega.{arith}
use mathlib.Core.Path.{◌≡◌, refl, sym, ◌∙◌}
use Prim.Native.Nat.{ℕ, zero, suc, ◌<◌}
use Rattle.std.specs.Prelude.{◌≢◌}
use mir.Syntax.{w16}
use mir.ValLaws.{to_z-of_z}
use Rattle.excitation.specs.declared.InterpolationGains.{InterpolationGains}
use Rattle.half.specs.Core.{sharpen_gain}
use Rattle.shaping.proofs.sharpen_gain.Goals as goal

voiced : (k : ℕ) (g : InterpolationGains) → k < 6 → k ≢ 0 → k ≢ 3 → k ≢ 4 → sharpen_gain k g ≡ g.voiced
unfolding sharpen_gain
voiced zero g h a b c = absurd (a refl)
voiced (suc zero) g h a b c = refl
voiced (suc (suc zero)) g h a b c = refl
voiced (suc (suc (suc zero))) g h a b c = absurd (b refl)
voiced (suc (suc (suc (suc zero)))) g h a b c = absurd (c refl)
voiced (suc (suc (suc (suc (suc zero))))) g h a b c = refl
voiced (suc (suc (suc (suc (suc (suc k)))))) g h a b c = absurd (omega arith)

pub returns-in-1 : goal.returns-in-1
returns-in-1 c = to_z-of_z w16 c.args.g.voiced (search rules) ∙ sym (voiced c.args.class c.args.g (grind arith) (grind arith) (grind arith) (grind arith))

pub returns-in_default : goal.returns-in_default
unfolding sharpen_gain
returns-in_default c =
    let a : c.args.class ≢ 1 = omega arith in
    let b : c.args.class ≢ 2 = omega arith in
    let d : c.args.class ≢ 5 = omega arith in
    to_z-of_z w16 c.args.g.fixed (search rules) ∙ simp (ne_eqb _ 1 a, ne_eqb _ 2 b, ne_eqb _ 5 d)
