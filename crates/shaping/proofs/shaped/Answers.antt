-- By the test of the lag.
use mir.ValLaws.{to_z-of_z}
use borrow.Author.Rules.{rules}
use mathlib.Core.Bool.{true, false}
use mathlib.Core.Path.{◌≡◌, ◌∙◌, ap}
use mathlib.Core.List.{List}
use Prim.Native.Nat.{ℕ}
use lib.IntN.{ℤ, pos}
use lib.Signed.{lt_z}
use mir.Syntax.{w16}
use Rattle.fixed.specs.Machine.{back}
use Rattle.code_index.specs.declared.Innovation.{Innovation}
use Rattle.pitch.specs.Pitch as Pitch
use Rattle.half.specs.Core as Spec
use Rattle.shaping.proofs.shaped.Goals as goal

abbrev made : ℕ → List ℤ → Innovation
made class code = record { code = code; class = class }

pub returns-then-lag-lt80 : goal.returns-then-lag-lt80
unfolding Spec.shaped
returns-then-lag-lt80 c =
    let i = c.args.innovation in
    let t : lt_z c.args.lag.integer (pos 80) ≡ true = simp (to_z-of_z w16 c.args.lag.integer (search rules)) at c.if-lag-lt80.true in
    let g = c.sharpen_gain in
    let e : c.sharpen.new.code ≡ Pitch.sharpen (Pitch.interp c.args.words.now) i.code c.args.lag (Spec.sharpen_gain i.class c.args.g) =
    simp (back w16 g.result g.type_inv) at c.sharpen.ensures ∙ ap (λ (z : ℤ). Pitch.sharpen (Pitch.interp c.args.words.now) i.code c.args.lag z) g.ensures in
    ap (made i.class) e ∙ simp t

pub returns : goal.returns
unfolding Spec.shaped
returns c =
    let t : lt_z c.args.lag.integer (pos 80) ≡ false = simp (to_z-of_z w16 c.args.lag.integer (search rules)) at c.if-lag-lt80.false in
    simp t
