-- The two runs make the sum over the window, or the twenty taps do.
use borrow.Author.Rules.{rules}
use native.Mathlib.Omega.{arith}
use mathlib.Core.Path.{◌≡◌, sym, ◌∙◌, ap}
use mathlib.Core.List.{List}
use Prim.Native.Nat.{◌+◌, ◌-◌}
use lib.IntN.{ℤ}
use lib.ListN.{length, take, drop, length-drop}
use lib.Seq.{length-take-le}
use mir.Syntax.{w64}
use Rattle.sequence.specs.All.{and_left, and_right}
use Rattle.sequence.specs.Total.{total}
use Rattle.fixed.specs.Fixed as Fixed
use Rattle.fixed.specs.Machine.{back}
use Rattle.products.specs.Runs as Runs
use Rattle.adaptive.specs.Window as Window
use Rattle.adaptive.proofs.Filter.{length_first, rest_is, length_second, by_runs, by_twenty}
use Rattle.adaptive.proofs.PhaseTaps.interpolated_sample.Goals as goal

pub fold_products-first-requires : goal.fold_products-first-requires
unfolding Window.narrow
fold_products-first-requires c =
    let w = c.args.self.now.window in
    let s : length w ≡ 24 = search rules in
    let e = length_first w c.args.signal.now c.args.from s c.requires in
    (length-take-le 16 w (omega arith) ∙ sym e, omega arith, λ h. and_left (Runs.small (take 16 w)) (Runs.small (drop 16 w)) (sym c.args.self.now.narrowed ∙ c.if-self.true))

pub fold_products-requires : goal.fold_products-requires
unfolding Window.narrow
fold_products-requires c =
    let w = c.args.self.now.window in
    let s : length w ≡ 24 = search rules in
    let e = length_second w c.args.signal.now c.args.from s c.requires in
    let r = rest_is w s in
    (ap length r ∙ omega (arith, length-drop 16 w), omega arith, λ h. ap Runs.small r ∙ and_right (Runs.small (take 16 w)) (Runs.small (drop 16 w)) (sym c.args.self.now.narrowed ∙ c.if-self.true))

pub returns-then-self : goal.returns-then-self
returns-then-self c =
    let a = c.args in
    let w = a.self.now.window in
    let x = a.signal.now in
    let s : length w ≡ 24 = search rules in
    let y : List ℤ = take (a.from + 24 - (a.from + 16)) (drop (a.from + 16) x) in
    let e : c.fold_products.result ≡ total Fixed.fold c.fold_products-first.result (Runs.term (take 8 (drop 16 w)) y) (length y) =
    simp (back w64 c.fold_products-first.result c.fold_products-first.type_inv) at c.fold_products.ensures in
    back w64 c.fold_products.result c.fold_products.type_inv ∙ e
    ∙ ap (λ (t : List ℤ). total Fixed.fold c.fold_products-first.result (Runs.term t y) (length y)) (rest_is w s)
    ∙ ap (λ (z : ℤ). total Fixed.fold z (Runs.term (drop 16 w) y) (length y)) c.fold_products-first.ensures
    ∙ by_runs w x a.from s c.requires

pub returns-else-self : goal.returns-else-self
returns-else-self c =
    let f = c.fold_products-else-self in
    let a = c.args in
    let s : length a.self.now.window ≡ 24 = search rules in
    back w64 f.result f.type_inv ∙ f.ensures ∙ by_twenty a.self.now.window a.signal.now a.from s c.requires a.self.now.ended
