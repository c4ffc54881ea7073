-- The test of the class is that of the definition, and a test of all three digits is the three tests.
use borrow.Author.Tests.{eq-eqb, ne_eqb}
use borrow.Author.Rules.{rules}
use native.Mathlib.Omega.{arith}
use mathlib.Core.Bool.{Bool, true, false, ◌&&◌}
use mathlib.Core.Path.{◌≡◌, refl, sym, ap, ◌∙◌}
use mathlib.Core.List.{List, [], ◌∷◌}
use lib.IntN.{ℤ}
use lib.ListN.{length}
use Rattle.std.specs.List.{list_all}
use Rattle.code_index.specs.Codebook as Codebook
use Rattle.code_index.specs.Ranges.{class_below}
use Rattle.code_index.proofs.digits_fit.Goals as goal

regrouped : (a b c : Bool) → (a && (b && (c && true))) ≡ ((a && b) && c)
regrouped true true true = refl
regrouped true true false = refl
regrouped true false c = refl
regrouped false b c = refl

three : (l : List ℤ) → length l ≡ 3 → list_all Codebook.slot_fits l ≡ Codebook.slots_fit l
unfolding Codebook.slots_fit
three [] e = absurd (omega arith)
three (x ∷ []) e = absurd (omega arith)
three (x ∷ y ∷ []) e = absurd (omega arith)
three (x ∷ y ∷ z ∷ []) e = regrouped (Codebook.slot_fits x) (Codebook.slot_fits y) (Codebook.slot_fits z)
three (x ∷ y ∷ z ∷ w ∷ l) e = absurd (omega arith)

pub decompose-requires-clause-fact_2 : goal.decompose-requires-clause-fact_2
decompose-requires-clause-fact_2 c = class_below c.args.words.now c.args.index c.classify-c.result c.classify-c.ensures c.if-c-eq-ALT_CLASS.false

pub returns-then-c-eq-ALT_CLASS : goal.returns-then-c-eq-ALT_CLASS
unfolding Codebook.digits_fit Codebook.place_fits
returns-then-c-eq-ALT_CLASS c =
    let e = eq-eqb c.classify-c.result.class 5 c.if-c-eq-ALT_CLASS.true in
    simp (sym c.classify-c.ensures, e)

pub returns-else-c-eq-ALT_CLASS : goal.returns-else-c-eq-ALT_CLASS
unfolding Codebook.digits_fit Codebook.place_fits
returns-else-c-eq-ALT_CLASS c =
    let e = ne_eqb c.classify-c.result.class 5 c.if-c-eq-ALT_CLASS.false in
    simp (sym c.classify-c.ensures, e) (c.slots_fit.ensures ∙ three c.decompose.result (search rules) ∙ ap (λ (l : List ℤ). Codebook.slots_fit l) c.decompose.ensures)
