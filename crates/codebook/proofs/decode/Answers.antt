-- The test of the class is that of the definition; where it fails, that the digits fit is that each slot does.
use borrow.Author.Tests.{eq-eqb, ne_eqb}
use Prim.Native.Nat.{ℕ, ◌<◌}
use mathlib.Core.Bool.{true}
use mathlib.Core.Path.{◌≡◌, ap, ◌∙◌}
use mathlib.Core.List.{List}
use lib.IntN.{ℤ}
use Rattle.code_index.specs.declared.Classified.{Classified}
use Rattle.code_index.specs.declared.Innovation.{Innovation}
use Rattle.code_index.specs.Codebook as Codebook
use Rattle.code_index.specs.Ranges.{class_below, slots_fit_lem}
use Rattle.codebook.proofs.decode.Goals as goal
use Rattle.codebook.proofs.decode.Goals.{Else-class-eq-ALT_CLASS}

abbrev made : ℕ → List ℤ → Innovation
made class code = record { code = code; class = class }

module _ (words : List ℤ) (c : Classified) where
  top : c.class ≡ 5 → made c.class (Codebook.alternative words c.rest Codebook.silence) ≡ Codebook.innovation words c
  unfolding Codebook.innovation
  top h = simp (eq-eqb c.class 5 h)

  other : (c.class ≡ 5 → ⊥) → made c.class (Codebook.place_shapes words c.class (Codebook.decompose words c.class c.rest) c.rest Codebook.silence) ≡ Codebook.innovation words c
  unfolding Codebook.innovation
  other h = simp (ne_eqb c.class 5 h)

pub returns-then-class-eq-ALT_CLASS : goal.returns-then-class-eq-ALT_CLASS
unfolding Codebook.decode
returns-then-class-eq-ALT_CLASS c =
    let b = c.before.before in
    let r = b.before.classify-c.result in
    let words = b.before.before.args.words.now in
    ap (made r.class) c.alternative.ensures ∙ top words r b.if-class-eq-ALT_CLASS.true ∙ ap (Codebook.innovation words) b.before.classify-c.ensures

below : (c : goal.Else-class-eq-ALT_CLASS) → c.before.classify-c.result.class < 5
below c = class_below c.before.before.args.words.now c.before.before.args.index c.before.classify-c.result c.before.classify-c.ensures c.if-class-eq-ALT_CLASS.false

pub decompose-positions-requires : goal.decompose-positions-requires
decompose-positions-requires c = record { fact_1 = c.before.before.requires.fact_1; fact_2 = below c }

pub place_shapes-requires : goal.place_shapes-requires
unfolding Codebook.digits_fit
place_shapes-requires c =
    let b = c.before.before in
    let s = b.before.before in
    let words = s.args.words.now in
    let f : Codebook.place_fits words b.before.classify-c.result ≡ true = ap (Codebook.place_fits words) b.before.classify-c.ensures ∙ s.requires.fact_2 in
    record {
      fact_1 = s.requires.fact_1;
      fact_2 = below b;
      fact_3 = ap Codebook.slots_fit c.before.decompose-positions.ensures ∙ slots_fit_lem words b.before.classify-c.result b.if-class-eq-ALT_CLASS.false f;
    }

pub returns : goal.returns
unfolding Codebook.decode
returns c =
    let b = c.before.before.before in
    let r = b.before.classify-c.result in
    let words = b.before.before.args.words.now in
    ap (made r.class)
    (c.place_shapes.ensures ∙ ap (λ (l : List ℤ). Codebook.place_shapes words r.class l r.rest Codebook.silence) c.before.before.decompose-positions.ensures)
    ∙ other words r b.if-class-eq-ALT_CLASS.false
    ∙ ap (Codebook.innovation words) b.before.classify-c.ensures
