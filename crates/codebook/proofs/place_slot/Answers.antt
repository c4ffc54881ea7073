-- The position is one of the 600 and the shape one of the 32.
use native.Mathlib.Omega.{arith}
use mathlib.Core.Bool.{true}
use mathlib.Core.Path.{◌≡◌, ap, ◌∙◌}
use Prim.Native.Nat.{ℕ, ◌+◌, ◌*◌}
use lib.IntN.{ℤ, pos}
use lib.Signed.{mag}
use mir.Syntax.{w16}
use mir.Val.{SFits, to_z, of_z}
use mir.ValLaws.{to_z-of_z}
use Rattle.tables.specs.Tables as Tables
use Rattle.code_index.specs.Codebook as Codebook
use Rattle.code_index.specs.Ranges.{slot_is, position_in_range, shape_in_range}
use Rattle.codebook.proofs.place_slot.Goals as goal

slot_back : (z : ℤ) → SFits w16 z → Codebook.slot_fits z ≡ true → to_z w16 (of_z w16 z) ≡ pos (mag z)
slot_back z f h = to_z-of_z w16 _ f ∙ slot_is z h

pub overflow_cast-at : goal.overflow_cast-at
overflow_cast-at c =
    let p = position_in_range c.args.class c.args.k c.args.slot c.requires.fact_2 c.requires.fact_3 c.requires.fact_4 in
    rw (slot_back c.args.slot c.ranges.slot c.requires.fact_4) (tt, record { fits = omega arith })

pub overflow_add-at-2 : goal.overflow_add-at-2
overflow_add-at-2 c =
    let p = position_in_range c.args.class c.args.k c.args.slot c.requires.fact_2 c.requires.fact_3 c.requires.fact_4 in
    rw (slot_back c.args.slot c.ranges.slot c.requires.fact_4) (record { fits = omega arith })

pub overflow_add-at-3 : goal.overflow_add-at-3
overflow_add-at-3 c =
    let p = position_in_range c.args.class c.args.k c.args.slot c.requires.fact_2 c.requires.fact_3 c.requires.fact_4 in
    rw (slot_back c.args.slot c.ranges.slot c.requires.fact_4) (record { fits = omega arith })

pub unsigned_word-requires : goal.unsigned_word-requires
unsigned_word-requires c =
    let p = position_in_range c.args.class c.args.k c.args.slot c.requires.fact_2 c.requires.fact_3 c.requires.fact_4 in
    rw (slot_back c.args.slot c.ranges.slot c.requires.fact_4) (omega (arith, c.requires.fact_1.words_long))

pub place_shape-requires : goal.place_shape-requires
place_shape-requires c = record {
  fact_1 = c.requires.fact_1.words_long;
  fact_2 = rw (c.from.ensures, c.unsigned_word-2.ensures) (shape_in_range c.args.words.now c.args.class c.args.k c.requires.fact_1 c.requires.fact_2 c.requires.fact_3);
}

pub returns : goal.returns
unfolding Codebook.place_slot
returns c =
    let a = c.args in
    let words = a.words.now in
    let start = c.from-start.ensures ∙ rw (slot_back a.slot c.ranges.slot c.requires.fact_4) at c.unsigned_word.ensures in
    c.place_shape.ensures
    ∙ ap (λ (n : ℕ). Codebook.place_shape words (n + a.k) c.from-start.result a.add a.code.now) (c.from.ensures ∙ c.unsigned_word-2.ensures)
    ∙ ap (λ (n : ℕ). Codebook.place_shape words (Tables.unsigned_word words (198 + 3 * a.class) + a.k) n a.add a.code.now) start
