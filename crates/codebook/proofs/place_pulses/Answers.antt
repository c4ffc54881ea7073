-- A turn is one pulse; an entry's size is a place from 1 to 80.
use native.Mathlib.Omega.{arith}
use borrow.Author.Rules.{rules}
use mathlib.Core.List.{List}
use mathlib.Core.Path.{◌≡◌, refl, ap, ◌∙◌}
use Prim.Native.Nat.{ℕ, ◌+◌, ◌-◌, ◌≤◌, ◌<◌}
use lib.IntN.{ℤ, pos}
use lib.ListN.{length, get_or, take, drop, length-take, length-drop}
use lib.Seq.{get_or-take, get_or-drop}
use mir.Syntax.{w16}
use mir.Val.{to_z, of_z}
use Rattle.sequence.specs.Repeated.{repeated, repeated_again, repeated_end}
use Rattle.fixed.specs.Abs.{mag≤abs}
use Rattle.fixed.specs.Machine.{back}
use Rattle.tables.specs.SoundWords.{entry_at}
use Rattle.code_index.specs.Codebook as Codebook
use Rattle.codebook.proofs.place_pulses.Goals as goal

abbrev entries : List ℤ → ℕ → List ℤ
entries words row = take (row + 5 - row) (drop row words)

five : (words : List ℤ) (row : ℕ) → row + 5 ≤ length words → length (entries words row) ≡ 5
five words row h = simp (length-take, length-drop) (omega arith)

entry_is : (words : List ℤ) (row i : ℕ) → i < 5 → get_or (entries words row) i (pos 0) ≡ get_or words (row + i) (pos 0)
entry_is words row i h = get_or-take (row + 5 - row) (drop row words) i (pos 0) (omega arith) ∙ get_or-drop row words i (pos 0)

pub loop-entry-init : goal.loop-entry-init
unfolding repeated
loop-entry-init c = (omega arith, refl)

pub place_pulse-requires : goal.place_pulse-requires
place_pulse-requires c =
    let words = c.args.words.now in
    let row = c.args.row in
    let i = c.loop-entry.entry-index in
    let h : i < 5 = omega (arith, c.loop-entry-test.true, five words row (omega (arith, c.requires.fact_1.words_long))) in
    let e = entry_at c.requires.fact_1 (row + i) (omega arith) (omega arith) in
    rw (entry_is words row i h, back w16 (get_or words (row + i) (pos 0)) (search rules)) (record { fact_1 = e.0; fact_2 = e.1 })

pub loop-entry-preserved : goal.loop-entry-preserved
loop-entry-preserved c =
    let words = c.args.words.now in
    let row = c.args.row in
    let i = c.loop-entry.entry-index in
    let h : i < 5 = omega (arith, c.loop-entry-test.true, five words row (omega (arith, c.requires.fact_1.words_long))) in
    let e = entry_at c.requires.fact_1 (row + i) (omega arith) (omega arith) in
    let z = get_or words (row + i) (pos 0) in (
      omega arith,
      repeated_again _ i c.args.code.now c.loop-entry.invariant.1
          (c.place_pulse.ensures
          ∙ ap (λ (z : ℤ). Codebook.place_pulse (to_z w16 (of_z w16 z)) c.loop-entry.code) (entry_is words row i h)
          ∙ ap (λ (z : ℤ). Codebook.place_pulse z c.loop-entry.code) (back w16 z (omega (arith, mag≤abs z, e.1)))),
    )

pub returns : goal.returns
unfolding Codebook.place_pulses
returns c = repeated_end _ _ c.loop-entry.invariant.0 (omega (arith, c.loop-entry-test.false, five c.args.words.now c.args.row (omega (arith, c.requires.fact_1.words_long)))) c.loop-entry.invariant.1
