-- One term after the other, as the calls gave them; the newest of those fed back comes in last.
use borrow.Author.Rules.{rules}
use mathlib.Core.Path.{◌≡◌, ◌∙◌, ap}
use Prim.Native.Nat.{ℕ}
use lib.IntN.{ℤ, pos, ◌+ℤ◌, +ℤ_idl}
use mir.Syntax.{w16, w32, w64}
use mir.Val.{to_z, of_z}
use mir.ValLaws.{to_z-of_z}
use Rattle.sequence.specs.Total.{total}
use Rattle.fixed.specs.Fixed as Fixed
use Rattle.fixed.specs.Fixed.{fold}
use Rattle.fixed.specs.Sums.{fold_acc_right, fold_swap}
use Rattle.fixed.specs.Machine.{back}
use Rattle.output_filter.specs.Postfilter as Postfilter
use Rattle.output_filter.specs.Postfilter.{at}
use Rattle.output_filter.specs.Sections as Sections
use Rattle.sections.proofs.section_sum.Goals as goal
use Rattle.sections.proofs.section_sum.Goals.{After-fold-b4, After-fold-b5, After-forward-b0, After-forward-b1, After-forward-b2, After-forward-b3, Start}

-- a term wrapped by itself, and the terms in the other order
wrapped : (s t : ℤ) → fold s (fold (pos 0) t) ≡ fold s t
unfolding fold
wrapped s t = fold_acc_right s (pos 0 +ℤ t) ∙ ap (fold s) (+ℤ_idl t)

turned : (s t u v : ℤ) → fold (fold (fold s t) u) v ≡ fold (fold (fold s v) u) t
turned s t u v = ap (λ (z : ℤ). fold z v) (fold_swap s t u) ∙ fold_swap (fold s u) t v ∙ ap (λ (z : ℤ). fold z t) (fold_swap s u v)

module _ (s : goal.Start) where
  abbrev fir : ℕ → ℤ
  fir k = at s.args.lines.fir k

  abbrev ff : ℕ → ℤ
  ff k = at s.args.taps.ff k

  abbrev term : ℕ → ℤ
  term k = Postfilter.back (at s.args.lines.iir k) (at s.args.taps.fb k)

  abbrev B0 : ℤ
  B0 = Fixed.acc (Fixed.mul s.args.value (ff 0))

  abbrev B1 : ℤ
  B1 = fold B0 (Fixed.mul (fir 0) (ff 1))

  abbrev B2 : ℤ
  B2 = fold B1 (Fixed.mul (fir 1) (ff 2))

  abbrev B3 : ℤ
  B3 = fold B2 (Fixed.mul (fir 2) (ff 3))

  abbrev B4 : ℤ
  B4 = fold B3 (term 2)

  abbrev B5 : ℤ
  B5 = fold B4 (term 1)

-- where the function began
abbrev s1 : goal.After-forward-b0 → goal.Start
s1 c = c.before.before.before.before.before.before

abbrev s2 : goal.After-forward-b1 → goal.Start
s2 c = s1 c.before.before.before

abbrev s3 : goal.After-forward-b2 → goal.Start
s3 c = s2 c.before.before.before

abbrev s4 : goal.After-forward-b3 → goal.Start
s4 c = s3 c.before.before.before

abbrev s5 : goal.After-fold-b4 → goal.Start
s5 c = s4 c.before.before.before.before

abbrev s6 : goal.After-fold-b5 → goal.Start
s6 c = s5 c.before.before.before.before

b0_is : (c : goal.After-forward-b0) → to_z w64 (of_z w64 c.forward-b0.result) ≡ B0 (s1 c)
unfolding fold
b0_is c =
    let s = s1 c in
    back w64 c.forward-b0.result c.forward-b0.type_inv
    ∙ simp (to_z-of_z w16 _ s.ranges.value, back w16 (ff s 0) (search rules)) at c.forward-b0.ensures
    ∙ ap (λ (z : ℤ). Fixed.acc z) (+ℤ_idl (Fixed.mul s.args.value (ff s 0)))

b1_is : (c : goal.After-forward-b1) → to_z w64 (of_z w64 c.forward-b1.result) ≡ B1 (s2 c)
b1_is c =
    back w64 c.forward-b1.result c.forward-b1.type_inv
    ∙ simp (b0_is c.before.before.before, back w16 (fir (s2 c) 0) (search rules), back w16 (ff (s2 c) 1) (search rules)) at c.forward-b1.ensures

b2_is : (c : goal.After-forward-b2) → to_z w64 (of_z w64 c.forward-b2.result) ≡ B2 (s3 c)
b2_is c =
    back w64 c.forward-b2.result c.forward-b2.type_inv
    ∙ simp (b1_is c.before.before.before, back w16 (fir (s3 c) 1) (search rules), back w16 (ff (s3 c) 2) (search rules)) at c.forward-b2.ensures

b3_is : (c : goal.After-forward-b3) → to_z w64 (of_z w64 c.forward-b3.result) ≡ B3 (s4 c)
b3_is c =
    back w64 c.forward-b3.result c.forward-b3.type_inv
    ∙ simp (b2_is c.before.before.before, back w16 (fir (s4 c) 2) (search rules), back w16 (ff (s4 c) 3) (search rules)) at c.forward-b3.ensures

b4_is : (c : goal.After-fold-b4) → to_z w64 (of_z w64 c.fold-b4.result) ≡ B4 (s5 c)
b4_is c =
    let b = c.before in
    let s = s5 c in
    let t = back w64 b.back.result b.back.type_inv ∙ simp (back w32 (at s.args.lines.iir 2) (search rules), back w16 (at s.args.taps.fb 2) (search rules)) at b.back.ensures in
    back w64 c.fold-b4.result c.fold-b4.type_inv ∙ simp (b3_is b.before.before.before, t) at c.fold-b4.ensures ∙ wrapped (B3 s) (term s 2)

b5_is : (c : goal.After-fold-b5) → to_z w64 (of_z w64 c.fold-b5.result) ≡ B5 (s6 c)
b5_is c =
    let b = c.before in
    let s = s6 c in
    let t = back w64 b.back-2.result b.back-2.type_inv ∙ simp (back w32 (at s.args.lines.iir 1) (search rules), back w16 (at s.args.taps.fb 1) (search rules)) at b.back-2.ensures in
    back w64 c.fold-b5.result c.fold-b5.type_inv ∙ simp (b4_is b.before.before.before, t) at c.fold-b5.ensures ∙ wrapped (B4 s) (term s 1)

pub returns : goal.returns
unfolding Sections.line_sum Postfilter.section_sum Postfilter.inputs total
returns c =
    let b = c.before in
    let s = s6 b.before.before.before in
    let t = back w64 b.back-3.result b.back-3.type_inv ∙ simp (back w32 (at s.args.lines.iir 0) (search rules), back w16 (at s.args.taps.fb 0) (search rules)) at b.back-3.ensures in
    back w64 c.fold.result c.fold.type_inv ∙ simp (b5_is b.before.before.before, t) at c.fold.ensures ∙ wrapped (B5 s) (term s 0)
    ∙ turned (B3 s) (term s 2) (term s 1) (term s 0)
