-- One subframe after the other.
use Rattle.tally.specs.Carried.{added, added_all}
use borrow.Author.Rules.{rules}
use mathlib.Core.List.{List, [], ◌∷◌}
use mathlib.Core.Path.{◌≡◌, refl, ◌∙◌}
use native.Mathlib.Omega.{arith}
use lib.ListN.{length, get_or}
use Rattle.half.specs.declared.Clipped.{Clipped}
use Rattle.tally.specs.declared.Clippings.{Clippings}
use Rattle.counting.proofs.added_all.Goals as goal

-- the four of a list of that length
four : (t : Clippings) (l : List Clipped) (d : Clipped) → length l ≡ 4 → added (added (added (added t (get_or l 0 d)) (get_or l 1 d)) (get_or l 2 d)) (get_or l 3 d) ≡ added_all t l
unfolding added_all
four t [] d h = absurd (omega arith)
four t (v ∷ []) d h = absurd (omega arith)
four t (v ∷ w ∷ []) d h = absurd (omega arith)
four t (v ∷ w ∷ x ∷ []) d h = absurd (omega arith)
four t (v ∷ w ∷ x ∷ y ∷ []) d h = refl
four t (v ∷ w ∷ x ∷ y ∷ z ∷ zs) d h = absurd (omega arith)

pub returns : goal.returns
returns c =
    let q = c.before.before in
    let r = q.before.before in
    let s = r.before.before.before.before in
    c.added.ensures ∙ rw (q.added-c.ensures, r.added-b.ensures, r.before.before.added-a.ensures) (four s.args.t s.args.s _ (search rules))
