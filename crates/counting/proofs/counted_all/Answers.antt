-- One subframe after the other.
use Rattle.tally.specs.Carried.{counted, counted_all}
use borrow.Author.Rules.{rules}
use mathlib.Core.List.{List, [], ◌∷◌}
use mathlib.Core.Path.{◌≡◌, refl, ◌∙◌}
use native.Mathlib.Omega.{arith}
use lib.ListN.{length, get_or}
use Rattle.observation.specs.declared.Subframe.{Subframe}
use Rattle.tally.specs.declared.Subframes.{Subframes}
use Rattle.counting.proofs.counted_all.Goals as goal

-- the four of a list of that length
four : (t : Subframes) (l : List Subframe) (d : Subframe) → length l ≡ 4 → counted (counted (counted (counted t (get_or l 0 d)) (get_or l 1 d)) (get_or l 2 d)) (get_or l 3 d) ≡ counted_all t l
unfolding counted_all
four t [] d h = absurd (omega arith)
four t (v ∷ []) d h = absurd (omega arith)
four t (v ∷ w ∷ []) d h = absurd (omega arith)
four t (v ∷ w ∷ x ∷ []) d h = absurd (omega arith)
four t (v ∷ w ∷ x ∷ y ∷ []) d h = refl
four t (v ∷ w ∷ x ∷ y ∷ z ∷ zs) d h = absurd (omega arith)

pub returns : goal.returns
returns c =
    let q = c.before.before in
    let r = q.before.before in
    let s = r.before.before.before.before in
    c.counted.ensures ∙ rw (q.counted-c.ensures, r.counted-b.ensures, r.before.before.counted-a.ensures) (four s.args.t s.args.s _ (search rules))
