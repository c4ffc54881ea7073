-- What the verdict says: `agree` exactly where the supplier's lines are ours, one by one.
use Rattle.std.specs.Prelude.{ℕ, ◌≡◌, refl, List, [], ◌∷◌, Bool, true, false, get_or}
use Rattle.std.proofs.Common.{ap, arith}
use Rattle.verdict.specs.Verdict.{same, head, says, difference, added, agree, next, judge}
use Rattle.verdict.specs.Same.{same_is, same_self}

-- no other verdict is that word
says_other : (n : ℕ) (w : List ℕ) → says n w ≡ agree → ⊥
unfolding says head
says_other n w e = let b : ◌≡◌ {A = ℕ} 108 97 = ap (λ (l : List ℕ). get_or l 0 0) e in absurd (omega arith)

difference_other : (n : ℕ) (o t : List ℕ) → difference n o t ≡ agree → ⊥
unfolding difference
difference_other n o t e = says_other n _ e

added_other : (n : ℕ) (t : List ℕ) → added n t ≡ agree → ⊥
unfolding added
added_other n t e = says_other n _ e

pub agree_same : (n : ℕ) (os : List (List ℕ)) → judge n os os ≡ agree
unfolding judge
agree_same n [] = refl
agree_same n (o ∷ os) = rw (same_self o) (agree_same (next n) os)

pub agree_only : (n : ℕ) (os ts : List (List ℕ)) → judge n os ts ≡ agree → os ≡ ts
unfolding judge
agree_only n [] [] e = refl
agree_only n [] (t ∷ ts) e = absurd (added_other n t e)
agree_only n (o ∷ os) [] e = absurd (says_other n _ e)
agree_only n (o ∷ os) (t ∷ ts) e = by (same o t) refl (agree_only (next n) os ts)
  where
    by : (b : Bool) → same o t ≡ b → (judge (next n) os ts ≡ agree → os ≡ ts) → o ∷ os ≡ t ∷ ts
    by true q then = rw (same_is o t q, then (rw q at e))
    by false q then = absurd (difference_other n o t (rw q at e))
