-- A test passed by every element of a list, and a loop that tests an element a turn.
use Rattle.std.specs.Prelude.{ℕ, zero, suc, ◌+◌, ◌<◌, ◌≡◌, refl, List, [], ◌∷◌, Bool, true, false, ◌&&◌, T, length, get_or, drop}
use Rattle.std.specs.List.{list_all}
use Rattle.std.proofs.Common.{sym, ◌∙◌, ap, subst, add-one, arith, le_of_suc-le-suc, not-suc-le-zero, drop-cons}

pub is_true : (b : Bool) → T b → b ≡ true
is_true true t = refl
is_true false t = absurd t

pub holds : {b : Bool} → b ≡ true → T b
holds e = subst T (sym e) tt

pub and_left : (a b : Bool) → a && b ≡ true → a ≡ true
and_left true b e = refl
and_left false b e = e

pub and_right : (a b : Bool) → a && b ≡ true → b ≡ true
and_right true b e = e
and_right false b e = cc

module _ {A : Type 0} where
  -- what std says of `iter().all(..)`
  abbrev pub all : (A → Bool) → List A → Bool
  all = list_all

  -- the element at i passes: what is left to test starts one further
  pub all_more : (f : A → Bool) (l : List A) (i : ℕ) (d : A) → i < length l → f (get_or l i d) ≡ true → all f (drop i l) ≡ all f (drop (i + 1) l)
  all_more f l i d h p = rw (add-one, drop-cons l i d, p)

  -- the element at i does not: all of it is false
  pub all_stop : (f : A → Bool) (l : List A) (i : ℕ) (d : A) → i < length l → f (get_or l i d) ≡ false → all f (drop i l) ≡ false
  all_stop f l i d h p = rw (drop-cons l i d, p)

  -- what the test says of each place
  pub all_at : (f : A → Bool) (l : List A) (d : A) → all f l ≡ true → (k : ℕ) → k < length l → f (get_or l k d) ≡ true
  all_at f [] d e k h = absurd (not-suc-le-zero h)
  all_at f (x ∷ xs) d e zero h = and_left (f x) (all f xs) e
  all_at f (x ∷ xs) d e (suc k) h = all_at f xs d (and_right (f x) (all f xs) e) k (le_of_suc-le-suc h)

  -- and how it is shown from each place
  pub all_of : (f : A → Bool) (l : List A) (d : A) → ((k : ℕ) → k < length l → f (get_or l k d) ≡ true) → all f l ≡ true
  all_of f [] d h = refl
  all_of f (x ∷ xs) d h = ap (λ (b : Bool). b && all f xs) (h 0 (omega arith)) ∙ all_of f xs d (λ k p. h (suc k) (omega arith))
