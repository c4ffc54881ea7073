-- `sort` gives the same elements, each as often, and they rise by a test that `less` decides.
use Rattle.std.specs.Prelude.{◌≡◌, ℕ, ◌+◌, Bool, T}
use Rattle.std.proofs.Math.Path.{refl, ap}
use Rattle.std.proofs.Common.{◌∙◌}
use mathlib.Core.List.{List, [], ◌∷◌}
use native.Mathlib.Omega.{arith}
use Rattle.std.proofs.Math.Bool.{true, false, cond}
use Rattle.spectral.specs.Spectral.{insert, sort}
use Rattle.sequence.specs.Lists.{Rising, Each, Same, tally}

module _ {A : Type 0} (less : A → A → Bool) where
  -- ---- the same elements
  tally_insert : (f : A → ℕ) (x : A) (l : List A) → tally f (insert less x l) ≡ f x + tally f l
  unfolding tally insert
  tally_insert f x [] = refl
  tally_insert f x (y ∷ l) = go (less y x) (tally_insert f x l)
    where
      go : (b : Bool) → tally f (insert less x l) ≡ f x + tally f l → tally f (cond b (y ∷ insert less x l) (x ∷ (y ∷ l))) ≡ f x + (f y + tally f l)
      go true e = omega arith
      go false e = refl

  pub sort_same : (l : List A) → Same (sort less l) l
  unfolding tally sort
  sort_same [] f = refl
  sort_same (x ∷ l) f = tally_insert f x (sort less l) ∙ ap (λ (n : ℕ). f x + n) (sort_same l f)

  -- ---- a test that each passes by itself
  each_insert : (p : A → Bool) (x : A) (l : List A) → T (p x) → Each p l → Each p (insert less x l)
  unfolding insert
  each_insert p x [] h k = (h, tt)
  each_insert p x (y ∷ l) h k = go (less y x) (each_insert p x l h k.1)
    where
      go : (b : Bool) → Each p (insert less x l) → Each p (cond b (y ∷ insert less x l) (x ∷ (y ∷ l)))
      go true e = (k.0, e)
      go false e = (h, k)

  pub sort_each : (p : A → Bool) (l : List A) → Each p l → Each p (sort less l)
  unfolding sort
  sort_each p [] h = tt
  sort_each p (x ∷ l) h = each_insert p x (sort less l) h.0 (sort_each p l h.1)

  -- ---- they rise by R, which holds where `less` does and the other way round where it does not
  module _ (p : A → Bool) (R : A → A → Bool) (yes : (x y : A) → less x y ≡ true → R x y ≡ true) (no : (x y : A) → T (p x) → T (p y) → less x y ≡ false → R y x ≡ true) where
    rising_insert : (x : A) (l : List A) → T (p x) → Each p l → Rising R l → Rising R (insert less x l)
    unfolding insert
    rising_insert x [] h k r = tt
    rising_insert x (y ∷ []) h k r = go (less y x) refl
      where
        go : (b : Bool) → less y x ≡ b → Rising R (cond b (y ∷ (x ∷ [])) (x ∷ (y ∷ [])))
        go true e = (yes y x e, tt)
        go false e = (no y x k.0 h e, tt)
    rising_insert x (y ∷ (z ∷ l)) h k r = go (less y x) (less z x) refl (rising_insert x (z ∷ l) h k.1 r.1)
      where
        go : (b c : Bool) → less y x ≡ b → Rising R (cond c (z ∷ insert less x l) (x ∷ (z ∷ l))) → Rising R (cond b (y ∷ cond c (z ∷ insert less x l) (x ∷ (z ∷ l))) (x ∷ (y ∷ (z ∷ l))))
        go true true e ih = (r.0, ih)
        go true false e ih = (yes y x e, ih)
        go false c e ih = (no y x k.0 h e, r)

    pub sort_rises : (l : List A) → Each p l → Rising R (sort less l)
    unfolding sort
    sort_rises [] h = tt
    sort_rises (x ∷ l) h = rising_insert x (sort less l) h.0 (sort_each p l h.1) (sort_rises l h.1)
