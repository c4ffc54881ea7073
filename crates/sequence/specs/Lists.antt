-- A test that each element passes; and what a sort is held to: the list rises, by a test, and every count over it stays. The two settle a list of whole numbers.
use Rattle.std.specs.Prelude.{◌≡◌, ℕ, ◌+◌, ◌<◌, Bool, ◌&&◌, ℤ, pos, negsuc, length, get_or}
use Rattle.std.proofs.Math.Path.{refl}
use Rattle.std.proofs.Common.{sym, ap, ◌∙◌, subst, le_trans, true≢false, le-leb, leb-true}
use mathlib.Core.List.{List, [], ◌∷◌, map}
use native.Mathlib.Omega.{arith}
use Rattle.std.proofs.Math.Bool.{true, false, cond}
use Rattle.std.proofs.lemmas.Bool.{false≢true}
use Rattle.std.proofs.Math.Dec.{T}
use Rattle.std.specs.Int.Signed.{le_z}
use Rattle.sequence.specs.Table.{table, get_or_table, length_table}
use Rattle.sequence.specs.All.{all, all_at, all_of, is_true, holds, and_left, and_right}

-- 1 for a test that is not passed
weigh : Bool → ℕ
weigh b = cond b 0 1

module _ {A : Type 0} where
  -- each passes the test with the one after it
  abbrev pub Rising : (A → A → Bool) → List A → Type 0
  Rising R [] = Unit
  Rising R (x ∷ []) = Unit
  Rising R (x ∷ (y ∷ l)) = (R x y ≡ true) × Rising R (y ∷ l)

  -- each passes a test by itself: `all`, as a proof that is taken apart element by element
  abbrev pub Each : (A → Bool) → List A → Type 0
  Each p [] = Unit
  Each p (x ∷ l) = T (p x) × Each p l

  pub each_all : (p : A → Bool) (l : List A) → Each p l → all p l ≡ true
  each_all p [] h = refl
  each_all p (x ∷ l) h = ap (λ (b : Bool). b && all p l) (is_true (p x) h.0) ∙ each_all p l h.1

  all_each : (p : A → Bool) (l : List A) → all p l ≡ true → Each p l
  all_each p [] e = tt
  all_each p (x ∷ l) e = (holds (and_left (p x) (all p l) e), all_each p l (and_right (p x) (all p l) e))

  pub each_at : (p : A → Bool) (l : List A) (d : A) → Each p l → (k : ℕ) → k < length l → T (p (get_or l k d))
  each_at p l d h k g = holds (all_at p l d (each_all p l h) k g)

  pub each_table : (p : A → Bool) (f : ℕ → A) (n : ℕ) → ((k : ℕ) → k < n → T (p (f k))) → Each p (table f n)
  each_table p f n h =
      let z = length_table f n in
      all_each p (table f n) (all_of p (table f n) (f 0) (λ k g. ap p (get_or_table f n k (f 0) (omega arith)) ∙ is_true (p (f k)) (h k (omega arith))))

  -- the counts, each element weighed by f
  unfoldable pub tally : (A → ℕ) → List A → ℕ
  tally f [] = 0
  tally f (x ∷ l) = f x + tally f l

  -- the same elements, each as often, in any order
  abbrev pub Same : List A → List A → Type 0
  Same k l = (f : A → ℕ) → tally f k ≡ tally f l

  -- a test that all of one pass all of the other pass
  none_fails : (p : A → Bool) (l : List A) → Each p l → tally (λ x. weigh (p x)) l ≡ 0
  unfolding tally weigh
  none_fails p [] h = refl
  none_fails p (x ∷ l) h = go (p x) h.0 (none_fails p l h.1)
    where
      go : (b : Bool) → T b → tally (λ x. cond (p x) 0 1) l ≡ 0 → cond b 0 1 + tally (λ x. cond (p x) 0 1) l ≡ 0
      go true t e = omega arith
      go false t e = absurd t

  all_pass : (p : A → Bool) (l : List A) → tally (λ x. weigh (p x)) l ≡ 0 → Each p l
  unfolding tally weigh
  all_pass p [] h = tt
  all_pass p (x ∷ l) h = go (p x) refl h (all_pass p l)
    where
      go : (b : Bool) → p x ≡ b → cond b 0 1 + tally (λ x. cond (p x) 0 1) l ≡ 0 → (tally (λ x. cond (p x) 0 1) l ≡ 0 → Each p l) → T (p x) × Each p l
      go true e k ih = (subst T (sym e) tt, ih (omega arith))
      go false e k ih = absurd (omega arith)

  pub each_same : (p : A → Bool) (k l : List A) → Same k l → Each p l → Each p k
  each_same p k l s h = all_pass p k (s (λ x. weigh (p x)) ∙ none_fails p l h)

  -- the number of the elements is one of the counts
  tally_length : (l : List A) → tally (λ x. 1) l ≡ length l
  unfolding tally
  tally_length [] = refl
  tally_length (x ∷ l) = let e = tally_length l in omega arith

  pub same_length : (k l : List A) → Same k l → length k ≡ length l
  same_length k l s = sym (tally_length k) ∙ s (λ x. 1) ∙ tally_length l

pub tally_map : {A B : Type 0} (g : A → B) (f : B → ℕ) (l : List A) → tally f (map g l) ≡ tally (λ x. f (g x)) l
unfolding tally
tally_map g f [] = refl
tally_map g f (x ∷ l) = ap (λ (n : ℕ). f (g x) + n) (tally_map g f l)

-- ---- the order of whole numbers
le_z_refl : (a : ℤ) → le_z a a ≡ true
le_z_refl (pos a) = le-leb a a (omega arith)
le_z_refl (negsuc a) = le-leb a a (omega arith)

le_z_trans : (a b c : ℤ) → le_z a b ≡ true → le_z b c ≡ true → le_z a c ≡ true
le_z_trans (pos a) (pos b) (pos c) h k = le-leb a c (le_trans (leb-true a b h) (leb-true b c k))
le_z_trans (pos a) (pos b) (negsuc c) h k = k
le_z_trans (pos a) (negsuc b) c h k = absurd (false≢true h)
le_z_trans (negsuc a) b (pos c) h k = refl
le_z_trans (negsuc a) (pos b) (negsuc c) h k = absurd (false≢true k)
le_z_trans (negsuc a) (negsuc b) (negsuc c) h k = le-leb c a (le_trans (leb-true c b k) (leb-true b a h))

le_z_antisym : (a b : ℤ) → le_z a b ≡ true → le_z b a ≡ true → a ≡ b
le_z_antisym (pos a) (pos b) h k = let p = leb-true a b h in let q = leb-true b a k in let e : a ≡ b = omega arith in ap pos e
le_z_antisym (pos a) (negsuc b) h k = absurd (false≢true h)
le_z_antisym (negsuc a) (pos b) h k = absurd (false≢true k)
le_z_antisym (negsuc a) (negsuc b) h k = let p = leb-true b a h in let q = leb-true a b k in let e : a ≡ b = omega arith in ap negsuc e

-- how many are at most t
up_to : ℤ → ℤ → ℕ
up_to t z = cond (le_z z t) 1 0

-- none is where the first is not
none_below : (y t : ℤ) (l : List ℤ) → Rising le_z (y ∷ l) → le_z y t ≡ false → tally (up_to t) (y ∷ l) ≡ 0
unfolding tally up_to
none_below y t [] r h = rw h
none_below y t (z ∷ l) r h = go (le_z z t) refl (none_below z t l r.1)
  where
    go : (b : Bool) → le_z z t ≡ b → (le_z z t ≡ false → cond (le_z z t) 1 0 + tally (λ x. cond (le_z x t) 1 0) l ≡ 0) → cond (le_z y t) 1 0 + (cond (le_z z t) 1 0 + tally (λ x. cond (le_z x t) 1 0) l) ≡ 0
    go true e ih = absurd (true≢false (sym (le_z_trans y z t r.0 e) ∙ h))
    go false e ih = let f = ih e in rw h (omega arith)

-- so a rising list begins with a number no larger than any that another with the same counts begins with
first_least : (x y : ℤ) (k l : List ℤ) → Rising le_z (y ∷ l) → Same (x ∷ k) (y ∷ l) → le_z y x ≡ true
unfolding tally up_to
first_least x y k l r s = go (le_z y x) refl
  where
    counted : (b : Bool) → le_z x x ≡ b → b ≡ true → 0 < cond (le_z x x) 1 0 + tally (λ z. cond (le_z z x) 1 0) k
    counted true e h = rw e (omega arith)
    counted false e h = absurd (false≢true h)

    go : (b : Bool) → le_z y x ≡ b → b ≡ true
    go true e = refl
    go false e =
        let z : tally (up_to x) (y ∷ l) ≡ 0 = none_below y x l r e in
        let q : 0 < tally (up_to x) (x ∷ k) = counted true (le_z_refl x) refl in
        absurd (let w = s (up_to x) in omega arith)

rest : (R : ℤ → ℤ → Bool) (x : ℤ) (l : List ℤ) → Rising R (x ∷ l) → Rising R l
rest R x [] r = tt
rest R x (y ∷ l) r = r.1

-- two rising lists with the same counts are one
pub settled : (k l : List ℤ) → Rising le_z k → Rising le_z l → Same k l → k ≡ l
unfolding tally
settled [] [] p q s = refl
settled [] (y ∷ l) p q s = absurd (let e = s (λ x. 1) in omega arith)
settled (x ∷ k) [] p q s = absurd (let e = s (λ x. 1) in omega arith)
settled (x ∷ k) (y ∷ l) p q s =
    let e : x ≡ y = le_z_antisym x y (first_least y x l k p (λ f. sym (s f))) (first_least x y k l q s) in
    ap (λ (z : ℤ). z ∷ k) e
    ∙ ap (λ (t : List ℤ). y ∷ t) (settled k l (rest le_z x k p) (rest le_z y l q) (λ f. let h = s f in let g : f x ≡ f y = ap f e in omega arith))
