-- `sort_by(f32::total_cmp)` and `sort` give the same frequencies where no NaN stands. The two orders differ in the two zeros alone, and the floor and the gaps wipe these out.
use Rattle.std.specs.Prelude.{◌≡◌, refl, List, [], ◌∷◌, map, ◌⊎◌, ℕ, zero, suc, ◌<◌, Bool, true, false, cond, ◌&&◌, ℤ, pos, negsuc, T, leb, get_or, set, Float}
use Rattle.std.proofs.Common.{sym, ap, ◌∙◌, inl, inr, le_of_lt, le_of_eq, eq-or-lt_of_le, arith, true≢false, le-leb, leb-true, ltb-true, ltb-false}
use Rattle.std.proofs.lemmas.Bool.{false≢true}
use Rattle.std.specs.Int.Signed.{le_z, lt_z}
use Rattle.std.specs.Float.{nan, binary32}
use Rattle.std.specs.Float.Ieee.{fits, le, lt, add, of_bits, to_bits}
use Rattle.std.specs.Float.Ieee.Fits.{and_l, and_r}
use Rattle.std.specs.Float.Ieee.Scale.{finite}
use Rattle.std.specs.Float.Ieee.Positive.{above}
use Rattle.floats.specs.Compared.{signed, neg_neg, neg_pos}
use Rattle.floats.specs.Patterns.{units_of, units_up}
use Rattle.floats.specs.Numbers.{negative, pattern, number_of, Finite32, Zero, le_number, same_number}
use Rattle.floats.specs.Order.{not_below, below_le}
use Rattle.sequence.specs.Table.{table, table_same}
use Rattle.spectral.specs.Spectral.{sort, larger, smaller, spaced_at, spread, FLOOR, GAP, CEILING}
use Rattle.spectral.specs.Above.{floor_above, larger_above, above_zero, gap_above}
use Rattle.sequence.specs.Lists.{Rising, Each, Same, each_same, tally_map, settled}
use Rattle.spectral.specs.Sorted.{sort_same, sort_each, sort_rises}

-- what total_cmp compares: a float's bits as a signed number, those below the sign flipped where the sign is set
unfoldable pub total_key : Float → ℤ
total_key x = cond (negative x) (negsuc (pattern x)) (pos (pattern x))

-- -0 is before +0
zero_keys : (total_key (of_bits binary32 0x8000_0000) ≡ negsuc 0) × (total_key (of_bits binary32 0) ≡ pos 0)
unfolding total_key to_bits of_bits
zero_keys = (refl, refl)

abbrev pub total_le : Float → Float → Bool
total_le x y = le_z (total_key x) (total_key y)

abbrev pub total_less : Float → Float → Bool
total_less x y = lt_z (total_key x) (total_key y)

-- an f32 that is neither a NaN nor an infinity
abbrev pub finite32 : Float → Bool
finite32 x = fits binary32 x && finite x

-- ---- what rises by total_cmp rises by its numbers
units_le : (p q : ℕ) → leb p q ≡ true → leb (units_of p) (units_of q) ≡ true
units_le p q h = go (eq-or-lt_of_le (leb-true p q h))
  where
    go : (p ≡ q) ⊎ (p < q) → leb (units_of p) (units_of q) ≡ true
    go (inl e) = le-leb (units_of p) (units_of q) (le_of_eq (ap units_of e))
    go (inr l) = le-leb (units_of p) (units_of q) (le_of_lt (units_up p q l))

key_number : (s t : Bool) (p q : ℕ) → le_z (cond s (negsuc p) (pos p)) (cond t (negsuc q) (pos q)) ≡ true → le_z (signed s (units_of p)) (signed t (units_of q)) ≡ true
key_number false false p q h = units_le p q h
key_number false true p q h = absurd (false≢true h)
key_number true false p q h = sym (neg_pos (units_of p) (units_of q))
key_number true true p q h = sym (neg_neg (units_of p) (units_of q)) ∙ units_le q p h

by_total : (l : List Float) → Rising total_le l → Rising le_z (map number_of l)
unfolding total_key number_of
by_total [] r = tt
by_total (x ∷ []) r = tt
by_total (x ∷ (y ∷ l)) r = (key_number (negative x) (negative y) (pattern x) (pattern y) r.0, by_total (y ∷ l) r.1)

both : (x : Float) → T (finite32 x) → Finite32 x
both x h = (and_l (fits binary32 x) (finite x) h, and_r (fits binary32 x) (finite x) h)

by_le : (l : List Float) → Each finite32 l → Rising le l → Rising le_z (map number_of l)
by_le [] h r = tt
by_le (x ∷ []) h r = tt
by_le (x ∷ (y ∷ l)) h r = (sym (le_number x y (both x h.0) (both y h.1.0)) ∙ r.0, by_le (y ∷ l) h.1 r.1)

-- `sort lt` gives what rises
pub sort_le : (l : List Float) → Each finite32 l → Rising le (sort lt l)
sort_le = sort_rises lt finite32 le below_le (λ x y p q h. not_below x y (both x p).1 (both y q).1 h)

same_numbers : (l s : List Float) → Each finite32 l → Same s l → Rising total_le s → map number_of s ≡ map number_of (sort lt l)
same_numbers l s h k r =
    settled (map number_of s) (map number_of (sort lt l)) (by_total s r) (by_le (sort lt l) (sort_each lt finite32 l h) (sort_le l h))
    (λ f. tally_map number_of f s ∙ k (λ x. f (number_of x)) ∙ sym (sort_same lt l (λ x. f (number_of x))) ∙ sym (tally_map number_of f (sort lt l)))

-- ---- so place by place they are equal, or the two zeros
abbrev Alike : Float → Float → Type 0
Alike x y = (x ≡ y) ⊎ (Zero x × Zero y)

alike_at : (k l : List Float) → Each finite32 k → Each finite32 l → map number_of k ≡ map number_of l → (i : ℕ) → Alike (get_or k i nan) (get_or l i nan)
alike_at [] [] p q e i = inl refl
alike_at [] (y ∷ l) p q e i = let z : ◌≡◌ {A = ℕ} 0 1 = cc in absurd (omega arith)
alike_at (x ∷ k) [] p q e i = let z : ◌≡◌ {A = ℕ} 0 1 = cc in absurd (omega arith)
alike_at (x ∷ k) (y ∷ l) p q e zero = let h : number_of x ≡ number_of y = cc in same_number x y (both x p.0) (both y q.0) h
alike_at (x ∷ k) (y ∷ l) p q e (suc i) = let t : map number_of k ≡ map number_of l = cc in alike_at k l p.1 q.1 t i

-- ---- and spread they are equal
larger_same : (x y p : Float) → Alike x y → T (above p) → larger x p ≡ larger y p
larger_same x y p (inl e) a = ap (λ (z : Float). larger z p) e
larger_same x y p (inr z) a = rw (above_zero p x a z.0, above_zero p y a z.1)

spaced_same : (k l : List Float) → ((i : ℕ) → Alike (get_or k i nan) (get_or l i nan)) → (i : ℕ) → (spaced_at k i ≡ spaced_at l i) × T (above (spaced_at k i))
unfolding spaced_at
spaced_same k l h zero = (larger_same (get_or k 0 nan) (get_or l 0 nan) FLOOR (h 0) floor_above, larger_above (get_or k 0 nan) FLOOR floor_above)
spaced_same k l h (suc i) =
    let r = spaced_same k l h i in
    let p = add binary32 (spaced_at k i) GAP in
    let a = gap_above (spaced_at k i) r.1 in
    (larger_same (get_or k (suc i) nan) (get_or l (suc i) nan) p (h (suc i)) a ∙ ap (λ (z : Float). larger (get_or l (suc i) nan) (add binary32 z GAP)) r.0, larger_above (get_or k (suc i) nan) p a)

-- the gaps, and then the ceiling
abbrev pub spaced : List Float → List Float
spaced l = set (table (spaced_at l) 10) 9 (smaller (spaced_at l 9) CEILING)

all_same : (k l : List Float) → ((i : ℕ) → Alike (get_or k i nan) (get_or l i nan)) → spaced k ≡ spaced l
all_same k l h =
    ap (λ (z : Float). set (table (spaced_at k) 10) 9 (smaller z CEILING)) (spaced_same k l h 9).0
    ∙ ap (λ (t : List Float). set t 9 (smaller (spaced_at l 9) CEILING)) (table_same (spaced_at k) (spaced_at l) 10 (λ i p. (spaced_same k l h i).0))

pub sorted_same : (l s : List Float) → Each finite32 l → Same s l → Rising total_le s → spaced s ≡ spaced (sort lt l)
sorted_same l s h k r = all_same s (sort lt l) (alike_at s (sort lt l) (each_same finite32 s l k h) (sort_each lt finite32 l h) (same_numbers l s h k r))

-- whatever holds l's floats, each as often, and rises by total_cmp is spread to what `sort lt l` is
pub any_sort : (l s : List Float) → Each finite32 l → Same s l → Rising total_le s → spread s ≡ spread (sort lt l)
unfolding spread
any_sort l s h k r = sorted_same l s h k r

-- ---- as here by insertion
total_yes : (x y : Float) → total_less x y ≡ true → total_le x y ≡ true
total_yes x y = go (total_key x) (total_key y)
  where
    go : (a b : ℤ) → lt_z a b ≡ true → le_z a b ≡ true
    go (pos a) (pos b) h = le-leb a b (le_of_lt (ltb-true a b h))
    go (pos a) (negsuc b) h = h
    go (negsuc a) (pos b) h = h
    go (negsuc a) (negsuc b) h = le-leb b a (le_of_lt (ltb-true b a h))

total_no : (x y : Float) → total_less x y ≡ false → total_le y x ≡ true
total_no x y = go (total_key x) (total_key y)
  where
    go : (a b : ℤ) → lt_z a b ≡ false → le_z b a ≡ true
    go (pos a) (pos b) h = le-leb b a (ltb-false a b h)
    go (pos a) (negsuc b) h = refl
    go (negsuc a) (pos b) h = absurd (true≢false h)
    go (negsuc a) (negsuc b) h = le-leb a b (ltb-false b a h)

pub total_same : (l : List Float) → Each finite32 l → spaced (sort total_less l) ≡ spaced (sort lt l)
total_same l h = sorted_same l (sort total_less l) h (sort_same total_less l) (sort_rises total_less finite32 total_le total_yes (λ x y p q k. total_no x y k) l h)

pub total_sort : (l : List Float) → Each finite32 l → spread (sort total_less l) ≡ spread (sort lt l)
unfolding spread
total_sort l h = total_same l h
