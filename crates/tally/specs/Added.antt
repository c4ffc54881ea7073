-- The tally of a list with one outcome more is the list's tally, carried on; and what a list's tally keeps to.
use Prim.Native.Nat.{ℕ, suc, ◌+◌, ◌-◌, ◌≤◌, ◌<◌, min, max}
use Rattle.std.specs.Prelude.{◌≡◌, Bool, ltb, eqb, get_or, set}
use Rattle.std.proofs.Math.Path.{refl, sym}
use Rattle.std.proofs.Common.{ap, ◌∙◌, eqb-true, eq-eqb, ne_eqb, ltb-true, ltb-false, length-append, length-set, get_or-set_same, get_or-set_other}
use mathlib.Core.List.{List, [], ◌∷◌, ◌++◌, append_assoc, append-nil, map, map-append}
use Rattle.std.proofs.Math.Bool.{true, false, cond}
use native.Mathlib.Omega.{arith}
use Rattle.std.proofs.lemmas.Bool.{eqb-false}
use Rattle.std.proofs.Math.ListN.{length}
use Rattle.std.proofs.lemmas.List.{length-map}
use Rattle.sequence.specs.Lists as Lists
use Rattle.sequence.specs.Table.{table, length_table, get_or_table, table_of}
use Rattle.half.specs.declared.Clipped.{Clipped}
use Rattle.observation.specs.declared.Subframe.{Subframe}
use Rattle.tally.specs.declared.Clippings.{Clippings}
use Rattle.tally.specs.declared.Subframes.{Subframes}
use Rattle.tally.specs.declared.Tally.{Tally}
use Rattle.tally.specs.Figures.{Outcome, those, how_many, largest, smallest, class, gain_index_of, code_gain_of, lag_of, spread, clippings, subframes_of, clipped_of, answered_with, tally}
use Rattle.tally.specs.Carried.{TOP, more, plus, more_if, bump, lag_place, smaller, counted, counted_all, added, added_all, numbered, with_frame, uncounted, with_outcome}

-- ---- how many
module _ {A : Type 0} (f : A → Bool) where
  pub many_append : (xs ys : List A) → how_many f (xs ++ ys) ≡ how_many f xs + how_many f ys
  unfolding those
  many_append [] ys = omega arith
  many_append (x ∷ xs) ys = by (f x) (many_append xs ys)
    where
      by : (t : Bool) → how_many f (xs ++ ys) ≡ how_many f xs + how_many f ys → length (cond t (x ∷ those f (xs ++ ys)) (those f (xs ++ ys))) ≡ length (cond t (x ∷ those f xs) (those f xs)) + how_many f ys
      by true h = omega arith
      by false h = h

  pub many_le : (xs : List A) → how_many f xs ≤ length xs
  unfolding those
  many_le [] = omega arith
  many_le (x ∷ xs) = by (f x) (many_le xs)
    where
      by : (t : Bool) → how_many f xs ≤ length xs → length (cond t (x ∷ those f xs) (those f xs)) ≤ suc (length xs)
      by true h = omega arith
      by false h = omega arith

  -- one more
  pub many_more : (xs : List A) (x : A) → how_many f (xs ++ (x ∷ [])) ≡ cond (f x) (how_many f xs + 1) (how_many f xs)
  unfolding those
  many_more xs x = many_append xs (x ∷ []) ∙ by (f x)
    where
      by : (t : Bool) → how_many f xs + length (cond t (x ∷ []) []) ≡ cond t (how_many f xs + 1) (how_many f xs)
      by true = refl
      by false = omega arith

  pub more_if_lem : (xs : List A) (x : A) → length xs < TOP → more_if (how_many f xs) (f x) ≡ how_many f (xs ++ (x ∷ []))
  unfolding more_if more
  more_if_lem xs x h = by (f x) ∙ sym (many_more xs x)
    where
      by : (t : Bool) → cond t (min (how_many f xs + 1) TOP) (how_many f xs) ≡ cond t (how_many f xs + 1) (how_many f xs)
      by true = let l = many_le xs in omega arith
      by false = refl

-- counts of several tests, of which x passes that at place p
pub counts_more : {A : Type 0} (test : ℕ → A → Bool) (n : ℕ) (xs : List A) (x : A) (p : ℕ) → length xs < TOP → ((c : ℕ) → c < n → test c x ≡ eqb c p) → bump (table (λ c. how_many (test c) xs) n) p ≡ table (λ c. how_many (test c) (xs ++ (x ∷ []))) n
unfolding bump more
counts_more {A} test n xs x p h e = sym (table_of (λ c. how_many (test c) (xs ++ (x ∷ []))) 0 (set (table (λ c. how_many (test c) xs) n) p (min (get_or (table (λ c. how_many (test c) xs) n) p 0 + 1) TOP)) n (length-set (table (λ c. how_many (test c) xs) n) p (min (get_or (table (λ c. how_many (test c) xs) n) p 0 + 1) TOP) ∙ long) (λ c l. at c l (eqb c p) refl))
  where
    long : length (table (λ c. how_many (test c) xs) n) ≡ n
    long = length_table (λ c. how_many (test c) xs) n

    here : (c : ℕ) → c < n → get_or (table (λ c. how_many (test c) xs) n) c 0 ≡ how_many (test c) xs
    here c l = get_or_table (λ c. how_many (test c) xs) n c 0 l

    at : (c : ℕ) → c < n → (t : Bool) → eqb c p ≡ t → how_many (test c) (xs ++ (x ∷ [])) ≡ get_or (set (table (λ c. how_many (test c) xs) n) p (min (get_or (table (λ c. how_many (test c) xs) n) p 0 + 1) TOP)) c 0
    at c l true q =
        let s : c ≡ p = eqb-true c p q in
        let w : c < length (table (λ c. how_many (test c) xs) n) = rw long l in
        let m = many_le (test c) xs in
        rw (← s, many_more (test c) xs x, e c l, q, get_or-set_same (table (λ c. how_many (test c) xs) n) c (min (get_or (table (λ c. how_many (test c) xs) n) c 0 + 1) TOP) 0 w, here c l) (omega arith)
    at c l false q = rw (many_more (test c) xs x, e c l, q, get_or-set_other (table (λ c. how_many (test c) xs) n) p c (min (get_or (table (λ c. how_many (test c) xs) n) p 0 + 1) TOP) 0 (eqb-false c p q)) (sym (here c l))

-- ---- the ends
pub largest_append : (xs ys : List ℕ) → largest (xs ++ ys) ≡ max (largest xs) (largest ys)
unfolding largest
largest_append [] ys = omega arith
largest_append (x ∷ xs) ys = let h = largest_append xs ys in omega arith

largest_more : (xs : List ℕ) (x : ℕ) → max (largest xs) x ≡ largest (xs ++ (x ∷ []))
unfolding largest
largest_more xs x = let h = largest_append xs (x ∷ []) in omega arith

pub smallest_append : (x : ℕ) (xs : List ℕ) (y : ℕ) (ys : List ℕ) → smallest (x ∷ (xs ++ (y ∷ ys))) ≡ min (smallest (x ∷ xs)) (smallest (y ∷ ys))
unfolding smallest
smallest_append x [] y ys = refl
smallest_append x (z ∷ xs) y ys = let h = smallest_append z xs y ys in omega arith

-- ---- a subframe more
eqb_alike : (a b c d : ℕ) → (a ≡ b → c ≡ d) → (c ≡ d → a ≡ b) → eqb a b ≡ eqb c d
eqb_alike a b c d to back = by (eqb a b) refl
  where
    by : (t : Bool) → eqb a b ≡ t → eqb a b ≡ eqb c d
    by true e = e ∙ sym (eq-eqb c d (to (eqb-true a b e)))
    by false e = e ∙ sym (ne_eqb c d (λ q. eqb-false a b e (back q)))

lag_at : (s : Subframe) (k : ℕ) → k < 126 → eqb (lag_of s.lag) (19 + k) ≡ eqb k (lag_place s.lag)
unfolding lag_place
lag_at s k l = by (ltb (lag_of s.lag) 19) refl
  where
    by : (t : Bool) → ltb (lag_of s.lag) 19 ≡ t → eqb (lag_of s.lag) (19 + k) ≡ eqb k (cond t 126 (lag_of s.lag - 19))
    by true e = let h = ltb-true (lag_of s.lag) 19 e in eqb_alike (lag_of s.lag) (19 + k) k 126 (λ q. omega arith) (λ q. omega arith)
    by false e = let h = ltb-false (lag_of s.lag) 19 e in eqb_alike (lag_of s.lag) (19 + k) k (lag_of s.lag - 19) (λ q. omega arith) (λ q. omega arith)

smallest_more : (xs : List ℕ) (x : ℕ) → smaller (length xs) (smallest xs) x ≡ smallest (xs ++ (x ∷ []))
unfolding smaller smallest
smallest_more [] x = refl
smallest_more (y ∷ ys) x = rw (ne_eqb (suc (length ys)) 0 (λ e. omega arith)) (sym (smallest_append y ys x []))

subframes_same : {n n' a a' b b' : ℕ} {x x' y y' z z' : List ℕ} → n ≡ n' → x ≡ x' → y ≡ y' → z ≡ z' → a ≡ a' → b ≡ b' → ◌≡◌ {A = Subframes} (record { n = n; classes = x; lags = y; gain_indexes = z; largest = a; smallest = b }) (record { n = n'; classes = x'; lags = y'; gain_indexes = z'; largest = a'; smallest = b' })
subframes_same p e f g q r = rw (p, e, f, g, q, r)

spread_more : (ss : List Subframe) (s : Subframe) → length ss < TOP → counted (spread ss) s ≡ spread (ss ++ (s ∷ []))
unfolding counted spread more
spread_more ss s h =
    let l = length-append ss (s ∷ []) in
    let m = length-map ss code_gain_of in
    subframes_same (omega arith)
    (counts_more (λ c (x : Subframe). eqb (class x) c) 6 ss s (class s) h (λ c l. eqb_alike (class s) c c (class s) sym sym))
    (counts_more (λ k (x : Subframe). eqb (lag_of x.lag) (19 + k)) 126 ss s (lag_place s.lag) h (lag_at s))
    (counts_more (λ g (x : Subframe). eqb (gain_index_of x) g) 128 ss s (gain_index_of s) h (λ g l. eqb_alike (gain_index_of s) g g (gain_index_of s) sym sym))
    (rw (map-append code_gain_of ss (s ∷ [])) (largest_more (map code_gain_of ss) (code_gain_of s)))
    (rw (map-append code_gain_of ss (s ∷ []), ← m) (smallest_more (map code_gain_of ss) (code_gain_of s)))

spread_all : (ss rs : List Subframe) → length ss + length rs ≤ TOP → counted_all (spread ss) rs ≡ spread (ss ++ rs)
unfolding counted_all
spread_all ss [] h = rw append-nil
spread_all ss (r ∷ rs) h =
    let l = length-append ss (r ∷ []) in
    rw (spread_more ss r (omega arith), spread_all (ss ++ (r ∷ [])) rs (omega arith), append_assoc)

-- ---- what was clipped
tally_append : {A : Type 0} (f : A → ℕ) (xs ys : List A) → Lists.tally f (xs ++ ys) ≡ Lists.tally f xs + Lists.tally f ys
unfolding Lists.tally
tally_append f [] ys = omega arith
tally_append f (x ∷ xs) ys = let e = tally_append f xs ys in omega arith

-- sums of both, kind by kind
pub record BothClippings (a b both : Clippings) : Type 0 where
  pub prediction_is : both.prediction ≡ a.prediction + b.prediction
  pub mixing_is : both.mixing ≡ a.mixing + b.mixing
  pub synthesis_is : both.synthesis ≡ a.synthesis + b.synthesis
  pub output_is : both.output ≡ a.output + b.output

pub clippings_append : (cs ds : List Clipped) → BothClippings (clippings cs) (clippings ds) (clippings (cs ++ ds))
unfolding clippings
clippings_append cs ds = record { prediction_is = tally_append _ cs ds; mixing_is = tally_append _ cs ds; synthesis_is = tally_append _ cs ds; output_is = tally_append _ cs ds }

-- no sum is above n
pub record AtMost (n : ℕ) (t : Clippings) : Type 0 where
  pub prediction_le : t.prediction ≤ n
  pub mixing_le : t.mixing ≤ n
  pub synthesis_le : t.synthesis ≤ n
  pub output_le : t.output ≤ n

-- those of a few more come on top
pub at_most_more : (cs ds : List Clipped) {m n k : ℕ} → AtMost m (clippings cs) → AtMost n (clippings ds) → m + n ≤ k → AtMost k (clippings (cs ++ ds))
at_most_more cs ds a b h =
    let e = clippings_append cs ds in
    record {
      prediction_le = omega (arith, e.prediction_is, a.prediction_le, b.prediction_le);
      mixing_le = omega (arith, e.mixing_is, a.mixing_le, b.mixing_le);
      synthesis_le = omega (arith, e.synthesis_is, a.synthesis_le, b.synthesis_le);
      output_le = omega (arith, e.output_is, a.output_le, b.output_le);
    }

-- a sum that has room, with one more
module _ (f : Clipped → ℕ) where
  plus_more : (cs : List Clipped) (d : Clipped) (ds : List Clipped) → Lists.tally f (cs ++ (d ∷ ds)) ≤ TOP → plus (Lists.tally f cs) (f d) ≡ Lists.tally f (cs ++ (d ∷ []))
  unfolding plus Lists.tally
  plus_more cs d ds h = omega (arith, tally_append f cs (d ∷ ds), tally_append f cs (d ∷ []))

clippings_same : {a a' b b' c c' d d' : ℕ} → a ≡ a' → b ≡ b' → c ≡ c' → d ≡ d' → ◌≡◌ {A = Clippings} (record { prediction = a; mixing = b; synthesis = c; output = d }) (record { prediction = a'; mixing = b'; synthesis = c'; output = d' })
clippings_same p q r s = rw (p, q, r, s)

clippings_more : (cs : List Clipped) (d : Clipped) (ds : List Clipped) → AtMost TOP (clippings (cs ++ (d ∷ ds))) → added (clippings cs) d ≡ clippings (cs ++ (d ∷ []))
unfolding added clippings
clippings_more cs d ds h = clippings_same (plus_more _ cs d ds h.prediction_le) (plus_more _ cs d ds h.mixing_le) (plus_more _ cs d ds h.synthesis_le) (plus_more _ cs d ds h.output_le)

clippings_all : (cs ds : List Clipped) → AtMost TOP (clippings (cs ++ ds)) → added_all (clippings cs) ds ≡ clippings (cs ++ ds)
unfolding added_all
clippings_all cs [] h = rw append-nil
clippings_all cs (d ∷ ds) h =
    rw (clippings_more cs d ds h, clippings_all (cs ++ (d ∷ [])) ds (rw append_assoc h), append_assoc)

-- ---- an outcome more
pub subframes_append : (os ps : List Outcome) → subframes_of (os ++ ps) ≡ subframes_of os ++ subframes_of ps
unfolding subframes_of
subframes_append [] ps = refl
subframes_append (o ∷ os) ps = rw (subframes_append os ps, append_assoc)

pub clipped_append : (os ps : List Outcome) → clipped_of (os ++ ps) ≡ clipped_of os ++ clipped_of ps
unfolding clipped_of
clipped_append [] ps = refl
clipped_append (o ∷ os) ps = rw (clipped_append os ps, append_assoc)

tally_same : {l l' a a' b b' c c' d d' : ℕ} {s s' : Subframes} {k k' : Clippings} → l ≡ l' → a ≡ a' → b ≡ b' → c ≡ c' → d ≡ d' → s ≡ s' → k ≡ k'
    → ◌≡◌ {A = Tally} (record { lines = l; accepted = a; refused_6 = b; refused_7 = c; refused_9 = d; subframes = s; clipped = k }) (record { lines = l'; accepted = a'; refused_6 = b'; refused_7 = c'; refused_9 = d'; subframes = s'; clipped = k' })
tally_same p e f g h q r = rw (p, e, f, g, h, q, r)

pub tally_more : (n : ℕ) (os : List Outcome) (o : Outcome) → n < TOP → length os < TOP → length (subframes_of os) + length o.subframes ≤ TOP → AtMost TOP (clippings (clipped_of os ++ o.clipped)) → with_outcome (tally n os) o ≡ tally (n + 1) (os ++ (o ∷ []))
unfolding with_outcome with_frame numbered tally more subframes_of clipped_of
tally_more n os o p q h k =
    tally_same (omega arith) (at 0) (at 6) (at 7) (at 9)
    (spread_all (subframes_of os) o.subframes h ∙ ap spread (sym (subframes_append os (o ∷ []) ∙ rw append-nil)))
    (clippings_all (clipped_of os) o.clipped k ∙ ap clippings (sym (clipped_append os (o ∷ []) ∙ rw append-nil)))
  where
    at : (k : ℕ) → more_if (answered_with k os) (eqb o.number k) ≡ answered_with k (os ++ (o ∷ []))
    at k = more_if_lem (λ (x : Outcome). eqb x.number k) os o q

pub tally_uncounted : (n : ℕ) (os : List Outcome) → n < TOP → uncounted (tally n os) ≡ tally (n + 1) os
unfolding uncounted tally more
tally_uncounted n os p = tally_same (omega arith) refl refl refl refl refl refl
