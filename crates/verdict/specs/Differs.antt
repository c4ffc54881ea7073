-- What a verdict says. Some lines are the same at the start of both texts, and the line named is the one behind them: there one text is over and the other is not,
-- or both have a line, the two are not the same bytes, and what is told of them does differ.
use Rattle.std.specs.Prelude.{ℕ, zero, suc, ◌+◌, ◌*◌, ◌/◌, ◌%◌, ◌<◌, ◌≤◌, min, ◌≡◌, refl, List, [], ◌∷◌, ◌++◌, Bool, cond, ◌&&◌, eqb, length, get_or, take, drop}
use Rattle.std.proofs.Common.{sym, ◌∙◌, ⊎_elim, arith, eq-or-lt_of_le, ext_get_or, get_or-take, get_or-drop, get_or-append-add}
use Rattle.std.proofs.Math.Path.{ap}
use Rattle.std.proofs.Math.Bool.{true, false, not, true≢false}
use borrow.Author.Tests.{eq-eqb, ne_eqb, eqb-true}
use Rattle.sequence.specs.All.{and_left, and_right}
use Rattle.sequence.specs.First.{first_before, first_at, first_le}
use Rattle.verdict.specs.Verdict.{is_decimal, same, is_frame, known, says, head, refusal, mark, missing, extra, sixteen, agree, digits_at, spelled, differs, place, sample_of, sample, sample_at, what, difference, added, next, judge}
use Rattle.verdict.specs.Same.{same_is, same_self}

-- ---- what is claimed
-- of a sample: no lower place differs, this one does
pub record OfSample (k : ℕ) (o t text : List ℕ) : Type 0 where
  pub p : ℕ
  pub within : p < 320
  pub below : (q : ℕ) → q < p → digits_at o q ≡ digits_at t q
  pub differ : digits_at o p ≡ digits_at t p → ⊥
  pub told : text ≡ says k (sample p (spelled o p) (spelled t p))

-- of a line that both have
pub record OfBoth (k : ℕ) (o t text : List ℕ) : Type 0 where
  pub differ : o ≡ t → ⊥
  pub unknown : known t ≡ false → text ≡ says k sixteen
  pub unknown_only : text ≡ says k sixteen → known t ≡ false
  pub refused : known t ≡ true → (is_frame o && is_frame t) ≡ false → text ≡ says k refusal
  pub marked : is_frame o ≡ true → is_frame t ≡ true → (get_or o 0 0 ≡ get_or t 0 0 → ⊥) → text ≡ says k mark
  pub sampled : is_frame o ≡ true → is_frame t ≡ true → get_or o 0 0 ≡ get_or t 0 0 → OfSample k o t text

-- of a line that only they have
pub record OfExtra (k : ℕ) (t text : List ℕ) : Type 0 where
  pub known_one : known t ≡ true → text ≡ says k extra
  pub unknown : known t ≡ false → text ≡ says k sixteen
  pub unknown_only : text ≡ says k sixteen → known t ≡ false

-- of the line behind those that are the same, its number k
unfoldable pub Of : ℕ → List (List ℕ) → List (List ℕ) → List ℕ → Type 0
Of k [] [] text = text ≡ agree
Of k [] (t ∷ ts) text = OfExtra k t text
Of k (o ∷ os) [] text = (text ≡ says k missing) × (text ≡ says k sixteen → ⊥)
Of k (o ∷ os) (t ∷ ts) text = OfBoth k o t text

-- i lines are the same, and of line n + i is told
pub record Named (n : ℕ) (ours theirs : List (List ℕ)) (text : List ℕ) : Type 0 where
  pub i : ℕ
  pub in_ours : i ≤ length ours
  pub in_theirs : i ≤ length theirs
  pub before : take i ours ≡ take i theirs
  pub there : Of (min (n + i) 18446744073709551615) (drop i ours) (drop i theirs) text

-- ---- no other words are those of 16
other_words : (k j : ℕ) (v w : List ℕ) → (get_or (v ++ (10 ∷ [])) j 0 ≡ get_or (w ++ (10 ∷ [])) j 0 → ⊥) → says k v ≡ says k w → ⊥
unfolding says
other_words k j v w h e = h (sym (get_or-append-add (head k) (v ++ (10 ∷ [])) j 0) ∙ ap (λ (l : List ℕ). get_or l (length (head k) + j) 0) e ∙ get_or-append-add (head k) (w ++ (10 ∷ [])) j 0)

missing_other : (k : ℕ) → says k missing ≡ says k sixteen → ⊥
missing_other k = other_words k 1 missing sixteen (λ q. let b : ◌≡◌ {A = ℕ} 109 114 = q in omega arith)

extra_other : (k : ℕ) → says k extra ≡ says k sixteen → ⊥
extra_other k = other_words k 1 extra sixteen (λ q. let b : ◌≡◌ {A = ℕ} 101 114 = q in omega arith)

known_other : (k p a b : ℕ) (f m : Bool) → says k (cond f (cond m (sample p a b) mark) refusal) ≡ says k sixteen → ⊥
unfolding sample sample_of
known_other k p a b true true = other_words k 1 _ sixteen (λ q. let b : ◌≡◌ {A = ℕ} 115 114 = q in omega arith)
known_other k p a b true false = other_words k 1 mark sixteen (λ q. let b : ◌≡◌ {A = ℕ} 109 114 = q in omega arith)
known_other k p a b false m = other_words k 6 refusal sixteen (λ q. let b : ◌≡◌ {A = ℕ} 97 101 = q in omega arith)

-- ---- two frames
frame_long : (t : List ℕ) → is_frame t ≡ true → length t ≡ 1282
unfolding is_frame
frame_long t e = eqb-true (length t) 1282 (and_left (eqb (length t) 1282) _ e)

frame_blank : (t : List ℕ) → is_frame t ≡ true → get_or t 1 0 ≡ 32
unfolding is_frame
frame_blank t e = eqb-true (get_or t 1 0) 32 (and_left (eqb (get_or t 1 0) 32) _ (and_right (is_decimal (get_or t 0 0)) _ (and_right (eqb (length t) 1282) _ e)))

digit_at : (t : List ℕ) (q r : ℕ) → r < 4 → get_or (digits_at t q) r 0 ≡ get_or t (2 + 4 * q + r) 0
unfolding digits_at
digit_at t q r h = get_or-take 4 (drop (2 + 4 * q) t) r 0 h ∙ get_or-drop (2 + 4 * q) t r 0

not_false : (b : Bool) → not b ≡ false → b ≡ true
not_false true e = refl
not_false false e = absurd (true≢false e)

module _ (o t : List ℕ) where
  below_place : (q : ℕ) → q < place o t → digits_at o q ≡ digits_at t q
  unfolding place differs
  below_place q h = same_is (digits_at o q) (digits_at t q) (not_false (same (digits_at o q) (digits_at t q)) (first_before (differs o t) 319 q h))

  place_le : place o t ≤ 319
  unfolding place
  place_le = first_le (differs o t) 319

  place_at : place o t < 319 → digits_at o (place o t) ≡ digits_at t (place o t) → ⊥
  unfolding place differs
  place_at h e = true≢false (sym (first_at (differs o t) 319 h) ∙ ap not (ap (same (digits_at o (place o t))) (sym e) ∙ same_self (digits_at o (place o t))))

  module _ (f : is_frame o ≡ true) (g : is_frame t ≡ true) (m : get_or o 0 0 ≡ get_or t 0 0) where
    -- with the same mark and the same digits at every place they are the same bytes
    pub same_frames : ((q : ℕ) → q < 320 → digits_at o q ≡ digits_at t q) → o ≡ t
    same_frames h = ext_get_or 0 o t (frame_long o f ∙ sym (frame_long t g)) by
      where
        by : (i : ℕ) → i < length o → get_or o i 0 ≡ get_or t i 0
        by zero l = m
        by (suc zero) l = frame_blank o f ∙ sym (frame_blank t g)
        by (suc (suc j)) l =
            let n = frame_long o f in
            let e : 2 + 4 * (j / 4) + j % 4 ≡ suc (suc j) = omega arith in
            let r : j % 4 < 4 = omega arith in
            ap (λ (k : ℕ). get_or o k 0) (sym e) ∙ sym (digit_at o (j / 4) (j % 4) r) ∙ ap (λ (d : List ℕ). get_or d (j % 4) 0) (h (j / 4) (omega arith)) ∙ digit_at t (j / 4) (j % 4) r ∙ ap (λ (k : ℕ). get_or t k 0) e

    place_differs : (o ≡ t → ⊥) → digits_at o (place o t) ≡ digits_at t (place o t) → ⊥
    place_differs d e = ⊎_elim (λ (w : place o t ≡ 319). d (same_frames (λ q h. all w q h))) (λ (w : place o t < 319). place_at w e) (eq-or-lt_of_le place_le)
      where
        all : place o t ≡ 319 → (q : ℕ) → q < 320 → digits_at o q ≡ digits_at t q
        all w q h =
            let l : q ≤ place o t = omega arith in
            ⊎_elim (λ (v : q ≡ place o t). ap (digits_at o) v ∙ e ∙ ap (digits_at t) (sym v)) (λ (v : q < place o t). below_place q v) (eq-or-lt_of_le l)

-- ---- a line that both have
module _ (k : ℕ) (o t : List ℕ) where
  what_unknown : known t ≡ false → difference k o t ≡ says k sixteen
  unfolding difference what
  what_unknown e = rw e

  what_refused : known t ≡ true → (is_frame o && is_frame t) ≡ false → difference k o t ≡ says k refusal
  unfolding difference what
  what_refused e f = rw (e, f)

  frame_known : is_frame t ≡ true → known t ≡ true
  unfolding known
  frame_known g = rw g

  what_marked : is_frame o ≡ true → is_frame t ≡ true → (get_or o 0 0 ≡ get_or t 0 0 → ⊥) → difference k o t ≡ says k mark
  unfolding difference what
  what_marked f g m = rw (frame_known g, f, g, ne_eqb (get_or o 0 0) (get_or t 0 0) m)

  what_sampled : is_frame o ≡ true → is_frame t ≡ true → get_or o 0 0 ≡ get_or t 0 0 → difference k o t ≡ says k (sample (place o t) (spelled o (place o t)) (spelled t (place o t)))
  unfolding difference what sample_at
  what_sampled f g m = rw (frame_known g, f, g, eq-eqb (get_or o 0 0) (get_or t 0 0) m)

  sixteen_by : (b : Bool) → known t ≡ b → difference k o t ≡ says k sixteen → known t ≡ false
  unfolding difference what sample_at
  sixteen_by false e q = e
  sixteen_by true e q = absurd (known_other k (place o t) (spelled o (place o t)) (spelled t (place o t)) (is_frame o && is_frame t) (eqb (get_or o 0 0) (get_or t 0 0)) (rw e at q))

  of_both : same o t ≡ false → OfBoth k o t (difference k o t)
  of_both s = record {
    differ = d;
    unknown = what_unknown;
    unknown_only = sixteen_by (known t) refl;
    refused = what_refused;
    marked = what_marked;
    sampled = λ f g m. record { p = place o t; within = (let l = place_le o t in omega arith); below = below_place o t; differ = place_differs o t f g m d; told = what_sampled f g m };
  }
    where
      d : o ≡ t → ⊥
      d e = true≢false (sym (same_self o) ∙ ap (same o) e ∙ s)

of_extra : (k : ℕ) (t : List ℕ) → OfExtra k t (added k t)
unfolding added
of_extra k t = record { known_one = λ e. rw e; unknown = λ e. rw e; unknown_only = by (known t) refl }
  where
    by : (b : Bool) → known t ≡ b → says k (cond (known t) extra sixteen) ≡ says k sixteen → known t ≡ false
    by false e q = e
    by true e q = absurd (extra_other k (rw e at q))

-- ---- the verdict
first_number : (n : ℕ) → n ≤ 18446744073709551615 → min (n + 0) 18446744073709551615 ≡ n
first_number n h = omega arith

later_number : (n i : ℕ) → min (next n + i) 18446744073709551615 ≡ min (n + suc i) 18446744073709551615
unfolding next
later_number n i = omega arith

next_le : (n : ℕ) → next n ≤ 18446744073709551615
unfolding next
next_le n = omega arith

same_first : (n : ℕ) (o t : List ℕ) (os ts : List (List ℕ)) (text : List ℕ) → o ≡ t → Named (next n) os ts text → Named n (o ∷ os) (t ∷ ts) text
same_first n o t os ts text e r =
    let a = r.in_ours in
    let b = r.in_theirs in
    record { i = suc r.i; in_ours = omega arith; in_theirs = omega arith; before = rw (e, r.before); there = rw (← later_number n r.i) r.there }

named_here : (n : ℕ) (ours theirs : List (List ℕ)) (text : List ℕ) → n ≤ 18446744073709551615 → Of n ours theirs text → Named n ours theirs text
named_here n ours theirs text h w = record { i = 0; in_ours = omega arith; in_theirs = omega arith; before = refl; there = rw (first_number n h) w }

pub judge_named : (n : ℕ) (ours theirs : List (List ℕ)) → n ≤ 18446744073709551615 → Named n ours theirs (judge n ours theirs)
unfolding judge Of
judge_named n [] [] h = named_here n [] [] agree h refl
judge_named n [] (t ∷ ts) h = named_here n [] (t ∷ ts) (added n t) h (of_extra n t)
judge_named n (o ∷ os) [] h = named_here n (o ∷ os) [] (says n missing) h (refl, missing_other n)
judge_named n (o ∷ os) (t ∷ ts) h = by (same o t) refl (judge_named (next n) os ts (next_le n))
  where
    by : (b : Bool) → same o t ≡ b → Named (next n) os ts (judge (next n) os ts) → Named n (o ∷ os) (t ∷ ts) (cond (same o t) (judge (next n) os ts) (difference n o t))
    by true q r = rw q (same_first n o t os ts (judge (next n) os ts) (same_is o t q) r)
    by false q r = rw q (named_here n (o ∷ os) (t ∷ ts) (difference n o t) h (of_both n o t q))
