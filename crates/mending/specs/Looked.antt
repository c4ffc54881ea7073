-- A line looked through: what a byte more changes, and what hex holds of a cleaned line.
use Rattle.std.specs.Prelude.{ℕ, ◌+◌, ◌<◌, ◌≤◌, min, ◌≡◌, Bool, ◌&&◌, ◌||◌, eqb, length, get_or, take}
use Rattle.std.proofs.Math.Path.{refl, sym, ap}
use Rattle.std.proofs.Common.{◌∙◌, arith, lit<, eqb-true, ne_eqb, le-leb}
use mathlib.Core.List.{List, [], ◌∷◌, ◌++◌, map, append-nil}
use Rattle.std.proofs.Math.Bool.{true, false, cond, or-false, or-true, or_assoc}
use Rattle.std.proofs.lemmas.Bool.{false≢true}
use Rattle.sequence.specs.All.{all, and_left}
use Rattle.stream.specs.Held.{shown, zeros, push_text_lem, push_count_lem, shown_same, shown_long}
use Rattle.hex_lines.specs.declared.Line.{Line}
use Rattle.hex_lines.specs.Text.{is_digit, is_frame, is_only}
use Rattle.hex_lines.specs.Held as Held
use Rattle.mending.specs.declared.Place.{Place}
use Rattle.mending.specs.declared.Found.{Found}
use Rattle.mending.specs.declared.Ended.{Ended}
use Rattle.mending.specs.Repair.{is_return, is_blank, is_capital, bare, lower, cleaned, passes, is_kept, mended, any, happened, said, entry, step, line_entry}
use Rattle.mending.specs.Look.{found, looked, chosen, chosen_line, changes, told, line_text, ended}

-- ---- a byte more
module _ (f : ℕ → Bool) where
  any_more : (xs : List ℕ) (b : ℕ) → any f (xs ++ (b ∷ [])) ≡ any f xs || f b
  unfolding any
  any_more [] b = or-false (f b)
  any_more (x ∷ xs) b = ap (λ (t : Bool). f x || t) (any_more xs b) ∙ sym (or_assoc (f x) (any f xs) (f b))

bare_append : (xs ys : List ℕ) → bare (xs ++ ys) ≡ bare xs ++ bare ys
unfolding bare
bare_append [] ys = refl
bare_append (x ∷ xs) ys = rw (bare_append xs ys) (by (is_return x) (is_blank x))
  where
    by : (r s : Bool) → cond r (bare xs ++ bare ys) (cond s (bare xs ++ bare ys) (x ∷ (bare xs ++ bare ys))) ≡ cond r (bare xs) (cond s (bare xs) (x ∷ bare xs)) ++ bare ys
    by true s = refl
    by false true = refl
    by false false = refl

lowered_append : (xs ys : List ℕ) → map lower (xs ++ ys) ≡ map lower xs ++ map lower ys
lowered_append [] ys = refl
lowered_append (x ∷ xs) ys = ap (λ (l : List ℕ). lower x ∷ l) (lowered_append xs ys)

cleaned_append : (xs ys : List ℕ) → cleaned (xs ++ ys) ≡ cleaned xs ++ cleaned ys
unfolding cleaned
cleaned_append xs ys = rw (bare_append xs ys) (lowered_append (bare xs) (bare ys))

kept_push : (l : List ℕ) (b : ℕ) → Held.push (Held.kept l) b ≡ Held.kept (l ++ (b ∷ []))
unfolding Held.push Held.kept
kept_push l b = rw (push_text_lem 40 l b, push_count_lem 40 l b)

-- the bytes that are left out
left_out : (xs : List ℕ) → (looked (found xs) 13 ≡ found (xs ++ (13 ∷ []))) × (looked (found xs) 32 ≡ found (xs ++ (32 ∷ [])))
unfolding looked found is_return is_blank is_capital cleaned bare
left_out xs = (
  rw (any_more is_return xs 13, any_more is_blank xs 13, any_more is_capital xs 13, cleaned_append xs (13 ∷ []), append-nil, or-true (any is_return xs), or-false (any is_blank xs), or-false (any is_capital xs)),
  rw (any_more is_return xs 32, any_more is_blank xs 32, any_more is_capital xs 32, cleaned_append xs (32 ∷ []), append-nil, or-false (any is_return xs), or-true (any is_blank xs), or-false (any is_capital xs)),
)

-- any other
other_byte : (xs : List ℕ) (b : ℕ) (t : Bool) → is_return b ≡ false → is_blank b ≡ false → is_capital b ≡ t → looked (found xs) b ≡ found (xs ++ (b ∷ []))
unfolding looked found cleaned bare lower
other_byte xs b true p q r = rw (any_more is_return xs b, any_more is_blank xs b, any_more is_capital xs b, bare_append xs (b ∷ []), p, q, lowered_append, r, kept_push, or-false (any is_return xs), or-false (any is_blank xs), or-true (any is_capital xs))
other_byte xs b false p q r = rw (any_more is_return xs b, any_more is_blank xs b, any_more is_capital xs b, bare_append xs (b ∷ []), p, q, lowered_append, r, kept_push, or-false (any is_return xs), or-false (any is_blank xs), or-false (any is_capital xs))

pub looked_more : (xs : List ℕ) (b : ℕ) → looked (found xs) b ≡ found (xs ++ (b ∷ []))
unfolding is_return is_blank
looked_more xs b = by (eqb b 13) (eqb b 32) refl refl
  where
    by : (r s : Bool) → eqb b 13 ≡ r → eqb b 32 ≡ s → looked (found xs) b ≡ found (xs ++ (b ∷ []))
    by true s p q = rw (eqb-true b 13 p) (left_out xs).0
    by false true p q = rw (eqb-true b 32 q) (left_out xs).1
    by false false p q = other_byte xs b (is_capital b) p q refl

-- ---- what hex holds of it
pub held_short : (l : Line) → l.n ≤ 40 → Held.held_line l ≡ take l.n l.text
unfolding Held.held_line shown
held_short l h = rw (le-leb l.n 40 h)

pub only_short : (l : Line) (b : ℕ) → length l.text ≡ 40 → is_only b (Held.held_line l) ≡ true → l.n ≤ 40
unfolding Held.held_line is_only
only_short l b w e =
    let o = eqb-true (length (shown 40 l.text l.n)) 1 (and_left _ _ e) in
    let h = shown_long 40 l.text l.n w in
    omega arith

-- no line of more than 40 bytes is kept
only_long : (b : ℕ) (c : List ℕ) → 40 < length c → is_only b c ≡ false
unfolding is_only
only_long b c h = rw (ne_eqb (length c) 1 (λ e. omega arith))

no_start : (opens : Bool) → opens && false ≡ false
no_start true = refl
no_start false = refl

passes_long : (opens : Bool) (c : List ℕ) → 40 < length c → passes opens c ≡ false
unfolding passes is_frame
passes_long opens c h = rw (only_long 61 c h, only_long 43 c h, no_start opens, ne_eqb (length c) 40 (λ e. omega arith))

pub passes_short : (opens : Bool) (c : List ℕ) → passes opens c ≡ true → length c ≤ 40
unfolding passes is_only is_frame
passes_short opens c e = by (eqb (length c) 1) (eqb (length c) 40) opens refl refl e
  where
    by : (r s o : Bool) → eqb (length c) 1 ≡ r → eqb (length c) 40 ≡ s → (r && eqb (get_or c 0 0) 61) || (o && (r && eqb (get_or c 0 0) 43) || (s && all is_digit c)) ≡ true → length c ≤ 40
    by true s o p q z = let w = eqb-true (length c) 1 p in omega arith
    by false true o p q z = let w = eqb-true (length c) 40 q in omega arith
    by false false true p q z = absurd (false≢true z)
    by false false false p q z = absurd (false≢true z)

-- and what is kept of a line is all of it
pub passes_held : (opens : Bool) (l : Line) → length l.text ≡ 40 → passes opens (Held.held_line l) ≡ true → l.n ≤ 40
unfolding Held.held_line
passes_held opens l w e =
    let p = passes_short opens (Held.held_line l) e in
    let h = shown_long 40 l.text l.n w in
    omega arith

module _ (c : List ℕ) where
  pub held_only : (b : ℕ) → is_only b (Held.held_line (Held.kept c)) ≡ is_only b c
  unfolding Held.held_line Held.kept
  held_only b = shown_same 40 c (is_only b) (λ h. only_long b c h ∙ sym (only_long b (zeros 41) (lit< tt)))

  pub held_passes : (opens : Bool) → passes opens (Held.held_line (Held.kept c)) ≡ passes opens c
  unfolding Held.held_line Held.kept
  held_passes opens = shown_same 40 c (passes opens) (λ h. passes_long opens c h ∙ sym (passes_long opens (zeros 41) (lit< tt)))

  pub held_chosen : (opens : Bool) → chosen (passes opens c) (Held.held_line (Held.kept c)) ≡ chosen (passes opens c) c
  unfolding Held.held_line Held.kept chosen
  held_chosen opens = shown_same 40 c (λ l. cond (passes opens c) l (45 ∷ [])) (λ h. rw (passes_long opens c h))

-- ---- a line of up to 4,096 bytes
module _ (opens : Bool) (line : List ℕ) (h : length line ≤ 4096) where
  pub kept_is : is_kept opens line ≡ passes opens (cleaned line)
  unfolding is_kept
  kept_is = rw (le-leb (length line) 4096 h)

  pub mended_is : mended opens line ≡ chosen (passes opens (cleaned line)) (cleaned line)
  unfolding mended chosen
  mended_is = rw kept_is

  -- what is written is `=` where the cleaned line is
  pub equals_is : is_only 61 (mended opens line) ≡ is_only 61 (cleaned line)
  unfolding passes chosen is_only
  equals_is = rw mended_is (by (is_only 61 (cleaned line)) (opens && is_only 43 (cleaned line) || is_frame (cleaned line)) refl)
    where
      by : (e r : Bool) → is_only 61 (cleaned line) ≡ e → is_only 61 (chosen (e || r) (cleaned line)) ≡ e
      by true r p = p
      by false true p = p
      by false false p = refl

  pub happened_is : happened opens line ≡ told (passes opens (cleaned line)) (is_only 45 line) (found line)
  unfolding happened told changes found
  happened_is = rw kept_is

-- ---- a line's end, by what was found
module _ (p : Place) (line : List ℕ) (h : length line ≤ 4096) {f : Found} (e : f ≡ found line) {k : Bool} (g : k ≡ passes p.opens (Held.held_line f.line)) where
  kept_found : k ≡ passes p.opens (cleaned line)
  unfolding found
  kept_found = g ∙ rw e (held_passes (cleaned line) p.opens)

  pub text_found : (newline : Bool) → chosen_line k (Held.held_line f.line) newline ≡ line_text p line newline
  unfolding chosen_line line_text found
  text_found newline = rw (kept_found, e, mended_is p.opens line h) (ap (λ (l : List ℕ). l ++ said newline (10 ∷ [])) (held_chosen (cleaned line) p.opens))

  pub entry_found : {d : Bool} → d ≡ is_only 45 line → entry p.number (told k d f) ≡ line_entry p line
  unfolding line_entry
  entry_found q = rw (kept_found, q, e, happened_is p.opens line h)

  pub equals_found : is_only 61 (Held.held_line f.line) ≡ (step p line).opens
  unfolding step found
  equals_found = rw e (held_only (cleaned line) 61 ∙ sym (equals_is p.opens line h))

-- the four parts of what is answered
pub ended_is : (p : Place) (line : List ℕ) (newline : Bool) {n : ℕ} {o : Bool} {a b : ℕ} → n ≡ min (p.number + 1) 18446744073709551615 → o ≡ (step p line).opens → a ≡ length (line_text p line newline) → b ≡ length (line_entry p line) → ◌≡◌ {A = Ended} (record { place = record { number = n; opens = o }; repaired = a; listed = b }) (ended p line newline)
unfolding ended step
ended_is p line newline f g h i = rw (f, g, h, i)
