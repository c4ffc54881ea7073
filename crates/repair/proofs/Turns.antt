-- The loop over a chunk: what a byte gives, how long the texts are, and that they fit.
use Prim.Native.Nat.{ℕ, ◌+◌, ◌<◌, ◌≤◌, min}
use mathlib.Core.Path.{◌≡◌, refl, ap, ◌∙◌}
use mathlib.Core.List.{List, [], ◌∷◌, ◌++◌, append-nil}
use mathlib.Core.Bool.{Bool, true, false, cond, ◌&&◌}
use native.Mathlib.Omega.{arith}
use lib.Dec.{ltb, leb, lit<}
use lib.ListN.{length, take, set, length-append, length-map, length-set, length-take}
use borrow.Author.Tests.{eq-eqb, ne_eqb, ltb-false}
use Rattle.stream.specs.Held.{shown, zeros, push_text, push_count}
use Rattle.stream.specs.Machine.{Streamed, streamed_most}
use Rattle.stream.specs.Decimal.{decimal, decimal_long}
use Rattle.hex_lines.specs.Text.{is_only}
use Rattle.mending.specs.declared.Place.{Place}
use Rattle.mending.specs.Repair.{is_return, is_blank, is_capital, bare, lower, cleaned, passes, is_kept, mended, any, return, blank, letter, replaced, said, happened, entry, step, line_entry}
use Rattle.mending.specs.Repair as Repair
use Rattle.mending.specs.Look.{line_text}
use Rattle.repair.specs.Feed.{Standing, standing, held_line, told_count, fed, written, entered, ending, last_entered, room_for, list_room_for, long_mended, long_step, long_entry}
use Rattle.mending.specs.Texts.{said_long}
use Rattle.mending.specs.Looked.{passes_short}

abbrev pub stands : Place → ℕ → List ℕ → Standing
stands place n held = standing (record { place = place; n = n }) held

-- ---- how long the texts are
bare_long : (line : List ℕ) → length (bare line) ≤ length line
unfolding bare
bare_long [] = omega arith
bare_long (c ∷ cs) = by (is_return c) (is_blank c) (bare_long cs)
  where
    by : (r s : Bool) → length (bare cs) ≤ length cs → length (cond r (bare cs) (cond s (bare cs) (c ∷ bare cs))) ≤ length (c ∷ cs)
    by true s h = omega arith
    by false true h = omega arith
    by false false h = omega arith

cleaned_long : (line : List ℕ) → length (cleaned line) ≤ length line
unfolding cleaned
cleaned_long line = let m = length-map (bare line) lower in let b = bare_long line in omega arith

mended_long : (opens : Bool) (line : List ℕ) → (length (mended opens line) ≤ min (length line) 40 + 1) × (length (mended opens line) ≤ 40)
unfolding mended is_kept
mended_long opens line = by (leb (length line) 4096) (passes opens (cleaned line)) refl
  where
    by : (l t : Bool) → passes opens (cleaned line) ≡ t → (length (cond (l && t) (cleaned line) (45 ∷ [])) ≤ min (length line) 40 + 1) × (length (cond (l && t) (cleaned line) (45 ∷ [])) ≤ 40)
    by true true e = let s = passes_short opens (cleaned line) e in let c = cleaned_long line in (omega arith, omega arith)
    by true false e = (omega arith, omega arith)
    by false t e = (omega arith, omega arith)

pub text_long : (p : Place) (line : List ℕ) (newline : Bool) → (length (line_text p line newline) ≤ min (length line) 40 + 2) × (length (line_text p line newline) ≤ 41)
unfolding line_text
text_long p line newline =
    let m = mended_long p.opens line in
    let a = length-append (mended p.opens line) (said newline (10 ∷ [])) in
    let s = said_long newline (10 ∷ []) in
    (omega (arith, m.0), omega (arith, m.1))

entry_most : (n : ℕ) (words : List ℕ) → length words ≤ 20 → length (entry n words) ≤ 41
unfolding entry
entry_most n [] h = omega arith
entry_most n (c ∷ cs) h =
    let a = length-append (decimal n) ((c ∷ cs) ++ (10 ∷ [])) in
    let b = length-append (c ∷ cs) (10 ∷ []) in
    let d = decimal_long n in
    omega arith

happened_long : (opens : Bool) (line : List ℕ) → length (happened opens line) ≤ 20
unfolding happened
happened_long opens line = by (is_kept opens line) (is_only 45 line) (any is_return line) (any is_blank line) (any is_capital line)
  where
    by : (k d r b l : Bool) → length (cond k (said r return ++ (said b blank ++ said l letter)) (cond d [] replaced)) ≤ 20
    by true d r b l =
        let q = length-append (said r return) (said b blank ++ said l letter) in
        let s = length-append (said b blank) (said l letter) in
        let u = said_long r return in
        let v = said_long b blank in
        let w = said_long l letter in
        omega arith
    by false true r b l = omega arith
    by false false r b l = omega arith

pub entry_long : (p : Place) (line : List ℕ) → length (line_entry p line) ≤ 41
unfolding line_entry
entry_long p line = entry_most p.number (happened p.opens line) (happened_long p.opens line)

-- ---- the line that is looked at: that of the buffer, or an empty one
looked_at : {A : Type 0} (f : List ℕ → A) → ((line : List ℕ) → 4096 < length line → f line ≡ f []) → (held : List ℕ) (n : ℕ) {k : ℕ} → k ≡ told_count n → f (shown 4096 held n) ≡ f (take k held)
unfolding shown told_count
looked_at f long held n {k} e = rw e (by (leb n 4096))
  where
    by : (t : Bool) → f (cond t (take n held) (zeros 4097)) ≡ f (take (cond t n 0) held)
    by true = refl
    by false = long (zeros 4097) (lit< tt)

pub told_most : (held : List ℕ) (n : ℕ) {k : ℕ} → k ≡ told_count n → length (take k held) ≤ n
unfolding told_count
told_most held n {k} e = let l = length-take k held in by (leb n 4096) refl
  where
    by : (t : Bool) → leb n 4096 ≡ t → length (take k held) ≤ n
    by true q = let l = length-take k held in let m : k ≡ n = e ∙ rw q in omega arith
    by false q = let l = length-take k held in let m : k ≡ 0 = e ∙ rw q in omega arith

-- ---- what a byte gives
module _ (place : Place) (n : ℕ) (held : List ℕ) where
  module _ {k : ℕ} (e : k ≡ told_count n) where
    pub newline_gives : {b : ℕ} → b ≡ 10 → (fed (stands place n held) b ≡ stands (step place (take k held)) 0 held) × (written (stands place n held) b ≡ line_text place (take k held) true) × (entered (stands place n held) b ≡ line_entry place (take k held))
    unfolding fed written entered held_line line_text Repair.line_text said
    newline_gives {b} q =
        rw (eq-eqb b 10 q) (
          ap (λ (p : Place). stands p 0 held) (looked_at (step place) (long_step place) held n e),
          ap (λ (l : List ℕ). l ++ (10 ∷ [])) (looked_at (mended place.opens) (long_mended place.opens) held n e),
          looked_at (line_entry place) (long_entry place) held n e,
        )

    pub end_gives : (n ≡ 0 → ⊥) → (ending (stands place n held) ≡ line_text place (take k held) false) × (last_entered (stands place n held) ≡ line_entry place (take k held))
    unfolding ending last_entered held_line line_text said
    end_gives q =
        rw (ne_eqb n 0 q, append-nil) (
          looked_at (mended place.opens) (long_mended place.opens) held n e,
          looked_at (line_entry place) (long_entry place) held n e,
        )

  pub other_gives : {b : ℕ} → (b ≡ 10 → ⊥) → (fed (stands place n held) b ≡ stands place (push_count 4096 n) (push_text 4096 held n b)) × (written (stands place n held) b ≡ []) × (entered (stands place n held) b ≡ [])
  unfolding fed written entered
  other_gives {b} q = rw (ne_eqb b 10 q) (refl, refl, refl)

pub push_long : (held : List ℕ) (n b : ℕ) → length (push_text 4096 held n b) ≡ length held
unfolding push_text
push_long held n b = by (ltb n 4096)
  where
    by : (t : Bool) → length (cond t (set held n b) held) ≡ length held
    by true = length-set held n b
    by false = refl

-- ---- the two rooms. A line's bytes pay for it: 40 of those that are held, and two for each that comes in
abbrev pub credit : Standing → ℕ
credit r = min r.mender.n 40

abbrev pub free : Standing → ℕ
free r = 0

pub push_paid : (n : ℕ) → min (push_count 4096 n) 40 ≤ min n 40 + 2
unfolding push_count
push_paid n = by (ltb n 4096) refl
  where
    by : (t : Bool) → ltb n 4096 ≡ t → min (cond t (n + 1) 4097) 40 ≤ min n 40 + 2
    by true e = omega arith
    by false e = let h = ltb-false n 4096 e in omega arith

-- by byte i: both texts stand in their rooms, and the buffer is whole
pub record Fills (r₀ : Standing) (chunk out₀ list₀ : List ℕ) (r : Standing) (n : ℕ) (out : List ℕ) (m : ℕ) (list : List ℕ) (i : ℕ) : Type 0 where
  pub text : Streamed fed written credit 2 r₀ chunk out₀ r n out i
  pub entries : Streamed fed entered free 41 r₀ chunk list₀ r m list i
  pub whole : length r.held ≡ 4096

pub fits : {r₀ : Standing} {chunk out₀ list₀ : List ℕ} {r : Standing} {n : ℕ} {out : List ℕ} {m : ℕ} {list : List ℕ} {i : ℕ} → Fills r₀ chunk out₀ list₀ r n out m list i → room_for (length chunk) ≤ length out₀ → list_room_for (length chunk) ≤ length list₀ → (n + 41 ≤ length out) × (length out ≡ length out₀) × (m + 41 ≤ length list) × (length list ≡ length list₀)
fits s h g =
    let a = streamed_most fed written credit 2 s.text (omega arith) in
    let b = streamed_most fed entered free 41 s.entries (omega arith) in
    (omega (arith, a.0, a.1), a.1, omega (arith, b.0, b.1), b.1)

-- nothing is open
pub none_open : (place : Place) (n : ℕ) (held : List ℕ) → n ≡ 0 → (ending (stands place n held) ≡ []) × (last_entered (stands place n held) ≡ [])
unfolding ending last_entered
none_open place n held e = rw (eq-eqb n 0 e) (refl, refl)
