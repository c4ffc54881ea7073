-- What holds of every line that is mended.
use Rattle.std.specs.Prelude.{ℕ, suc, ◌<◌, ◌≡◌, refl, List, [], ◌∷◌, ◌++◌, Bool, true, false, cond, ◌&&◌, ◌||◌, eqb, leb, length}
use Rattle.std.proofs.Common.{sym, ap, arith, length-append, eqb-true, le-leb}
use Rattle.std.proofs.lemmas.Bool.{false≢true}
use Rattle.sequence.specs.All.{all, and_left}
use Rattle.stream.specs.Lines.{plain}
use Rattle.stream.specs.Decimal.{decimal}
use Rattle.hex_lines.specs.Text.{is_digit, is_frame, is_only, payload}
use Rattle.mending.specs.Repair.{is_return, is_blank, is_capital, bare, lower, cleaned, passes, is_kept, mended, any, return, blank, letter, replaced, said, happened, entry}
use Rattle.mending.specs.Bytes.{is_lower, clean_same, none_in, payload_same, frame_lower, lower_none, lower_digits, lower_line}

-- ---- a line of one byte
pub only_is : (b : ℕ) (line : List ℕ) → is_only b line ≡ true → line ≡ b ∷ []
unfolding is_only
only_is b [] e = absurd (false≢true e)
only_is b (c ∷ []) e = ap (λ (x : ℕ). x ∷ []) (eqb-true c b e)
only_is b (c ∷ (d ∷ l)) e = absurd (let h = eqb-true (suc (suc (length l))) 1 (and_left _ _ e) in omega arith)

-- ---- what is listed is what changed
none_words : (r b l : Bool) → said r return ++ (said b blank ++ said l letter) ≡ [] → (r ≡ false) × (b ≡ false) × (l ≡ false)
unfolding said
none_words false false false e = (refl, refl, refl)
none_words false false true e = absurd (let h = ap length e in omega arith)
none_words false true l e = absurd (let h = ap length e in omega arith)
none_words true b l e = absurd (let h = ap length e in omega arith)

-- an unlisted line is byte for byte the old one
pub unlisted_same : (opens : Bool) (line : List ℕ) → happened opens line ≡ [] → mended opens line ≡ line
unfolding happened mended
unlisted_same opens line e = by (is_kept opens line) (is_only 45 line) refl e
  where
    by : (k d : Bool) → is_only 45 line ≡ d → cond k (said (any is_return line) return ++ (said (any is_blank line) blank ++ said (any is_capital line) letter)) (cond d [] replaced) ≡ [] → cond k (cleaned line) (45 ∷ []) ≡ line
    by true d p q = let n = none_words (any is_return line) (any is_blank line) (any is_capital line) q in clean_same line n.0 n.1 n.2
    by false true p q = sym (only_is 45 line p)
    by false false p q = absurd (let h = ap length q in omega arith)

-- and a listed one is not
pub same_unlisted : (opens : Bool) (line : List ℕ) → mended opens line ≡ line → happened opens line ≡ []
unfolding happened mended is_only said
same_unlisted opens line e = by (is_kept opens line) e
  where
    by : (k : Bool) → cond k (cleaned line) (45 ∷ []) ≡ line → cond k (said (any is_return line) return ++ (said (any is_blank line) blank ++ said (any is_capital line) letter)) (cond (is_only 45 line) [] replaced) ≡ []
    by true q = let n = none_in line in rw (← q) (rw (n.returns, n.blanks, n.letters))
    by false q = rw (← q)

-- an entry is empty where nothing happened
pub entry_none : (n : ℕ) (words : List ℕ) → entry n words ≡ [] → words ≡ []
unfolding entry
entry_none n [] e = refl
entry_none n (c ∷ cs) e =
    absurd (let h = ap length e in let a = length-append (decimal n) ((c ∷ cs) ++ (10 ∷ [])) in omega arith)

-- ---- what comes out
-- `=`, a `+` in its place, 40 digits in lower case, or `-`
unfoldable pub is_lower_frame : List ℕ → Bool
is_lower_frame line = eqb (length line) 40 && all is_lower line

unfoldable pub is_sound : Bool → List ℕ → Bool
is_sound opens line = is_only 61 line || ((opens && is_only 43 line) || (is_lower_frame line || is_only 45 line))

dash_sound : (opens : Bool) → is_sound opens (45 ∷ []) ≡ true
unfolding is_sound is_only is_lower_frame
dash_sound true = refl
dash_sound false = refl

frame_sound : (line : List ℕ) → is_frame (cleaned line) ≡ true → is_lower_frame (cleaned line) ≡ true
unfolding is_lower_frame is_frame
frame_sound line e = rw (and_left (eqb (length (cleaned line)) 40) (all is_digit (cleaned line)) e) (frame_lower line e)

pub mended_sound : (opens : Bool) (line : List ℕ) → is_sound opens (mended opens line) ≡ true
unfolding mended is_kept passes is_sound
mended_sound opens line = by (leb (length line) 4096) (is_only 61 (cleaned line)) (opens && is_only 43 (cleaned line)) (is_frame (cleaned line)) refl refl refl
  where
    by : (l e s f : Bool) → is_only 61 (cleaned line) ≡ e → opens && is_only 43 (cleaned line) ≡ s → is_frame (cleaned line) ≡ f → is_sound opens (cond (l && (e || (s || f))) (cleaned line) (45 ∷ [])) ≡ true
    by true true s f p q r = rw p
    by true false true f p q r = rw (p, q)
    by true false false true p q r = rw (p, q, frame_sound line r)
    by true false false false p q r = dash_sound opens
    by false e s f p q r = dash_sound opens

-- ---- such a line goes through unchanged
pub data Kind (opens : Bool) (line : List ℕ) : Type 0 where
  equals : line ≡ 61 ∷ [] → Kind opens line
  start : opens ≡ true → line ≡ 43 ∷ [] → Kind opens line
  frame : length line ≡ 40 → all is_lower line ≡ true → Kind opens line
  dash : line ≡ 45 ∷ [] → Kind opens line

pub kind : (opens : Bool) (line : List ℕ) → is_sound opens line ≡ true → Kind opens line
unfolding is_sound is_lower_frame
kind opens line e = by (is_only 61 line) opens (is_only 43 line) (eqb (length line) 40) (all is_lower line) (is_only 45 line) refl refl refl refl refl refl e
  where
    by : (a o b l f d : Bool) → is_only 61 line ≡ a → opens ≡ o → is_only 43 line ≡ b → eqb (length line) 40 ≡ l → all is_lower line ≡ f → is_only 45 line ≡ d → a || ((o && b) || ((l && f) || d)) ≡ true → Kind opens line
    by true o b l f d p q r s t u e = equals (only_is 61 line p)
    by false true true l f d p q r s t u e = start q (only_is 43 line r)
    by false true false true true d p q r s t u e = frame (eqb-true (length line) 40 s) t
    by false true false true false true p q r s t u e = dash (only_is 45 line u)
    by false true false true false false p q r s t u e = absurd (false≢true e)
    by false true false false f true p q r s t u e = dash (only_is 45 line u)
    by false true false false f false p q r s t u e = absurd (false≢true e)
    by false false b true true d p q r s t u e = frame (eqb-true (length line) 40 s) t
    by false false b true false true p q r s t u e = dash (only_is 45 line u)
    by false false b true false false p q r s t u e = absurd (false≢true e)
    by false false b false f true p q r s t u e = dash (only_is 45 line u)
    by false false b false f false p q r s t u e = absurd (false≢true e)

frame_mended : (opens : Bool) (line : List ℕ) → length line ≡ 40 → all is_lower line ≡ true → mended opens line ≡ line
unfolding mended is_kept passes is_only is_frame
frame_mended opens line l e =
    let n = lower_none line e in
    let c = clean_same line n.returns n.blanks n.letters in
    rw (c, le-leb (length line) 4096 (omega arith), l, lower_digits line e) (by opens)
  where
    by : (o : Bool) → cond ((o && false) || true) line (45 ∷ []) ≡ line
    by true = refl
    by false = refl

pub sound_same : (opens : Bool) (line : List ℕ) → Kind opens line → mended opens line ≡ line
unfolding mended is_kept passes cleaned bare is_return is_blank lower is_capital is_only is_frame
sound_same opens line (equals e) = rw e
sound_same opens line (start o e) = rw (o, e)
sound_same opens line (frame l e) = frame_mended opens line l e
sound_same true line (dash e) = rw e
sound_same false line (dash e) = rw e

-- it has no newline in it and is not empty
pub kind_plain : (opens : Bool) (line : List ℕ) → Kind opens line → (plain line ≡ true) × (0 < length line)
kind_plain opens line (equals e) = rw e (refl, omega arith)
kind_plain opens line (start o e) = rw e (refl, omega arith)
kind_plain opens line (frame l e) = (lower_line line e, omega arith)
kind_plain opens line (dash e) = rw e (refl, omega arith)

-- ---- a frame that is kept has the payload that its digits had, whatever their case
pub kept_payload : (opens : Bool) (line : List ℕ) → is_kept opens line ≡ true → payload (mended opens line) ≡ payload (bare line)
unfolding mended
kept_payload opens line e = rw e (payload_same line)
