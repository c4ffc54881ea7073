-- What holds of every file that is mended.
use Rattle.std.specs.Prelude.{ℕ, zero, suc, ◌+◌, ◌<◌, ◌≤◌, min, ◌≡◌, refl, List, [], ◌∷◌, ◌++◌, Bool, true, false, ◌&&◌, eqb, length, get_or, take}
use Rattle.std.proofs.Common.{ap, ◌∙◌, append_assoc, arith, le_of_suc-le-suc, not-suc-le-zero, eqb-true}
use Rattle.sequence.specs.All.{and_left, and_right}
use Rattle.stream.specs.Lines.{pieces, of_pieces, lines, plain, line_first, line_last}
use Rattle.stream.specs.Told.{after, texts, pieces_told}
use Rattle.hex_lines.specs.Text.{is_only}
use Rattle.mending.specs.declared.Place.{Place}
use Rattle.mending.specs.Repair.{mended, entry, first, step, line_text, last_text, line_entry, repaired, list}
use Rattle.mending.specs.Laws.{is_sound, mended_sound, kind, kind_plain, sound_same, same_unlisted, unlisted_same, entry_none}

-- ---- the lines that come out are the lines that went in, each mended
unfoldable pub mended_all : Bool → List (List ℕ) → List (List ℕ)
mended_all opens [] = []
mended_all opens (line ∷ more) = mended opens line ∷ mended_all (is_only 61 (mended opens line)) more

one_line : (l : List ℕ) → (plain l ≡ true) × (0 < length l) → lines l ≡ l ∷ []
one_line [] h = absurd (omega (arith, h.1))
one_line (b ∷ bs) h = line_last b bs h.0

plain_mended : (opens : Bool) (line : List ℕ) → (plain (mended opens line) ≡ true) × (0 < length (mended opens line))
plain_mended opens line = kind_plain opens (mended opens line) (kind opens (mended opens line) (mended_sound opens line))

with_newline : (opens : Bool) (line rest : List ℕ) → lines ((mended opens line ++ (10 ∷ [])) ++ rest) ≡ mended opens line ∷ lines rest
with_newline opens line rest = rw append_assoc (line_first (mended opens line) rest (plain_mended opens line).0)

no_lines : lines [] ≡ []
unfolding lines pieces of_pieces
no_lines = refl

from_pieces : (p : Place) (piece : List ℕ) (more : List (List ℕ)) → lines (pieces_told step line_text last_text p piece more) ≡ mended_all p.opens (of_pieces piece more)
unfolding pieces_told line_text last_text step of_pieces mended_all
from_pieces p [] [] = no_lines
from_pieces p (b ∷ bs) [] = one_line (mended p.opens (b ∷ bs)) (plain_mended p.opens (b ∷ bs))
from_pieces p [] (next ∷ more) = with_newline p.opens [] _ ∙ ap (λ (l : List (List ℕ)). mended p.opens [] ∷ l) (from_pieces (step p []) next more)
from_pieces p (b ∷ bs) (next ∷ more) = with_newline p.opens (b ∷ bs) _ ∙ ap (λ (l : List (List ℕ)). mended p.opens (b ∷ bs) ∷ l) (from_pieces (step p (b ∷ bs)) next more)

pub lines_mended : (input : List ℕ) → lines (repaired input) ≡ mended_all true (lines input)
unfolding repaired lines
lines_mended input = from_pieces first (pieces input).first (pieces input).more

-- as many come out as went in
all_long : (opens : Bool) (ls : List (List ℕ)) → length (mended_all opens ls) ≡ length ls
unfolding mended_all
all_long opens [] = refl
all_long opens (line ∷ more) = ap suc (all_long (is_only 61 (mended opens line)) more)

pub as_many : (input : List ℕ) → length (lines (repaired input)) ≡ length (lines input)
as_many input = ap length (lines_mended input) ∙ all_long true (lines input)

-- ---- each of them is `=`, a `+` in its place, 40 digits in lower case, or `-`
unfoldable pub all_sound : Bool → List (List ℕ) → Bool
all_sound opens [] = true
all_sound opens (line ∷ more) = is_sound opens line && all_sound (is_only 61 line) more

each_sound : (opens : Bool) (ls : List (List ℕ)) → all_sound opens (mended_all opens ls) ≡ true
unfolding all_sound mended_all
each_sound opens [] = refl
each_sound opens (line ∷ more) = rw (mended_sound opens line) (each_sound (is_only 61 (mended opens line)) more)

pub repaired_sound : (input : List ℕ) → all_sound true (lines (repaired input)) ≡ true
repaired_sound input = ap (all_sound true) (lines_mended input) ∙ each_sound true (lines input)

-- ---- a file of such lines goes through unchanged, and its list is empty
-- pieces, with newlines between them again
joined : List ℕ → List (List ℕ) → List ℕ
joined piece [] = piece
joined piece (next ∷ more) = piece ++ (10 ∷ joined next more)

join_byte : (b : ℕ) (piece : List ℕ) (more : List (List ℕ)) → joined (b ∷ piece) more ≡ b ∷ joined piece more
unfolding joined
join_byte b piece [] = refl
join_byte b piece (next ∷ more) = refl

rejoined : (input : List ℕ) → joined (pieces input).first (pieces input).more ≡ input
unfolding joined pieces
rejoined [] = refl
rejoined (b ∷ bs) = by (eqb b 10) refl (rejoined bs)
  where
    by : (t : Bool) → eqb b 10 ≡ t → joined (pieces bs).first (pieces bs).more ≡ bs → joined (pieces (b ∷ bs)).first (pieces (b ∷ bs)).more ≡ b ∷ bs
    by true e h = rw (e, eqb-true b 10 e) (ap (λ (l : List ℕ). 10 ∷ l) h)
    by false e h = rw e (join_byte b (pieces bs).first (pieces bs).more ∙ ap (λ (l : List ℕ). b ∷ l) h)

line_same : (opens : Bool) (line : List ℕ) → is_sound opens line ≡ true → mended opens line ≡ line
line_same opens line e = sound_same opens line (kind opens line e)

-- a line more, where it is shown of the rest
more_same : (p : Place) (piece next : List ℕ) (more : List (List ℕ)) → all_sound p.opens (piece ∷ of_pieces next more) ≡ true
    → (all_sound (step p piece).opens (of_pieces next more) ≡ true → pieces_told step line_text last_text (step p piece) next more ≡ joined next more) → pieces_told step line_text last_text p piece (next ∷ more) ≡ joined piece (next ∷ more)
unfolding pieces_told line_text step joined all_sound
more_same p piece next more e then =
    let m = line_same p.opens piece (and_left (is_sound p.opens piece) (all_sound (is_only 61 piece) (of_pieces next more)) e) in
    let h = then (rw m (and_right (is_sound p.opens piece) (all_sound (is_only 61 piece) (of_pieces next more)) e)) in
    rw (h, m, append_assoc)

pieces_same : (p : Place) (piece : List ℕ) (more : List (List ℕ)) → all_sound p.opens (of_pieces piece more) ≡ true → pieces_told step line_text last_text p piece more ≡ joined piece more
unfolding pieces_told last_text of_pieces joined all_sound
pieces_same p [] [] e = refl
pieces_same p (b ∷ bs) [] e = line_same p.opens (b ∷ bs) (and_left (is_sound p.opens (b ∷ bs)) true e)
pieces_same p [] (next ∷ more) e = more_same p [] next more e (λ h. pieces_same (step p []) next more h)
pieces_same p (b ∷ bs) (next ∷ more) e = more_same p (b ∷ bs) next more e (λ h. pieces_same (step p (b ∷ bs)) next more h)

no_entries : (p : Place) (ls : List (List ℕ)) → all_sound p.opens ls ≡ true → texts step line_entry p ls ≡ []
unfolding texts step line_entry entry all_sound
no_entries p [] e = refl
no_entries p (line ∷ more) e =
    let m = line_same p.opens line (and_left (is_sound p.opens line) (all_sound (is_only 61 line) more) e) in
    rw (same_unlisted p.opens line m) (no_entries (step p line) more (rw m (and_right (is_sound p.opens line) (all_sound (is_only 61 line) more) e)))

pub sound_through : (input : List ℕ) → all_sound true (lines input) ≡ true → (repaired input ≡ input) × (list input ≡ [])
unfolding repaired list lines
sound_through input e = (pieces_same first (pieces input).first (pieces input).more e ∙ rejoined input, no_entries first (lines input) e)

-- so repairing twice is repairing once
pub twice : (input : List ℕ) → (repaired (repaired input) ≡ repaired input) × (list (repaired input) ≡ [])
twice input = sound_through (repaired input) (repaired_sound input)

-- ---- line k of a file: where it stands, and its number
unfoldable pub place_of : List ℕ → ℕ → Place
place_of input k = after step first (take k (lines input))

nth_mended : (p : Place) (ls : List (List ℕ)) (k : ℕ) → k < length ls → get_or (mended_all p.opens ls) k [] ≡ mended (after step p (take k ls)).opens (get_or ls k [])
unfolding mended_all after step
nth_mended p [] k h = absurd (not-suc-le-zero h)
nth_mended p (line ∷ more) zero h = refl
nth_mended p (line ∷ more) (suc k) h = nth_mended (step p line) more k (le_of_suc-le-suc h)

-- a line with no entry on the list is byte for byte the old one
pub unlisted : (input : List ℕ) (k : ℕ) → k < length (lines input) → line_entry (place_of input k) (get_or (lines input) k []) ≡ [] → get_or (lines (repaired input)) k [] ≡ get_or (lines input) k []
unfolding place_of line_entry
unlisted input k h e =
    ap (λ (l : List (List ℕ)). get_or l k []) (lines_mended input) ∙ nth_mended first (lines input) k h
    ∙ unlisted_same _ (get_or (lines input) k []) (entry_none _ _ e)

-- and its number is k + 1, as far as 2 ^ 64 - 1
number_after : (p : Place) (ls : List (List ℕ)) (k : ℕ) → k ≤ length ls → p.number ≤ 18446744073709551615 → (after step p (take k ls)).number ≡ min (p.number + k) 18446744073709551615
unfolding after step
number_after p [] zero h g = omega arith
number_after p [] (suc k) h g = absurd (not-suc-le-zero h)
number_after p (line ∷ more) zero h g = omega arith
number_after p (line ∷ more) (suc k) h g = number_after (step p line) more k (le_of_suc-le-suc h) (omega arith) ∙ omega arith

pub numbered : (input : List ℕ) (k : ℕ) → k < length (lines input) → (place_of input k).number ≡ min (k + 1) 18446744073709551615
unfolding place_of
numbered input k h = number_after first (lines input) k (omega arith) (omega arith) ∙ omega arith
