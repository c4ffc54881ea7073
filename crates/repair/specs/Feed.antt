-- The mender takes its input a byte at a time and gives two texts at each line's end. What its calls promise, joined, is the program's.
use Rattle.std.specs.Prelude.{ℕ, suc, ◌+◌, ◌*◌, ◌<◌, min, ◌≡◌, Bool, true, false, cond, eqb, ltb, leb, length}
use Rattle.std.proofs.Math.Path.{refl, ap}
use Rattle.std.proofs.Common.{sym, ◌∙◌, arith, lit<, ne_eqb}
use mathlib.Core.List.{List, [], ◌∷◌, ◌++◌, append-nil}
use Rattle.std.proofs.lemmas.Bool.{lt-leb}
use Rattle.stream.specs.Lines.{pieces, lines}
use Rattle.stream.specs.Held.{count, shown, zeros, push_text, push_count, push_count_lem}
use Rattle.stream.specs.Machine.{fed_all, written_all}
use Rattle.stream.specs.Reads.{Read, input_of, answers}
use Rattle.stream.specs.Reads as Reads
use Rattle.stream.specs.Told.{told, last, pieces_told, told_lines, Machine, any_cut}
use Rattle.hex_lines.specs.Text.{is_frame, is_only}
use Rattle.mending.specs.declared.Place.{Place}
use Rattle.repair.specs.declared.Mender.{Mender}
use Rattle.repair.specs.declared.Fed.{Fed}
use Rattle.mending.specs.Repair.{bare, cleaned, passes, is_kept, mended, happened, first, step, line_text, last_text, line_entry, repaired, list}
use Rattle.repair.specs.Lent.{lent, lent_none, lent_long, lent_push, lent_same}

-- ---- where a file stands, with what the lent buffer holds
pub record Standing : Type 0 where
  pub mender : Mender
  pub held : List ℕ

abbrev pub standing : Mender → List ℕ → Standing
standing mender held = record { mender = mender; held = held }

unfoldable pub begin : Mender
begin = record { place = first; n = 0 }

-- the line that is told; of one that is too long no byte is looked at
unfoldable pub held_line : Standing → List ℕ
held_line r = shown 4096 r.held r.mender.n

unfoldable pub told_count : ℕ → ℕ
told_count n = cond (leb n 4096) n 0

-- a byte more: a newline ends the line, and leaves the buffer as it is
unfoldable pub fed : Standing → ℕ → Standing
fed r b =
    cond (eqb b 10) (standing (record { place = step r.mender.place (held_line r); n = 0 }) r.held)
    (standing (record { place = r.mender.place; n = push_count 4096 r.mender.n }) (push_text 4096 r.held r.mender.n b))

-- what is written at a byte, and what is entered on the list
unfoldable pub written : Standing → ℕ → List ℕ
written r b = cond (eqb b 10) (line_text r.mender.place (held_line r)) []

unfoldable pub entered : Standing → ℕ → List ℕ
entered r b = cond (eqb b 10) (line_entry r.mender.place (held_line r)) []

-- and where the input ends: a line that is open is a line, unless nothing stands in it, and gets no newline
unfoldable pub ending : Standing → List ℕ
ending r = cond (eqb r.mender.n 0) [] (mended r.mender.place.opens (held_line r))

unfoldable pub last_entered : Standing → List ℕ
last_entered r = cond (eqb r.mender.n 0) [] (line_entry r.mender.place (held_line r))

-- the rooms that a chunk of n bytes asks: `-` and a newline for each, or the bytes that are held; a number, three words and a newline for each
abbrev pub room_for : ℕ → ℕ
room_for n = 2 * n + 81

abbrev pub list_room_for : ℕ → ℕ
list_room_for n = 41 * (n + 1)

-- a chunk: where it leaves the mender, and how long its texts are
unfoldable pub fed_chunk : Standing → List ℕ → Fed
fed_chunk r chunk = record { mender = (fed_all fed r chunk).mender; repaired = length (written_all fed written r chunk); listed = length (written_all fed entered r chunk) }

-- what a read gives, nothing read being the end of the input
abbrev pub answered_text : Standing → List ℕ → List ℕ
answered_text r chunk = Reads.answer_text fed written ending r chunk

abbrev pub answered_list : Standing → List ℕ → List ℕ
answered_list r chunk = Reads.answer_text fed entered last_entered r chunk

unfoldable pub answered : Standing → List ℕ → Fed
answered r chunk = record { mender = (fed_all fed r chunk).mender; repaired = length (answered_text r chunk); listed = length (answered_list r chunk) }

-- a program's turn: there were some bytes, `next` is where they leave the mender and the buffer, as much was written and listed as they give, and there may be more
-- just where there were any; one that failed says no more than where it stopped
pub record TookIn (r next : Standing) (sent listed : ℕ) (more failed : Bool) : Type 0 where
  pub chunk : List ℕ
  pub follows : next ≡ fed_all fed r chunk
  pub all_sent : failed ≡ false → sent ≡ length (answered_text r chunk)
  pub all_listed : failed ≡ false → listed ≡ length (answered_list r chunk)
  pub goes_on : failed ≡ false → more ≡ ltb 0 (length chunk)

-- ---- a line that is too long is told as an empty one is
long_kept : (opens : Bool) (line : List ℕ) → 4096 < length line → is_kept opens line ≡ false
unfolding is_kept
long_kept opens line h = rw (lt-leb (length line) 4096 h)

empty_kept : (opens : Bool) → is_kept opens [] ≡ false
unfolding is_kept passes cleaned bare is_only is_frame
empty_kept true = refl
empty_kept false = refl

pub long_mended : (opens : Bool) (line : List ℕ) → 4096 < length line → mended opens line ≡ mended opens []
unfolding mended
long_mended opens line h = rw (long_kept opens line h, empty_kept opens)

pub long_step : (p : Place) (line : List ℕ) → 4096 < length line → step p line ≡ step p []
unfolding step
long_step p line h = rw (long_mended p.opens line h)

pub long_text : (p : Place) (line : List ℕ) → 4096 < length line → line_text p line ≡ line_text p []
unfolding line_text
long_text p line h = rw (long_mended p.opens line h)

pub long_entry : (p : Place) (line : List ℕ) → 4096 < length line → line_entry p line ≡ line_entry p []
unfolding line_entry happened is_only
long_entry p line h = rw (long_kept p.opens line h, empty_kept p.opens, ne_eqb (length line) 1 (λ e. omega arith))

-- so is the line of 4,097 zeros that `shown` puts in its place
alike : {A : Type 0} (f : List ℕ → A) → ((line : List ℕ) → 4096 < length line → f line ≡ f []) → (line : List ℕ) → 4096 < length line → f line ≡ f (zeros 4097)
alike f long line h = long line h ∙ sym (long (zeros 4097) (lit< tt))

-- ---- it is the machine of the lines: between two lines there is a place, and a buffer with what older lines left there
pub record Between : Type 0 where
  pub place : Place
  pub held : List ℕ
  pub whole : length held ≡ 4096

next : Between → List ℕ → Between
next s line = record { place = step s.place line; held = lent 4096 line s.held; whole = lent_long 4096 line s.held s.whole }

pub at : Between → List ℕ → Standing
at s line = standing (record { place = s.place; n = count 4096 line }) (lent 4096 line s.held)

-- what takes every longer line alike
told_same : {A : Type 0} (f : List ℕ → A) → ((line : List ℕ) → 4096 < length line → f line ≡ f []) → (s : Between) (line : List ℕ) → f (held_line (at s line)) ≡ f line
unfolding held_line at
told_same f long s line = lent_same 4096 line s.held s.whole f (alike f long line)

-- nothing is in a line where its count is 0
open_line : {A : Type 0} (none : A) (f : List ℕ → A) (s : Between) (b : ℕ) (bs : List ℕ) {g : A} → g ≡ f (b ∷ bs) → cond (eqb (at s (b ∷ bs)).mender.n 0) none g ≡ f (b ∷ bs)
unfolding at
open_line none f s b bs e = rw (ne_eqb (min (suc (length bs)) 4097) 0 (λ z. omega arith)) e

module _ (text end : Place → List ℕ → List ℕ) (wrote : Standing → ℕ → List ℕ) (ends : Standing → List ℕ) where
  -- what is to hold of a text, by its place
  pub record Written : Type 0 where
    pub newline : (s : Between) (line : List ℕ) → wrote (at s line) 10 ≡ text s.place line
    pub other : (r : Standing) (b : ℕ) → (b ≡ 10 → ⊥) → wrote r b ≡ []
    pub end_text_lem : (s : Between) (line : List ℕ) → ends (at s line) ≡ end s.place line

  machine : Written → Machine next (λ s. text s.place) (λ s. end s.place) fed wrote ends at
  unfolding fed at next
  machine w = record {
    newline = λ s line. let e = told_same (step s.place) (long_step s.place) s line in rw (e, lent_none 4096 (lent 4096 line s.held));
    newline_text = w.newline;
    other = λ s line b h. rw (ne_eqb b 10 h, lent_push 4096 line s.held s.whole b, push_count_lem 4096 line b);
    other_text = λ s line b h. w.other (at s line) b h;
    end_text_lem = w.end_text_lem;
  }

  -- the buffer has no part in it
  placed : (s : Between) (piece : List ℕ) (more : List (List ℕ)) → pieces_told next (λ s. text s.place) (λ s. end s.place) s piece more ≡ pieces_told step text end s.place piece more
  unfolding pieces_told next
  placed s piece [] = refl
  placed s piece (other ∷ more) = ap (λ (l : List ℕ). text s.place piece ++ l) (placed (next s piece) other more)

  pub all_told : Written → (held : List ℕ) → length held ≡ 4096 → (reads : List Read) → answers fed wrote ends (standing begin held) reads ≡ pieces_told step text end first (pieces (input_of reads)).first (pieces (input_of reads)).more
  unfolding begin at
  all_told w held h reads =
      let s : Between = record { place = first; held = held; whole = h } in
      ap (λ (h : List ℕ). answers fed wrote ends (standing begin h) reads) (sym (lent_none 4096 held))
      ∙ any_cut next (λ s. text s.place) (λ s. end s.place) fed wrote ends at (machine w) s reads ∙ placed s _ _

-- ---- the two texts
mended_ends : (s : Between) (line : List ℕ) → ending (at s line) ≡ last_text s.place line
unfolding ending last_text at
mended_ends s [] = refl
mended_ends s (b ∷ bs) = open_line [] (mended s.place.opens) s b bs (told_same (mended s.place.opens) (long_mended s.place.opens) s (b ∷ bs))

repaired_written : Written line_text last_text written ending
unfolding written at
repaired_written = record {
  newline = λ s line. told_same (line_text s.place) (long_text s.place) s line;
  other = λ r b h. rw (ne_eqb b 10 h);
  end_text_lem = mended_ends;
}

-- nothing more is entered at the end
nothing : Place → List ℕ
nothing p = []

entry_ends : (s : Between) (line : List ℕ) → last_entered (at s line) ≡ last step line_entry nothing s.place line
unfolding last_entered last nothing at
entry_ends s [] = refl
entry_ends s (b ∷ bs) = rw append-nil (open_line [] (line_entry s.place) s b bs (told_same (line_entry s.place) (long_entry s.place) s (b ∷ bs)))

list_written : Written line_entry (last step line_entry nothing) entered last_entered
unfolding entered at
list_written = record {
  newline = λ s line. told_same (line_entry s.place) (long_entry s.place) s line;
  other = λ r b h. rw (ne_eqb b 10 h);
  end_text_lem = entry_ends;
}

-- THE PROGRAM, as its calls promise it: the texts of any reads and of one that gives nothing, joined, are the definitions' of all that was read, whatever the lent
-- buffer held
module _ (held : List ℕ) (whole : length held ≡ 4096) (reads : List Read) where
  pub repaired_told : answers fed written ending (standing begin held) reads ≡ repaired (input_of reads)
  unfolding repaired
  repaired_told = all_told line_text last_text written ending repaired_written held whole reads

  pub list_told : answers fed entered last_entered (standing begin held) reads ≡ list (input_of reads)
  unfolding list lines told nothing
  list_told =
      all_told line_entry (last step line_entry nothing) entered last_entered list_written held whole reads
      ∙ told_lines step line_entry nothing first _ _ ∙ append-nil _
