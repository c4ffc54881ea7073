-- How long the texts are.
use Rattle.std.specs.Prelude.{ℕ, ◌*◌, ◌≤◌, ◌≡◌, refl, List, [], ◌∷◌, Bool, true, false, cond, eqb, ℤ, length}
use Rattle.std.proofs.Common.{arith, length-append}
use Rattle.stream.specs.Decimal.{figure, figure_long}
use Rattle.tables.specs.declared.Fault.{Fault}
use Rattle.hex_lines.specs.Text.{digit, four_digits, sample_text, frame_text, tables_refused_text}

pub text_long : (s : List ℤ) → length (sample_text s) ≡ 4 * length s
unfolding sample_text four_digits
text_long [] = refl
text_long (x ∷ s) = let h = text_long s in omega arith

pub frame_long : (mark : ℕ) (samples : List ℤ) → length samples ≡ 320 → length (frame_text mark samples) ≡ 1283
unfolding frame_text
frame_long mark samples e = let n = text_long samples in let m = length-append (sample_text samples) (10 ∷ []) in omega arith

pub tables_refused_long : (n : ℕ) (f : Fault) → length (tables_refused_text n f) ≤ 40
unfolding tables_refused_text
tables_refused_long n f = by (eqb f.rule 0) (figure_long (32 ∷ []) f.place)
  where
    by : (t : Bool) → length (figure (32 ∷ []) f.place) ≤ 22 → length (116 ∷ 97 ∷ 98 ∷ 108 ∷ 101 ∷ 115 ∷ 32 ∷ 114 ∷ 101 ∷ 102 ∷ 117 ∷ 115 ∷ 101 ∷ 100 ∷ 32 ∷ digit n ∷ cond t (10 ∷ []) (32 ∷ digit f.rule ∷ figure (32 ∷ []) f.place)) ≤ 40
    by true h = omega arith
    by false h = omega arith
