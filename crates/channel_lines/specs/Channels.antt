-- What the program for two channels writes: all of it follows from the bytes of the table file and of its input.
use Rattle.std.specs.Prelude.{ℕ, zero, suc, ◌≡◌, refl, List, ◌∷◌, Bool, true, false, cond, ◌&&◌, eqb, ltb, ℤ, length, get_or, take, drop}
use Rattle.std.proofs.Common.{ap, arith, length-take, take_all, ltb-true, ltb-false, ne_eqb}
use Rattle.stream.specs.Lines.{lines}
use Rattle.stream.specs.Told.{texts}
use Rattle.state.specs.State.{fault, cold_start, missed_frame}
use Rattle.hex_lines.specs.Text.{refused_text}
use Rattle.table_file.specs.File as File
use Rattle.heard.specs.Recording.{line_step, line_text, tables_text}
use Rattle.channel_lines.specs.declared.Pair.{Pair}
use Rattle.channel_lines.specs.declared.Whose.{Whose}
use Rattle.channel_lines.specs.declared.Whose.TheVariants.{A, B, Neither}

-- ---- a line
-- it begins with this letter and a blank: a line that is shorter has 0, which is neither, in their places
unfoldable pub begins : ℕ → List ℕ → Bool
begins letter line = eqb (get_or line 1 0) 32 && eqb (get_or line 0 0) letter

-- `a` and a blank, or `b` and a blank; any other line may have been either's
unfoldable pub whose : List ℕ → Whose
whose line = cond (begins 97 line) A (cond (begins 98 line) B Neither)

-- a text with a letter and a blank before it
unfoldable pub lettered : ℕ → List ℕ → List ℕ
lettered letter text = letter ∷ 32 ∷ text

module _ (words : List ℤ) (bytes : List ℕ) where
  -- what follows letter and blank is a line of that channel alone, answered as decode answers it; a line of neither is a missed frame in both
  unfoldable pub step_by : Whose → Pair → List ℕ → Pair
  step_by A p rest = record { a = line_step words bytes p.a rest; b = p.b }
  step_by B p rest = record { a = p.a; b = line_step words bytes p.b rest }
  step_by Neither p rest = record { a = (missed_frame p.a).state; b = (missed_frame p.b).state }

  unfoldable pub text_by : Whose → Pair → List ℕ → List ℕ
  text_by A p rest = lettered 97 (line_text words bytes p.a rest)
  text_by B p rest = lettered 98 (line_text words bytes p.b rest)
  text_by Neither p rest = lettered 63 (refused_text 9)

  -- the channels that a line leaves, and what it is printed as
  unfoldable pub step : Pair → List ℕ → Pair
  step p line = step_by (whose line) p (drop 2 line)

  unfoldable pub text : Pair → List ℕ → List ℕ
  text p line = text_by (whose line) p (drop 2 line)

  -- ---- a recording: each channel starts cold
  unfoldable pub cold : Pair
  cold = record { a = (cold_start words bytes).state; b = (cold_start words bytes).state }

  unfoldable pub transcript : List ℕ → List ℕ
  transcript input = texts step text cold (lines input)

-- all that the program writes, by the table file's refusal number
unfoldable pub output : ℕ → List ℕ → List ℕ → List ℕ
output zero file input = transcript (File.words file) (File.bytes file) input
output (suc n) file input = tables_text (suc n) file

unfoldable pub program : List ℕ → List ℕ → List ℕ
program file input = output (File.check_file file) file input

-- ---- the first 15,835 bytes of a table file tell what all of them do: one that is longer is refused as it is
pub first_bytes : (file input : List ℕ) → program (take 15835 file) input ≡ program file input
unfolding program File.check_file output tables_text fault
first_bytes file input = by (ltb 15835 (length file)) refl
  where
    by : (long : Bool) → ltb 15835 (length file) ≡ long → program (take 15835 file) input ≡ program file input
    by false e = ap (λ (f : List ℕ). program f input) (take_all 15835 file (ltb-false 15835 (length file) e))
    by true e =
        let h = ltb-true 15835 (length file) e in
        let t = length-take 15835 file in
        rw (ne_eqb (length file) 15834 (λ z. omega arith), ne_eqb (length (take 15835 file)) 15834 (λ z. omega arith))
