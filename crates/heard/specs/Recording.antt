-- What the decoding program writes: all of it follows from the bytes of the table file and of its input.
use Rattle.std.specs.Prelude.{ℕ, zero, suc, ◌≡◌, refl, List, [], ◌∷◌, Bool, true, false, cond, eqb, ltb, ℤ, pos, length, take, replicate}
use Rattle.std.proofs.Common.{ap, arith, length-take, take_all, ltb-true, ltb-false, ne_eqb}
use Rattle.stream.specs.Lines.{pieces, of_pieces, lines}
use Rattle.stream.specs.Told.{texts}
use Rattle.state.specs.declared.State.{State}
use Rattle.calls.specs.declared.Answer.{Answer}
use Rattle.state.specs.State.{fault, reset, cold_start}
use Rattle.calls.specs.Celp as Celp
use Rattle.calls.specs.Run.{Event, heard, missed, step}
use Rattle.hex_lines.specs.Text.{digit, is_frame, is_only, payload, frame_text, refused_text, tables_refused_text}
use Rattle.table_file.specs.File as File

-- the call that a line stands for: one that is not 40 hex digits counts as a missed frame
unfoldable pub event : List ℕ → Event
event line = cond (is_frame line) (heard (payload line) 320) missed

-- the sample buffer before a frame
abbrev pub blank : List ℤ
blank = replicate 320 (pos 0)

-- what decode's answer is printed as, with the samples that it left in the buffer
unfoldable pub answer_text : Answer → List ℤ → List ℕ
answer_text a samples = cond (eqb a.number 0) (frame_text a.mark samples) (refused_text a.number)

-- what a call is printed as
unfoldable pub text : List ℤ → List ℕ → State → Event → List ℕ
text words bytes s (heard payload room) = answer_text (Celp.decode words bytes s payload room) (Celp.samples words bytes s payload blank)
text words bytes s missed = refused_text 9

-- a line's call: the state that it leaves, and what it is printed as
unfoldable pub line_step : List ℤ → List ℕ → State → List ℕ → State
line_step words bytes s line = step words bytes s (event line)

unfoldable pub line_text : List ℤ → List ℕ → State → List ℕ → List ℕ
line_text words bytes s line = text words bytes s (event line)

-- a line that says that the call was heard from its start: `+`
unfoldable pub is_start : List ℕ → Bool
is_start line = is_only 43 line

-- how a recording opens: the state that its calls begin in, and the lines that are left for them
pub record Opening : Type 0 where
  pub state : State
  pub lines : List (List ℕ)

-- a first line `+` says that its call was heard from the start: it stands for no call, and the rest begins at reset; any other recording begins cold
unfoldable pub opening : List ℤ → List ℕ → List (List ℕ) → Opening
opening words bytes [] = record { state = (cold_start words bytes).state; lines = [] }
opening words bytes (line ∷ more) =
    cond (is_start line) (record { state = (reset words bytes).state; lines = more })
    (record { state = (cold_start words bytes).state; lines = line ∷ more })

-- the lines of a recording, one after the other, as they are answered
unfoldable pub transcript_of : List ℤ → List ℕ → Opening → List ℕ
transcript_of words bytes o = texts (line_step words bytes) (line_text words bytes) o.state o.lines

unfoldable pub transcript : List ℤ → List ℕ → List ℕ → List ℕ
transcript words bytes input = transcript_of words bytes (opening words bytes (lines input))

-- the one line of a table file that is refused, with the rule and the place that refusal 4 names
unfoldable pub tables_text : ℕ → List ℕ → List ℕ
tables_text n file = tables_refused_text n (fault n (File.words file) (File.bytes file))

-- all that the program writes, by the table file's refusal number
unfoldable pub output : ℕ → List ℕ → List ℕ → List ℕ
output zero file input = transcript (File.words file) (File.bytes file) input
output (suc n) file input = tables_text (suc n) file

unfoldable pub program : List ℕ → List ℕ → List ℕ
program file input = output (File.check_file file) file input

-- ---- the first 15,835 bytes of a table file tell what all of them do: one that is longer is refused as it is
pub first_bytes : (file input : List ℕ) → program (take 15835 file) input ≡ program file input
unfolding program File.check_file output tables_text fault
first_bytes file input = by (ltb 15835 (length file)) refl
  where
    by : (long : Bool) → ltb 15835 (length file) ≡ long → program (take 15835 file) input ≡ program file input
    by false e = ap (λ (f : List ℕ). program f input) (take_all 15835 file (ltb-false 15835 (length file) e))
    by true e =
        let h = ltb-true 15835 (length file) e in
        let t = length-take 15835 file in
        rw (ne_eqb (length file) 15834 (λ z. omega arith), ne_eqb (length (take 15835 file)) 15834 (λ z. omega arith))

-- ---- examples
-- a missing table file, whatever the input
no_file : (input : List ℕ) → program [] input ≡ 116 ∷ 97 ∷ 98 ∷ 108 ∷ 101 ∷ 115 ∷ 32 ∷ 114 ∷ 101 ∷ 102 ∷ 117 ∷ 115 ∷ 101 ∷ 100 ∷ 32 ∷ 49 ∷ 10 ∷ []
unfolding program File.check_file output tables_text fault tables_refused_text digit
no_file input = refl

-- an empty recording, and one of `+` alone, with its newline and without, have no line to answer
none_left : (words : List ℤ) (bytes : List ℕ) → (transcript words bytes [] ≡ []) × (transcript words bytes (43 ∷ []) ≡ []) × (transcript words bytes (43 ∷ 10 ∷ []) ≡ [])
unfolding transcript transcript_of opening is_start is_only lines pieces of_pieces texts
none_left words bytes = (refl, refl, refl)

-- a second `+` is `refused 9`; and `+` with a carriage return opens nothing, so that recording begins cold
second_start : (words : List ℤ) (bytes : List ℕ) → transcript words bytes (43 ∷ 10 ∷ 43 ∷ []) ≡ refused_text 9
unfolding transcript transcript_of opening is_start is_only lines pieces of_pieces texts line_text event is_frame text refused_text
second_start words bytes = refl

no_start : (words : List ℤ) (bytes : List ℕ) → opening words bytes ((43 ∷ 13 ∷ []) ∷ []) ≡ record { state = (cold_start words bytes).state; lines = (43 ∷ 13 ∷ []) ∷ [] }
unfolding opening is_start is_only
no_start words bytes = refl

-- an empty line is `refused 9`, of any state
empty_line : (words : List ℤ) (bytes : List ℕ) (s : State) → text words bytes s (event []) ≡ 114 ∷ 101 ∷ 102 ∷ 117 ∷ 115 ∷ 101 ∷ 100 ∷ 32 ∷ 57 ∷ 10 ∷ []
unfolding event is_frame text refused_text digit
empty_line words bytes s = refl
