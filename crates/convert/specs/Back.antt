-- to_receiver and then from_receiver: every frame's line comes back in lower case, and a line that was refused as `refused 10`.
use Rattle.std.specs.Prelude.{ℕ, ◌<◌, ◌≡◌, List, [], ◌∷◌, ◌++◌, map, Bool, cond, not, ◌&&◌, length, get_or}
use Rattle.std.proofs.Math.Path.{refl}
use Rattle.std.proofs.Common.{append_assoc, arith}
use Rattle.std.proofs.Math.Bool.{true, false}
use Rattle.std.specs.Int.Bits.{bit_and}
use Rattle.std.proofs.Math.Dec.{eqb}
use borrow.Author.Tests.{ne_eqb}
use Rattle.sequence.specs.All.{all_of, and_left}
use Rattle.stream.specs.Lines.{pieces, of_pieces, lines, plain, line_first}
use Rattle.stream.specs.Told.{texts}
use Rattle.stream.specs.Decimal.{decimal_in, decimal, figure}
use Rattle.hex_lines.specs.Text.{is_only, digit, value, is_frame, payload}
use Rattle.receiver.specs.Receiver.{line_of, frame_of, is_line, write_number, written, read_number, taken}
use Rattle.receiver.specs.Lines.{line_length, line_digit}
use Rattle.receiver.specs.RoundTrips.{read_written, read_accepted}
use Rattle.receiver.specs.Calls.{write_of_zero, line_long}
use Rattle.convert.specs.declared.Way.TheVariants.{ToReceiver, FromReceiver}
use Rattle.convert.specs.Convert.{refused, line_or, to_number, to_receiver, from_receiver, is_plus, text, step, program}
use Rattle.convert.specs.Halves.{payload_bytes, lower_case}

-- what a line comes back as
unfoldable pub back : Bool → List ℕ → List ℕ
back first line =
    cond (first && is_plus line) (43 ∷ 10 ∷ [])
    (cond (eqb (to_number line) 0) (map (λ c. digit (value c)) line ++ (10 ∷ [])) (refused 10))

-- ---- a frame's line of digits
frame_again : (p : List ℕ) → ((k : ℕ) → get_or p k 0 < 256) → write_number p ≡ 0 → (is_line (line_of p) ≡ true) × (frame_of (line_of p) ≡ p)
unfolding written taken read_number
frame_again p h e =
    let w = rw e at (read_written p [] [] h (write_of_zero p e)) in
    let i = read_accepted (line_of p) w.0 in
    (i, rw i at w.1)

no_newline : (l : List ℕ) → is_line l ≡ true → plain l ≡ true
no_newline l e =
    all_of (λ b. not (eqb b 10)) l 0
    (λ k h. let d = line_digit l e k (omega (arith, line_length l e)) in rw (ne_eqb (get_or l k 0) 10 (λ z. omega arith)))

-- ---- a line there and back
record Back (first : Bool) (line : List ℕ) : Type 0 where
  there : List ℕ
  goes : text ToReceiver first line ≡ there ++ (10 ∷ [])
  whole : plain there ≡ true
  comes : text FromReceiver first there ≡ back first line

no_plus : (first : Bool) → first && false ≡ false
no_plus true = refl
no_plus false = refl

-- `refused` and a digit
abbrev word : ℕ → List ℕ
word d = 114 ∷ 101 ∷ 102 ∷ 117 ∷ 115 ∷ 101 ∷ 100 ∷ 32 ∷ d ∷ []

word_refused : (first : Bool) (d : ℕ) → text FromReceiver first (word d) ≡ refused 10
unfolding text is_only from_receiver read_number is_line line_or
word_refused first d = rw (no_plus first)

module _ (first : Bool) (line : List ℕ) where
  kept : first && is_plus line ≡ true → Back first line
  unfolding text back is_only
  kept e = record {
    there = 43 ∷ [];
    goes = rw e;
    whole = refl;
    comes = rw (e, and_left first (is_plus line) e);
  }

  module _ (n : first && is_plus line ≡ false) where
    refusal : (number d : ℕ) → to_number line ≡ number → (number ≡ 0 → ⊥) → refused number ≡ word d ++ (10 ∷ []) → plain (word d) ≡ true → Back first line
    unfolding text back to_receiver line_or
    refusal number d e z g w = record {
      there = word d;
      goes = rw (n, e, ne_eqb number 0 z) g;
      whole = w;
      comes = rw (n, e, ne_eqb number 0 z) (word_refused first d);
    }

    accepted : is_frame line ≡ true → write_number (payload line) ≡ 0 → Back first line
    unfolding text back is_only to_receiver to_number line_or from_receiver read_number
    accepted f e =
        let a = frame_again (payload line) (payload_bytes line f) e in
        record {
          there = line_of (payload line);
          goes = rw (n, f, e);
          whole = no_newline (line_of (payload line)) a.0;
          comes = rw (line_long (payload line), no_plus first, a.0, a.1, lower_case line f, n, f, e);
        }

    converted : Back first line
    unfolding to_number write_number refused figure decimal decimal_in
    converted = by (is_frame line) (eqb (length (payload line)) 20) (eqb (bit_and (get_or (payload line) 19 0) 192) 0) refl refl refl
      where
        by : (f s t : Bool) → is_frame line ≡ f → eqb (length (payload line)) 20 ≡ s → eqb (bit_and (get_or (payload line) 19 0) 192) 0 ≡ t → Back first line
        by true true true p q r = accepted p (rw (q, r))
        by true true false p q r = refusal 6 54 (rw (p, q, r)) (λ z. omega arith) refl refl
        by true false t p q r = refusal 3 51 (rw (p, q)) (λ z. omega arith) refl refl
        by false s t p q r = refusal 9 57 (rw p) (λ z. omega arith) refl refl

  there_and : Back first line
  there_and = by (first && is_plus line) refl
    where
      by : (b : Bool) → first && is_plus line ≡ b → Back first line
      by true e = kept e
      by false e = converted e

-- ---- a file
all_back : (first : Bool) (ls : List (List ℕ)) → texts step (text FromReceiver) first (lines (texts step (text ToReceiver) first ls)) ≡ texts step back first ls
unfolding texts lines pieces of_pieces
all_back first [] = refl
all_back first (line ∷ more) =
    let b = there_and first line in
    rw (b.goes, append_assoc, line_first b.there (texts step (text ToReceiver) false more) b.whole, b.comes, all_back false more)

pub there_and_back : (input : List ℕ) → program FromReceiver (program ToReceiver input) ≡ texts step back true (lines input)
unfolding program
there_and_back input = all_back true (lines input)
