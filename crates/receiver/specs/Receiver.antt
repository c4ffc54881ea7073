-- A frame as the line of 162 digits that one receiver dumps, and back: post_fec.rs's `receiver_bits`, and the four frame bits that it drops.
use Rattle.std.specs.Prelude.{◌≡◌, refl, Bool, cond, ◌&&◌, List, [], ◌∷◌, ◌++◌, map, ℕ, ◌+◌, ◌%◌, leb, eqb, length, get_or, take, drop, set, replicate, Result, ⊤}
use Rattle.std.proofs.Common.{Ok, Err}
use Rattle.std.specs.Int.Bits.{bit_and}
use Rattle.sequence.specs.All.{all}
use Rattle.sequence.specs.Table.{table}
use Rattle.bits.specs.Bits.{one_if, bit_at, scatter, byte_of}
use Rattle.refusal.specs.declared.Refusal.{Refusal}
use Rattle.refusal.specs.declared.Refusal.TheVariants.{FrameLength, Padding, NoReceiverLine}

-- ---- the digits of a frame

-- positions 1, 5 and 7 are inverted
unfoldable pub inverted : ℕ → ℕ
inverted j = one_if (eqb j 1) + one_if (eqb j 5) + one_if (eqb j 7)

-- `receiver_bits`: frame bits 78 to 157, four reserved positions, frame bits 0 to 73
unfoldable pub receiver_bits : List ℕ → List ℕ
receiver_bits p = table (λ j. (bit_at p (78 + j) + inverted j) % 2) 80 ++ (replicate 4 0 ++ table (bit_at p) 74)

-- a line has those, then the four that they lack, frame bits 74 to 77
unfoldable pub digits : List ℕ → List ℕ
digits p = receiver_bits p ++ table (λ j. bit_at p (74 + j)) 4

-- in characters: `0` is 48, `1` is 49
unfoldable pub line_of : List ℕ → List ℕ
line_of p = map (λ d. 48 + d) (digits p)

-- the zero frame
example_zero : receiver_bits (replicate 20 0) ≡ 0 ∷ 1 ∷ 0 ∷ 0 ∷ 0 ∷ 1 ∷ 0 ∷ 1 ∷ replicate 150 0
unfolding receiver_bits inverted bit_at table
example_zero = refl

-- frame bit 0 at position 84, frame bits 74 and 75 at 158 and 159
example_last : digits (set (set (replicate 20 0) 0 1) 9 12) ≡ 0 ∷ 1 ∷ 0 ∷ 0 ∷ 0 ∷ 1 ∷ 0 ∷ 1 ∷ (replicate 76 0 ++ (1 ∷ (replicate 73 0 ++ (1 ∷ 1 ∷ 0 ∷ 0 ∷ []))))
unfolding digits receiver_bits inverted bit_at table
example_last = refl

-- ---- which lines are accepted

-- a digit from 0 up to this one
abbrev pub up_to : ℕ → ℕ → Bool
up_to top c = leb 48 c && leb c top

-- 162 digits 0 and 1, of which those at positions 80 to 83 are 0
unfoldable pub is_line : List ℕ → Bool
is_line line = eqb (length line) 162 && (all (up_to 49) line && all (up_to 48) (take 4 (drop 80 line)))

-- ---- the frame of a line

-- the frame bit of each digit; 158, a padding bit, for the reserved ones
unfoldable pub order : List ℕ
order = table (λ j. 78 + j) 80 ++ (replicate 4 158 ++ table (λ i. i) 78)

-- the digits of a line, whose characters are 48 and 49
abbrev pub values : List ℕ → List ℕ
values line = map (λ c. c % 2) line

-- the bits that read as them, those that no digit has 0
unfoldable pub bits_of : List ℕ → List ℕ
bits_of line = scatter (replicate 160 0) order (values line)

unfoldable pub frame_of : List ℕ → List ℕ
frame_of line = table (byte_of (bits_of line)) 20

-- ---- the calls

-- the answer to what is not refused
abbrev pub accepted : Result ⊤ Refusal
accepted = Ok tt

-- writing: 3 where the payload is not 20 bytes, 6 where one of its last two bits is set
unfoldable pub write_number : List ℕ → ℕ
write_number p = cond (eqb (length p) 20) (cond (eqb (bit_and (get_or p 19 0) 192) 0) 0 6) 3

-- the answer that has this number
unfoldable pub write : List ℕ → Result ⊤ Refusal
write p = cond (eqb (length p) 20) (cond (eqb (bit_and (get_or p 19 0) 192) 0) accepted (Err Padding)) (Err FrameLength)

-- the buffer: the line, or where the answer is a refusal what it held
unfoldable pub written : List ℕ → List ℕ → List ℕ
written p out = cond (eqb (write_number p) 0) (line_of p) out

-- reading: 10 where the line is not as above
unfoldable pub read_number : List ℕ → ℕ
read_number line = cond (is_line line) 0 10

-- the answer that has this number
unfoldable pub read : List ℕ → Result ⊤ Refusal
read line = cond (is_line line) accepted (Err NoReceiverLine)

-- the buffer: the frame, or where the answer is a refusal what it held
unfoldable pub taken : List ℕ → List ℕ → List ℕ
taken line out = cond (eqb (read_number line) 0) (frame_of line) out
