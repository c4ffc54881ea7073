-- The two calls: writing refuses what unpacking refuses, and either leaves its buffer as long as it was.
use Rattle.std.specs.Prelude.{◌≡◌, refl, Bool, true, false, cond, List, ℕ, eqb, length, get_or}
use Rattle.std.proofs.Common.{Err, arith}
use Rattle.std.specs.Int.Bits.{bit_and}
use Rattle.sequence.specs.Table.{table, length_table}
use Rattle.bits.specs.Bits as Bits
use Rattle.bits.specs.Bits.{byte_of}
use Rattle.refusal.specs.declared.Refusal.TheVariants.{FrameLength, Padding, NoReceiverLine}
use Rattle.refusal.specs.Numbers.{told}
use Rattle.receiver.specs.Receiver.{accepted, receiver_bits, digits, line_of, is_line, bits_of, frame_of, write_number, write, written, read_number, read, taken}

pub write_refusal : (p : List ℕ) → write_number p ≡ Bits.refusal p
unfolding write_number Bits.refusal
write_refusal p = refl

-- the number of each answer
pub write_told : (p : List ℕ) → told (write p) ≡ write_number p
unfolding write write_number
write_told p = by (eqb (length p) 20) (eqb (bit_and (get_or p 19 0) 192) 0)
  where
    by : (s t : Bool) → told (cond s (cond t accepted (Err Padding)) (Err FrameLength)) ≡ cond s (cond t 0 6) 3
    by true true = refl
    by true false = refl
    by false t = refl

-- what has the number 0 is accepted
pub write_of_zero : (p : List ℕ) → write_number p ≡ 0 → write p ≡ accepted
unfolding write write_number
write_of_zero p = by (eqb (length p) 20) (eqb (bit_and (get_or p 19 0) 192) 0)
  where
    by : (s t : Bool) → ◌≡◌ {A = ℕ} (cond s (cond t 0 6) 3) 0 → cond s (cond t accepted (Err Padding)) (Err FrameLength) ≡ accepted
    by true true e = refl
    by true false e = absurd (omega arith)
    by false t e = absurd (omega arith)

pub read_told : (l : List ℕ) → told (read l) ≡ read_number l
unfolding read read_number
read_told l = by (is_line l)
  where
    by : (b : Bool) → told (cond b accepted (Err NoReceiverLine)) ≡ cond b 0 10
    by true = refl
    by false = refl

pub line_long : (p : List ℕ) → length (line_of p) ≡ 162
unfolding line_of digits receiver_bits table
line_long p = refl

pub written_long : (p out : List ℕ) → length out ≡ 162 → length (written p out) ≡ 162
unfolding written
written_long p out e = by (eqb (write_number p) 0)
  where
    by : (b : Bool) → length (cond b (line_of p) out) ≡ 162
    by true = line_long p
    by false = e

pub taken_long : (l out : List ℕ) → length out ≡ 20 → length (taken l out) ≡ 20
unfolding taken frame_of
taken_long l out e = by (eqb (read_number l) 0)
  where
    by : (b : Bool) → length (cond b (frame_of l) out) ≡ 20
    by true = length_table (byte_of (bits_of l)) 20
    by false = e
