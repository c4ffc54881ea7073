-- bits.rs's `unpack` of 158 bits in receiver order, with mod.rs's two changes to what it gives: these are the fields of the frame that is read.
use Rattle.std.specs.Prelude.{◌≡◌, refl, List, [], ◌∷◌, ◌++◌, map, ℕ, zero, suc, ◌+◌, ◌*◌, get_or, take, drop}
use Rattle.std.proofs.Common.{Ok, ap, ◌∙◌}
use Rattle.std.specs.Int.Bits.{bit_xor}
use Rattle.sequence.specs.Table.{table}
use Rattle.bits.specs.declared.HalfParams.{HalfParams}
use Rattle.bits.specs.declared.FrameParams.{FrameParams}
use Rattle.bits.specs.Bits as Bits
use Rattle.bits.specs.Calls.{unpack_sized}
use Rattle.receiver.specs.Receiver.{accepted, order, values, frame_of, read_number, read, taken}
use Rattle.receiver.specs.RoundTrips.{read_accepted, digits_back, frame_length, frame_padding}
use Rattle.bits.specs.Bytes.{bits_mask}

-- input[84 + 39 * h + k], input[20 * h + k] and input[40 + 20 * h + k]
abbrev pub q : List ℕ → ℕ → ℕ → ℕ
q input h k = get_or input (84 + 39 * h + k) 0

abbrev pub a : List ℕ → ℕ → ℕ → ℕ
a input h k = get_or input (20 * h + k) 0

abbrev pub b : List ℕ → ℕ → ℕ → ℕ
b input h k = get_or input (40 + 20 * h + k) 0

-- (k..k + n).map(q)
abbrev pub run : List ℕ → ℕ → ℕ → ℕ → List ℕ
run input h k zero = []
run input h k (suc n) = q input h k ∷ run input h (suc k) n

-- code(k), whose first two bits are q(i) and q(i + 1)
abbrev pub code : List ℕ → ℕ → ℕ → ℕ → ℕ
code x h i k =
    Bits.read 0
    (q x h i ∷ q x h (i + 1) ∷
    b x h (7 + k) ∷ b x h (5 + k) ∷ a x h (6 + k) ∷ a x h (4 + k) ∷ b x h (6 + k) ∷ b x h (4 + k) ∷ a x h (11 + k) ∷ a x h (9 + k) ∷
    b x h (11 + k) ∷ b x h (9 + k) ∷ a x h (10 + k) ∷ a x h (8 + k) ∷ b x h (10 + k) ∷ b x h (8 + k) ∷ [])

abbrev pub absolute_pitch_of : List ℕ → ℕ → ℕ
absolute_pitch_of x h = Bits.read 0 (run x h 12 6 ++ (a x h 7 ∷ a x h 5 ∷ []))

-- half h; the second low gain, which bits.rs leaves out in the second half, and the absolute pitch are as given
abbrev pub half : List ℕ → ℕ → ℕ → ℕ → HalfParams
half x h low pitch =
    record {
      gain_low0 = Bits.read 0 (run x h 23 4);
      gain_low1 = low;
      code0 = code x h 18 0;
      code1 = code x h 30 8;
      gain_high0 = Bits.read 0 (run x h 20 3);
      gain_high1 = Bits.read 0 (run x h 32 3);
      mode = Bits.read 0 (run x h 0 1);
      stage1 = Bits.read 0 (run x h 1 7);
      stage2_low = Bits.read 0 (run x h 8 4 ++ (a x h 3 ∷ a x h 1 ∷ []));
      stage2_high = Bits.read 0 (b x h 3 ∷ b x h 1 ∷ a x h 2 ∷ a x h 0 ∷ b x h 2 ∷ b x h 0 ∷ []);
      absolute_pitch = pitch;
      relative_pitch = Bits.read 0 (run x h 27 3 ++ (a x h 15 ∷ a x h 13 ∷ []));
    }

-- the fields of a line's digits: bits.rs has the first 158; mod.rs takes the last four as the low gain of the last subframe, and changes the first pitch by 3
unfoldable pub received_fields : List ℕ → FrameParams
received_fields ds =
    let x : List ℕ = take 158 ds in
    record {
      first = half x 0 (Bits.read 0 (run x 0 35 4)) (bit_xor (absolute_pitch_of x 0) 3);
      second = half x 1 (Bits.read 0 (drop 158 ds)) (absolute_pitch_of x 1);
    }

-- of a frame's bits as they are read
fields_read : (p : List ℕ) → Bits.fields_of p ≡ received_fields (map (Bits.read_bit p) order)
unfolding Bits.fields_of Bits.gather Bits.groups received_fields order table
fields_read p = refl

pub fields_of_line : (l out : List ℕ) → read l ≡ accepted → Bits.unpack (taken l out) ≡ Ok (received_fields (values l))
unfolding read_number taken
fields_of_line l out r =
    let e = read_accepted l r in
    let m = bits_mask (frame_of l) (frame_padding l e).0 (frame_padding l e).1 in
    simp e (unpack_sized (frame_of l) (frame_length l e) ∙ simp m (ap Ok (fields_read (frame_of l) ∙ ap received_fields (digits_back l e))))
