-- Document 01's marked case 13 and its last bytes, of the definitions.
use Rattle.std.specs.Prelude.{◌≡◌, refl, List, ℕ, length, get_or, set, replicate}
use Rattle.std.proofs.Common.{Ok, Err}
use Rattle.sequence.specs.First.{first_from}
use Rattle.sequence.specs.Table.{table}
use Rattle.bits.specs.declared.FrameParams.{FrameParams}
use Rattle.refusal.specs.declared.Refusal.TheVariants.{FrameLength, Padding}
use Rattle.bits.specs.Bits.{groups, places, widths, inverted, bit_at, read_bit, gather, frame_params, fields_of, unpack, fields, spread, byte_of, frame_of, width_number, pack, packed}

-- of the zero frame's fields the first half's stage2_low, field 8, is 1, and every other 0
zero_frame : unpack (replicate 20 0) ≡ Ok (frame_params (set (replicate 24 0) 8 1))
unfolding groups inverted bit_at read_bit gather fields_of unpack
zero_frame = refl

-- 13: stage2_low 1 then 0, both absolute codes 0
abbrev pub zero : FrameParams
zero = fields (unpack (replicate 20 0))

pub case_13 : (zero.first.stage2_low ≡ 1) × (zero.second.stage2_low ≡ 0) × (zero.first.absolute_pitch ≡ 0) × (zero.second.absolute_pitch ≡ 0)
case_13 = rw zero_frame (refl, refl, refl, refl)

-- last byte 3f is accepted, 40 and 80 are refused
pub accepted_3f : (p : List ℕ) → length p ≡ 20 → get_or p 19 0 ≡ 63 → unpack p ≡ Ok (fields_of p)
unfolding unpack
accepted_3f p l e = simp (l, e)

pub refused_40 : (p : List ℕ) → length p ≡ 20 → get_or p 19 0 ≡ 64 → unpack p ≡ Err Padding
unfolding unpack
refused_40 p l e = simp (l, e)

pub refused_80 : (p : List ℕ) → length p ≡ 20 → get_or p 19 0 ≡ 128 → unpack p ≡ Err Padding
unfolding unpack
refused_80 p l e = simp (l, e)

-- a payload of another length is refused with 3, whatever its last byte
refused_short : unpack (replicate 19 255) ≡ Err FrameLength
unfolding unpack
refused_short = refl

-- ---- packing

-- all fields 0: frame bit 79, bit 7 of byte 9, is 1, and every other 0
zero_fields : packed (frame_params (replicate 24 0)) (replicate 20 7) ≡ set (replicate 20 0) 9 128
unfolding groups places widths inverted spread byte_of frame_of width_number pack packed first_from table
zero_fields = refl

-- a mode of 2 is refused with 8, a buffer of 21 bytes with 3 before it, and the buffer stays
wide_mode : (pack (frame_params (set (replicate 24 0) 6 2)) (replicate 20 7) ≡ 8) × (packed (frame_params (set (replicate 24 0) 6 2)) (replicate 20 7) ≡ replicate 20 7)
unfolding groups widths width_number pack packed first_from
wide_mode = (refl, refl)

long_buffer : pack (frame_params (set (replicate 24 0) 6 2)) (replicate 21 7) ≡ 3
unfolding pack
long_buffer = refl
