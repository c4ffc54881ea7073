-- Worked calls: which number comes first, and what is written.
use Rattle.std.specs.Prelude.{◌≡◌, refl, [], set, replicate}
use Rattle.sequence.specs.First.{first_from}
use Rattle.sequence.specs.Table.{table}
use Rattle.bits.specs.Bits.{groups, places, widths, inverted, bit_at, read_bit, gather, fields_of, refusal, fields_or_zero, spread, byte_of, frame_of, width_number, pack, packed}
use Rattle.image.specs.Bytes.{bytes_of, number_at}
use Rattle.image.specs.Parts.{bytes_of_all, numbers_at}
use Rattle.desk_fields.specs.Fields.{bytes_of_fields, fields_of_bytes}
use Rattle.desk_fields.specs.Calls.{unpack_number, unpack_fields, pack_number, pack_payload}

-- ---- unpacking
-- the zero frame: stage2_low of the first half, field 8, is 1, and every other 0
zero_frame : (unpack_number (replicate 20 0) 48 ≡ 0) × (unpack_fields (replicate 20 0) (replicate 48 7) ≡ set (replicate 48 0) 16 1)
unfolding unpack_number unpack_fields refusal fields_or_zero fields_of groups inverted bit_at read_bit gather bytes_of_fields bytes_of_all bytes_of
zero_frame = (refl, refl)

-- a room a byte short is 2, before 3, and stays; a frame a byte short, and one with a padding bit set, leave zeros
refused_frames : (unpack_number [] 47 ≡ 2) × (unpack_fields [] (replicate 47 7) ≡ replicate 47 7) × (unpack_number (replicate 19 255) 48 ≡ 3) × (unpack_fields (replicate 19 255) (replicate 48 7) ≡ replicate 48 0) × (unpack_number (set (replicate 20 0) 19 64) 48 ≡ 6) × (unpack_fields (set (replicate 20 0) 19 64) (replicate 48 7) ≡ replicate 48 0)
unfolding unpack_number unpack_fields refusal fields_or_zero bytes_of_fields bytes_of_all bytes_of
refused_frames = (refl, refl, refl, refl, refl, refl)

-- ---- packing
-- all fields 0: frame bit 79, bit 7 of byte 9, is 1, and every other 0
zero_fields : (pack_number (replicate 48 0) (replicate 20 7) ≡ 0) × (pack_payload (replicate 48 0) (replicate 20 7) ≡ set (replicate 20 0) 9 128)
unfolding pack_number pack_payload fields_of_bytes numbers_at number_at groups places widths inverted spread byte_of frame_of width_number pack packed first_from table
zero_fields = (refl, refl)

-- a mode of 2, at byte 12, is 8, and so is one of 256, at byte 13; the buffer stays
wide_mode : (pack_number (set (replicate 48 0) 12 2) (replicate 20 7) ≡ 8) × (pack_payload (set (replicate 48 0) 12 2) (replicate 20 7) ≡ replicate 20 7) × (pack_number (set (replicate 48 0) 13 1) (replicate 20 7) ≡ 8)
unfolding pack_number pack_payload fields_of_bytes numbers_at number_at groups widths width_number pack packed first_from table
wide_mode = (refl, refl, refl)

-- fields a byte short are 2, before 3 for the buffer, which comes before 8
short_fields : (pack_number (replicate 47 0) [] ≡ 2) × (pack_payload (replicate 47 0) (replicate 20 7) ≡ replicate 20 7) × (pack_number (set (replicate 48 0) 12 2) (replicate 21 7) ≡ 3)
unfolding pack_number pack_payload pack
short_fields = (refl, refl, refl)
