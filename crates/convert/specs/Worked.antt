-- Worked texts of the two programs.
use Rattle.std.specs.Prelude.{◌≡◌, refl, [], ◌∷◌, ◌++◌, replicate}
use Rattle.sequence.specs.Table.{table}
use Rattle.stream.specs.Lines.{pieces, of_pieces, lines}
use Rattle.stream.specs.Told.{texts}
use Rattle.stream.specs.Decimal.{decimal_in, decimal, figure}
use Rattle.hex_lines.specs.Text.{is_only, digit, value, is_digit, is_frame, byte_at, payload, refused_text}
use Rattle.bits.specs.Bits as Bits
use Rattle.bits.specs.Bits.{bit_at, byte_of}
use Rattle.receiver.specs.Receiver.{inverted, receiver_bits, digits, line_of, is_line, order, bits_of, frame_of, write_number, read_number}
use Rattle.convert.specs.declared.Way.{Way}
use Rattle.convert.specs.declared.Way.TheVariants.{FromReceiver}
use Rattle.convert.specs.Convert.{hexadecimal, refused, line_or, to_number, to_receiver, from_receiver, text, program}

-- `4f` of 79; `refused 10`, and `refused 9` as decode prints it
written_out : (hexadecimal (79 ∷ []) ≡ 52 ∷ 102 ∷ []) × (refused 10 ≡ 114 ∷ 101 ∷ 102 ∷ 117 ∷ 115 ∷ 101 ∷ 100 ∷ 32 ∷ 49 ∷ 48 ∷ 10 ∷ []) × (refused 9 ≡ refused_text 9)
unfolding hexadecimal digit refused refused_text figure decimal decimal_in
written_out = (refl, refl, refl)

-- the zero frame, and its line back
zero_frame : (to_receiver (replicate 40 48) ≡ 48 ∷ 49 ∷ 48 ∷ 48 ∷ 48 ∷ 49 ∷ 48 ∷ 49 ∷ (replicate 154 48 ++ (10 ∷ []))) × (from_receiver (48 ∷ 49 ∷ 48 ∷ 48 ∷ 48 ∷ 49 ∷ 48 ∷ 49 ∷ replicate 154 48) ≡ replicate 40 48 ++ (10 ∷ []))
unfolding to_receiver to_number is_frame is_digit value payload byte_at table line_or write_number line_of digits receiver_bits inverted bit_at from_receiver read_number is_line frame_of bits_of order byte_of Bits.inverted hexadecimal digit
zero_frame = (refl, refl)

-- a `+` alone, without a newline and with one; an empty file
plus_alone : (way : Way) → (program way (43 ∷ []) ≡ 43 ∷ 10 ∷ []) × (program way (43 ∷ 10 ∷ []) ≡ 43 ∷ 10 ∷ []) × (program way [] ≡ [])
unfolding program lines pieces of_pieces texts text is_only
plus_alone way = (refl, refl, refl)

-- `+`, `+`, an empty line, and `=` without its newline
plus_second : program FromReceiver (43 ∷ 10 ∷ 43 ∷ 10 ∷ 10 ∷ 61 ∷ []) ≡ 43 ∷ 10 ∷ (refused 10 ++ (refused 10 ++ refused 10))
unfolding program lines pieces of_pieces texts text is_only from_receiver line_or read_number is_line refused figure decimal decimal_in
plus_second = refl
