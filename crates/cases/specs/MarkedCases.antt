-- Document 01's marked cases and its last bytes, as one table and one statement, `MarkedCases`; what stands in quotes is its text. `marked-cases` is the proof.
-- The cases are of the definitions that the code is proved to meet. `pos n` is the integer n.
use Rattle.std.specs.Prelude.{◌≡◌, List, [], ◌∷◌, map, false, ℕ, ◌^◌, ◌*◌, ℤ, pos, neg_ℤ, length, get_or, replicate, Float}
use Rattle.std.proofs.Common.{Ok, Err}
use Rattle.std.specs.Float.{fin, binary32}
use Rattle.std.specs.Float.Ieee.{of_int}
use Rattle.fixed.specs.Fixed as Fixed
use Rattle.fixed.specs.Cases as FixedCases
use Rattle.fixed.specs.declared.Reciprocal.TheVariants.{Zero}
use Rattle.floats.specs.Floats as Floats
use Rattle.floats.specs.Cases as FloatsCases
use Rattle.tables.specs.Bare.{bare_words}
use Rattle.bits.specs.Bits as Bits
use Rattle.bits.specs.Cases as BitsCases
use Rattle.bits.specs.declared.FrameParams.{FrameParams}
use Rattle.refusal.specs.declared.Refusal.TheVariants.{Padding}
use Rattle.lsp.specs.Lsp as Lsp
use Rattle.lsp.specs.Cases as LspCases
use Rattle.reflection.specs.Reflection as Levinson
use Rattle.reflection.specs.Cases as ReflectionCases
use Rattle.spectral.specs.Spectral as Spectral
use Rattle.spectral.specs.Cases as SpectralCases
use Rattle.pitch.specs.Pitch as Pitch
use Rattle.pitch.specs.Cases as PitchCases
use Rattle.pitch.specs.declared.Lag.{Lag}
use Rattle.code_index.specs.Codebook as Codebook
use Rattle.code_index.specs.Cases as CodebookCases

-- -n
abbrev pub minus : ℕ → ℤ
minus n = neg_ℤ (pos n)

-- n as an f32 number
abbrev pub float : ℕ → Float
float n = of_int binary32 (pos n)

-- n halves: `fin false m e` is m · 2 ^ e
abbrev pub halves : ℕ → Float
halves n = fin false n (minus 1)

-- a whole number of samples, and thirds of one
abbrev pub lag : ℕ → ℤ → Lag
lag n thirds = record { integer = pos n; frac = thirds }

-- ten LSFs: the floor, and each other by the gap above the one before it
abbrev pub LSFS : List ℕ
LSFS = 41 ∷ 362 ∷ 683 ∷ 1004 ∷ 1325 ∷ 1646 ∷ 1967 ∷ 2288 ∷ 2609 ∷ 2930 ∷ []

-- the fields of twenty bytes 0
abbrev pub ZERO_FRAME : FrameParams
ZERO_FRAME = Bits.fields (Bits.unpack (replicate 20 0))

pub record MarkedCases : Type 0 where
  -- 1. "Absolute 0: 19, +1."
  pub case_1 : Pitch.decode_absolute 0 ≡ lag 19 (pos 1)
  -- 2. "196: 85, -1."
  pub case_2 : Pitch.decode_absolute 196 ≡ lag 85 (minus 1)
  -- 3. "197: 85, 0."
  pub case_3 : Pitch.decode_absolute 197 ≡ lag 85 (pos 0)
  -- 4. "255: 143, 0."
  pub case_4 : Pitch.decode_absolute 255 ≡ lag 143 (pos 0)
  -- 5. "Relative 0 after 20: 19, +1."
  pub case_5 : Pitch.decode_relative 0 (pos 20) ≡ lag 19 (pos 1)
  -- 6. "31 after 143: 144, -1."
  pub case_6 : Pitch.decode_relative 31 (pos 143) ≡ lag 144 (minus 1)
  -- 7. "Zero prediction: LSFs 41, 362, up to 2930." Of every prediction whose ten sums are +0, before and after they are quantised; and there is such a prediction
  pub case_7 : ((history residual : List Float) (bytes : List ℕ) (mode : ℕ)
      → Spectral.sums history residual bytes mode ≡ replicate 10 (float 0)
      → (Spectral.predict history residual bytes mode ≡ map float LSFS)
      × (Spectral.quantise_lsf (Spectral.predict history residual bytes mode) ≡ map pos LSFS))
      × (Spectral.sums (replicate 30 (float 80)) (replicate 10 (float 8)) (replicate 3908 0) 1 ≡ replicate 10 (float 0))
  -- 8. "All ten 25,682: all quantise to 25,682." As they are, and after they are spaced
  pub case_8 : (Spectral.quantise_lsf (replicate 10 (float 25682)) ≡ replicate 10 (pos 25682))
      × (Spectral.quantise_lsf (Spectral.spread (replicate 10 (float 25682))) ≡ replicate 10 (pos 25682))
  -- 9. "`acc` of 2^39 is -2^39."
  pub case_9 : Fixed.acc (pos (2 ^ 39)) ≡ minus (2 ^ 39)
  -- 10. "`exp` of 64 is 24."
  pub case_10 : Fixed.exp (pos 64) ≡ pos 24
  -- 11. "2.5 rounds to 2, 3.5 to 4."
  pub case_11 : (Floats.nearest_even (halves 5) ≡ 2) × (Floats.nearest_even (halves 7) ≡ 4)
  -- 12. "Midpoint of -3 and -4 is -4."
  pub case_12 : Lsp.midway (minus 3) (minus 4) ≡ minus 4
  -- 13. "Zero frame: stage2_low 1 then 0, both absolute codes 0."
  pub case_13 : (ZERO_FRAME.first.stage2_low ≡ 1)
      × (ZERO_FRAME.second.stage2_low ≡ 0)
      × (ZERO_FRAME.first.absolute_pitch ≡ 0)
      × (ZERO_FRAME.second.absolute_pitch ≡ 0)
  -- 14. "Reciprocal of 0 (k = 4096): high half 32,736, exponent 1." It is the case of 0, and its low half is 0
  pub case_14 : (Levinson.residual (pos 4096) ≡ pos 0)
      × (Fixed.normalised_reciprocal (pos 0) ≡ Zero (pos (32736 * 65536)) (pos 1))
  -- 15. "Bare set, index 0: ten pulses of 8192 at place 0 leave 16,384." Class 5 has ten pulses
  pub case_15 : Codebook.decode bare_words 0 ≡ record { code = pos 16384 ∷ replicate 79 (pos 0); class = 5 }
  -- "Last byte 3f is accepted, 40 and 80 refused." Of every payload of 20 bytes
  pub last_bytes : (payload : List ℕ)
      → length payload ≡ 20
      → (get_or payload 19 0 ≡ 0x3f → Bits.unpack payload ≡ Ok (Bits.fields_of payload))
      × (get_or payload 19 0 ≡ 0x40 → Bits.unpack payload ≡ Err Padding)
      × (get_or payload 19 0 ≡ 0x80 → Bits.unpack payload ≡ Err Padding)

pub marked_cases : MarkedCases
marked_cases =
    record {
      case_1 = PitchCases.case_1;
      case_2 = PitchCases.case_2;
      case_3 = PitchCases.case_3;
      case_4 = PitchCases.case_4;
      case_5 = PitchCases.case_5;
      case_6 = PitchCases.case_6;
      case_7 = (SpectralCases.case_7, SpectralCases.zero_prediction);
      case_8 = SpectralCases.case_8;
      case_9 = FixedCases.case_9;
      case_10 = FixedCases.case_10;
      case_11 = FloatsCases.case_11;
      case_12 = LspCases.case_12;
      case_13 = BitsCases.case_13;
      case_14 = (ReflectionCases.residual_4096, FixedCases.case_14);
      case_15 = CodebookCases.case_15;
      last_bytes = λ payload l. (BitsCases.accepted_3f payload l, BitsCases.refused_40 payload l, BitsCases.refused_80 payload l);
    }
