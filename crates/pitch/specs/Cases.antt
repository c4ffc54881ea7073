-- Document 01's marked cases 1 to 6, and further values, computed.
use Rattle.std.specs.Prelude.{◌≡◌, refl, List, ◌∷◌, ◌++◌, ℕ, ℤ, pos, negsuc, replicate}
use Rattle.sequence.specs.Total.{total}
use Rattle.sequence.specs.Table.{table}
use Rattle.fixed.specs.Fixed.{residue, signed, wrap, clamp, fold, mul, mul32x16, shift}
use Rattle.pitch.specs.Pitch.{thirds, decode_absolute, lowest, decode_relative, before, after, interpolated_sample, mixed}

pub case_1 : decode_absolute 0 ≡ record { integer = pos 19; frac = pos 1 }
unfolding decode_absolute thirds
case_1 = refl

pub case_2 : decode_absolute 196 ≡ record { integer = pos 85; frac = negsuc 0 }
unfolding decode_absolute thirds
case_2 = refl

pub case_3 : decode_absolute 197 ≡ record { integer = pos 85; frac = pos 0 }
unfolding decode_absolute thirds
case_3 = refl

pub case_4 : decode_absolute 255 ≡ record { integer = pos 143; frac = pos 0 }
unfolding decode_absolute thirds
case_4 = refl

pub case_5 : decode_relative 0 (pos 20) ≡ record { integer = pos 19; frac = pos 1 }
unfolding decode_relative lowest thirds
case_5 = refl

pub case_6 : decode_relative 31 (pos 143) ≡ record { integer = pos 144; frac = negsuc 0 }
unfolding decode_relative lowest thirds
case_6 = refl

-- 1 at the centre and 10 behind it, by taps 0, 1, .. 30, twice: the first side takes the tap of the phase, the second that of 3 less the phase
signal : List ℤ
signal = replicate 9 (pos 0) ++ (pos 1 ∷ pos 10 ∷ replicate 9 (pos 0))

taps : List ℤ
taps = table (λ (k : ℕ). pos k) 31

phase_0 : interpolated_sample taps 0 signal 9 ≡ pos 60
unfolding signal taps interpolated_sample before after total table fold mul wrap signed residue
phase_0 = refl

phase_1 : interpolated_sample taps 1 signal 9 ≡ pos 42
unfolding signal taps interpolated_sample before after total table fold mul wrap signed residue
phase_1 = refl

phase_2 : interpolated_sample taps 2 signal 9 ≡ pos 24
unfolding signal taps interpolated_sample before after total table fold mul wrap signed residue
phase_2 = refl

-- 1 and a value of 32,767 in the high half, whose gain of one half is doubled: 32,768 is cut and not saturated, which would give 32,767 (`clamp` unfolds, so that it would be seen)
cut : mixed (pos 2147418112) (pos 16384) (pos 1) ≡ negsuc 32767
unfolding mixed clamp shift mul32x16 wrap signed residue
cut = refl

-- of a value above 32 bits the low 32 count
wide : mixed (pos 4295032832) (pos 16384) (pos 0) ≡ pos 1
unfolding mixed clamp shift mul32x16 wrap signed residue
wide = refl
