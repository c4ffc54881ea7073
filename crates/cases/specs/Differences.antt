-- What the definitions give for inputs of docs/DIFFERENCES.md on which the Rust gives something else.
use Rattle.std.specs.Prelude.{◌≡◌, refl, [], ◌∷◌, map, pos, replicate}
use Rattle.std.specs.Float.{nan, binary32}
use Rattle.std.specs.Float.Ieee.{of_bits, to_bits, of_int, to_unsigned, add, sub, mul, lt, le}
use Rattle.sequence.specs.Table.{table}
use Rattle.spectral.specs.Spectral.{sort, spread}
use Rattle.gain.specs.Gain.{step}
use Rattle.elementary.specs.Elementary.{bits}

-- a NaN stays before what it stood before; Rust's `total_cmp` would put it last
nan_stays : map (to_unsigned 16) (spread (sort lt (nan ∷ replicate 9 (of_int binary32 (pos 1000))))) ≡ (41 ∷ 1000 ∷ 1321 ∷ 1642 ∷ 1963 ∷ 2284 ∷ 2605 ∷ 2926 ∷ 3247 ∷ 3568 ∷ [])
unfolding spread sort table to_unsigned of_int of_bits add lt le
nan_stays = refl

-- from a history of zeros, with no energy, pitch gain and bias: our exponential of this log gain is 1.5, and the tie goes to 2
gain_2 : (step (replicate 4 (bits 0)) (bits 0) (bits 0) (bits 0x3ecf_991e) (bits 0)).code_gain ≡ pos 2
unfolding step add sub mul le of_bits to_bits of_int
gain_2 = refl
