-- The two gains with which an innovation is sharpened: excitation.rs.
use Rattle.std.specs.Prelude.{◌≡◌, refl, Bool, true, false, ◌&&◌, cond, ℤ, pos, ◌*ℤ◌}
use Rattle.std.specs.Int.Signed.{lt_z}
use Rattle.excitation.specs.declared.InterpolationGains.{InterpolationGains}

-- the spectrum is sharp: the first reflection coefficient is above 2048, a half in Q12
unfoldable pub peaky_spectrum : ℤ → Bool
peaky_spectrum reflection = lt_z (pos 2048) reflection

-- the gain before is above four tenths in Q14: twice it above 13107, which no gain equals
unfoldable pub gain_was_strong : ℤ → Bool
gain_was_strong previousGain = lt_z (pos 13107) (previousGain *ℤ pos 2)

-- the lag is above three quarters of the one before; and below one and a half times it
unfoldable pub above_floor : ℤ → ℤ → Bool
above_floor lag previousLag = lt_z (previousLag *ℤ pos 3) (lag *ℤ pos 4)

unfoldable pub below_ceiling : ℤ → ℤ → Bool
below_ceiling lag previousLag = lt_z (lag *ℤ pos 2) (previousLag *ℤ pos 3)

unfoldable pub pitch_continues : ℤ → ℤ → Bool
pitch_continues lag previousLag = above_floor lag previousLag && below_ceiling lag previousLag

-- the second gain: cleared by a sharp spectrum, raised to a half in Q15 where the gain was strong and the pitch continues, and else the gain before
unfoldable pub second : ℤ → ℤ → ℤ → ℤ → ℤ
second reflection previousGain lag previousLag =
    cond (peaky_spectrum reflection) (pos 0) (cond (gain_was_strong previousGain && pitch_continues lag previousLag) (pos 16384) previousGain)

-- both: the first is always a half
unfoldable pub interpolation_gains : ℤ → ℤ → ℤ → ℤ → InterpolationGains
interpolation_gains reflection previousGain lag previousLag = record { fixed = pos 16384; voiced = second reflection previousGain lag previousLag }

-- at 2048 the second gain is not cleared, above it is
at_2048 : ((interpolation_gains (pos 2048) (pos 5000) (pos 60) (pos 60)).voiced ≡ pos 5000) × ((interpolation_gains (pos 2049) (pos 5000) (pos 60) (pos 60)).voiced ≡ pos 0)
unfolding interpolation_gains second peaky_spectrum gain_was_strong pitch_continues above_floor below_ceiling
at_2048 = (refl, refl)

-- at three quarters and at one and a half times the old lag pitch does not continue, one further in it does
at_the_ends : (pitch_continues (pos 60) (pos 80) ≡ false) × (pitch_continues (pos 61) (pos 80) ≡ true) × (pitch_continues (pos 120) (pos 80) ≡ false) × (pitch_continues (pos 119) (pos 80) ≡ true)
unfolding pitch_continues above_floor below_ceiling
at_the_ends = (refl, refl, refl, refl)
