-- Lags, the adaptive codebook's prediction and the sharpening of an innovation: what pitch.rs gives.
use Rattle.std.specs.Prelude.{cond, ◌≡◌, refl, List, ◌++◌, ℕ, ◌+◌, ◌-◌, ◌*◌, ◌/◌, ◌%◌, ◌≤◌, ltb, get_or, take, drop, replicate, ℤ, pos, neg_ℤ, nat_abs, ◌+ℤ◌, ◌-ℤ◌, ◌*ℤ◌}
use Rattle.std.specs.Int.Signed.{lt_z}
use Rattle.sequence.specs.Between.{Between}
use Rattle.sequence.specs.Count.{count}
use Rattle.sequence.specs.Total.{total}
use Rattle.sequence.specs.Rewritten.{rewritten}
use Rattle.fixed.specs.Fixed.{residue, acc, fold, sat, clips, hi, mul, mul32x16, shift}
use Rattle.tables.specs.Places.{PITCH_INTERP}
use Rattle.pitch.specs.declared.Lag.{Lag}

-- ---- lags
-- the lag of n thirds of a sample: the nearest whole number of samples, and the thirds that are left, -1, 0 or 1
unfoldable pub thirds : ℕ → Lag
thirds n = record { integer = pos ((n + 1) / 3); frac = pos ((n + 1) % 3) -ℤ pos 1 }

-- an absolute code, 0 to 255: three times the lag is code + 58 below 197, and from there the lag is code - 112
unfoldable pub decode_absolute : ℕ → Lag
decode_absolute code = thirds (cond (ltb code 197) (code + 58) (3 * (code - 112)))

-- where the lags of the relative codes begin: 5 below the lag integer before, at least at 20, and at 134 where 9 more would pass 143
unfoldable pub lowest : ℤ → ℕ
lowest prev =
    let m : ℕ = cond (ltb (nat_abs prev - 5) 20) 20 (nat_abs prev - 5) in
    cond (ltb 143 (m + 9)) 134 m

-- a relative code, 0 to 31
unfoldable pub decode_relative : ℕ → ℤ → Lag
decode_relative code prev = thirds (3 * lowest prev + code - 2)

-- a lag that a code can give: 58 to 431 thirds, which is from 19 and a third to 144 less a third
pub record Sane (l : Lag) : Type 0 where
  pub count : ℕ
  pub is : l ≡ thirds count
  pub least : 58 ≤ count
  pub most : count ≤ 431

-- the integer of such a lag
abbrev pub InRange : ℤ → Type 0
InRange z = Between 19 144 z

-- the filter's phase is the negated fraction; where that is negative, a whole sample, three thirds, goes over to the delay
unfoldable pub phase : Lag → ℕ
phase l = residue 3 (neg_ℤ l.frac)

unfoldable pub delay : Lag → ℕ
delay l = nat_abs l.integer + cond (lt_z (neg_ℤ l.frac) (pos 0)) 1 0

-- ---- interpolation
-- the 31 taps of the lent words
unfoldable pub interp : List ℤ → List ℤ
interp words = take 31 (drop PITCH_INTERP words)

-- product k, of ten, of a signal going back from place centre, and of the signal behind it, by every third tap from a first one on
unfoldable pub before : List ℤ → ℕ → List ℤ → ℕ → ℕ → ℤ
before taps tap signal centre k = mul (get_or signal (centre - k) (pos 0)) (get_or taps (tap + 3 * k) (pos 0))

unfoldable pub after : List ℤ → ℕ → List ℤ → ℕ → ℕ → ℤ
after taps tap signal centre k = mul (get_or signal (centre + 1 + k) (pos 0)) (get_or taps (tap + 3 * k) (pos 0))

-- their sum in the accumulator, in this order: the second filter is the first mirrored
unfoldable pub interpolated_sample : List ℤ → ℕ → List ℤ → ℕ → ℤ
interpolated_sample taps phase signal centre = total fold (total fold (pos 0) (before taps phase signal centre) 10) (after taps (3 - phase) signal centre) 10

-- ---- the adaptive codebook
-- sample n from place start on, out of the excitation as it is by then: rounded and saturated
unfoldable pub predicted : List ℤ → ℕ → ℕ → ℕ → ℕ → List ℤ → ℤ
predicted taps phase delay start n exc = hi (sat (fold (interpolated_sample taps phase exc (start + n - delay)) (pos 32768)))

-- 80 samples from place start on: the filter reaches ten samples past the delay, so later ones come from those made here
unfoldable pub predict : List ℤ → List ℤ → ℕ → Lag → List ℤ
predict taps exc start l = rewritten (predicted taps (phase l) (delay l) start) start exc 80

-- what is saturated for sample n, and at how many of the 80 that changes it
unfoldable pub predicted_sum : List ℤ → ℕ → ℕ → ℕ → ℕ → List ℤ → ℤ
predicted_sum taps phase delay start n exc = fold (interpolated_sample taps phase exc (start + n - delay)) (pos 32768)

unfoldable pub clipped : List ℤ → List ℤ → ℕ → Lag → ℕ
clipped taps exc start l =
    count (λ n. clips (predicted_sum taps (phase l) (delay l) start n (rewritten (predicted taps (phase l) (delay l) start) start exc n))) 80

pub predicted_sum_lem : (taps : List ℤ) (phase delay start n : ℕ) (exc : List ℤ) → predicted taps phase delay start n exc ≡ hi (sat (predicted_sum taps phase delay start n exc))
unfolding predicted predicted_sum
predicted_sum_lem taps phase delay start n exc = refl

-- ---- sharpening
-- the first sharpened sample, for the same reach
unfoldable pub first : Lag → ℕ
first l = delay l - 10

-- a sample x of the innovation, with gain times an interpolated value on top: rounded and cut to 16 bits, not saturated
unfoldable pub mixed : ℤ → ℤ → ℤ → ℤ
mixed value gain x = hi (acc (shift (mul32x16 (acc value) gain) (pos 1) +ℤ x *ℤ pos 65536 +ℤ pos 32768))

-- an innovation behind a guard of 21 zeros, in place of the innovation before it
unfoldable pub guarded : List ℤ → List ℤ
guarded code = replicate 21 (pos 0) ++ code

-- sample n from the first sharpened one on, out of the guarded innovation as it is by then
unfoldable pub sharpened : List ℤ → ℕ → ℕ → ℤ → ℕ → List ℤ → ℤ
sharpened taps phase first gain n buf = mixed (interpolated_sample taps phase buf (11 + n)) gain (get_or buf (21 + first + n) (pos 0))

-- an innovation of 80 samples, rewritten from the first sharpened one on. Each comes from samples at least 10 before it, so one that is to be rewritten is read only after that
unfoldable pub sharpen : List ℤ → List ℤ → Lag → ℤ → List ℤ
sharpen taps code l gain = drop 21 (rewritten (sharpened taps (phase l) (first l) gain) (21 + first l) (guarded code) (80 - first l))
