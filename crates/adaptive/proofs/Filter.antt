-- The sum over a window is the two-sided filter's, and it is made in two runs, or of the twenty alone.
use native.Mathlib.Omega.{arith}
use mathlib.Core.Path.{◌≡◌, refl, sym, ap, ◌∙◌, subst}
use mathlib.Core.List.{List}
use Prim.Native.Nat.{ℕ, suc, ◌+◌, ◌-◌, ◌≤◌, ◌<◌}
use lib.IntN.{ℤ, pos, ◌+ℤ◌, ◌*ℤ◌, *ℤ-zero}
use lib.ListN.{length, get_or, take, drop, length-take, length-drop}
use lib.Seq.{take_all, get_or-take, get_or-drop}
use Rattle.sequence.specs.Count.{count, count_same}
use Rattle.sequence.specs.Rewritten.{rewritten, rewritten_same}
use Rattle.sequence.specs.Total.{total, total_same, total_split}
use Rattle.fixed.specs.Fixed.{acc, fold, sat, clips, hi, mul}
use Rattle.products.specs.PlainSums.{sum_backwards, sum_zeros, sum_wraps, sum_wrapped}
use Rattle.products.specs.Runs as Runs
use Rattle.pitch.specs.Pitch as Pitch
use Rattle.adaptive.specs.Window.{Ended, Windowed, term, sample, predicted, predicted_sum, clipped, sharpened}

-- ---- the window's sum is the filter's
-- a window of taps and a phase that are known by equations
pub windowed_of : {t u : List ℤ} {p q : ℕ} {w : List ℤ} → t ≡ u → p ≡ q → Windowed t p w → Windowed u q w
windowed_of {t} {u} {p} {q} {w} e f d = subst (λ (x : List ℤ). Windowed x q w) e (subst (λ (x : ℕ). Windowed t x w) f d)

-- the four taps that are 0 bring nothing in
module _ (w signal : List ℤ) (from : ℕ) (z : Ended w) where
  ended : (k : ℕ) → k < 4 → term w signal from (20 + k) ≡ pos 0
  unfolding term mul
  ended k h =
      let x : ℤ = get_or signal (from + (20 + k)) (pos 0) in
      ap (λ (y : ℤ). x *ℤ y *ℤ pos 2) (z k h) ∙ ap (λ (y : ℤ). y *ℤ pos 2) (*ℤ-zero x)

  twenty_plain : total ◌+ℤ◌ (pos 0) (term w signal from) 24 ≡ total ◌+ℤ◌ (pos 0) (term w signal from) 20
  twenty_plain =
      let t : ℕ → ℤ = term w signal from in
      total_split ◌+ℤ◌ (pos 0) t 20 4 ∙ sum_zeros (λ (k : ℕ). t (20 + k)) (total ◌+ℤ◌ (pos 0) t 20) 4 ended

  twenty : total fold (pos 0) (term w signal from) 20 ≡ sample w signal from
  unfolding sample
  twenty =
      let t : ℕ → ℤ = term w signal from in
      sum_wrapped t (pos 0) (pos 0) 19 refl ∙ ap acc (sym twenty_plain) ∙ sym (sum_wrapped t (pos 0) (pos 0) 23 refl)

module _ (taps w signal : List ℤ) (phase from : ℕ) (d : Windowed taps phase w) where
  abbrev t : ℕ → ℤ
  t = term w signal from

  abbrev b : ℕ → ℤ
  b = Pitch.before taps phase signal (from + 9)

  abbrev a : ℕ → ℤ
  a = Pitch.after taps (3 - phase) signal (from + 9)

  -- the sides term by term
  left : (k : ℕ) → k < 10 → t k ≡ b (10 - suc k)
  unfolding term Pitch.before
  left k h =
      let j : ℕ = 10 - suc k in
      let p : from + k ≡ from + 9 - j = omega arith in
      let q : k ≡ 9 - j = omega arith in
      ap (λ (i : ℕ). mul (get_or signal i (pos 0)) (get_or w k (pos 0))) p
      ∙ ap (λ (z : ℤ). mul (get_or signal (from + 9 - j) (pos 0)) z) (ap (λ (i : ℕ). get_or w i (pos 0)) q ∙ d.left j (omega arith))

  right : (k : ℕ) → k < 10 → t (10 + k) ≡ a k
  unfolding term Pitch.after
  right k h =
      let p : from + (10 + k) ≡ from + 9 + 1 + k = omega arith in
      ap (λ (i : ℕ). mul (get_or signal i (pos 0)) (get_or w (10 + k) (pos 0))) p ∙ ap (mul (get_or signal (from + 9 + 1 + k) (pos 0))) (d.right k h)

  plain : total ◌+ℤ◌ (pos 0) t 24 ≡ total ◌+ℤ◌ (total ◌+ℤ◌ (pos 0) b 10) a 10
  plain =
      twenty_plain w signal from d.rest
      ∙ total_split ◌+ℤ◌ (pos 0) t 10 10
      ∙ total_same ◌+ℤ◌ (total ◌+ℤ◌ (pos 0) t 10) (λ (k : ℕ). t (10 + k)) a 10 right
      ∙ ap (λ (z : ℤ). total ◌+ℤ◌ z a 10) (total_same ◌+ℤ◌ (pos 0) t (λ (k : ℕ). b (10 - suc k)) 10 left ∙ sum_backwards b (pos 0) 10)

  pub sample_is : sample w signal from ≡ Pitch.interpolated_sample taps phase signal (from + 9)
  unfolding sample Pitch.interpolated_sample
  sample_is =
      sum_wrapped t (pos 0) (pos 0) 23 refl ∙ ap acc plain
      ∙ sym (sum_wrapped a (total fold (pos 0) b 10) (total ◌+ℤ◌ (pos 0) b 10) 9 (sum_wraps b (pos 0) (pos 0) 10 refl))

-- ---- so what is rewritten by a window is rewritten by the filter
-- how many samples are clipped, by the delay
abbrev pub clipped_by : List ℤ → ℕ → ℕ → List ℤ → ℕ → ℕ
clipped_by taps phase start exc delay = count (λ n. clips (Pitch.predicted_sum taps phase delay start n (rewritten (Pitch.predicted taps phase delay start) start exc n))) 80

module _ (taps w : List ℤ) (phase : ℕ) (d : Windowed taps phase w) where
  pub predicted_is : (delay start : ℕ) (exc : List ℤ) (n : ℕ) → delay + 9 ≤ start → rewritten (predicted w delay start) start exc n ≡ rewritten (Pitch.predicted taps phase delay start) start exc n
  unfolding predicted Pitch.predicted
  predicted_is delay start exc n h =
      rewritten_same (predicted w delay start) (Pitch.predicted taps phase delay start) start exc n
      (λ k x.
      ap (λ (z : ℤ). hi (sat (fold z (pos 32768))))
      (sample_is taps w x phase (start + k - delay - 9) d ∙ ap (Pitch.interpolated_sample taps phase x) (omega arith)))

  -- and what is saturated, so that as many samples are clipped
  pub clipped_is : (delay start : ℕ) (exc : List ℤ) → delay + 9 ≤ start → clipped w delay start exc ≡ clipped_by taps phase start exc delay
  unfolding clipped predicted_sum Pitch.predicted_sum
  clipped_is delay start exc h =
      count_same _ _ 80
      (λ n g.
      let x : List ℤ = rewritten (predicted w delay start) start exc n in
      ap (λ (z : ℤ). clips (fold z (pos 32768))) (sample_is taps w x phase (start + n - delay - 9) d ∙ ap (Pitch.interpolated_sample taps phase x) (omega arith))
      ∙ ap (λ (t : List ℤ). clips (fold (Pitch.interpolated_sample taps phase t (start + n - delay)) (pos 32768))) (predicted_is delay start exc n h))

  pub sharpened_is : (first : ℕ) (gain : ℤ) (start : ℕ) (buf : List ℤ) (n : ℕ) → rewritten (sharpened w first gain) start buf n ≡ rewritten (Pitch.sharpened taps phase first gain) start buf n
  unfolding sharpened Pitch.sharpened
  sharpened_is first gain start buf n =
      rewritten_same (sharpened w first gain) (Pitch.sharpened taps phase first gain) start buf n
      (λ k x.
      ap (λ (z : ℤ). Pitch.mixed z gain (get_or x (21 + first + k) (pos 0)))
      (sample_is taps w x phase (2 + k) d ∙ ap (Pitch.interpolated_sample taps phase x) (omega arith)))

-- ---- the sum is made in two runs
-- the last eight taps, as they are lent
pub rest_is : (w : List ℤ) → length w ≡ 24 → take 8 (drop 16 w) ≡ drop 16 w
rest_is w p = take_all 8 (drop 16 w) (omega (arith, length-drop 16 w))

module _ (w signal : List ℤ) (from : ℕ) (p : length w ≡ 24) (q : from + 24 ≤ length signal) where
  abbrev first : List ℤ
  first = take (from + 16 - from) (drop from signal)

  abbrev second : List ℤ
  second = take (from + 24 - (from + 16)) (drop (from + 16) signal)

  pub length_first : length first ≡ 16
  length_first = simp (length-take, length-drop) (omega arith)

  pub length_second : length second ≡ 8
  length_second = simp (length-take, length-drop) (omega arith)

  in_first : (k : ℕ) → k < 16 → Runs.term (take 16 w) first k ≡ term w signal from k
  unfolding term
  in_first k h =
      let g : k < from + 16 - from = omega arith in
      simp (get_or-take, get_or-drop)

  in_second : (k : ℕ) → k < 8 → Runs.term (drop 16 w) second k ≡ term w signal from (16 + k)
  unfolding term
  in_second k h =
      let g : k < from + 24 - (from + 16) = omega arith in
      let e : from + 16 + k ≡ from + (16 + k) = omega arith in
      simp (get_or-take, get_or-drop, e)

  pub by_runs : total fold (total fold (pos 0) (Runs.term (take 16 w) first) (length first)) (Runs.term (drop 16 w) second) (length second) ≡ sample w signal from
  unfolding sample
  by_runs =
      rw (length_first, length_second)
      (ap (λ (z : ℤ). total fold z (Runs.term (drop 16 w) second) 8) (total_same fold (pos 0) (Runs.term (take 16 w) first) (term w signal from) 16 in_first)
      ∙ total_same fold (total fold (pos 0) (term w signal from) 16) (Runs.term (drop 16 w) second) (λ (k : ℕ). term w signal from (16 + k)) 8 in_second
      ∙ sym (total_split fold (pos 0) (term w signal from) 16 8))

-- ---- or of the twenty taps alone
module _ (w signal : List ℤ) (from : ℕ) (p : length w ≡ 24) (q : from + 24 ≤ length signal) where
  abbrev front : List ℤ
  front = take (from + 20 - from) (drop from signal)

  pub length_front : length front ≡ 20
  length_front = simp (length-take, length-drop) (omega arith)

  in_front : (k : ℕ) → k < 20 → Runs.term (take 20 w) front k ≡ term w signal from k
  unfolding term
  in_front k h =
      let g : k < from + 20 - from = omega arith in
      simp (get_or-take, get_or-drop)

  pub by_twenty : Ended w → total fold (pos 0) (Runs.term (take 20 w) front) (length front) ≡ sample w signal from
  by_twenty z = rw length_front (total_same fold (pos 0) (Runs.term (take 20 w) front) (term w signal from) 20 in_front ∙ twenty w signal from z)
