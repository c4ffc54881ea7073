-- `quantise` where the code clamps. The float of top is exact, so the comparisons with it are with top itself.
use Rattle.std.proofs.Common.{◌≡◌, ℕ, ◌*◌, ◌<◌, ◌≤◌, true, false, T, pos, sym, refl, ap, subst, true≢false, le_trans, le_of_eq, le_of_lt, mul-le-mul_right, zero-lt-suc, mul-one, arith, lt→ltb, ltb-false}
use mathlib.Core.Bool.{false≢true}
use lib.Ieee.{Float, nan, inf, fin, binary32, up, down, lt, of_int}
use lib.Ieee.Fits.{down_pos}
use lib.Ieee.Exact.{HasValue}
use lib.Ieee.Nearest.{closest, closest_mono}
use Rattle.floats.specs.Floats.{nearest_even, quantise}
use Rattle.floats.specs.Value.{whole_val, lt_of, ge_of}
use Rattle.floats.proofs.Even.{Small, itself}

not_inf : (t : Float) (a c : ℕ) → HasValue t false a c → lt (inf false) t ≡ true → ⊥
unfolding lt
not_inf nan a c v h = v
not_inf (inf s) a c v h = v
not_inf (fin s m e) a c v h = false≢true h

module _ (top : ℕ) (small : top ≤ 32767) where
  v : HasValue (of_int binary32 (pos top)) false top 1
  v = whole_val top (omega arith)

  -- from top on
  pub over : (x : Float) → lt (fin false 0 (pos 0)) x ≡ true → lt x (of_int binary32 (pos top)) ≡ false → quantise top x ≡ top
  unfolding quantise lt
  over nan h k = absurd (false≢true h)
  over (inf true) h k = absurd (false≢true h)
  over (inf false) h k = refl
  over (fin true m e) h k = absurd (false≢true h)
  over (fin false m e) h k =
      let l : top ≤ closest (m * up e) (down e) = le_trans (le_of_eq (sym (itself top))) (closest_mono top 1 (m * up e) (down e) (zero-lt-suc 0) (down_pos e) (ge_of m e (of_int binary32 (pos top)) top 1 (zero-lt-suc 0) v k)) in
      omega arith

  -- below top: r, the nearest whole number, needs no clamp
  pub under : (x : Float) (r : ℕ) → lt (fin false 0 (pos 0)) x ≡ true → lt x (of_int binary32 (pos top)) ≡ true → r ≡ nearest_even x → (r ≤ 32767) × (r ≡ quantise top x)
  unfolding quantise lt nearest_even
  under nan r h k e = absurd (false≢true h)
  under (inf true) r h k e = absurd (false≢true h)
  under (inf false) r h k e = absurd (not_inf (of_int binary32 (pos top)) top 1 v k)
  under (fin true m d) r h k e = absurd (false≢true h)
  under (fin false m d) r h k e =
      let l : closest (m * up d) (down d) ≤ top = le_trans (closest_mono (m * up d) (down d) top 1 (down_pos d) (zero-lt-suc 0) (le_of_lt (lt_of m d (of_int binary32 (pos top)) top 1 (zero-lt-suc 0) v k))) (le_of_eq (itself top)) in
      (omega arith, omega arith)

  -- and `round_even` takes x
  pub small_of : (x : Float) → lt (fin false 0 (pos 0)) x ≡ true → lt x (of_int binary32 (pos top)) ≡ true → Small x
  unfolding lt
  small_of nan h k = absurd (false≢true h)
  small_of (inf true) h k = absurd (false≢true h)
  small_of (inf false) h k = absurd (not_inf (of_int binary32 (pos top)) top 1 v k)
  small_of (fin true m e) h k = absurd (false≢true h)
  small_of (fin false m e) h k =
      let l : m * up e * 1 < top * down e = lt_of m e (of_int binary32 (pos top)) top 1 (zero-lt-suc 0) v k in
      let r : top * down e ≤ 32767 * down e = mul-le-mul_right (down e) small in
      (subst T (sym h) tt, lt→ltb (m * up e * 1) (32767 * 1 * down e) (omega arith))

-- 0 and below, and a NaN
pub not_above : (top : ℕ) (x : Float) → lt (fin false 0 (pos 0)) x ≡ false → quantise top x ≡ 0
unfolding quantise lt
not_above top nan h = refl
not_above top (inf true) h = refl
not_above top (inf false) h = absurd (true≢false h)
not_above top (fin true m e) h = refl
not_above top (fin false m e) h =
    let z : m * up e * 1 ≤ 0 * 1 * down e = ltb-false (0 * 1 * down e) (m * up e * 1) h in
    let l : closest (m * up e) (down e) ≤ 0 = closest_mono (m * up e) (down e) 0 1 (down_pos e) (zero-lt-suc 0) (le_trans z (le_of_eq (ap (λ (y : ℕ). y * down e) (mul-one 0)))) in
    omega arith
