-- From a history that obeys the state rule and an accepted set no NaN and no infinity comes of a prediction, so that it is what `sort_by(f32::total_cmp)` gives.
use Rattle.std.specs.Prelude.{◌≡◌, List, ◌⊎◌, Bool, true, false, cond, T, Float}
use Rattle.std.proofs.Common.{sym, ap, ◌∙◌, inl, inr, eq-or-lt_of_le, le_of_suc-le-suc, lit≤, lit<, get_or-set_other}
use Rattle.std.proofs.Math.Path.{subst}
use Prim.Native.Nat.{ℕ, zero, suc, ◌+◌, ◌*◌, ◌<◌}
use native.Mathlib.Omega.{arith}
use Rattle.std.proofs.Math.ListN.{length, get_or}
use Rattle.std.proofs.Math.Seq.{get_or-set_same}
use Rattle.std.specs.Float.Ieee.{nan, binary32, fits, add, mul, le, lt, of_bits}
use Rattle.std.specs.Float.Ieee.Fits.{and_i, add-fits}
use Rattle.std.specs.Float.Ieee.Scale.{finite}
use Rattle.floats.specs.Floats.{within}
use Rattle.floats.specs.Within.{Within, Bounded, within→, →within, within_finite, wider, held_scaled, add_within, mul_within}
use Rattle.tables.specs.Tables.{ma}
use Rattle.tables.specs.Sound.{SoundBytes, ma_within}
use Rattle.sequence.specs.Table.{table, length_table, get_or_table}
use Rattle.spectral.specs.Spectral.{sort, sum_at, sums, smaller, spaced_at, spread, predict, FLOOR, GAP, CEILING}
use Rattle.sequence.specs.Lists.{Rising, Each, Same, each_table, each_at, same_length}
use Rattle.spectral.specs.Sorted.{sort_same, sort_each}
use Rattle.spectral.specs.TotalCmp.{total_le, total_less, finite32, spaced, sorted_same, total_same}

-- ---- spacing: each place adds at most 65,536 to what bounds all of them
module _ (l : List Float) (h : Bounded (524288 * 65536) 10 l) where
  pick : (B : ℕ) (t : Bool) (x y : Float) → Within B x → Within B y → Within B (cond t x y)
  pick B true x y p q = p
  pick B false x y p q = q

  spaced_within : (k : ℕ) → k < 10 → Within ((524288 + k) * 65536) (spaced_at l k)
  unfolding spaced_at of_bits
  spaced_within zero g = pick (524288 * 65536) (le FLOOR (get_or l 0 nan)) (get_or l 0 nan) FLOOR (within→ (524288 * 65536) (get_or l 0 nan) (h 0 g)) (lit≤ tt)
  spaced_within (suc k) g =
      pick ((524288 + suc k) * 65536) (le (add binary32 (spaced_at l k) GAP) (get_or l (suc k) nan)) (get_or l (suc k) nan) (add binary32 (spaced_at l k) GAP)
      (wider (524288 * 65536) ((524288 + suc k) * 65536) (get_or l (suc k) nan) (omega arith) (within→ (524288 * 65536) (get_or l (suc k) nan) (h (suc k) g)))
      (add_within binary32 (spaced_at l k) GAP ((524288 + k) * 65536) 321 ((524288 + suc k) * 65536) (held_scaled (524288 + suc k) (omega arith)) (omega arith) (spaced_within k (omega arith)) (lit≤ tt))

  -- the ceiling at most lowers the last
  place_within : (k : ℕ) → (k ≡ 9) ⊎ (k < 9) → Within (524297 * 65536) (get_or (spaced l) k nan)
  unfolding of_bits
  place_within k (inl e) =
      let t : 9 < length (table (spaced_at l) 10) = let n = length_table (spaced_at l) 10 in omega arith in
      subst (λ (x : Float). Within (524297 * 65536) x) (sym (ap (λ (i : ℕ). get_or (spaced l) i nan) e ∙ get_or-set_same (table (spaced_at l) 10) 9 (smaller (spaced_at l 9) CEILING) nan t))
      (pick (524297 * 65536) (le (spaced_at l 9) CEILING) (spaced_at l 9) CEILING (spaced_within 9 (lit< tt)) (lit≤ tt))
  place_within k (inr g) =
      subst (λ (x : Float). Within (524297 * 65536) x) (sym (get_or-set_other (table (spaced_at l) 10) 9 k (smaller (spaced_at l 9) CEILING) nan (λ e. omega arith) ∙ get_or_table (spaced_at l) 10 k nan (omega arith)))
      (wider ((524288 + k) * 65536) (524297 * 65536) (spaced_at l k) (omega arith) (spaced_within k (omega arith)))

  all_within : Bounded (524297 * 65536) 10 (spaced l)
  all_within k g = →within (524297 * 65536) (get_or (spaced l) k nan) (place_within k (eq-or-lt_of_le (le_of_suc-le-suc g)))

  pub spread_within : Bounded (524297 * 65536) 10 (spread l)
  unfolding spread
  spread_within = all_within

-- ---- the sums: each product is within 2 ^ 33
module _ (history residual : List Float) (bytes : List ℕ) (mode : ℕ) (s : SoundBytes bytes) (m : mode < 2) (p : Bounded 131072 30 history) (q : Bounded 131072 10 residual) where
  product : (x : Float) (tap k : ℕ) → tap < 4 → k < 10 → T (within 131072 x) → Within (131072 * 65536) (mul binary32 x (ma bytes mode tap k))
  product x tap k t h w = mul_within binary32 x (ma bytes mode tap k) 131072 65536 (131072 * 65536) (held_scaled 131072 (lit< tt)) (lit≤ tt) (within→ 131072 x w) (within→ 65536 (ma bytes mode tap k) (ma_within s mode tap k m t h))

  pub sum_within : (k : ℕ) → k < 10 → Within (524288 * 65536) (sum_at history residual bytes mode k)
  unfolding sum_at
  sum_within k h =
      let a = product (get_or residual k nan) 0 k (lit< tt) h (q k h) in
      let b = product (get_or history k nan) 1 k (lit< tt) h (p k (omega arith)) in
      let c = product (get_or history (k + 10) nan) 2 k (lit< tt) h (p (k + 10) (omega arith)) in
      let d = product (get_or history (k + 20) nan) 3 k (lit< tt) h (p (k + 20) (omega arith)) in
      add_within binary32 _ _ (393216 * 65536) (131072 * 65536) (524288 * 65536) (held_scaled 524288 (lit< tt)) (lit≤ tt)
      (add_within binary32 _ _ (262144 * 65536) (131072 * 65536) (393216 * 65536) (held_scaled 393216 (lit< tt)) (lit≤ tt)
      (add_within binary32 _ _ (131072 * 65536) (131072 * 65536) (262144 * 65536) (held_scaled 262144 (lit< tt)) (lit≤ tt) a b) c) d

  sum_fits : (k : ℕ) → T (fits binary32 (sum_at history residual bytes mode k))
  unfolding sum_at
  sum_fits k = add-fits binary32 _ _

  -- the ten sums are finite
  pub sums_finite : Each finite32 (sums history residual bytes mode)
  unfolding sums
  sums_finite =
      each_table finite32 (sum_at history residual bytes mode) 10
      (λ k h. and_i (fits binary32 (sum_at history residual bytes mode k)) (finite (sum_at history residual bytes mode k)) (sum_fits k) (within_finite (524288 * 65536) (sum_at history residual bytes mode k) (sum_within k h)))

  -- so any list of the same sums that rises by total_cmp is spread to the prediction
  pub predict_any : (l : List Float) → Same l (sums history residual bytes mode) → Rising total_le l → spread l ≡ predict history residual bytes mode
  unfolding predict spread
  predict_any l k r = sorted_same (sums history residual bytes mode) l sums_finite k r

  -- as the sums sorted by it are
  pub predict_total : spread (sort total_less (sums history residual bytes mode)) ≡ predict history residual bytes mode
  unfolding predict spread
  predict_total = total_same (sums history residual bytes mode) sums_finite

  -- and each of the ten frequencies is finite: within 524,297 * 65,536, some 3.4 * 10 ^ 10
  pub predict_within : Bounded (524297 * 65536) 10 (predict history residual bytes mode)
  unfolding predict sums spread
  predict_within =
      all_within (sort lt (sums history residual bytes mode)) (λ k h.
      let n = same_length (sort lt (sums history residual bytes mode)) (sums history residual bytes mode) (sort_same lt (sums history residual bytes mode)) ∙ length_table (sum_at history residual bytes mode) 10 in
      each_at (within (524288 * 65536)) (sort lt (sums history residual bytes mode)) nan
      (sort_each lt (within (524288 * 65536)) (sums history residual bytes mode)
      (each_table (within (524288 * 65536)) (sum_at history residual bytes mode) 10 (λ i g. →within (524288 * 65536) (sum_at history residual bytes mode i) (sum_within i g))))
      k (omega arith))
