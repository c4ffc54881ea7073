-- What the gain step keeps to: its gains lie in 0..=32,767, its history stays within 131,072, and what goes into the logarithm, the sorting and the rounding is no NaN.
use Rattle.std.specs.Prelude.{◌≡◌, refl, List, Bool, true, false, not, cond, ℤ, T, ltb, get_or, Float}
use Rattle.std.proofs.Common.{sym, ◌∙◌, le_refl, arith, lit≤, lit<, leb-true}
use Prim.Native.Nat.{ℕ, zero, suc, ◌+◌, ◌*◌, ◌/◌, ◌%◌, ◌^◌, ◌<◌, ◌≤◌}
use Rattle.std.proofs.lemmas.Bool.{false≢true}
use Rattle.std.specs.Float.{nan, inf, fin, binary32}
use Rattle.std.specs.Float.Ieee.{le, of_bits, to_bits, is_nan, up, down}
use Rattle.std.specs.Float.Ieee.Scale.{finite}
use Rattle.sequence.specs.Between.{Between}
use Rattle.floats.specs.Floats.{within}
use Rattle.floats.specs.Within as Floats
use Rattle.floats.specs.Within.{Within, within→, →within, within_finite, wider}
use Rattle.floats.specs.NoNan.{above_no_nan}
use Rattle.floats.specs.Order.{or_eq, or_eq'}
use Rattle.tables.specs.Tables.{pitch_gain_of, log_gain, gain_bias}
use Rattle.floats.specs.Quantised.{quantise_le}
use Rattle.gain.specs.declared.CodeGainArgument.{CodeGainArgument}
use Rattle.gain.specs.declared.CodeGainArgument.TheVariants as Argument
use Rattle.elementary.specs.Elementary.{bits, add, ln, exp, scaled}
use Rattle.gain.specs.Gain.{at_least_one, weighted, prediction, argument, code_gain_of, step, energy, decode}
use Rattle.gain.specs.Sized.{Sized, whole, pattern, small, plus, minus, times}

-- ---- the two routines
-- of every float, even of an infinity, since the exponent's field and the digits are bounded
pub ln_within : (x : Float) → Within (2 ^ 29) (ln x)
unfolding ln
ln_within x =
    let i = to_bits binary32 x % 0x8000_0000 + 0x55_5555 in
    let f = minus 2 tt (pattern 0 (i % 0x80_0000 + 0x3f2a_aaab) tt (omega arith)) (small 0x3f80_0000 tt) in
    let d = minus 9 tt (whole 8 (i / 0x80_0000) tt (omega arith)) (pattern 6 0x42fe_0000 tt (lit< tt)) in
    let z = times 4 tt f f in
    let a0 = minus 4 tt (small 0x3eaa_aa83 tt) (times 3 tt (small 0x3e7f_ff78 tt) f) in
    let a2 = minus 4 tt (small 0x3e4c_e81a tt) (times 3 tt (small 0x3e2a_cee7 tt) f) in
    let a4 = minus 4 tt (small 0x3e0f_6b90 tt) (times 3 tt (small 0x3df9_88af tt) f) in
    let a6 = minus 4 tt (small 0x3e0f_3373 tt) (times 3 tt (small 0x3e04_02bc tt) f) in
    let p = plus 19 tt a0 (times 18 tt z (plus 14 tt a2 (times 13 tt z (plus 9 tt a4 (times 8 tt z a6))))) in
    let r = plus 29 tt (plus 28 tt (minus 27 tt (minus 26 tt (times 25 tt (times 6 tt f z) p) (times 10 tt d (small 0x37f4_0417 tt))) (times 5 tt (small 0x3f00_0000 tt) z)) f)
    (times 10 tt d (small 0x3f31_7400 tt)) in
    r.bound

-- of an argument up to 16 in size
pub exp_within : (x : Float) → Within 16 x → Within (2 ^ 98) (exp x)
unfolding exp
exp_within x h =
    let n = to_bits binary32 (scaled x) % 64 in
    let k = minus 7 tt (whole 6 n tt (omega arith)) (pattern 5 0x4200_0000 tt (lit< tt)) in
    let g = minus 9 tt (record { value = x; bound = h }) (times 8 tt k (small 0x3f31_7400 tt)) in
    let c = times 8 tt k (small 0x37f4_0417 tt) in
    let r = plus 10 tt g c in
    let z = times 20 tt r r in
    let b0 = plus 12 tt (times 11 tt (small 0x3e2a_aa49 tt) r) (small 0x3eff_fffe tt) in
    let b2 = plus 12 tt (times 11 tt (small 0x3c09_1ce7 tt) r) (small 0x3d2a_ac69 tt) in
    let q = plus 43 tt (times 42 tt (plus 22 tt (times 21 tt (small 0x3ab5_1220 tt) z) b2) z) b0 in
    let w = pattern 31 ((n + 95) * 0x80_0000) tt (omega arith) in
    let y = times 98 tt (plus 66 tt (plus 65 tt (plus 64 tt (times 63 tt z q) c) g) (small 0x3f80_0000 tt)) w in
    y.bound

-- ---- the sorting
-- the argument that is carried is finite and at most 16 in size
abbrev pub Carried : CodeGainArgument → Type 0
Carried Argument.Below = Unit
Carried Argument.Above = Unit
Carried (Argument.Within x) = T (within 16 x)

between : (x : Float) → le (bits 0xbf80_0000) x ≡ true → le x (bits 0x4128_0000) ≡ true → Within 16 x
unfolding le of_bits
between nan h k = absurd (false≢true h)
between (inf true) h k = absurd (false≢true h)
between (inf false) h k = absurd (false≢true k)
between (fin true m e) h k = let l = leb-true (m * up e * 1) (1 * 1 * down e) (sym (or_eq' (1 * 1 * down e) (m * up e * 1)) ∙ h) in omega arith
between (fin false m e) h k = let l = leb-true (m * up e * 2) (21 * 1 * down e) (sym (or_eq (m * up e * 2) (21 * 1 * down e)) ∙ k) in omega arith

-- as the sorting sees to, of any float
pub argument_carried : (x : Float) → Carried (argument x)
unfolding argument
argument_carried x = go (le (bits 0xbf80_0000) x) (le x (bits 0x4128_0000)) (λ p q. →within 16 x (between x p q))
  where
    go : (a b : Bool) → (a ≡ true → b ≡ true → T (within 16 x)) → Carried (cond a (cond b (Argument.Within x) Argument.Above) Argument.Below)
    go true true h = h refl refl
    go true false h = tt
    go false b h = tt

-- so its exponential is finite
pub carried_exp : (x : Float) → T (within 16 x) → T (finite (exp x))
carried_exp x h = within_finite (2 ^ 98) (exp x) (exp_within x (within→ 16 x h))

-- no NaN goes into the logarithm
pub at_least_one_no_nan : (e : Float) → T (not (is_nan (at_least_one e)))
unfolding at_least_one of_bits is_nan
at_least_one_no_nan e = go (le (bits 0x3f80_0000) e) (above_no_nan (bits 0x3f80_0000) e)
  where
    go : (b : Bool) → (b ≡ true → T (not (is_nan e))) → T (not (is_nan (cond b e (bits 0x3f80_0000))))
    go true h = h refl
    go false h = tt

-- ---- a step from a history that obeys the state rule, with a bias and a correction that obey the set rules
-- each of the four is finite and at most 131,072 in size
abbrev pub Bounded : List Float → Type 0
Bounded v = Floats.Bounded 131072 4 v

module _ (v : List Float) (b : Bounded v) where
  abbrev term : (k n : ℕ) → k < 4 → T (ltb n 0x4000_0000) → Sized (2 ^ 18)
  term k n h l = times 18 tt (record { value = get_or v k nan; bound = within→ 131072 (get_or v k nan) (b k h) }) (small n l)

  weighted_within : Within (2 ^ 21) (weighted v)
  unfolding weighted
  weighted_within =
      let s = plus 21 tt (plus 20 tt (plus 19 tt (term 0 0x3f2e_147b (lit< tt) tt) (term 1 0x3f00_0000 (lit< tt) tt)) (term 2 0x3ea8_f5c3 (lit< tt) tt)) (term 3 0x3e23_d70a (lit< tt) tt) in
      s.bound

  -- what is sorted is finite, and so no NaN, whatever the energy
  pub sorted_finite : (e bias correction : Float) → T (within 65536 bias) → T (within 65536 correction) → T (finite (add (prediction v e bias) correction))
  unfolding prediction
  sorted_finite e bias correction p q =
      let w : Sized (2 ^ 21) = record { value = weighted v; bound = weighted_within } in
      let l : Sized (2 ^ 29) = record { value = ln (at_least_one e); bound = ln_within (at_least_one e) } in
      let s = plus 33 tt (plus 32 tt (minus 31 tt w (times 30 tt (small 0x3f00_0000 tt) l)) (record { value = bias; bound = within→ 65536 bias p })) (record { value = correction; bound = within→ 65536 correction q }) in
      within_finite (2 ^ 33) s.value s.bound

  -- nor is the amplitude one
  pub amplitude_finite : (bias correction : Float) → T (within 65536 bias) → T (within 65536 correction) → T (finite (add (add (weighted v) bias) correction))
  amplitude_finite bias correction p q =
      let w : Sized (2 ^ 21) = record { value = weighted v; bound = weighted_within } in
      let s = plus 23 tt (plus 22 tt w (record { value = bias; bound = within→ 65536 bias p })) (record { value = correction; bound = within→ 65536 correction q }) in
      within_finite (2 ^ 23) s.value s.bound

  -- the next history obeys the state rule too
  pub step_bounded : (e pitch correction bias : Float) → T (within 65536 correction) → Bounded (step v e pitch correction bias).gains
  unfolding step
  step_bounded e pitch correction bias q zero h = →within 131072 correction (wider 65536 131072 correction (lit≤ tt) (within→ 65536 correction q))
  step_bounded e pitch correction bias q (suc zero) h = b 0 (lit< tt)
  step_bounded e pitch correction bias q (suc (suc zero)) h = b 1 (lit< tt)
  step_bounded e pitch correction bias q (suc (suc (suc zero))) h = b 2 (lit< tt)
  step_bounded e pitch correction bias q (suc (suc (suc (suc k)))) h = absurd (omega arith)

-- ---- the gains lie in 0..=32,767
abbrev pub InRange : ℤ → Type 0
InRange z = Between 0 32767 z

code_gain_le : (a : CodeGainArgument) → code_gain_of a ≤ 32767
unfolding code_gain_of
code_gain_le Argument.Below = lit≤ tt
code_gain_le Argument.Above = le_refl 32767
code_gain_le (Argument.Within x) = quantise_le 32767 (exp x)

pub step_gains : (v : List Float) (e pitch correction bias : Float) → InRange (step v e pitch correction bias).pitch_gain × InRange (step v e pitch correction bias).code_gain
unfolding step
step_gains v e pitch correction bias = (record { is = refl; least = omega arith; most = quantise_le 32767 pitch }, record { is = refl; least = omega arith; most = code_gain_le (argument (add (prediction v e bias) correction)) })

pub decode_gains : (bytes : List ℕ) (v : List Float) (index : ℕ) (code : List ℤ) → InRange (decode bytes v index code).pitch_gain × InRange (decode bytes v index code).code_gain
unfolding decode
decode_gains bytes v index code = step_gains v (energy code) (pitch_gain_of bytes index) (log_gain bytes index) (gain_bias bytes)
