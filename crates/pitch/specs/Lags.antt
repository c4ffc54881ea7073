-- The lags that codes give: three times such a lag is what document 01 says, its integer lies in 19..=144, and no read that it leads to is further back than 153 samples.
use Rattle.std.proofs.Common.{arith, ap, sym, ◌∙◌, ltb-true, ltb-false}
use Rattle.std.specs.Prelude.{Bool, true, false, cond, ◌≡◌, refl, ℕ, zero, suc, ◌+◌, ◌-◌, ◌*◌, ◌/◌, ◌%◌, ◌≤◌, ◌<◌, ltb, ℤ, pos, negsuc, neg_ℤ, nat_abs, ◌+ℤ◌, ◌*ℤ◌}
use Rattle.std.proofs.Math.IntN.{sub_ℕ}
use Rattle.std.specs.Int.Signed.{lt_z}
use Rattle.fixed.specs.Fixed.{residue}
use Rattle.fixed.specs.Integers.{sub_above}
use Rattle.pitch.specs.Pitch.{thirds, decode_absolute, lowest, decode_relative, Sane, InRange, phase, delay}
use Rattle.pitch.specs.declared.Lag.{Lag}

-- ---- a lag of n thirds
-- three times the lag is n
pub thirds_sum : (n : ℕ) → (thirds n).integer *ℤ pos 3 +ℤ (thirds n).frac ≡ pos n
unfolding thirds
thirds_sum n = go ((n + 1) % 3) refl
  where
    go : (r : ℕ) → (n + 1) % 3 ≡ r → pos ((n + 1) / 3 * 3) +ℤ sub_ℕ r 1 ≡ pos n
    go zero e = sub_above ((n + 1) / 3 * 3) 1 (omega arith) ∙ ap pos (omega arith)
    go (suc r) e = ap (λ (x : ℤ). pos ((n + 1) / 3 * 3) +ℤ x) (sub_above (suc r) 1 (omega arith)) ∙ ap pos (omega arith)

-- and the fraction -1, 0 or 1
pub thirds_frac : (n : ℕ) → nat_abs (thirds n).frac ≤ 1
unfolding thirds
thirds_frac n = go ((n + 1) % 3) (omega arith)
  where
    go : (r : ℕ) → r < 3 → nat_abs (sub_ℕ r 1) ≤ 1
    go zero h = omega arith
    go (suc r) h = rw (sub_above (suc r) 1 (omega arith)) (omega arith)

-- ---- the codes' lags
pub absolute_sane : (code : ℕ) → code < 256 → Sane (decode_absolute code)
unfolding decode_absolute
absolute_sane code h = go (ltb code 197) refl
  where
    go : (t : Bool) → ltb code 197 ≡ t → Sane (thirds (cond t (code + 58) (3 * (code - 112))))
    go true e = record { count = code + 58; is = refl; least = omega arith; most = omega (arith, ltb-true code 197 e) }
    go false e = record { count = 3 * (code - 112); is = refl; least = omega (arith, ltb-false code 197 e); most = omega arith }

pub lowest_range : (prev : ℤ) → (20 ≤ lowest prev) × (lowest prev ≤ 134)
unfolding lowest
lowest_range prev = go (ltb (nat_abs prev - 5) 20) refl
  where
    top : (m : ℕ) → 20 ≤ m → (t : Bool) → ltb 143 (m + 9) ≡ t → (20 ≤ cond t 134 m) × (cond t 134 m ≤ 134)
    top m h true e = (omega arith, omega arith)
    top m h false e = (h, omega (arith, ltb-false 143 (m + 9) e))

    go : (t : Bool) → ltb (nat_abs prev - 5) 20 ≡ t → (20 ≤ cond (ltb 143 (cond t 20 (nat_abs prev - 5) + 9)) 134 (cond t 20 (nat_abs prev - 5))) × (cond (ltb 143 (cond t 20 (nat_abs prev - 5) + 9)) 134 (cond t 20 (nat_abs prev - 5)) ≤ 134)
    go true e = top 20 (omega arith) _ refl
    go false e = top (nat_abs prev - 5) (ltb-false _ _ e) _ refl

pub relative_sane : (code : ℕ) (prev : ℤ) → code < 32 → Sane (decode_relative code prev)
unfolding decode_relative
relative_sane code prev h =
    let m = lowest_range prev in
    record { count = 3 * lowest prev + code - 2; is = refl; least = omega arith; most = omega arith }

-- ---- what such a lag is like
pub sane_integer : (l : Lag) → Sane l → InRange l.integer
unfolding thirds
sane_integer l s =
    let n : ℕ = s.count in
    let e : l.integer ≡ pos ((n + 1) / 3) = ap (λ (x : Lag). x.integer) s.is in
    record { is = simp e; least = rw e (omega arith); most = rw e (omega arith) }

pub sane_frac : (l : Lag) → Sane l → nat_abs l.frac ≤ 1
sane_frac l s = rw s.is (thirds_frac s.count)

-- 19 only with a third more, 144 only with a third less
pub least_lag : (l : Lag) → Sane l → l.integer ≡ pos 19 → l.frac ≡ pos 1
unfolding thirds
least_lag l s h =
    let n : ℕ = s.count in
    let e : pos ((n + 1) / 3) ≡ pos 19 = sym (ap (λ (x : Lag). x.integer) s.is) ∙ h in
    let d : (n + 1) / 3 ≡ 19 = cc in
    let r : (n + 1) % 3 ≡ 2 = omega arith in
    ap (λ (x : Lag). x.frac) s.is ∙ ap (λ (x : ℕ). sub_ℕ x 1) r

pub most_lag : (l : Lag) → Sane l → l.integer ≡ pos 144 → l.frac ≡ negsuc 0
unfolding thirds
most_lag l s h =
    let n : ℕ = s.count in
    let e : pos ((n + 1) / 3) ≡ pos 144 = sym (ap (λ (x : Lag). x.integer) s.is) ∙ h in
    let d : (n + 1) / 3 ≡ 144 = cc in
    let r : (n + 1) % 3 ≡ 0 = omega arith in
    ap (λ (x : Lag). x.frac) s.is ∙ ap (λ (x : ℕ). sub_ℕ x 1) r

-- the delay is the lag rounded up to whole samples, and the phase the thirds that this adds
pub split : (n : ℕ) → (phase (thirds n) < 3) × (3 * delay (thirds n) ≡ n + phase (thirds n))
unfolding thirds phase delay residue
split n = go ((n + 1) % 3) refl
  where
    go : (r : ℕ) → (n + 1) % 3 ≡ r → (residue 3 (neg_ℤ (sub_ℕ r 1)) < 3) × (3 * ((n + 1) / 3 + cond (lt_z (neg_ℤ (sub_ℕ r 1)) (pos 0)) 1 0) ≡ n + residue 3 (neg_ℤ (sub_ℕ r 1)))
    go zero e = (omega arith, omega arith)
    go (suc zero) e = (omega arith, omega arith)
    go (suc (suc zero)) e = (omega arith, omega arith)
    go (suc (suc (suc r))) e = absurd (omega arith)

-- so a sample is made of those from 153 to 10 before it: `delay + k` and `delay - 1 - k` back, for k below 10
pub sane_phase : (l : Lag) → Sane l → phase l < 3
sane_phase l s = rw s.is (split s.count).0

pub sane_delay : (l : Lag) → Sane l → (20 ≤ delay l) × (delay l ≤ 144)
sane_delay l s = let h = split s.count in rw s.is (omega arith, omega arith)

pub reads_back : (l : Lag) → Sane l → (k : ℕ) → k < 10 → (delay l + k ≤ 153) × (10 ≤ delay l - 1 - k)
reads_back l s k h = let d = sane_delay l s in (omega arith, omega arith)
