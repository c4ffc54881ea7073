-- The state rule is kept: a state that reset, a cold start, a decode or a missed frame gave is never refused with 5.
use Rattle.std.specs.Prelude.{ℕ, ◌<◌, ◌≡◌, refl, Bool, true, false, ◌&&◌, T, leb, ℤ, Float, length, get_or}
use Rattle.std.proofs.Common.{sym, subst, arith}
use mathlib.Core.List.{List}
use Rattle.std.specs.Float.{nan}
use Rattle.sequence.specs.All.{all, all_at, all_of, and_left, and_right}
use Rattle.sequence.specs.Table.{length_table}
use Rattle.floats.specs.Floats.{within}
use Rattle.tables.specs.Tables.{check}
use Rattle.tables.specs.Sound.{sound}
use Rattle.gain.specs.Gain as Gain
use Rattle.gain.specs.Kept.{initial_bounded}
use Rattle.spectral.specs.Spectral as Spectral
use Rattle.spectral.specs.Kept.{Words16, initial_kept}
use Rattle.observation.specs.Kept.{Kept}
use Rattle.state.specs.declared.State.{State}
use Rattle.state.specs.State as State

-- a state that has as many floats as its arrays have places, and obeys the rule
pub record Obeying (s : State) : Type 0 where
  pub residuals_long : length s.residuals ≡ 30
  pub gains_long : length s.gains ≡ 4
  pub rule : State.obeys s ≡ true

-- ---- the rule, and what it says of each float
is : (b : Bool) → T b → b ≡ true
is true t = refl
is false t = absurd t

-- of n floats
each : (l : List Float) (n : ℕ) → length l ≡ n → all (within 131072) l ≡ true → (k : ℕ) → k < n → T (within 131072 (get_or l k nan))
each l n e a k h = subst T (sym (all_at (within 131072) l nan a k (omega arith))) tt

of_each : (l : List Float) (n : ℕ) → length l ≡ n → ((k : ℕ) → k < n → T (within 131072 (get_or l k nan))) → all (within 131072) l ≡ true
of_each l n e h = all_of (within 131072) l nan (λ k p. is (within 131072 (get_or l k nan)) (h k (omega arith)))

pub floats_within : (s : State) → State.obeys s ≡ true → (all (within 131072) s.residuals ≡ true) × (all (within 131072) s.gains ≡ true)
unfolding State.obeys
floats_within s e =
    let r = all (within 131072) s.residuals in
    let g = all (within 131072) s.gains in
    let m = leb s.mark 2 && leb s.sure 2 in
    (and_left r (g && m) e, and_left g m (and_right r (g && m) e))

pub kept : (s : State) → Obeying s → Kept s.residuals s.gains
kept s o =
    let w = floats_within s o.rule in
    record {
      residuals_long = o.residuals_long;
      residuals_within = each s.residuals 30 o.residuals_long w.0;
      gains_long = o.gains_long;
      gains_within = each s.gains 4 o.gains_long w.1;
    }

pub obeying : (s : State) → Kept s.residuals s.gains → leb s.mark 2 ≡ true → leb s.sure 2 ≡ true → Obeying s
unfolding State.obeys
obeying s k m u =
    record {
      residuals_long = k.residuals_long;
      gains_long = k.gains_long;
      rule = rw (of_each s.residuals 30 k.residuals_long k.residuals_within, of_each s.gains 4 k.gains_long k.gains_within, m, u);
    }

-- 0 for both breaks nothing
pub fallen_obeying : (s : State) → Obeying s → Obeying (State.fallen s)
fallen_obeying s o = let k = kept s o in obeying (State.fallen s) k refl refl

-- ---- the calls
module _ (words : List ℤ) (bytes : List ℕ) (w : Words16 words) where
  -- reset and a cold start of an accepted set
  pub initial_obeying : check words bytes ≡ 0 → (m : ℕ) → leb m 2 ≡ true → Obeying (State.initial words bytes m)
  unfolding State.initial Spectral.initial Gain.initial_history
  initial_obeying c m l =
      let b = (sound words bytes c).of_bytes in
      obeying (State.initial words bytes m)
      (record { residuals_long = length_table (Spectral.initial_at words) 30; residuals_within = initial_kept words w; gains_long = refl; gains_within = initial_bounded b })
      l
      l
