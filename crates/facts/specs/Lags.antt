-- Every lag integer of an accepted frame, and the last lag of the state after it, lies in 19..=144.
use Prim.Native.Nat.{ℕ, zero, suc, ◌<◌}
use Rattle.std.specs.Prelude.{◌≡◌, ℤ, get_or}
use Rattle.std.proofs.Math.Path.{refl}
use mathlib.Core.List.{List, [], ◌∷◌}
use Rattle.std.proofs.Common.{arith}
use Rattle.std.proofs.Math.Dec.{lit≤}
use Rattle.bits.specs.Bits.{fields_of}
use Rattle.bits.specs.Widths.{within_names, fields_within}
use Rattle.pitch.specs.Pitch.{InRange}
use Rattle.pitch.specs.Lags.{sane_integer}
use Rattle.half.specs.Kept.{lags_kept, lag_kept}
use Rattle.observation.specs.declared.Subframe.{Subframe}
use Rattle.observation.specs.Frame as Frame
use Rattle.state.specs.declared.State.{State}
use Rattle.state.specs.State.{initial, missed_frame}
use Rattle.calls.specs.Celp.{refusal, silent, carried, decoded, next, accepted, answer, decode}
use Rattle.calls.specs.Cases.{refused_state}
use Rattle.calls.specs.Run.{Event, heard, missed, step, run}

-- what holds of each of four holds at every place
four : (P : Subframe → Type 0) (a b c d : Subframe) → P a → P b → P c → P d → (k : ℕ) → k < 4 → P (get_or (a ∷ b ∷ c ∷ d ∷ []) k silent)
four P a b c d p q r s zero h = p
four P a b c d p q r s (suc zero) h = q
four P a b c d p q r s (suc (suc zero)) h = r
four P a b c d p q r s (suc (suc (suc zero))) h = s
four P a b c d p q r s (suc (suc (suc (suc k)))) h = absurd (omega arith)

module _ (words : List ℤ) (bytes : List ℕ) where
  module _ (s : State) (payload : List ℕ) (room : ℕ) (z : refusal words bytes s payload room ≡ 0) where
    -- each subframe's lag integer in an accepted frame
    pub lags_in_range : (k : ℕ) → k < 4 → InRange (get_or (decode words bytes s payload room).subframes k silent).lag
    unfolding decode answer accepted decoded Frame.decode Frame.report Frame.halves Frame.half Frame.subframes Frame.reported
    lags_in_range =
        let i = within_names (fields_of payload) (fields_within payload) in
        let a = lags_kept words bytes (carried s) _ (fields_of payload).first i.0 in
        let b = lags_kept words bytes _ _ (fields_of payload).second i.1 in
        rw z (four (λ x. InRange x.lag) _ _ _ _ (sane_integer _ a.0) (sane_integer _ a.1) (sane_integer _ b.0) (sane_integer _ b.1))

    -- and the last lag that it leaves
    pub last_lag_in_range : InRange (decode words bytes s payload room).state.last_half_lag
    unfolding decode answer accepted decoded next Frame.decode Frame.report Frame.halves Frame.half
    last_lag_in_range = rw z (lag_kept words bytes _ _ (fields_of payload).second (within_names (fields_of payload) (fields_within payload)).1)

  -- so after any sequence of calls, from a state where it is: it is 60 at reset and at a cold start
  step_lag : (s : State) (e : Event) → InRange s.last_half_lag → InRange (step words bytes s e).last_half_lag
  unfolding step missed_frame
  step_lag s missed h = h
  step_lag s (heard payload room) h = by (refusal words bytes s payload room) refl
    where
      by : (n : ℕ) → refusal words bytes s payload room ≡ n → InRange (decode words bytes s payload room).state.last_half_lag
      by zero z = last_lag_in_range s payload room z
      by (suc n) z = rw (refused_state words bytes s payload room (λ q. omega arith)) h

  pub run_lag_in_range : (s : State) (es : List Event) → InRange s.last_half_lag → InRange (run words bytes s es).last_half_lag
  unfolding run
  run_lag_in_range s [] h = h
  run_lag_in_range s (e ∷ es) h = run_lag_in_range (step words bytes s e) es (step_lag s e h)

  pub initial_lag : (m : ℕ) → InRange (initial words bytes m).last_half_lag
  unfolding initial
  initial_lag m = record { is = refl; least = lit≤ tt; most = lit≤ tt }
