-- The state rule is kept: a state that reset, a cold start, a decode or a missed frame gave is never refused with 5.
use Rattle.std.specs.Prelude.{ℕ, zero, suc, ◌≡◌, refl, ℤ}
use Rattle.std.proofs.Common.{arith, le-leb}
use mathlib.Core.List.{List, [], ◌∷◌}
use Rattle.bits.specs.Bits.{fields_of}
use Rattle.bits.specs.Widths.{within_names, fields_within}
use Rattle.spectral.specs.Kept.{Words16}
use Rattle.observation.specs.Kept.{decode_kept}
use Rattle.sure.specs.Sure.{after, left_le}
use Rattle.state.specs.declared.State.{State}
use Rattle.state.specs.State as State
use Rattle.calls.specs.Celp.{refusal, raised, carried, decoded, next, accepted, answer, decode}
use Rattle.calls.specs.Cases.{refused_state}
use Rattle.calls.specs.Accepted.{accepted_means, obeyed_not_five}
use Rattle.calls.specs.Run.{Event, heard, missed, step, run}
use Rattle.calls.specs.StateRule.{Obeying, kept, obeying, fallen_obeying}

module _ (words : List ℤ) (bytes : List ℕ) (w : Words16 words) where
  -- an accepted frame
  pub accepted_obeying : (s : State) (payload : List ℕ) (room : ℕ) → Obeying s → refusal words bytes s payload room ≡ 0 → Obeying (decode words bytes s payload room).state
  unfolding decode answer accepted next raised decoded carried
  accepted_obeying s payload room o z =
      let a = accepted_means words bytes s payload room z in
      let i = within_names (fields_of payload) (fields_within payload) in
      rw z (obeying (next (decoded words bytes s payload) (raised s.mark) (after s.mark s.sure (decoded words bytes s payload).pitch_gains).left) (decode_kept w a.set_sound (carried s) s.residuals (fields_of payload) i.0 i.1 (kept s o)) (le-leb (raised s.mark) 2 (omega arith)) (le-leb _ 2 (left_le s.mark s.sure (decoded words bytes s payload).pitch_gains)))

  -- any decode: a refused one hands the state back with 0 and 0
  pub decode_obeying : (s : State) (payload : List ℕ) (room : ℕ) → Obeying s → Obeying (decode words bytes s payload room).state
  decode_obeying s payload room o = by (refusal words bytes s payload room) refl
    where
      by : (n : ℕ) → refusal words bytes s payload room ≡ n → Obeying (decode words bytes s payload room).state
      by zero e = accepted_obeying s payload room o e
      by (suc n) e = rw (refused_state words bytes s payload room (λ z. omega arith)) (fallen_obeying s o)

  step_obeying : (s : State) (e : Event) → Obeying s → Obeying (step words bytes s e)
  unfolding step State.missed_frame
  step_obeying s (heard payload room) o = decode_obeying s payload room o
  step_obeying s missed o = fallen_obeying s o

  -- ---- any sequence of calls
  pub run_obeying : (s : State) (es : List Event) → Obeying s → Obeying (run words bytes s es)
  unfolding run
  run_obeying s [] o = o
  run_obeying s (e ∷ es) o = run_obeying (step words bytes s e) es (step_obeying s e o)

  -- from reset or a cold start no call of it is refused with 5
  pub never_five : (s : State) (es : List Event) → Obeying s → (payload : List ℕ) (room : ℕ) → refusal words bytes (run words bytes s es) payload room ≡ 5 → ⊥
  never_five s es o payload room e = obeyed_not_five words bytes (run words bytes s es) payload room (run_obeying s es o).rule e

  -- and no missed frame answers 5
  pub missed_never_five : (s : State) (es : List Event) → Obeying s → (State.missed_frame (run words bytes s es)).number ≡ 0
  unfolding State.missed_frame
  missed_never_five s es o = rw (run_obeying s es o).rule
