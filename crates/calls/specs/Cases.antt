-- The two ways that a decode goes: refused, or not.
use Prim.Native.Nat.{ℕ, zero, suc}
use Rattle.std.specs.Prelude.{◌≡◌, List, ℤ, length}
use Rattle.std.proofs.Math.Path.{refl}
use Rattle.bits.specs.Bits.{fields_of}
use Rattle.observation.specs.Frame as Frame
use Rattle.state.specs.declared.State.{State}
use Rattle.state.specs.State.{fallen, fault}
use Rattle.calls.specs.Celp.{refusal, refused, carried, decoded, accepted, answer, decode, written, samples}

module _ (words : List ℤ) (bytes : List ℕ) (s : State) (payload : List ℕ) where
  pub decode_refused : (room n : ℕ) → n ≡ refusal words bytes s payload room → (n ≡ 0 → ⊥) → refused n (fault n words bytes) s ≡ decode words bytes s payload room
  unfolding decode answer
  decode_refused room zero e h = absurd (h refl)
  decode_refused room (suc n) e h = rw (← e)

  -- the state of a refused decode is the one that came, with neither mark nor sureness
  pub refused_state : (room : ℕ) → (refusal words bytes s payload room ≡ 0 → ⊥) → (decode words bytes s payload room).state ≡ fallen s
  unfolding decode answer refused
  refused_state room h = by (refusal words bytes s payload room) h
    where
      by : (n : ℕ) → (n ≡ 0 → ⊥) → (answer n words bytes s payload).state ≡ fallen s
      by zero h = absurd (h refl)
      by (suc n) h = refl

  pub decode_accepted : (room : ℕ) → refusal words bytes s payload room ≡ 0 → accepted s.mark s.sure (decoded words bytes s payload) ≡ decode words bytes s payload room
  unfolding decode answer
  decode_accepted room e = rw e

  pub samples_refused : (old : List ℤ) (n : ℕ) → n ≡ refusal words bytes s payload (length old) → (n ≡ 0 → ⊥) → old ≡ samples words bytes s payload old
  unfolding samples written
  samples_refused old zero e h = absurd (h refl)
  samples_refused old (suc n) e h = rw (← e)

  pub samples_accepted : (old : List ℤ) → refusal words bytes s payload (length old) ≡ 0 → Frame.samples words bytes (carried s) s.residuals (fields_of payload) ≡ samples words bytes s payload old
  unfolding samples written
  samples_accepted old e = rw e
