-- The Rust's decoder with its full state, beside ours, along any sequence of calls: it has our state's parts, and an accepted frame is answered alike.
use Prim.Native.Nat.{ℕ, zero, suc}
use Rattle.std.specs.Prelude.{◌≡◌, ℤ, length}
use Rattle.std.proofs.Math.Path.{refl}
use Rattle.std.proofs.Common.{arith}
use mathlib.Core.List.{List, [], ◌∷◌}
use Rattle.bits.specs.Bits.{fields_of}
use Rattle.bits.specs.Widths.{within_names, fields_within}
use Rattle.full.specs.Frame.{Native}
use Rattle.full.specs.Frame as Full
use Rattle.full.proofs.FrameSame.{frame_same}
use Rattle.state.specs.declared.State.{State}
use Rattle.state.specs.State.{missed_frame}
use Rattle.calls.specs.Celp.{refusal, carried, next, decoded, accepted, answer, decode, written, samples}
use Rattle.calls.specs.Run.{Event, heard, missed, step, run}
use Rattle.full.specs.Calls.{Carries, Alike, refused_carries, missed_carries, fed, beside}

module _ (words : List ℤ) (bytes : List ℕ) where
  accepted_carries : (n : Native) (s : State) (payload : List ℕ) (room : ℕ) → Carries n s → refusal words bytes s payload room ≡ 0 → Carries (Full.decode words bytes n (fields_of payload)).native (decode words bytes s payload room).state
  unfolding decode answer accepted decoded next carried
  accepted_carries n s payload room c z =
      let i = within_names (fields_of payload) (fields_within payload) in
      let a = frame_same words bytes n (fields_of payload) i.0 i.1 c.long in
      record {
        core = rw (a.core, c.core, c.residuals, z);
        residuals = rw (a.residuals, c.core, c.residuals, z);
        long = a.long;
      }

  pub accepted_alike : (n : Native) (s : State) (payload : List ℕ) (old : List ℤ) → Carries n s → refusal words bytes s payload (length old) ≡ 0 → Alike words bytes n s payload old
  unfolding decode answer accepted decoded samples written
  accepted_alike n s payload old c z =
      let i = within_names (fields_of payload) (fields_within payload) in
      let a = frame_same words bytes n (fields_of payload) i.0 i.1 c.long in
      record {
        pcm = rw (a.samples, c.core, c.residuals, z);
        excitation = rw (a.excitation, c.core, c.residuals, z);
        subframes = rw (a.subframes, c.core, c.residuals, z);
        next = accepted_carries n s payload (length old) c z;
        lags = a.lags;
      }

  heard_carries : (n : Native) (s : State) (payload : List ℕ) (room : ℕ) → Carries n s → (k : ℕ) → refusal words bytes s payload room ≡ k → Carries (fed words bytes k n payload) (decode words bytes s payload room).state
  unfolding fed
  heard_carries n s payload room c zero e = accepted_carries n s payload room c e
  heard_carries n s payload room c (suc k) e = refused_carries words bytes n s payload room c (λ z. omega arith)

  pub run_carries : (n : Native) (s : State) (es : List Event) → Carries n s → Carries (beside words bytes n s es) (run words bytes s es)
  unfolding beside run step
  run_carries n s [] c = c
  run_carries n s (heard payload room ∷ es) c =
      run_carries (fed words bytes (refusal words bytes s payload room) n payload) (decode words bytes s payload room).state es (heard_carries n s payload room c (refusal words bytes s payload room) refl)
  run_carries n s (missed ∷ es) c = run_carries n (missed_frame s).state es (missed_carries words bytes n s c)
