-- The Rust's decoder with its full state, beside ours, call by call. Whatever stands in the places that our state leaves out (160 of the 314 excitation samples,
-- `sharpen_voiced`, `previous_lag`), an accepted frame is answered alike, and the decoder after it has our next state's parts again.
use Prim.Native.Nat.{ℕ, zero, suc}
use Rattle.std.specs.Prelude.{◌≡◌, ℤ, length}
use Rattle.std.proofs.Math.Path.{refl}
use Rattle.std.proofs.Common.{◌∙◌, arith, length-append, take_at}
use mathlib.Core.List.{List, [], ◌∷◌}
use Rattle.bits.specs.Bits.{fields_of}
use Rattle.gain.specs.Gain as Gain
use Rattle.spectral.specs.Spectral as Spectral
use Rattle.full.specs.Half.{new, restricted, filled}
use Rattle.full.specs.Frame.{Native}
use Rattle.full.specs.Frame as Full
use Rattle.full.specs.FrameSame.{kept}
use Rattle.state.specs.declared.State.{State}
use Rattle.state.specs.State.{fallen, lsp_mean, initial, missed_frame}
use Rattle.calls.specs.Celp.{refusal, carried, decode, samples}
use Rattle.calls.specs.Cases.{refused_state}
use Rattle.calls.specs.Run.{Event, heard, missed, step}

-- a full decoder has the parts of our state
pub record Carries (n : Native) (s : State) : Type 0 where
  pub core : kept n ≡ carried s
  pub residuals : n.residuals ≡ s.residuals
  pub long : length n.core.excitation ≡ 314

-- `Native::default`
unfoldable pub fresh : List ℤ → List ℕ → Native
fresh words bytes = record { core = new (lsp_mean words); residuals = Spectral.initial words; gains = Gain.initial_history bytes }

-- the state filled up with anything in those places
unfoldable pub completed : State → List ℤ → ℤ → ℤ → Native
completed s stale voiced lag = record { core = filled (carried s) stale voiced lag; residuals = s.residuals; gains = s.gains }

pub completed_carries : (s : State) (stale : List ℤ) (voiced lag : ℤ) → length s.excitation ≡ 154 → length stale ≡ 160 → Carries (completed s stale voiced lag) s
unfolding completed filled restricted carried
completed_carries s stale voiced lag h k =
    record {
      core = rw (take_at s.excitation stale 154 h);
      residuals = refl;
      long = length-append s.excitation stale ∙ omega arith;
    }

module _ (words : List ℤ) (bytes : List ℕ) where
  -- the decoder that starts has the parts of the state that reset and a cold start give
  pub fresh_carries : (m : ℕ) → Carries (fresh words bytes) (initial words bytes m)
  unfolding fresh new restricted carried initial
  fresh_carries m = record { core = refl; residuals = refl; long = refl }

  -- what an accepted frame is answered
  pub record Alike (n : Native) (s : State) (payload : List ℕ) (old : List ℤ) : Type 0 where
    pub pcm : (Full.decode words bytes n (fields_of payload)).pcm ≡ samples words bytes s payload old
    pub excitation : (Full.decode words bytes n (fields_of payload)).excitation ≡ (decode words bytes s payload (length old)).excitation
    pub subframes : (Full.decode words bytes n (fields_of payload)).subframes ≡ (decode words bytes s payload (length old)).subframes
    pub next : Carries (Full.decode words bytes n (fields_of payload)).native (decode words bytes s payload (length old)).state
    pub lags : (Full.decode words bytes n (fields_of payload)).native.core.previous_lag ≡ (Full.decode words bytes n (fields_of payload)).native.core.last_half_lag

  -- a refused or a missed frame is none for the Rust: the decoder that is not called keeps our state's parts
  fallen_carries : (n : Native) (s : State) → Carries n s → Carries n (fallen s)
  unfolding carried
  fallen_carries n s c = record { core = c.core; residuals = c.residuals; long = c.long }

  pub refused_carries : (n : Native) (s : State) (payload : List ℕ) (room : ℕ) → Carries n s → (refusal words bytes s payload room ≡ 0 → ⊥) → Carries n (decode words bytes s payload room).state
  refused_carries n s payload room c h = rw (refused_state words bytes s payload room h) (fallen_carries n s c)

  pub missed_carries : (n : Native) (s : State) → Carries n s → Carries n (missed_frame s).state
  unfolding missed_frame
  missed_carries n s c = fallen_carries n s c

  -- ---- along any sequence of calls: the full decoder is given the frames that ours accepts
  unfoldable pub fed : ℕ → Native → List ℕ → Native
  fed zero n payload = (Full.decode words bytes n (fields_of payload)).native
  fed (suc k) n payload = n

  unfoldable pub beside : Native → State → List Event → Native
  beside n s [] = n
  beside n s (heard payload room ∷ es) = beside (fed (refusal words bytes s payload room) n payload) (step words bytes s (heard payload room)) es
  beside n s (missed ∷ es) = beside n (step words bytes s missed) es
