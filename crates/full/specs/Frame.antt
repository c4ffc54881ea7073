-- mod.rs's `Native` with all that it keeps, and its decode of an accepted frame: the three histories, the core's full state among them.
use Rattle.std.specs.Prelude.{List, [], ◌∷◌, ◌++◌, ℕ, ℤ, Float}
use Rattle.bits.specs.declared.HalfParams.{HalfParams}
use Rattle.bits.specs.declared.FrameParams.{FrameParams}
use Rattle.spectral.specs.Spectral as Spectral
use Rattle.half.specs.declared.SubframeTrace.{SubframeTrace}
use Rattle.full.specs.Half as Core
use Rattle.observation.specs.declared.Subframe.{Subframe}
use Rattle.observation.specs.Frame.{residual, lsp, reported}

-- core, spectral history (three residuals, one after the other) and gain history
pub record Native : Type 0 where
  pub core : Core.Full
  pub residuals : List Float
  pub gains : List Float

-- a turn of its loop over the halves: `spectrum.decode`, and then `core.decode`
pub record Turn : Type 0 where
  pub native : Native
  pub pcm : List ℤ
  pub first : SubframeTrace
  pub second : SubframeTrace

unfoldable pub turn : List ℤ → List ℕ → Native → HalfParams → Turn
turn words bytes n p =
    let d : Core.Decoded160 = Core.decode words bytes n.core (lsp words bytes n.residuals p) p n.gains in
    record {
      native = record { core = d.core; residuals = Spectral.push n.residuals (residual words bytes p); gains = d.gains };
      pcm = d.out;
      first = d.first;
      second = d.second;
    }

-- `Observation`, with what we report besides the figures, and the decoder after it
pub record Observation : Type 0 where
  pub native : Native
  pub excitation : List ℤ
  pub pcm : List ℤ
  pub subframes : List Subframe

unfoldable pub decode : List ℤ → List ℕ → Native → FrameParams → Observation
decode words bytes n f =
    let a : Turn = turn words bytes n f.first in
    let b : Turn = turn words bytes a.native f.second in
    record {
      native = b.native;
      excitation = (a.first.mixed_excitation ++ a.second.mixed_excitation) ++ (b.first.mixed_excitation ++ b.second.mixed_excitation);
      pcm = a.pcm ++ b.pcm;
      subframes = reported bytes a.first ∷ reported bytes a.second ∷ reported bytes b.first ∷ reported bytes b.second ∷ [];
    }
