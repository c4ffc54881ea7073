-- mod.rs's decode: the two halves of an accepted frame, one after the other, and what is reported of their subframes.
use Rattle.std.specs.Prelude.{ℕ, List, [], ◌∷◌, ◌++◌, Bool, ◌&&◌, ℤ, pos, get_or, Float}
use Rattle.std.specs.Float.{nan, binary32}
use Rattle.std.specs.Float.Ieee.{of_int}
use Rattle.tables.specs.Tables.{log_gain}
use Rattle.bits.specs.declared.HalfParams.{HalfParams}
use Rattle.bits.specs.declared.FrameParams.{FrameParams}
use Rattle.code_index.specs.Codebook as Codebook
use Rattle.gain.specs.Gain as Gain
use Rattle.lsp.specs.Lsp as Lsp
use Rattle.spectral.specs.Spectral as Spectral
use Rattle.half.specs.declared.Clipped.{Clipped}
use Rattle.half.specs.declared.Core.{Core}
use Rattle.half.specs.declared.Half.{Half}
use Rattle.half.specs.declared.SubframeTrace.{SubframeTrace}
use Rattle.half.specs.Core as HalfFrame
use Rattle.observation.specs.declared.Subframe.{Subframe}
use Rattle.observation.specs.declared.Step.{Step}
use Rattle.observation.specs.declared.Both.{Both}
use Rattle.observation.specs.declared.Decoded.{Decoded}

-- ---- what refusal 7 asks, of the two code indexes of a half and of the four of a frame
unfoldable pub half_fits : List ℤ → HalfParams → Bool
half_fits words p = Codebook.digits_fit words p.code0 && Codebook.digits_fit words p.code1

unfoldable pub digits_fit : List ℤ → FrameParams → Bool
digits_fit words f = half_fits words f.first && half_fits words f.second

-- ---- a half frame: Spectral::decode, and then Core::decode
-- its residual
unfoldable pub residual : List ℤ → List ℕ → HalfParams → List Float
residual words bytes p = Spectral.residual words bytes p.stage1 p.stage2_low p.stage2_high

-- its LSPs, by three residuals before it and its own
unfoldable pub predicted : List ℤ → List ℕ → List Float → List Float → ℕ → List ℤ
predicted words bytes residuals own mode = Lsp.lsf_to_lsp words (Spectral.quantise_lsf (Spectral.predict residuals own bytes mode))

abbrev pub lsp : List ℤ → List ℕ → List Float → HalfParams → List ℤ
lsp words bytes residuals p = predicted words bytes residuals (residual words bytes p) p.mode

-- the half, and the residuals with its own before them
unfoldable pub half : List ℤ → List ℕ → Core → List Float → HalfParams → Step
half words bytes core residuals p =
    record {
      half = HalfFrame.half words bytes core (lsp words bytes residuals p) p;
      residuals = Spectral.push residuals (residual words bytes p);
    }

-- its 160 samples
unfoldable pub half_samples : List ℤ → List ℕ → Core → List Float → HalfParams → List ℤ
half_samples words bytes core residuals p = HalfFrame.samples words bytes core (lsp words bytes residuals p) p

-- ---- what is reported
-- index, correction, gain history, amplitude, energy, code gain, pitch gain, lag and class, each as f32
unfoldable pub figures : List ℕ → SubframeTrace → List Float
figures bytes t =
    of_int binary32 (pos t.gain_index) ∷
    log_gain bytes t.gain_index ∷
    get_or t.gains 0 nan ∷
    get_or t.gains 1 nan ∷
    get_or t.gains 2 nan ∷
    get_or t.gains 3 nan ∷
    Gain.amplitude bytes t.gains t.gain_index ∷
    Gain.energy t.innovation ∷
    of_int binary32 t.code_gain ∷
    of_int binary32 t.pitch_gain ∷
    of_int binary32 t.lag.integer ∷
    of_int binary32 (pos t.code_class) ∷
    []

unfoldable pub reported : List ℕ → SubframeTrace → Subframe
reported bytes t = record { figures = figures bytes t; lag = t.lag.integer; frac = t.lag.frac; lpc = t.lpc; innovation = t.innovation; zero_residuals = t.zero_residuals }

-- the four subframes' of two halves
unfoldable pub subframes : List ℕ → Half → Half → List Subframe
subframes bytes x y = reported bytes x.first ∷ reported bytes x.second ∷ reported bytes y.first ∷ reported bytes y.second ∷ []

-- what was clipped in them
unfoldable pub clipped : Half → Half → List Clipped
clipped x y = x.first_clipped ∷ x.second_clipped ∷ y.first_clipped ∷ y.second_clipped ∷ []

-- the pitch gains that they were mixed with
unfoldable pub pitch_gains_of : Half → Half → List ℤ
pitch_gains_of x y = x.first.pitch_gain ∷ x.second.pitch_gain ∷ y.first.pitch_gain ∷ y.second.pitch_gain ∷ []

-- and their excitation
unfoldable pub excitation : Half → Half → List ℤ
excitation x y = (x.first.mixed_excitation ++ x.second.mixed_excitation) ++ (y.first.mixed_excitation ++ y.second.mixed_excitation)

-- ---- the frame
-- its halves: the second starts from what the first leaves
unfoldable pub halves : List ℤ → List ℕ → Core → List Float → FrameParams → Both
halves words bytes core residuals f =
    let a : Step = half words bytes core residuals f.first in
    record { first = a; second = half words bytes a.half.core a.residuals f.second }

unfoldable pub report : List ℕ → Both → Decoded
report bytes h =
    record {
      core = h.second.half.core;
      residuals = h.second.residuals;
      excitation = excitation h.first.half h.second.half;
      subframes = subframes bytes h.first.half h.second.half;
      clipped = clipped h.first.half h.second.half;
      pitch_gains = pitch_gains_of h.first.half h.second.half;
    }

unfoldable pub decode : List ℤ → List ℕ → Core → List Float → FrameParams → Decoded
decode words bytes core residuals f = report bytes (halves words bytes core residuals f)

-- its 320 samples
unfoldable pub samples : List ℤ → List ℕ → Core → List Float → FrameParams → List ℤ
samples words bytes core residuals f =
    let a : Step = half words bytes core residuals f.first in
    half_samples words bytes core residuals f.first ++ half_samples words bytes a.half.core a.residuals f.second
