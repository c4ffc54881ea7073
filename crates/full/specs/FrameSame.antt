-- What a frame of the full decoder answers, beside ours.
use Rattle.std.specs.Prelude.{◌≡◌, List, ℕ, ℤ, length}
use Rattle.bits.specs.declared.FrameParams.{FrameParams}
use Rattle.half.specs.declared.Core.{Core}
use Rattle.full.specs.Half.{restricted}
use Rattle.observation.specs.Frame as Frame
use Rattle.full.specs.Frame.{Native, Observation}

-- what our state has of it
abbrev pub kept : Native → Core
kept n = restricted n.core n.gains

-- what a frame of it answers, beside ours
pub record Answered (words : List ℤ) (bytes : List ℕ) (n : Native) (f : FrameParams) (o : Observation) : Type 0 where
  pub samples : o.pcm ≡ Frame.samples words bytes (kept n) n.residuals f
  pub excitation : o.excitation ≡ (Frame.decode words bytes (kept n) n.residuals f).excitation
  pub subframes : o.subframes ≡ (Frame.decode words bytes (kept n) n.residuals f).subframes
  pub core : kept o.native ≡ (Frame.decode words bytes (kept n) n.residuals f).core
  pub residuals : o.native.residuals ≡ (Frame.decode words bytes (kept n) n.residuals f).residuals
  pub long : length o.native.core.excitation ≡ 314
  pub lags : o.native.core.previous_lag ≡ o.native.core.last_half_lag
