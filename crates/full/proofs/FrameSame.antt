-- A frame of the full decoder answers what ours does, whatever stands in the places that our state leaves out, and what it leaves restricts to what ours leaves.
use Rattle.std.specs.Prelude.{◌≡◌, refl, List, ℕ, ℤ, length}
use Rattle.std.proofs.Common.{subst}
use Rattle.bits.specs.declared.FrameParams.{FrameParams}
use Rattle.bits.specs.Widths.{InWidths}
use Rattle.spectral.specs.Spectral as Spectral
use Rattle.half.specs.declared.Core.{Core}
use Rattle.half.specs.Core as HalfFrame
use Rattle.full.specs.Half.{Decoded160, restricted}
use Rattle.full.specs.Half as Core
use Rattle.full.specs.HalfSame.{Answers}
use Rattle.full.proofs.HalfSame.{full_same}
use Rattle.observation.specs.Frame as Frame
use Rattle.full.specs.Frame.{Native, turn, decode}
use Rattle.full.specs.FrameSame.{kept, Answered}

module _ (words : List ℤ) (bytes : List ℕ) (n : Native) (f : FrameParams) (v : InWidths f.first) (w : InWidths f.second) (long : length n.core.excitation ≡ 314) where
  abbrev c : Core
  c = kept n

  abbrev l : List ℤ
  l = Frame.lsp words bytes n.residuals f.first

  abbrev m : List ℤ
  m = Frame.lsp words bytes (Spectral.push n.residuals (Frame.residual words bytes f.first)) f.second

  abbrev x : Decoded160
  x = Core.decode words bytes n.core l f.first n.gains

  abbrev y : Decoded160
  y = Core.decode words bytes x.core m f.second x.gains

  first_half : Answers words bytes c l f.first x
  first_half = full_same words bytes n.core l f.first n.gains v long

  second_half : Answers words bytes (HalfFrame.half words bytes c l f.first).core m f.second y
  second_half =
      subst (λ (k : Core). Answers words bytes k m f.second y) first_half.next
      (full_same words bytes x.core m f.second x.gains w first_half.long)

  pub frame_same : Answered words bytes n f (decode words bytes n f)
  unfolding decode turn Frame.decode Frame.report Frame.halves Frame.half Frame.samples Frame.half_samples Frame.excitation Frame.subframes
  frame_same =
      let a = first_half in
      let b = second_half in
      record {
        samples = rw (a.samples, b.samples);
        excitation = rw (a.first, a.second, b.first, b.second);
        subframes = rw (a.first, a.second, b.first, b.second);
        core = b.next;
        residuals = refl;
        long = b.long;
        lags = b.lags;
      }
