-- What a half of core.rs answers, beside ours.
use Rattle.std.specs.Prelude.{◌≡◌, List, ℕ, ℤ, length}
use Rattle.bits.specs.declared.HalfParams.{HalfParams}
use Rattle.half.specs.declared.Core.{Core}
use Rattle.half.specs.Core as Spec
use Rattle.full.specs.Half.{Decoded160, restricted}

pub record Answers (words : List ℤ) (bytes : List ℕ) (c : Core) (lsp : List ℤ) (p : HalfParams) (d : Decoded160) : Type 0 where
  pub samples : d.out ≡ Spec.samples words bytes c lsp p
  pub first : d.first ≡ (Spec.half words bytes c lsp p).first
  pub second : d.second ≡ (Spec.half words bytes c lsp p).second
  pub next : restricted d.core d.gains ≡ (Spec.half words bytes c lsp p).core
  pub long : length d.core.excitation ≡ 314
  pub lags : d.core.previous_lag ≡ d.core.last_half_lag
