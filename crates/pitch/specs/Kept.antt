-- What prediction and sharpening leave as it was.
use native.Mathlib.Omega.{arith}
use Rattle.std.specs.Prelude.{◌≡◌, List, ℕ, ◌-◌, ◌≤◌, ℤ, length}
use Rattle.std.proofs.Common.{length-append, length-drop}
use Rattle.sequence.specs.Rewritten.{rewritten, length_rewritten}
use Rattle.pitch.specs.declared.Lag.{Lag}
use Rattle.pitch.specs.Pitch.{predict, first, guarded, sharpen}

-- ---- prediction: the length, the past, and what stands behind the 80 samples
module _ (taps exc : List ℤ) (start : ℕ) (l : Lag) where
  pub length_predict : length (predict taps exc start l) ≡ length exc
  unfolding predict
  length_predict = length_rewritten _ start exc 80

-- ---- sharpening: the length, and all of it where the first sharpened sample is past the end
module _ (taps code : List ℤ) (l : Lag) (gain : ℤ) where
  pub length_sharpen : length (sharpen taps code l gain) ≡ length code
  unfolding sharpen guarded
  length_sharpen = simp (length-drop, length_rewritten, length-append) (omega arith)

  pub unsharpened : 80 ≤ first l → sharpen taps code l gain ≡ code
  unfolding sharpen guarded rewritten
  unsharpened h = let e : 80 - first l ≡ 0 = omega arith in rw e
