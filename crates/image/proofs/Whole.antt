-- The parts together: what a state that was read is.
use Prim.Native.Nat.{ℕ, ◌+◌, ◌*◌}
use mathlib.Core.Path.{◌≡◌, sym, ap, ◌∙◌}
use mathlib.Core.List.{List, map}
use native.Mathlib.Omega.{arith}
use lib.IntN.{ℤ, pos}
use lib.Ieee.{Float, binary32, of_bits}
use lib.ListN.{get_or}
use Rattle.image.specs.Bytes.{number_at}
use Rattle.image.specs.Parts.{numbers_at, cut, length_numbers, numbers_at_lem}
use Rattle.image.specs.Image.{layout, signed, of_numbers, state}
use Rattle.image.specs.Signs.{get_or_mapped}

-- an array of one word, and a byte
one_word : (b : List ℕ) (at : ℕ) (l : List ℤ) → l ≡ map (signed 2) (numbers_at 2 1 b at) → get_or l 0 (pos 0) ≡ signed 2 (get_or (numbers_at 2 1 b at) 0 0)
one_word b at l e = let n = length_numbers 2 1 b at in ap (λ (x : List ℤ). get_or x 0 (pos 0)) e ∙ get_or_mapped (signed 2) (numbers_at 2 1 b at) 0 0 (pos 0) (omega arith)

one_byte : (b : List ℕ) (at : ℕ) → get_or b at 0 ≡ get_or (numbers_at 1 1 b at) 0 0
unfolding number_at
one_byte b at =
    let e : at + 1 * 0 ≡ at = omega arith in
    sym (numbers_at_lem 1 1 b at 0 (omega arith) ∙ rw e (omega arith))

module _ (b : List ℕ) (lsp excitation memory sharpen lag fir iir : List ℤ) (residuals gains : List Float) (x y : ℤ) where
  pub state_is : x ≡ get_or sharpen 0 (pos 0) → y ≡ get_or lag 0 (pos 0) → lsp ≡ map (signed 2) (numbers_at 2 10 b 0) → excitation ≡ map (signed 2) (numbers_at 2 154 b 20) → memory ≡ map (signed 2) (numbers_at 2 10 b 328) → sharpen ≡ map (signed 2) (numbers_at 2 1 b 348) → lag ≡ map (signed 2) (numbers_at 2 1 b 350) → fir ≡ map (signed 2) (numbers_at 2 6 b 352) → iir ≡ map (signed 4) (numbers_at 4 6 b 364) → residuals ≡ map (of_bits binary32) (numbers_at 4 30 b 388) → gains ≡ map (of_bits binary32) (numbers_at 4 4 b 508) → record { lsp = lsp; excitation = excitation; memory = memory; sharpen_fixed = x; last_half_lag = y; fir = fir; iir = iir; residuals = residuals; gains = gains; mark = get_or b 524 0; sure = get_or b 525 0 } ≡ state b
  unfolding state of_numbers cut layout
  state_is p q a c d e f g h i j = rw (p ∙ one_word b 348 sharpen e, q ∙ one_word b 350 lag f, one_byte b 524, one_byte b 525, a, c, d, g, h, i, j)
