-- Worked images: the all-zero state's, one's that has a number in every part, and the first bytes at the start of a call.
use Rattle.std.specs.Prelude.{ℕ, ◌+◌, ◌*◌, ◌≡◌, refl, List, [], ◌∷◌, ◌++◌, ℤ, pos, negsuc, Float, replicate, take}
use Rattle.std.specs.Float.{binary32}
use Rattle.std.specs.Float.Ieee.{of_bits, to_bits}
use Rattle.state.specs.declared.State.{State}
use Rattle.state.specs.State.{all_zero}
use Rattle.image.specs.Bytes.{bytes_of}
use Rattle.image.specs.Parts.{Part, bytes_of_all, join}
use Rattle.image.specs.Image.{SIZE, layout, unsigned, numbers, image}

-- where each part begins: the places that document 01's order gives
unfoldable starts : List Part → ℕ → List ℕ
starts [] at = []
starts (p ∷ ps) at = at ∷ starts ps (at + p.width * p.count)

places : starts layout 0 ≡ 0 ∷ 20 ∷ 328 ∷ 348 ∷ 350 ∷ 352 ∷ 364 ∷ 388 ∷ 508 ∷ 524 ∷ 525 ∷ []
unfolding starts layout
places = refl

-- zeros
pub zero_image : image all_zero ≡ replicate SIZE 0
unfolding image join layout numbers all_zero bytes_of_all bytes_of unsigned of_bits to_bits
zero_image = refl

-- a state whose parts begin with -2, 3, -4, 5, -6, 7, -8, 1.0, -2.0, and whose mark is 2, sure 1
abbrev marked : State
marked =
    record {
      lsp = negsuc 1 ∷ replicate 9 (pos 0);
      excitation = pos 3 ∷ replicate 153 (pos 0);
      memory = negsuc 3 ∷ replicate 9 (pos 0);
      sharpen_fixed = pos 5;
      last_half_lag = negsuc 5;
      fir = pos 7 ∷ replicate 5 (pos 0);
      iir = negsuc 7 ∷ replicate 5 (pos 0);
      residuals = of_bits binary32 0x3f80_0000 ∷ replicate 29 (of_bits binary32 0);
      gains = of_bits binary32 0xc000_0000 ∷ replicate 3 (of_bits binary32 0);
      mark = 2;
      sure = 1;
    }

marked_image : image marked ≡ (254 ∷ 255 ∷ []) ++ replicate 18 0 ++ (3 ∷ 0 ∷ []) ++ replicate 306 0 ++ (252 ∷ 255 ∷ []) ++ replicate 18 0 ++ (5 ∷ 0 ∷ []) ++ (250 ∷ 255 ∷ []) ++ (7 ∷ 0 ∷ []) ++ replicate 10 0 ++ (248 ∷ 255 ∷ 255 ∷ 255 ∷ []) ++ replicate 20 0 ++ (0 ∷ 0 ∷ 128 ∷ 63 ∷ []) ++ replicate 116 0 ++ (0 ∷ 0 ∷ 0 ∷ 192 ∷ []) ++ replicate 12 0 ++ (2 ∷ 1 ∷ [])
unfolding image join layout numbers bytes_of_all bytes_of unsigned of_bits to_bits
marked_image = refl

-- a call's start, where the LSPs are 0: sharpen_fixed is 3277, 12 · 256 + 205, and the last half lag 60
begun : (fir iir : List ℤ) (residuals gains : List Float) (m w : ℕ)
    → take 352 (image (record { lsp = replicate 10 (pos 0); excitation = replicate 154 (pos 0); memory = replicate 10 (pos 0); sharpen_fixed = pos 3277; last_half_lag = pos 60; fir = fir; iir = iir; residuals = residuals; gains = gains; mark = m; sure = w }))
    ≡ replicate 348 0 ++ (205 ∷ 12 ∷ 60 ∷ 0 ∷ [])
unfolding image join layout numbers bytes_of_all bytes_of unsigned
begun fir iir residuals gains m w = refl
