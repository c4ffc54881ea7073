-- The image of a state: its parts in document 01's order, each number by its bytes, the lowest first, and a float by its bits.
use Rattle.std.specs.Prelude.{ℕ, ◌+◌, ◌-◌, ◌*◌, ◌/◌, ◌^◌, ◌<◌, ◌≡◌, refl, List, [], ◌∷◌, map, cond, false, T, ltb, ℤ, pos, negsuc, Float, length, get_or}
use Rattle.std.specs.Int.Signed.{mag}
use Rattle.std.specs.Float.{nan, binary32}
use Rattle.std.specs.Float.Ieee.{of_bits, to_bits, nan_bits, fits}
use Rattle.state.specs.declared.State.{State}
use Rattle.image.specs.Bytes.{number_at}
use Rattle.image.specs.Parts.{Part, part, size, join, cut}

-- how many bytes an image has
abbrev pub SIZE : ℕ
SIZE = 526

-- the parts in their order, each with how many numbers it has and of how many bytes: LSP, excitation, synthesis memory, sharpen_fixed, last half lag,
-- the output filter's words and its numbers of 32 bits, residuals, gains, mark, sure
unfoldable pub layout : List Part
layout = part 10 2 ∷ part 154 2 ∷ part 10 2 ∷ part 1 2 ∷ part 1 2 ∷ part 6 2 ∷ part 6 4 ∷ part 30 4 ∷ part 4 4 ∷ part 1 1 ∷ part 1 1 ∷ []

size_is : size layout ≡ SIZE
unfolding size layout
size_is = refl

-- a signed number of w bytes as one without a sign, and back: two's complement
unfoldable pub unsigned : ℕ → ℤ → ℕ
unsigned w (pos n) = n
unsigned w (negsuc n) = 256 ^ w - 1 - n

unfoldable pub signed : ℕ → ℕ → ℤ
signed w n = cond (ltb n (256 ^ w / 2)) (pos n) (negsuc (256 ^ w - 1 - n))

-- -1, -2 and the lowest
below_zero : (unsigned 2 (negsuc 0) ≡ 65535) × (unsigned 4 (negsuc 1) ≡ 4294967294) × (signed 2 32768 ≡ negsuc 32767) × (signed 2 32767 ≡ pos 32767)
unfolding unsigned signed
below_zero = (refl, refl, refl, refl)

-- a state's numbers, part by part
unfoldable pub numbers : State → List (List ℕ)
numbers s =
    map (unsigned 2) s.lsp
    ∷ map (unsigned 2) s.excitation
    ∷ map (unsigned 2) s.memory
    ∷ (unsigned 2 s.sharpen_fixed ∷ [])
    ∷ (unsigned 2 s.last_half_lag ∷ [])
    ∷ map (unsigned 2) s.fir
    ∷ map (unsigned 4) s.iir
    ∷ map (to_bits binary32) s.residuals
    ∷ map (to_bits binary32) s.gains
    ∷ (s.mark ∷ [])
    ∷ (s.sure ∷ [])
    ∷ []

-- the state of such numbers
unfoldable pub of_numbers : List (List ℕ) → State
of_numbers l =
    record {
      lsp = map (signed 2) (get_or l 0 []);
      excitation = map (signed 2) (get_or l 1 []);
      memory = map (signed 2) (get_or l 2 []);
      sharpen_fixed = signed 2 (get_or (get_or l 3 []) 0 0);
      last_half_lag = signed 2 (get_or (get_or l 4 []) 0 0);
      fir = map (signed 2) (get_or l 5 []);
      iir = map (signed 4) (get_or l 6 []);
      residuals = map (of_bits binary32) (get_or l 7 []);
      gains = map (of_bits binary32) (get_or l 8 []);
      mark = get_or (get_or l 9 []) 0 0;
      sure = get_or (get_or l 10 []) 0 0;
    }

-- the image of a state
unfoldable pub image : State → List ℕ
image s = join layout (numbers s)

-- the state that an image holds
unfoldable pub state : List ℕ → State
state b = of_numbers (cut layout b 0)

-- ---- what the theorems speak of
-- n numbers of w bytes with a sign; n floats of 32 bits
abbrev pub Whole : ℕ → ℕ → List ℤ → Type 0
Whole w n l = (length l ≡ n) × ((k : ℕ) → k < n → mag (get_or l k (pos 0)) < 256 ^ w / 2)

abbrev pub Single : ℕ → List Float → Type 0
Single n l = (length l ≡ n) × ((k : ℕ) → k < n → T (fits binary32 (get_or l k nan)))

-- what a program can hold in a State: its arrays are as long, and its numbers as wide, as the struct says
pub record Held (s : State) : Type 0 where
  pub lsp_held : Whole 2 10 s.lsp
  pub excitation_held : Whole 2 154 s.excitation
  pub memory_held : Whole 2 10 s.memory
  pub sharpen_held : mag s.sharpen_fixed < 32768
  pub lag_held : mag s.last_half_lag < 32768
  pub fir_held : Whole 2 6 s.fir
  pub iir_held : Whole 4 6 s.iir
  pub residuals_held : Single 30 s.residuals
  pub gains_held : Single 4 s.gains
  pub mark_held : s.mark < 256
  pub sure_held : s.sure < 256

-- none of an image's 34 floats is a NaN's pattern
abbrev pub NoNans : List ℕ → Type 0
NoNans b = (k : ℕ) → k < 34 → nan_bits binary32 (number_at 4 b (388 + 4 * k)) ≡ false
