-- A state has one image, 526 bytes long. The image of a state, read again, is that state; and an image, read and written, is the same bytes, where none of its
-- 34 floats is a NaN: the language has one NaN, and its pattern is written for each.
use Rattle.std.specs.Prelude.{ℕ, zero, suc, ◌+◌, ◌*◌, ◌^◌, ◌<◌, ◌≤◌, ◌≡◌, List, [], ◌∷◌, map, Float, ℤ, length, get_or}
use Rattle.std.proofs.Math.Path.{refl, ap}
use Rattle.std.proofs.Common.{sym, ◌∙◌, arith}
use Rattle.std.specs.Float.{binary32}
use Rattle.std.specs.Float.Ieee.{to_bits, of_bits}
use Rattle.std.proofs.lemmas.List.{length-map}
use Rattle.sequence.specs.Table.{table}
use Rattle.state.specs.declared.State.{State}
use Rattle.image.specs.Bytes.{Bytes}
use Rattle.image.specs.Parts.{Part, part, Below, Fit, join, cut, size, numbers_at, none, more, length_join, join_bytes, cut_join, join_cut, length_numbers, numbers_at_lem, numbers_below}
use Rattle.image.specs.Image.{SIZE, Whole, Single, layout, unsigned, signed, numbers, of_numbers, image, state, Held, NoNans}
use Rattle.image.specs.Signs.{signed_back, unsigned_back, unsigned_below, signed_held, whole_back, whole_below, single_back, single_below, numbers_back, patterns_back, whole_of, single_of}

-- ---- a state's numbers have room in the parts
alone : (w n : ℕ) → n < 256 ^ w → Below w (n ∷ [])
alone w n h zero p = h
alone w n h (suc k) p = absurd (omega arith)

module _ {ps : List Part} {ns : List (List ℕ)} (f : Fit ps ns) where
  whole : (w n : ℕ) (l : List ℤ) → Whole w n l → Fit (part n w ∷ ps) (map (unsigned w) l ∷ ns)
  whole w n l h = more (length-map l (unsigned w) ∙ h.0) (whole_below w n l h) f

  single : (n : ℕ) (l : List Float) → Single n l → Fit (part n 4 ∷ ps) (map (to_bits binary32) l ∷ ns)
  single n l h = more (length-map l (to_bits binary32) ∙ h.0) (single_below n l h) f

  one : (w n : ℕ) → n < 256 ^ w → Fit (part 1 w ∷ ps) ((n ∷ []) ∷ ns)
  one w n h = more refl (alone w n h) f

fit : (s : State) → Held s → Fit layout (numbers s)
unfolding layout numbers
fit s h =
    let z = one none 1 s.sure h.sure_held in
    let a = one z 1 s.mark h.mark_held in
    let b = single a 4 s.gains h.gains_held in
    let c = single b 30 s.residuals h.residuals_held in
    let d = whole c 4 6 s.iir h.iir_held in
    let e = whole d 2 6 s.fir h.fir_held in
    let f = one e 2 (unsigned 2 s.last_half_lag) (unsigned_below 2 s.last_half_lag h.lag_held) in
    let g = one f 2 (unsigned 2 s.sharpen_fixed) (unsigned_below 2 s.sharpen_fixed h.sharpen_held) in
    let i = whole g 2 10 s.memory h.memory_held in
    let j = whole i 2 154 s.excitation h.excitation_held in
    whole j 2 10 s.lsp h.lsp_held

-- ---- the image of a state
pub length_image : (s : State) → Held s → length (image s) ≡ SIZE
unfolding image size layout
length_image s h = length_join (fit s h)

pub image_bytes : (s : State) → Bytes (image s)
unfolding image
image_bytes s = join_bytes layout (numbers s)

numbers_state : (s : State) → Held s → of_numbers (numbers s) ≡ s
unfolding of_numbers numbers
numbers_state s h =
    rw (
      whole_back 2 10 s.lsp h.lsp_held,
      whole_back 2 154 s.excitation h.excitation_held,
      whole_back 2 10 s.memory h.memory_held,
      signed_back 2 s.sharpen_fixed h.sharpen_held,
      signed_back 2 s.last_half_lag h.lag_held,
      whole_back 2 6 s.fir h.fir_held,
      whole_back 4 6 s.iir h.iir_held,
      single_back 30 s.residuals h.residuals_held,
      single_back 4 s.gains h.gains_held,
    )

-- read again it is that state
pub state_back : (s : State) → Held s → state (image s) ≡ s
unfolding state image
state_back s h = ap of_numbers (cut_join (fit s h)) ∙ numbers_state s h

-- so no two states have the same image
pub image_one : (s t : State) → Held s → Held t → image s ≡ image t → s ≡ t
image_one s t h i e = sym (state_back s h) ∙ ap state e ∙ state_back t i

-- ---- an image
module _ (b : List ℕ) (h : Bytes b) where
  -- n numbers of w bytes from a place on, read as signed ones, as floats, and one of them alone
  read_whole : (w n at : ℕ) → Whole (suc w) n (map (signed (suc w)) (numbers_at (suc w) n b at))
  read_whole w n at = whole_of w n (numbers_at (suc w) n b at) (length_numbers (suc w) n b at) (numbers_below (suc w) n b h at)

  read_single : (n at : ℕ) → Single n (map (of_bits binary32) (numbers_at 4 n b at))
  read_single n at = single_of n (numbers_at 4 n b at) (length_numbers 4 n b at)

  one_below : (w at : ℕ) → get_or (numbers_at w 1 b at) 0 0 < 256 ^ w
  one_below w at = let e = length_numbers w 1 b at in numbers_below w 1 b h at 0 (omega arith)

  -- what an image holds, a program can hold
  pub state_held : Held (state b)
  unfolding state of_numbers cut layout
  state_held =
      record {
        lsp_held = read_whole 1 10 0;
        excitation_held = read_whole 1 154 20;
        memory_held = read_whole 1 10 328;
        sharpen_held = signed_held 1 (get_or (numbers_at 2 1 b 348) 0 0) (one_below 2 348);
        lag_held = signed_held 1 (get_or (numbers_at 2 1 b 350) 0 0) (one_below 2 350);
        fir_held = read_whole 1 6 352;
        iir_held = read_whole 3 6 364;
        residuals_held = read_single 30 388;
        gains_held = read_single 4 508;
        mark_held = one_below 1 524;
        sure_held = one_below 1 525;
      }

  -- as numbers again
  again : (w n at : ℕ) → map (unsigned w) (map (signed w) (numbers_at w n b at)) ≡ numbers_at w n b at
  again w n at = numbers_back w (numbers_at w n b at) (numbers_below w n b h at)

  alone_again : (w at : ℕ) → unsigned w (signed w (get_or (numbers_at w 1 b at) 0 0)) ≡ get_or (numbers_at w 1 b at) 0 0
  alone_again w at = unsigned_back w (get_or (numbers_at w 1 b at) 0 0) (one_below w at)

  alone_is : (w at : ℕ) → get_or (numbers_at w 1 b at) 0 0 ∷ [] ≡ numbers_at w 1 b at
  unfolding numbers_at table
  alone_is w at = refl

  module _ (q : NoNans b) where
    float_again : (n first at : ℕ) → first + n ≤ 34 → at ≡ 388 + 4 * first → map (to_bits binary32) (map (of_bits binary32) (numbers_at 4 n b at)) ≡ numbers_at 4 n b at
    float_again n first at l e =
        patterns_back (numbers_at 4 n b at) (numbers_below 4 n b h at)
        (λ k p.
        let m = length_numbers 4 n b at in
        let r : at + 4 * k ≡ 388 + 4 * (first + k) = omega arith in
        rw (numbers_at_lem 4 n b at k (omega arith), r) (q (first + k) (omega arith)))

    state_numbers : numbers (state b) ≡ cut layout b 0
    unfolding state of_numbers numbers cut layout
    state_numbers =
        rw (again 2 10 0, again 2 154 20, again 2 10 328, alone_again 2 348, alone_is 2 348, alone_again 2 350, alone_is 2 350, again 2 6 352, again 4 6 364, float_again 30 0 388 (omega arith) refl, float_again 4 30 508 (omega arith) refl, alone_is 1 524, alone_is 1 525)

    -- an image that is read and written is the same bytes
    pub image_back : length b ≡ SIZE → image (state b) ≡ b
    unfolding image size layout
    image_back l = ap (join layout) state_numbers ∙ join_cut layout b h 0 l
