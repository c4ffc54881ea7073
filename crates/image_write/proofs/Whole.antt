-- The parts together: what a room is in which every part was stored.
use Prim.Native.Nat.{ℕ, ◌+◌, ◌*◌, ◌%◌, ◌<◌, ◌≤◌}
use mathlib.Core.Path.{◌≡◌, refl, sym, ap, ◌∙◌}
use mathlib.Core.List.{List, [], ◌∷◌, ◌++◌, map, append_assoc}
use native.Mathlib.Omega.{arith}
use lib.Ieee.{binary32, to_bits}
use lib.ListN.{length, take, drop, set, length-map, length-append}
use lib.Seq.{sets, sets-eq, length-sets, take_all, take_at}
use Rattle.state.specs.declared.State.{State}
use Rattle.image.specs.Bytes.{bytes_of}
use Rattle.image.specs.Parts.{bytes_of_all, join, length_all}
use Rattle.image.specs.Image.{layout, unsigned, numbers, image}

-- parts that are written one behind the other: f stands in front
pub record Front (f : List ℕ) (at size : ℕ) (l : List ℕ) : Type 0 where
  pub long : length f ≡ at
  pub room : length l ≡ size
  pub front : take at l ≡ f

pub front_more : {f : List ℕ} {at size : ℕ} {l : List ℕ} → Front f at size l → (n : ℕ) (a m : List ℕ) → length a ≡ n → at + n ≤ size → m ≡ sets l at a → Front (f ++ a) (at + n) size m
front_more {f} {at} {size} {l} w n a m e h q =
    let x = w.long in
    let y = w.room in
    let z = length-append f a in
    record {
      long = omega arith;
      room = ap length q ∙ length-sets l at a ∙ w.room;
      front = ap (take (at + n)) (q ∙ sets-eq a l at (omega arith)) ∙ rw w.front (take_at (f ++ a) (drop (at + length a) l) (at + n) (omega arith));
    }

pub front_all : {f : List ℕ} {at size : ℕ} {l : List ℕ} → Front f at size l → size ≤ at → l ≡ f
front_all {f} {at} {size} {l} w h = let y = w.room in sym (take_all at l (omega arith)) ∙ w.front

-- how many bytes a part has
long : {A : Type 0} (f : A → ℕ) (w : ℕ) (l : List A) (n : ℕ) → length l ≡ n → length (bytes_of_all w (map f l)) ≡ w * n
long f w l n e = length_all w (map f l) ∙ ap (λ (k : ℕ). w * k) (length-map l f ∙ e)

alone : (m : ℕ) → m < 256 → bytes_of_all 1 (m ∷ []) ≡ m ∷ []
unfolding bytes_of_all bytes_of
alone m h = let e : m % 256 ≡ m = omega arith in rw e

-- how long a state's arrays are
pub record Long (s : State) : Type 0 where
  pub lsp_long : length s.lsp ≡ 10
  pub excitation_long : length s.excitation ≡ 154
  pub memory_long : length s.memory ≡ 10
  pub fir_long : length s.fir ≡ 6
  pub iir_long : length s.iir ≡ 6
  pub residuals_long : length s.residuals ≡ 30
  pub gains_long : length s.gains ≡ 4
  pub mark_small : s.mark < 256
  pub sure_small : s.sure < 256

module _ (s : State) (h : Long s) (r a b c d e f g i j : List ℕ) where
  pub image_is : length r ≡ 526 → a ≡ sets r 0 (bytes_of_all 2 (map (unsigned 2) s.lsp)) → b ≡ sets a 20 (bytes_of_all 2 (map (unsigned 2) s.excitation)) → c ≡ sets b 328 (bytes_of_all 2 (map (unsigned 2) s.memory)) → d ≡ sets c 348 (bytes_of_all 2 (unsigned 2 s.sharpen_fixed ∷ [])) → e ≡ sets d 350 (bytes_of_all 2 (unsigned 2 s.last_half_lag ∷ [])) → f ≡ sets e 352 (bytes_of_all 2 (map (unsigned 2) s.fir)) → g ≡ sets f 364 (bytes_of_all 4 (map (unsigned 4) s.iir)) → i ≡ sets g 388 (bytes_of_all 4 (map (to_bits binary32) s.residuals)) → j ≡ sets i 508 (bytes_of_all 4 (map (to_bits binary32) s.gains)) → set (set j 524 s.mark) 525 s.sure ≡ image s
  unfolding image join layout numbers
  image_is n ea eb ec ed ee ef eg ei ej =
      let w0 : Front [] 0 526 r = record { long = refl; room = n; front = refl } in
      let w1 = front_more w0 20 (bytes_of_all 2 (map (unsigned 2) s.lsp)) a (long (unsigned 2) 2 s.lsp 10 h.lsp_long) (omega arith) ea in
      let w2 = front_more w1 308 (bytes_of_all 2 (map (unsigned 2) s.excitation)) b (long (unsigned 2) 2 s.excitation 154 h.excitation_long) (omega arith) eb in
      let w3 = front_more w2 20 (bytes_of_all 2 (map (unsigned 2) s.memory)) c (long (unsigned 2) 2 s.memory 10 h.memory_long) (omega arith) ec in
      let w4 = front_more w3 2 (bytes_of_all 2 (unsigned 2 s.sharpen_fixed ∷ [])) d (length_all 2 (unsigned 2 s.sharpen_fixed ∷ [])) (omega arith) ed in
      let w5 = front_more w4 2 (bytes_of_all 2 (unsigned 2 s.last_half_lag ∷ [])) e (length_all 2 (unsigned 2 s.last_half_lag ∷ [])) (omega arith) ee in
      let w6 = front_more w5 12 (bytes_of_all 2 (map (unsigned 2) s.fir)) f (long (unsigned 2) 2 s.fir 6 h.fir_long) (omega arith) ef in
      let w7 = front_more w6 24 (bytes_of_all 4 (map (unsigned 4) s.iir)) g (long (unsigned 4) 4 s.iir 6 h.iir_long) (omega arith) eg in
      let w8 = front_more w7 120 (bytes_of_all 4 (map (to_bits binary32) s.residuals)) i (long (to_bits binary32) 4 s.residuals 30 h.residuals_long) (omega arith) ei in
      let w9 = front_more w8 16 (bytes_of_all 4 (map (to_bits binary32) s.gains)) j (long (to_bits binary32) 4 s.gains 4 h.gains_long) (omega arith) ej in
      let w10 = front_more w9 1 (s.mark ∷ []) (set j 524 s.mark) refl (omega arith) refl in
      let w11 = front_more w10 1 (s.sure ∷ []) (set (set j 524 s.mark) 525 s.sure) refl (omega arith) refl in
      front_all w11 (omega arith) ∙ rw (alone s.mark h.mark_small, alone s.sure h.sure_small) (simp append_assoc)
