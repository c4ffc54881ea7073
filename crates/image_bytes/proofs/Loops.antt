-- Loops that store numbers byte after byte.
use Prim.Native.Nat.{ℕ, suc, ◌+◌, ◌*◌, ◌/◌, ◌%◌, ◌<◌, ◌≤◌}
use mathlib.Core.Path.{◌≡◌, refl, sym, ap, ◌∙◌}
use mathlib.Core.List.{List, [], ◌∷◌, ◌++◌, map}
use native.Mathlib.Numerals.{add-one}
use native.Mathlib.Nat.{add-zero}
use native.Mathlib.Omega.{arith}
use lib.IntN.{ℤ, pos, negsuc}
use lib.ListN.{length, get_or, take, set, length-map}
use lib.Seq.{sets, length-sets, length-take-le, take_all, take-suc}
use Rattle.tables.specs.Tables as Tables
use Rattle.tables.specs.Tables.{unsigned_word}
use Rattle.image.specs.Bytes.{bytes_of}
use Rattle.image.specs.Parts.{bytes_of_all, length_all, all_append, all_one}
use Rattle.image.specs.Image.{unsigned}
use Rattle.image.specs.Signs.{get_or_mapped}

-- one run of stores after another
sets_append : (s t l : List ℕ) (i : ℕ) → sets (sets l i s) (i + length s) t ≡ sets l i (s ++ t)
sets_append [] t l i = rw add-zero
sets_append (a ∷ s) t l i = let e : i + suc (length s) ≡ suc i + length s = omega arith in rw e (sets_append s t (set l i a) (suc i))

-- ---- the bytes of one number
pub two_stores : (l : List ℕ) (i n : ℕ) → n < 65536 → set (set l i (n % 256)) (i + 1) (n / 256) ≡ sets l i (bytes_of 2 n)
unfolding bytes_of
two_stores l i n h =
    let p : i + 1 ≡ suc i = omega arith in
    let q : n / 256 % 256 ≡ n / 256 = omega arith in
    rw (p, q)

pub four_stores : (l : List ℕ) (i n : ℕ) → n < 4294967296 → set (set (set (set l i (n % 256)) (i + 1) (n / 256 % 256)) (i + 2) (n / 65536 % 256)) (i + 3) (n / 16777216) ≡ sets l i (bytes_of 4 n)
unfolding bytes_of
four_stores l i n h =
    let p : i + 1 ≡ suc i = omega arith in
    let q : i + 2 ≡ suc (suc i) = omega arith in
    let r : i + 3 ≡ suc (suc (suc i)) = omega arith in
    let a : n / 256 / 256 ≡ n / 65536 = omega arith in
    let b : n / 65536 / 256 ≡ n / 16777216 = omega arith in
    let c : n / 16777216 % 256 ≡ n / 16777216 = omega arith in
    rw (p, q, r, a, b, c)

-- ---- a loop that stores f of each element of l from place «at» on, w bytes each
module _ {A : Type 0} (f : A → ℕ) (d : A) (w : ℕ) (l : List A) (room₀ : List ℕ) (at : ℕ) where
  -- what it has done by turn k
  abbrev pub Stored : List ℕ → ℕ → Type 0
  Stored room k = (k ≤ length l) × (length room ≡ length room₀) × (room ≡ sets room₀ at (bytes_of_all w (take k (map f l))))

  pub stored_none : Stored room₀ 0
  unfolding bytes_of_all
  stored_none = (omega arith, refl, refl)

  -- a turn of the loop
  pub stored_more : (room new : List ℕ) (k n : ℕ) → Stored room k → k < length l → n ≡ f (get_or l k d) → new ≡ sets room (at + w * k) (bytes_of w n) → Stored new (k + 1)
  stored_more room new k n i h q e =
      let ns = map f l in
      let z = length-map l f in
      let b = bytes_of_all w (take k ns) in
      let m : at + w * k ≡ at + length b = ap (λ (j : ℕ). at + j) (sym (length_all w (take k ns) ∙ ap (λ (j : ℕ). w * j) (length-take-le k ns (omega arith)))) in
      let v : get_or ns k 0 ≡ n = get_or_mapped f l k d 0 h ∙ sym q in
      let t : take (k + 1) ns ≡ take k ns ++ (n ∷ []) = rw (add-one k, take-suc ns k 0 (omega arith), v) in
      let g : bytes_of_all w (take (k + 1) ns) ≡ b ++ bytes_of w n = rw (t, all_append, all_one) in (
        omega arith,
        ap length e ∙ length-sets room (at + w * k) (bytes_of w n) ∙ i.1,
        e ∙ ap (λ (r : List ℕ). sets r (at + w * k) (bytes_of w n)) i.2 ∙ ap (λ (j : ℕ). sets (sets room₀ at b) j (bytes_of w n)) m ∙ sets_append b (bytes_of w n) room₀ at ∙ ap (sets room₀ at) (sym g),
      )

  pub stored_end : (room : List ℕ) (k : ℕ) → Stored room k → length l ≤ k → room ≡ sets room₀ at (bytes_of_all w (map f l))
  stored_end room k i h = let z = length-map l f in i.2 ∙ ap (λ (r : List ℕ). sets room₀ at (bytes_of_all w r)) (take_all k (map f l) (omega arith))

-- a word without its sign
pub word_is : (words : List ℤ) (k : ℕ) → unsigned_word words k ≡ unsigned 2 (get_or words k (pos 0))
unfolding unsigned
word_is words k = by (get_or words k (pos 0))
  where
    by : (z : ℤ) → Tables.unsigned z ≡ unsigned 2 z
    by (pos n) = refl
    by (negsuc n) = refl
