-- Signed numbers and floats as numbers without a sign, one and many.
use Rattle.std.specs.Prelude.{ℕ, zero, suc, ◌-◌, ◌*◌, ◌/◌, ◌^◌, ◌<◌, ◌≡◌, refl, List, [], ◌∷◌, map, Bool, true, false, cond, not, T, ltb, ℤ, pos, negsuc, Float, length, get_or}
use Rattle.std.proofs.Common.{sym, ap, ◌∙◌, subst, pow-suc, arith, lt-ltb, le-ltb, ltb-true, ltb-false}
use Rattle.std.specs.Int.Signed.{mag}
use Rattle.std.specs.Float.{nan, binary32}
use Rattle.std.specs.Float.Ieee.{of_bits, to_bits, nan_bits}
use Rattle.std.specs.Float.Ieee.Bits.{of_bits-to_bits, to_bits-of_bits, to_bits-lt, of_bits-fits, nan_bits_is}
use Rattle.std.proofs.lemmas.List.{length-map}
use Rattle.image.specs.Parts.{Below}
use Rattle.image.specs.Image.{unsigned, signed, Whole, Single}

-- ---- one number
pub signed_back : (w : ℕ) (z : ℤ) → mag z < 256 ^ w / 2 → signed w (unsigned w z) ≡ z
unfolding signed unsigned
signed_back w (pos n) h = rw (lt-ltb n (256 ^ w / 2) h)
signed_back w (negsuc n) h = rw (le-ltb (256 ^ w - 1 - n) (256 ^ w / 2) (omega arith)) (ap negsuc (omega arith))

pub unsigned_back : (w n : ℕ) → n < 256 ^ w → unsigned w (signed w n) ≡ n
unfolding signed unsigned
unsigned_back w n h = by (ltb n (256 ^ w / 2))
  where
    by : (t : Bool) → unsigned w (cond t (pos n) (negsuc (256 ^ w - 1 - n))) ≡ n
    by true = refl
    by false = omega arith

pub unsigned_below : (w : ℕ) (z : ℤ) → mag z < 256 ^ w / 2 → unsigned w z < 256 ^ w
unfolding unsigned
unsigned_below w (pos n) h = omega arith
unsigned_below w (negsuc n) h = omega arith

pub signed_held : (w n : ℕ) → n < 256 ^ suc w → mag (signed (suc w) n) < 256 ^ suc w / 2
unfolding signed
signed_held w n h = by (ltb n (256 ^ suc w / 2)) refl
  where
    by : (t : Bool) → ltb n (256 ^ suc w / 2) ≡ t → mag (cond t (pos n) (negsuc (256 ^ suc w - 1 - n))) < 256 ^ suc w / 2
    by true e = ltb-true n (256 ^ suc w / 2) e
    by false e =
        let l = ltb-false n (256 ^ suc w / 2) e in
        let p : 256 ^ suc w ≡ 256 ^ w * 256 = pow-suc 256 w in
        omega arith

-- ---- many
module _ {A B : Type 0} where
  -- what stands at a place of a list, each element of which was changed by f
  pub get_or_mapped : (f : A → B) (l : List A) (k : ℕ) (d : A) (e : B) → k < length l → get_or (map f l) k e ≡ f (get_or l k d)
  get_or_mapped f [] k d e h = absurd (omega arith)
  get_or_mapped f (x ∷ l) zero d e h = refl
  get_or_mapped f (x ∷ l) (suc k) d e h = get_or_mapped f l k d e (omega arith)

  -- g takes f back at each element
  pub map_back : (f : A → B) (g : B → A) (l : List A) (d : A) → ((k : ℕ) → k < length l → g (f (get_or l k d)) ≡ get_or l k d) → map g (map f l) ≡ l
  map_back f g [] d h = refl
  map_back f g (x ∷ l) d h = rw (h 0 (omega arith), map_back f g l d (λ k p. h (suc k) (omega arith)))

module _ (w n : ℕ) (l : List ℤ) (h : Whole w n l) where
  pub whole_back : map (signed w) (map (unsigned w) l) ≡ l
  whole_back = map_back (unsigned w) (signed w) l (pos 0) (λ k p. let e = h.0 in signed_back w (get_or l k (pos 0)) (h.1 k (omega arith)))

  pub whole_below : Below w (map (unsigned w) l)
  whole_below k p =
      let e = h.0 in
      let m = length-map l (unsigned w) in
      rw (get_or_mapped (unsigned w) l k (pos 0) 0 (omega arith)) (unsigned_below w (get_or l k (pos 0)) (h.1 k (omega arith)))

module _ (n : ℕ) (l : List Float) (h : Single n l) where
  pub single_back : map (of_bits binary32) (map (to_bits binary32) l) ≡ l
  single_back = map_back (to_bits binary32) (of_bits binary32) l nan (λ k p. let e = h.0 in of_bits-to_bits binary32 (get_or l k nan) (h.1 k (omega arith)))

  pub single_below : Below 4 (map (to_bits binary32) l)
  single_below k p =
      let e = h.0 in
      let m = length-map l (to_bits binary32) in
      rw (get_or_mapped (to_bits binary32) l k nan 0 (omega arith)) (to_bits-lt binary32 (get_or l k nan) (h.1 k (omega arith)))

-- numbers of w bytes, read as signed ones and back; and as floats, where none is a NaN
pub numbers_back : (w : ℕ) (l : List ℕ) → Below w l → map (unsigned w) (map (signed w) l) ≡ l
numbers_back w l h = map_back (signed w) (unsigned w) l 0 (λ k p. unsigned_back w (get_or l k 0) (h k p))

pub patterns_back : (l : List ℕ) → Below 4 l → ((k : ℕ) → k < length l → nan_bits binary32 (get_or l k 0) ≡ false) → map (to_bits binary32) (map (of_bits binary32) l) ≡ l
patterns_back l h q =
    map_back (of_bits binary32) (to_bits binary32) l 0
    (λ k p. to_bits-of_bits binary32 (get_or l k 0) (h k p) (subst (λ (b : Bool). T (not b)) (sym (sym (nan_bits_is binary32 (get_or l k 0)) ∙ q k p)) tt))

-- what they are read as, a program can hold
pub whole_of : (w n : ℕ) (l : List ℕ) → length l ≡ n → Below (suc w) l → Whole (suc w) n (map (signed (suc w)) l)
whole_of w n l e h = (length-map l (signed (suc w)) ∙ e, λ k p. rw (get_or_mapped (signed (suc w)) l k 0 (pos 0) (omega arith)) (signed_held w (get_or l k 0) (h k (omega arith))))

pub single_of : (n : ℕ) (l : List ℕ) → length l ≡ n → Single n (map (of_bits binary32) l)
single_of n l e = (length-map l (of_bits binary32) ∙ e, λ k p. rw (get_or_mapped (of_bits binary32) l k 0 nan (omega arith)) (of_bits-fits binary32 (get_or l k 0)))
