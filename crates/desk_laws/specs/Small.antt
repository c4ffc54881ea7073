-- Lists whose numbers lie below a bound in size, with and without a sign; floats of 32 bits. What the definitions' lists are made by keeps to it.
use Rattle.std.specs.Prelude.{ℕ, zero, suc, ◌+◌, ◌/◌, ◌^◌, ◌<◌, ◌≡◌, List, [], ◌∷◌, ◌++◌, ℤ, pos, length, get_or, drop, set, replicate}
use Rattle.std.proofs.Common.{arith, get_or-drop}
use Rattle.std.specs.Int.Signed.{mag}
use Rattle.std.proofs.lemmas.List.{length-replicate}
use Rattle.sequence.specs.Table.{table}
use Rattle.sequence.specs.Rewritten.{rewritten}
use Rattle.sequence.specs.Between.{Between}
use Rattle.fixed.specs.Fixed.{hi, trunc32}
use Rattle.fixed.specs.Wrap.{mag_wrap}
use Rattle.image.specs.Image.{Whole}

-- each is below B in size; beyond the end 0 stands
abbrev pub Small : ℕ → List ℤ → Type 0
Small B l = (k : ℕ) → mag (get_or l k (pos 0)) < B

pub small_set : (B : ℕ) (l : List ℤ) (i : ℕ) (x : ℤ) → Small B l → mag x < B → Small B (set l i x)
small_set B [] i x h p k = h k
small_set B (y ∷ l) zero x h p zero = p
small_set B (y ∷ l) zero x h p (suc k) = h (suc k)
small_set B (y ∷ l) (suc i) x h p zero = h 0
small_set B (y ∷ l) (suc i) x h p (suc k) = small_set B l i x (λ j. h (suc j)) p k

pub small_rewritten : (B : ℕ) (g : ℕ → List ℤ → ℤ) (start : ℕ) (l : List ℤ) (n : ℕ) → ((k : ℕ) (x : List ℤ) → mag (g k x) < B) → Small B l → Small B (rewritten g start l n)
unfolding rewritten
small_rewritten B g start l zero p h = h
small_rewritten B g start l (suc n) p h = small_set B (rewritten g start l n) (start + n) (g n (rewritten g start l n)) (small_rewritten B g start l n p h) (p n (rewritten g start l n))

pub small_drop : (B n : ℕ) (l : List ℤ) → Small B l → Small B (drop n l)
small_drop B n l h k = rw (get_or-drop n l k (pos 0)) (h (n + k))

pub small_append : (B : ℕ) (a b : List ℤ) → Small B a → Small B b → Small B (a ++ b)
small_append B [] b p q k = q k
small_append B (x ∷ a) b p q zero = p 0
small_append B (x ∷ a) b p q (suc k) = small_append B a b (λ j. p (suc j)) q k

pub small_one : (B : ℕ) (x : ℤ) → mag x < B → Small B (x ∷ [])
small_one B x h zero = h
small_one B x h (suc k) = omega arith

pub small_zeros : (B n : ℕ) → 0 < B → Small B (replicate n (pos 0))
small_zeros B zero h k = h
small_zeros B (suc n) h zero = h
small_zeros B (suc n) h (suc k) = small_zeros B n h k

pub small_table : (B : ℕ) (f : ℕ → ℤ) (n : ℕ) → 0 < B → ((k : ℕ) → mag (f k) < B) → Small B (table f n)
unfolding table
small_table B f zero z h = λ k. z
small_table B f (suc n) z h = small_append B (table f n) (f n ∷ []) (small_table B f n z h) (small_one B (f n) (h n))

-- ---- one number
pub small_hi : (z : ℤ) → mag (hi z) < 32768
small_hi z = let h : mag (hi z) + mag (hi z) < 65536 = mag_wrap 16 _ in omega arith

pub small_trunc32 : (z : ℤ) → mag (trunc32 z) < 2147483648
small_trunc32 z = let h : mag (trunc32 z) + mag (trunc32 z) < 4294967296 = mag_wrap 32 _ in omega arith

pub small_between : (low top : ℕ) (z : ℤ) → Between low top z → top < 32768 → mag z < 32768
small_between low top z b h =
    let m = b.most in
    rw b.is (omega arith)

-- ---- as long as an array, and as wide as its numbers
pub whole : (w n : ℕ) (l : List ℤ) → length l ≡ n → Small (256 ^ w / 2) l → Whole w n l
whole w n l e h = (e, λ k p. h k)

pub whole_small : (w n : ℕ) (l : List ℤ) → Whole w n l → 0 < 256 ^ w / 2 → Small (256 ^ w / 2) l
whole_small w zero [] h z k = z
whole_small w (suc n) [] h z k = z
whole_small w zero (x ∷ l) h z k = let e = h.0 in absurd (omega arith)
whole_small w (suc n) (x ∷ l) h z zero = h.1 0 (omega arith)
whole_small w (suc n) (x ∷ l) h z (suc k) = let e = h.0 in whole_small w n l (omega arith, λ j p. h.1 (suc j) (omega arith)) z k

pub whole_zeros : (w n : ℕ) → 0 < 256 ^ w / 2 → Whole w n (replicate n (pos 0))
whole_zeros w n z = whole w n (replicate n (pos 0)) (length-replicate n (pos 0)) (small_zeros (256 ^ w / 2) n z)
