-- Numbers and their binary digits, highest first: each gives the other back.
use Rattle.std.specs.Prelude.{◌≡◌, refl, List, [], ◌∷◌, ◌++◌, map, ℕ, zero, suc, ◌+◌, ◌*◌, ◌/◌, ◌%◌, ◌^◌, ◌<◌, length, get_or, take, drop}
use Rattle.std.proofs.Common.{sym, ap, ap₂, ◌∙◌, ⊎_elim, le_refl, div-lt_iff_lt-mul, mod-lt, mod-eq_of_lt, add_assoc, le_of_suc-le-suc, not-suc-le-zero, mul_assoc, add-mul, eq-or-lt_of_le, add-one, arith, lit<, shr-shr, pow_pos, length-append, take_at, drop_at}
use Rattle.std.proofs.lemmas.List.{map-append, length-map}
use Rattle.std.proofs.Math.Nat.{pow-succ'}
use Rattle.std.proofs.Math.Arith.{mod-mul}
use Rattle.bits.specs.Bits.{read, down, digits, spell, flat}

-- a list of digits
abbrev pub Digits : List ℕ → Type 0
Digits ds = (k : ℕ) → get_or ds k 0 < 2

-- each value is below 2 to its width
pub record Within (ws vs : List ℕ) : Type 0 where
  pub same : length vs ≡ length ws
  pub each : (k : ℕ) → k < length ws → get_or vs k 0 < 2 ^ get_or ws k 0

-- ---- one number

pub length_down : (n : ℕ) (f : ℕ → ℕ) → length (down n f) ≡ n
length_down zero f = refl
length_down (suc n) f = ap suc (length_down n f)

pub down_digits : (n : ℕ) (f : ℕ → ℕ) → ((k : ℕ) → f k < 2) → Digits (down n f)
down_digits zero f h k = lit< tt
down_digits (suc n) f h zero = h n
down_digits (suc n) f h (suc k) = down_digits n f h k

pub down_same : (n : ℕ) (f g : ℕ → ℕ) → ((k : ℕ) → k < n → f k ≡ g k) → down n f ≡ down n g
down_same zero f g h = refl
down_same (suc n) f g h = ap₂ ◌∷◌ (h n (le_refl (suc n))) (down_same n f g (λ k l. h k (omega arith)))

pub read_digits : (w a v : ℕ) → read a (digits w v) ≡ a * 2 ^ w + v % 2 ^ w
read_digits zero a v = omega arith
read_digits (suc w) a v =
    read_digits w (a * 2 + v / 2 ^ w % 2) v ∙ rw (pow-succ' 2 w, mod-mul v (lit< tt) (pow_pos w)) (simp (add-mul, mul_assoc, add_assoc))

-- what stands before the digits
pub read_high : (ds : List ℕ) (a : ℕ) → Digits ds → read a ds / 2 ^ length ds ≡ a
read_high [] a h = omega arith
read_high (d ∷ ds) a h =
    rw (← add-one (length ds), ← shr-shr (read (a * 2 + d) ds) (length ds) 1, read_high ds (a * 2 + d) (λ k. h (suc k))) (omega (arith, h zero))

pub read_lt : (ds : List ℕ) → Digits ds → read 0 ds < 2 ^ length ds
read_lt ds h =
    let small : read 0 ds < 1 * 2 ^ length ds = (div-lt_iff_lt-mul (pow_pos (length ds))).0 (omega (arith, read_high ds 0 h)) in
    omega arith

pub digits_read : (ds : List ℕ) (a : ℕ) → Digits ds → digits (length ds) (read a ds) ≡ ds
digits_read [] a h = refl
digits_read (d ∷ ds) a h =
    let high : read (a * 2 + d) ds / 2 ^ length ds ≡ a * 2 + d = read_high ds (a * 2 + d) (λ k. h (suc k)) in
    ap₂ ◌∷◌ (omega (arith, h zero)) (digits_read ds (a * 2 + d) (λ k. h (suc k)))

-- a digit of a number that is made of digits
pub read_digit : (w a : ℕ) (f : ℕ → ℕ) → ((k : ℕ) → f k < 2) → (k : ℕ) → k < w → read a (down w f) / 2 ^ k % 2 ≡ f k
read_digit zero a f h k l = absurd (not-suc-le-zero l)
read_digit (suc w) a f h k l =
    ⊎_elim
    (λ e.
    let high = read_high (down w f) (a * 2 + f w) (down_digits w f h) in
    rw e (omega (arith, h w, rw length_down at high)))
    (λ s. read_digit w (a * 2 + f w) f h k s)
    (eq-or-lt_of_le (le_of_suc-le-suc l))

-- ---- a number for each group of places

module _ (f : ℕ → ℕ) where
  abbrev pub at_places : List (List ℕ) → List ℕ
  at_places gs = map (λ (g : List ℕ). read 0 (map f g)) gs

  pub map_digits : ((i : ℕ) → f i < 2) → (l : List ℕ) → Digits (map f l)
  map_digits h [] k = lit< tt
  map_digits h (x ∷ l) zero = h x
  map_digits h (x ∷ l) (suc k) = map_digits h l k

  -- digits that spell these numbers are read as them
  pub read_spell : (gs : List (List ℕ)) (vs : List ℕ) → Within (map length gs) vs → map f (flat gs) ≡ spell (map length gs) vs → at_places gs ≡ vs
  read_spell [] [] w e = refl
  read_spell [] (v ∷ vs) w e = absurd (omega arith)
  read_spell (g ∷ gs) [] w e = absurd (omega arith)
  read_spell (g ∷ gs) (v ∷ vs) w e =
      let n : ℕ = length g in
      let x : map f g ++ map f (flat gs) ≡ digits n v ++ spell (map length gs) vs = sym (map-append f g (flat gs)) ∙ e in
      let front : map f g ≡ digits n v =
      rw (take_at (map f g) (map f (flat gs)) n (length-map g f), take_at (digits n v) (spell (map length gs) vs) n (length_down n _)) at (ap (take n) x) in
      let back : map f (flat gs) ≡ spell (map length gs) vs =
      rw (drop_at (map f g) (map f (flat gs)) n (length-map g f), drop_at (digits n v) (spell (map length gs) vs) n (length_down n _)) at (ap (drop n) x) in
      ap₂ ◌∷◌ (ap (read 0) front ∙ read_digits n 0 v ∙ rw (mod-eq_of_lt (w.each 0 (omega arith))) (omega arith))
      (read_spell gs vs (record { same = omega arith; each = λ k h. w.each (suc k) (omega arith) }) back)

  -- the numbers that were read spell the digits
  pub spell_read : ((i : ℕ) → f i < 2) → (gs : List (List ℕ)) → spell (map length gs) (at_places gs) ≡ map f (flat gs)
  spell_read h [] = refl
  spell_read h (g ∷ gs) =
      ap₂ ◌++◌ (rw (length-map g f) at (digits_read (map f g) 0 (map_digits h g))) (spell_read h gs) ∙ sym (map-append f g (flat gs))

-- ---- the digits of several numbers

pub length_spell : (gs : List (List ℕ)) (vs : List ℕ) → length vs ≡ length gs → length (spell (map length gs) vs) ≡ length (flat gs)
length_spell [] vs e = refl
length_spell (g ∷ gs) [] e = absurd (omega arith)
length_spell (g ∷ gs) (v ∷ vs) e =
    let n : ℕ = length g in
    let l : length (digits n v) ≡ n = length_down n _ in
    simp length-append (omega (arith, length_spell gs vs (omega arith)))

digits_before : (n v : ℕ) (t : List ℕ) → Digits t → Digits (digits n v ++ t)
digits_before zero v t h k = h k
digits_before (suc n) v t h zero = mod-lt (v / 2 ^ n) (lit< tt)
digits_before (suc n) v t h (suc k) = digits_before n v t h k

pub spell_digits : (ws vs : List ℕ) → Digits (spell ws vs)
spell_digits [] vs k = lit< tt
spell_digits (w ∷ ws) [] k = lit< tt
spell_digits (w ∷ ws) (v ∷ vs) k = digits_before w v (spell ws vs) (spell_digits ws vs) k
