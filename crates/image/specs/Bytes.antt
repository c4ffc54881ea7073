-- A number as bytes, the lowest first, and back.
use Rattle.std.specs.Prelude.{ℕ, zero, suc, ◌+◌, ◌*◌, ◌/◌, ◌%◌, ◌^◌, ◌<◌, ◌≤◌, ◌≡◌, refl, List, [], ◌∷◌, ◌++◌, length, get_or, take, drop}
use Rattle.std.proofs.Common.{ap, ◌∙◌, add-one, pow-suc, arith, drop-cons, get_or-append-add}
use Rattle.floats.specs.Floats.{bits_at}

-- the w bytes of a number
unfoldable pub bytes_of : ℕ → ℕ → List ℕ
bytes_of zero n = []
bytes_of (suc w) n = n % 256 ∷ bytes_of w (n / 256)

-- the number of the w bytes from a place on
unfoldable pub number_at : ℕ → List ℕ → ℕ → ℕ
number_at zero b at = 0
number_at (suc w) b at = get_or b at 0 + 256 * number_at w b (at + 1)

-- 1,000 is 3 · 256 + 232
thousand : (bytes_of 2 1000 ≡ 232 ∷ 3 ∷ []) × (bytes_of 4 1000 ≡ 232 ∷ 3 ∷ 0 ∷ 0 ∷ []) × (number_at 2 (7 ∷ 232 ∷ 3 ∷ []) 1 ≡ 1000)
unfolding bytes_of number_at
thousand = (refl, refl, refl)

-- each element is a byte
abbrev pub Bytes : List ℕ → Type 0
Bytes b = (k : ℕ) → get_or b k 0 < 256

-- ---- laws
pub bytes_append : (a b : List ℕ) → Bytes a → Bytes b → Bytes (a ++ b)
bytes_append [] b p q k = q k
bytes_append (x ∷ a) b p q zero = p 0
bytes_append (x ∷ a) b p q (suc k) = bytes_append a b (λ j. p (suc j)) q k

pub length_bytes : (w n : ℕ) → length (bytes_of w n) ≡ w
unfolding bytes_of
length_bytes zero n = refl
length_bytes (suc w) n = ap suc (length_bytes w (n / 256))

pub bytes_of_lem : (w n : ℕ) → Bytes (bytes_of w n)
unfolding bytes_of
bytes_of_lem zero n k = omega arith
bytes_of_lem (suc w) n zero = omega arith
bytes_of_lem (suc w) n (suc k) = bytes_of_lem w (n / 256) k

pub number_below : (w : ℕ) (b : List ℕ) → Bytes b → (at : ℕ) → number_at w b at < 256 ^ w
unfolding number_at
number_below zero b h at = omega arith
number_below (suc w) b h at =
    let p = number_below w b h (at + 1) in
    let q = h at in
    let e : 256 ^ suc w ≡ 256 ^ w * 256 = pow-suc 256 w in
    omega arith

-- behind other bytes
pub number_behind : (w : ℕ) (p b : List ℕ) (at : ℕ) → number_at w (p ++ b) (length p + at) ≡ number_at w b at
unfolding number_at
number_behind zero p b at = refl
number_behind (suc w) p b at =
    let e : length p + at + 1 ≡ length p + (at + 1) = omega arith in
    rw (get_or-append-add p b at 0, e, number_behind w p b (at + 1))

-- a number that has w bytes, out of them
pub number_back : (w n : ℕ) (b : List ℕ) → n < 256 ^ w → number_at w (bytes_of w n ++ b) 0 ≡ n
unfolding number_at bytes_of
number_back zero n b h = omega arith
number_back (suc w) n b h =
    let e : 256 ^ suc w ≡ 256 ^ w * 256 = pow-suc 256 w in
    let s = number_behind w (n % 256 ∷ []) (bytes_of w (n / 256) ++ b) 0 in
    let q = number_back w (n / 256) b (omega arith) in
    ap (λ (m : ℕ). n % 256 + 256 * m) (s ∙ q) ∙ omega arith

-- w bytes, out of their number
pub bytes_back : (w : ℕ) (b : List ℕ) → Bytes b → (at : ℕ) → at + w ≤ length b → bytes_of w (number_at w b at) ≡ take w (drop at b)
unfolding number_at bytes_of
bytes_back zero b h at l = refl
bytes_back (suc w) b h at l =
    let a = get_or b at 0 in
    let n = number_at w b (at + 1) in
    let f = h at in
    let p : (a + 256 * n) % 256 ≡ a = omega arith in
    let q : (a + 256 * n) / 256 ≡ n = omega arith in
    rw (drop-cons b at 0 (omega arith), p, q, ← (add-one at)) (ap (λ (t : List ℕ). a ∷ t) (bytes_back w b h (at + 1) (omega arith)))

-- four of them, as a float's bits are read
pub four_bytes : (b : List ℕ) (i : ℕ) → bits_at b i ≡ number_at 4 b i
unfolding number_at bits_at
four_bytes b i =
    let p : i + 1 + 1 ≡ i + 2 = omega arith in
    let q : i + 2 + 1 ≡ i + 3 = omega arith in
    rw (p, q) (omega arith)
