-- Bytes and their bits, lowest first: each give the other back.
use Rattle.std.specs.Prelude.{◌≡◌, List, ℕ, ◌+◌, ◌*◌, ◌/◌, ◌%◌, ◌^◌, ◌<◌, length, get_or}
use Rattle.std.proofs.Common.{sym, ap, ◌∙◌, mod-lt, arith, lit<, shr-shr}
use Rattle.std.proofs.Math.Arith.{mod-mul}
use Rattle.std.specs.Int.Bits.{bit_and}
use Rattle.std.proofs.lemmas.Nat.Bits.{and_high}
use Rattle.sequence.specs.Table.{table, get_or_table, table_of}
use Rattle.bits.specs.Bits.{read, bit_at, byte_of}
use Rattle.bits.specs.Digits.{Digits, read_digit, read_digits, down_same}

pub bit_lt : (p : List ℕ) (i : ℕ) → bit_at p i < 2
unfolding bit_at
bit_lt p i = mod-lt (get_or p (i / 8) 0 / 2 ^ (i % 8)) (lit< tt)

-- bit i of n bytes of these bits is bit i
pub bit_of_bytes : (x : List ℕ) → Digits x → (n i : ℕ) → i < n * 8 → bit_at (table (byte_of x) n) i ≡ get_or x i 0
unfolding bit_at byte_of
bit_of_bytes x h n i l =
    rw (get_or_table (byte_of x) n (i / 8) 0 (omega arith))
    (read_digit 8 0 (λ k. get_or x (i / 8 * 8 + k) 0) (λ k. h (i / 8 * 8 + k)) (i % 8) (omega arith) ∙ ap (λ (m : ℕ). get_or x m 0) (omega arith))

-- a byte that has these bits
byte_of_bits : (x p : List ℕ) (b : ℕ) → get_or p b 0 < 256 → ((i : ℕ) → i < b * 8 + 8 → get_or x i 0 ≡ bit_at p i) → byte_of x b ≡ get_or p b 0
unfolding bit_at byte_of
byte_of_bits x p b h e =
    ap (read 0)
    (down_same 8 (λ k. get_or x (b * 8 + k) 0) (λ k. get_or p b 0 / 2 ^ k % 2)
    (λ k l.
    let q : (b * 8 + k) / 8 ≡ b = omega arith in
    let r : (b * 8 + k) % 8 ≡ k = omega arith in
    e (b * 8 + k) (omega arith) ∙ rw (q, r)))
    ∙ read_digits 8 0 (get_or p b 0)
    ∙ omega arith

-- the n bytes that have these bits
pub bytes_of_bits : (x p : List ℕ) (n : ℕ) → length p ≡ n → ((k : ℕ) → get_or p k 0 < 256) → ((i : ℕ) → i < n * 8 → get_or x i 0 ≡ bit_at p i) → table (byte_of x) n ≡ p
bytes_of_bits x p n l h e = table_of (byte_of x) 0 p n l (λ b s. byte_of_bits x p b (h b) (λ i t. e i (omega arith)))

-- ---- the last two bits of a frame, which the mask 192 tests

top : (p : List ℕ) → bit_and (get_or p 19 0) 192 ≡ (bit_at p 159 * 2 + bit_at p 158) * 64
unfolding bit_at
top p =
    let n = get_or p 19 0 in
    let b : n / 64 / 2 % 2 ≡ n / 128 % 2 = ap (λ (x : ℕ). x % 2) (shr-shr n 6 1) in
    and_high n 2 6 ∙ rw (mod-mul (n / 64) {m = 2} {c = 2} (lit< tt) (lit< tt)) (omega arith)

pub mask_bits : (p : List ℕ) → bit_and (get_or p 19 0) 192 ≡ 0 → (bit_at p 158 ≡ 0) × (bit_at p 159 ≡ 0)
mask_bits p e = let t = sym (top p) ∙ e in (omega arith, omega arith)

pub bits_mask : (p : List ℕ) → bit_at p 158 ≡ 0 → bit_at p 159 ≡ 0 → bit_and (get_or p 19 0) 192 ≡ 0
bits_mask p a b = top p ∙ omega arith
