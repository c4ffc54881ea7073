-- The change by 3: done twice it is undone; with the two inversions of absolute_pitch it cancels, and the inversion of frame bit 79 stays.
use Rattle.std.specs.Prelude.{◌≡◌, refl, List, ℕ, zero, suc, ◌+◌, ◌-◌, ◌*◌, ◌/◌, ◌%◌, ◌^◌, ◌<◌, eqb, length, get_or, set}
use Rattle.std.proofs.Common.{sym, ap, ◌∙◌, mod-lt, arith, lit<, length-set, get_or-set_same, get_or-set_other, set-set}
use Rattle.std.proofs.Math.Decide.{ℕ_discrete}
use Rattle.std.specs.Int.Bits.{bit_xor, xor_zero_r}
use Rattle.std.proofs.lemmas.Nat.{xor_block, xor_lt}
use Rattle.std.proofs.lemmas.List.{set-get_or}
use Rattle.bits.specs.Bits.{groups, widths, inverted, bit_at, read_bit, one_if, gather, changed, frame_params, fields_of}
use Rattle.bits.specs.Digits.{Within}
use Rattle.bits.specs.Bytes.{bit_lt}

-- the last two digits of a number, changed by 3
flip_two : (u v : ℕ) → u < 2 → v < 2 → bit_xor (u * 2 + v) 3 ≡ (1 - u) * 2 + (1 - v)
flip_two zero zero hu hv = refl
flip_two zero (suc zero) hu hv = refl
flip_two (suc zero) zero hu hv = refl
flip_two (suc zero) (suc zero) hu hv = refl
flip_two zero (suc (suc v)) hu hv = absurd (omega arith)
flip_two (suc zero) (suc (suc v)) hu hv = absurd (omega arith)
flip_two (suc (suc u)) v hu hv = absurd (omega arith)

flip : (x u v : ℕ) → u < 2 → v < 2 → bit_xor ((x * 2 + u) * 2 + v) 3 ≡ (x * 2 + (1 - u)) * 2 + (1 - v)
flip x u v hu hv =
    let parts : (x * 2 + u) * 2 + v ≡ x * 4 + (u * 2 + v) = omega arith in
    ap (λ (n : ℕ). bit_xor n 3) parts ∙ xor_block 2 x 0 (u * 2 + v) 3 (omega arith) (lit< tt) ∙ rw (xor_zero_r x, flip_two u v hu hv) (omega arith)

xor_twice : (n : ℕ) → bit_xor (bit_xor n 3) 3 ≡ n
xor_twice n =
    let u : ℕ = n / 2 % 2 in
    let v : ℕ = n % 2 in
    let hu : u < 2 = mod-lt (n / 2) (lit< tt) in
    let hv : v < 2 = mod-lt n (lit< tt) in
    let parts : (n / 4 * 2 + u) * 2 + v ≡ n = omega arith in
    ap (λ (m : ℕ). bit_xor (bit_xor m 3) 3) (sym parts)
    ∙ ap (λ (m : ℕ). bit_xor m 3) (flip (n / 4) u v hu hv)
    ∙ flip (n / 4) (1 - u) (1 - v) (omega arith) (omega arith)
    ∙ omega arith

pub changed_twice : (fs : List ℕ) → 10 < length fs → changed (changed fs) ≡ fs
changed_twice fs h =
    rw (get_or-set_same fs 10 (bit_xor (get_or fs 10 0) 3) 0 h, xor_twice (get_or fs 10 0))
    (set-set fs 10 (bit_xor (get_or fs 10 0) 3) (get_or fs 10 0) ∙ set-get_or fs 10 0)

pub length_changed : (fs : List ℕ) → length (changed fs) ≡ length fs
length_changed fs = length-set fs 10 (bit_xor (get_or fs 10 0) 3)

-- a field within its width stays so
within_set : (ws vs : List ℕ) (i v : ℕ) → Within ws vs → v < 2 ^ get_or ws i 0 → Within ws (set vs i v)
within_set ws vs i v w h = record { same = length-set vs i v ∙ w.same; each = λ k s. at k s (ℕ_discrete k i) }
  where
    at : (k : ℕ) → k < length ws → Dec (k ≡ i) → get_or (set vs i v) k 0 < 2 ^ get_or ws k 0
    at k s (yes e) = rw (e, get_or-set_same vs i v 0 (omega arith)) h
    at k s (no n) = rw (get_or-set_other vs i k v 0 n) (w.each k s)

pub within_changed : (fs : List ℕ) → Within widths fs → Within widths (changed fs)
unfolding widths groups
within_changed fs w = within_set widths fs 10 (bit_xor (get_or fs 10 0) 3) w (xor_lt 8 (get_or fs 10 0) 3 (w.each 10 (lit< tt)) (lit< tt))

-- ---- what cancels

-- a frame bit with the inversion of bit 79 alone
abbrev pub plain : List ℕ → ℕ → ℕ
plain p i = (bit_at p i + one_if (eqb i 79)) % 2

opposite : (c : ℕ) → c < 2 → 1 - (c + 1) % 2 ≡ (c + 0) % 2
opposite zero h = refl
opposite (suc zero) h = refl
opposite (suc (suc c)) h = absurd (omega arith)

undone : (x c d : ℕ) → c < 2 → d < 2 → bit_xor ((x * 2 + (c + 1) % 2) * 2 + (d + 1) % 2) 3 ≡ (x * 2 + (c + 0) % 2) * 2 + (d + 0) % 2
undone x c d hc hd = flip x ((c + 1) % 2) ((d + 1) % 2) (mod-lt (c + 1) (lit< tt)) (mod-lt (d + 1) (lit< tt)) ∙ rw (opposite c hc, opposite d hd)

pub cancelled : (p : List ℕ) → fields_of p ≡ frame_params (gather (plain p))
unfolding fields_of gather groups read_bit inverted
cancelled p = ap (λ (v : ℕ). frame_params (set (gather (read_bit p)) 10 v)) (undone _ (bit_at p 85) (bit_at p 83) (bit_lt p 85) (bit_lt p 83))

-- so the pitch's last two digits are frame bits 85 and 83 as they stand
pub pitch_cancelled : (p : List ℕ) → (fields_of p).first.absolute_pitch % 4 ≡ bit_at p 85 * 2 + bit_at p 83
unfolding gather groups
pitch_cancelled p = rw (cancelled p) (omega (arith, bit_lt p 85, bit_lt p 83))

-- and the last digit of stage2_low is the opposite of frame bit 79
pub bit_79_stays : (p : List ℕ) → (fields_of p).first.stage2_low % 2 ≡ (bit_at p 79 + 1) % 2
unfolding gather groups
bit_79_stays p = rw (cancelled p) (omega (arith, bit_lt p 79))
