-- The accumulator does not wrap on the way from LSPs to LPC numbers: `lspToLpc` is the same chain with plain sums (`lpc-plain`). The cuts to 32 and to 16 bits stay.
-- Nor does it wrap in the cosine (`cosine-plain`), or on the way on to the reflection coefficients, but for two places: the reciprocal of 0 (`fixed`, Normal),
-- and the shift by `scale`, of which nothing is seen (`updated-plain`).
use Rattle.std.proofs.Common.{arith, ◌∙◌, ltb-true, ltb-false}
use Rattle.std.specs.Prelude.{Bool, true, false, cond, List, ◌≡◌, refl, ℕ, zero, suc, ◌+◌, ◌-◌, ◌*◌, ◌%◌, ◌^◌, ◌≤◌, ◌<◌, ltb, eqb, ℤ, negsuc, neg_ℤ, ◌+ℤ◌, ◌-ℤ◌, ◌*ℤ◌}
use Rattle.std.proofs.Math.Path.{ap}
use Rattle.std.proofs.Math.ListN.{get_or-eq_default}
use Rattle.std.proofs.Math.IntN.{pos, nat_abs}
use Rattle.std.specs.Int.Signed.{mag, shr_z, lt_z}
use Rattle.sequence.specs.Table.{table, length_table, get_or_table, table_same}
use Rattle.sequence.specs.Repeated.{repeated, repeated_keeps}
use Rattle.fixed.specs.Fixed.{residue, signed, wrap, clamp, acc, fold, sat, trunc32, low, hi, mul, mul32x16, shift, exp, restoring_step, restoring_divide, size_reciprocal, signed_reciprocal, normalised_reciprocal, quotient}
use Rattle.fixed.specs.Fixed as Fixed
use Rattle.fixed.specs.Reciprocals.{quotient_is}
use Rattle.fixed.specs.Abs.{abs_add, abs_neg, abs_mul_le, abs_shr, mag≤abs}
use Rattle.fixed.specs.Products.{abs_mul32x16}
use Rattle.fixed.specs.Bounds.{abs_low, abs_trunc32, abs_mul_by}
use Rattle.fixed.specs.Wrap.{REACH, acc_fits}
use Rattle.fixed.specs.Halves.{hi_acc}
use Rattle.plain.specs.Sums.{Short, AllShort, short_mul, shift_fits, shift_down_plain}
use Rattle.fixed.specs.Sums.{fold_fits}
use Rattle.fixed.specs.Shifts.{shift_up, shift_down, mag_acc}
use Rattle.tables.specs.Places.{COS, COS_SLOPE}
use Rattle.lsp.specs.Lsp.{at, position, entry, cosine, negated, product, linear, own, coefficient, next_polynomial, first_polynomial, lsp_polynomial, plus, minus, halved, front, back, predictor, lsp_to_lpc}
use Rattle.reflection.specs.Reflection.{residual, inverse, exponent, scale, difference, updated}

-- of 32 bits, as far as a bound says it
abbrev pub Held : ℤ → Type 0
Held z = nat_abs z ≤ 2147483648

abbrev pub AllHeld : List ℤ → Type 0
AllHeld f = (j : ℕ) → Held (at f j)

-- ---- the chain with plain sums
abbrev pub plain_product : ℤ → ℤ → ℤ → ℤ → ℤ
plain_product x y z l = trunc32 (x +ℤ mul32x16 y l *ℤ pos 2 +ℤ z)

abbrev pub plain_linear : ℤ → ℤ → ℤ
plain_linear x l = trunc32 (x +ℤ l *ℤ pos 1024)

unfoldable pub plain_coefficient : ℤ → ℕ → List ℤ → ℕ → ℤ
plain_coefficient l i f j =
    cond (eqb j 0) (at f 0)
    (cond (eqb j 1) (plain_linear (at f 1) l)
    (cond (ltb i j) (at f j)
    (plain_product (own i f j) (at f (j - 1)) (at f (j - 2)) l)))

abbrev pub plain_next : ℤ → ℕ → List ℤ → List ℤ
plain_next l i f = table (plain_coefficient l i f) 6

unfoldable pub plain_polynomial : List ℤ → ℕ → List ℤ
plain_polynomial lsp first = repeated (λ n. plain_next (negated (at lsp (first + 2 * (n + 1)))) (n + 2)) 4 (first_polynomial (at lsp first))

abbrev pub plain_plus : List ℤ → ℕ → ℤ
plain_plus f i = trunc32 (at f i +ℤ at f (i - 1))

abbrev pub plain_minus : List ℤ → ℕ → ℤ
plain_minus f i = trunc32 (at f i -ℤ at f (i - 1))

abbrev pub plain_halved : ℤ → ℤ
plain_halved sum = hi (shr_z sum 2 *ℤ pos 16 +ℤ pos 32768)

unfoldable pub plain_predictor : List ℤ → List ℤ → ℕ → ℤ
plain_predictor f g n =
    cond (eqb n 0) (pos 4096)
    (cond (ltb n 6)
    (plain_halved (plain_plus f n +ℤ plain_minus g n))
    (plain_halved (plain_plus f (11 - n) -ℤ plain_minus g (11 - n))))

unfoldable pub plain_lpc : List ℤ → List ℤ
plain_lpc lsp = table (plain_predictor (plain_polynomial lsp 0) (plain_polynomial lsp 1)) 11

-- ---- the sums
pub product_plain : (x y z l : ℤ) → Held x → Held z → nat_abs l ≤ 32768 → product x y z l ≡ plain_product x y z l
unfolding product
product_plain x y z l p r q =
    let m : nat_abs (mul32x16 y l *ℤ pos 2) ≤ 4294967296 = abs_mul_le (mul32x16 y l) (pos 2) 2147483648 2 (abs_mul32x16 y l q) (omega arith) in
    ap (λ (s : ℤ). trunc32 (fold s z)) (fold_fits x (mul32x16 y l *ℤ pos 2) (omega arith))
    ∙ ap (λ (s : ℤ). trunc32 s) (fold_fits (x +ℤ mul32x16 y l *ℤ pos 2) z (omega (arith, abs_add x (mul32x16 y l *ℤ pos 2))))

pub linear_plain : (x l : ℤ) → Held x → nat_abs l ≤ 32768 → linear x l ≡ plain_linear x l
unfolding linear
linear_plain x l p q = ap (λ (s : ℤ). trunc32 s) (fold_fits x (l *ℤ pos 1024) (omega (arith, abs_mul_le l (pos 1024) 32768 1024 q (omega arith))))

module _ (f : List ℤ) (h : AllHeld f) (i : ℕ) where
  pub plus_plain : plus f i ≡ plain_plus f i
  unfolding plus
  plus_plain = ap (λ (s : ℤ). trunc32 s) (fold_fits (at f i) (at f (i - 1)) (omega (arith, h i, h (i - 1))))

  pub minus_plain : minus f i ≡ plain_minus f i
  unfolding minus
  minus_plain = ap (λ (s : ℤ). trunc32 s) (fold_fits (at f i) (neg_ℤ (at f (i - 1))) (omega (arith, h i, h (i - 1), abs_neg (at f (i - 1)))))

halved_plain : (sum : ℤ) → nat_abs sum ≤ 4294967296 → halved sum ≡ plain_halved sum
unfolding halved
halved_plain sum h =
    let s : nat_abs (shr_z sum 2) ≤ 4294967296 = omega (arith, abs_shr sum 2) in
    let t : nat_abs (shr_z sum 2 *ℤ pos 16) ≤ 68719476736 = abs_mul_le (shr_z sum 2) (pos 16) 4294967296 16 s (omega arith) in
    ap (λ (z : ℤ). hi (fold (shift z (pos 4)) (pos 32768))) (shift_down_plain sum 0 (omega arith) (omega (arith, mag≤abs sum)))
    ∙ ap (λ (z : ℤ). hi (fold z (pos 32768))) (shift_fits (shr_z sum 2) 4 (omega arith) (omega arith))
    ∙ ap (λ (z : ℤ). hi z) (fold_fits (shr_z sum 2 *ℤ pos 16) (pos 32768) (omega arith))

pub front_plain : (p m : ℤ) → Held p → Held m → front p m ≡ plain_halved (p +ℤ m)
unfolding front
front_plain p m a b = ap halved (fold_fits p m (omega arith)) ∙ halved_plain (p +ℤ m) (omega (arith, abs_add p m))

pub back_plain : (p m : ℤ) → Held p → Held m → back p m ≡ plain_halved (p -ℤ m)
unfolding back
back_plain p m a b = ap halved (fold_fits p (neg_ℤ m) (omega (arith, abs_neg m))) ∙ halved_plain (p -ℤ m) (omega (arith, abs_neg m, abs_add p (neg_ℤ m)))

-- ---- and what is summed is of 32 bits
coefficient_held : (l : ℤ) (i : ℕ) (f : List ℤ) → AllHeld f → (j : ℕ) → Held (coefficient l i f j)
unfolding coefficient linear product
coefficient_held l i f h j = go (eqb j 0) (eqb j 1) (ltb i j)
  where
    go : (s t u : Bool) → Held (cond s (at f 0) (cond t (trunc32 (fold (at f 1) (l *ℤ pos 1024))) (cond u (at f j) (trunc32 (fold (fold (own i f j) (mul32x16 (at f (j - 1)) l *ℤ pos 2)) (at f (j - 2)))))))
    go true t u = h 0
    go false true u = abs_trunc32 _
    go false false true = h j
    go false false false = abs_trunc32 _

table_held : (g : ℕ → ℤ) (n : ℕ) → ((j : ℕ) → Held (g j)) → AllHeld (table g n)
table_held g n h j = go (ltb j n) refl
  where
    go : (t : Bool) → ltb j n ≡ t → Held (at (table g n) j)
    go true t = rw (get_or_table g n j (pos 0) (ltb-true j n t)) (h j)
    go false t = rw (get_or-eq_default (table g n) (pos 0) {n = j} (omega (arith, length_table g n, ltb-false j n t))) (omega arith)

first_held : (x : ℤ) → AllHeld (first_polynomial x)
unfolding first_polynomial
first_held x zero = omega arith
first_held x (suc zero) = abs_trunc32 (neg_ℤ (x *ℤ pos 1024))
first_held x (suc (suc zero)) = omega arith
first_held x (suc (suc (suc zero))) = omega arith
first_held x (suc (suc (suc (suc zero)))) = omega arith
first_held x (suc (suc (suc (suc (suc zero))))) = omega arith
first_held x (suc (suc (suc (suc (suc (suc j)))))) = omega arith

pub polynomial_held : (lsp : List ℤ) (first : ℕ) → AllHeld (lsp_polynomial lsp first)
unfolding lsp_polynomial next_polynomial
polynomial_held lsp first = repeated_keeps _ AllHeld (λ n f h. table_held _ 6 (coefficient_held _ (n + 2) f h)) 4 _ (first_held (at lsp first))

-- ---- the theorem
own_held : (i : ℕ) (f : List ℤ) → AllHeld f → (j : ℕ) → Held (own i f j)
unfolding own
own_held i f h j = go (eqb i j)
  where
    go : (t : Bool) → Held (cond t (at f (j - 2)) (at f j))
    go true = h (j - 2)
    go false = h j

coefficient_plain : (l : ℤ) → nat_abs l ≤ 32768 → (i : ℕ) (f : List ℤ) → AllHeld f → (j : ℕ) → coefficient l i f j ≡ plain_coefficient l i f j
unfolding coefficient plain_coefficient
coefficient_plain l q i f h j = λ k.
    cond (eqb j 0) (at f 0)
    (cond (eqb j 1) (linear_plain (at f 1) l (h 1) q k)
    (cond (ltb i j) (at f j)
    (product_plain (own i f j) (at f (j - 1)) (at f (j - 2)) l (own_held i f h j) (h (j - 2)) q k)))

-- steps that do the same where P holds, which the first keep
same_where : {A : Type 0} (f g : ℕ → A → A) (P : A → Type 0) → ((k : ℕ) (x : A) → P x → P (f k x)) → ((k : ℕ) (x : A) → P x → f k x ≡ g k x) → (n : ℕ) (a : A) → P a → repeated f n a ≡ repeated g n a
unfolding repeated
same_where f g P keeps same zero a p = refl
same_where f g P keeps same (suc n) a p = same n (repeated f n a) (repeated_keeps f P keeps n a p) ∙ ap (g n) (same_where f g P keeps same n a p)

pub polynomial_plain : (lsp : List ℤ) (first : ℕ) → lsp_polynomial lsp first ≡ plain_polynomial lsp first
unfolding lsp_polynomial plain_polynomial next_polynomial negated
polynomial_plain lsp first =
    same_where _ _ AllHeld (λ n f h. table_held _ 6 (coefficient_held _ (n + 2) f h))
    (λ n f h. table_same _ _ 6 (λ j p. coefficient_plain (low (neg_ℤ (at lsp (first + 2 * (n + 1))))) (abs_low _) (n + 2) f h j)) 4 (first_polynomial (at lsp first)) (first_held (at lsp first))

predictor_plain : (f g : List ℤ) → AllHeld f → AllHeld g → (n : ℕ) → predictor f g n ≡ plain_predictor f g n
unfolding predictor plain_predictor
predictor_plain f g p q n = λ k. cond (eqb n 0) (pos 4096) (cond (ltb n 6) (before n k) (behind (11 - n) k))
  where
    before : (i : ℕ) → front (plus f i) (minus g i) ≡ plain_halved (plain_plus f i +ℤ plain_minus g i)
    before i = (λ k. front (plus_plain f p i k) (minus_plain g q i k)) ∙ front_plain (plain_plus f i) (plain_minus g i) (abs_trunc32 _) (abs_trunc32 _)

    behind : (i : ℕ) → back (plus f i) (minus g i) ≡ plain_halved (plain_plus f i -ℤ plain_minus g i)
    behind i = (λ k. back (plus_plain f p i k) (minus_plain g q i k)) ∙ back_plain (plain_plus f i) (plain_minus g i) (abs_trunc32 _) (abs_trunc32 _)

pub lpc_plain : (lsp : List ℤ) → lsp_to_lpc lsp ≡ plain_lpc lsp
unfolding lsp_to_lpc plain_lpc
lpc_plain lsp =
    table_same _ _ 11 (λ n h. predictor_plain (lsp_polynomial lsp 0) (lsp_polynomial lsp 1) (polynomial_held lsp 0) (polynomial_held lsp 1) n)
    ∙ (λ k. table (plain_predictor (polynomial_plain lsp 0 k) (polynomial_plain lsp 1 k)) 11)

-- ---- the cosine
pub cosine_plain : (words : List ℤ) (lsf : ℤ) → AllShort words
    → cosine words lsf ≡ hi (at words (COS + entry (position lsf)) *ℤ pos 65536 +ℤ mul (pos (position lsf % 256 * 8)) (at words (COS_SLOPE + entry (position lsf))))
unfolding cosine
cosine_plain words lsf w =
    let e : ℕ = entry (position lsf) in
    let r : ℕ = position lsf % 256 in
    let a : nat_abs (at words (COS + e) *ℤ pos 65536) ≤ 2147483648 = abs_mul_le (at words (COS + e)) (pos 65536) 32768 65536 (w (COS + e)) (omega arith) in
    let b : nat_abs (mul (pos (r * 8)) (at words (COS_SLOPE + e))) ≤ 134217728 = abs_mul_by (pos (r * 8)) (at words (COS_SLOPE + e)) 2048 32768 (omega arith) (w (COS_SLOPE + e)) in
    ap (λ (z : ℤ). hi z) (fold_fits (at words (COS + e) *ℤ pos 65536) (mul (pos (r * 8)) (at words (COS_SLOPE + e))) (omega arith))

-- ---- a reflection step. The residual is plain by `residual-is` (Exponent); so are the inverse, by the quotient that it is given, and the difference
pub inverse_plain : (kv : ℤ) → inverse kv ≡ hi (shr_z (quotient (normalised_reciprocal (residual kv))) 2)
unfolding inverse signed_reciprocal size_reciprocal
inverse_plain kv = ap (λ (z : ℤ). hi z) (shift_down_plain (quotient (normalised_reciprocal (residual kv))) 0 (omega arith) (rw (quotient_is (residual kv)) (go (lt_z (hi n) (pos 0)))))
  where
    n : ℤ
    n = shift (residual kv) (exp (residual kv))

    go : (t : Bool) → mag (cond t (acc (neg_ℤ (size_reciprocal n))) (size_reciprocal n)) < REACH
    go true = mag_acc _
    go false = mag_acc _

unfoldable pub plain_difference : ℤ → ℤ → ℤ → ℤ
plain_difference kv x y = sat (x *ℤ pos 65536 -ℤ mul y kv *ℤ pos 8)

-- v times 2 ^ s, rounded down
unfoldable pub plain_shift : ℤ → ℤ → ℤ
plain_shift v (pos s) = v *ℤ pos (2 ^ s)
plain_shift v (negsuc s) = shr_z v (2 ^ suc s)

module _ (kv x y : ℤ) (p : Short kv) (q : Short x) (r : Short y) where
  pub difference_plain : difference kv x y ≡ plain_difference kv x y
  unfolding difference plain_difference
  difference_plain =
      let m : nat_abs (mul y kv) ≤ 2147483648 = short_mul y kv r p in
      let b : nat_abs (mul y kv *ℤ pos 8) ≤ 17179869184 = abs_mul_le (mul y kv) (pos 8) 2147483648 8 m (omega arith) in
      let a : nat_abs (x *ℤ pos 65536) ≤ 2147483648 = abs_mul_le x (pos 65536) 32768 65536 q (omega arith) in
      ap (λ (z : ℤ). sat (fold (x *ℤ pos 65536) (neg_ℤ (shift z (pos 3))))) (acc_fits (mul y kv) (omega arith))
      ∙ ap (λ (z : ℤ). sat (fold (x *ℤ pos 65536) (neg_ℤ z))) (shift_fits (mul y kv) 3 (omega arith) (omega arith))
      ∙ ap (λ (z : ℤ). sat z) (fold_fits (x *ℤ pos 65536) (neg_ℤ (mul y kv *ℤ pos 8)) (omega (arith, abs_neg (mul y kv *ℤ pos 8))))

  -- a shift by less than 64 may wrap, but the high half does not see it
  hi_shift : (v s : ℤ) → nat_abs s < 64 → hi (shift v s) ≡ hi (plain_shift v s)
  unfolding plain_shift
  hi_shift v (pos s) h = ap (λ (z : ℤ). hi z) (shift_up v s h) ∙ hi_acc _
  hi_shift v (negsuc s) h = ap (λ (z : ℤ). hi z) (shift_down v s h) ∙ hi_acc _

  pub updated_plain : (inv sc : ℤ) → nat_abs sc < 64 → updated kv inv sc x y ≡ hi (plain_shift (mul32x16 (plain_difference kv x y) inv) sc)
  unfolding updated
  updated_plain inv sc h = ap (λ (z : ℤ). hi (shift (mul32x16 z inv) sc)) difference_plain ∙ hi_shift (mul32x16 (plain_difference kv x y) inv) sc h

-- it does wrap: by a coefficient of 4095 the scale is 13, and 536,870,911 · 2 ^ 13 is past 2 ^ 39
scale_wraps : shift (mul32x16 (difference (pos 4095) (pos 32767) (negsuc 32767)) (inverse (pos 4095))) (scale (pos 4095)) ≡ negsuc 8191
unfolding difference inverse scale exponent residual quotient Fixed.exponent normalised_reciprocal signed_reciprocal size_reciprocal restoring_divide restoring_step repeated exp clamp fold mul mul32x16 shift wrap signed residue
scale_wraps = refl
