-- A finite float as a whole number of units of 2 ^ -149. The order of floats is that of these numbers, and two floats that have the same one are equal, or are the two zeros.
use Rattle.std.specs.Prelude.{◌≡◌, ℕ, zero, suc, ◌+◌, ◌/◌, ◌%◌, ◌^◌, ◌<◌, ◌≤◌, Bool, true, false, cond, T, ◌⊎◌, ℤ, pos, negsuc, neg_ℤ, ◌==◌, int_le, nat_le, to_bits, Float}
use Rattle.std.proofs.Math.Path.{refl, sym}
use Rattle.std.proofs.Common.{ap, ◌∙◌, subst, inl, inr, eq-or-lt_of_le, arith, pow_pos, leb-true, leb-false}
use Rattle.std.specs.Float.{nan, inf, fin, binary32}
use Rattle.std.specs.Float.Ieee.{le, fits, of_bits, of_fields}
use Rattle.std.specs.Float.Ieee.Bits.{of_bits-to_bits, to_bits-lt}
use Rattle.std.specs.Float.Ieee.Exact.{HasValue}
use Rattle.std.specs.Float.Ieee.Scale.{finite}
use Rattle.floats.specs.Patterns.{steps_of, units_of, units_up, pattern_value}
use Rattle.floats.specs.Compared.{signed, le_by}

-- ---- the number of a finite f32, by its bit pattern
abbrev pub negative : Float → Bool
negative x = nat_le 0x8000_0000 (to_bits binary32 x)

abbrev pub pattern : Float → ℕ
pattern x = to_bits binary32 x % 0x8000_0000

unfoldable pub number_of : Float → ℤ
number_of x = signed (negative x) (units_of (pattern x))

-- an f32 that is neither a NaN nor an infinity
abbrev pub Finite32 : Float → Type 0
Finite32 x = T (fits binary32 x) × T (finite x)

beyond : (n : ℕ) → 0x7f80_0000 ≤ n % 0x8000_0000 → finite (of_bits binary32 n) ≡ false
unfolding of_bits of_fields
beyond n h =
    let x : n % 0x8000_0000 / 8388608 ≡ 255 = omega arith in
    rw x (either (n % 8388608 == 0))
  where
    either : (b : Bool) → finite (cond b (inf (nat_le 0x8000_0000 n)) nan) ≡ false
    either true = refl
    either false = refl

pub number_value : (x : Float) → Finite32 x → HasValue x (negative x) (units_of (pattern x)) (2 ^ 149)
number_value x h =
    let n = to_bits binary32 x in
    let e = of_bits-to_bits binary32 x h.0 in
    subst (λ (z : Float). HasValue z (negative x) (units_of (pattern x)) (2 ^ 149)) e (pattern_value n (go (nat_le 0x7f80_0000 (n % 0x8000_0000)) refl (ap finite e)))
  where
    go : (t : Bool) → nat_le 0x7f80_0000 (pattern x) ≡ t → finite (of_bits binary32 (to_bits binary32 x)) ≡ finite x → pattern x < 0x7f80_0000
    go false k e = leb-false 0x7f80_0000 (pattern x) k
    go true k e = absurd (subst T (sym e ∙ beyond (to_bits binary32 x) (leb-true 0x7f80_0000 (pattern x) k)) h.1)

pub le_number : (x y : Float) → Finite32 x → Finite32 y → le x y ≡ int_le (number_of x) (number_of y)
unfolding number_of
le_number x y p q = le_by x y (negative x) (negative y) (units_of (pattern x)) (units_of (pattern y)) (2 ^ 149) (pow_pos 149) (number_value x p) (number_value y q)

-- ---- what has one number
abbrev pub Zero : Float → Type 0
Zero x = (x ≡ fin false 0 (pos 0)) ⊎ (x ≡ fin true 0 (pos 0))

one_pattern : (p q : ℕ) → units_of p ≡ units_of q → p ≡ q
one_pattern p q e = go (nat_le p q) (leb-true p q) (leb-false p q)
  where
    at_most : (p ≡ q) ⊎ (p < q) → p ≡ q
    at_most (inl f) = f
    at_most (inr l) = absurd (let u = units_up p q l in omega arith)

    go : (t : Bool) → (t ≡ true → p ≤ q) → (t ≡ false → q < p) → p ≡ q
    go true f g = at_most (eq-or-lt_of_le (f refl))
    go false f g = absurd (let u = units_up q p (g refl) in omega arith)

no_units : units_of 0 ≡ 0
unfolding steps_of
no_units = refl

-- the pattern and the sign are all of it
module _ (x : Float) (h : T (fits binary32 x)) where
  whole_pattern : (s : Bool) → negative x ≡ s → to_bits binary32 x ≡ cond s 0x8000_0000 0 + pattern x
  whole_pattern true e =
      let l = leb-true 0x8000_0000 (to_bits binary32 x) e in
      let u : to_bits binary32 x < 0x1_0000_0000 = to_bits-lt binary32 x h in
      omega arith
  whole_pattern false e = let l = leb-false 0x8000_0000 (to_bits binary32 x) e in omega arith

  from_pattern : (s : Bool) → negative x ≡ s → x ≡ of_bits binary32 (cond s 0x8000_0000 0 + pattern x)
  from_pattern s e = sym (of_bits-to_bits binary32 x h) ∙ ap (of_bits binary32) (whole_pattern s e)

  a_zero : units_of (pattern x) ≡ 0 → Zero x
  unfolding of_bits
  a_zero e = go (negative x) refl
    where
      none : pattern x ≡ 0
      none = one_pattern (pattern x) 0 (e ∙ sym no_units)

      go : (s : Bool) → negative x ≡ s → Zero x
      go false f = inl (from_pattern false f ∙ ap (λ (p : ℕ). of_bits binary32 (0 + p)) none)
      go true f = inr (from_pattern true f ∙ ap (λ (p : ℕ). of_bits binary32 (0x8000_0000 + p)) none)

size_of : ℤ → ℕ
size_of (pos n) = n
size_of (negsuc n) = suc n

size_signed : (s : Bool) (a : ℕ) → size_of (signed s a) ≡ a
unfolding size_of
size_signed false a = refl
size_signed true zero = refl
size_signed true (suc a) = refl

unlike_zero : (a b : ℕ) → pos a ≡ neg_ℤ (pos b) → a ≡ 0
unfolding size_of
unlike_zero a zero e = ap size_of e
unlike_zero a (suc b) e = let z : ◌≡◌ {A = ℕ} 0 1 = cc in absurd (omega arith)

pub same_number : (x y : Float) → Finite32 x → Finite32 y → number_of x ≡ number_of y → (x ≡ y) ⊎ (Zero x × Zero y)
unfolding number_of
same_number x y p q e = go (negative x) (negative y) refl refl
  where
    sizes : units_of (pattern x) ≡ units_of (pattern y)
    sizes = sym (size_signed (negative x) (units_of (pattern x))) ∙ ap size_of e ∙ size_signed (negative y) (units_of (pattern y))

    alike : (s : Bool) → negative x ≡ s → negative y ≡ s → x ≡ y
    alike s f g =
        from_pattern x p.0 s f
        ∙ ap (λ (n : ℕ). of_bits binary32 (cond s 0x8000_0000 0 + n)) (one_pattern (pattern x) (pattern y) sizes)
        ∙ sym (from_pattern y q.0 s g)

    zeros : units_of (pattern x) ≡ 0 → Zero x × Zero y
    zeros z = (a_zero x p.0 z, a_zero y q.0 (sym sizes ∙ z))

    go : (s t : Bool) → negative x ≡ s → negative y ≡ t → (x ≡ y) ⊎ (Zero x × Zero y)
    go false false f g = inl (alike false f g)
    go true true f g = inl (alike true f g)
    go false true f g =
        inr (zeros (unlike_zero (units_of (pattern x)) (units_of (pattern y))
        (ap (λ (s : Bool). signed s (units_of (pattern x))) (sym f) ∙ e ∙ ap (λ (t : Bool). signed t (units_of (pattern y))) g)))
    go true false f g =
        inr (zeros (sizes ∙ unlike_zero (units_of (pattern y)) (units_of (pattern x))
        (ap (λ (t : Bool). signed t (units_of (pattern y))) (sym g) ∙ sym e ∙ ap (λ (s : Bool). signed s (units_of (pattern x))) f)))
