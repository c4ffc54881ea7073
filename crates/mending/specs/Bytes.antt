-- Bytes and cleaned lines: which are changed by it, and that their worth as digits is not.
use Rattle.std.specs.Prelude.{ℕ, zero, suc, ◌+◌, ◌-◌, ◌*◌, ◌≤◌, ◌≡◌, refl, List, [], ◌∷◌, map, Bool, true, false, cond, ◌&&◌, ◌||◌, ◌⊎◌, eqb, ltb, leb, length, get_or}
use Rattle.std.proofs.Common.{sym, ap, ◌∙◌, true≢false, inl, inr, ⊎_elim, arith, ne_eqb, le-leb, leb-true, leb-false, lt-ltb}
use Rattle.std.proofs.lemmas.Bool.{false≢true, lt-leb}
use Rattle.sequence.specs.All.{all, and_left, and_right}
use Rattle.sequence.specs.Table.{table_same}
use Rattle.stream.specs.Lines.{plain}
use Rattle.hex_lines.specs.Text.{value, is_digit, is_frame, byte_at, payload}
use Rattle.mending.specs.Repair.{is_return, is_blank, is_capital, bare, lower, cleaned, any}

-- a digit in lower case: `0` to `9`, `a` to `f`
unfoldable pub is_lower : ℕ → Bool
is_lower c = (leb 48 c && leb c 57) || (leb 97 c && leb c 102)

pub and_false : (a b : Bool) → a && b ≡ false → a ≡ true → b ≡ false
and_false true b e p = e
and_false false b e p = absurd (false≢true p)

pub or_left : (a b : Bool) → a || b ≡ false → a ≡ false
or_left true b e = absurd (true≢false e)
or_left false b e = refl

pub or_right : (a b : Bool) → a || b ≡ false → b ≡ false
or_right true b e = absurd (true≢false e)
or_right false b e = e

-- ---- a byte
pub lower_capital : (c : ℕ) → is_capital (lower c) ≡ false
unfolding is_capital lower
lower_capital c = by (leb 65 c) (leb c 90) refl refl
  where
    by : (a b : Bool) → leb 65 c ≡ a → leb c 90 ≡ b → is_capital (cond (a && b) (c + 32) c) ≡ false
    by true true p q = let h = leb-true 65 c p in rw (le-leb 65 (c + 32) (omega arith), lt-leb (c + 32) 90 (omega arith))
    by true false p q = rw (p, q)
    by false b p q = rw p

-- no letter becomes a carriage return or a blank
pub lower_return : (c : ℕ) → is_return c ≡ false → is_return (lower c) ≡ false
unfolding is_return lower
lower_return c e = by (is_capital c)
  where
    by : (t : Bool) → eqb (cond t (c + 32) c) 13 ≡ false
    by true = ne_eqb (c + 32) 13 (λ z. omega arith)
    by false = e

pub lower_blank : (c : ℕ) → is_blank c ≡ false → is_blank (lower c) ≡ false
unfolding is_blank lower is_capital
lower_blank c e = by (leb 65 c) (leb c 90) refl
  where
    by : (a b : Bool) → leb 65 c ≡ a → eqb (cond (a && b) (c + 32) c) 32 ≡ false
    by true true p = let h = leb-true 65 c p in ne_eqb (c + 32) 32 (λ z. omega arith)
    by true false p = e
    by false b p = e

-- a letter is worth what it was
pub value_lower : (c : ℕ) → value (lower c) ≡ value c
unfolding lower is_capital value
value_lower c = by (leb 65 c) (leb c 90) (leb c 70) refl refl refl
  where
    by : (a b d : Bool) → leb 65 c ≡ a → leb c 90 ≡ b → leb c 70 ≡ d → value (cond (a && b) (c + 32) c) ≡ value c
    by true true true p q r =
        let h = leb-true 65 c p in
        let i = leb-true c 70 r in
        let s : c + 32 - 87 ≡ c - 55 = omega arith in
        rw (lt-leb (c + 32) 57 (omega arith), lt-leb c 57 (omega arith), le-leb 97 (c + 32) (omega arith), le-leb (c + 32) 102 (omega arith), lt-leb 97 c (omega arith), p, r, le-leb 48 (c + 32) (omega arith), le-leb 48 c (omega arith)) s
    by true true false p q r =
        let h = leb-true 65 c p in
        let i = leb-false c 70 r in
        let j = leb-true c 90 q in
        rw (lt-leb (c + 32) 57 (omega arith), lt-leb c 57 (omega arith), lt-leb (c + 32) 102 (omega arith), lt-leb 97 c (omega arith), le-leb 97 (c + 32) (omega arith), lt-leb (c + 32) 70 (omega arith), p, r, le-leb 65 (c + 32) (omega arith), le-leb 48 (c + 32) (omega arith), le-leb 48 c (omega arith))
    by true false d p q r = refl
    by false b d p q r = refl

-- a digit that is no capital is one in lower case, and such a digit is none of the three
pub digit_lower : (c : ℕ) → is_capital c ≡ false → is_digit c ≡ true → is_lower c ≡ true
unfolding is_capital is_digit value is_lower
digit_lower c e d = by (leb 48 c && leb c 57) (leb 97 c && leb c 102) (leb 65 c) (leb c 70) refl refl d
  where
    by : (x y a b : Bool) → leb 65 c ≡ a → leb c 70 ≡ b → ltb (cond x (c - 48) (cond y (c - 87) (cond (a && b) (c - 55) 16))) 16 ≡ true → x || y ≡ true
    by true y a b p q z = refl
    by false true a b p q z = refl
    by false false true true p q z =
        let h = leb-true c 70 q in
        absurd (true≢false (sym (le-leb c 90 (omega arith)) ∙ and_false (leb 65 c) (leb c 90) e p))
    by false false true false p q z = absurd (false≢true z)
    by false false false b p q z = absurd (false≢true z)

-- its bounds
pub lower_bounds : (c : ℕ) → is_lower c ≡ true → ((48 ≤ c) × (c ≤ 57)) ⊎ ((97 ≤ c) × (c ≤ 102))
unfolding is_lower
lower_bounds c e = by (leb 48 c) (leb c 57) (leb 97 c) (leb c 102) refl refl refl refl e
  where
    by : (a b x y : Bool) → leb 48 c ≡ a → leb c 57 ≡ b → leb 97 c ≡ x → leb c 102 ≡ y → (a && b) || (x && y) ≡ true → ((48 ≤ c) × (c ≤ 57)) ⊎ ((97 ≤ c) × (c ≤ 102))
    by true true x y p q r s z = inl (leb-true 48 c p, leb-true c 57 q)
    by true false true true p q r s z = inr (leb-true 97 c r, leb-true c 102 s)
    by true false true false p q r s z = absurd (false≢true z)
    by true false false y p q r s z = absurd (false≢true z)
    by false b true true p q r s z = inr (leb-true 97 c r, leb-true c 102 s)
    by false b true false p q r s z = absurd (false≢true z)
    by false b false y p q r s z = absurd (false≢true z)

pub record Plain (c : ℕ) : Type 0 where
  pub no_return : is_return c ≡ false
  pub no_blank : is_blank c ≡ false
  pub no_capital : is_capital c ≡ false
  pub no_newline : eqb c 10 ≡ false
  pub digit : is_digit c ≡ true

pub lower_plain : (c : ℕ) → is_lower c ≡ true → Plain c
unfolding is_return is_blank is_capital is_digit value
lower_plain c e = ⊎_elim low high (lower_bounds c e)
  where
    low : (48 ≤ c) × (c ≤ 57) → Plain c
    low h = record { no_return = ne_eqb c 13 (λ z. omega (arith, h.0)); no_blank = ne_eqb c 32 (λ z. omega (arith, h.0)); no_capital = rw (lt-leb 65 c (omega (arith, h.1))); no_newline = ne_eqb c 10 (λ z. omega (arith, h.0)); digit = rw (le-leb 48 c h.0, le-leb c 57 h.1) (lt-ltb (c - 48) 16 (omega (arith, h.1))) }

    high : (97 ≤ c) × (c ≤ 102) → Plain c
    high h = record { no_return = ne_eqb c 13 (λ z. omega (arith, h.0)); no_blank = ne_eqb c 32 (λ z. omega (arith, h.0)); no_capital = rw (le-leb 65 c (omega (arith, h.0)), lt-leb c 90 (omega (arith, h.0))); no_newline = ne_eqb c 10 (λ z. omega (arith, h.0)); digit = rw (le-leb 48 c (omega (arith, h.0)), lt-leb c 57 (omega (arith, h.0)), le-leb 97 c h.0, le-leb c 102 h.1) (lt-ltb (c - 87) 16 (omega (arith, h.1))) }

-- ---- a line
-- one that has none of the three is clean
pub clean_same : (line : List ℕ) → any is_return line ≡ false → any is_blank line ≡ false → any is_capital line ≡ false → cleaned line ≡ line
unfolding cleaned bare any lower
clean_same [] p q r = refl
clean_same (c ∷ cs) p q r =
    rw (or_left (is_return c) (any is_return cs) p, or_left (is_blank c) (any is_blank cs) q, or_left (is_capital c) (any is_capital cs) r)
    (ap (λ (l : List ℕ). c ∷ l) (clean_same cs (or_right (is_return c) (any is_return cs) p) (or_right (is_blank c) (any is_blank cs) q) (or_right (is_capital c) (any is_capital cs) r)))

-- a cleaned line has none of them
pub record None (line : List ℕ) : Type 0 where
  pub returns : any is_return line ≡ false
  pub blanks : any is_blank line ≡ false
  pub letters : any is_capital line ≡ false

pub none_in : (line : List ℕ) → None (cleaned line)
unfolding cleaned bare any
none_in [] = record { returns = refl; blanks = refl; letters = refl }
none_in (c ∷ cs) = by (is_return c) (is_blank c) refl refl (none_in cs)
  where
    by : (r s : Bool) → is_return c ≡ r → is_blank c ≡ s → None (map lower (bare cs)) → None (map lower (cond r (bare cs) (cond s (bare cs) (c ∷ bare cs))))
    by true s p q n = n
    by false true p q n = n
    by false false p q n = record {
      returns = rw (lower_return c p) n.returns;
      blanks = rw (lower_blank c q) n.blanks;
      letters = rw (lower_capital c) n.letters;
    }

-- ---- the payload: what a frame's digits were before they were lowered is what they are
get_or_lower : (l : List ℕ) (k : ℕ) → value (get_or (map lower l) k 0) ≡ value (get_or l k 0)
get_or_lower [] k = refl
get_or_lower (c ∷ cs) zero = value_lower c
get_or_lower (c ∷ cs) (suc k) = get_or_lower cs k

pub payload_same : (line : List ℕ) → payload (cleaned line) ≡ payload (bare line)
unfolding payload byte_at cleaned
payload_same line = table_same _ _ 20 (λ k h. rw (get_or_lower (bare line) (2 * k), get_or_lower (bare line) (2 * k + 1)))

-- 40 digits in lower case are what a cleaned line of 40 digits is
lower_each : (l : List ℕ) → any is_capital l ≡ false → all is_digit l ≡ true → all is_lower l ≡ true
unfolding any
lower_each [] p q = refl
lower_each (c ∷ cs) p q =
    rw (digit_lower c (or_left (is_capital c) (any is_capital cs) p) (and_left (is_digit c) (all is_digit cs) q))
    (lower_each cs (or_right (is_capital c) (any is_capital cs) p) (and_right (is_digit c) (all is_digit cs) q))

pub frame_lower : (line : List ℕ) → is_frame (cleaned line) ≡ true → all is_lower (cleaned line) ≡ true
unfolding is_frame
frame_lower line e = lower_each (cleaned line) (none_in line).letters (and_right (eqb (length (cleaned line)) 40) (all is_digit (cleaned line)) e)

-- and such digits are clean, and 40 digits
pub lower_none : (l : List ℕ) → all is_lower l ≡ true → None l
unfolding any
lower_none [] e = record { returns = refl; blanks = refl; letters = refl }
lower_none (c ∷ cs) e =
    let p = lower_plain c (and_left (is_lower c) (all is_lower cs) e) in
    let n = lower_none cs (and_right (is_lower c) (all is_lower cs) e) in
    record { returns = rw p.no_return n.returns; blanks = rw p.no_blank n.blanks; letters = rw p.no_capital n.letters }

pub lower_digits : (l : List ℕ) → all is_lower l ≡ true → all is_digit l ≡ true
lower_digits [] e = refl
lower_digits (c ∷ cs) e = rw (lower_plain c (and_left (is_lower c) (all is_lower cs) e)).digit (lower_digits cs (and_right (is_lower c) (all is_lower cs) e))

pub lower_line : (l : List ℕ) → all is_lower l ≡ true → plain l ≡ true
lower_line [] e = refl
lower_line (c ∷ cs) e = rw (lower_plain c (and_left (is_lower c) (all is_lower cs) e)).no_newline (lower_line cs (and_right (is_lower c) (all is_lower cs) e))
