-- Digits put at places: what is read there is what was put, and what was read everywhere and put back is the same.
use Rattle.std.specs.Prelude.{◌≡◌, refl, Bool, true, false, List, [], ◌∷◌, ◌++◌, map, ℕ, zero, suc, ◌+◌, ◌%◌, ◌≤◌, ◌<◌, eqb, length, get_or, set}
use Rattle.std.proofs.Common.{ap₂, ◌∙◌, mod-lt, arith, eqb-true, eq-eqb, lit<, length-set, get_or-set_same, get_or-set_other}
use Rattle.std.proofs.lemmas.Bool.{eqb-false}
use Rattle.bits.specs.Bits.{scatter, inverted, one_if}
use Rattle.bits.specs.Digits.{Digits}
use Rattle.bits.specs.Places.{count}

-- a digit as it is read at i
abbrev read_at : ℕ → ℕ → ℕ
read_at d i = (d + inverted i) % 2

pub scatter_append : (x is js ds es : List ℕ) → length ds ≡ length is → scatter x (is ++ js) (ds ++ es) ≡ scatter (scatter x is ds) js es
scatter_append x [] js [] es e = refl
scatter_append x [] js (d ∷ ds) es e = absurd (omega arith)
scatter_append x (i ∷ is) js [] es e = absurd (omega arith)
scatter_append x (i ∷ is) js (d ∷ ds) es e = scatter_append (set x i (read_at d i)) is js ds es (omega arith)

-- a place that is none of them keeps its digit
none : (i j n : ℕ) → one_if (eqb i j) + n ≡ 0 → (i ≡ j → ⊥) × (n ≡ 0)
none i j n e = (λ w. let t = eq-eqb i j w in absurd (by t), omega arith)
  where
    by : eqb i j ≡ true → ⊥
    by t = let o : 1 + n ≡ 0 = rw t at e in omega arith

pub scatter_other : (x is ds : List ℕ) (i : ℕ) → count i is ≡ 0 → get_or (scatter x is ds) i 0 ≡ get_or x i 0
scatter_other x [] ds i e = refl
scatter_other x (j ∷ js) [] i e = refl
scatter_other x (j ∷ js) (d ∷ ds) i e =
    let n = none i j (count i js) e in
    scatter_other (set x j (read_at d j)) js ds i n.1 ∙ get_or-set_other x j i (read_at d j) 0 n.0

-- at the head of the list
self : (i : ℕ) (is : List ℕ) → count i (i ∷ is) ≤ 1 → count i is ≡ 0
self i is h = let e = eq-eqb i i refl in let o : 1 + count i is ≤ 1 = rw e at h in omega arith

-- what was put at places that are apart is read there
pub read_scatter : (n : ℕ) (x is ds : List ℕ) → n ≤ length x → ((k : ℕ) → k < length is → get_or is k 0 < n) → ((i : ℕ) → i < n → count i is ≤ 1)
    → length ds ≡ length is → Digits ds → map (λ i. read_at (get_or (scatter x is ds) i 0) i) is ≡ ds
read_scatter n x [] [] l s a e h = refl
read_scatter n x [] (d ∷ ds) l s a e h = absurd (omega arith)
read_scatter n x (i ∷ is) [] l s a e h = absurd (omega arith)
read_scatter n x (i ∷ is) (d ∷ ds) l s a e h =
    let y : List ℕ = set x i (read_at d i) in
    let small : i < n = s 0 (omega arith) in
    let put : get_or (scatter y is ds) i 0 ≡ read_at d i = scatter_other y is ds i (self i is (a i small)) ∙ get_or-set_same x i (read_at d i) 0 (omega arith) in
    ap₂ ◌∷◌ (omega (arith, h zero))
    (read_scatter n y is ds (omega (arith, length-set x i (read_at d i))) (λ k p. s (suc k) (omega arith)) (λ j p. omega (arith, a j p)) (omega arith) (λ k. h (suc k)))

-- where x has f's digit at every place that is none of them, what was read of f there and put back makes x have them all
pub scatter_read : (n : ℕ) (f : ℕ → ℕ) (x is : List ℕ) → length x ≡ n → ((i : ℕ) → f i < 2)
    → ((i : ℕ) → i < n → count i is ≡ 0 → get_or x i 0 ≡ f i)
    → (i : ℕ) → i < n → get_or (scatter x is (map (λ j. read_at (f j) j) is)) i 0 ≡ f i
scatter_read n f x [] l b h i s = h i s refl
scatter_read n f x (j ∷ js) l b h i s =
    let v : ℕ = read_at (read_at (f j) j) j in
    let back : v ≡ f j = omega (arith, b j) in
    scatter_read n f (set x j v) js (length-set x j v ∙ l) b (λ k t u. other v back k t u (eqb k j) refl) i s
  where
    other : (v : ℕ) → v ≡ f j → (k : ℕ) → k < n → count k js ≡ 0 → (t : Bool) → eqb k j ≡ t → get_or (set x j v) k 0 ≡ f k
    other v back k t u true e =
        let same : k ≡ j = eqb-true k j e in
        rw same (get_or-set_same x j v 0 (omega arith) ∙ back)
    other v back k t u false e = get_or-set_other x j k v 0 (eqb-false k j e) ∙ h k t (rw e (omega arith))

pub scatter_digits : (x is ds : List ℕ) → Digits x → Digits (scatter x is ds)
scatter_digits x [] ds h = h
scatter_digits x (i ∷ is) [] h = h
scatter_digits x (i ∷ is) (d ∷ ds) h = scatter_digits (set x i (read_at d i)) is ds (stored x i (read_at d i) h (mod-lt (d + inverted i) (lit< tt)))
  where
    stored : (l : List ℕ) (j v : ℕ) → Digits l → v < 2 → Digits (set l j v)
    stored [] j v h s k = h k
    stored (a ∷ l) zero v h s zero = s
    stored (a ∷ l) zero v h s (suc k) = h (suc k)
    stored (a ∷ l) (suc j) v h s zero = h zero
    stored (a ∷ l) (suc j) v h s (suc k) = stored l j v (λ m. h (suc m)) s k
