-- A line is refused exactly for another length, another character, or a 1 at positions 80 to 83.
use Rattle.std.specs.Prelude.{◌≡◌, refl, Bool, true, false, cond, ◌&&◌, ◌↔◌, List, [], ◌∷◌, ℕ, suc, ◌+◌, ◌-◌, ◌<◌, ◌≤◌, leb, eqb, length, get_or, take, drop}
use Rattle.std.proofs.Common.{sym, ◌∙◌, true≢false, ⊎_elim, eq-or-lt_of_le, arith, eqb-true, leb-true, length-take, length-drop, get_or-take, get_or-drop}
use Rattle.std.proofs.lemmas.Bool.{eqb-false}
use Rattle.sequence.specs.All.{all, all_at, and_left, and_right}
use Rattle.receiver.specs.Receiver.{up_to, is_line, read_number}

-- what is wrong with a line
pub data Fault (l : List ℕ) : Type 0 where
  other_length : (length l ≡ 162 → ⊥) → Fault l
  other_character : (j : ℕ) → j < length l → (get_or l j 0 ≡ 48 → ⊥) → (get_or l j 0 ≡ 49 → ⊥) → Fault l
  reserved_one : (j : ℕ) → 80 ≤ j → j < 84 → get_or l j 0 ≡ 49 → Fault l

-- ---- of an accepted line

up_to_lem : (top c : ℕ) → up_to top c ≡ true → (48 ≤ c) × (c ≤ top)
up_to_lem top c e = (leb-true 48 c (and_left (leb 48 c) (leb c top) e), leb-true c top (and_right (leb 48 c) (leb c top) e))

module _ (l : List ℕ) (e : is_line l ≡ true) where
  both : (length l ≡ 162) × (all (up_to 49) l ≡ true) × (all (up_to 48) (take 4 (drop 80 l)) ≡ true)
  unfolding is_line
  both =
      let rest = and_right (eqb (length l) 162) (all (up_to 49) l && all (up_to 48) (take 4 (drop 80 l))) e in
      (eqb-true (length l) 162 (and_left (eqb (length l) 162) _ e), and_left (all (up_to 49) l) _ rest, and_right (all (up_to 49) l) _ rest)

  pub line_length : length l ≡ 162
  line_length = both.0

  pub line_digit : (j : ℕ) → j < 162 → (48 ≤ get_or l j 0) × (get_or l j 0 ≤ 49)
  line_digit j h = up_to_lem 49 (get_or l j 0) (all_at (up_to 49) l 0 both.1 j (omega (arith, line_length)))

  pub line_reserved : (j : ℕ) → 80 ≤ j → j < 84 → get_or l j 0 ≡ 48
  line_reserved j p q =
      let k : ℕ = j - 80 in
      let n : 80 + k ≡ j = omega arith in
      let c : ℕ = get_or (take 4 (drop 80 l)) k 0 in
      let t = up_to_lem 48 c (all_at (up_to 48) (take 4 (drop 80 l)) 0 both.2 k (simp (length-take, length-drop) (omega (arith, line_length)))) in
      let s : c ≡ get_or l j 0 = get_or-take 4 (drop 80 l) k 0 (omega arith) ∙ get_or-drop 80 l k 0 ∙ rw n in
      omega arith

-- ---- of a refused one

-- an element that fails the test
all_not : (f : ℕ → Bool) (l : List ℕ) → all f l ≡ false → (k : ℕ) × (k < length l) × (f (get_or l k 0) ≡ false)
all_not f [] e = absurd (true≢false e)
all_not f (x ∷ xs) e = by (f x) refl e (λ q. all_not f xs q)
  where
    by : (b : Bool) → f x ≡ b → b && all f xs ≡ false → (all f xs ≡ false → (k : ℕ) × (k < length xs) × (f (get_or xs k 0) ≡ false))
        → (k : ℕ) × (k < suc (length xs)) × (f (get_or (x ∷ xs) k 0) ≡ false)
    by false p q r = (0, omega arith, p)
    by true p q r = let w = r q in (suc w.0, omega arith, w.2)

pub refused_for : (l : List ℕ) → read_number l ≡ 10 → Fault l
unfolding read_number is_line
refused_for l e = by (eqb (length l) 162) (all (up_to 49) l) (all (up_to 48) (take 4 (drop 80 l))) refl refl refl e
  where
    by : (s t u : Bool) → eqb (length l) 162 ≡ s → all (up_to 49) l ≡ t → all (up_to 48) (take 4 (drop 80 l)) ≡ u → ◌≡◌ {A = ℕ} (cond (s && (t && u)) 0 10) 10 → Fault l
    by false t u p q r e = other_length (eqb-false (length l) 162 p)
    by true false u p q r e =
        let w = all_not (up_to 49) l q in
        other_character w.0 w.1 (λ z. true≢false (rw z at w.2)) (λ z. true≢false (rw z at w.2))
    by true true false p q r e =
        let w = all_not (up_to 48) (take 4 (drop 80 l)) r in
        let k : ℕ = w.0 in
        let n : length l ≡ 162 = eqb-true (length l) 162 p in
        let h : k < 4 = omega (arith, length-take 4 (drop 80 l), length-drop 80 l, w.1) in
        let c : ℕ = get_or l (80 + k) 0 in
        let s : get_or (take 4 (drop 80 l)) k 0 ≡ c = get_or-take 4 (drop 80 l) k 0 h ∙ get_or-drop 80 l k 0 in
        let d = up_to_lem 49 c (all_at (up_to 49) l 0 q (80 + k) (omega arith)) in
        reserved_one (80 + k) (omega arith) (omega arith)
        (⊎_elim (λ (z : 48 ≡ c). absurd (true≢false (rw (s, ← z) at w.2))) (λ (z : 48 < c). omega arith) (eq-or-lt_of_le d.0))
    by true true true p q r e = absurd (omega arith)

fault_not : (l : List ℕ) → is_line l ≡ true → Fault l → ⊥
fault_not l e (other_length n) = n (line_length l e)
fault_not l e (other_character j h a b) =
    let d = line_digit l e j (omega (arith, line_length l e)) in
    ⊎_elim (λ (z : 48 ≡ get_or l j 0). a (sym z)) (λ (z : 48 < get_or l j 0). b (omega arith)) (eq-or-lt_of_le d.0)
fault_not l e (reserved_one j p q o) = omega (arith, line_reserved l e j p q)

pub fault_refused : (l : List ℕ) → Fault l → read_number l ≡ 10
unfolding read_number
fault_refused l f = by (is_line l) refl
  where
    by : (b : Bool) → is_line l ≡ b → ◌≡◌ {A = ℕ} (cond b 0 10) 10
    by true e = absurd (fault_not l e f)
    by false e = refl

-- so exactly the lines with a fault are refused
pub refused_exactly : (l : List ℕ) → (read_number l ≡ 10) ↔ Fault l
refused_exactly l = (refused_for l, fault_refused l)
