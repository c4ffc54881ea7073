-- The digits are found from the last pulse's down: what a loop at k has done, k counting down to 0.
use Prim.Native.Nat.{ℕ, zero, suc, ◌+◌, ◌-◌, ◌/◌, ◌^◌, ◌≤◌, ◌<◌}
use mathlib.Core.Path.{◌≡◌, refl, sym, ap, ◌∙◌}
use mathlib.Core.List.{List, [], ◌∷◌}
use mathlib.Core.Bool.{cond}
use native.Mathlib.Omega.{arith}
use lib.Dec.{ltb}
use lib.IntN.{ℤ, pos}
use lib.ListN.{length, get_or, drop, set, length-set}
use lib.Seq.{drop-cons, drop-set-lt, get_or-set_same}
use Rattle.sequence.specs.Repeated.{repeated_none, repeated_again}
use Rattle.sequence.specs.Table.{table, length_table}
use Rattle.code_index.specs.Ranges.{decompose_at}
use Rattle.code_index.specs.Codebook.{pulses, quotient, remainder, above, digit, decompose}

-- a list whose end from suc j on is t's, with t's element put at j
drop_more : (l t : List ℤ) (j : ℕ) (v : ℤ) → j < length l → j < length t → drop (suc j) l ≡ drop (suc j) t → v ≡ get_or t j (pos 0) → drop j (set l j v) ≡ drop j t
drop_more l t j v p q e f =
    let h : j < length (set l j v) = rw (length-set l j v) p in
    drop-cons (set l j v) j (pos 0) h
    ∙ ap (λ (x : ℤ). x ∷ drop (suc j) (set l j v)) (get_or-set_same l j v (pos 0) p ∙ f)
    ∙ ap (λ (m : List ℤ). get_or t j (pos 0) ∷ m) (drop-set-lt (suc j) l j v (omega arith) ∙ e)
    ∙ sym (drop-cons t j (pos 0) q)

-- above the pulses there is 0
drop_none : (p : ℕ) (f : ℕ → ℤ) → 2 ≤ p → p ≤ 3 → drop p (pos 0 ∷ pos 0 ∷ pos 0 ∷ []) ≡ drop p (table (λ k. cond (ltb k p) (f k) (pos 0)) 3)
unfolding table
drop_none zero f l g = absurd (omega arith)
drop_none (suc zero) f l g = absurd (omega arith)
drop_none (suc (suc zero)) f l g = refl
drop_none (suc (suc (suc zero))) f l g = refl
drop_none (suc (suc (suc (suc p)))) f l g = absurd (omega arith)

module _ (words : List ℤ) (class rest : ℕ) where
  abbrev n : ℕ
  n = pulses words class

  -- x is what is left of the number, and the digits from k on are written
  abbrev pub Found : ℕ → ℤ → List ℤ → Type 0
  Found k x l = (k ≤ n) × (length l ≡ 3) × (x ≡ above words class rest (n - k)) × (drop k l ≡ drop k (decompose words class rest))

  pub found_none : 2 ≤ n → n ≤ 3 → Found n (pos (rest / 2 ^ n)) (pos 0 ∷ pos 0 ∷ pos 0 ∷ [])
  unfolding above decompose
  found_none l g =
      let e : n - n ≡ 0 = omega arith in
      (omega arith, refl, rw e (sym (repeated_none _ _)), drop_none n (digit words class rest) l g)

  pub found_more : (k : ℕ) (x y v : ℤ) (l : List ℤ) → 1 ≤ k → n ≤ 3 → Found k x l → v ≡ remainder words class (k - 1) x → y ≡ quotient words class (k - 1) x → Found (k - 1) y (set l (k - 1) v)
  unfolding above decompose digit
  found_more k x y v l p g i e f =
      let j : ℕ = k - 1 in
      let t : List ℤ = decompose words class rest in
      let s : suc j ≡ k = omega arith in
      let m : n - suc j ≡ n - k = omega arith in
      let a : (n - k) + 1 ≡ n - j = omega arith in
      let b : n - suc (n - k) ≡ j = omega arith in
      let z = length_table (λ q. cond (ltb q n) (digit words class rest q) (pos 0)) 3 in
      let d : get_or t j (pos 0) ≡ digit words class rest j = decompose_at words class rest j (omega arith) (omega arith) in
      let w : v ≡ get_or t j (pos 0) = e ∙ ap (remainder words class j) (i.2 ∙ ap (above words class rest) (sym m)) ∙ sym d in
      let u : y ≡ above words class rest (n - j) =
      rw a at (repeated_again (λ q. quotient words class (n - suc q)) (n - k) (pos (rest / 2 ^ n)) i.2 (f ∙ ap (λ (q : ℕ). quotient words class q x) (sym b))) in
      (omega arith, length-set l j v ∙ i.1, u, drop_more l t j v (omega arith) (omega arith) (rw s i.3) w)

  pub found_end : (k : ℕ) (x : ℤ) (l : List ℤ) → k ≤ 0 → Found k x l → l ≡ decompose words class rest
  found_end zero x l h i = i.3
  found_end (suc k) x l h i = absurd (omega arith)

-- an index without its two or three signs is below 2 ^ 14
pub small : (p rest : ℕ) → 2 ≤ p → p ≤ 3 → rest < 65536 → rest / 2 ^ p < 16384
small zero rest l g h = absurd (omega arith)
small (suc zero) rest l g h = absurd (omega arith)
small (suc (suc zero)) rest l g h = omega arith
small (suc (suc (suc zero))) rest l g h = omega arith
small (suc (suc (suc (suc p)))) rest l g h = absurd (omega arith)
