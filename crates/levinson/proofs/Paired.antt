-- The numbers before top, replaced in place, a pair a turn from both ends inwards: the first n and the last n of them are u's, and the others stay.
use native.Mathlib.Omega.{arith}
use mathlib.Core.Path.{◌≡◌, refl, sym, ap, ◌∙◌}
use mathlib.Core.Bool.{Bool, true, false, cond}
use mathlib.Core.List.{List}
use Prim.Native.Nat.{ℕ, ◌+◌, ◌-◌, ◌/◌, ◌<◌, ◌≤◌}
use lib.Dec.{ltb, eqb}
use lib.IntN.{ℤ, pos}
use lib.ListN.{length, get_or, set, length-set}
use lib.Seq.{get_or-set_same, get_or-set_other}
use borrow.Author.Tests.{ltb-true, ltb-false, eqb-true, eqb-false}
use Rattle.sequence.specs.Table.{table, table_of}

module _ (u : ℕ → ℤ) (k : List ℤ) (top : ℕ) where
  pub record Paired (l : List ℤ) (n : ℕ) : Type 0 where
    pub sized : length l ≡ 10
    pub low : (j : ℕ) → j < n → j < top → get_or l j (pos 0) ≡ u j
    pub high : (j : ℕ) → j < top → top ≤ j + n → get_or l j (pos 0) ≡ u j
    pub kept : (j : ℕ) → n ≤ j → j + n < top → get_or l j (pos 0) ≡ get_or k j (pos 0)
    pub above : (j : ℕ) → top ≤ j → get_or l j (pos 0) ≡ get_or k j (pos 0)

  -- where the loop begins
  pub paired_none : length k ≡ 10 → Paired k 0
  paired_none e = record { sized = e; low = λ j p q. absurd (omega arith); high = λ j p q. absurd (omega arith); kept = λ j p q. refl; above = λ j p. refl }

  -- a turn of the loop: a goes to place n, and b as far from the other end
  module _ (l : List ℤ) (n : ℕ) (a b : ℤ) (t : top < 10) (h : n < (top + 1) / 2) (p : Paired l n) (ea : a ≡ u n) (eb : b ≡ u (top - 1 - n)) where
    abbrev m : ℕ
    m = top - 1 - n

    abbrev new : List ℤ
    new = set (set l n a) m b

    long : length (set l n a) ≡ 10
    long = length-set l n a ∙ p.sized

    other : (j : ℕ) → (j ≡ m → ⊥) → (j ≡ n → ⊥) → get_or new j (pos 0) ≡ get_or l j (pos 0)
    other j x y = get_or-set_other (set l n a) m j b (pos 0) x ∙ get_or-set_other l n j a (pos 0) y

    at_m : get_or new m (pos 0) ≡ u m
    at_m = get_or-set_same (set l n a) m b (pos 0) (omega (arith, long)) ∙ eb

    at_n : (x : Bool) → eqb n m ≡ x → get_or new n (pos 0) ≡ u n
    at_n true e = let f : n ≡ m = eqb-true n m e in ap (λ (i : ℕ). get_or new i (pos 0)) f ∙ at_m ∙ ap u (sym f)
    at_n false e = get_or-set_other (set l n a) m n b (pos 0) (eqb-false n m e) ∙ get_or-set_same l n a (pos 0) (omega (arith, p.sized)) ∙ ea

    go_low : (j : ℕ) → j < n + 1 → j < top → (x : Bool) → eqb j n ≡ x → get_or new j (pos 0) ≡ u j
    go_low j q r true e = let f : j ≡ n = eqb-true j n e in ap (λ (i : ℕ). get_or new i (pos 0)) f ∙ at_n (eqb n m) refl ∙ ap u (sym f)
    go_low j q r false e = let d : j ≡ n → ⊥ = eqb-false j n e in let s : j < n = omega (arith, d) in other j (λ f. omega (arith, f)) d ∙ p.low j s r

    go_high : (j : ℕ) → j < top → top ≤ j + (n + 1) → (x : Bool) → eqb j m ≡ x → get_or new j (pos 0) ≡ u j
    go_high j q r true e = let f : j ≡ m = eqb-true j m e in ap (λ (i : ℕ). get_or new i (pos 0)) f ∙ at_m ∙ ap u (sym f)
    go_high j q r false e = let d : j ≡ m → ⊥ = eqb-false j m e in let s : top ≤ j + n = omega (arith, d) in other j d (λ f. omega (arith, f)) ∙ p.high j q s

    pub paired_more : Paired (set (set l n a) (top - 1 - n) b) (n + 1)
    paired_more =
        record {
          sized = length-set (set l n a) m b ∙ long;
          low = λ j q r. go_low j q r (eqb j n) refl;
          high = λ j q r. go_high j q r (eqb j m) refl;
          kept = λ j q r. other j (λ e. omega (arith, e)) (λ e. omega (arith, e)) ∙ p.kept j (omega arith) (omega arith);
          above = λ j q. other j (λ e. omega (arith, e)) (λ e. omega (arith, e)) ∙ p.above j q;
        }

  -- where the loop ends
  pub paired_end : (l : List ℤ) (n : ℕ) → (top + 1) / 2 ≤ n → Paired l n → l ≡ table (λ (j : ℕ). cond (ltb j top) (u j) (get_or k j (pos 0))) 10
  paired_end l n h p = sym (table_of _ (pos 0) l 10 p.sized (λ j q. go j (ltb j top) refl))
    where
      inside : (j : ℕ) → j < top → (x : Bool) → ltb j n ≡ x → u j ≡ get_or l j (pos 0)
      inside j q true e = sym (p.low j (ltb-true j n e) q)
      inside j q false e = let s : n ≤ j = ltb-false j n e in sym (p.high j q (omega arith))

      go : (j : ℕ) (x : Bool) → ltb j top ≡ x → cond (ltb j top) (u j) (get_or k j (pos 0)) ≡ get_or l j (pos 0)
      go j true e = rw e (inside j (ltb-true j top e) (ltb j n) refl)
      go j false e = rw e (sym (p.above j (ltb-false j top e)))
