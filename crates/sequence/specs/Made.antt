-- An array that `array::from_fn` makes by a closure that stays as it is: the table of what it answers.
use Prim.Native.Nat.{ℕ, zero, suc, ◌+◌, ◌<◌, ◌≤◌}
use Rattle.std.specs.Prelude.{◌≡◌, length, get_or}
use Rattle.std.specs.Array.{IsFromFnResult, IsFromFnResultFrom}
use Rattle.std.specs.Fn.{Called, Mut}
use Rattle.std.proofs.Math.Path.{refl}
use Rattle.std.proofs.Common.{sym, ◌∙◌, ap, subst, eq-or-lt_of_le, ⊎_elim}
use mathlib.Core.List.{List, [], ◌∷◌}
use native.Mathlib.Omega.{arith}
use Rattle.sequence.specs.Table.{table, table_of, length_table}

module _ {F A : Type 0} (g : Mut F (ℕ × Unit {0}) A) (f : F) (h : ℕ → A) (ys : List A) (n : ℕ) (k : (i : ℕ) (y : A) (q : F) → i < n → Called g f (i, tt) y q → (q ≡ f) × (y ≡ h i)) where
  -- from a call on
  each : (m i : ℕ) (p : F) → p ≡ f → i + m ≤ n → IsFromFnResultFrom g p ys i m → (j : ℕ) (d : A) → i ≤ j → j < i + m → h j ≡ get_or ys j d
  each zero i p e b r j d s t = absurd (omega arith)
  each (suc m) i p e b r j d s t =
      let c = k i r.1 r.0 (omega arith) (subst (λ (x : F). Called g x (i, tt) r.1 r.0) e r.3) in
      ⊎_elim (λ (w : i ≡ j). ap h (sym w) ∙ sym c.1 ∙ sym (r.2.1 d) ∙ ap (λ (x : ℕ). get_or ys x d) w)
      (λ (w : i < j). each m (i + 1) r.0 c.0 (omega arith) r.4 j d (omega arith) (omega arith))
      (eq-or-lt_of_le s)

module _ {F A : Type 0} {g : Mut F (ℕ × Unit {0}) A} {f : F} (h : ℕ → A) where
  pub table_from_fn : {ys : List A} {n : ℕ} → IsFromFnResult g f ys n → ((i : ℕ) (y : A) (q : F) → i < n → Called g f (i, tt) y q → (q ≡ f) × (y ≡ h i)) → ys ≡ table h n
  unfolding table
  table_from_fn {ys} {n} r k = by ys r.long (each g f h ys n k n 0 f refl (omega arith) r.each)
    where
      by : (zs : List A) → length zs ≡ n → ((j : ℕ) (d : A) → 0 ≤ j → j < 0 + n → h j ≡ get_or zs j d) → zs ≡ table h n
      by [] e w = ap (table h) e
      by (x ∷ xs) e w = sym (table_of h x (x ∷ xs) n e (λ j p. w j x (omega arith) (omega arith)))
