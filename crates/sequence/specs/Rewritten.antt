-- A list that a loop reads and rewrites in place: from place start on, the k-th store puts g k of the list as it is by then.
use Prim.Native.Nat.{ℕ, zero, suc, ◌+◌, ◌≤◌}
use Rattle.std.specs.Prelude.{◌≡◌, length, get_or, take}
use Rattle.std.proofs.Math.Path.{refl, ap}
use Rattle.std.proofs.Common.{◌∙◌, add-one, arith}
use mathlib.Core.List.{List}
use Rattle.std.proofs.Math.ListN.{set, length-set}
use Rattle.std.proofs.Math.Seq.{take-set-le, get_or-set_other}

module _ {A : Type 0} where
  unfoldable pub rewritten : (ℕ → List A → A) → ℕ → List A → ℕ → List A
  rewritten g start l zero = l
  rewritten g start l (suc n) = set (rewritten g start l n) (start + n) (g n (rewritten g start l n))

  -- where the loop begins
  pub rewritten_none : (g : ℕ → List A → A) (start : ℕ) (l : List A) → rewritten g start l 0 ≡ l
  unfolding rewritten
  rewritten_none g start l = refl

  -- its length stays
  pub length_rewritten : (g : ℕ → List A → A) (start : ℕ) (l : List A) (n : ℕ) → length (rewritten g start l n) ≡ length l
  unfolding rewritten
  length_rewritten g start l zero = refl
  length_rewritten g start l (suc n) = simp length-set (length_rewritten g start l n)

  -- a turn of the loop: y goes to the next place of x, which is the list as it is by then
  pub rewritten_again : (g : ℕ → List A → A) (start : ℕ) (l : List A) (n : ℕ) (x : List A) (y : A) → x ≡ rewritten g start l n → y ≡ g n x → set x (start + n) y ≡ rewritten g start l (n + 1)
  unfolding rewritten
  rewritten_again g start l n x y e f = rw (add-one n) (ap (λ (z : A). set x (start + n) z) f ∙ ap (λ (t : List A). set t (start + n) (g n t)) e)

  -- where the loop ends
  pub rewritten_end : (g : ℕ → List A → A) (start : ℕ) (l : List A) {i n : ℕ} {x : List A} → i ≤ n → n ≤ i → x ≡ rewritten g start l i → x ≡ rewritten g start l n
  rewritten_end g start l {i} {n} p q e = let h : i ≡ n = omega arith in e ∙ ap (rewritten g start l) h

  -- the list sees of g only what it gives
  pub rewritten_same : (f g : ℕ → List A → A) (start : ℕ) (l : List A) (n : ℕ) → ((k : ℕ) (x : List A) → f k x ≡ g k x) → rewritten f start l n ≡ rewritten g start l n
  unfolding rewritten
  rewritten_same f g start l zero h = refl
  rewritten_same f g start l (suc n) h =
      ap (λ (x : List A). set x (start + n) (f n x)) (rewritten_same f g start l n h) ∙ ap (λ (y : A). set (rewritten g start l n) (start + n) y) (h n (rewritten g start l n))

  -- what stands before start stays
  pub take_rewritten : (g : ℕ → List A → A) (start : ℕ) (l : List A) (n : ℕ) → take start (rewritten g start l n) ≡ take start l
  unfolding rewritten
  take_rewritten g start l zero = refl
  take_rewritten g start l (suc n) = take-set-le start (rewritten g start l n) (start + n) (g n (rewritten g start l n)) (omega arith) ∙ take_rewritten g start l n

  -- and so does what stands at or behind the place that comes next
  pub get_or_rewritten_later : (g : ℕ → List A → A) (start : ℕ) (l : List A) (n k : ℕ) (d : A) → start + n ≤ k → get_or (rewritten g start l n) k d ≡ get_or l k d
  unfolding rewritten
  get_or_rewritten_later g start l zero k d h = refl
  get_or_rewritten_later g start l (suc n) k d h =
      get_or-set_other (rewritten g start l n) (start + n) k (g n (rewritten g start l n)) d (λ e. omega arith) ∙ get_or_rewritten_later g start l n k d (omega arith)
