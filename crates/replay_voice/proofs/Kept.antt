-- No number of a list is negative after a store of one that is not.
use Prim.Native.Nat.{ℕ, zero, suc}
use mathlib.Core.List.{List, [], ◌∷◌}
use lib.IntN.{ℤ, pos}
use lib.Signed.{◌≤ℤ◌}
use lib.ListN.{get_or, set}

pub kept : (l : List ℤ) (i k : ℕ) (x : ℤ) → pos 0 ≤ℤ x → pos 0 ≤ℤ get_or l k (pos 0) → pos 0 ≤ℤ get_or (set l i x) k (pos 0)
kept [] i k x p h = h
kept (y ∷ l) zero zero x p h = p
kept (y ∷ l) zero (suc k) x p h = h
kept (y ∷ l) (suc i) zero x p h = h
kept (y ∷ l) (suc i) (suc k) x p h = kept l i k x p h
