-- Sizes: of a sum, and of an entry of the cosine table.
use native.Mathlib.Omega.{arith}
use mathlib.Core.Path.{◌≡◌, refl}
use mathlib.Core.Bool.{Bool, true, false, cond}
use Prim.Native.Nat.{ℕ, suc, ◌+◌, ◌-◌, ◌/◌, ◌≤◌}
use lib.Dec.{ltb}
use lib.IntN.{ℤ, pos, negsuc, sub_ℕ, ◌+ℤ◌}
use lib.Signed.{mag}
use borrow.Author.Tests.{ltb-false}
use Rattle.lsp.specs.Lsp as Lsp

mag_subℕ : (a b : ℕ) → mag (sub_ℕ a (suc b)) ≤ a + b
mag_subℕ a b = go (ltb a (suc b)) refl
  where
    go : (t : Bool) → ltb a (suc b) ≡ t → mag (cond t (negsuc (suc b - suc a)) (pos (a - suc b))) ≤ a + b
    go true t = omega arith
    go false t = omega arith

pub mag_add : (a b : ℤ) → mag (a +ℤ b) ≤ mag a + mag b + 1
mag_add (pos a) (pos b) = omega arith
mag_add (pos a) (negsuc b) = omega (arith, mag_subℕ a b)
mag_add (negsuc a) (pos b) = omega (arith, mag_subℕ b a)
mag_add (negsuc a) (negsuc b) = omega arith

pub entry_le : (p : ℕ) → Lsp.entry p ≤ 63
unfolding Lsp.entry
entry_le p = go (ltb 63 (p / 256)) refl
  where
    go : (t : Bool) → ltb 63 (p / 256) ≡ t → cond t 63 (p / 256) ≤ 63
    go true t = omega arith
    go false t = omega (arith, ltb-false 63 (p / 256) t)
