-- Loops that read numbers.
use Prim.Native.Nat.{ℕ, zero, suc, ◌+◌, ◌*◌}
use mathlib.Core.Path.{◌≡◌, refl}
use mathlib.Core.List.{List, map, map-append}
use native.Mathlib.Omega.{arith}
use lib.ListN.{get_or}
use Rattle.sequence.specs.Table.{table}
use Rattle.image.specs.Bytes.{number_at}
use Rattle.image.specs.Parts.{numbers_at}

-- a loop that reads g of n numbers of w bytes each
pub two_bytes : (b : List ℕ) (i : ℕ) → get_or b i 0 + 256 * get_or b (i + 1) 0 ≡ number_at 2 b i
unfolding number_at
two_bytes b i = omega arith

module _ {A B : Type 0} (g : A → B) where
  map_table : (f : ℕ → A) (n : ℕ) → table (λ k. g (f k)) n ≡ map g (table f n)
  unfolding table
  map_table f zero = refl
  map_table f (suc n) = rw (map-append, map_table f n)

pub read_end : {B : Type 0} (g : ℕ → B) (w n : ℕ) (b : List ℕ) (at : ℕ) → table (λ k. g (number_at w b (at + w * k))) n ≡ map g (numbers_at w n b at)
unfolding numbers_at
read_end g w n b at = map_table g (λ k. number_at w b (at + w * k)) n
