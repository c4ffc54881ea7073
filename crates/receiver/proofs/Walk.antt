-- The walk along the order, digit by digit, and what the two calls answer.
use Rattle.std.specs.Prelude.{Result, ⊤}
use mathlib.Core.Path.{◌≡◌, refl, sym, ap, ◌∙◌}
use mathlib.Core.Bool.{cond}
use mathlib.Core.List.{List}
use Prim.Native.Nat.{ℕ, ◌+◌, ◌%◌, ◌<◌, ◌≤◌}
use native.Mathlib.Numerals.{add-one}
use native.Mathlib.Omega.{arith}
use lib.Dec.{eqb}
use lib.ListN.{length, get_or, drop, set, replicate, length-map, drop_of_length-le, get_or-map}
use lib.Seq.{drop-cons}
use Rattle.bits.specs.Bits.{inverted, scatter}
use Rattle.receiver.specs.Receiver.{line_of, order, values, bits_of, frame_of, write_number, write, written, read_number, read, taken}
use Rattle.receiver.specs.Order.{order_count}
use Rattle.receiver.specs.Calls.{write_told, read_told}
use Rattle.refusal.specs.declared.Refusal.{Refusal}
use Rattle.refusal.specs.Numbers.{told}

-- j digits are put at their places; with the others the bits are those of the line
pub record Putting (line out : List ℕ) (j : ℕ) : Type 0 where
  pub near : j ≤ 162
  pub rest : scatter out (drop j order) (drop j (values line)) ≡ bits_of line

pub putting_none : (line : List ℕ) → Putting line (replicate 160 0) 0
unfolding bits_of
putting_none line = record { near = omega arith; rest = refl }

-- x goes to the next place, i
pub putting_more : {line out : List ℕ} {j i x : ℕ} → Putting line out j → length line ≡ 162 → j < 162 → i ≡ get_or order j 0
    → x ≡ (get_or line j 0 % 2 + inverted i) % 2 → Putting line (set out i x) (j + 1)
putting_more {line} {out} {j} {i} {x} p l h e d =
    let n : length (values line) ≡ 162 = length-map line (λ c. c % 2) ∙ l in
    record {
      near = omega arith;
      rest = rw (add-one j, d, e)
          (rw (drop-cons order j 0 (omega (arith, order_count)), drop-cons (values line) j 0 (omega arith), get_or-map (λ c. c % 2) line j 0) at p.rest);
    }

pub putting_end : {line out : List ℕ} {j : ℕ} → Putting line out j → 162 ≤ j → out ≡ bits_of line
putting_end {line} {out} {j} p h = rw (drop_of_length-le order {i = j} (omega (arith, order_count))) at p.rest

-- ---- the calls, by their number

pub write_settled : (p out : List ℕ) (r : Result ⊤ Refusal) → write p ≡ r → (r ≡ write p) × (told r ≡ write_number p) × (cond (eqb (told r) 0) (line_of p) out ≡ written p out)
unfolding written
write_settled p out r e = let n = sym (ap told e) ∙ write_told p in (sym e, n, ap (λ (k : ℕ). cond (eqb k 0) (line_of p) out) n)

pub read_settled : (l out : List ℕ) (r : Result ⊤ Refusal) → read l ≡ r → (r ≡ read l) × (told r ≡ read_number l) × (cond (eqb (told r) 0) (frame_of l) out ≡ taken l out)
unfolding taken
read_settled l out r e = let n = sym (ap told e) ∙ read_told l in (sym e, n, ap (λ (k : ℕ). cond (eqb k 0) (frame_of l) out) n)
