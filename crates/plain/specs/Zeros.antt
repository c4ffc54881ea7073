-- What the count of zero residuals says of the coefficients. A step leaves the coefficient that it takes, and those behind it, as they are: so the nine residuals are those
-- of the coefficients at places 9 to 1 (`zeros-left`). A residual is 0 where the coefficient is 1 or -1, 4096 in Q12, and nowhere else (`zero-where`).
use Rattle.std.proofs.Common.{arith, mul-le-mul, add-zero, add-suc, sym, ap, ◌∙◌, le-ltb, ltb-true, ltb-false, eqb-true, ne_eqb}
use Rattle.std.specs.Prelude.{Bool, true, false, cond, List, ◌≡◌, refl, ℕ, zero, suc, ◌+◌, ◌-◌, ◌*◌, ◌≤◌, ◌<◌, ltb, eqb, ℤ, pos, nat_abs}
use Rattle.std.proofs.Math.IntN.{sub_ℕ}
use Rattle.std.proofs.lemmas.Bool.{eqb-false}
use Rattle.sequence.specs.Table.{table, get_or_table, table_same}
use Rattle.sequence.specs.Repeated.{repeated}
use Rattle.sequence.specs.Lists.{tally}
use Rattle.fixed.specs.Integers.{sub_above, sub_below}
use Rattle.reflection.specs.Reflection.{at, update_all, step, tail, reflection_coefficients, zero_residual, zero_residuals_of}
use Rattle.reflection.specs.Exponent.{residual_is}

-- ---- a step keeps what stands at its place and behind it
step_keeps : (top p : ℕ) (k : List ℤ) → top ≤ p → p < 10 → at (step top k) p ≡ at k p
unfolding step update_all
step_keeps top p k h l = get_or_table _ 10 p (pos 0) l ∙ rw (le-ltb p top h)

abbrev turn : ℕ → List ℤ → List ℤ
turn n = step (9 - n)

-- so do the steps after it
left : (k : List ℤ) (n m : ℕ) → at (repeated turn (n + m) k) (9 - n) ≡ at (repeated turn n k) (9 - n)
unfolding repeated
left k n zero = ap (λ (i : ℕ). at (repeated turn i k) (9 - n)) (add-zero n)
left k n (suc m) = ap (λ (i : ℕ). at (repeated turn i k) (9 - n)) (add-suc n m) ∙ step_keeps (9 - (n + m)) (9 - n) (repeated turn (n + m) k) (omega arith) (omega arith) ∙ left k n m

-- ---- the count sees each of the nine by itself
of_nine : (f : ℕ → ℕ) → tally f (table (λ n. n) 9) ≡ tally (λ x. x) (table f 9)
unfolding table tally
of_nine f = refl

pub zeros_left : (lpc : List ℤ) → zero_residuals_of lpc ≡ tally (λ n. zero_residual (at (reflection_coefficients lpc) (9 - n))) (table (λ n. n) 9)
unfolding zero_residuals_of reflection_coefficients
zeros_left lpc =
    let here : (n : ℕ) → n < 9 → zero_residual (at (repeated turn n (tail lpc)) (9 - n)) ≡ zero_residual (at (repeated turn 9 (tail lpc)) (9 - n)) =
    λ n h. let e : n + (9 - n) ≡ 9 = omega arith in ap zero_residual (sym (left (tail lpc) n (9 - n)) ∙ ap (λ (i : ℕ). at (repeated turn i (tail lpc)) (9 - n)) e) in
    of_nine _ ∙ ap (tally (λ x. x)) (table_same _ _ 9 here) ∙ sym (of_nine _)

-- ---- where a residual is 0
pub zero_where : (kv : ℤ) → nat_abs kv ≤ 32768 → zero_residual kv ≡ cond (eqb (nat_abs kv) 4096) 1 0
unfolding zero_residual
zero_where kv h = rw (residual_is kv h) (go (ltb a 4096) (eqb a 4096) refl refl)
  where
    a : ℕ
    a = nat_abs kv

    go : (t u : Bool) → ltb a 4096 ≡ t → eqb a 4096 ≡ u → ◌≡◌ {A = ℕ} (cond (eqb (nat_abs (sub_ℕ 1073741824 (a * a * 2 * 32))) 0) 1 0) (cond u 1 0)
    go true true t u = absurd (omega (arith, ltb-true a 4096 t, eqb-true a 4096 u))
    go true false t u =
        let l : a ≤ 4095 = omega (arith, ltb-true a 4096 t) in
        let b : a * a ≤ 16769025 = mul-le-mul l l in
        rw (sub_above 1073741824 (a * a * 2 * 32) (omega arith), ne_eqb (1073741824 - a * a * 2 * 32) 0 (λ e. omega arith))
    go false true t u = rw (eqb-true a 4096 u)
    go false false t u =
        let l : 4097 ≤ a = omega (arith, ltb-false a 4096 t, eqb-false a 4096 u) in
        let b : 16785409 ≤ a * a = mul-le-mul l l in
        rw (sub_below 1073741824 (a * a * 2 * 32) (omega arith), ne_eqb (suc (a * a * 2 * 32 - 1073741825)) 0 (λ e. omega arith))
