-- The quantised frequencies never fall and lie in 0..=25,682.
use Rattle.std.specs.Prelude.{◌≡◌, List, ℕ, zero, suc, ◌≤◌, ◌<◌, pos, get_or, ◌≤ℤ◌, Float}
use Rattle.std.proofs.Common.{ap, ⊎_elim, le_trans, le_of_eq, eq-or-lt_of_le, le_of_suc-le-suc, arith, le→leb}
use Rattle.std.specs.Int.Signed.{le_z_yes}
use Rattle.std.specs.Float.{nan}
use Rattle.floats.specs.Quantised.{quantise_le}
use Rattle.sequence.specs.Table.{get_or_table}
use Rattle.sequence.specs.Total.{total}
use Rattle.spectral.specs.Spectral.{largest_of, quantise_lsf}

pub largest_range : (lsf : List Float) (n : ℕ) → largest_of lsf n ≤ 25682
unfolding largest_of total
largest_range lsf zero = omega arith
largest_range lsf (suc n) = let h = largest_range lsf n in let q = quantise_le 25682 (get_or lsf n nan) in omega arith

largest_step : (lsf : List Float) (n : ℕ) → largest_of lsf n ≤ largest_of lsf (suc n)
unfolding largest_of total
largest_step lsf n = omega arith

pub largest_rises : (lsf : List Float) (m n : ℕ) → m ≤ n → largest_of lsf m ≤ largest_of lsf n
largest_rises lsf m zero h = let e : m ≡ 0 = omega arith in le_of_eq (ap (largest_of lsf) e)
largest_rises lsf m (suc n) h =
    ⊎_elim (λ (e : m ≡ suc n). le_of_eq (ap (largest_of lsf) e)) (λ (l : m < suc n). le_trans (largest_rises lsf m n (le_of_suc-le-suc l)) (largest_step lsf n)) (eq-or-lt_of_le h)

at_place : (lsf : List Float) (k : ℕ) → k < 10 → get_or (quantise_lsf lsf) k (pos 0) ≡ pos (largest_of lsf (suc k))
unfolding quantise_lsf
at_place lsf k h = get_or_table (λ k. pos (largest_of lsf (suc k))) 10 k (pos 0) h

pub lsf_rises : (lsf : List Float) (j k : ℕ) → j ≤ k → k < 10 → get_or (quantise_lsf lsf) j (pos 0) ≤ℤ get_or (quantise_lsf lsf) k (pos 0)
lsf_rises lsf j k h l =
    rw (at_place lsf j (omega arith), at_place lsf k l)
    (le_z_yes {a = pos (largest_of lsf (suc j))} {b = pos (largest_of lsf (suc k))} (le→leb (largest_of lsf (suc j)) (largest_of lsf (suc k)) (largest_rises lsf (suc j) (suc k) (omega arith))))

pub lsf_range : (lsf : List Float) (k : ℕ) → k < 10 → (pos 0 ≤ℤ get_or (quantise_lsf lsf) k (pos 0)) × (get_or (quantise_lsf lsf) k (pos 0) ≤ℤ pos 25682)
lsf_range lsf k l =
    let n = largest_of lsf (suc k) in
    rw (at_place lsf k l) (le_z_yes {a = pos 0} {b = pos n} (le→leb 0 n (omega arith)), le_z_yes {a = pos n} {b = pos 25682} (le→leb n 25682 (largest_range lsf (suc k))))
