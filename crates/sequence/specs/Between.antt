-- A whole number that is not negative and lies in low..=top.
use Rattle.std.specs.Prelude.{ℕ, ◌≤◌, ◌≡◌, ℤ, pos, nat_abs}

pub record Between (low top : ℕ) (z : ℤ) : Type 0 where
  pub is : z ≡ pos (nat_abs z)
  pub least : low ≤ nat_abs z
  pub most : nat_abs z ≤ top
