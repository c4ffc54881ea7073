-- The two ways that a start goes: refused, or not; and what a missed frame leaves.
use Prim.Native.Nat.{ℕ, zero, suc}
use Rattle.std.specs.Prelude.{◌≡◌, refl, List, ℤ}
use Rattle.tables.specs.Tables.{check}
use Rattle.state.specs.declared.State.{State}
use Rattle.state.specs.State.{all_zero, fault, initial, started_by, started, missed_frame}

module _ (words : List ℤ) (bytes : List ℕ) (m : ℕ) where
  pub started_refused : (n : ℕ) → n ≡ check words bytes → (n ≡ 0 → ⊥) → record { number = n; rule = (fault n words bytes).rule; place = (fault n words bytes).place; state = all_zero } ≡ started words bytes m
  unfolding started started_by
  started_refused zero e h = absurd (h refl)
  started_refused (suc n) e h = rw (← e)

  pub started_accepted : check words bytes ≡ 0 → record { number = 0; rule = 0; place = 0; state = initial words bytes m } ≡ started words bytes m
  unfolding started started_by
  started_accepted e = rw e

-- a missed frame leaves the mark at 0, whatever it was
pub missed_mark : (s : State) → (missed_frame s).state.mark ≡ 0
unfolding missed_frame
missed_mark s = refl
