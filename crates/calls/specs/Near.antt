-- What a mark says of a receiver's state, held against the sender's before the same frame: above 0 that the last frame was the same, 2 that the last two were.
use Rattle.std.specs.Prelude.{◌≤◌, ◌≡◌, refl}
use Rattle.std.proofs.Common.{arith}
use Rattle.observation.specs.Depends as Frame
use Rattle.state.specs.declared.State.{State}
use Rattle.calls.specs.Celp.{carried}

-- two states that agree as they do after one frame that is the same, and after two
abbrev pub AfterOne : State → State → Type 0
AfterOne s t = Frame.AfterOne (carried s) (carried t) s.residuals t.residuals

abbrev pub AfterTwo : State → State → Type 0
AfterTwo s t = Frame.AfterTwo (carried s) (carried t) s.residuals t.residuals

-- a receiver's state and the sender's
pub record Near (s t : State) : Type 0 where
  pub one : 1 ≤ s.mark → AfterOne s t
  pub two : 2 ≤ s.mark → AfterTwo s t

-- a mark of 0 says nothing
pub near_zero : (s t : State) → s.mark ≡ 0 → Near s t
near_zero s t z = record { one = λ h. absurd (omega arith); two = λ h. absurd (omega arith) }

-- a state is near to itself
pub near_self : (s : State) → Near s s
near_self s = record {
  one = λ h. record { fixed = refl; lag = refl; gains = refl; residuals = refl };
  two = λ h. record { alike = record { lsp = refl; fixed = refl; lag = refl; gains = refl }; residuals = refl };
}
