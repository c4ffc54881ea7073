-- A program's turns: each goes on from what the one before left, until one is the last.
use Rattle.std.specs.Prelude.{Bool, true, false}
use Rattle.std.specs.declared.ops.ControlFlow.{ControlFlow}
use Rattle.std.specs.declared.ops.ControlFlow.TheVariants.{Continue, Break}
use Rattle.std.specs.declared.result.Result.{Result}
use Rattle.std.specs.declared.result.Result.TheVariants.{Ok}
use Rattle.std.specs.ControlFlow.{MatchControlFlow}

-- what a turn leaves: to go on with, where there may be more
abbrev pub turned : {S : Type 0} → Bool → S → ControlFlow S S
turned true s = Continue s
turned false s = Break s

-- P of what a turn leaves, and of whether there may be more
abbrev pub OfTurn : {S : Type 0} → ControlFlow S S → (S → Bool → Type 0) → Type 0
OfTurn t P = MatchControlFlow t (λ next. P next true) (λ last. P last false)

pub of_turned : {S : Type 0} (more : Bool) (s : S) (P : S → Bool → Type 0) → P s more → OfTurn (turned more s) P
of_turned true s P p = p
of_turned false s P p = p

module _ {F S E : Type 0} (turn : F → S → Result (ControlFlow S S) E → F → Type 0) where
  -- turns that `turn` allows, each from what the one before left, of the closure too, lead from a state to what the last of them leaves
  pub data TurnsTo : F → S → S → Type 0 where
    last : {f after : F} {s left : S} → turn f s (Ok (Break left)) after → TurnsTo f s left
    more : {f after : F} {s next left : S} → turn f s (Ok (Continue next)) after → TurnsTo after next left → TurnsTo f s left
