-- A call, counted.
use Prim.Native.Nat.{ℕ}
use mathlib.Core.Path.{◌≡◌, refl}
use mathlib.Core.List.{List}
use mathlib.Core.Bool.{false}
use lib.IntN.{ℤ}
use Rattle.state.specs.declared.State.{State}
use Rattle.calls.specs.declared.Answer.{Answer}
use Rattle.state.specs.State.{missed_frame}
use Rattle.calls.specs.Celp.{decode}
use Rattle.calls.specs.Run.{heard, missed, step}
use Rattle.tally.specs.declared.Tally.{Tally}
use Rattle.tally.specs.Carried.{counted_all, added_all, numbered, with_frame, with_outcome}
use Rattle.term_steps.specs.Term.{answered, outcome}
use Rattle.term_steps.specs.Steps.{place, called}

module _ (words : List ℤ) (bytes : List ℕ) (s : State) (t : Tally) where
  pub called_heard : (payload : List ℕ) {a : Answer} → a ≡ decode words bytes s payload 320 → place false a.state (with_outcome t (answered a)) ≡ called words bytes s t (heard payload 320)
  unfolding called outcome step
  called_heard payload is = rw is

  pub called_missed : place false (missed_frame s).state (numbered t 9) ≡ called words bytes s t missed
  unfolding called outcome with_outcome with_frame counted_all added_all numbered step
  called_missed = refl
