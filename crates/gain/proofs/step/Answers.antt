-- The parts that the calls give are the definition's.
use mathlib.Core.Path.{◌≡◌, ap, ◌∙◌}
use mathlib.Core.List.{List}
use borrow.Author.Rules.{sfits_of}
use lib.IntN.{ℤ, pos}
use lib.Ieee.{Float}
use mir.Syntax.{w16}
use mir.ValLaws.{to_z-of_z}
use Rattle.gain.specs.declared.Decoded.{Decoded}
use Rattle.gain.specs.declared.CodeGainArgument.{CodeGainArgument}
use Rattle.elementary.specs.Elementary.{add}
use Rattle.gain.specs.Gain.{step, argument, code_gain_of}
use Rattle.gain.specs.Ranges.{argument_carried}
use Rattle.gain.proofs.step.Goals as goal

-- two answers of equal parts
same : (p q a b : ℤ) (h : List Float) → p ≡ q → a ≡ b → ◌≡◌ {A = Decoded} (record { pitch_gain = p; code_gain = a; gains = h }) (record { pitch_gain = q; code_gain = b; gains = h })
same p q a b h e f = λ i. record { pitch_gain = e i; code_gain = f i; gains = h }

pub code_gain-requires : goal.code_gain-requires
code_gain-requires c = rw c.argument.ensures (argument_carried _)

pub returns : goal.returns
unfolding step
returns c =
    same _ _ _ _ _ (to_z-of_z w16 c.quantise.result (sfits_of c.quantise.type_inv) ∙ c.quantise.ensures)
    (to_z-of_z w16 c.code_gain.result (sfits_of c.code_gain.type_inv)
    ∙ c.code_gain.ensures
    ∙ ap (λ (a : CodeGainArgument). pos (code_gain_of a)) c.argument.ensures
    ∙ ap (λ (x : Float). pos (code_gain_of (argument (add x c.args.correction)))) c.prediction.ensures)
