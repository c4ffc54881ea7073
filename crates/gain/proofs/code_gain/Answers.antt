-- Each arm knows the argument's case, and in the last the argument that is carried is finite.
use mathlib.Core.Path.{sym, ap, ◌∙◌, subst}
use borrow.Author.Rules.{sfits_of}
use lib.IntN.{pos}
use lib.Ieee.{Float}
use mir.Syntax.{w16}
use mir.ValLaws.{to_z-of_z}
use Rattle.floats.specs.Floats.{quantise}
use Rattle.floats.specs.Within.{within_is_finite}
use Rattle.gain.specs.Gain.{code_gain_of}
use Rattle.gain.specs.Ranges.{Carried}
use Rattle.gain.proofs.code_gain.Goals as goal

pub exp-requires : goal.exp-requires
exp-requires c = within_is_finite 16 c.in-Within.x (subst Carried c.in-Within.is c.requires)

pub returns-in-Below : goal.returns-in-Below
unfolding code_gain_of
returns-in-Below c = sym (ap (λ z. pos (code_gain_of z)) c.in-Below.is)

pub returns-in-Above : goal.returns-in-Above
unfolding code_gain_of
returns-in-Above c = sym (ap (λ z. pos (code_gain_of z)) c.in-Above.is)

pub returns-in-Within : goal.returns-in-Within
unfolding code_gain_of
returns-in-Within c =
    to_z-of_z w16 c.quantise.result (sfits_of c.quantise.type_inv)
    ∙ c.quantise.ensures
    ∙ ap (λ (x : Float). pos (quantise 32767 x)) c.exp.ensures
    ∙ sym (ap (λ z. pos (code_gain_of z)) c.in-Within.is)
