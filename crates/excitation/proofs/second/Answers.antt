-- Each test as its call gave it, and then the definition by cases.
use mathlib.Core.Bool.{true, false}
use mathlib.Core.Path.{◌≡◌, ◌∙◌, sym}
use mir.Syntax.{w16}
use mir.ValLaws.{to_z-of_z}
use Rattle.excitation.specs.Excitation as Excitation
use Rattle.excitation.proofs.second.Goals as goal
use Rattle.excitation.proofs.second.Goals.{After-peaky_spectrum, else-gain_was_strong-via-then-gain_was_strong+else-pitch_continues, else-gain_was_strong-via-else-gain_was_strong}

peaky_is : (c : goal.After-peaky_spectrum) → c.peaky_spectrum.result ≡ Excitation.peaky_spectrum c.args.reflection
peaky_is c = simp (to_z-of_z w16 _ c.ranges.reflection) at c.peaky_spectrum.ensures

pub returns-then-peaky_spectrum : goal.returns-then-peaky_spectrum
unfolding Excitation.second
returns-then-peaky_spectrum c =
    let t : Excitation.peaky_spectrum c.args.reflection ≡ true = sym (peaky_is c.before) ∙ c.if-peaky_spectrum.true in
    simp t

-- past the first test
pub returns-then-pitch_continues : goal.returns-then-pitch_continues
unfolding Excitation.second
returns-then-pitch_continues c =
    let flat : Excitation.peaky_spectrum c.args.reflection ≡ false = sym (simp (to_z-of_z w16 _ c.ranges.reflection) at c.peaky_spectrum.ensures) ∙ c.if-peaky_spectrum.false in
    let strong : Excitation.gain_was_strong c.args.previous_gain ≡ true = sym (simp (to_z-of_z w16 _ c.ranges.previous_gain) at c.gain_was_strong.ensures) ∙ c.if-gain_was_strong.true in
    let t : Excitation.pitch_continues c.args.lag c.args.previous_lag ≡ true = sym (simp (to_z-of_z w16 _ c.ranges.lag, to_z-of_z w16 _ c.ranges.previous_lag) at c.pitch_continues.ensures) ∙ c.if-pitch_continues.true in
    simp (flat, strong, t)

pub returns-else-gain_was_strong : goal.returns-else-gain_was_strong
unfolding Excitation.second
returns-else-gain_was_strong c =
    let flat : Excitation.peaky_spectrum c.args.reflection ≡ false = sym (simp (to_z-of_z w16 _ c.ranges.reflection) at c.peaky_spectrum.ensures) ∙ c.if-peaky_spectrum.false in
    let gain_back = to_z-of_z w16 c.args.previous_gain c.ranges.previous_gain in
    let strong_is : c.gain_was_strong.result ≡ Excitation.gain_was_strong c.args.previous_gain = simp gain_back at c.gain_was_strong.ensures in
    elim c.else-gain_was_strong.branch [
      | else-gain_was_strong-via-then-gain_was_strong+else-pitch_continues w ↦
          let strong : Excitation.gain_was_strong c.args.previous_gain ≡ true = sym strong_is ∙ w.if-gain_was_strong.true in
          let t : Excitation.pitch_continues c.args.lag c.args.previous_lag ≡ false = sym (simp (to_z-of_z w16 _ c.ranges.lag, to_z-of_z w16 _ c.ranges.previous_lag) at w.pitch_continues.ensures) ∙ w.if-pitch_continues.false in
          simp (gain_back, flat, strong, t)
      | else-gain_was_strong-via-else-gain_was_strong w ↦
          let t : Excitation.gain_was_strong c.args.previous_gain ≡ false = sym strong_is ∙ w.if-gain_was_strong.false in
          simp (gain_back, flat, t)
    ]
