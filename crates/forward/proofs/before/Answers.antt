-- Forward from the start.
use mathlib.Core.Path.{ap, ◌∙◌}
use Rattle.state.specs.declared.State.{State}
use Rattle.forward.specs.Forward.{forward, before}
use Rattle.forward.proofs.before.Goals as goal

pub returns : goal.returns
unfolding forward before
returns c =
    let a = c.args in
    c.forward.ensures ∙ ap (λ (s : State). forward a.words.now a.bytes.now s a.recording.now 0 a.k) c.opening-s.ensures
