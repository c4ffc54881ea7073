-- The first lag's integer is in the range that the second's code asks; each part is what its call gave.
use mir.ValLaws.{to_z-of_z}
use borrow.Author.Rules.{rules}
use Rattle.std.specs.Prelude.{◌≡◌}
use mathlib.Core.Path.{◌∙◌, ap}
use mir.Syntax.{w16}
use Rattle.pitch.specs.declared.Lag.{Lag}
use Rattle.pitch.specs.Pitch as Pitch
use Rattle.pitch.specs.Lags.{absolute_sane, sane_integer}
use Rattle.half.specs.Core as Spec
use Rattle.half_frame.proofs.split_params.Goals as goal

pub decode_relative-next-requires : goal.decode_relative-next-requires
decode_relative-next-requires c =
    let a = c.decode_absolute-lag in
    (c.requires.relative_pitch, rw (to_z-of_z w16 a.result.integer (search rules), a.ensures) (sane_integer _ (absolute_sane _ c.requires.absolute_pitch)))

pub returns : goal.returns
unfolding Spec.split_params
returns c =
    let p = c.args.params in
    let a = c.decode_absolute-lag in
    let r : c.decode_relative-next.result ≡ Pitch.decode_relative p.relative_pitch (Pitch.decode_absolute p.absolute_pitch).integer =
    simp (to_z-of_z w16 a.result.integer (search rules)) at c.decode_relative-next.ensures ∙ ap (λ (l : Lag). Pitch.decode_relative p.relative_pitch l.integer) a.ensures in
    simp (c.interpolate_pair-pair.ensures, a.ensures, r, c.gain_index.ensures, c.gain_index-2.ensures)
