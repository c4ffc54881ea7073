-- The guarded innovation is rewritten and copied back; where nothing is to be rewritten it stays.
use borrow.Author.Rules.{rules}
use native.Mathlib.Omega.{arith}
use mathlib.Core.Path.{◌≡◌, sym, ◌∙◌, ap}
use mathlib.Core.List.{List}
use Prim.Native.Nat.{◌+◌, ◌-◌, ◌≤◌}
use lib.IntN.{ℤ}
use lib.ListN.{length, take, drop}
use lib.Seq.{take_all}
use mir.Syntax.{w16}
use mir.Val.{to_z, of_z}
use mir.ValLaws.{to_z-of_z}
use Rattle.sequence.specs.Rewritten.{rewritten}
use Rattle.pitch.specs.Pitch as Pitch
use Rattle.pitch.specs.Lags.{sane_phase, sane_delay}
use Rattle.pitch.specs.Kept.{length_sharpen, unsharpened}
use Rattle.adaptive.proofs.Taps.{length_interp}
use Rattle.adaptive.proofs.Filter.{windowed_of, sharpened_is}
use Rattle.adaptive.proofs.sharpen.Goals as goal

pub overflow_sub-first : goal.overflow_sub-first
overflow_sub-first c = rw c.delay-first.ensures (omega (arith, sane_delay c.args.lag c.requires.2))

pub returns-then-first-ge80 : goal.returns-then-first-ge80
unfolding Pitch.first
returns-then-first-ge80 c =
    let e = c.delay-first.ensures in
    sym (unsharpened (Pitch.interp c.args.words.now) c.args.code.now c.args.lag c.args.gain (rw (← e) c.if-first-ge80.true))

pub new-taps-requires : goal.new-taps-requires
new-taps-requires c = (ap length c.interp.ensures ∙ length_interp c.args.words.now c.requires.0, rw c.phase.ensures (sane_phase c.args.lag c.requires.2))

pub sharpen_from-requires : goal.sharpen_from-requires
sharpen_from-requires c =
    let r : (20 ≤ c.delay-first.result) × (c.delay-first.result ≤ 144) = rw c.delay-first.ensures (sane_delay c.args.lag c.requires.2) in
    (search rules, omega arith, omega arith)

pub returns : goal.returns
unfolding Pitch.sharpen Pitch.first
returns c =
    let a = c.args in
    let taps = Pitch.interp a.words.now in
    let first = c.delay-first.result - 10 in
    let w = windowed_of c.interp.ensures c.phase.ensures c.new-taps.ensures in
    let Z : List ℤ = rewritten (Pitch.sharpened taps (Pitch.phase a.lag) (Pitch.first a.lag) a.gain) (21 + Pitch.first a.lag) (Pitch.guarded a.code.now) (80 - Pitch.first a.lag) in
    let e : c.sharpen_from.new.buf ≡ Z =
    c.sharpen_from.ensures
    ∙ sharpened_is taps c.new-taps.result.window (Pitch.phase a.lag) w first (to_z w16 (of_z w16 a.gain)) (21 + first) c.guarded-buf.result (80 - first)
    ∙ simp (c.delay-first.ensures, c.guarded-buf.ensures, to_z-of_z w16 _ c.ranges.gain) in
    let n = length_sharpen taps a.code.now a.lag a.gain in
    c.copy_from_slice.ensures.after ∙ ap (λ (l : List ℤ). take 80 (drop 21 l)) e ∙ take_all 80 (drop 21 Z) (omega (arith, n, c.requires.1))
