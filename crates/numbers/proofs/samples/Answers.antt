-- By turn i the first i samples are written, and the number that is at hand has been drawn i times.
use Rattle.std.proofs.Common.{◌≡◌, ◌+◌, ◌*◌, ◌%◌, suc, refl, ap, ◌∙◌, add-one, arith, length, rules}
use mir.Syntax.{w16}
use mir.Facts.{to_z-of_z}
use borrow.Author.Rules.{sfits_of}
use Rattle.sequence.specs.Repeated.{repeated, repeated_again}
use Rattle.sequence.specs.Table.{written_none, written_more, written_end}
use Rattle.questions.specs.Questions.{next, sample, sample_at}
use Rattle.numbers.proofs.samples.Goals as goal

pub loop-i-init : goal.loop-i-init
unfolding repeated
loop-i-init c = (written_none (sample_at c.args.seed) (length c.args.out.now) c.args.out.now refl, refl, omega arith)

pub loop-i-preserved : goal.loop-i-preserved
unfolding sample_at next
loop-i-preserved c =
    let t = c.loop-i in
    let a = c.args in
    let i = t.i in
    let d : (t.x * 31 + 7) % 65536 ≡ repeated (λ n y. next y) (i + 1) (a.seed % 65536) = repeated_again (λ n y. next y) i (a.seed % 65536) t.invariant.1 refl in
    let e : (t.x * 31 + 7) % 65536 ≡ repeated (λ n y. next y) (suc i) (a.seed % 65536) = rw (add-one i) at d in
    rw (to_z-of_z {w = w16} {z = c.sample.result} (sfits_of c.sample.type_inv)) (written_more (sample_at a.seed) (length a.out.now) t.out i c.sample.result t.invariant.0 (search rules) (c.sample.ensures ∙ ap (sample i) e), d, omega arith)

pub returns : goal.returns
returns c = written_end (sample_at c.args.seed) (length c.args.out.now) _ c.loop-i.i c.loop-i.invariant.0 (search rules)
