-- By the match's keys.
use Rattle.std.proofs.Common.{◌≢◌, arith}
use borrow.Author.Tests.{ne_eqb}
use mathlib.Core.Logic.{⊎_elim}
use Rattle.bits.specs.Bits.{inverted}
use Rattle.bits.proofs.inverted.Goals as goal

pub returns-in-79 : goal.returns-in-79
unfolding inverted
returns-in-79 c = (rw c.in-79.is, omega arith)

pub returns-in-83 : goal.returns-in-83
unfolding inverted
returns-in-83 c = (⊎_elim (λ e. rw e) (λ e. rw e) c.in-83.is, omega arith)

pub returns-in_default : goal.returns-in_default
unfolding inverted
returns-in_default c =
    let a : c.args.i ≢ 79 = omega arith in
    let b : c.args.i ≢ 83 = grind arith in
    let d : c.args.i ≢ 85 = grind arith in
    (simp (ne_eqb _ 79 a, ne_eqb _ 83 b, ne_eqb _ 85 d), omega arith)
