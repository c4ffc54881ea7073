-- Each turn sees that the class at k is not reached; class 0 always is.
use native.Mathlib.Omega.{arith}
use Rattle.code_index.proofs.Classes.{above_none, above_more, above_found}
use Rattle.code_index.proofs.class_of.Goals as goal

pub loop-k-init : goal.loop-k-init
loop-k-init c = above_none c.args.words.now c.args.index

pub loop-k-preserved : goal.loop-k-preserved
loop-k-preserved c = above_more c.args.words.now c.args.index c.loop-k.k (omega arith) c.loop-k.invariant (omega arith)

pub returns-then-unsigned_word-index : goal.returns-then-unsigned_word-index
returns-then-unsigned_word-index c = above_found c.args.words.now c.args.index c.loop-k.k c.loop-k.invariant (omega arith)
