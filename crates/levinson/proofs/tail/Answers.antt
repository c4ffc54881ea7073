-- The array that the library makes is the table of its items.
use borrow.Author.Rules.{rules}
use Prim.Native.Nat.{◌+◌}
use lib.IntN.{pos}
use lib.ListN.{get_or}
use Rattle.sequence.specs.Made.{table_from_fn}
use Rattle.reflection.specs.Reflection as Levinson
use Rattle.levinson.proofs.tail.Goals as goal

pub returns : goal.returns
unfolding Levinson.tail
returns c = table_from_fn (λ n. get_or c.args.lpc (n + 1) (pos 0)) c.from_fn.ensures.items (λ k y q h e. search rules)
