-- Each array that the library makes is the table of its items.
use borrow.Author.Rules.{rules}
use Prim.Native.Nat.{◌+◌}
use mathlib.Core.Path.{◌≡◌}
use Rattle.sequence.specs.Table.{table}
use Rattle.sequence.specs.Made.{table_from_fn}
use Rattle.tables.specs.Places.{OUT_FIR, OUT_IIR}
use Rattle.tables.specs.Tables.{word}
use Rattle.output_filter.specs.Postfilter as Postfilter
use Rattle.sections.proofs.taps_of.Goals as goal

pub returns : goal.returns
unfolding Postfilter.taps_of table
returns c =
    let ff : c.from_fn.result ≡ table (λ k. word c.args.words.now (OUT_FIR + k)) 4 = table_from_fn (λ k. word c.args.words.now (OUT_FIR + k)) c.from_fn.ensures.items (λ k y q h e. search rules) in
    let fb : c.from_fn-2.result ≡ table (λ k. word c.args.words.now (OUT_IIR + k)) 3 = table_from_fn (λ k. word c.args.words.now (OUT_IIR + k)) c.from_fn-2.ensures.items (λ k y q h e. search rules) in
    λ i. record { ff = ff i; fb = fb i }
