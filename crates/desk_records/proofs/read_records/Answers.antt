-- The table of what each place holds.
use borrow.Author.Rules.{rules}
use Rattle.std.proofs.Common.{◌∙◌}
use Rattle.sequence.specs.Made.{table_from_fn}
use Rattle.desk_records.specs.Records.{record_at}
use Rattle.desk_records.proofs.Loops.{all_read}
use Rattle.desk_records.proofs.read_records.Goals as goal

pub returns : goal.returns
returns c =
    let l = c.args.records.now in
    table_from_fn (record_at l) c.from_fn.ensures.items (λ k y q h e. search rules) ∙ all_read l c.requires
