-- The answer is decode's.
use mathlib.Core.Path.{◌∙◌}
use Rattle.term.proofs.Calls.{called_heard}
use Rattle.term.proofs.hear.Goals as goal

pub returns : goal.returns
returns c =
    c.answered.ensures ∙ called_heard c.args.words.now c.args.bytes.now c.args.state c.args.tally c.args.payload c.decode-a.ensures.answer
