-- The library's test is the definition's.
use borrow.Author.Rules.{rules}
use Rattle.std.specs.Prelude.{◌≡◌, eqb, length, take}
use Rattle.std.specs.Cmp.Lexicographic.{pointwise}
use Rattle.std.proofs.Common.{◌∙◌}
use Rattle.commands.specs.Commands.{starts_is}
use Rattle.commands.proofs.starts.Goals as goal

pub returns : goal.returns
returns c =
    let a = c.args in
    let e : c.starts_with.result ≡ pointwise eqb a.name.now (take (length a.name.now) a.line.now) = search rules in
    e ∙ starts_is a.name.now a.line.now
