-- The records after it, and its line.
use borrow.Author.Rules.{rules}
use Rattle.std.proofs.Common.{◌≡◌, sym, ap, ◌∙◌, ℕ}
use Rattle.stream.specs.Decimal.{figure}
use Rattle.replies.specs.Replies.{let_go_word, answered, answer_line, valued, answered_told}
use Rattle.replies.specs.Promised.{put_as}
use Rattle.replies.proofs.let_go.Goals as goal

pub returns : goal.returns
returns c =
    let k = c.args.k in
    let d = c.let_go-answer.ensures in
    let e : c.map.result ≡ valued k c.let_go-answer.result = search rules in
    let t = ap (λ (n : ℕ). answered n (figure let_go_word k)) (sym d.answer) ∙ answered_told let_go_word k c.let_go-answer.result ∙ ap (answer_line let_go_word) (sym e) in
    record { slots = d.slots; silent = c.silence.ensures; put = put_as t c.put_result.ensures }
