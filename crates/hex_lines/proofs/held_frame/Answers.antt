-- Forty bytes are the whole array.
use Rattle.std.proofs.Common.{rules, ◌≡◌, length, true≢false, sym, ◌∙◌, eq-eqb, ne_eqb, arith}
use Rattle.stream.specs.Held.{shown, shown_long, shown_whole}
use Rattle.hex_lines.specs.Text.{is_frame}
use Rattle.hex_lines.specs.Held.{held_line}
use Rattle.hex_lines.proofs.held_frame.Goals as goal

pub returns-then-line-eq40 : goal.returns-then-line-eq40
unfolding is_frame held_line
returns-then-line-eq40 c =
    let l = c.args.line in
    let z : length l.text ≡ 40 = search rules in
    let n = c.if-line-eq40.true in
    let w = shown_whole 40 l.text l.n z n in
    record {
      frame = rw (w, eq-eqb (length l.text) 40 z) c.all_digits.ensures;
      whole = λ e. (n, w);
    }

pub returns-else-line-eq40 : goal.returns-else-line-eq40
unfolding is_frame held_line
returns-else-line-eq40 c =
    let l = c.args.line in
    let z = shown_long 40 l.text l.n (search rules) in
    let o = ne_eqb l.n 40 c.if-line-eq40.false in
    record {
      frame = rw (ne_eqb (length (shown 40 l.text l.n)) 40 (λ e. c.if-line-eq40.false (omega arith))) o;
      whole = λ e. absurd (true≢false (sym e ∙ o));
    }
