-- The answer's number decides between the two texts.
use borrow.Author.Rules.{rules}
use mathlib.Core.Path.{sym, ap, ◌∙◌}
use mathlib.Core.List.{List}
use Prim.Native.Nat.{ℕ}
use Rattle.stream.specs.Room.{over}
use Rattle.hex_lines.specs.Text.{refused_text}
use Rattle.hex_lines.specs.Lengths.{frame_long}
use Rattle.hearing.proofs.Calls.{number_small, mark_small, text_refused, text_accepted, called_is}
use native.Mathlib.Omega.{arith}
use Rattle.hearing.proofs.hear.Goals as goal

pub put_refused-requires : goal.put_refused-requires
put_refused-requires c =
    let a = c.decode-a in
    record {
      fact_1 = number_small c.args.words.now c.args.bytes.now c.args.state c.args.payload a.result a.ensures.answer;
      fact_2 = search rules;
    }

pub returns-then-number-ne0 : goal.returns-then-number-ne0
unfolding refused_text
returns-then-number-ne0 c =
    let a = c.decode-a in
    let p = c.put_refused.ensures in
    let t = text_refused c.args.words.now c.args.bytes.now c.args.state c.args.payload a.result a.ensures.answer c.if-number-ne0.true in
    record {
      said = called_is c.args.words.now c.args.bytes.now c.args.state c.args.payload a.result a.ensures.answer _ _ t p.length;
      text = p.text ∙ ap (λ (l : List ℕ). over l c.args.out.now) (sym t);
      fits = omega (arith, p.length);
    }

pub put_frame-requires : goal.put_frame-requires
put_frame-requires c =
    let a = c.decode-a in
    record {
      fact_1 = mark_small c.args.words.now c.args.bytes.now c.args.state c.args.payload a.result a.ensures.answer c.if-number-ne0.false;
      fact_2 = search rules;
      fact_3 = search rules;
    }

pub returns : goal.returns
returns c =
    let a = c.decode-a in
    let p = c.put_frame.ensures in
    let t = text_accepted c.args.words.now c.args.bytes.now c.args.state c.args.payload a.result a.ensures.answer c.if-number-ne0.false _ a.ensures.samples in
    record {
      said = called_is c.args.words.now c.args.bytes.now c.args.state c.args.payload a.result a.ensures.answer _ _ t (p.length ∙ sym (frame_long a.result.mark _ (search rules)));
      text = p.text ∙ ap (λ (l : List ℕ). over l c.args.out.now) (sym t);
      fits = omega (arith, p.length);
    }
