-- Two bytes, and the refusal behind them.
use mathlib.Core.Path.{ap, ◌∙◌}
use native.Mathlib.Omega.{arith}
use lib.ListN.{length, length-take, length-drop, length-set}
use Rattle.stream.specs.Room.{over_long}
use Rattle.hex_lines.specs.Text.{refused_text}
use Rattle.channel_lines.specs.Channels.{lettered}
use Rattle.channel_lines.specs.Put.{stored_long, lettered_put}
use Rattle.channel_lines.proofs.put_neither.Goals as goal

pub bounds-out-1 : goal.bounds-out-1
bounds-out-1 c = simp length-set (omega arith)

pub slice_bounds-put_refused-count : goal.slice_bounds-put_refused-count
slice_bounds-put_refused-count c = let l = stored_long c.args.out.now 63 in omega arith

pub slice_bounds-put_refused-start : goal.slice_bounds-put_refused-start
slice_bounds-put_refused-start c = let l = stored_long c.args.out.now 63 in omega arith

pub put_refused-requires : goal.put_refused-requires
put_refused-requires c = let l = stored_long c.args.out.now 63 in record {
  fact_1 = omega arith;
  fact_2 = simp (length-take, length-drop) (omega arith);
}

pub shape_of-out : goal.shape_of-out
unfolding lettered refused_text
shape_of-out c =
    ap length (lettered_put c.args.out.now 63 (refused_text 9) (omega arith) c.put_refused.ensures.text) ∙ over_long (lettered 63 (refused_text 9)) c.args.out.now (omega arith)

pub returns : goal.returns
returns c =
    let r = c.put_refused.ensures in
    record {
      length = omega (arith, r.length);
      text = lettered_put c.args.out.now 63 (refused_text 9) (omega arith) r.text;
    }
