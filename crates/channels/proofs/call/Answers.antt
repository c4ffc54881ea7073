-- Two bytes, and heard's text behind them.
use Prim.Native.Nat.{◌+◌}
use mathlib.Core.Path.{◌≡◌, ap, ◌∙◌}
use native.Mathlib.Omega.{arith}
use lib.ListN.{length, length-take, length-drop, length-set}
use Rattle.stream.specs.Room.{over_long}
use Rattle.hex_lines.specs.Held.{held_line}
use Rattle.heard.specs.declared.Said.{Said}
use Rattle.heard.specs.Recording.{line_step, line_text}
use Rattle.heard.specs.Start as Start
use Rattle.channel_lines.specs.Channels.{lettered}
use Rattle.channel_lines.specs.Feed.{worth, called}
use Rattle.channel_lines.specs.Put.{stored_long, lettered_put}
use Rattle.channels.proofs.call.Goals as goal

pub bounds-out-1 : goal.bounds-out-1
bounds-out-1 c = simp length-set (omega arith)

pub slice_bounds-call-count : goal.slice_bounds-call-count
slice_bounds-call-count c = let l = stored_long c.args.out.now c.args.letter in omega arith

pub slice_bounds-call-start : goal.slice_bounds-call-start
slice_bounds-call-start c = let l = stored_long c.args.out.now c.args.letter in omega arith

pub call-said-requires : goal.call-said-requires
call-said-requires c =
    let l = stored_long c.args.out.now c.args.letter in
    simp (length-take, length-drop) (omega arith)

pub shape_of-out : goal.shape_of-out
unfolding lettered line_text Start.called
shape_of-out c =
    let s = c.args in
    let t = line_text s.words.now s.bytes.now s.state (held_line s.line) in
    let n : c.call-said.result.n ≡ length t = ap (λ (x : Said). x.n) c.call-said.ensures.said in
    let f = c.call-said.ensures.fits in
    ap length (lettered_put s.out.now s.letter t (omega arith) c.call-said.ensures.text) ∙ over_long (lettered s.letter t) s.out.now (omega arith)

pub returns : goal.returns
unfolding called lettered line_text line_step Start.called worth
returns c =
    let s = c.args in
    let t = line_text s.words.now s.bytes.now s.state (held_line s.line) in
    let e = c.call-said.ensures in
    let n : c.call-said.result.n ≡ length t = ap (λ (x : Said). x.n) e.said in
    let m : 2 + c.call-said.result.n ≡ length (lettered s.letter t) = omega arith in
    let q : c.call-said.result.state ≡ line_step s.words.now s.bytes.now s.state (held_line s.line) = ap (λ (x : Said). x.state) e.said in
    let f = e.fits in
    let p = e.paid in
    record {
      said = rw (m, q);
      text = lettered_put s.out.now s.letter t (omega arith) e.text;
      fits = omega arith;
      paid = omega arith;
    }
