-- The end of the input, or a line's, or neither.
use lib.Seq.{length-take-le}
use Rattle.playback.proofs.Steps.{took_part, took_line, took_as}
use Rattle.playback.specs.Turns.{ends, takes_told, takes_open}
use mathlib.Core.Path.{refl, sym}
use native.Mathlib.Omega.{arith}
use Rattle.stream.specs.Room.{over_none}
use Rattle.playback.proofs.take.Goals as goal

pub returns-then-line-eq0 : goal.returns-then-line-eq0
returns-then-line-eq0 c =
    record {
      took = took_as _ (takes_told _ _ _ _ _ c.if-chunk-eq0.true c.if-line-eq0.true) (record { stand = refl; used = refl; long = refl; fits = omega arith; put = over_none _ });
      used = omega arith;
    }

pub returns-then-chunk-eq0 : goal.returns-then-chunk-eq0
unfolding ends
returns-then-chunk-eq0 c =
    record {
      took = took_as _ (takes_open _ _ _ _ _ c.if-chunk-eq0.true c.if-line-eq0.false) c.end_line.ensures;
      used = omega arith;
    }

pub slice_bounds-push_all-end : goal.slice_bounds-push_all-end
slice_bounds-push_all-end c = sym (length-take-le _ _ c.line_end-k.ensures.within)

pub returns-then-k-chunk : goal.returns-then-k-chunk
returns-then-k-chunk c =
    record {
      took = took_part _ _ _ _ _ _ _ _ _ c.if-chunk-eq0.false c.line_end-k.ensures.end c.push_all-more.ensures c.if-k-chunk.true;
      used = c.line_end-k.ensures.within;
    }

pub returns : goal.returns
unfolding ends
returns c =
    record {
      took = took_line _ _ _ _ _ _ _ _ _ c.if-chunk-eq0.false c.line_end-k.ensures.end c.push_all-more.ensures c.if-k-chunk.false c.end_line-2.ensures;
      used = omega arith;
    }
