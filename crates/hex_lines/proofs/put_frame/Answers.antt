-- Two stores, the samples' and one more are the whole text.
use mathlib.Core.Path.{refl}
use lib.ListN.{length-set}
use Rattle.hex_lines.specs.Text.{sample_text}
use Rattle.hex_lines.specs.Stores.{frame_stores, frame_same}
use native.Mathlib.Omega.{arith}
use Rattle.hex_lines.proofs.put_frame.Goals as goal

pub bounds-out-1 : goal.bounds-out-1
bounds-out-1 c = simp length-set (omega arith)

pub put_samples-requires : goal.put_samples-requires
put_samples-requires c = simp length-set (omega arith)

pub shape_of-out : goal.shape_of-out
shape_of-out c =
    rw c.put_samples.ensures (frame_same c.args.out.now c.digit.result (sample_text c.args.samples.now))

pub returns : goal.returns
returns c =
    record {
      length = refl;
      text = rw (c.put_samples.ensures, c.digit.ensures) (frame_stores c.args.out.now c.args.mark c.args.samples.now c.requires.fact_2 c.requires.fact_3);
    }
