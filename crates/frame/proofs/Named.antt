-- The index and the class of each subframe of a half.
use Rattle.std.specs.Prelude.{ℕ, List, ℤ}
use lib.Ieee.{Float}
use Rattle.bits.specs.declared.HalfParams.{HalfParams}
use Rattle.half.specs.declared.Core.{Core}
use Rattle.half.specs.Kept.{indexes_kept, classes_kept}
use Rattle.observation.specs.Frame.{lsp, half}
use Rattle.observation.specs.Named.{Named}

pub named : (words : List ℤ) (bytes : List ℕ) (core : Core) (residuals : List Float) (p : HalfParams) → Named (half words bytes core residuals p).half
unfolding half
named words bytes core residuals p =
    let l = lsp words bytes residuals p in
    record {
      index_first = (indexes_kept words bytes core l p).0;
      index_second = (indexes_kept words bytes core l p).1;
      class_first = (classes_kept words bytes core l p).0;
      class_second = (classes_kept words bytes core l p).1;
    }
