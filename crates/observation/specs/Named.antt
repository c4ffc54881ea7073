-- A premise of proofs: what the gain index and the class of both subframes of a half keep to, so that each has a float of its own.
use Rattle.std.specs.Prelude.{◌<◌, ◌≤◌}
use Rattle.half.specs.declared.Half.{Half}

pub record Named (x : Half) : Type 0 where
  pub index_first : x.first.gain_index < 128
  pub index_second : x.second.gain_index < 128
  pub class_first : x.first.code_class ≤ 5
  pub class_second : x.second.code_class ≤ 5
