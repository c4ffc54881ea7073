-- What is asked at the end of a line: where that is, and what is told of the line.
use Rattle.std.specs.Prelude.{ℕ, ◌+◌, ◌-◌, List, [], Bool, cond, ◌&&◌, eqb, ltb, length, take}
use Rattle.stream.specs.Lines.{pieces}
use Rattle.verdict.specs.Verdict.{same, says, difference, added, missing, agree}

-- how much of a chunk goes up to its first newline, the newline too
unfoldable pub up_to : List ℕ → ℕ
up_to chunk = let k : ℕ = length (pieces chunk).first in cond (ltb k (length chunk)) (k + 1) k

-- a line of theirs beside the text of ours, which is empty where we have none
unfoldable pub round : ℕ → List ℕ → List ℕ → Bool → List ℕ
round number text theirs whole =
    cond (eqb (length text) 0) (added number theirs)
    (cond (whole && same (take (length text - 1) text) theirs) [] (difference number (take (length text - 1) text) theirs))

-- where they have no line more
unfoldable pub last : ℕ → ℕ → List ℕ
last number said = cond (eqb said 0) agree (says number missing)
