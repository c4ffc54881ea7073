-- The counts as the code carries them on, a line and a subframe at a time. Added says that they are the lists'.
use Rattle.std.specs.Prelude.{ℕ, ◌+◌, ◌-◌, min, max, List, [], ◌∷◌, Bool, cond, ltb, eqb, ℤ, get_or, set}
use Rattle.half.specs.declared.Clipped.{Clipped}
use Rattle.observation.specs.declared.Subframe.{Subframe}
use Rattle.tally.specs.declared.Clippings.{Clippings}
use Rattle.tally.specs.declared.Subframes.{Subframes}
use Rattle.tally.specs.declared.Tally.{Tally}
use Rattle.tally.specs.Figures.{Outcome, class, gain_index_of, code_gain_of, lag_of}

-- ---- a count: at its top it stays
abbrev pub TOP : ℕ
TOP = 18446744073709551615

unfoldable pub more : ℕ → ℕ
more n = min (n + 1) TOP

unfoldable pub plus : ℕ → ℕ → ℕ
plus n k = min (n + k) TOP

unfoldable pub more_if : ℕ → Bool → ℕ
more_if n counts = cond counts (more n) n

-- counts, one of which is one more
unfoldable pub bump : List ℕ → ℕ → List ℕ
bump counts k = set counts k (more (get_or counts k 0))

-- the place of a lag among the counts from 19 on; 126 is none
unfoldable pub lag_place : ℤ → ℕ
lag_place z = cond (ltb (lag_of z) 19) 126 (lag_of z - 19)

abbrev pub larger : ℕ → ℕ → ℕ
larger a b = max a b

-- of n numbers, whose smallest is a, and one more
unfoldable pub smaller : ℕ → ℕ → ℕ → ℕ
smaller n a b = cond (eqb n 0) b (min a b)

-- ---- subframes
unfoldable pub counted : Subframes → Subframe → Subframes
counted t s =
    record {
      n = more t.n;
      classes = bump t.classes (class s);
      lags = bump t.lags (lag_place s.lag);
      gain_indexes = bump t.gain_indexes (gain_index_of s);
      largest = larger t.largest (code_gain_of s);
      smallest = smaller t.n t.smallest (code_gain_of s);
    }

unfoldable pub counted_all : Subframes → List Subframe → Subframes
counted_all t [] = t
counted_all t (s ∷ ss) = counted_all (counted t s) ss

-- ---- what was clipped
unfoldable pub added : Clippings → Clipped → Clippings
added t c = record { prediction = plus t.prediction c.prediction; mixing = plus t.mixing c.mixing; synthesis = plus t.synthesis c.synthesis; output = plus t.output c.output }

unfoldable pub added_all : Clippings → List Clipped → Clippings
added_all t [] = t
added_all t (c ∷ cs) = added_all (added t c) cs

-- ---- lines
unfoldable pub numbered : Tally → ℕ → Tally
numbered t number =
    record {
      lines = more t.lines;
      accepted = more_if t.accepted (eqb number 0);
      refused_6 = more_if t.refused_6 (eqb number 6);
      refused_7 = more_if t.refused_7 (eqb number 7);
      refused_9 = more_if t.refused_9 (eqb number 9);
      subframes = t.subframes;
      clipped = t.clipped;
    }

unfoldable pub with_frame : Tally → List Subframe → List Clipped → Tally
with_frame t ss cs = record { lines = t.lines; accepted = t.accepted; refused_6 = t.refused_6; refused_7 = t.refused_7; refused_9 = t.refused_9; subframes = counted_all t.subframes ss; clipped = added_all t.clipped cs }

-- a line that no figure has: it ends a recording, or says that one was heard from its start
unfoldable pub uncounted : Tally → Tally
uncounted t = record { lines = more t.lines; accepted = t.accepted; refused_6 = t.refused_6; refused_7 = t.refused_7; refused_9 = t.refused_9; subframes = t.subframes; clipped = t.clipped }

-- any other
unfoldable pub with_outcome : Tally → Outcome → Tally
with_outcome t o = with_frame (numbered t o.number) o.subframes o.clipped
