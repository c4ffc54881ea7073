-- The report's text.
use Rattle.std.specs.Prelude.{ℕ, ◌+◌, ◌≡◌, refl, List, [], ◌∷◌, ◌++◌, cond}
use Rattle.stream.specs.Decimal.{decimal, decimal_in, figure}
use Rattle.tally.specs.declared.Clippings.{Clippings}
use Rattle.tally.specs.declared.Subframes.{Subframes}
use Rattle.tally.specs.declared.Tally.{Tally}
use Rattle.tally.specs.Figures.{full}

-- a line of a name and two numbers, as `lag 19 0`
unfoldable pub row : List ℕ → ℕ → ℕ → List ℕ
row name k n = name ++ (decimal k ++ figure (32 ∷ []) n)

-- a row for each count, the first of which is that of number k
unfoldable pub rows : List ℕ → ℕ → List ℕ → List ℕ
rows name k [] = []
rows name k (n ∷ ns) = row name k n ++ rows name (k + 1) ns

-- `lag 19 0`, `lag 20 5`
two_lags : rows (108 ∷ 97 ∷ 103 ∷ 32 ∷ []) 19 (0 ∷ 5 ∷ []) ≡ 108 ∷ 97 ∷ 103 ∷ 32 ∷ 49 ∷ 57 ∷ 32 ∷ 48 ∷ 10 ∷ 108 ∷ 97 ∷ 103 ∷ 32 ∷ 50 ∷ 48 ∷ 32 ∷ 53 ∷ 10 ∷ []
unfolding rows row figure decimal decimal_in
two_lags = refl

-- ---- names, each with the blank behind it
-- `accepted`
abbrev pub accepted_name : List ℕ
accepted_name = 97 ∷ 99 ∷ 99 ∷ 101 ∷ 112 ∷ 116 ∷ 101 ∷ 100 ∷ 32 ∷ []

-- `refused 6`
abbrev pub refused6 : List ℕ
refused6 = 114 ∷ 101 ∷ 102 ∷ 117 ∷ 115 ∷ 101 ∷ 100 ∷ 32 ∷ 54 ∷ 32 ∷ []

-- `refused 7`
abbrev pub refused7 : List ℕ
refused7 = 114 ∷ 101 ∷ 102 ∷ 117 ∷ 115 ∷ 101 ∷ 100 ∷ 32 ∷ 55 ∷ 32 ∷ []

-- `refused 9`
abbrev pub refused9 : List ℕ
refused9 = 114 ∷ 101 ∷ 102 ∷ 117 ∷ 115 ∷ 101 ∷ 100 ∷ 32 ∷ 57 ∷ 32 ∷ []

-- `class`
abbrev pub class_name : List ℕ
class_name = 99 ∷ 108 ∷ 97 ∷ 115 ∷ 115 ∷ 32 ∷ []

-- `lag`
abbrev pub lag_name : List ℕ
lag_name = 108 ∷ 97 ∷ 103 ∷ 32 ∷ []

-- `gain index`
abbrev pub index_name : List ℕ
index_name = 103 ∷ 97 ∷ 105 ∷ 110 ∷ 32 ∷ 105 ∷ 110 ∷ 100 ∷ 101 ∷ 120 ∷ 32 ∷ []

-- `clipped prediction`
abbrev pub prediction_name : List ℕ
prediction_name = 99 ∷ 108 ∷ 105 ∷ 112 ∷ 112 ∷ 101 ∷ 100 ∷ 32 ∷ 112 ∷ 114 ∷ 101 ∷ 100 ∷ 105 ∷ 99 ∷ 116 ∷ 105 ∷ 111 ∷ 110 ∷ 32 ∷ []

-- `clipped mixing`
abbrev pub mixing_name : List ℕ
mixing_name = 99 ∷ 108 ∷ 105 ∷ 112 ∷ 112 ∷ 101 ∷ 100 ∷ 32 ∷ 109 ∷ 105 ∷ 120 ∷ 105 ∷ 110 ∷ 103 ∷ 32 ∷ []

-- `clipped synthesis`
abbrev pub synthesis_name : List ℕ
synthesis_name = 99 ∷ 108 ∷ 105 ∷ 112 ∷ 112 ∷ 101 ∷ 100 ∷ 32 ∷ 115 ∷ 121 ∷ 110 ∷ 116 ∷ 104 ∷ 101 ∷ 115 ∷ 105 ∷ 115 ∷ 32 ∷ []

-- `clipped output`
abbrev pub output_name : List ℕ
output_name = 99 ∷ 108 ∷ 105 ∷ 112 ∷ 112 ∷ 101 ∷ 100 ∷ 32 ∷ 111 ∷ 117 ∷ 116 ∷ 112 ∷ 117 ∷ 116 ∷ 32 ∷ []

-- `largest code gain`
abbrev pub largest_name : List ℕ
largest_name = 108 ∷ 97 ∷ 114 ∷ 103 ∷ 101 ∷ 115 ∷ 116 ∷ 32 ∷ 99 ∷ 111 ∷ 100 ∷ 101 ∷ 32 ∷ 103 ∷ 97 ∷ 105 ∷ 110 ∷ 32 ∷ []

-- `smallest code gain`
abbrev pub smallest_name : List ℕ
smallest_name = 115 ∷ 109 ∷ 97 ∷ 108 ∷ 108 ∷ 101 ∷ 115 ∷ 116 ∷ 32 ∷ 99 ∷ 111 ∷ 100 ∷ 101 ∷ 32 ∷ 103 ∷ 97 ∷ 105 ∷ 110 ∷ 32 ∷ []

-- `stopped at 4294967295 lines`, a line
abbrev pub stopped : List ℕ
stopped = 115 ∷ 116 ∷ 111 ∷ 112 ∷ 112 ∷ 101 ∷ 100 ∷ 32 ∷ 97 ∷ 116 ∷ 32 ∷ 52 ∷ 50 ∷ 57 ∷ 52 ∷ 57 ∷ 54 ∷ 55 ∷ 50 ∷ 57 ∷ 53 ∷ 32 ∷ 108 ∷ 105 ∷ 110 ∷ 101 ∷ 115 ∷ 10 ∷ []

-- ---- the report
-- `accepted N`, `refused 6 N`, `refused 7 N`, `refused 9 N`
unfoldable pub number_lines : Tally → List ℕ
number_lines t =
    figure accepted_name t.accepted
    ++ (figure refused6 t.refused_6
    ++ (figure refused7 t.refused_7
    ++ figure refused9 t.refused_9))

-- `clipped prediction N`, `clipped mixing N`, `clipped synthesis N`, `clipped output N`
unfoldable pub clipped_lines : Clippings → List ℕ
clipped_lines c =
    figure prediction_name c.prediction
    ++ (figure mixing_name c.mixing
    ++ (figure synthesis_name c.synthesis
    ++ figure output_name c.output))

-- `largest code gain N`, `smallest code gain N`
unfoldable pub gain_lines : Subframes → List ℕ
gain_lines s = figure largest_name s.largest ++ figure smallest_name s.smallest

-- what was clipped, and the code gains
unfoldable pub last_lines : Subframes → Clippings → List ℕ
last_lines s c = clipped_lines c ++ gain_lines s

-- `class C N`, `lag L N`, `gain index G N`, and those
unfoldable pub subframe_lines : Subframes → Clippings → List ℕ
subframe_lines s c =
    rows class_name 0 s.classes
    ++ (rows lag_name 19 s.lags
    ++ (rows index_name 0 s.gain_indexes
    ++ last_lines s c))

unfoldable pub report : Tally → List ℕ
report t = number_lines t ++ (subframe_lines t.subframes t.clipped ++ cond (full t) stopped [])
