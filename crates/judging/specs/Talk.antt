-- The comparison as its calls promise it: each takes what is unread of one of the two inputs, and nothing is that input's end.
use Rattle.std.specs.Prelude.{ℕ, ◌+◌, List, [], true, false, cond, eqb, ltb, leb, length, take}
use Rattle.stream.specs.Lines.{pieces}
use Rattle.stream.specs.Machine.{fed_all}
use Rattle.hex_lines.specs.Held as Held
use Rattle.heard.specs.declared.Recorder.{Recorder}
use Rattle.recording.specs.Feed as Feed
use Rattle.verdict.specs.Verdict.{next}
use Rattle.verdict.specs.Kept.{Kept, kept, pushed}
use Rattle.verdict.specs.Round.{up_to, round, last}
use Rattle.judging.specs.declared.Judge.{Judge}
use Rattle.judging.specs.declared.Heard.{Heard}

unfoldable pub begin : Recorder → Judge
begin r = record { recorder = r; number = 1; said = 0; n = 0; theirs = false; told = false }

-- ---- the recording
-- what a chunk is answered, up to its first newline
unfoldable pub ours_text : List ℕ → Judge → List ℕ → List ℕ
ours_text file j chunk = Feed.answered_text file j.recorder (take (up_to chunk) chunk)

-- at the end of the recording no line is left open
abbrev pub closed : Recorder → Recorder
closed r = record { first = r.first; state = r.state; line = Held.kept [] }

-- it is the supplier's turn where a line was answered, or none is left
unfoldable pub hear_ours : List ℕ → Judge → List ℕ → Heard
hear_ours file j chunk = record {
  judge = record {
    recorder = cond (eqb (up_to chunk) 0) (closed j.recorder) (fed_all (Feed.fed_by file) j.recorder (take (up_to chunk) chunk));
    number = j.number;
    said = length (ours_text file j chunk);
    n = j.n;
    theirs = cond (eqb (up_to chunk) 0) true (ltb 0 (length (ours_text file j chunk)));
    told = j.told;
  };
  used = up_to chunk;
  n = 0;
}

-- ---- the supplier's lines
-- what is told at the end of a line
unfoldable pub end_text : Judge → List ℕ → List ℕ → List ℕ
end_text j text held = round j.number (take j.said text) (take j.n held) (leb j.n 1283)

-- where nothing is, the next line of ours is to come
abbrev pub again : Judge → Judge
again j = record { recorder = j.recorder; number = next j.number; said = 0; n = 0; theirs = false; told = false }

abbrev pub final : Judge → Judge
final j = record { recorder = j.recorder; number = j.number; said = j.said; n = j.n; theirs = true; told = true }

unfoldable pub ended : Judge → ℕ → List ℕ → List ℕ → Heard
ended j used text held = record {
  judge = cond (eqb (length (end_text j text held)) 0) (again j) (final j);
  used = used;
  n = length (end_text j text held);
}

-- their line with the bytes of a chunk up to its first newline
unfoldable pub kept_with : Judge → List ℕ → List ℕ → Kept
kept_with j held chunk = fed_all pushed (kept held j.n) (take (length (pieces chunk).first) chunk)

abbrev pub more : Judge → ℕ → Judge
more j n = record { recorder = j.recorder; number = j.number; said = j.said; n = n; theirs = true; told = false }

unfoldable pub hear_theirs : Judge → List ℕ → List ℕ → List ℕ → Heard
hear_theirs j text held chunk =
    let k : ℕ = length (pieces chunk).first in
    cond (eqb (length chunk) 0)
    (cond (eqb j.n 0) (record { judge = final j; used = 0; n = length (last j.number j.said) }) (ended j 0 text held))
    (cond (eqb k (length chunk)) (record { judge = more j (kept_with j held chunk).n; used = k; n = 0 })
    (ended (more j (kept_with j held chunk).n) (k + 1) text (kept_with j held chunk).held))

unfoldable pub theirs_held : Judge → List ℕ → List ℕ → List ℕ
theirs_held j held chunk = cond (eqb (length chunk) 0) held (kept_with j held chunk).held

unfoldable pub theirs_text : Judge → List ℕ → List ℕ → List ℕ → List ℕ
theirs_text j text held chunk =
    cond (eqb (length chunk) 0) (cond (eqb j.n 0) (last j.number j.said) (end_text j text held))
    (cond (eqb (length (pieces chunk).first) (length chunk)) [] (end_text (more j (kept_with j held chunk).n) text (kept_with j held chunk).held))
