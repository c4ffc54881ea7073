-- What the recording's call leaves, by the branches of the code.
use Prim.Native.Nat.{ℕ}
use mathlib.Core.Path.{◌≡◌}
use mathlib.Core.List.{List}
use mathlib.Core.Bool.{true}
use lib.Dec.{ltb}
use lib.ListN.{take}
use borrow.Author.Tests.{ne_eqb}
use Rattle.stream.specs.Machine.{fed_all}
use Rattle.heard.specs.declared.Recorder.{Recorder}
use Rattle.recording.specs.declared.Fed.{Fed}
use Rattle.recording.specs.Feed as Feed
use Rattle.verdict.specs.Round.{up_to}
use Rattle.judging.specs.declared.Judge.{Judge}
use Rattle.judging.specs.Talk.{ours_text, closed, hear_ours}

module _ (file : List ℕ) (j : Judge) (chunk : List ℕ) {k : ℕ} (u : k ≡ up_to chunk) where
  pub ours_none : k ≡ 0 → {fed : Fed} → fed ≡ Feed.answered file j.recorder (take k chunk) → {over : Recorder} → over ≡ closed fed.recorder → record { judge = record { recorder = over; number = j.number; said = fed.n; n = j.n; theirs = true; told = j.told }; used = 0; n = 0 } ≡ hear_ours file j chunk
  unfolding hear_ours ours_text Feed.answered fed_all
  ours_none z a o = rw (o, a, ← u, z)

  pub ours_some : (k ≡ 0 → ⊥) → {fed : Fed} → fed ≡ Feed.answered file j.recorder (take k chunk) → record { judge = record { recorder = fed.recorder; number = j.number; said = fed.n; n = j.n; theirs = ltb 0 fed.n; told = j.told }; used = k; n = 0 } ≡ hear_ours file j chunk
  unfolding hear_ours ours_text Feed.answered
  ours_some z a = rw (a, ← u, ne_eqb k 0 z)
