-- What the end of a line and a chunk of theirs leave, by the branches of the code.
use Prim.Native.Nat.{ℕ, ◌+◌, ◌≤◌, min}
use mathlib.Core.Path.{◌≡◌, refl}
use mathlib.Core.List.{List, []}
use mathlib.Core.Bool.{Bool, true, false, cond}
use native.Mathlib.Omega.{arith}
use lib.Dec.{eqb, leb}
use lib.ListN.{length, take}
use lib.Seq.{take_all}
use borrow.Author.Tests.{eq-eqb, ne_eqb, leb-true, leb-false}
use Rattle.stream.specs.Machine.{fed_all}
use Rattle.stream.specs.Lines.{pieces}
use Rattle.verdict.specs.Verdict.{next}
use Rattle.verdict.specs.Kept.{kept, pushed}
use Rattle.verdict.specs.Round.{round, last}
use Rattle.verdict.specs.Length.{round_long}
use Rattle.judging.specs.declared.Judge.{Judge}
use Rattle.judging.specs.Talk.{end_text, again, final, ended, kept_with, more, hear_theirs, theirs_held, theirs_text}

module _ (j : Judge) (text held : List ℕ) where
  pub end_text_lem : length held ≡ 1283 → {k : ℕ} → k ≡ min j.n 1283 → round j.number (take j.said text) (take k held) (leb j.n 1283) ≡ end_text j text held
  unfolding end_text
  end_text_lem h {k} e = by (leb j.n 1283) refl
    where
      by : (t : Bool) → leb j.n 1283 ≡ t → round j.number (take j.said text) (take k held) (leb j.n 1283) ≡ round j.number (take j.said text) (take j.n held) (leb j.n 1283)
      by true q = let l = leb-true j.n 1283 q in let n : k ≡ j.n = omega arith in rw n
      by false q = let l = leb-false j.n 1283 q in rw (take_all k held (omega arith), take_all j.n held (omega arith))

module _ (j : Judge) (used : ℕ) (text held : List ℕ) where
  pub ended_again : length (end_text j text held) ≡ 0 → {n : ℕ} → n ≡ next j.number → record { judge = record { recorder = j.recorder; number = n; said = 0; n = 0; theirs = false; told = false }; used = used; n = 0 } ≡ ended j used text held
  unfolding ended
  ended_again z e = rw (z, e)

  pub ended_said : (ended j used text held).judge.said ≤ j.said
  unfolding ended
  ended_said = by (eqb (length (end_text j text held)) 0)
    where
      by : (t : Bool) → (cond t (again j) (final j)).said ≤ j.said
      by true = omega arith
      by false = omega arith

  pub ended_final : (length (end_text j text held) ≡ 0 → ⊥) → {m : ℕ} → m ≡ length (end_text j text held) → record { judge = final j; used = used; n = m } ≡ ended j used text held
  unfolding ended
  ended_final z e = rw (e, ne_eqb (length (end_text j text held)) 0 z)

module _ (j : Judge) (text held chunk : List ℕ) where
  pub theirs_last : length chunk ≡ 0 → j.n ≡ 0 → {m : ℕ} → m ≡ length (last j.number j.said) → record { judge = record { recorder = j.recorder; number = j.number; said = j.said; n = 0; theirs = true; told = true }; used = 0; n = m } ≡ hear_theirs j text held chunk
  unfolding hear_theirs
  theirs_last e z m = rw (m, eq-eqb (length chunk) 0 e, z)

  module _ (some : length chunk ≡ 0 → ⊥) {k : ℕ} (first : k ≡ length (pieces chunk).first) where
    pub theirs_more : k ≡ length chunk → {n : ℕ} → n ≡ (fed_all pushed (kept held j.n) (take k chunk)).n → record { judge = more j n; used = k; n = 0 } ≡ hear_theirs j text held chunk
    unfolding hear_theirs kept_with
    theirs_more e n = rw (n, ne_eqb (length chunk) 0 some, ← first, eq-eqb k (length chunk) e)

    pub held_some : theirs_held j held chunk ≡ (fed_all pushed (kept held j.n) (take k chunk)).held
    unfolding theirs_held kept_with
    held_some = rw (ne_eqb (length chunk) 0 some, ← first)

    pub text_more : k ≡ length chunk → theirs_text j text held chunk ≡ []
    unfolding theirs_text
    text_more e = rw (ne_eqb (length chunk) 0 some, ← first, eq-eqb k (length chunk) e)

    -- at a newline
    module _ (h : k ≡ length chunk → ⊥) {n : ℕ} (count : n ≡ (fed_all pushed (kept held j.n) (take k chunk)).n) {after : List ℕ} (line : after ≡ (fed_all pushed (kept held j.n) (take k chunk)).held) where
      pub theirs_line : ended (more j n) (k + 1) text after ≡ hear_theirs j text held chunk
      unfolding hear_theirs kept_with
      theirs_line = rw (count, line, ne_eqb (length chunk) 0 some, ← first, ne_eqb k (length chunk) h)

      pub text_line : end_text (more j n) text after ≡ theirs_text j text held chunk
      unfolding theirs_text kept_with
      text_line = rw (count, line, ne_eqb (length chunk) 0 some, ← first, ne_eqb k (length chunk) h)

-- how long what is told at the end of a line is
pub end_long : (j : Judge) (text held : List ℕ) → length (end_text j text held) ≤ 98
unfolding end_text
end_long j text held = round_long j.number (take j.said text) (take j.n held) (leb j.n 1283)
