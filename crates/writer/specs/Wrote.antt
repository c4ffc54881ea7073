-- What a writer has when a text was put behind what it had.
use Rattle.std.specs.Prelude.{ℕ, ◌+◌, ◌≤◌, ◌≡◌, refl, List, [], ◌++◌, length}
use Rattle.std.proofs.Common.{ap, ◌∙◌, arith, length-append}
use Rattle.std.proofs.lemmas.List.Edits.{sets}
use Rattle.std.proofs.Math.Seq.{length-sets}
use Rattle.stream.specs.Room.{over, sets_append, sets_over}
use Rattle.writer.specs.declared.Writer.{Writer}

pub record Wrote (before after : Writer) (text : List ℕ) : Type 0 where
  pub same : after.room.ghost_name ≡ before.room.ghost_name
  pub next : after.n ≡ before.n + length text
  pub put : after.room.now ≡ sets before.room.now before.n text
  pub long : length after.room.now ≡ length before.room.now

-- where a text was put from n on
pub wrote : {a b : Writer} {s : List ℕ} → b.room.ghost_name ≡ a.room.ghost_name → b.n ≡ a.n + length s → b.room.now ≡ sets a.room.now a.n s → Wrote a b s
wrote {a} {b} {s} e n p = record { same = e; next = n; put = p; long = ap (λ (l : List ℕ). length l) p ∙ length-sets a.room.now a.n s }

-- a text behind a text
pub wrote_more : {a b c : Writer} {s t : List ℕ} → Wrote a b s → Wrote b c t → Wrote a c (s ++ t)
wrote_more {a} {b} {c} {s} {t} v w =
    let l = length-append s t in
    record {
      same = w.same ∙ v.same;
      next = omega (arith, v.next, w.next);
      put = w.put ∙ rw (v.put, v.next) (sets_append s t a.room.now a.n);
      long = w.long ∙ v.long;
    }

pub wrote_none : (a : Writer) → Wrote a a []
wrote_none a = record { same = refl; next = omega arith; put = refl; long = refl }

-- from the start of the room
pub wrote_over : {a b : Writer} {s : List ℕ} → Wrote a b s → a.n ≡ 0 → length s ≤ length a.room.now → (b.n ≡ length s) × (b.room.now ≡ over s a.room.now)
wrote_over {a} {b} {s} w e h = (omega (arith, w.next), w.put ∙ rw e (sets_over s a.room.now h))
