-- A save from C that is accepted puts the bytes that it was lent on the shelf: an image with a NaN's pattern breaks the state rule.
use Rattle.std.specs.Prelude.{ℕ, suc, ◌≡◌, refl, Bool, true, false, List, [], eqb, ltb, length}
use Rattle.std.proofs.Common.{arith}
use Rattle.state.specs.State.{obeys}
use Rattle.image.specs.Image as Image
use Rattle.image.specs.Image.{SIZE}
use Rattle.slot_users.specs.Users.{SLOTS, free}
use Rattle.shelf.specs.Shelf as Shelf
use Rattle.shelf.specs.Shelf.{number, lent, judged}
use Rattle.desk_records.specs.Records.{records}
use Rattle.desk_shelf.specs.Calls.{save, saved_image}
use Rattle.desk_laws.specs.Runs.{Lent, exact, obeys_no_nans}

-- what is saved obeys the rule
saved_obeys : (b : List ℕ) (room : ℕ) (i : List ℕ) (f n : ℕ) → number (save b room i f n) ≡ 0 → obeys (Image.state i) ≡ true
unfolding save Shelf.save Shelf.save_lent judged number
saved_obeys b room i f n z = by (eqb (length i) SIZE) (eqb n 1) (lent (length (records b)) room) (ltb (free (records b)) SLOTS) (obeys (Image.state i)) refl refl refl refl refl
  where
    none : {A : Type 0} (x : ℕ) → number (save b room i f n) ≡ suc x → A
    none x e = absurd (let w = z in omega arith)

    by : (p q r s t : Bool) → eqb (length i) SIZE ≡ p → eqb n 1 ≡ q → lent (length (records b)) room ≡ r → ltb (free (records b)) SLOTS ≡ s → obeys (Image.state i) ≡ t → obeys (Image.state i) ≡ true
    by p q r s true ep eq er es et = et
    by false q r s false ep eq er es et = none 10 (rw ep)
    by true false r s false ep eq er es et = none 11 (rw (ep, eq))
    by true true false s false ep eq er es et = none 11 (rw (ep, eq, er))
    by true true true false false ep eq er es et = none 13 (rw (ep, eq, er, es))
    by true true true true false ep eq er es et = none 4 (rw (ep, eq, er, es, et))

pub saved_exact : (b : List ℕ) (room : ℕ) (i : List ℕ) (f n : ℕ) → Lent i → number (save b room i f n) ≡ 0 → saved_image i ≡ i
saved_exact b room i f n h z = exact i h (obeys_no_nans [] i h (saved_obeys b room i f n z))
