use Rattle.std.proofs.Common.{◌≡◌, refl, length, eq-eqb, ne_eqb, ◌∙◌, List, eqb, Bool, true, false, Some, None, Ok, Err}
use Rattle.std.specs.Prelude.{Result, cond, ◌&&◌}
use Rattle.std.specs.Option.{ok_or}
use Rattle.refusal.specs.declared.Refusal.{Refusal}
use Rattle.refusal.specs.declared.Refusal.TheVariants.{ShelfLength}
use Rattle.slots.specs.declared.Slot.{Slot}
use Rattle.shelf.specs.Shelf.{judged, lent}
use Rattle.shelf.proofs.lent.Goals as goal

-- there are sixteen, or not
by : (b : Bool) (l : List Slot) → ok_or (cond b (Some l) None) ShelfLength ≡ cond (b && true) (Ok l) (Err ShelfLength)
by true l = refl
by false l = refl

none : (b : Bool) (l : List Slot) → ◌≡◌ {A = Result (List Slot) Refusal} (Err ShelfLength) (cond (b && false) (Ok l) (Err ShelfLength))
none true l = refl
none false l = refl

pub returns-then-room-eq-ROOM : goal.returns-then-room-eq-ROOM
unfolding judged lent
returns-then-room-eq-ROOM c =
    let l = c.args.slots.now in
    let h = c.ok_or.ensures in
    let e : c.ok_or.result ≡ ok_or c.shown.result ShelfLength = search in
    e ∙ rw (c.shown.ensures, eq-eqb _ _ c.if-room-eq-ROOM.true) (by (eqb (length l) 16) l)

pub returns-else-room-eq-ROOM : goal.returns-else-room-eq-ROOM
unfolding judged lent
returns-else-room-eq-ROOM c = rw (ne_eqb _ _ c.if-room-eq-ROOM.false) (none (eqb (length c.args.slots.now) 16) c.args.slots.now)
