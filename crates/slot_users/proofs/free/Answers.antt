-- The place of the first that passes the test.
use borrow.Author.Rules.{rules}
use Rattle.std.specs.Prelude.{◌≡◌, eqb, length}
use Rattle.std.proofs.Common.{tests}
use Rattle.std.proofs.lemmas.Iterator.{YieldsList-from_slice}
use Rattle.std.proofs.lemmas.Iterator.Search.{position_from_yields_List}
use Rattle.slots.specs.declared.Slot.{Slot}
use Rattle.slots.specs.Slots.{no_slot}
use Rattle.slot_users.specs.Users.{free}
use Rattle.slot_users.proofs.First.{first_place}
use Rattle.slot_users.proofs.free.Goals as goal

pub returns : goal.returns
unfolding free
returns c =
    let l = c.args.slots in
    let p = λ (s : Slot). eqb s.users 0 in
    let n : length l ≡ 16 = search rules in
    rw (position_from_yields_List p _ _ c.position.result c.position.ensures.ran (YieldsList-from_slice l cc) (λ x b q k. search (rules, tests)), first_place p l no_slot, n)
