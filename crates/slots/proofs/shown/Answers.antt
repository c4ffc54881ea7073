-- Each is read as it stands.
use borrow.Author.Rules.{rules}
use Rattle.std.proofs.Common.{◌≡◌, get_or, length, eq-eqb, ne_eqb, refl}
use Rattle.sequence.specs.Made.{table_from_fn}
use Rattle.sequence.specs.Table.{table_of}
use Rattle.slots.specs.Slots.{no_slot}
use Rattle.slots.proofs.shown.Goals as goal

pub returns-then-slots-ne16 : goal.returns-then-slots-ne16
returns-then-slots-ne16 c = rw (ne_eqb _ _ c.if-slots-ne16.true)

pub returns : goal.returns
returns c =
    let l = c.args.slots.now in
    let n : length l ≡ 16 = search rules in
    rw (eq-eqb _ _ n, table_from_fn (λ k. get_or l k no_slot) c.from_fn.ensures.items (λ k y q h e. search rules), table_of (λ k. get_or l k no_slot) no_slot l 16 n (λ k h. refl))
