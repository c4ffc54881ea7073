-- The lent table is the definition's, of 162 places.
use Rattle.std.proofs.Common.{◌≡◌, ap, ◌∙◌, length, get_or, List, ℕ, arith}
use Rattle.receiver.specs.Receiver.{order}
use Rattle.receiver.specs.Order.{order_count, order_below}
use Rattle.receiver.proofs.place.Goals as goal

pub bounds-order-j : goal.bounds-order-j
bounds-order-j c = omega (arith, ap length c.requires.table ∙ order_count)

pub returns : goal.returns
returns c =
    let e : c.from.result ≡ get_or order c.args.j 0 = c.from.ensures ∙ ap (λ (l : List ℕ). get_or l c.args.j 0) c.requires.table in
    record { value = e; bit = omega (arith, e, order_below c.args.j c.requires.below) }
