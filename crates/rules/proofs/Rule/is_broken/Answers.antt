-- Each arm is its rule's.
use borrow.Author.Rules.{rules}
use Rattle.tables.specs.Tables as Tables
use Rattle.rules.proofs.Rule.is_broken.Goals as goal

pub returns-in-Limit : goal.returns-in-Limit
unfolding Tables.broken Tables.count Tables.bad
returns-in-Limit c = rw c.in-Limit.is (c.some.ensures (Tables.limit_bad c.args.words.now) (λ k r h e. search rules))

pub returns-in-Pulses : goal.returns-in-Pulses
unfolding Tables.broken Tables.count Tables.bad
returns-in-Pulses c = rw c.in-Pulses.is (c.some-in-Pulses.ensures (Tables.pulses_bad c.args.words.now) (λ k r h e. search rules))

pub returns-in-Selector : goal.returns-in-Selector
unfolding Tables.broken Tables.count Tables.bad
returns-in-Selector c = rw c.in-Selector.is (c.some-in-Selector.ensures (Tables.selector_bad c.args.words.now) (λ k r h e. search rules))

pub returns-in-Position : goal.returns-in-Position
unfolding Tables.broken Tables.count Tables.bad
returns-in-Position c = rw c.in-Position.is (c.some-in-Position.ensures (Tables.position_bad c.args.words.now) (λ k r h e. search rules))

pub returns-in-Entry : goal.returns-in-Entry
unfolding Tables.broken Tables.count Tables.bad
returns-in-Entry c = rw c.in-Entry.is (c.some-in-Entry.ensures (Tables.entry_bad c.args.words.now) (λ k r h e. search rules))

pub returns-in-Float : goal.returns-in-Float
unfolding Tables.broken Tables.count Tables.bad
returns-in-Float c = rw c.in-Float.is (c.some-in-Float.ensures (Tables.float_bad c.args.bytes.now) (λ k r h e. search rules))
