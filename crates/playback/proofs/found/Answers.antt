-- The best save, the start, or neither.
use Rattle.std.proofs.Common.{sym, ◌∙◌}
use Rattle.slot_users.specs.Held.{some_means, none_means}
use Rattle.replies.specs.Promised.{shelf}
use Rattle.playback.proofs.Steps.{found_save, found_frame, found_none}
use Rattle.playback.proofs.found.Goals as goal

pub returns-in-Some : goal.returns-in-Some
returns-in-Some c =
    let h = some_means _ _ (sym c.in-Some.ensures) in
    found_save c.args.words.now c.args.bytes.now c.args.recording.now (shelf c.args.slots c.args.images.now) c.args.k h.1 _ c.seek.ensures

pub returns-then-has_frame : goal.returns-then-has_frame
returns-then-has_frame c =
    let h = none_means _ (sym c.in_default.ensures) in
    found_frame c.args.words.now c.args.bytes.now c.args.recording.now (shelf c.args.slots c.args.images.now) c.args.k h (sym c.if-has_frame.true ∙ c.has_frame.ensures) _ c.before-then-has_frame.ensures

pub returns : goal.returns
returns c =
    let h = none_means _ (sym c.in_default.ensures) in
    found_none c.args.words.now c.args.bytes.now c.args.recording.now (shelf c.args.slots c.args.images.now) c.args.k h (sym c.if-has_frame.false ∙ c.has_frame.ensures)
