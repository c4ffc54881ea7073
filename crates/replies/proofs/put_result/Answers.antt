-- A name and a number, or a refusal's line.
use Rattle.replies.proofs.Steps.{put_line}
use Rattle.replies.proofs.put_result.Goals as goal

pub returns-in-Ok : goal.returns-in-Ok
returns-in-Ok c =
    let e = c.from.ensures in
    rw c.in-Ok.is (put_line c.args.name.now c.in-Ok.value c.args.room.now c.requires.name_fits c.requires.room_fits (rw e at c.put_figure.ensures.next) (rw e at c.put_figure.ensures.text))
