-- The words and bytes are the file's.
use Rattle.heard.specs.Start.{part_bytes}
use Rattle.term.proofs.feed.Goals as goal

pub returns : goal.returns
returns c =
    let s = c.before.before.before.before in
    let file = s.args.file.now in
    rw (s.requires.are, part_bytes file s.requires.long) at c.take_in.ensures
