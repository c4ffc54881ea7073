-- The part comes back with the text over its beginning.
use mathlib.Core.Path.{refl}
use Rattle.stream.specs.Room.{tail_sets}
use Rattle.stream.proofs.put_at.Goals as goal

pub returns : goal.returns
returns c =
    let s = c.before.before.before.before.before.before in
    record {
      next = refl;
      text = tail_sets s.args.room.now s.args.text.now s.args.n s.requires c.before.before.put.ensures;
    }
