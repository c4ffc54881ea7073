-- heard's start, with an empty tally.
use Rattle.term_steps.specs.Feed.{started}
use Rattle.term.proofs.begin.Goals as goal

pub returns : goal.returns
unfolding started
returns c =
    let b = c.begin-start.ensures in
    record {
      started = rw (b.started, c.empty-tally.ensures);
      words = b.words;
      text = b.text;
      ready = b.ready;
      fits = b.fits;
    }
