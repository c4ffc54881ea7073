-- heard's start, with its state for each channel.
use Rattle.channel_lines.specs.Feed.{from, started}
use Rattle.channels.proofs.begin.Goals as goal

pub returns : goal.returns
unfolding from started
returns c =
    let b = c.begin-start.ensures in
    record { started = rw (b.started, c.empty-line.ensures); words = b.words; text = b.text; ready = b.ready; fits = b.fits }
