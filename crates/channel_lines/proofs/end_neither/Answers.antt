-- Each channel's missed frame, and the line.
use Rattle.channel_lines.proofs.end_neither.Goals as goal

pub returns : goal.returns
returns c =
    let e = c.put_neither.ensures in
    record {
      length = e.length;
      a = c.missed-missed_a.ensures;
      b = c.missed-missed_b.ensures;
      text = e.text;
    }
