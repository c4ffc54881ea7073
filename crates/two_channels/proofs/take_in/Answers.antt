-- What was read is what the call was given, its text is what was written, and how much there was says whether there may be more.
use Rattle.std.proofs.Common.{ℕ, sym, ap, ◌∙◌, false}
use lib.Dec.{ltb}
use Rattle.turns.specs.Turns.{of_turned}
use Rattle.channel_lines.specs.declared.Fed.{Fed}
use Rattle.channel_lines.specs.Feed.{answered, TookIn}
use Rattle.two_channels.proofs.take_in.Goals as goal

pub returns : goal.returns
unfolding answered
returns c =
    let f = c.answer-fed.ensures in
    rw c.after.ensures (of_turned _ _ (λ next more. TookIn c.args.file.now c.args.recorder next c.in_ok-sent.sent more false)
    (record {
      chunk = _;
      follows = ap (λ (x : Fed). x.recorder) f.fed;
      all_sent = λ e. c.in_ok-sent.ensures ∙ sym f.fits.1 ∙ ap (λ (x : Fed). x.n) f.fed;
      goes_on = λ e. ap (λ (n : ℕ). ltb 0 n) c.in_ok-n.ensures.1;
    }))
