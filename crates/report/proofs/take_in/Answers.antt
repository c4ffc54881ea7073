-- What was read is what the call was given; how much there was, and whether the recorder is full, say whether there is use in more.
use Rattle.std.proofs.Common.{ℕ, ◌≡◌, ◌∙◌, false}
use mathlib.Core.Bool.{Bool, not, ◌&&◌}
use lib.Dec.{ltb}
use Rattle.turns.specs.Turns.{of_turned}
use Rattle.term_steps.specs.Feed.{TookIn}
use Rattle.report.proofs.take_in.Goals as goal

use_in_more : (n l : ℕ) (b f t : Bool) → b ≡ ltb 0 n && not f → n ≡ l → f ≡ t → b ≡ ltb 0 l && not t
use_in_more n l b f t e h g = e ∙ rw (h, g)

pub returns : goal.returns
returns c =
    rw c.after.ensures (of_turned _ _ (λ next more. TookIn c.args.file.now c.args.recorder next more false)
    (record {
      chunk = _;
      follows = c.feed-next.ensures;
      goes_on = λ e. use_in_more _ _ _ _ _ c.goes_on.ensures c.in_ok-n.ensures.1 c.is_full-full.ensures;
    }))
