-- The four tests are those of the definition, in its order.
use borrow.Author.Rules.{rules}
use Rattle.observation.specs.Frame.{half_fits, digits_fit}
use Rattle.refusals.proofs.digits_fit.Goals as goal

pub returns-then-digits_fit-3 : goal.returns-then-digits_fit-3
unfolding digits_fit half_fits
returns-then-digits_fit-3 c = search rules

pub returns-else-digits_fit-3 : goal.returns-else-digits_fit-3
unfolding digits_fit half_fits
returns-else-digits_fit-3 c = search rules
