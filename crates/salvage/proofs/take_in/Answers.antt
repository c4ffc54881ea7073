-- What was read is what the call was given, its texts are what was written, and how much there was says whether there may be more.
use Rattle.std.proofs.Common.{ℕ, List, ◌≡◌, refl, sym, ap, ◌∙◌, [], false, true, Result, Ok, Err, IfErr}
use lib.Dec.{ltb}
use Rattle.stream.specs.Machine.{fed_all}
use Rattle.turns.specs.declared.Told.{Told}
use Rattle.turns.specs.Turns.{of_turned}
use Rattle.repair.specs.declared.Fed.{Fed}
use Rattle.repair.specs.declared.Mender.{Mender}
use Rattle.repair.specs.Feed.{Standing, standing, answered, TookIn}
use Rattle.salvage.proofs.take_in.Goals as goal

followed : {m : Mender} {h : List ℕ} (x : Standing) → m ≡ x.mender → h ≡ x.held → standing m h ≡ x
followed x p q = rw (p, q)

if_err : {T : Type 0} (r : Result T Told) (P : Told → Type 0) → ((e : Told) → P e) → IfErr r P
if_err (Ok x) P h = tt
if_err (Err e) P h = h e

pub returns-in_err-n-clause-failed : goal.returns-in_err-n-clause-failed
unfolding fed_all
returns-in_err-n-clause-failed c = if_err _ (λ e. (x : Mender) × TookIn (standing c.args.mender c.args.held.now) (standing x c.args.held.now) 0 0 false true) (λ e. (c.args.mender, record { chunk = []; follows = refl; all_sent = λ h. cc; all_listed = λ h. cc; goes_on = λ h. cc }))

pub returns-in_err-repaired-clause-failed : goal.returns-in_err-repaired-clause-failed
unfolding answered
returns-in_err-repaired-clause-failed c =
    let f = c.answer-fed.ensures in
    if_err _ (λ e. (x : Mender) × TookIn (standing c.args.mender c.args.held.now) (standing x c.answer-fed.new.held) 0 0 false true) (λ e. (c.answer-fed.result.mender, record { chunk = _; follows = followed _ (ap (λ (x : Fed). x.mender) f.fed) f.held; all_sent = λ h. cc; all_listed = λ h. cc; goes_on = λ h. cc }))

pub returns-in_err-listed-clause-failed : goal.returns-in_err-listed-clause-failed
unfolding answered
returns-in_err-listed-clause-failed c =
    let f = c.answer-fed.ensures in
    if_err _ (λ e. (x : Mender) × TookIn (standing c.args.mender c.args.held.now) (standing x c.answer-fed.new.held) 0 0 false true) (λ e. (c.answer-fed.result.mender, record { chunk = _; follows = followed _ (ap (λ (x : Fed). x.mender) f.fed) f.held; all_sent = λ h. cc; all_listed = λ h. cc; goes_on = λ h. cc }))

pub returns-clause-took : goal.returns-clause-took
unfolding answered
returns-clause-took c =
    let f = c.answer-fed.ensures in
    rw c.after.ensures (of_turned _ _ (λ next more. TookIn (standing c.args.mender c.args.held.now) (standing next c.answer-fed.new.held) c.in_ok-repaired.repaired c.in_ok-listed.listed more false)
    (record {
      chunk = _;
      follows = followed _ (ap (λ (x : Fed). x.mender) f.fed) f.held;
      all_sent = λ e. c.in_ok-repaired.ensures ∙ sym f.fits.1 ∙ ap (λ (x : Fed). x.repaired) f.fed;
      all_listed = λ e. c.in_ok-listed.ensures ∙ sym f.list.1 ∙ ap (λ (x : Fed). x.listed) f.fed;
      goes_on = λ e. ap (λ (n : ℕ). ltb 0 n) c.in_ok-n.ensures.1;
    }))
