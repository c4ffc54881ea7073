-- The best of the first j.
use borrow.Author.Rules.{rules}
use Rattle.std.proofs.Common.{◌≡◌, refl, ap, ◌∙◌, add-one, arith}
use Rattle.std.specs.Prelude.{option_map}
use Rattle.slot_users.specs.Users.{SLOTS}
use Rattle.best_save.specs.Best.{best_of, best_slot}
use Rattle.best_save.specs.declared.Save.{Save}
use Rattle.best_save.proofs.best.Goals as goal

pub loop-j-init : goal.loop-j-init
unfolding best_of
loop-j-init c = refl

pub loop-j-preserved : goal.loop-j-preserved
unfolding best_of
loop-j-preserved c = rw (c.better-b.ensures, add-one, c.loop-j.invariant)

pub returns : goal.returns
returns c =
    let w : c.loop-j.j ≡ SLOTS = omega arith in
    let b = c.loop-j.invariant ∙ ap (best_of c.args.k c.args.slots) w in
    let e : c.map.result ≡ option_map (λ (s : Save). s.at) c.loop-j.b = search rules in
    e ∙ ap (option_map (λ (s : Save). s.at)) b ∙ best_slot c.args.slots c.args.k
