-- Refused before any frame is looked at, or else the frames one after the other.
use Prim.Native.Nat.{ℕ, ◌*◌}
use mathlib.Core.Path.{◌≡◌, sym, ap, ◌∙◌}
use mathlib.Core.List.{List}
use mathlib.Core.Bool.{true}
use lib.IntN.{ℤ}
use lib.ListN.{length}
use Rattle.tables.specs.Tables.{check}
use Rattle.tables.specs.Sound.{Sound}
use Rattle.state.specs.declared.State.{State}
use Rattle.state.specs.State.{obeys}
use Rattle.calls.specs.Checks.{checked, checked_passed, checked_four}
use Rattle.calls.specs.Frames.{frames_sizes, frames_refusal, frames_right, frames_not_four, frames_refused, frames_accepted}
use Rattle.celp.proofs.decode_frames.Goals as goal

-- n is the number that the checks gave, z that of the sizes
module _ (words : List ℤ) (bytes : List ℕ) (s : State) (payloads : List ℕ) (room answers z n : ℕ) (ez : z ≡ frames_sizes (length payloads) room answers) (en : n ≡ checked words bytes s z) where
  is_refusal_lem : n ≡ frames_refusal words bytes s payloads room answers
  unfolding frames_refusal
  is_refusal_lem = en ∙ ap (checked words bytes s) ez

  four : n ≡ 4 → check words bytes ≡ 4
  four e = checked_four words bytes s z (λ f. frames_not_four (length payloads) room answers (sym ez ∙ f)) (sym en ∙ e)

  ready : n ≡ 0 → Sound words bytes × ((obeys s ≡ true) × ((length payloads ≡ 20 * answers) × (room ≡ 320 * answers)))
  ready e =
      let p = checked_passed words bytes s z (sym en ∙ e) in
      let r = frames_right (length payloads) room answers (sym ez ∙ p.sizes_right) in
      (p.set_sound, (p.state_obeys, (r.0, r.1)))

pub fault-rule-requires : goal.fault-rule-requires
fault-rule-requires c =
    four c.args.words.now c.args.bytes.now c.args.state c.args.payloads.now (length c.args.samples.now) (length c.args.numbers.now) c.told-sizes.result c.checked-number.result (c.told-sizes.ensures ∙ c.frames_sizes.ensures) c.checked-number.ensures

pub returns-then-number-ne0 : goal.returns-then-number-ne0
returns-then-number-ne0 c =
    let s = c.args in
    let f = is_refusal_lem s.words.now s.bytes.now s.state s.payloads.now (length s.samples.now) (length s.numbers.now) c.told-sizes.result c.checked-number.result (c.told-sizes.ensures ∙ c.frames_sizes.ensures) c.checked-number.ensures in
    let r = frames_refused s.words.now s.bytes.now s.state s.payloads.now s.samples.now s.numbers.now _ f c.if-number-ne0.true in
    record {
      returned = rw (c.marked.ensures, c.fault-rule.ensures) r.0;
      samples = r.1;
      numbers = r.2;
    }

pub each-requires : goal.each-requires
each-requires c =
    let r = ready c.args.words.now c.args.bytes.now c.args.state c.args.payloads.now (length c.args.samples.now) (length c.args.numbers.now) c.told-sizes.result c.checked-number.result (c.told-sizes.ensures ∙ c.frames_sizes.ensures) c.checked-number.ensures c.if-number-ne0.false in
    record { fact_1 = c.are_words.ensures; fact_2 = r.0; fact_3 = r.1.0; fact_4 = r.1.1.0; fact_5 = r.1.1.1 }

pub returns : goal.returns
returns c =
    let s = c.args in
    let f = is_refusal_lem s.words.now s.bytes.now s.state s.payloads.now (length s.samples.now) (length s.numbers.now) c.told-sizes.result c.checked-number.result (c.told-sizes.ensures ∙ c.frames_sizes.ensures) c.checked-number.ensures in
    let r = frames_accepted s.words.now s.bytes.now s.state s.payloads.now s.samples.now s.numbers.now (sym f ∙ c.if-number-ne0.false) in
    record {
      returned = rw c.each.ensures.state r.0;
      samples = c.each.ensures.samples ∙ r.1;
      numbers = c.each.ensures.numbers ∙ r.2;
    }
