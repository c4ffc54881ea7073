-- Refused before the frame is looked at, or else what the frame is answered with.
use Prim.Native.Nat.{ℕ}
use mathlib.Core.Path.{◌≡◌, sym, ap, ◌∙◌}
use mathlib.Core.List.{List}
use mathlib.Core.Bool.{true}
use lib.IntN.{ℤ}
use lib.ListN.{length}
use Rattle.tables.specs.Tables.{check}
use Rattle.tables.specs.Sound.{Sound}
use Rattle.state.specs.declared.State.{State}
use Rattle.state.specs.State.{obeys, fault}
use Rattle.calls.specs.Celp.{refusal, refused, decode, samples}
use Rattle.calls.specs.Cases.{decode_refused, samples_refused}
use Rattle.calls.specs.Checks.{checked, frame_sizes, checked_passed, refusal_checked, frame_right}
use Rattle.calls.specs.Faults.{four_set}
use Rattle.celp.proofs.decode.Goals as goal

-- n is the number that the checks gave, z that of the sizes
module _ (words : List ℤ) (bytes : List ℕ) (s : State) (payload : List ℕ) (old : List ℤ) (z n : ℕ) (ez : z ≡ frame_sizes (length payload) (length old)) (en : n ≡ checked words bytes s z) where
  is_refusal_lem : (n ≡ 0 → ⊥) → n ≡ refusal words bytes s payload (length old)
  is_refusal_lem h = refusal_checked words bytes s payload (length old) n (en ∙ ap (checked words bytes s) ez) h

  four : (n ≡ 0 → ⊥) → n ≡ 4 → check words bytes ≡ 4
  four h e = four_set words bytes s payload (length old) (sym (is_refusal_lem h) ∙ e)

  stopped : (n ≡ 0 → ⊥) → (refused n (fault n words bytes) s ≡ decode words bytes s payload (length old)) × (old ≡ samples words bytes s payload old)
  stopped h = (decode_refused words bytes s payload (length old) n (is_refusal_lem h) h, samples_refused words bytes s payload old n (is_refusal_lem h) h)

  ready : n ≡ 0 → Sound words bytes × ((obeys s ≡ true) × ((length payload ≡ 20) × (length old ≡ 320)))
  ready e =
      let p = checked_passed words bytes s z (sym en ∙ e) in
      let r = frame_right (length payload) (length old) (sym ez ∙ p.sizes_right) in
      (p.set_sound, (p.state_obeys, (r.0, r.1)))

pub fault-requires : goal.fault-requires
fault-requires c =
    four c.args.words.now c.args.bytes.now c.args.state c.args.payload.now c.args.samples.now c.told-sizes.result c.checked-why.result (c.told-sizes.ensures ∙ c.frame_sizes.ensures) c.checked-why.ensures c.if-why-ne0.true

pub returns-then-why-ne0 : goal.returns-then-why-ne0
returns-then-why-ne0 c =
    let r = stopped c.args.words.now c.args.bytes.now c.args.state c.args.payload.now c.args.samples.now c.told-sizes.result c.checked-why.result (c.told-sizes.ensures ∙ c.frame_sizes.ensures) c.checked-why.ensures c.if-why-ne0.true in
    record {
      answer = c.refused.ensures ∙ rw c.fault.ensures r.0;
      samples = r.1;
    }

pub answered-requires : goal.answered-requires
answered-requires c =
    let r = ready c.args.words.now c.args.bytes.now c.args.state c.args.payload.now c.args.samples.now c.told-sizes.result c.checked-why.result (c.told-sizes.ensures ∙ c.frame_sizes.ensures) c.checked-why.ensures c.if-why-ne0.false in
    record { fact_1 = r.0; fact_2 = r.1.0; fact_3 = r.1.1.0; fact_4 = r.1.1.1 }

pub returns : goal.returns
returns c =
    let s = c.args in
    let r = ready s.words.now s.bytes.now s.state s.payload.now s.samples.now c.told-sizes.result c.checked-why.result (c.told-sizes.ensures ∙ c.frame_sizes.ensures) c.checked-why.ensures c.if-why-ne0.false in
    record {
      answer = c.answered.ensures.answer ∙ ap (decode s.words.now s.bytes.now s.state s.payload.now) (sym r.1.1.1);
      samples = c.answered.ensures.samples;
    }
