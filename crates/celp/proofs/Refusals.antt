-- What is known of a frame that no test refuses.
use Prim.Native.Nat.{ℕ}
use mathlib.Core.Path.{◌≡◌, refl, sym, ap, ◌∙◌}
use mathlib.Core.List.{List}
use mathlib.Core.Bool.{true}
use lib.IntN.{ℤ}
use lib.ListN.{length}
use Rattle.tables.specs.Sound.{Sound}
use Rattle.tables.specs.declared.Fault.{Fault}
use Rattle.bits.specs.declared.FrameParams.{FrameParams}
use Rattle.bits.specs.Bits.{unpack, fields, fields_of}
use Rattle.bits.specs.Widths.{InWidths, within_names, fields_within}
use Rattle.observation.specs.Frame as Frame
use Rattle.state.specs.declared.State.{State}
use Rattle.state.specs.State.{obeys, fault}
use Rattle.calls.specs.Celp.{refusal, refused, carried, decoded, accepted, decode, samples}
use Rattle.calls.specs.Cases.{decode_refused, decode_accepted, samples_refused, samples_accepted}
use Rattle.calls.specs.Accepted.{accepted_means}
use Rattle.calls.specs.Checks.{spoilt, refusal_spoilt, spoilt_told, in_order}

-- what is known where a frame is decoded, and what comes of it: n is what its payload is refused with, f the fields that were read
pub record Ready (words : List ℤ) (bytes : List ℕ) (s : State) (payload : List ℕ) (old : List ℤ) (f : FrameParams) : Type 0 where
  pub first_within : InWidths f.first
  pub second_within : InWidths f.second
  pub digits_fit_lem : Frame.digits_fit words f ≡ true
  pub answered : accepted s.mark s.sure (Frame.decode words bytes (carried s) s.residuals f) ≡ decode words bytes s payload 320
  pub left : Frame.samples words bytes (carried s) s.residuals f ≡ samples words bytes s payload old

module _ (words : List ℤ) (bytes : List ℕ) (s : State) (payload : List ℕ) (old : List ℤ) (k : Sound words bytes) (o : obeys s ≡ true) (p : length payload ≡ 20) (r : length old ≡ 320) (n : ℕ) (e : n ≡ spoilt words payload) where
  pub ready : (f : FrameParams) → n ≡ 0 → f ≡ fields (unpack payload) → Ready words bytes s payload old f
  unfolding decoded
  ready f z q =
      let none : refusal words bytes s payload 320 ≡ 0 = refusal_spoilt words bytes s payload 320 k o p refl ∙ sym e ∙ z in
      let a = accepted_means words bytes s payload 320 none in
      let g : f ≡ fields_of payload = q ∙ in_order payload p a.no_padding in
      let w = within_names (fields_of payload) (fields_within payload) in
      record {
        first_within = rw g w.0;
        second_within = rw g w.1;
        digits_fit_lem = rw g a.digits_fit_lem;
        answered = rw g (decode_accepted words bytes s payload 320 none);
        left = rw g (samples_accepted words bytes s payload old (refusal_spoilt words bytes s payload (length old) k o p r ∙ sym e ∙ z));
      }

  -- and what comes of one that is refused
  pub stopped : (n ≡ 0 → ⊥) → (refused n (record { rule = 0; place = 0 }) s ≡ decode words bytes s payload 320) × (old ≡ samples words bytes s payload old)
  stopped h =
      let told : fault n words bytes ≡ record { rule = 0; place = 0 } = ap (λ (m : ℕ). fault m words bytes) e ∙ spoilt_told words bytes payload in (
        ap (λ (t : Fault). refused n t s) (sym told) ∙ decode_refused words bytes s payload 320 n (e ∙ sym (refusal_spoilt words bytes s payload 320 k o p refl)) h,
        samples_refused words bytes s payload old n (e ∙ sym (refusal_spoilt words bytes s payload (length old) k o p r)) h,
      )
