-- Demand 2 over two calls: the second frame is decoded by its own fields from what the first one left, and its samples are its own, whatever the buffer held.
use Rattle.std.specs.Prelude.{ℕ, ◌≡◌, List, ℤ, length}
use Rattle.std.proofs.Math.Path.{refl, sym, ap}
use Rattle.std.proofs.Common.{◌∙◌}
use Rattle.bits.specs.Bits.{fields_of}
use Rattle.observation.specs.declared.Decoded.{Decoded}
use Rattle.observation.specs.Frame as Frame
use Rattle.sure.specs.Sure.{after}
use Rattle.state.specs.declared.State.{State}
use Rattle.calls.specs.declared.Answer.{Answer}
use Rattle.calls.specs.Celp.{refusal, raised, carried, next, decoded, accepted, decode, written, samples}
use Rattle.calls.specs.Cases.{decode_accepted}

-- how sure the excitation behind a frame is
abbrev sure : State → Decoded → ℕ
sure s d = (after s.mark s.sure d.pitch_gains).left

module _ (words : List ℤ) (bytes : List ℕ) (s : State) (one two : List ℕ) (old : List ℤ) where
  -- what the first frame leaves, and the state that its call returns
  abbrev pub first : Decoded
  first = Frame.decode words bytes (carried s) s.residuals (fields_of one)

  abbrev pub between : State
  between = (decode words bytes s one (length old)).state

  module _ (a : refusal words bytes s one (length old) ≡ 0) (b : refusal words bytes between two (length old) ≡ 0) where
    -- the state that is handed on is what the first frame left
    pub handed_on : between ≡ next first (raised s.mark) (sure s first)
    unfolding accepted decoded
    handed_on = ap (λ (x : Answer). x.state) (sym (decode_accepted words bytes s one (length old) a))

    pub second_answer : decode words bytes between two (length old) ≡ accepted (raised s.mark) (sure s first) (Frame.decode words bytes first.core first.residuals (fields_of two))
    unfolding accepted decoded carried next
    second_answer =
        let h : between ≡ next first (raised s.mark) (sure s first) = ap (λ (x : Answer). x.state) (sym (decode_accepted words bytes s one (length old) a)) in
        sym (decode_accepted words bytes between two (length old) b) ∙ ap (λ (t : State). accepted t.mark t.sure (decoded words bytes t two)) h

    pub second_samples : samples words bytes between two old ≡ Frame.samples words bytes first.core first.residuals (fields_of two)
    unfolding accepted decoded carried next samples written
    second_samples =
        let h : between ≡ next first (raised s.mark) (sure s first) = ap (λ (x : Answer). x.state) (sym (decode_accepted words bytes s one (length old) a)) in
        let e : samples words bytes between two old ≡ Frame.samples words bytes (carried between) between.residuals (fields_of two) = rw b refl in
        e ∙ ap (λ (t : State). Frame.samples words bytes (carried t) t.residuals (fields_of two)) h
