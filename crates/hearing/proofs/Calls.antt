-- What a frame's call is printed as, by the answer's number.
use Prim.Native.Nat.{ℕ, zero, suc, ◌<◌}
use mathlib.Core.Path.{◌≡◌, refl, sym, ap, ◌∙◌}
use mathlib.Core.List.{List}
use mathlib.Core.Bool.{Bool, true, false, ◌&&◌, cond, not}
use native.Mathlib.Omega.{arith}
use lib.IntN.{ℤ}
use lib.Bits.{bit_and}
use lib.Dec.{eqb, leb}
use lib.ListN.{length, get_or}
use borrow.Author.Tests.{eq-eqb, ne_eqb, leb-true}
use Rattle.sequence.specs.All.{all, and_left, and_right}
use Rattle.sequence.specs.First.{some}
use Rattle.floats.specs.Floats.{within}
use Rattle.tables.specs.Places.{WORDS, BYTES}
use Rattle.tables.specs.Tables.{broken}
use Rattle.bits.specs.Bits.{fields_of}
use Rattle.observation.specs.Frame as Frame
use Rattle.state.specs.declared.State.{State}
use Rattle.calls.specs.declared.Answer.{Answer}
use Rattle.state.specs.State.{obeys}
use Rattle.calls.specs.Celp.{refusal, refused, accepted, answer, decode, samples}
use Rattle.calls.specs.Accepted.{accepted_means}
use Rattle.calls.specs.Mark.{mark_answered}
use Rattle.calls.specs.Run.{heard, step}
use Rattle.hex_lines.specs.Text.{refused_text, frame_text}
use Rattle.heard.specs.Recording.{blank, answer_text, text}
use Rattle.heard.specs.Start.{called}

below : (b : Bool) (n x : ℕ) → n < 16 → x < 16 → cond b n x < 16
below true n x p q = p
below false n x p q = q

module _ (words : List ℤ) (bytes : List ℕ) (s : State) (payload : List ℕ) (a : Answer) (is : a ≡ decode words bytes s payload 320) where
  pub text_refused : (a.number ≡ 0 → ⊥) → text words bytes s (heard payload 320) ≡ refused_text a.number
  unfolding text answer_text
  text_refused h = rw (← is, ne_eqb a.number 0 h)

  pub text_accepted : a.number ≡ 0 → (x : List ℤ) → x ≡ samples words bytes s payload blank → text words bytes s (heard payload 320) ≡ frame_text a.mark x
  unfolding text answer_text
  text_accepted h x e = rw (← is, eq-eqb a.number 0 h, ← e)

  -- what the call is, by its text
  pub called_is : (n : ℕ) (t : List ℕ) → text words bytes s (heard payload 320) ≡ t → n ≡ length t → record { n = n; state = a.state } ≡ called words bytes s (heard payload 320)
  unfolding called step
  called_is n t e m = rw (e, is, m)

  -- the number and, of an accepted frame, the mark have one digit
  number_is : a.number ≡ refusal words bytes s payload 320
  unfolding decode answer accepted refused
  number_is = ap (λ (x : Answer). x.number) is ∙ by (refusal words bytes s payload 320)
    where
      by : (n : ℕ) → (answer n words bytes s payload).number ≡ n
      by zero = refl
      by (suc n) = refl

  pub number_small : a.number < 16
  unfolding refusal
  number_small =
      rw number_is
      (below (not (eqb (length words) WORDS && eqb (length bytes) BYTES)) 1 _ (omega arith)
      (below (not (eqb (length payload) 20)) 3 _ (omega arith)
      (below (some (broken words bytes) 7) 4 _ (omega arith)
      (below (not (obeys s)) 5 _ (omega arith)
      (below (not (eqb (bit_and (get_or payload 19 0) 0xc0) 0)) 6 _ (omega arith)
      (below (not (Frame.digits_fit words (fields_of payload))) 7 0 (omega arith) (omega arith)))))))

  pub mark_small : a.number ≡ 0 → a.mark < 16
  unfolding obeys
  mark_small h =
      let r = sym number_is ∙ h in
      let m = ap (λ (x : Answer). x.mark) is ∙ mark_answered words bytes s payload 320 r in
      let o = (accepted_means words bytes s payload 320 r).state_obeys in
      let f = all (within 131072) s.residuals in
      let g = all (within 131072) s.gains in
      let u = leb s.mark 2 && leb s.sure 2 in
      let k = leb-true s.mark 2 (and_left (leb s.mark 2) (leb s.sure 2) (and_right g u (and_right f (g && u) o))) in
      omega arith
