-- What acceptance means. It depends on the tables and the payload alone, for a state that obeys the rule.
use Rattle.std.specs.Prelude.{ℕ, suc, refl, List, Bool, not, cond, ◌&&◌, ℤ, length, get_or}
use Rattle.std.proofs.Math.Path.{◌≡◌}
use Rattle.std.proofs.Math.Bool.{true, false}
use native.Mathlib.Omega.{arith}
use borrow.Author.Tests.{eqb-true, not-false}
use Rattle.std.specs.Int.Bits.{bit_and}
use Rattle.std.proofs.Math.Dec.{eqb}
use Rattle.sequence.specs.All.{and_left, and_right}
use Rattle.sequence.specs.First.{some}
use Rattle.tables.specs.Places.{WORDS, BYTES}
use Rattle.tables.specs.Tables.{broken}
use Rattle.tables.specs.Rules.{obeys}
use Rattle.tables.specs.Sound.{Sound}
use Rattle.bits.specs.Bits.{fields_of}
use Rattle.observation.specs.Frame as Frame
use Rattle.state.specs.declared.State.{State}
use Rattle.state.specs.State as State
use Rattle.calls.specs.Celp.{refusal}

pub record Accepted (words : List ℤ) (bytes : List ℕ) (s : State) (payload : List ℕ) (room : ℕ) : Type 0 where
  pub set_sound : Sound words bytes
  pub samples_long : room ≡ 320
  pub payload_long : length payload ≡ 20
  pub state_obeys : State.obeys s ≡ true
  pub no_padding : bit_and (get_or payload 19 0) 0xc0 ≡ 0
  pub digits_fit_lem : Frame.digits_fit words (fields_of payload) ≡ true

-- one test that did not refuse
pub passed : (b : Bool) (n x : ℕ) → cond b (suc n) x ≡ 0 → (b ≡ false) × (x ≡ 0)
passed true n x e = absurd (omega arith)
passed false n x e = (refl, e)

module _ (words : List ℤ) (bytes : List ℕ) where
  pub accepted_means : (s : State) (payload : List ℕ) (room : ℕ) → refusal words bytes s payload room ≡ 0 → Accepted words bytes s payload room
  unfolding refusal
  accepted_means s payload room e =
      let lengths = eqb (length words) WORDS && eqb (length bytes) BYTES in
      let a = passed (not lengths) 0 _ e in
      let b = passed (not (eqb room 320)) 1 _ a.1 in
      let c = passed (not (eqb (length payload) 20)) 2 _ b.1 in
      let d = passed (some (broken words bytes) 7) 3 _ c.1 in
      let o = passed (not (State.obeys s)) 4 _ d.1 in
      let p = passed (not (eqb (bit_and (get_or payload 19 0) 0xc0) 0)) 5 _ o.1 in
      let f = passed (not (Frame.digits_fit words (fields_of payload))) 6 _ p.1 in
      let long = not-false lengths a.0 in
      let rules = obeys words bytes d.0 in
      record {
        set_sound = record {
          of_words = record { words_long = eqb-true (length words) WORDS (and_left (eqb (length words) WORDS) (eqb (length bytes) BYTES) long); rules = rules.of_words };
          of_bytes = record { bytes_long = eqb-true (length bytes) BYTES (and_right (eqb (length words) WORDS) (eqb (length bytes) BYTES) long); floats_within = rules.floats_within };
        };
        samples_long = eqb-true room 320 (not-false (eqb room 320) b.0);
        payload_long = eqb-true (length payload) 20 (not-false (eqb (length payload) 20) c.0);
        state_obeys = not-false (State.obeys s) o.0;
        no_padding = eqb-true (bit_and (get_or payload 19 0) 0xc0) 0 (not-false (eqb (bit_and (get_or payload 19 0) 0xc0) 0) p.0);
        digits_fit_lem = not-false (Frame.digits_fit words (fields_of payload)) f.0;
      }

  -- a state that obeys the rule is not refused with 5
  pub obeyed_not_five : (s : State) (payload : List ℕ) (room : ℕ) → State.obeys s ≡ true → refusal words bytes s payload room ≡ 5 → ⊥
  unfolding refusal
  obeyed_not_five s payload room o e =
      by (not (eqb (length words) WORDS && eqb (length bytes) BYTES)) (not (eqb room 320)) (not (eqb (length payload) 20)) (some (broken words bytes) 7)
      (not (eqb (bit_and (get_or payload 19 0) 0xc0) 0)) (not (Frame.digits_fit words (fields_of payload))) (rw o at e)
    where
      by : (a b c d f g : Bool) → ◌≡◌ {A = ℕ} (cond a 1 (cond b 2 (cond c 3 (cond d 4 (cond f 6 (cond g 7 0)))))) 5 → ⊥
      by true b c d f g e = omega arith
      by false true c d f g e = omega arith
      by false false true d f g e = omega arith
      by false false false true f g e = omega arith
      by false false false false true g e = omega arith
      by false false false false false true e = omega arith
      by false false false false false false e = omega arith

  -- two states that obey the rule are accepted, or refused with the same number, alike
  pub refusal_same : (s t : State) (payload : List ℕ) (room : ℕ) → State.obeys s ≡ true → State.obeys t ≡ true → refusal words bytes s payload room ≡ refusal words bytes t payload room
  unfolding refusal
  refusal_same s t payload room p q = rw (p, q)
