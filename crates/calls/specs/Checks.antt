-- The refusals in the two parts that decode and decode_frames share: what is tried before a frame is looked at, and what its payload alone is refused with.
use Prim.Native.Nat.{ℕ, zero, suc}
use Rattle.std.proofs.Math.Path.{◌≡◌, refl, ap}
use Rattle.std.proofs.Common.{sym, ◌∙◌, arith}
use Rattle.std.specs.Prelude.{List, Bool, not, ◌&&◌, ℤ, length, get_or}
use Rattle.std.proofs.Math.Bool.{true, false, cond}
use borrow.Author.Tests.{eq-eqb, ne_eqb, eqb-true, not-false}
use Rattle.std.specs.Int.Bits.{bit_and}
use Rattle.std.proofs.Math.Dec.{eqb}
use Rattle.sequence.specs.First.{some}
use Rattle.tables.specs.Places.{WORDS, BYTES}
use Rattle.tables.specs.Tables.{broken, check}
use Rattle.tables.specs.Rules.{tests, accepted}
use Rattle.tables.specs.Sound.{Sound, sound}
use Rattle.bits.specs.Bits.{unpack, fields, fields_of}
use Rattle.observation.specs.Frame as Frame
use Rattle.state.specs.declared.State.{State}
use Rattle.state.specs.State.{obeys, fault}
use Rattle.calls.specs.Celp.{refusal}
use Rattle.calls.specs.Accepted.{passed}

-- the set's lengths, then the sizes of what is lent with it (their number, or 0), the set's rules, the state
unfoldable pub checked : List ℤ → List ℕ → State → ℕ → ℕ
checked words bytes s sizes =
    cond (not (eqb (length words) WORDS && eqb (length bytes) BYTES)) 1
    (cond (not (eqb sizes 0)) sizes
    (cond (some (broken words bytes) 7) 4
    (cond (not (obeys s)) 5 0)))

-- the sizes of a single call: samples, then payload
unfoldable pub frame_sizes : ℕ → ℕ → ℕ
frame_sizes payload room = cond (not (eqb room 320)) 2 (cond (not (eqb payload 20)) 3 0)

-- a payload's padding bits, then its code indexes
unfoldable pub spoilt : List ℤ → List ℕ → ℕ
spoilt words payload = cond (not (eqb (bit_and (get_or payload 19 0) 0xc0) 0)) 6 (cond (not (Frame.digits_fit words (fields_of payload))) 7 0)

-- the first number, or where there is none the second
abbrev pub or_else : ℕ → ℕ → ℕ
or_else zero m = m
or_else (suc n) m = suc n

module _ (words : List ℤ) (bytes : List ℕ) (s : State) where
  -- a single call tries the one, and then the other
  pub refusal_parts : (payload : List ℕ) (room : ℕ) → refusal words bytes s payload room ≡ or_else (checked words bytes s (frame_sizes (length payload) room)) (spoilt words payload)
  unfolding refusal checked frame_sizes spoilt
  refusal_parts payload room =
      by (not (eqb (length words) WORDS && eqb (length bytes) BYTES)) (not (eqb room 320)) (not (eqb (length payload) 20)) (some (broken words bytes) 7) (not (obeys s)) (spoilt words payload)
    where
      by : (a b c d e : Bool) (n : ℕ)
          → cond a 1 (cond b 2 (cond c 3 (cond d 4 (cond e 5 n)))) ≡ or_else (cond a 1 (cond (not (eqb (cond b 2 (cond c 3 0)) 0)) (cond b 2 (cond c 3 0)) (cond d 4 (cond e 5 0)))) n
      by true b c d e n = refl
      by false true c d e n = refl
      by false false true d e n = refl
      by false false false true e n = refl
      by false false false false true n = refl
      by false false false false false n = refl

  -- what is known once the first part has refused nothing
  pub record Passed (sizes : ℕ) : Type 0 where
    pub set_sound : Sound words bytes
    pub sizes_right : sizes ≡ 0
    pub state_obeys : obeys s ≡ true

  pub checked_passed : (sizes : ℕ) → checked words bytes s sizes ≡ 0 → Passed sizes
  unfolding checked check
  checked_passed sizes e =
      let a = passed (not (eqb (length words) WORDS && eqb (length bytes) BYTES)) 0 _ e in
      let b = right sizes _ a.1 in
      let c = passed (some (broken words bytes) 7) 3 _ b.1 in
      let d = passed (not (obeys s)) 4 _ c.1 in
      record {
        set_sound = sound words bytes (rw (not-false (eqb (length words) WORDS && eqb (length bytes) BYTES) a.0, c.0));
        sizes_right = b.0;
        state_obeys = not-false (obeys s) d.0;
      }
    where
      right : (n x : ℕ) → cond (not (eqb n 0)) n x ≡ 0 → (n ≡ 0) × (x ≡ 0)
      right zero x e = (refl, e)
      right (suc n) x e = absurd (omega (arith, rw (ne_eqb (suc n) 0 (λ z. omega arith)) at e))

  -- 4 comes of the set alone
  pub checked_four : (sizes : ℕ) → (sizes ≡ 4 → ⊥) → checked words bytes s sizes ≡ 4 → check words bytes ≡ 4
  unfolding checked check
  checked_four sizes h e = by (eqb (length words) WORDS && eqb (length bytes) BYTES) (some (broken words bytes) 7) (not (obeys s)) sizes h e
    where
      by : (a d f : Bool) (n : ℕ) → (n ≡ 4 → ⊥) → ◌≡◌ {A = ℕ} (cond (not a) 1 (cond (not (eqb n 0)) n (cond d 4 (cond f 5 0)))) 4 → ◌≡◌ {A = ℕ} (cond a (cond d 4 0) 1) 4
      by false d f n h e = absurd (omega arith)
      by true true f n h e = refl
      by true false true zero h e = absurd (omega arith)
      by true false false zero h e = absurd (omega arith)
      by true false f (suc n) h e = absurd (h (rw (ne_eqb (suc n) 0 (λ z. omega arith)) at e))

  pub passed_checked : Sound words bytes → obeys s ≡ true → checked words bytes s 0 ≡ 0
  unfolding checked
  passed_checked k o =
      let t = tests words bytes (accepted words bytes k.of_words.words_long k.of_bytes.bytes_long (record { of_words = k.of_words.rules; floats_within = k.of_bytes.floats_within })) in
      rw (t.0, t.1, t.2, o)

  module _ (payload : List ℕ) (room : ℕ) where
    -- a frame of a set and a state that were checked, with sizes that are right, is refused for its payload alone
    pub refusal_spoilt : Sound words bytes → obeys s ≡ true → length payload ≡ 20 → room ≡ 320 → refusal words bytes s payload room ≡ spoilt words payload
    unfolding frame_sizes
    refusal_spoilt k o p r =
        let z : frame_sizes (length payload) room ≡ 0 = rw (eq-eqb (length payload) 20 p, eq-eqb room 320 r) in
        refusal_parts payload room ∙ ap (λ (n : ℕ). or_else (checked words bytes s n) (spoilt words payload)) z ∙ ap (λ (n : ℕ). or_else n (spoilt words payload)) (passed_checked k o)

    -- and one that the first part refuses has that part's number
    pub refusal_checked : (n : ℕ) → n ≡ checked words bytes s (frame_sizes (length payload) room) → (n ≡ 0 → ⊥) → n ≡ refusal words bytes s payload room
    refusal_checked zero e h = absurd (h refl)
    refusal_checked (suc n) e h = sym (refusal_parts payload room ∙ ap (λ (m : ℕ). or_else m (spoilt words payload)) (sym e))

-- what right sizes are
pub frame_right : (payload room : ℕ) → frame_sizes payload room ≡ 0 → (payload ≡ 20) × (room ≡ 320)
unfolding frame_sizes
frame_right payload room e =
    let a = passed (not (eqb room 320)) 1 _ e in
    let b = passed (not (eqb payload 20)) 2 _ a.1 in
    (eqb-true payload 20 (not-false (eqb payload 20) b.0), eqb-true room 320 (not-false (eqb room 320) a.0))

-- of a payload that is refused no rule of the set is told
pub spoilt_told : (words : List ℤ) (bytes payload : List ℕ) → fault (spoilt words payload) words bytes ≡ record { rule = 0; place = 0 }
unfolding spoilt fault
spoilt_told words bytes payload = by (not (eqb (bit_and (get_or payload 19 0) 0xc0) 0)) (not (Frame.digits_fit words (fields_of payload)))
  where
    by : (a b : Bool) → fault (cond a 6 (cond b 7 0)) words bytes ≡ record { rule = 0; place = 0 }
    by true b = refl
    by false true = refl
    by false false = refl

-- a payload of 20 bytes with nothing in its last two bits has fields
pub in_order : (p : List ℕ) → length p ≡ 20 → bit_and (get_or p 19 0) 0xc0 ≡ 0 → fields (unpack p) ≡ fields_of p
unfolding unpack
in_order p l e = rw (eq-eqb (length p) 20 l, eq-eqb (bit_and (get_or p 19 0) 192) 0 e)
