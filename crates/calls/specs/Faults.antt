-- What a decode's answer tells of a broken set rule: one is named exactly under refusal 4 (Faults of state says so of the other calls).
use Prim.Native.Nat.{ℕ, zero, suc}
use Rattle.std.proofs.Math.Path.{◌≡◌, refl}
use Rattle.std.specs.Prelude.{List, Bool, not, cond, ◌&&◌, ℤ, length, get_or}
use Rattle.std.proofs.Math.Bool.{true, false}
use Rattle.std.proofs.Common.{arith}
use Rattle.std.specs.Int.Bits.{bit_and}
use Rattle.std.proofs.Math.Dec.{eqb}
use Rattle.sequence.specs.First.{some}
use Rattle.tables.specs.Places.{WORDS, BYTES}
use Rattle.tables.specs.Tables.{broken, check}
use Rattle.bits.specs.Bits.{fields_of}
use Rattle.observation.specs.Frame as Frame
use Rattle.state.specs.declared.State.{State}
use Rattle.state.specs.State.{obeys, fault}
use Rattle.state.specs.Faults.{Tells, by_number}
use Rattle.calls.specs.Celp.{refusal, refused, accepted, answer, decode}

module _ (words : List ℤ) (bytes : List ℕ) where
  -- a decode is refused with 4 only for its set
  pub four_set : (s : State) (payload : List ℕ) (room : ℕ) → refusal words bytes s payload room ≡ 4 → check words bytes ≡ 4
  unfolding refusal check
  four_set s payload room e =
      by (eqb (length words) WORDS && eqb (length bytes) BYTES) (not (eqb room 320)) (not (eqb (length payload) 20)) (some (broken words bytes) 7) (not (obeys s))
      (not (eqb (bit_and (get_or payload 19 0) 0xc0) 0)) (not (Frame.digits_fit words (fields_of payload))) e
    where
      by : (a b c d f g h : Bool) → ◌≡◌ {A = ℕ} (cond (not a) 1 (cond b 2 (cond c 3 (cond d 4 (cond f 5 (cond g 6 (cond h 7 0))))))) 4 → ◌≡◌ {A = ℕ} (cond a (cond d 4 0) 1) 4
      by false b c d f g h e = absurd (omega arith)
      by true true c d f g h e = absurd (omega arith)
      by true false true d f g h e = absurd (omega arith)
      by true false false true f g h e = refl
      by true false false false true g h e = absurd (omega arith)
      by true false false false false true h e = absurd (omega arith)
      by true false false false false false true e = absurd (omega arith)
      by true false false false false false false e = absurd (omega arith)

  pub decode_tells : (s : State) (payload : List ℕ) (room : ℕ) → Tells words bytes (decode words bytes s payload room).number (decode words bytes s payload room).rule (decode words bytes s payload room).place
  unfolding decode answer accepted refused fault
  decode_tells s payload room = by (refusal words bytes s payload room) (four_set s payload room)
    where
      by : (n : ℕ) → (n ≡ 4 → check words bytes ≡ 4) → Tells words bytes (answer n words bytes s payload).number (answer n words bytes s payload).rule (answer n words bytes s payload).place
      by zero h = by_number words bytes zero h
      by (suc n) h = by_number words bytes (suc n) h
