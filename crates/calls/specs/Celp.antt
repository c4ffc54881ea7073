-- mod.rs's decode over a lent set and a state by value, with document 01's refusals and mark.
use Rattle.std.specs.Prelude.{ℕ, zero, suc, ◌+◌, min, ◌≡◌, refl, List, [], not, cond, ◌&&◌, eqb, ℤ, pos, length, get_or, replicate}
use Rattle.std.specs.Int.Bits.{bit_and}
use Rattle.std.specs.Float.Ieee.{of_bits}
use Rattle.std.specs.Float.{binary32}
use Rattle.sequence.specs.First.{some}
use Rattle.tables.specs.Places.{WORDS, BYTES}
use Rattle.tables.specs.declared.Fault.{Fault}
use Rattle.tables.specs.Tables.{broken}
use Rattle.bits.specs.Bits.{fields_of}
use Rattle.half.specs.declared.Clipped.{Clipped}
use Rattle.half.specs.declared.Core.{Core}
use Rattle.observation.specs.declared.Subframe.{Subframe}
use Rattle.observation.specs.declared.Decoded.{Decoded}
use Rattle.observation.specs.Frame as Frame
use Rattle.sure.specs.declared.Sure.{Sure}
use Rattle.sure.specs.Sure as Sure
use Rattle.state.specs.declared.State.{State}
use Rattle.calls.specs.declared.Answer.{Answer}
use Rattle.state.specs.State.{fallen, obeys, fault}

-- ---- refusals
-- the number of the first case that holds, in document 01's order, or 0; room is how long the sample buffer is
unfoldable pub refusal : List ℤ → List ℕ → State → List ℕ → ℕ → ℕ
refusal words bytes s payload room =
    cond (not (eqb (length words) WORDS && eqb (length bytes) BYTES)) 1
    (cond (not (eqb room 320)) 2
    (cond (not (eqb (length payload) 20)) 3
    (cond (some (broken words bytes) 7) 4
    (cond (not (obeys s)) 5
    (cond (not (eqb (bit_and (get_or payload 19 0) 0xc0) 0)) 6
    (cond (not (Frame.digits_fit words (fields_of payload))) 7 0))))))

-- nothing handed over at all is refused for the set's length
nothing_lent : (s : State) → refusal [] [] s [] 0 ≡ 1
unfolding refusal
nothing_lent s = refl

-- a subframe of which nothing is reported
unfoldable pub silent : Subframe
silent =
    record {
      figures = replicate 12 (of_bits binary32 0);
      lag = pos 0;
      frac = pos 0;
      lpc = replicate 11 (pos 0);
      innovation = replicate 80 (pos 0);
      zero_residuals = 0;
    }

-- one of which nothing was clipped
unfoldable pub unclipped : Clipped
unclipped = record { prediction = 0; mixing = 0; synthesis = 0; output = 0 }

-- 0 in every part but the number and what it tells, and the state with mark 0, sure of nothing
unfoldable pub refused : ℕ → Fault → State → Answer
refused n f s = record { number = n; rule = f.rule; place = f.place; mark = 0; state = fallen s; excitation = replicate 320 (pos 0); subframes = replicate 4 silent; clipped = replicate 4 unclipped; sure = replicate 4 0 }

-- ---- acceptance
-- the parts of the state that a half frame carries on, and back
unfoldable pub carried : State → Core
carried s =
    record {
      lsp = s.lsp;
      excitation = s.excitation;
      memory = s.memory;
      sharpen_fixed = s.sharpen_fixed;
      last_half_lag = s.last_half_lag;
      filter = record { fir = s.fir; iir = s.iir };
      gains = s.gains;
    }

unfoldable pub next : Decoded → ℕ → ℕ → State
next d m w =
    record {
      lsp = d.core.lsp;
      excitation = d.core.excitation;
      memory = d.core.memory;
      sharpen_fixed = d.core.sharpen_fixed;
      last_half_lag = d.core.last_half_lag;
      fir = d.core.filter.fir;
      iir = d.core.filter.iir;
      residuals = d.residuals;
      gains = d.core.gains;
      mark = m;
      sure = w;
    }

-- the frame, from the state's parts
unfoldable pub decoded : List ℤ → List ℕ → State → List ℕ → Decoded
decoded words bytes s payload = Frame.decode words bytes (carried s) s.residuals (fields_of payload)

-- the mark rises by 1, at most to 2
unfoldable pub raised : ℕ → ℕ
raised m = min (m + 1) 2

-- from a cold start the third frame has mark 2, and so have those after it
raised_from_0 : (raised 0 ≡ 1) × (raised 1 ≡ 2) × (raised 2 ≡ 2)
unfolding raised
raised_from_0 = (refl, refl, refl)

-- answered with the mark that the frame came with, and by how sure the excitation before it was
unfoldable pub accepted : ℕ → ℕ → Decoded → Answer
accepted m w d =
    let a : Sure = Sure.after m w d.pitch_gains in
    record { number = 0; rule = 0; place = 0; mark = m; state = next d (raised m) a.left; excitation = d.excitation; subframes = d.subframes; clipped = d.clipped; sure = a.subframes }

-- ---- the call: its answer, and the sample buffer, which a refusal leaves as it was
unfoldable pub answer : ℕ → List ℤ → List ℕ → State → List ℕ → Answer
answer zero words bytes s payload = accepted s.mark s.sure (decoded words bytes s payload)
answer (suc n) words bytes s payload = refused (suc n) (fault (suc n) words bytes) s

unfoldable pub decode : List ℤ → List ℕ → State → List ℕ → ℕ → Answer
decode words bytes s payload room = answer (refusal words bytes s payload room) words bytes s payload

unfoldable pub written : ℕ → List ℤ → List ℕ → State → List ℕ → List ℤ → List ℤ
written zero words bytes s payload old = Frame.samples words bytes (carried s) s.residuals (fields_of payload)
written (suc n) words bytes s payload old = old

unfoldable pub samples : List ℤ → List ℕ → State → List ℕ → List ℤ → List ℤ
samples words bytes s payload old = written (refusal words bytes s payload (length old)) words bytes s payload old
