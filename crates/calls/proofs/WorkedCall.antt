-- A worked call: document 01's bare set and zero frames meet every premise of what a receiver may rely on.
use Rattle.std.specs.Prelude.{ℕ, zero, suc, ◌<◌, ◌≤◌, ◌≡◌, refl, Bool, true, false, List, [], ◌∷◌, ◌++◌, ltb, ℤ, pos, length, get_or, replicate, set}
use Rattle.std.proofs.Common.{sym, ap, ◌∙◌, arith, ltb-true, ltb-false}
use Rattle.std.specs.Int.Signed.{mag}
use Rattle.std.proofs.Math.ListN.{get_or-eq_default}
use Rattle.std.specs.Float.Ieee.{of_bits}
use Rattle.sequence.specs.All.{all, all_at}
use Rattle.sequence.specs.First.{first_from}
use Rattle.tables.specs.Tables.{word}
use Rattle.tables.specs.Rules.{tests}
use Rattle.tables.specs.Bare.{bare_words, bare_bytes, from_limit, from_bases, from_pulses, from_selectors, from_entries, bare_accepted}
use Rattle.floats.specs.Floats.{bits_at, quantise}
use Rattle.bits.specs.Bits.{groups, inverted, bit_at, read_bit, gather, fields_of, gain_index_of}
use Rattle.code_index.specs.Codebook as Codebook
use Rattle.spectral.specs.Kept.{Words16}
use Rattle.half.specs.Core.{part}
use Rattle.half.specs.Figures.{pitch_gain_of, pitch_gains}
use Rattle.observation.specs.declared.Decoded.{Decoded}
use Rattle.observation.specs.Frame as Frame
use Rattle.sure.specs.Sure.{surer, holds, through, after}
use Rattle.state.specs.declared.State.{State}
use Rattle.calls.specs.declared.Answer.{Answer}
use Rattle.state.specs.declared.Returned.{Returned}
use Rattle.state.specs.State.{obeys, initial, reset, cold_start}
use Rattle.calls.specs.Celp.{refusal, carried, decoded, accepted, decode}
use Rattle.state.specs.Start.{started_accepted}
use Rattle.calls.specs.Cases.{decode_accepted}
use Rattle.calls.specs.Mark.{mark_answered, mark_rises}
use Rattle.calls.specs.Run.{Event, heard, missed, step, run}
use Rattle.calls.specs.Accepted.{accepted_means}
use Rattle.calls.specs.StateRule.{Obeying}
use Rattle.calls.proofs.StateRule.{decode_obeying, run_obeying}
use Rattle.calls.specs.Receiver as Receiver
use Rattle.calls.specs.Receiver.{after_all, Call, START, at_first, begun, whole, between, without}
use Rattle.calls.proofs.Relied.{receiver_may_rely, started_obeying, cold_joins}
use Rattle.calls.proofs.Regained.{sure_again}

-- the zero frame, and a payload that its last byte has refused
unfoldable ZERO : List ℕ
ZERO = replicate 20 0

unfoldable SPOILT : List ℕ
SPOILT = set (replicate 20 0) 19 64

-- ---- the bare set's words are 16-bit numbers
small : ℤ → Bool
small z = ltb (mag z) 32768

all_small : all small bare_words ≡ true
unfolding small bare_words from_limit from_bases from_pulses from_selectors from_entries
all_small = refl

bare16 : Words16 bare_words
unfolding small
bare16 k = by (ltb k (length bare_words)) (ltb-true k (length bare_words)) (ltb-false k (length bare_words))
  where
    by : (b : Bool) → (b ≡ true → k < length bare_words) → (b ≡ false → length bare_words ≤ k) → mag (word bare_words k) < 32768
    by true y n = ltb-true (mag (word bare_words k)) 32768 (all_at small bare_words (pos 0) all_small k (y refl))
    by false y n = rw (get_or-eq_default bare_words (pos 0) (n refl)) (omega arith)

-- ---- every state that obeys the rule accepts the zero frame, and leaves another
fits : Frame.digits_fit bare_words (fields_of ZERO) ≡ true
unfolding ZERO Frame.digits_fit Frame.half_fits groups inverted bit_at read_bit gather fields_of Codebook.digits_fit Codebook.place_fits Codebook.classify Codebook.class_of Codebook.cut first_from bare_words from_limit from_bases from_pulses
fits = refl

zero_accepted : (s : State) → obeys s ≡ true → refusal bare_words bare_bytes s ZERO 320 ≡ 0
unfolding refusal ZERO
zero_accepted s o = let t = tests bare_words bare_bytes bare_accepted in rw (t.0, t.1, t.2, o, fits)

spoilt_refused : (s : State) → refusal bare_words bare_bytes s SPOILT 320 ≡ 0 → ⊥
unfolding SPOILT
spoilt_refused s e = let a = (accepted_means bare_words bare_bytes s SPOILT 320 e).no_padding in omega arith

narrow_refused : (s : State) → refusal bare_words bare_bytes s ZERO 319 ≡ 0 → ⊥
narrow_refused s e = let a = (accepted_means bare_words bare_bytes s ZERO 319 e).samples_long in omega arith

-- ---- short names: the two states, a zero frame that is heard, its answer, and the sender's
abbrev RESET : State
RESET = START bare_words bare_bytes

abbrev COLD : State
COLD = (cold_start bare_words bare_bytes).state

abbrev zero_heard : Event
zero_heard = heard ZERO 320

abbrev answered : State → List Event → Answer
answered s es = decode bare_words bare_bytes (run bare_words bare_bytes s es) ZERO 320

abbrev sent : ℕ → Answer
sent n = decode bare_words bare_bytes (after_all bare_words bare_bytes RESET (replicate n ZERO)) ZERO 320

reset_obeys : Obeying RESET
unfolding reset
reset_obeys = started_obeying bare_words bare_bytes bare16 bare_accepted 2 refl

cold_obeys : Obeying COLD
unfolding cold_start
cold_obeys = started_obeying bare_words bare_bytes bare16 bare_accepted 0 refl

cold_mark : COLD.mark ≡ 0
unfolding cold_start initial
cold_mark = ap (λ (r : Returned). r.state.mark) (sym (started_accepted bare_words bare_bytes 0 bare_accepted))

cold_long : length COLD.excitation ≡ 154
unfolding cold_start initial
cold_long = ap (λ (r : Returned). length r.state.excitation) (sym (started_accepted bare_words bare_bytes 0 bare_accepted))

-- ---- a call of any number of zero frames
zero_call : (n : ℕ) (t : State) → Obeying t → Call bare_words bare_bytes t (replicate n ZERO)
zero_call zero t o = tt
zero_call (suc n) t o = (zero_accepted t o.rule, zero_call n (Receiver.after bare_words bare_bytes t ZERO) (decode_obeying bare_words bare_bytes bare16 t ZERO 320 o))

-- once two of them are heard in a row the next is answered with mark 2
two_heard : (s : State) → Obeying s → (answered s (zero_heard ∷ zero_heard ∷ [])).mark ≡ 2
unfolding run step
two_heard s o =
    let a = run_obeying bare_words bare_bytes bare16 s (zero_heard ∷ []) o in
    let b = run_obeying bare_words bare_bytes bare16 s (zero_heard ∷ zero_heard ∷ []) o in
    (receiver_may_rely bare_words bare_bytes).two_in_a_row s ZERO ZERO ZERO (zero_accepted s o.rule) (zero_accepted _ a.rule) (zero_accepted _ b.rule)

-- Of a call of eight frames a receiver hears the first; reports the second as lost, twice; hands the third in with a sample room of 319, and again with 320; reports
-- the fourth and fifth, lost together, once; hands in a stray payload; and hears two more: the eighth has the sender's figures.
past : List Event
past = zero_heard ∷ missed ∷ missed ∷ heard ZERO 319 ∷ zero_heard ∷ missed ∷ heard SPOILT 320 ∷ []

eighth : ((answered RESET (past ++ zero_heard ∷ zero_heard ∷ [])).mark ≡ 2) × ((answered RESET (past ++ zero_heard ∷ zero_heard ∷ [])).subframes ≡ (sent 7).subframes)
unfolding past run
eighth =
    let r = receiver_may_rely bare_words bare_bytes in
    let m = two_heard (run bare_words bare_bytes RESET past) (run_obeying bare_words bare_bytes bare16 RESET past reset_obeys) in
    let twice = whole (whole begun) in
    let four-and-five = between (r.reported _) (without (r.reported _) (without (r.reported _) (between (r.refused _ SPOILT 320 (spoilt_refused _)) twice))) in
    let f = whole (between (r.reported _) (without (r.reported _) (between (r.reported _) (between (r.refused _ ZERO 319 (narrow_refused _)) (whole four-and-five))))) in
    (m, r.figures [] (replicate 7 ZERO) ZERO RESET (past ++ zero_heard ∷ zero_heard ∷ []) (zero_call 8 RESET reset_obeys) at_first f m)

-- and one that joins in the cold state at the third answers the fifth with the sender's figures
fifth : ((answered COLD (zero_heard ∷ zero_heard ∷ [])).mark ≡ 2) × ((answered COLD (zero_heard ∷ zero_heard ∷ [])).subframes ≡ (sent 4).subframes)
fifth =
    let m = two_heard COLD cold_obeys in
    let twice = replicate 2 ZERO in
    (m, (receiver_may_rely bare_words bare_bytes).figures twice twice ZERO COLD (zero_heard ∷ zero_heard ∷ []) (zero_call 5 RESET reset_obeys) (cold_joins bare_words bare_bytes twice) (whole (whole begun)) m)

-- ---- the same receiver becomes sure
-- every pitch gain of a zero frame over the bare set is 0
no_gain : (pitch_gain_of bare_bytes (gain_index_of (fields_of ZERO).first 0) ≡ pos 0) × (pitch_gain_of bare_bytes (gain_index_of (fields_of ZERO).first 1) ≡ pos 0)
    × (pitch_gain_of bare_bytes (gain_index_of (fields_of ZERO).second 0) ≡ pos 0) × (pitch_gain_of bare_bytes (gain_index_of (fields_of ZERO).second 1) ≡ pos 0)
unfolding ZERO pitch_gain_of gain_index_of groups inverted bit_at read_bit gather fields_of bare_bytes bits_at of_bits quantise
no_gain = (refl, refl, refl, refl)

no_gains : (s : State) → (decoded bare_words bare_bytes s ZERO).pitch_gains ≡ replicate 4 (pos 0)
unfolding decoded Frame.decode Frame.report Frame.halves Frame.half Frame.pitch_gains_of
no_gains s =
    let p = pitch_gains bare_words bare_bytes (carried s) (Frame.lsp bare_words bare_bytes s.residuals (fields_of ZERO).first) (fields_of ZERO).first in
    let q = pitch_gains bare_words bare_bytes _ (Frame.lsp bare_words bare_bytes _ (fields_of ZERO).second) (fields_of ZERO).second in
    λ i. (p.0 ∙ no_gain.0) i ∷ (p.1 ∙ no_gain.1) i ∷ (q.0 ∙ no_gain.2) i ∷ (q.1 ∙ no_gain.3) i ∷ []

-- so a frame that comes with mark 2, and sure of nothing, is sure from its second subframe on
from_second : (m w : ℕ) (d : Decoded) → m ≡ 2 → w ≡ 0 → d.pitch_gains ≡ replicate 4 (pos 0) → (accepted m w d).sure ≡ 0 ∷ 1 ∷ 1 ∷ 1 ∷ []
unfolding accepted after through surer holds
from_second m w d a b g = rw (a, b, g) refl

-- as is the fifth frame of the one that joined cold at the third
sure_fifth : (answered COLD (zero_heard ∷ zero_heard ∷ [])).sure ≡ 0 ∷ 1 ∷ 1 ∷ 1 ∷ []
unfolding run
sure_fifth =
    let one = run bare_words bare_bytes COLD (zero_heard ∷ []) in
    let two = run bare_words bare_bytes COLD (zero_heard ∷ zero_heard ∷ []) in
    let a = zero_accepted one (run_obeying bare_words bare_bytes bare16 COLD (zero_heard ∷ []) cold_obeys).rule in
    let b = zero_accepted two (run_obeying bare_words bare_bytes bare16 COLD (zero_heard ∷ zero_heard ∷ []) cold_obeys).rule in
    let risen = mark_rises bare_words bare_bytes COLD ZERO 320 (zero_accepted COLD cold_obeys.rule) in
    let m = sym (mark_answered bare_words bare_bytes two ZERO 320 b) ∙ two_heard COLD cold_obeys in
    let w = ((sure_again bare_words bare_bytes).below_two one ZERO 320 a (omega (arith, risen, cold_mark))).0 in
    sym (ap (λ (x : Answer). x.sure) (decode_accepted bare_words bare_bytes two ZERO 320 b)) ∙ from_second _ _ _ m w (no_gains two)

-- and so its second subframe has the sender's excitation
fifth_excitation : part (answered COLD (zero_heard ∷ zero_heard ∷ [])).excitation 80 ≡ part (sent 4).excitation 80
fifth_excitation =
    let twice = replicate 2 ZERO in
    (sure_again bare_words bare_bytes).excitation twice twice ZERO COLD (zero_heard ∷ zero_heard ∷ []) (zero_call 5 RESET reset_obeys) (cold_joins bare_words bare_bytes twice) cold_long (whole (whole begun)) 1 (omega arith) (ap (λ (l : List ℕ). get_or l 1 0) sure_fifth)
