-- Document 01's bare set: all words 0 but limit 1, pulses 2, ALT entries 1; all bytes 0. It is accepted.
use Rattle.std.specs.Prelude.{ℕ, ◌+◌, ◌*◌, ◌<◌, ◌≡◌, refl, List, ◌++◌, length, get_or, set, replicate, T, false, ℤ, pos}
use Rattle.std.proofs.Common.{ap, ◌∙◌, inl, arith, eq-eqb, get_or-append-add}
use Rattle.std.proofs.lemmas.List.{length-replicate, get_or-replicate}
use Rattle.std.proofs.Math.ListN.{get_or-append}
use Rattle.std.specs.Int.Signed.{le_z_yes}
use Rattle.std.specs.Float.Ieee.{of_bits}
use Rattle.std.specs.Float.{binary32}
use Rattle.floats.specs.Floats.{bits_at, within}
use Rattle.sequence.specs.First.{some, first_from}
use Rattle.tables.specs.Places.{WORDS, BYTES}
use Rattle.tables.specs.Tables.{unsigned, limit_bad, float_bad, bad, count, place, broken, report, first_fault, check}
use Rattle.tables.specs.Rules.{Obeys, limits, floats, offends, offended, none_offended}
use Rattle.tables.specs.Sound.{Sound}

-- the words from the ALT entries, the shape selectors, the pulses, the bases and the limit on
unfoldable pub from_entries : List ℤ
from_entries = replicate 3200 (pos 1) ++ replicate 1280 (pos 0)

unfoldable pub from_selectors : List ℤ
from_selectors = replicate 1285 (pos 0) ++ from_entries

unfoldable pub from_pulses : List ℤ
from_pulses = replicate 5 (pos 2) ++ from_selectors

unfoldable pub from_bases : List ℤ
from_bases = replicate 6 (pos 0) ++ from_pulses

unfoldable pub from_limit : List ℤ
from_limit = replicate 1 (pos 1) ++ from_bases

unfoldable pub bare_words : List ℤ
bare_words = replicate 186 (pos 0) ++ from_limit

unfoldable pub bare_bytes : List ℕ
bare_bytes = replicate BYTES 0

words_long : length bare_words ≡ WORDS
unfolding bare_words from_limit from_bases from_pulses from_selectors from_entries
words_long = refl

bytes_long : length bare_bytes ≡ BYTES
unfolding bare_bytes
bytes_long = refl

-- what stands in the first run of a list, and what stands behind it
here : (n k : ℕ) (x : ℤ) (l : List ℤ) → k < n → get_or (replicate n x ++ l) k (pos 0) ≡ x
here n k x l h = let e = length-replicate n x in get_or-append (replicate n x) l (pos 0) k (omega arith) ∙ get_or-replicate n k x (pos 0) h

past : (n k m : ℕ) (x : ℤ) (l : List ℤ) → m ≡ n + k → get_or (replicate n x ++ l) m (pos 0) ≡ get_or l k (pos 0)
past n k m x l e =
    let q = length-replicate n x in
    let r : m ≡ length (replicate n x) + k = omega arith in
    ap (λ (j : ℕ). get_or (replicate n x ++ l) j (pos 0)) r ∙ get_or-append-add (replicate n x) l k (pos 0)

at_limit : (k m : ℕ) → m ≡ 186 + k → get_or bare_words m (pos 0) ≡ get_or from_limit k (pos 0)
unfolding bare_words
at_limit k m e = past 186 k m (pos 0) from_limit e

at_bases : (k m : ℕ) → m ≡ 187 + k → get_or bare_words m (pos 0) ≡ get_or from_bases k (pos 0)
unfolding from_limit
at_bases k m e = at_limit (1 + k) m (omega arith) ∙ past 1 k (1 + k) (pos 1) from_bases refl

at_pulses : (k m : ℕ) → m ≡ 193 + k → get_or bare_words m (pos 0) ≡ get_or from_pulses k (pos 0)
unfolding from_bases
at_pulses k m e = at_bases (6 + k) m (omega arith) ∙ past 6 k (6 + k) (pos 0) from_pulses refl

at_selectors : (k m : ℕ) → m ≡ 198 + k → get_or bare_words m (pos 0) ≡ get_or from_selectors k (pos 0)
unfolding from_pulses
at_selectors k m e = at_pulses (5 + k) m (omega arith) ∙ past 5 k (5 + k) (pos 2) from_selectors refl

-- what stands in each
limit_one : get_or bare_words 186 (pos 0) ≡ pos 1
unfolding from_limit
limit_one = at_limit 0 186 refl

bases : (k : ℕ) → k < 6 → get_or bare_words (187 + k) (pos 0) ≡ pos 0
unfolding from_bases
bases k h = at_bases k (187 + k) refl ∙ here 6 k (pos 0) from_pulses h

two_pulses : (k : ℕ) → k < 5 → get_or bare_words (193 + k) (pos 0) ≡ pos 2
unfolding from_pulses
two_pulses k h = at_pulses k (193 + k) refl ∙ here 5 k (pos 2) from_selectors h

zeros : (k m : ℕ) → m ≡ 198 + k → k < 1285 → get_or bare_words m (pos 0) ≡ pos 0
unfolding from_selectors
zeros k m e h = at_selectors k m e ∙ here 1285 k (pos 0) from_entries h

entries : (k : ℕ) → k < 3200 → get_or bare_words (1483 + k) (pos 0) ≡ pos 1
unfolding from_selectors from_entries
entries k h = at_selectors (1285 + k) (1483 + k) (omega arith) ∙ past 1285 k (1285 + k) (pos 0) from_entries refl ∙ here 3200 k (pos 1) (replicate 1280 (pos 0)) h

no_bits : (at : ℕ) → at + 3 < BYTES → bits_at bare_bytes at ≡ 0
unfolding bits_at bare_bytes
no_bits at h =
    rw (get_or-replicate {A = ℕ} BYTES at 0 0 (omega arith), get_or-replicate {A = ℕ} BYTES (at + 1) 0 0 (omega arith), get_or-replicate {A = ℕ} BYTES (at + 2) 0 0 (omega arith), get_or-replicate {A = ℕ} BYTES (at + 3) 0 0 h)

no_float : T (within 65536 (of_bits binary32 0))
unfolding within of_bits
no_float = tt

pub bare_obeys : Obeys bare_words bare_bytes
bare_obeys = record {
  of_words = record {
    limit_positive = rw limit_one (omega arith);
    base_zero = ap unsigned (bases 0 (omega arith));
    bases_rise = λ k h. rw (ap unsigned (bases k (omega arith))) (omega arith);
    pulses_are = λ k h. inl (two_pulses k h);
    selectors_within = λ k h. rw (zeros (3 * k) (198 + 3 * k) refl (omega arith)) (le_z_yes tt, le_z_yes tt);
    positions_not_negative = λ k h. rw (zeros (45 + k) (243 + k) (omega arith) (omega arith)) (le_z_yes tt);
    entries_within = λ k h. rw (entries k h) (le_z_yes tt, le_z_yes tt, λ z. let q : ◌≡◌ {A = ℕ} 0 1 = cc in omega arith);
  };
  floats_within = λ k h. rw (no_bits (4 * k) (omega arith)) no_float;
}

pub bare_accepted : check bare_words bare_bytes ≡ 0
unfolding check limits floats offends offended limit_bad float_bad bad broken
bare_accepted =
    let n : some (broken bare_words bare_bytes) 7 ≡ false = none_offended bare_words bare_bytes bare_obeys in
    rw (eq-eqb (length bare_words) WORDS words_long, eq-eqb (length bare_bytes) BYTES bytes_long, n)

pub bare_sound : Sound bare_words bare_bytes
bare_sound = record {
  of_words = record { words_long = words_long; rules = bare_obeys.of_words };
  of_bytes = record { bytes_long = bytes_long; floats_within = bare_obeys.floats_within };
}

-- with base 1 at 5 and base 2 at 4, the fault is the falling base's
falls : first_fault (set (set bare_words 188 (pos 5)) 189 (pos 4)) bare_bytes ≡ record { rule = 1; place = 189 }
unfolding first_fault report broken bad count place limit_bad first_from bare_words from_limit from_bases from_pulses
falls = refl
