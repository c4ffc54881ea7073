-- The decoder's state, handed in and handed back whole: the all-zero one, its rule, and the calls that need no frame.
use Rattle.std.specs.Prelude.{ℕ, zero, suc, ◌+◌, ◌≡◌, refl, List, Bool, true, false, ◌&&◌, cond, eqb, leb, ℤ, pos, Float, replicate}
use Rattle.std.specs.Float.Ieee.{of_bits}
use Rattle.std.specs.Float.{binary32}
use Rattle.sequence.specs.All.{all}
use Rattle.sequence.specs.Table.{table}
use Rattle.floats.specs.Floats.{within}
use Rattle.tables.specs.Places.{LSP_MEAN}
use Rattle.tables.specs.declared.Fault.{Fault}
use Rattle.tables.specs.Tables.{word, first_fault, check}
use Rattle.gain.specs.Gain as Gain
use Rattle.spectral.specs.Spectral as Spectral
use Rattle.state.specs.declared.State.{State}
use Rattle.state.specs.declared.Returned.{Returned}

-- a state with no sample in it yet; it is as sure as its mark is high
abbrev pub blank : List ℤ → ℤ → ℤ → List Float → List Float → ℕ → State
blank lsp sharpenFixed lastHalfLag residuals gains mark =
    record {
      lsp = lsp;
      excitation = replicate 154 (pos 0);
      memory = replicate 10 (pos 0);
      sharpen_fixed = sharpenFixed;
      last_half_lag = lastHalfLag;
      fir = replicate 6 (pos 0);
      iir = replicate 6 (pos 0);
      residuals = residuals;
      gains = gains;
      mark = mark;
      sure = mark;
    }

-- every part 0
unfoldable pub all_zero : State
all_zero = blank (replicate 10 (pos 0)) (pos 0) (pos 0) (replicate 30 (of_bits binary32 0)) (replicate 4 (of_bits binary32 0)) 0

-- the same state with another mark, and sure as it is said
abbrev pub marked : State → ℕ → ℕ → State
marked s m w =
    record {
      lsp = s.lsp;
      excitation = s.excitation;
      memory = s.memory;
      sharpen_fixed = s.sharpen_fixed;
      last_half_lag = s.last_half_lag;
      fir = s.fir;
      iir = s.iir;
      residuals = s.residuals;
      gains = s.gains;
      mark = m;
      sure = w;
    }

-- with neither
abbrev pub fallen : State → State
fallen s = marked s 0 0

-- the state rule: each float finite and within ±131,072, mark and sure 0..=2
unfoldable pub obeys : State → Bool
obeys s = all (within 131072) s.residuals && (all (within 131072) s.gains && (leb s.mark 2 && leb s.sure 2))

-- the all-zero state obeys it, and with a 3 in either it does not
zero_obeys : (obeys all_zero ≡ true) × (obeys (marked all_zero 3 0) ≡ false) × (obeys (marked all_zero 0 3) ≡ false)
unfolding obeys all_zero of_bits within
zero_obeys = (refl, refl, refl)

-- which set rule was broken and where, told under refusal 4; under every other number, and on acceptance, 0 and 0
unfoldable pub fault : ℕ → List ℤ → List ℕ → Fault
fault n words bytes = cond (eqb n 4) (first_fault words bytes) (record { rule = 0; place = 0 })

-- the ten words of LSP_MEAN
unfoldable pub lsp_mean : List ℤ → List ℤ
lsp_mean words = table (λ k. word words (LSP_MEAN + k)) 10

-- the state that a decoder starts from: Core::new, and the two histories
unfoldable pub initial : List ℤ → List ℕ → ℕ → State
initial words bytes m = blank (lsp_mean words) (pos 3277) (pos 60) (Spectral.initial words) (Gain.initial_history bytes) m

-- it, or for a refusal number the all-zero state
unfoldable pub started_by : ℕ → List ℤ → List ℕ → ℕ → Returned
started_by zero words bytes m = record { number = 0; rule = 0; place = 0; state = initial words bytes m }
started_by (suc n) words bytes m = record { number = suc n; rule = (fault (suc n) words bytes).rule; place = (fault (suc n) words bytes).place; state = all_zero }

unfoldable pub started : List ℤ → List ℕ → ℕ → Returned
started words bytes m = started_by (check words bytes) words bytes m

-- reset gives mark 2, and it is sure
unfoldable pub reset : List ℤ → List ℕ → Returned
reset words bytes = started words bytes 2

-- a cold start the same state with 0 and 0
unfoldable pub cold_start : List ℤ → List ℕ → Returned
cold_start words bytes = started words bytes 0

-- a missed frame sets both to 0, and answers 5 to a state that breaks the rule
unfoldable pub missed_frame : State → Returned
missed_frame s = record { number = cond (obeys s) 0 5; rule = 0; place = 0; state = fallen s }
