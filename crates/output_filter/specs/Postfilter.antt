-- The output reconstruction filter, two cascaded sections: postfilter.rs.
use Rattle.std.specs.Prelude.{◌≡◌, refl, Bool, true, false, ◌||◌, List, [], ◌∷◌, ◌++◌, ℕ, suc, ◌+◌, ℤ, pos, negsuc, neg_ℤ, length, get_or, take, replicate}
use Rattle.std.proofs.Common.{ap}
use Rattle.sequence.specs.Count.{count}
use Rattle.sequence.specs.Total.{total}
use Rattle.fixed.specs.Fixed.{residue, signed, wrap, clamp, acc, fold, sat, clips, hi, trunc32, mul, mul32x16, shift}
use Rattle.tables.specs.Places.{OUT_FIR, OUT_IIR}
use Rattle.tables.specs.Tables.{word}
use Rattle.output_filter.specs.declared.Filtered.{Filtered}
use Rattle.output_filter.specs.declared.OutputFilter.{OutputFilter}
use Rattle.output_filter.specs.declared.Section.{Section}
use Rattle.output_filter.specs.declared.Step.{Step}
use Rattle.output_filter.specs.declared.Taps.{Taps}

-- the words that both sections multiply by: four forward, three back
unfoldable pub taps_of : List ℤ → Taps
taps_of words =
    record { ff = word words OUT_FIR ∷ word words (OUT_FIR + 1) ∷ word words (OUT_FIR + 2) ∷ word words (OUT_FIR + 3) ∷ []; fb = word words OUT_IIR ∷ word words (OUT_IIR + 1) ∷ word words (OUT_IIR + 2) ∷ [] }

abbrev pub at : List ℤ → ℕ → ℤ
at l k = get_or l k (pos 0)

-- what the section whose delay lines begin at place s takes in: the value and the three before it, each by its word
unfoldable pub inputs : Taps → OutputFilter → ℕ → ℤ → ℤ
inputs taps filter s value = total fold (acc (mul value (at taps.ff 0))) (λ k. mul (at filter.fir (s + k)) (at taps.ff (k + 1))) 3

-- what a number of the feedback delay line brings: twice its product by a word, taken away
unfoldable pub back : ℤ → ℤ → ℤ
back x tap = neg_ℤ (shift (mul32x16 x tap) (pos 1))

-- the section's sum
unfoldable pub section_sum : Taps → OutputFilter → ℕ → ℤ → ℤ
section_sum taps filter s value = total fold (inputs taps filter s value) (λ k. back (at filter.iir (s + k)) (at taps.fb k)) 3

-- a sum times 2 ^ up: its high half, rounded and saturated
unfoldable pub rounded : ℤ → ℤ → ℤ
rounded sum up = hi (sat (fold (shift sum up) (pos 32768)))

-- the section's output, and what its feedback delay line takes in: twice the sum, cut to 32 bits
unfoldable pub filter_section : Taps → OutputFilter → ℕ → ℤ → Section
filter_section taps filter s value =
    let sum : ℤ = section_sum taps filter s value in
    record { value = rounded sum (pos 2); memory = trunc32 (shift sum (pos 1)) }

-- the final scaling, by six fifths
unfoldable pub scaled : ℤ → ℤ
scaled value = rounded (acc (mul value (pos 19661))) (pos 1)

-- a delay line of each section, three places each, moved on by one: a number comes in front and the third goes
unfoldable pub moved : List ℤ → ℤ → ℤ → List ℤ
moved line first second = first ∷ at line 0 ∷ at line 1 ∷ second ∷ at line 3 ∷ at line 4 ∷ []

-- a sample through the first section, and what comes of it through the second
unfoldable pub filter_sample : Taps → OutputFilter → ℤ → Step
filter_sample taps filter value =
    let first : Section = filter_section taps filter 0 value in
    let second : Section = filter_section taps filter 3 first.value in
    record {
      filter = record { fir = moved filter.fir value first.value; iir = moved filter.iir first.memory second.memory };
      value = scaled second.value;
    }

-- the outputs of a block, sample by sample, the filter carried on; and the filter after it
unfoldable pub outputs : List ℤ → OutputFilter → List ℤ → List ℤ
outputs words filter [] = []
outputs words filter (x ∷ xs) = let s : Step = filter_sample (taps_of words) filter x in s.value ∷ outputs words s.filter xs

unfoldable pub after : List ℤ → OutputFilter → List ℤ → OutputFilter
after words filter [] = filter
after words filter (x ∷ xs) = after words (filter_sample (taps_of words) filter x).filter xs

-- ---- what was clipped on the way
-- what is saturated where a sum times 2 ^ up is rounded
unfoldable pub rounded_sum : ℤ → ℤ → ℤ
rounded_sum sum up = fold (shift sum up) (pos 32768)

pub rounded_sum_lem : (sum up : ℤ) → rounded sum up ≡ hi (sat (rounded_sum sum up))
unfolding rounded rounded_sum
rounded_sum_lem sum up = refl

-- whether saturation changes a value on a sample's way: in the first section, in the second, or in the scaling
unfoldable pub sample_clips : Taps → OutputFilter → ℤ → Bool
sample_clips taps filter value =
    let first : ℤ = (filter_section taps filter 0 value).value in
    let second : ℤ = (filter_section taps filter 3 first).value in
    clips (rounded_sum (section_sum taps filter 0 value) (pos 2)) || clips (rounded_sum (section_sum taps filter 3 first) (pos 2)) || clips (rounded_sum (acc (mul second (pos 19661))) (pos 1))

-- at how many samples of a block it does, the filter at sample n being what the n before it leave
unfoldable pub clipped : List ℤ → OutputFilter → List ℤ → ℕ
clipped words filter block = count (λ n. sample_clips (taps_of words) (after words filter (take n block)) (get_or block n (pos 0))) (length block)

-- what a block leaves: the filter, and that number
unfoldable pub filtered : List ℤ → OutputFilter → List ℤ → Filtered
filtered words filter block = record { filter = after words filter block; clipped = clipped words filter block }

-- there are as many outputs as samples
pub length_outputs : (words : List ℤ) (filter : OutputFilter) (block : List ℤ) → length (outputs words filter block) ≡ length block
unfolding outputs
length_outputs words filter [] = refl
length_outputs words filter (x ∷ xs) = ap suc (length_outputs words (filter_sample (taps_of words) filter x).filter xs)

-- ---- worked examples
abbrev silent : OutputFilter
silent = record { fir = replicate 6 (pos 0); iir = replicate 6 (pos 0) }

abbrev pass : Taps
pass = record { ff = pos 8192 ∷ pos 0 ∷ pos 0 ∷ pos 0 ∷ []; fb = replicate 3 (pos 0) }

-- sections that pass a sample on as it is (8192, one in Q13): the scaling alone is seen
six_fifths : (filter_sample pass silent (pos 10000)).value ≡ pos 12000
unfolding filter_sample filter_section moved section_sum inputs back scaled rounded total fold clamp mul mul32x16 shift wrap signed residue
six_fifths = refl

-- a sum too large: the output is saturated, the memory cut
too_large : filter_section (record { ff = pos 32767 ∷ pos 0 ∷ pos 0 ∷ pos 0 ∷ []; fb = replicate 3 (pos 0) }) silent 0 (pos 32767) ≡ record { value = pos 32767; memory = negsuc 262139 }
unfolding filter_section section_sum inputs back rounded total fold clamp mul mul32x16 shift wrap signed residue
too_large = refl

abbrev clips_of : ℤ → Bool
clips_of value = sample_clips pass silent value

-- sections that pass a sample on: the scaling clips from 27306 up, and from -27307 down
by_scaling : (clips_of (pos 27305) ≡ false) × (clips_of (pos 27306) ≡ true) × (clips_of (negsuc 27305) ≡ false) × (clips_of (negsuc 27306) ≡ true)
unfolding sample_clips filter_section moved section_sum inputs back rounded_sum rounded total fold clips clamp mul mul32x16 shift wrap signed residue
by_scaling = (refl, refl, refl, refl)

-- sections that double a sample and take off twice the one before it: of 20000 the first makes 32767, and the second, after 32767, 0; clipped by the first alone
abbrev twice : Taps
twice = record { ff = pos 16384 ∷ negsuc 16383 ∷ pos 0 ∷ pos 0 ∷ []; fb = replicate 3 (pos 0) }

abbrev later : OutputFilter
later = record { fir = replicate 3 (pos 0) ++ (pos 32767 ∷ pos 0 ∷ pos 0 ∷ []); iir = replicate 6 (pos 0) }

by_first : (sample_clips twice later (pos 20000) ≡ true) × ((filter_sample twice later (pos 20000)).value ≡ pos 0)
unfolding sample_clips filter_sample filter_section moved section_sum inputs back scaled rounded_sum rounded total fold clips clamp mul mul32x16 shift wrap signed residue
by_first = (refl, refl)
