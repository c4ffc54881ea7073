-- Worked lines and verdicts.
use Rattle.std.specs.Prelude.{ℕ, ◌≡◌, refl, List, [], ◌∷◌, ◌++◌, true, false, replicate}
use Rattle.sequence.specs.First.{first_from}
use Rattle.stream.specs.Decimal.{decimal_in, decimal}
use Rattle.hex_lines.specs.Text.{value, is_digit}
use Rattle.verdict.specs.Verdict.{is_decimal, refused_word, is_frame, is_refusal, known, head, says, refusal, mark, agree, digits_at, spelled, spaced, differs, place, sample_of, sample, sample_at, what, difference, added, next, judge}

-- `refused`, `refused `, `refused 6`, `refused 06`, that with a carriage return behind, `Refused 6`, `refused -6`, nothing, `2` and a blank
forms : (known (114 ∷ 101 ∷ 102 ∷ 117 ∷ 115 ∷ 101 ∷ 100 ∷ []) ≡ false) × (known refused_word ≡ false) × (known (refused_word ++ (54 ∷ [])) ≡ true) × (known (refused_word ++ (48 ∷ 54 ∷ [])) ≡ true) × (known (refused_word ++ (48 ∷ 54 ∷ 13 ∷ [])) ≡ false) × (known (82 ∷ 101 ∷ 102 ∷ 117 ∷ 115 ∷ 101 ∷ 100 ∷ 32 ∷ 54 ∷ []) ≡ false) × (known (refused_word ++ (45 ∷ 54 ∷ [])) ≡ false) × (known [] ≡ false) × (known (50 ∷ 32 ∷ []) ≡ false)
unfolding known is_frame is_refusal is_decimal
forms = (refl, refl, refl, refl, refl, refl, refl, refl, refl)

-- 16 bits, signed: 0, 32767, -32768, -1
signed : (spaced 0 ≡ 32 ∷ 48 ∷ []) × (spaced 32767 ≡ 32 ∷ 51 ∷ 50 ∷ 55 ∷ 54 ∷ 55 ∷ []) × (spaced 32768 ≡ 32 ∷ 45 ∷ 51 ∷ 50 ∷ 55 ∷ 54 ∷ 56 ∷ []) × (spaced 65535 ≡ 32 ∷ 45 ∷ 49 ∷ [])
unfolding spaced decimal decimal_in
signed = (refl, refl, refl, refl)

-- `00`, `7fFF` and `8000`: the first sample is 32767, the second 32768 as 16 bits
spelling : (spelled (48 ∷ 48 ∷ 55 ∷ 102 ∷ 70 ∷ 70 ∷ 56 ∷ 48 ∷ 48 ∷ 48 ∷ []) 0 ≡ 32767) × (spelled (48 ∷ 48 ∷ 55 ∷ 102 ∷ 70 ∷ 70 ∷ 56 ∷ 48 ∷ 48 ∷ 48 ∷ []) 1 ≡ 32768)
unfolding spelled value
spelling = (refl, refl)

abbrev six : List ℕ
six = refused_word ++ (54 ∷ [])

abbrev seven : List ℕ
seven = refused_word ++ (55 ∷ [])

-- nothing beside nothing; a line beside itself; `refused 7` and `refused 06` beside `refused 6`
lines_told : (judge 1 [] [] ≡ agree) × (judge 1 (six ∷ []) (six ∷ []) ≡ agree) × (judge 1 (six ∷ []) (seven ∷ []) ≡ 108 ∷ 105 ∷ 110 ∷ 101 ∷ 32 ∷ 49 ∷ 32 ∷ 114 ∷ 101 ∷ 102 ∷ 117 ∷ 115 ∷ 97 ∷ 108 ∷ 10 ∷ []) × (judge 1 (six ∷ []) ((refused_word ++ (48 ∷ 54 ∷ [])) ∷ []) ≡ 108 ∷ 105 ∷ 110 ∷ 101 ∷ 32 ∷ 49 ∷ 32 ∷ 114 ∷ 101 ∷ 102 ∷ 117 ∷ 115 ∷ 97 ∷ 108 ∷ 10 ∷ [])
unfolding judge next difference what says head decimal decimal_in known is_frame is_refusal is_decimal
lines_told = (refl, refl, refl, refl)

-- theirs ends before ours; a line more; an empty line more, which has no known form
ends_told : (judge 1 (six ∷ six ∷ []) (six ∷ []) ≡ 108 ∷ 105 ∷ 110 ∷ 101 ∷ 32 ∷ 50 ∷ 32 ∷ 109 ∷ 105 ∷ 115 ∷ 115 ∷ 105 ∷ 110 ∷ 103 ∷ 10 ∷ []) × (judge 1 (six ∷ []) (six ∷ seven ∷ []) ≡ 108 ∷ 105 ∷ 110 ∷ 101 ∷ 32 ∷ 50 ∷ 32 ∷ 101 ∷ 120 ∷ 116 ∷ 114 ∷ 97 ∷ 10 ∷ []) × (judge 1 (six ∷ []) (six ∷ [] ∷ []) ≡ 108 ∷ 105 ∷ 110 ∷ 101 ∷ 32 ∷ 50 ∷ 32 ∷ 114 ∷ 101 ∷ 102 ∷ 117 ∷ 115 ∷ 101 ∷ 100 ∷ 32 ∷ 49 ∷ 54 ∷ 10 ∷ []) × (judge 1 (six ∷ []) [] ≡ 108 ∷ 105 ∷ 110 ∷ 101 ∷ 32 ∷ 49 ∷ 32 ∷ 109 ∷ 105 ∷ 115 ∷ 115 ∷ 105 ∷ 110 ∷ 103 ∷ 10 ∷ []) × (judge 1 [] (six ∷ []) ≡ 108 ∷ 105 ∷ 110 ∷ 101 ∷ 32 ∷ 49 ∷ 32 ∷ 101 ∷ 120 ∷ 116 ∷ 114 ∷ 97 ∷ 10 ∷ [])
unfolding judge next difference what added says head decimal decimal_in known is_frame is_refusal is_decimal
ends_told = (refl, refl, refl, refl, refl)

-- a line of no known form before a difference, and one behind it, of which nothing is told
unknown_told : (judge 1 (six ∷ six ∷ []) ((six ++ (13 ∷ [])) ∷ seven ∷ []) ≡ 108 ∷ 105 ∷ 110 ∷ 101 ∷ 32 ∷ 49 ∷ 32 ∷ 114 ∷ 101 ∷ 102 ∷ 117 ∷ 115 ∷ 101 ∷ 100 ∷ 32 ∷ 49 ∷ 54 ∷ 10 ∷ []) × (judge 1 (six ∷ six ∷ []) (seven ∷ [] ∷ []) ≡ 108 ∷ 105 ∷ 110 ∷ 101 ∷ 32 ∷ 49 ∷ 32 ∷ 114 ∷ 101 ∷ 102 ∷ 117 ∷ 115 ∷ 97 ∷ 108 ∷ 10 ∷ [])
unfolding judge next difference what says head decimal decimal_in known is_frame is_refusal is_decimal
unknown_told = (refl, refl)

-- a mark, a blank, zeros and four digits in front and at the end: 320 samples
abbrev frame : ℕ → List ℕ → List ℕ → List ℕ
frame m front end = m ∷ 32 ∷ (front ++ (replicate 1272 48 ++ end))

-- `000a` beside `000A` at the last place; `ffff` beside `7fff` at the first, with the last too; 2 beside 1 as marks; a frame beside `refused 6`
frames_told : (what (frame 50 (48 ∷ 48 ∷ 48 ∷ 48 ∷ []) (48 ∷ 48 ∷ 48 ∷ 97 ∷ [])) (frame 50 (48 ∷ 48 ∷ 48 ∷ 48 ∷ []) (48 ∷ 48 ∷ 48 ∷ 65 ∷ [])) ≡ 32 ∷ 115 ∷ 97 ∷ 109 ∷ 112 ∷ 108 ∷ 101 ∷ 32 ∷ 51 ∷ 49 ∷ 57 ∷ 32 ∷ 49 ∷ 48 ∷ 32 ∷ 49 ∷ 48 ∷ []) × (what (frame 50 (102 ∷ 102 ∷ 102 ∷ 102 ∷ []) (48 ∷ 48 ∷ 48 ∷ 48 ∷ [])) (frame 50 (55 ∷ 102 ∷ 102 ∷ 102 ∷ []) (48 ∷ 48 ∷ 48 ∷ 65 ∷ [])) ≡ 32 ∷ 115 ∷ 97 ∷ 109 ∷ 112 ∷ 108 ∷ 101 ∷ 32 ∷ 48 ∷ 32 ∷ 45 ∷ 49 ∷ 32 ∷ 51 ∷ 50 ∷ 55 ∷ 54 ∷ 55 ∷ []) × (what (frame 50 (48 ∷ 48 ∷ 48 ∷ 48 ∷ []) (48 ∷ 48 ∷ 48 ∷ 48 ∷ [])) (frame 49 (48 ∷ 48 ∷ 48 ∷ 48 ∷ []) (48 ∷ 48 ∷ 48 ∷ 65 ∷ [])) ≡ mark) × (what (frame 50 (48 ∷ 48 ∷ 48 ∷ 48 ∷ []) (48 ∷ 48 ∷ 48 ∷ 48 ∷ [])) six ≡ refusal)
unfolding what known is_frame is_refusal is_decimal is_digit value place differs digits_at first_from sample_at sample sample_of spelled spaced decimal decimal_in
frames_told = (refl, refl, refl, refl)

-- the last number stays
top : (next 1 ≡ 2) × (next 18446744073709551614 ≡ 18446744073709551615) × (next 18446744073709551615 ≡ 18446744073709551615)
unfolding next
top = (refl, refl, refl)
