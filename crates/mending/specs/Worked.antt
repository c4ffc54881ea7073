-- Worked lines and files.
use Rattle.std.specs.Prelude.{ℕ, ◌≡◌, refl, List, [], ◌∷◌, ◌++◌, true, false, replicate}
use Rattle.stream.specs.Lines.{pieces, of_pieces, lines}
use Rattle.stream.specs.Told.{texts, pieces_told}
use Rattle.stream.specs.Decimal.{decimal_in, decimal}
use Rattle.hex_lines.specs.Text.{value, is_digit, is_frame, is_only}
use Rattle.mending.specs.Repair.{is_return, is_blank, is_capital, bare, lower, cleaned, passes, is_kept, mended, any, return, blank, letter, replaced, said, happened, entry, step, line_text, last_text, line_entry, repaired, list}

-- `A`, `Z` and the bytes beside them
lowered : (lower 65 ≡ 97) × (lower 90 ≡ 122) × (lower 64 ≡ 64) × (lower 91 ≡ 91) × (lower 97 ≡ 97)
unfolding lower is_capital
lowered = (refl, refl, refl, refl, refl)

abbrev zeros : List ℕ
zeros = replicate 39 48

-- 39 zeros and ` A`, with a carriage return behind: all three happened; 39 zeros and `a`: nothing did
a_frame : (mended false (zeros ++ (32 ∷ 65 ∷ 13 ∷ [])) ≡ zeros ++ (97 ∷ [])) × (happened false (zeros ++ (32 ∷ 65 ∷ 13 ∷ [])) ≡ return ++ (blank ++ letter)) × (mended false (zeros ++ (97 ∷ [])) ≡ zeros ++ (97 ∷ [])) × (happened false (zeros ++ (97 ∷ [])) ≡ [])
unfolding mended is_kept passes cleaned bare is_return is_blank lower is_capital is_frame is_digit value is_only happened any said
a_frame = (refl, refl, refl, refl)

-- an empty line, `-` with a carriage return, a tab, 39 zeros; and `-`
others : (happened true [] ≡ replaced) × (happened true (45 ∷ 13 ∷ []) ≡ replaced) × (happened true (61 ∷ 9 ∷ []) ≡ replaced) × (happened true zeros ≡ replaced) × (happened true (45 ∷ []) ≡ [])
unfolding happened mended is_kept passes cleaned bare is_return is_blank lower is_capital is_frame is_digit value is_only any said
others = (refl, refl, refl, refl, refl)

-- `+`, carriage return, newline; `+`, newline; ` =`, newline; `+`: the second is replaced, the last, behind `=`, is kept, and has no newline
a_file : (repaired (43 ∷ 13 ∷ 10 ∷ 43 ∷ 10 ∷ 32 ∷ 61 ∷ 10 ∷ 43 ∷ []) ≡ 43 ∷ 10 ∷ 45 ∷ 10 ∷ 61 ∷ 10 ∷ 43 ∷ []) × (list (43 ∷ 13 ∷ 10 ∷ 43 ∷ 10 ∷ 32 ∷ 61 ∷ 10 ∷ 43 ∷ []) ≡ 49 ∷ (return ++ (10 ∷ 50 ∷ (replaced ++ (10 ∷ 51 ∷ (blank ++ (10 ∷ [])))))))
unfolding repaired list lines pieces of_pieces texts pieces_told step line_text last_text line_entry entry decimal decimal_in happened mended is_kept passes cleaned bare is_return is_blank lower is_capital is_frame is_digit value is_only any said
a_file = (refl, refl)

-- nothing; one newline; a blank without one
ends : (repaired [] ≡ []) × (list [] ≡ []) × (repaired (10 ∷ []) ≡ 45 ∷ 10 ∷ []) × (repaired (32 ∷ []) ≡ 45 ∷ [])
unfolding repaired list lines pieces of_pieces texts pieces_told step line_text last_text line_entry entry decimal decimal_in happened mended is_kept passes cleaned bare is_return is_blank lower is_capital is_frame is_digit value is_only any said
ends = (refl, refl, refl, refl)
