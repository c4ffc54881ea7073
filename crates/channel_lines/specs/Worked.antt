-- Lines of all kinds, whose they are and what they are printed as.
use Rattle.std.specs.Prelude.{ℕ, ◌≡◌, refl, List, [], ◌∷◌, ℤ, replicate}
use Rattle.stream.specs.Lines.{pieces, of_pieces, lines}
use Rattle.stream.specs.Told.{texts}
use Rattle.hex_lines.specs.Text.{digit, is_frame, refused_text}
use Rattle.heard.specs.Recording.{event, line_text}
use Rattle.heard.specs.Recording as Recording
use Rattle.channel_lines.specs.declared.Whose.TheVariants.{A, B, Neither}
use Rattle.channel_lines.specs.Channels.{begins, whose, lettered, text_by, step, text, transcript}

-- `a` and a blank, with nothing behind them, a frame, or too much; so with `b`
lettered_lines : (whose (97 ∷ 32 ∷ []) ≡ A) × (whose (97 ∷ 32 ∷ replicate 40 48) ≡ A) × (whose (97 ∷ 32 ∷ replicate 41 48) ≡ A) × (whose (98 ∷ 32 ∷ []) ≡ B) × (whose (98 ∷ 32 ∷ 32 ∷ []) ≡ B)
unfolding whose begins
lettered_lines = (refl, refl, refl, refl, refl)

-- an empty line, `a`, `ab`, `A `, `c `, a blank first, a tabulator behind, a frame without its letter, `+`, `=`
others : (whose [] ≡ Neither) × (whose (97 ∷ []) ≡ Neither) × (whose (97 ∷ 98 ∷ []) ≡ Neither) × (whose (65 ∷ 32 ∷ []) ≡ Neither) × (whose (99 ∷ 32 ∷ []) ≡ Neither) × (whose (32 ∷ 97 ∷ 32 ∷ []) ≡ Neither) × (whose (97 ∷ 9 ∷ []) ≡ Neither) × (whose (replicate 40 48) ≡ Neither) × (whose (43 ∷ []) ≡ Neither) × (whose (61 ∷ []) ≡ Neither)
unfolding whose begins
others = (refl, refl, refl, refl, refl, refl, refl, refl, refl, refl)

-- `a ` is `a refused 9`, `b ` with 41 digits is `b refused 9`, and an empty line between them is `? refused 9`; the last has no newline
three_lines : (words : List ℤ) (bytes : List ℕ) → transcript words bytes (97 ∷ 32 ∷ 10 ∷ 10 ∷ 98 ∷ 32 ∷ replicate 41 48) ≡ 97 ∷ 32 ∷ 114 ∷ 101 ∷ 102 ∷ 117 ∷ 115 ∷ 101 ∷ 100 ∷ 32 ∷ 57 ∷ 10 ∷ 63 ∷ 32 ∷ 114 ∷ 101 ∷ 102 ∷ 117 ∷ 115 ∷ 101 ∷ 100 ∷ 32 ∷ 57 ∷ 10 ∷ 98 ∷ 32 ∷ 114 ∷ 101 ∷ 102 ∷ 117 ∷ 115 ∷ 101 ∷ 100 ∷ 32 ∷ 57 ∷ 10 ∷ []
unfolding transcript lines pieces of_pieces texts step text whose begins text_by lettered line_text event is_frame Recording.text refused_text digit
three_lines words bytes = refl
