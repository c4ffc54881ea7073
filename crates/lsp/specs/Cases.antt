-- Document 01's marked case 12, and further values worked out from the Rust, computed.
use Rattle.std.specs.Prelude.{◌≡◌, refl, List, [], ◌∷◌, ◌++◌, ◌*◌, ℤ, pos, negsuc, replicate}
use Rattle.sequence.specs.Table.{table}
use Rattle.sequence.specs.Repeated.{repeated}
use Rattle.fixed.specs.Fixed.{residue, signed, wrap, fold, mul, mul_us, mul32x16, shift}
use Rattle.lsp.specs.Lsp.{position, entry, cosine, lsf_to_lsp, negated, own, coefficient, product, linear, first_polynomial, next_polynomial, lsp_polynomial, plus, minus, halved, front, back, predictor, lsp_to_lpc, midway}

-- the highest LSF that is quantised, and the highest of 16 bits, whose position is beyond the table
position_quantised : position (pos 25682) ≡ 16349
unfolding position
position_quantised = refl

entry_quantised : entry (position (pos 25682)) ≡ 63
unfolding entry position
entry_quantised = refl

entry_beyond : entry (position (pos 32767)) ≡ 63
unfolding entry position
entry_beyond = refl

-- entries of 256 for each place and slopes of 4096, where the cosine is the position itself up to the table's end, and is counted on from entry 63 behind it
rising : List ℤ
rising = table (λ k. pos (k * 256)) 64 ++ replicate 64 (pos 4096)

lsp_rising : lsf_to_lsp rising (pos 0 ∷ pos 1 ∷ pos 2 ∷ pos 100 ∷ pos 12867 ∷ pos 12868 ∷ pos 25682 ∷ pos 25735 ∷ pos 25736 ∷ pos 32767 ∷ []) ≡ pos 0 ∷ pos 0 ∷ pos 1 ∷ pos 63 ∷ pos 8191 ∷ pos 8192 ∷ pos 16349 ∷ pos 16383 ∷ pos 16128 ∷ pos 16252 ∷ []
unfolding lsf_to_lsp cosine position entry rising table fold mul wrap signed residue
lsp_rising = refl

-- a slope that falls by 608: 63 places down from 32767 it is rounded down, from 32757.6
cosine_falling : cosine ((pos 32767 ∷ []) ++ replicate 63 (pos 0) ++ (negsuc 607 ∷ [])) (pos 100) ≡ pos 32757
unfolding cosine position entry fold mul wrap signed residue
cosine_falling = refl

-- 12: rounded down
pub case_12 : midway (negsuc 2) (negsuc 3) ≡ negsuc 3
unfolding midway
case_12 = refl

-- an LSP of -32768 at place 0, where its negative is 32768, and at place 2, where it is -32768
lpc_lowest : lsp_to_lpc (negsuc 32767 ∷ pos 0 ∷ pos 0 ∷ pos 0 ∷ pos 0 ∷ pos 0 ∷ pos 0 ∷ pos 0 ∷ pos 0 ∷ pos 0 ∷ []) ≡ pos 4096 ∷ pos 4096 ∷ pos 24576 ∷ pos 16384 ∷ negsuc 8191 ∷ pos 24576 ∷ pos 0 ∷ pos 16384 ∷ negsuc 28671 ∷ pos 4096 ∷ pos 8192 ∷ []
unfolding lsp_to_lpc predictor front back halved plus minus lsp_polynomial next_polynomial first_polynomial coefficient own product linear negated table repeated fold mul mul_us mul32x16 shift wrap signed residue
lpc_lowest = refl

lpc_lowest_2 : lsp_to_lpc (pos 0 ∷ pos 0 ∷ negsuc 32767 ∷ pos 0 ∷ pos 0 ∷ pos 0 ∷ pos 0 ∷ pos 0 ∷ pos 0 ∷ pos 0 ∷ []) ≡ pos 4096 ∷ negsuc 4095 ∷ pos 16384 ∷ negsuc 16383 ∷ pos 24576 ∷ negsuc 24575 ∷ pos 16384 ∷ negsuc 16383 ∷ pos 4096 ∷ negsuc 4095 ∷ pos 0 ∷ []
unfolding lsp_to_lpc predictor front back halved plus minus lsp_polynomial next_polynomial first_polynomial coefficient own product linear negated table repeated fold mul mul_us mul32x16 shift wrap signed residue
lpc_lowest_2 = refl
