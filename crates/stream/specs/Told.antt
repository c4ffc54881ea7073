-- Lines answered one after the other, each by the state that the one before left; and a machine, fed a byte at a time, that writes just that.
use Rattle.std.specs.Prelude.{ℕ, ◌≡◌, Bool, eqb}
use Rattle.std.proofs.Math.Path.{refl}
use Rattle.std.proofs.Common.{ap, ◌∙◌}
use mathlib.Core.List.{List, [], ◌∷◌, ◌++◌, append_assoc, append-nil}
use Rattle.std.proofs.Math.Bool.{true, false}
use borrow.Author.Tests.{eqb-true, eqb-false}
use Rattle.stream.specs.Lines.{pieces, of_pieces, lines}
use Rattle.stream.specs.Machine.{fed_all, written_all}
use Rattle.stream.specs.Reads.{Read, input_of, answers, answers_joined}

-- the state that lines leave
unfoldable pub after : {S : Type 0} → (S → List ℕ → S) → S → List (List ℕ) → S
after step s [] = s
after step s (line ∷ more) = after step (step s line) more

-- ---- lines, each with its text and the state that it leaves, and a text at the end
module _ {S : Type 0} (step : S → List ℕ → S) (text : S → List ℕ → List ℕ) where
  -- what lines are answered
  unfoldable pub texts : S → List (List ℕ) → List ℕ
  texts s [] = []
  texts s (line ∷ more) = text s line ++ texts (step s line) more

  module _ (final : S → List ℕ) where
    -- all of it
    unfoldable pub told : S → List (List ℕ) → List ℕ
    told s ls = texts s ls ++ final (after step s ls)

    -- what an open line gives where the input ends: it is a line, unless it is empty
    unfoldable pub last : S → List ℕ → List ℕ
    last s [] = final s
    last s (b ∷ bs) = text s (b ∷ bs) ++ final (step s (b ∷ bs))

  -- pieces, the last of which is open
  unfoldable pub pieces_told : (S → List ℕ → List ℕ) → S → List ℕ → List (List ℕ) → List ℕ
  pieces_told last s piece [] = last s piece
  pieces_told last s piece (next ∷ more) = text s piece ++ pieces_told last (step s piece) next more

  pub told_lines : (final : S → List ℕ) (s : S) (piece : List ℕ) (more : List (List ℕ)) → pieces_told (last final) s piece more ≡ told final s (of_pieces piece more)
  unfolding pieces_told last told of_pieces texts after
  told_lines final s [] [] = refl
  told_lines final s (b ∷ bs) [] = rw append-nil
  told_lines final s [] (next ∷ more) = rw (told_lines final (step s []) next more, append_assoc)
  told_lines final s (b ∷ bs) (next ∷ more) = rw (told_lines final (step s (b ∷ bs)) next more, append_assoc)

-- ---- a machine R, that stands at a state with an open line
module _ {S R : Type 0} (step : S → List ℕ → S) (text last : S → List ℕ → List ℕ) (fed : R → ℕ → R) (written : R → ℕ → List ℕ) (ending : R → List ℕ) (at : S → List ℕ → R) where
  -- it is the lines' where a newline ends the line, any other byte is added to it, and the end of the input gives what the open line gives
  pub record Machine : Type 0 where
    pub newline : (s : S) (line : List ℕ) → fed (at s line) 10 ≡ at (step s line) []
    pub newline_text : (s : S) (line : List ℕ) → written (at s line) 10 ≡ text s line
    pub other : (s : S) (line : List ℕ) (b : ℕ) → (b ≡ 10 → ⊥) → fed (at s line) b ≡ at s (line ++ (b ∷ []))
    pub other_text : (s : S) (line : List ℕ) (b : ℕ) → (b ≡ 10 → ⊥) → written (at s line) b ≡ []
    pub end_text_lem : (s : S) (line : List ℕ) → ending (at s line) ≡ last s line

  -- all that it writes of the rest of an input
  abbrev all : R → List ℕ → List ℕ
  all r input = written_all fed written r input ++ ending (fed_all fed r input)

  module _ (m : Machine) where
    -- a byte more, b, where it is shown of all that follows it
    turn : (bs : List ℕ) → ((s : S) (line : List ℕ) → all (at s line) bs ≡ pieces_told step text last s (line ++ (pieces bs).first) (pieces bs).more) → (s : S) (line : List ℕ) (b : ℕ) (newline : Bool) → eqb b 10 ≡ newline → all (at s line) (b ∷ bs) ≡ pieces_told step text last s (line ++ (pieces (b ∷ bs)).first) (pieces (b ∷ bs)).more
    unfolding written_all fed_all pieces pieces_told
    turn bs then s line b true e =
        rw (e, eqb-true b 10 e, m.newline s line, m.newline_text s line, append-nil, append_assoc) (ap (λ (l : List ℕ). text s line ++ l) (then (step s line) []))
    turn bs then s line b false e =
        let h = eqb-false b 10 e in
        rw (e, m.other s line b h, m.other_text s line b h) (then s (line ++ (b ∷ [])) ∙ rw append_assoc)

    pub pieces_told_lem : (s : S) (line input : List ℕ) → all (at s line) input ≡ pieces_told step text last s (line ++ (pieces input).first) (pieces input).more
    unfolding written_all fed_all pieces pieces_told
    pieces_told_lem s line [] = rw append-nil (m.end_text_lem s line)
    pieces_told_lem s line (b ∷ bs) = turn bs (λ t l. pieces_told_lem t l bs) s line b (eqb b 10) refl

    -- THE THEOREM: however an input is cut into reads, their texts, joined, with the end's behind them, are what its pieces are told
    pub any_cut : (s : S) (reads : List Read) → answers fed written ending (at s []) reads ≡ pieces_told step text last s (pieces (input_of reads)).first (pieces (input_of reads)).more
    any_cut s reads = answers_joined fed written ending (at s []) reads ∙ pieces_told_lem s [] (input_of reads)

-- where an open line is a line unless it is empty: the reads' texts, joined, are what the lines are told
module _ {S R : Type 0} (step : S → List ℕ → S) (text : S → List ℕ → List ℕ) (final : S → List ℕ) (fed : R → ℕ → R) (written : R → ℕ → List ℕ) (ending : R → List ℕ) (at : S → List ℕ → R) where
  pub reads_told : Machine step text (last step text final) fed written ending at → (s : S) (reads : List Read) → answers fed written ending (at s []) reads ≡ told step text final s (lines (input_of reads))
  unfolding lines
  reads_told m s reads = any_cut step text (last step text final) fed written ending at m s reads ∙ told_lines step text final s _ _
