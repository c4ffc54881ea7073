-- The frames of a recording.
use Rattle.std.specs.Prelude.{ℕ, ◌≡◌, refl, List, [], ◌∷◌, Bool, true, false, cond, ℤ}
use Rattle.stream.specs.Lines.{lines}
use Rattle.state.specs.declared.State.{State}
use Rattle.heard.specs.Recording.{is_start, Opening, opening}

-- a recording's lines, a first `+` not among them
unfoldable pub frames_of : List (List ℕ) → List (List ℕ)
frames_of [] = []
frames_of (line ∷ more) = cond (is_start line) more (line ∷ more)

unfoldable pub frames : List ℕ → List (List ℕ)
frames recording = frames_of (lines recording)

-- they are the lines that a recording's opening leaves for its calls
pub frames_opening : (words : List ℤ) (bytes recording : List ℕ) → (opening words bytes (lines recording)).lines ≡ frames recording
unfolding frames frames_of opening
frames_opening words bytes recording = by (lines recording)
  where
    of : (b : Bool) (r c : State) (line : List ℕ) (more : List (List ℕ)) → (cond {A = Opening} b (record { state = r; lines = more }) (record { state = c; lines = line ∷ more })).lines ≡ cond b more (line ∷ more)
    of true r c line more = refl
    of false r c line more = refl

    by : (ls : List (List ℕ)) → (opening words bytes ls).lines ≡ frames_of ls
    by [] = refl
    by (line ∷ more) = of (is_start line) _ _ line more
