-- The state that some of the frames of a recording leave.
use Rattle.std.specs.Prelude.{ℕ, ◌≤◌, ◌≡◌, ℤ, take, drop}
use Rattle.std.proofs.Math.Path.{refl, sym, ap}
use Rattle.std.proofs.Common.{◌∙◌, take-append-drop, take-take}
use mathlib.Core.List.{List, [], ◌∷◌, ◌++◌}
use Rattle.stream.specs.Lines.{lines}
use Rattle.stream.specs.Told.{after}
use Rattle.state.specs.declared.State.{State}
use Rattle.heard.specs.Recording.{opening, line_step}
use Rattle.places.specs.Frames.{frames}

module _ (words : List ℤ) (bytes : List ℕ) where
  -- the state that frames j up to k, k not among them, leave of s
  unfoldable pub forward : State → List ℕ → ℕ → ℕ → State
  forward s recording j k = after (line_step words bytes) s (drop j (take k (frames recording)))

  -- the state before frame k, where a recording is played from its start
  unfoldable pub before : List ℕ → ℕ → State
  before recording k = after (line_step words bytes) (opening words bytes (lines recording)).state (take k (frames recording))

  pub after_append : (s : State) (xs ys : List (List ℕ)) → after (line_step words bytes) s (xs ++ ys) ≡ after (line_step words bytes) (after (line_step words bytes) s xs) ys
  unfolding after
  after_append s [] ys = refl
  after_append s (x ∷ xs) ys = after_append (line_step words bytes s x) xs ys

  -- **forward from the state before frame j is the state before frame k**
  pub forward_before : (recording : List ℕ) (j k : ℕ) → j ≤ k → forward (before recording j) recording j k ≡ before recording k
  unfolding forward before
  forward_before recording j k h =
      let ls = frames recording in
      let s = (opening words bytes (lines recording)).state in
      ap (λ (t : List (List ℕ)). after (line_step words bytes) (after (line_step words bytes) s t) (drop j (take k ls))) (sym (take-take j k ls h))
      ∙ sym (after_append s (take j (take k ls)) (drop j (take k ls)))
      ∙ ap (after (line_step words bytes) s) (take-append-drop j (take k ls))
