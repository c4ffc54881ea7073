-- The lines of a text, each attempted in turn.
use Rattle.std.specs.Prelude.{ℕ, ◌<◌, ◌≢◌, List, [], ◌∷◌, ◌++◌, length, All}

module _ {F : Type 0} (attempt : F → List ℕ → F → Type 0) where
  -- attempts that `attempt` allows at the text's lines lead the closure from the text's start to its end; a last line without its end is one too
  pub data Attempted : F → List ℕ → F → Type 0 where
    ended : {f : F} → Attempted f [] f
    line : {f after last : F} {here rest : List ℕ} → All (λ b. b ≢ 10) here → attempt f here after → Attempted after rest last → Attempted f (here ++ 10 ∷ rest) last
    unended : {f after last : F} {here : List ℕ} → 0 < length here → All (λ b. b ≢ 10) here → attempt f here after → Attempted after [] last → Attempted f here last
