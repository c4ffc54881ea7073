-- The questions of a text, each asked in turn.
use Rattle.std.specs.Prelude.{ℕ, ◌<◌, ◌≤◌, List, length, ⊤}
use Rattle.questions.specs.declared.Question.{Question}
use Rattle.questions.specs.Questions.{line}

module _ {F : Type 0} (answer : F → Question → ⊤ → F → Type 0) (text : List ℕ) where
  -- answers that `answer` allows to the text's questions, each from where the one before ended, lead the closure from a place of the text to its end
  pub data Asked : F → ℕ → F → Type 0 where
    ended : {f : F} {from : ℕ} → length text ≤ from → Asked f from f
    asked : {f after last : F} {from : ℕ} → from < length text → answer f (line text from) tt after → Asked after (line text from).next last → Asked f from last
