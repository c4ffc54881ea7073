-- A letter and a blank are stored, and a text is put behind them.
use Rattle.std.specs.Prelude.{ℕ, ◌-◌, ◌≤◌, ◌≡◌, refl, List, [], ◌∷◌, ◌++◌, length, take, drop, set}
use Rattle.std.proofs.Common.{◌∙◌, arith, length-set}
use Rattle.stream.specs.Room.{over, tail_back}
use Rattle.channel_lines.specs.Channels.{lettered}

abbrev pub stored : List ℕ → ℕ → List ℕ
stored out letter = set (set out 0 letter) 1 32

pub stored_long : (out : List ℕ) (letter : ℕ) → length (stored out letter) ≡ length out
stored_long out letter = length-set (set out 0 letter) 1 32 ∙ length-set out 0 letter

two_stores : (out : List ℕ) (letter : ℕ) (text : List ℕ) → 2 ≤ length out → take 2 (stored out letter) ++ over text (drop 2 (stored out letter)) ≡ over (lettered letter text) out
unfolding over lettered
two_stores [] letter text h = absurd (omega arith)
two_stores (x ∷ []) letter text h = absurd (omega arith)
two_stores (x ∷ y ∷ rest) letter text h = refl

pub lettered_put : (out : List ℕ) (letter : ℕ) (text : List ℕ) {part : List ℕ} → 2 ≤ length out → part ≡ over text (take (length (stored out letter) - 2) (drop 2 (stored out letter))) → take 2 (stored out letter) ++ (part ++ drop (length (stored out letter) - 2) (drop 2 (stored out letter))) ≡ over (lettered letter text) out
lettered_put out letter text h e = tail_back (stored out letter) text 2 2 refl (rw (stored_long out letter) h) e ∙ two_stores out letter text h
