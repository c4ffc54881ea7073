-- The player's commands: what a line says.
use Rattle.std.specs.Prelude.{ℕ, ◌+◌, ◌-◌, ◌*◌, ◌≤◌, min, ◌≡◌, refl, List, [], ◌∷◌, Bool, true, false, ◌&&◌, cond, eqb, ltb, length, get_or, take, drop}
use Rattle.std.proofs.Common.{arith, sym, eq-eqb, ne_eqb}
use borrow.Author.Tests.{eqb-true, eqb-false}
use Rattle.sequence.specs.First.{first, first_le, first_before, first_at}
use Rattle.std.specs.Cmp.Lexicographic.{pointwise}
use Rattle.std.specs.List.{position_or_len}
use Rattle.std.proofs.lemmas.List.Sums.{position_or_len_is}
use Rattle.commands.specs.declared.Command as Program
use Rattle.commands.specs.declared.Command.TheVariants.{Save, Hold, LetGo, Seek, Play, Unknown}

-- ---- a number: one or more decimal digits and nothing else, at most 4,294,967,295; one more than that stands for none
abbrev pub NONE : ℕ
NONE = 4294967296

-- a digit more
unfoldable pub more : ℕ → ℕ → ℕ
more v c = cond (ltb c 48) NONE (cond (ltb 57 c) NONE (min (10 * v + (c - 48)) NONE))

unfoldable pub number_from : ℕ → List ℕ → ℕ
number_from v [] = v
number_from v (c ∷ cs) = number_from (more v c) cs

unfoldable pub number : List ℕ → ℕ
number text = cond (eqb (length text) 0) NONE (number_from 0 text)

-- `0`, `007`, `4294967295`; and none: nothing, `4294967296`, `12a`, ` 1`
numbers : (number (48 ∷ []) ≡ 0) × (number (48 ∷ 48 ∷ 55 ∷ []) ≡ 7) × (number (52 ∷ 50 ∷ 57 ∷ 52 ∷ 57 ∷ 54 ∷ 55 ∷ 50 ∷ 57 ∷ 53 ∷ []) ≡ 4294967295)
unfolding number number_from more
numbers = (refl, refl, refl)

no_numbers : (number [] ≡ NONE) × (number (52 ∷ 50 ∷ 57 ∷ 52 ∷ 57 ∷ 54 ∷ 55 ∷ 50 ∷ 57 ∷ 54 ∷ []) ≡ NONE) × (number (49 ∷ 50 ∷ 97 ∷ []) ≡ NONE) × (number (32 ∷ 49 ∷ []) ≡ NONE)
unfolding number number_from more
no_numbers = (refl, refl, refl, refl)

-- ---- a line
-- it begins with a name
unfoldable pub starts : List ℕ → List ℕ → Bool
starts [] line = true
starts (c ∷ name) [] = false
starts (c ∷ name) (b ∷ line) = eqb b c && starts name line

-- the number behind a name and its blank, or none
unfoldable pub argument : List ℕ → List ℕ → ℕ
argument name line = cond (starts name line) (number (drop (length name) line)) NONE

-- the place of the first blank, or the length
unfoldable pub blank : List ℕ → ℕ
blank text = first (λ i. eqb (get_or text i 0) 32) (length text)

-- a command by its kind and its numbers, 0 where it has none; kinds: 0 unknown, 1 save, 2 hold, 3 let go, 4 seek, 5 play
pub record Command : Type 0 where
  pub kind : ℕ
  pub k : ℕ
  pub n : ℕ

abbrev pub unknown : Command
unknown = record { kind = 0; k = 0; n = 0 }

-- that of the program
abbrev pub told : Program.Command → Command
told (Save k) = record { kind = 1; k = k; n = 0 }
told (Hold k) = record { kind = 2; k = k; n = 0 }
told (LetGo k) = record { kind = 3; k = k; n = 0 }
told (Seek k) = record { kind = 4; k = k; n = 0 }
told (Play k n) = record { kind = 5; k = k; n = n }
told Unknown = unknown

-- two numbers with a blank between them
unfoldable pub playing : List ℕ → Command
playing text =
    cond (ltb (blank text) (length text))
    (cond (eqb (number (take (blank text) text)) NONE) unknown
    (cond (eqb (number (drop (blank text + 1) text)) NONE) unknown (record { kind = 5; k = number (take (blank text) text); n = number (drop (blank text + 1) text) })))
    unknown

-- `save `, `hold `, `let go `, `seek ` with a number, `play ` with two; any other line is unknown
abbrev pub save : List ℕ
save = 115 ∷ 97 ∷ 118 ∷ 101 ∷ 32 ∷ []

abbrev pub hold : List ℕ
hold = 104 ∷ 111 ∷ 108 ∷ 100 ∷ 32 ∷ []

abbrev pub let_go : List ℕ
let_go = 108 ∷ 101 ∷ 116 ∷ 32 ∷ 103 ∷ 111 ∷ 32 ∷ []

abbrev pub seek : List ℕ
seek = 115 ∷ 101 ∷ 101 ∷ 107 ∷ 32 ∷ []

abbrev pub play : List ℕ
play = 112 ∷ 108 ∷ 97 ∷ 121 ∷ 32 ∷ []

unfoldable pub command : List ℕ → Command
command line =
    cond (ltb (argument save line) NONE) (record { kind = 1; k = argument save line; n = 0 })
    (cond (ltb (argument hold line) NONE) (record { kind = 2; k = argument hold line; n = 0 })
    (cond (ltb (argument let_go line) NONE) (record { kind = 3; k = argument let_go line; n = 0 })
    (cond (ltb (argument seek line) NONE) (record { kind = 4; k = argument seek line; n = 0 })
    (cond (starts play line) (playing (drop 5 line)) unknown))))

-- ---- laws
-- it is the library's test and place
pub starts_is : (name line : List ℕ) → pointwise eqb name (take (length name) line) ≡ starts name line
unfolding starts
starts_is [] line = refl
starts_is (c ∷ name) [] = refl
starts_is (c ∷ name) (b ∷ line) = by (eqb b c) refl (starts_is name line)
  where
    by : (t : Bool) → eqb b c ≡ t → pointwise eqb name (take (length name) line) ≡ starts name line → (eqb c b && pointwise eqb name (take (length name) line)) ≡ (eqb b c && starts name line)
    by true e r = let q = eqb-true b c e in rw (e, eq-eqb c b (sym q)) r
    by false e r = rw (e, ne_eqb c b (λ w. eqb-false b c e (sym w)))

pub blank_is : (text : List ℕ) → position_or_len (λ b. eqb b 32) text ≡ blank text
unfolding blank
blank_is text =
    let f : ℕ → Bool = λ i. eqb (get_or text i 0) 32 in
    position_or_len_is (λ b. eqb b 32) text (first f (length text)) 0 (first_le f (length text)) (λ k h. first_before f (length text) k h) (λ h. first_at f (length text) h)

pub blank_le : (text : List ℕ) → blank text ≤ length text
unfolding blank
blank_le text = first_le (λ i. eqb (get_or text i 0) 32) (length text)

pub starts_none : (line : List ℕ) → starts [] line ≡ true
unfolding starts
starts_none line = refl

pub starts_short : (c : ℕ) (name : List ℕ) → starts (c ∷ name) [] ≡ false
unfolding starts
starts_short c name = refl

pub starts_more : (c : ℕ) (name : List ℕ) (b : ℕ) (line : List ℕ) → b ≡ c → starts (c ∷ name) (b ∷ line) ≡ starts name line
unfolding starts
starts_more c name b line e = rw (eq-eqb b c e)

pub starts_other : (c : ℕ) (name : List ℕ) (b : ℕ) (line : List ℕ) → (b ≡ c → ⊥) → starts (c ∷ name) (b ∷ line) ≡ false
unfolding starts
starts_other c name b line h = rw (ne_eqb b c h)

-- a line that begins with a name is no shorter
pub starts_long : (name line : List ℕ) → starts name line ≡ true → length name ≤ length line
unfolding starts
starts_long [] line e = omega arith
starts_long (c ∷ name) [] e = absurd (let z : ◌≡◌ {A = ℕ} 0 1 = cc in omega arith)
starts_long (c ∷ name) (b ∷ line) e = by (eqb b c) e (starts_long name line)
  where
    by : (t : Bool) → t && starts name line ≡ true → (starts name line ≡ true → length name ≤ length line) → length (c ∷ name) ≤ length (b ∷ line)
    by true p f = let h = f p in omega arith
    by false p f = absurd (let z : ◌≡◌ {A = ℕ} 0 1 = cc in omega arith)

pub number_more : (v c : ℕ) (cs : List ℕ) → number_from v (c ∷ cs) ≡ number_from (more v c) cs
unfolding number_from
number_more v c cs = refl

pub number_end : (v : ℕ) → number_from v [] ≡ v
unfolding number_from
number_end v = refl

pub number_none : (text : List ℕ) → length text ≡ 0 → number text ≡ NONE
unfolding number
number_none text e = rw (eq-eqb (length text) 0 e)

pub number_some : (text : List ℕ) → (length text ≡ 0 → ⊥) → number text ≡ number_from 0 text
unfolding number
number_some text h = rw (ne_eqb (length text) 0 h)
