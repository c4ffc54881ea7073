-- The lent table set: what stands at a place, and the set rules of document 01 as tests.
use Rattle.std.specs.Prelude.{ℕ, ◌+◌, ◌-◌, ◌*◌, ◌≡◌, refl, List, [], ◌∷◌, Bool, false, ◌&&◌, not, cond, length, get_or, eqb, ltb, ℤ, pos, negsuc, Float}
use Rattle.std.specs.Int.Signed.{le_z, lt_z}
use Rattle.floats.specs.Floats.{float_at, within}
use Rattle.sequence.specs.First.{first, some}
use Rattle.tables.specs.declared.Fault.{Fault}
use Rattle.tables.specs.Places.{WORDS, BYTES, PITCH_GAIN, LOG_GAIN, GAIN_BIAS, LOW, HIGH, MA, FCB_INDEX_LIMIT, FCB_CLASS_BASE, FCB_PULSES, FCB_SHAPE_SEL, FCB_POSITIONS, FCB_ALT_A}

-- ---- words
-- the word at a place
abbrev pub word : List ℤ → ℕ → ℤ
word words at = get_or words at (pos 0)

-- a 16-bit word read without its sign
abbrev pub unsigned : ℤ → ℕ
unsigned (pos n) = n
unsigned (negsuc n) = 65535 - n

all_ones : unsigned (negsuc 0) ≡ 65535
all_ones = refl

abbrev pub unsigned_word : List ℤ → ℕ → ℕ
unsigned_word words at = unsigned (word words at)

-- one more than the largest index
abbrev pub limit : List ℤ → ℕ
limit words = unsigned_word words FCB_INDEX_LIMIT

-- the first index of a class, 0 to 5
abbrev pub base : List ℤ → ℕ → ℕ
base words class = unsigned_word words (FCB_CLASS_BASE + class)

-- how many pulses a class has, 0 to 4
abbrev pub pulses : List ℤ → ℕ → ℤ
pulses words class = word words (FCB_PULSES + class)

-- the first shape of a class, 0 to 4: the table has three entries a class
abbrev pub selector : List ℤ → ℕ → ℤ
selector words class = word words (FCB_SHAPE_SEL + 3 * class)

-- pulse position k of 600
abbrev pub position : List ℤ → ℕ → ℤ
position words k = word words (FCB_POSITIONS + k)

-- entry k of the 3,200 of FCB_ALT_A and FCB_ALT_B, which lie end to end
abbrev pub entry : List ℤ → ℕ → ℤ
entry words k = word words (FCB_ALT_A + k)

-- ---- bytes, as config.rs reads them
abbrev pub pitch_gain_of : List ℕ → ℕ → Float
pitch_gain_of bytes i = float_at bytes (PITCH_GAIN + 4 * i)

abbrev pub log_gain : List ℕ → ℕ → Float
log_gain bytes i = float_at bytes (LOG_GAIN + 4 * i)

abbrev pub gain_bias : List ℕ → Float
gain_bias bytes = float_at bytes GAIN_BIAS

abbrev pub low : List ℕ → ℕ → ℕ → Float
low bytes i k = float_at bytes (LOW + 4 * (5 * i + k))

abbrev pub high : List ℕ → ℕ → ℕ → Float
high bytes i k = float_at bytes (HIGH + 4 * (5 * i + k))

abbrev pub ma : List ℕ → ℕ → ℕ → ℕ → Float
ma bytes mode tap k = float_at bytes (MA + 4 * (mode * 40 + tap * 10 + k))

-- ---- the set rules: whether the k-th place of a rule breaks it
-- within low..=high
abbrev pub between : ℤ → ℤ → ℤ → Bool
between low high x = le_z low x && le_z x high

-- 1: the limit is at least 1, base 0 is 0, and no base is below the one before it. The bases follow the limit.
unfoldable pub limit_bad : List ℤ → ℕ → Bool
limit_bad words k =
    cond (eqb k 0) (eqb (unsigned_word words (FCB_INDEX_LIMIT + k)) 0)
    (cond (eqb k 1) (not (eqb (unsigned_word words (FCB_INDEX_LIMIT + k)) 0))
    (ltb (unsigned_word words (FCB_INDEX_LIMIT + k)) (unsigned_word words (FCB_INDEX_LIMIT + k - 1))))

-- 2: pulses are 2 or 3
unfoldable pub pulses_bad : List ℤ → ℕ → Bool
pulses_bad words k = not (between (pos 2) (pos 3) (pulses words k))

-- 3: a shape selector is within 0..=29
unfoldable pub selector_bad : List ℤ → ℕ → Bool
selector_bad words k = not (between (pos 0) (pos 29) (selector words k))

-- 4: no position is negative
unfoldable pub position_bad : List ℤ → ℕ → Bool
position_bad words k = lt_z (position words k) (pos 0)

-- 5: an entry is within -80..=-1 or 1..=80
unfoldable pub entry_bad : List ℤ → ℕ → Bool
entry_bad words k = not (between (negsuc 79) (negsuc 0) (entry words k)) && not (between (pos 1) (pos 80) (entry words k))

-- 6: a float is finite and within ±65,536
unfoldable pub float_bad : List ℕ → ℕ → Bool
float_bad bytes k = not (within 65536 (float_at bytes (4 * k)))

-- ---- the rules by their numbers, 1 to 6: there is no rule 0
-- how many places a rule has
unfoldable pub count : ℕ → ℕ
count r = get_or (0 ∷ 7 ∷ 5 ∷ 5 ∷ 600 ∷ 3200 ∷ 977 ∷ []) r 0

-- whether its k-th place breaks it
unfoldable pub bad : List ℤ → List ℕ → ℕ → ℕ → Bool
bad words bytes r k =
    get_or (false ∷ limit_bad words k ∷ pulses_bad words k ∷ selector_bad words k ∷ position_bad words k ∷ entry_bad words k ∷ float_bad bytes k ∷ []) r false

-- where its k-th place is, a word's or that of a float's first byte: from the first place on, each so far from the one before it
unfoldable pub place : ℕ → ℕ → ℕ
place r k =
    get_or (0 ∷ FCB_INDEX_LIMIT ∷ FCB_PULSES ∷ FCB_SHAPE_SEL ∷ FCB_POSITIONS ∷ FCB_ALT_A ∷ PITCH_GAIN ∷ []) r 0 + get_or (0 ∷ 1 ∷ 1 ∷ 3 ∷ 1 ∷ 1 ∷ 4 ∷ []) r 0 * k

-- the last of rules 1, 3, 5 and 6
last_places : (place 1 6 ≡ 192) × (place 3 4 ≡ 210) × (place 5 3199 ≡ 4682) × (place 6 976 ≡ 3904)
unfolding place
last_places = (refl, refl, refl, refl)

-- whether a rule is broken at one of its places
unfoldable pub broken : List ℤ → List ℕ → ℕ → Bool
broken words bytes r = some (bad words bytes r) (count r)

-- the lowest rule that is broken, and its first offending place; 0 and 0 where none is
unfoldable pub report : List ℤ → List ℕ → ℕ → Fault
report words bytes r = cond (ltb r 7) (record { rule = r; place = place r (first (bad words bytes r) (count r)) }) (record { rule = 0; place = 0 })

unfoldable pub first_fault : List ℤ → List ℕ → Fault
first_fault words bytes = report words bytes (first (broken words bytes) 7)

-- the refusal number of a set: 1 for a wrong length, else 4 for a broken rule, else 0
unfoldable pub check : List ℤ → List ℕ → ℕ
check words bytes =
    cond (eqb (length words) WORDS && eqb (length bytes) BYTES) (cond (some (broken words bytes) 7) 4 0) 1
