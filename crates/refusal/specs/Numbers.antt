-- The number of each refusal, and that of an answer: 0 where nothing is refused.
use Rattle.std.specs.Prelude.{ℕ, ◌<◌, ◌≡◌, refl, false, [], ◌∷◌, eqb, get_or, Result}
use Rattle.std.proofs.Common.{Ok, Err, ap, sym, ◌∙◌, arith}
use Rattle.refusal.specs.declared.Refusal.{Refusal}
use Rattle.refusal.specs.declared.Refusal.TheVariants.{TablesLength, Room, FrameLength, TablesRule, StateRule, Padding, CodeIndex, FieldWidth, NoFrameLine, NoReceiverLine, ImageLength, ShelfLength, NoSlot, SlotFull, NoFrame}

abbrev pub number : Refusal → ℕ
number TablesLength = 1
number Room = 2
number FrameLength = 3
number TablesRule = 4
number StateRule = 5
number Padding = 6
number CodeIndex = 7
number FieldWidth = 8
number NoFrameLine = 9
number NoReceiverLine = 10
number ImageLength = 11
number ShelfLength = 12
number NoSlot = 13
number SlotFull = 14
number NoFrame = 15

abbrev pub told : {A : Type 0} → Result A Refusal → ℕ
told (Ok a) = 0
told (Err r) = number r

-- ---- a refusal's number is that of no other, and not 0
named : ℕ → Refusal
named n = get_or
    (NoFrame ∷ TablesLength ∷ Room ∷ FrameLength ∷ TablesRule ∷ StateRule ∷ Padding ∷ CodeIndex ∷ FieldWidth ∷ NoFrameLine ∷ NoReceiverLine ∷ ImageLength ∷ ShelfLength ∷ NoSlot ∷ SlotFull ∷ NoFrame ∷ [])
    n NoFrame

named_number : (r : Refusal) → named (number r) ≡ r
unfolding named
named_number TablesLength = refl
named_number Room = refl
named_number FrameLength = refl
named_number TablesRule = refl
named_number StateRule = refl
named_number Padding = refl
named_number CodeIndex = refl
named_number FieldWidth = refl
named_number NoFrameLine = refl
named_number NoReceiverLine = refl
named_number ImageLength = refl
named_number ShelfLength = refl
named_number NoSlot = refl
named_number SlotFull = refl
named_number NoFrame = refl

pub number_one : (r s : Refusal) → number r ≡ number s → r ≡ s
number_one r s e = sym (named_number r) ∙ ap named e ∙ named_number s

pub never_zero : (r : Refusal) → eqb (number r) 0 ≡ false
never_zero TablesLength = refl
never_zero Room = refl
never_zero FrameLength = refl
never_zero TablesRule = refl
never_zero StateRule = refl
never_zero Padding = refl
never_zero CodeIndex = refl
never_zero FieldWidth = refl
never_zero NoFrameLine = refl
never_zero NoReceiverLine = refl
never_zero ImageLength = refl
never_zero ShelfLength = refl
never_zero NoSlot = refl
never_zero SlotFull = refl
never_zero NoFrame = refl

pub number_within : (r : Refusal) → (0 < number r) × (number r < 16)
number_within TablesLength = (omega arith, omega arith)
number_within Room = (omega arith, omega arith)
number_within FrameLength = (omega arith, omega arith)
number_within TablesRule = (omega arith, omega arith)
number_within StateRule = (omega arith, omega arith)
number_within Padding = (omega arith, omega arith)
number_within CodeIndex = (omega arith, omega arith)
number_within FieldWidth = (omega arith, omega arith)
number_within NoFrameLine = (omega arith, omega arith)
number_within NoReceiverLine = (omega arith, omega arith)
number_within ImageLength = (omega arith, omega arith)
number_within ShelfLength = (omega arith, omega arith)
number_within NoSlot = (omega arith, omega arith)
number_within SlotFull = (omega arith, omega arith)
number_within NoFrame = (omega arith, omega arith)

pub number_not_0 : (r : Refusal) → number r ≡ 0 → ⊥
number_not_0 r e = let w = number_within r in omega arith
