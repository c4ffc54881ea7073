-- Every read that an accepted index leads to is within its table.
use Rattle.std.specs.Prelude.{ℕ, zero, suc, ◌+◌, ◌-◌, ◌*◌, ◌/◌, ◌%◌, ◌≤◌, ◌<◌, ◌≡◌, refl, List, Bool, true, false, ◌&&◌, cond, ◌⊎◌, leb, ltb, eqb, length, get_or, ℤ, pos, negsuc, nat_abs}
use Rattle.std.proofs.Common.{sym, ◌∙◌, true≢false, eq-or-lt_of_le, length-set, leb-true, lt-ltb, ne_eqb}
use Rattle.std.proofs.Math.Logic.{inl, inr, ⊎_elim}
use native.Mathlib.Omega.{arith}
use Rattle.std.specs.Int.Signed.{mag}
use Rattle.sequence.specs.All.{and_left, and_right}
use Rattle.sequence.specs.First.{first, first_at, first_le}
use Rattle.sequence.specs.Repeated.{repeated, repeated_keeps}
use Rattle.sequence.specs.Rewritten.{length_rewritten}
use Rattle.sequence.specs.Table.{get_or_table}
use Rattle.tables.specs.Places.{FCB_SHAPE_SEL}
use Rattle.tables.specs.Tables.{unsigned_word, base, entry}
use Rattle.code_index.specs.declared.Classified.{Classified}
use Rattle.tables.specs.SoundWords.{SoundWords, pulses_within, selector_le, entry_size}
use Rattle.code_index.specs.Codebook.{class_of, cut, classify, pulses, digit, decompose, place_shape, place_slot, place_position, place_shapes, place_pulse, place_entry, place_pulses, alternative, silence, innovation, decode, slot_fits, slots_fit, place_fits, digits_fit}

-- ---- the class
-- there is none above 5
pub class_at_most : (words : List ℤ) (index : ℕ) → class_of words index ≤ 5
unfolding class_of
class_at_most words index = omega arith

pub class_below : (words : List ℤ) (index : ℕ) (c : Classified) → c ≡ classify words index → (c.class ≡ 5 → ⊥) → c.class < 5
unfolding classify
class_below words index c e n = let h : c.class ≤ 5 = rw e (class_at_most words (cut words index)) in omega arith

-- the index reaches its class's base
pub class_reached : (words : List ℤ) (index : ℕ) → SoundWords words → base words (class_of words index) ≤ index
unfolding class_of
class_reached words index s =
    let f : ℕ → Bool = λ k. leb (base words (5 - k)) index in
    ⊎_elim
    (λ (e : first f 6 ≡ 6). rw e (omega (arith, s.rules.base_zero)))
    (λ (l : first f 6 < 6). leb-true _ _ (first_at f 6 l))
    (eq-or-lt_of_le (first_le f 6))

-- ---- classes 0 to 4
-- what stands in the digits' list
pub decompose_at : (words : List ℤ) (class rest k : ℕ) → k < 3 → k < pulses words class → get_or (decompose words class rest) k (pos 0) ≡ digit words class rest k
unfolding decompose
decompose_at words class rest k l h = get_or_table (λ j. cond (ltb j (pulses words class)) (digit words class rest j) (pos 0)) 3 k (pos 0) l ∙ simp (lt-ltb k (pulses words class) h)

-- each of them is one of the 40 positions
pub slot_fits_lem : (p : List ℤ) → slots_fit p ≡ true → (k : ℕ) → k < 3 → slot_fits (get_or p k (pos 0)) ≡ true
unfolding slots_fit
slot_fits_lem p e = go
  where
    f : ℕ → Bool
    f k = slot_fits (get_or p k (pos 0))

    go : (k : ℕ) → k < 3 → f k ≡ true
    go zero l = and_left (f 0) (f 1) (and_left (f 0 && f 1) (f 2) e)
    go (suc zero) l = and_right (f 0) (f 1) (and_left (f 0 && f 1) (f 2) e)
    go (suc (suc zero)) l = and_right (f 0 && f 1) (f 2) e
    go (suc (suc (suc k))) l = absurd (omega arith)

pub slots_fit_lem : (words : List ℤ) (c : Classified) → (c.class ≡ 5 → ⊥) → place_fits words c ≡ true → slots_fit (decompose words c.class c.rest) ≡ true
unfolding place_fits
slots_fit_lem words c n e = simp (ne_eqb c.class 5 n) at e

pub slot_is : (slot : ℤ) → slot_fits slot ≡ true → slot ≡ pos (mag slot)
slot_is (pos n) e = refl
slot_is (negsuc n) e = absurd (true≢false (sym e))

pub slot_le : (slot : ℤ) → slot_fits slot ≡ true → mag slot ≤ 39
slot_le (pos n) e = leb-true n 39 (and_right (leb 0 n) (leb n 39) e)
slot_le (negsuc n) e = absurd (true≢false (sym e))

pub position_in_range : (class k : ℕ) (slot : ℤ) → class < 5 → k < 3 → slot_fits slot ≡ true → 40 * (3 * class + k) + mag slot < 600
position_in_range class k slot h l e = omega (arith, slot_le slot e)

pub shape_in_range : (words : List ℤ) (class k : ℕ) → SoundWords words → class < 5 → k < 3 → unsigned_word words (FCB_SHAPE_SEL + 3 * class) + k < 32
shape_in_range words class k s h l = omega (arith, selector_le s class h)

-- ---- the whole
-- in classes 0 to 4, of each pulse: its position is one of 600, its shape one of 32
pub record PulsesRead (words : List ℤ) (c : Classified) : Type 0 where
  pub below : c.class < 5
  pub positions : (k : ℕ) → k < pulses words c.class → 40 * (3 * c.class + k) + mag (digit words c.class c.rest k) < 600
  pub shapes : (k : ℕ) → k < pulses words c.class → unsigned_word words (FCB_SHAPE_SEL + 3 * c.class) + k < 32

-- in class 5: the rows are of 512 and of 128, and each entry's place one of 80
pub record EntriesRead (words : List ℤ) (c : Classified) : Type 0 where
  pub top : c.class ≡ 5
  pub upper : c.rest / 128 < 512
  pub lower : c.rest % 128 < 128
  pub places : (k : ℕ) → k < 3200 → nat_abs (entry words k) - 1 < 80

module _ (words : List ℤ) (s : SoundWords words) where
  rest_lt : (index : ℕ) → index < 65536 → (classify words index).rest < 65536
  unfolding classify cut
  rest_lt index h = omega arith

  pulses_read : (c : Classified) → c.class < 5 → place_fits words c ≡ true → PulsesRead words c
  pulses_read c h e =
      let n = pulses_within s c.class h in
      let f = slots_fit_lem words c (λ q. omega arith) e in
      record {
        below = h;
        positions = λ k l. position_in_range c.class k (digit words c.class c.rest k) h (omega arith) (rw (decompose_at words c.class c.rest k (omega arith) l) at (slot_fits_lem (decompose words c.class c.rest) f k (omega arith)));
        shapes = λ k l. shape_in_range words c.class k s h (omega arith);
      }

  entries_read : (c : Classified) → c.class ≡ 5 → c.rest < 65536 → EntriesRead words c
  entries_read c e h = record { top = e; upper = omega arith; lower = omega arith; places = λ k l. let z = entry_size s k l in omega arith }

  pub reads_in_range : (index : ℕ) → index < 65536 → digits_fit words index ≡ true → PulsesRead words (classify words index) ⊎ EntriesRead words (classify words index)
  unfolding digits_fit classify
  reads_in_range index h e =
      let c : Classified = classify words index in
      ⊎_elim (λ (q : c.class ≡ 5). inr (entries_read c q (rest_lt index h))) (λ (l : c.class < 5). inl (pulses_read c l e)) (eq-or-lt_of_le (class_at_most words (cut words index)))

-- ---- the innovation has 80 samples
-- a step that keeps the length, repeated, keeps it
length_repeated : (step : ℕ → List ℤ → List ℤ) → ((k : ℕ) (l : List ℤ) → length (step k l) ≡ length l) → (n : ℕ) (l : List ℤ) → length (repeated step n l) ≡ length l
length_repeated step h n l = repeated_keeps step (λ (m : List ℤ). length m ≡ length l) (λ k m e. h k m ∙ e) n l refl

length_shapes : (words : List ℤ) (class : ℕ) (positions : List ℤ) (rest : ℕ) (code : List ℤ) → length (place_shapes words class positions rest code) ≡ length code
unfolding place_shapes place_slot place_shape
length_shapes words class positions rest code = length_repeated (place_position words class positions rest) (λ k l. length_rewritten _ _ l _) (pulses words class) code

length_pulses : (words : List ℤ) (row : ℕ) (code : List ℤ) → length (place_pulses words row code) ≡ length code
unfolding place_pulses place_pulse
length_pulses words row code = length_repeated (place_entry words row) (λ k l. length-set l _ _) 5 code

length_alternative : (words : List ℤ) (rest : ℕ) (code : List ℤ) → length (alternative words rest code) ≡ length code
unfolding alternative
length_alternative words rest code = length_pulses words _ _ ∙ length_pulses words _ code

pub length_code : (words : List ℤ) (index : ℕ) → length (decode words index).code ≡ 80
unfolding decode innovation
length_code words index = go (classify words index)
  where
    by : (b : Bool) (c : Classified) → length (cond b (alternative words c.rest silence) (place_shapes words c.class (decompose words c.class c.rest) c.rest silence)) ≡ 80
    by true c = length_alternative words c.rest silence
    by false c = length_shapes words c.class (decompose words c.class c.rest) c.rest silence

    go : (c : Classified) → length (innovation words c).code ≡ 80
    go c = by (eqb c.class 5) c
