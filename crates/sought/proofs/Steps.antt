-- What is left and said of a save, and what `play` leaves to play.
use Rattle.std.specs.Prelude.{ℕ, ◌≡◌, List, Result, Ok, Err}
use Rattle.std.proofs.Common.{refl, sym, ap, ◌∙◌, ne_eqb}
use Rattle.refusal.specs.declared.Refusal.{Refusal}
use Rattle.refusal.specs.Numbers.{number_not_0}
use Rattle.stream.specs.Decimal.{figure}
use Rattle.state.specs.declared.State.{State}
use Rattle.slots.specs.declared.Slot.{Slot}
use Rattle.shelf.specs.Shelf.{Saved, SaveDone}
use Rattle.shelf.specs.Answers.{saved}
use Rattle.shelf.specs.Run.{Shelf, after}
use Rattle.places.specs.Places.{At}
use Rattle.seek.specs.Seek.{numbered}
use Rattle.replies.specs.declared.Cue.{Cue}
use Rattle.replies.specs.Replies.{saved_word, answer_line, answered, answered_yes, answered_no, save_left, save_said}
use Rattle.replies.specs.Promised.{silence, ahead, ahead_of, cued, Put, Quiet, put_as}

-- ---- a save
module _ (h : Shelf) (k : ℕ) (room now : List ℕ) (cue : Cue) (n : ℕ) (quiet : cue ≡ silence) where
  pub not_kept : (x : ℕ) (name : List ℕ) (v : ℕ) → (x ≡ 0 → ⊥) → Put (answered x (figure name v)) room n now → Quiet (save_left h k (numbered (Err x))).slots (save_said h k (numbered (Err x))) room (record { slots = h.slots; cue = cue; n = n }) now × (h.images ≡ (save_left h k (numbered (Err x))).images)
  unfolding save_left save_said
  not_kept x name v z p =
      rw (ne_eqb x 0 z) (record { slots = refl; silent = quiet; put = put_as (answered_no x _ z ∙ sym (answered_no x _ z)) p }, refl)

  -- a save's answer as its line
  line : (a : Result ℕ Refusal) (x : Saved) → saved a ≡ x → answered x.number (figure saved_word x.slot) ≡ answer_line saved_word a
  line a x e = ap (λ (y : Saved). answered y.number (figure saved_word y.slot)) (sym e) ∙ by a
    where
      by : (b : Result ℕ Refusal) → answered (saved b).number (figure saved_word (saved b).slot) ≡ answer_line saved_word b
      by (Ok v) = answered_yes 0 _ refl
      by (Err r) = answered_no _ _ (number_not_0 r)

  pub is_kept : (s : State) (a : Result ℕ Refusal) (l : List Slot) (m : List ℕ) → SaveDone h.slots h.images s k (saved a) l m → Put (answer_line saved_word a) room n now → Quiet (save_left h k (numbered (Ok s))).slots (save_said h k (numbered (Ok s))) room (record { slots = l; cue = cue; n = n }) now × (m ≡ (save_left h k (numbered (Ok s))).images)
  unfolding save_left save_said after
  is_kept s a l m d p = (record { slots = d.slots; silent = quiet; put = put_as (answered_yes 0 _ refl ∙ line a _ d.answer) p }, d.images)

-- ---- what `play` leaves to play
pub cues_none : (recording : List ℕ) (x : ℕ) (k n : ℕ) (cue : Cue) → (x ≡ 0 → ⊥) → cue ≡ silence → ahead_of recording cue ≡ cued recording (numbered (Err x)) k n
unfolding cued ahead
cues_none recording x k n cue z e = rw (ne_eqb x 0 z, e)

pub cues_some : (recording : List ℕ) (s : State) (k n a : ℕ) → At recording a k → ahead_of recording (record { state = s; place = a; left = n }) ≡ cued recording (numbered (Ok s)) k n
unfolding cued ahead
cues_some recording s k n a at = rw at.left
