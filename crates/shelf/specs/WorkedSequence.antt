-- The sequence that would have been April's, worked: the owner saves a state, a player holds it, the owner lets it go; another call is saved;
-- the player still fetches the first state; and only after the player has let go is the slot used again. Then each refusal at its edge.
use Rattle.std.specs.Prelude.{ℕ, ◌/◌, ◌^◌, ◌<◌, ◌≡◌, refl, List, [], ◌∷◌, ◌++◌, ℤ, pos, negsuc, Float, replicate}
use Rattle.std.proofs.Common.{arith}
use Rattle.std.specs.Int.Signed.{mag}
use Rattle.std.specs.Float.{nan, binary32}
use Rattle.std.specs.Float.Ieee.{of_bits, to_bits}
use Rattle.std.specs.Float.Ieee.Bits.{of_bits-fits}
use Rattle.std.proofs.lemmas.List.{length-replicate, get_or-replicate}
use Rattle.sequence.specs.First.{first_from}
use Rattle.sequence.specs.Table.{table}
use Rattle.floats.specs.Floats.{within}
use Rattle.state.specs.declared.State.{State}
use Rattle.state.specs.State.{blank, marked, obeys}
use Rattle.image.specs.Bytes.{bytes_of, number_at}
use Rattle.image.specs.Parts.{bytes_of_all, numbers_at, join, cut}
use Rattle.image.specs.Image as Image
use Rattle.slots.specs.declared.Slot.{Slot}
use Rattle.slot_users.specs.Users as Users
use Rattle.slot_users.specs.Users.{users, free, of_held, refuse, change}
use Rattle.shelf.specs.Shelf as Calls
use Rattle.shelf.specs.Shelf.{lent, judged, not_fetched, slots_after, images_after, with_image, state_at}
use Rattle.shelf.specs.Run.{zeros, Call, save, hold, let_go, saving, after, run, HeldCall, Holdable}

-- two calls' states
abbrev none : ℕ → List Float
none n = replicate n (of_bits binary32 0)

abbrev first : State
first = blank (replicate 10 (pos 1000)) (pos 3277) (pos 60) (none 30) (none 4) 2

abbrev other : State
other = blank (replicate 10 (negsuc 4)) (pos 600) (pos 99) (none 30) (none 4) 1

-- saved by its owner at frame 100, held by a player, let go by the owner
abbrev played : List Call
played = save first 100 ∷ hold 0 ∷ let_go 0 ∷ []

-- one user is left: the player
one_left : users (run zeros played).slots 0 ≡ 1
unfolding run zeros after slots_after images_after with_image Image.image Calls.save Calls.save_lent Calls.hold Users.hold_lent Calls.let_go Users.let_go_lent judged lent of_held free first_from obeys within of_bits to_bits Image.layout Image.numbers Image.unsigned join bytes_of_all bytes_of
one_left = refl

-- the other call's save goes to slot 1
elsewhere : saving (run zeros played) other 200 ≡ change 1 (record { users = 1; frame = 200 })
unfolding run zeros after slots_after images_after with_image Image.image Calls.save Calls.save_lent Calls.hold Users.hold_lent Calls.let_go Users.let_go_lent judged lent of_held free first_from obeys within of_bits to_bits Image.layout Image.numbers Image.unsigned join bytes_of_all bytes_of
elsewhere = refl

-- the player's fetch still gives the first state, and another's of slot 1 the other
abbrev saved_over : List Call
saved_over = played ++ (save other 200 ∷ [])

still_there : (Calls.fetch (run zeros saved_over).slots (run zeros saved_over).images 0 ≡ record { number = 0; state = first }) × (Calls.fetch (run zeros saved_over).slots (run zeros saved_over).images 1 ≡ record { number = 0; state = other })
unfolding run zeros after slots_after images_after with_image state_at Image.image Image.state Image.of_numbers Image.signed cut numbers_at table number_at Calls.save Calls.save_lent Calls.hold Users.hold_lent Calls.let_go Users.let_go_lent Calls.fetch Calls.fetch_lent judged lent of_held free first_from obeys within of_bits to_bits Image.layout Image.numbers Image.unsigned join bytes_of_all bytes_of
still_there = (refl, refl)

-- the player lets go: the slot is fetched by nobody, and the next save takes it
abbrev over : List Call
over = saved_over ++ (let_go 0 ∷ [])

used_again : (Calls.fetch (run zeros over).slots (run zeros over).images 0 ≡ not_fetched 13) × (saving (run zeros over) other 300 ≡ change 0 (record { users = 1; frame = 300 }))
unfolding run zeros after slots_after images_after with_image state_at Image.image Image.state Image.of_numbers Image.signed cut numbers_at table number_at Calls.save Calls.save_lent Calls.hold Users.hold_lent Calls.let_go Users.let_go_lent Calls.fetch Calls.fetch_lent judged lent of_held free first_from obeys within of_bits to_bits Image.layout Image.numbers Image.unsigned join bytes_of_all bytes_of
used_again = (refl, refl)

-- the theorem's premise is met: each of these states is one that a program can hold
alike : (w n : ℕ) (z : ℤ) → mag z < 256 ^ w / 2 → Image.Whole w n (replicate n z)
alike w n z h = (length-replicate n z, λ k p. rw (get_or-replicate n k z (pos 0) p) h)

silent : (n : ℕ) → Image.Single n (none n)
silent n = (length-replicate n (of_bits binary32 0), λ k p. rw (get_or-replicate n k (of_bits binary32 0) nan p) (of_bits-fits binary32 0))

blank_held : (a b c : ℤ) (m : ℕ) → mag a < 32768 → mag b < 32768 → mag c < 32768 → m < 256 → Image.Held (blank (replicate 10 a) b c (none 30) (none 4) m)
blank_held a b c m ha hb hc hm =
    record {
      lsp_held = alike 2 10 a ha;
      excitation_held = alike 2 154 (pos 0) (omega arith);
      memory_held = alike 2 10 (pos 0) (omega arith);
      sharpen_held = hb;
      lag_held = hc;
      fir_held = alike 2 6 (pos 0) (omega arith);
      iir_held = alike 4 6 (pos 0) (omega arith);
      residuals_held = silent 30;
      gains_held = silent 4;
      mark_held = hm;
      sure_held = hm;
    }

pub worked_holdable : Holdable over
unfolding Holdable HeldCall
worked_holdable =
    (blank_held (pos 1000) (pos 3277) (pos 60) 2 (omega arith) (omega arith) (omega arith) (omega arith), (tt, (tt, (blank_held (negsuc 4) (pos 600) (pos 99) 1 (omega arith) (omega arith) (omega arith) (omega arith), (tt, tt)))))

-- ---- each refusal at its edge
abbrev taken : ℕ → ℕ → List Slot
taken n u = replicate n (record { users = u; frame = 7 })

-- 15 records, 17, and 8,415 bytes are 12, whatever the slot
sizes : (Calls.hold (taken 15 1) 8416 99 ≡ refuse 12) × (Calls.hold (taken 17 1) 8416 0 ≡ refuse 12) × (Calls.let_go (taken 16 1) 8415 16 ≡ refuse 12) × (Calls.save (taken 16 1) 8417 first 0 ≡ refuse 12)
unfolding Calls.hold Calls.let_go Calls.save judged lent
sizes = (refl, refl, refl, refl)

-- slot 15 is the last; slots 16 and 4,294,967,295, and one without users, are 13
slots : (Calls.hold (taken 16 1) 8416 15 ≡ change 15 (record { users = 2; frame = 7 })) × (Calls.hold (taken 16 1) 8416 16 ≡ refuse 13) × (Calls.let_go (taken 16 1) 8416 4294967295 ≡ refuse 13) × (Calls.let_go (taken 16 0) 8416 3 ≡ refuse 13)
unfolding Calls.hold Users.hold_lent Calls.let_go Users.let_go_lent judged lent of_held
slots = (refl, refl, refl, refl)

-- the 255th user is the last: a hold at 255 is 14, and the users stay
most : (Calls.hold (taken 16 254) 8416 2 ≡ change 2 (record { users = 255; frame = 7 })) × (Calls.hold (taken 16 255) 8416 2 ≡ refuse 14) × (slots_after (Calls.hold (taken 16 255) 8416 2) (taken 16 255) ≡ taken 16 255)
unfolding Calls.hold Users.hold_lent judged lent of_held slots_after
most = (refl, refl, refl)

-- the seventeenth save is 14, of a broken state too; a broken state is 5 where a slot is free
full : (Calls.save (taken 16 1) 8416 first 0 ≡ refuse 14) × (Calls.save (taken 16 1) 8416 (marked first 3 0) 0 ≡ refuse 14) × (Calls.save (taken 15 1 ++ taken 1 0) 8416 (marked first 3 0) 0 ≡ refuse 5) × (Calls.save (taken 15 1 ++ taken 1 0) 8416 first 9 ≡ change 15 (record { users = 1; frame = 9 }))
unfolding Calls.save Calls.save_lent judged lent free first_from obeys within of_bits
full = (refl, refl, refl, refl)
