-- A recording whose every 20 bytes are a frame, decoded from reset: frame by frame, each over the samples of the one before, or so many bytes in a call.
use Rattle.std.specs.Prelude.{List, ℕ, ◌*◌, ℤ, take, drop}
use Rattle.sequence.specs.Repeated.{repeated}
use Rattle.state.specs.declared.State.{State}
use Rattle.state.specs.State.{reset}
use Rattle.calls.specs.Celp as Celp
use Rattle.calls.specs.Frames as Frames

-- the k-th part, of so many bytes
abbrev pub part : ℕ → List ℕ → ℕ → List ℕ
part size frames k = take size (drop (size * k) frames)

abbrev pub frame : List ℕ → ℕ → List ℕ
frame frames k = part 20 frames k

-- the state after the first n frames, the sample buffer being so long
abbrev pub after : List ℤ → List ℕ → List ℕ → ℕ → ℕ → State
after words bytes frames room n = repeated (λ (k : ℕ) (s : State). (Celp.decode words bytes s (frame frames k) room).state) n (reset words bytes).state

-- and the buffer
abbrev pub samples : List ℤ → List ℕ → List ℕ → ℕ → List ℤ → ℕ → List ℤ
samples words bytes frames room xs n = repeated (λ (k : ℕ) (ys : List ℤ). Celp.samples words bytes (after words bytes frames room k) (frame frames k) ys) n xs

-- the state after the first n parts, the two rooms being so long
abbrev pub after_parts : List ℤ → List ℕ → ℕ → List ℕ → ℕ → ℕ → ℕ → State
after_parts words bytes size frames room answers n = repeated (λ (k : ℕ) (s : State). (Frames.decode_frames words bytes s (part size frames k) room answers).state) n (reset words bytes).state

-- and the rooms
abbrev pub samples_parts : List ℤ → List ℕ → ℕ → List ℕ → ℕ → ℕ → List ℤ → ℕ → List ℤ
samples_parts words bytes size frames room answers xs n = repeated (λ (k : ℕ) (ys : List ℤ). Frames.frames_samples words bytes (after_parts words bytes size frames room answers k) (part size frames k) ys answers) n xs

abbrev pub numbers_parts : List ℤ → List ℕ → ℕ → List ℕ → ℕ → ℕ → List ℕ → ℕ → List ℕ
numbers_parts words bytes size frames room answers ns n = repeated (λ (k : ℕ) (ms : List ℕ). Frames.frames_numbers words bytes (after_parts words bytes size frames room answers k) (part size frames k) room ms) n ns
