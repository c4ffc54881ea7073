-- A machine that is fed a byte at a time and writes a text at each; and the loop that feeds it a chunk and puts all its text into one room.
use Rattle.std.specs.Prelude.{ℕ, ◌+◌, ◌*◌, ◌<◌, ◌≤◌, ◌≡◌, length, get_or, take, drop}
use Rattle.std.proofs.Math.Path.{refl}
use Rattle.std.proofs.Common.{sym, ap, ◌∙◌, add-one, mul-suc, mul-le-mul_left, length-append, take-append-drop, take_all}
use mathlib.Core.List.{List, [], ◌∷◌, ◌++◌, append_assoc, append-nil}
use native.Mathlib.Omega.{arith}
use Rattle.std.proofs.Math.Seq.{take-suc}
use Rattle.stream.specs.Room.{over, over_none, over_long, over_more}

-- ---- where bytes, one after the other, leave the machine
module _ {R : Type 0} (fed : R → ℕ → R) where
  unfoldable pub fed_all : R → List ℕ → R
  fed_all r [] = r
  fed_all r (b ∷ bs) = fed_all (fed r b) bs

  pub fed_append : (r : R) (xs ys : List ℕ) → fed_all r (xs ++ ys) ≡ fed_all (fed_all r xs) ys
  unfolding fed_all
  fed_append r [] ys = refl
  fed_append r (x ∷ xs) ys = fed_append (fed r x) xs ys

  -- a byte more
  pub fed_more : (r : R) (chunk : List ℕ) (i : ℕ) → i < length chunk → fed_all r (take (i + 1) chunk) ≡ fed (fed_all r (take i chunk)) (get_or chunk i 0)
  unfolding fed_all
  fed_more r chunk i h = rw (add-one i, take-suc chunk i 0 h, fed_append)

-- ---- all that it writes
module _ {R : Type 0} (fed : R → ℕ → R) (written : R → ℕ → List ℕ) where
  unfoldable pub written_all : R → List ℕ → List ℕ
  written_all r [] = []
  written_all r (b ∷ bs) = written r b ++ written_all (fed r b) bs

  pub written_append : (r : R) (xs ys : List ℕ) → written_all r (xs ++ ys) ≡ written_all r xs ++ written_all (fed_all fed r xs) ys
  unfolding fed_all written_all
  written_append r [] ys = refl
  written_append r (x ∷ xs) ys = rw (written_append (fed r x) xs ys, append_assoc)

  pub written_more : (r : R) (chunk : List ℕ) (i : ℕ) → i < length chunk → written_all r (take (i + 1) chunk) ≡ written_all r (take i chunk) ++ written (fed_all fed r (take i chunk)) (get_or chunk i 0)
  unfolding written_all
  written_more r chunk i h = rw (add-one i, take-suc chunk i 0 h, written_append, append-nil)

-- ---- the loop. A text is longer than the newline that ends its line, so it is paid for: each byte gives «rate», the bytes that are held are worth a credit,
-- and no text costs more than the machine has. So a chunk of n bytes gives at most its first credit and n times the rate.
module _ {R : Type 0} (fed : R → ℕ → R) (written : R → ℕ → List ℕ) (credit : R → ℕ) (rate : ℕ) where
  -- by byte i of the chunk the machine is at r, and its n bytes of text stand over the beginning of the room
  pub record Streamed (r₀ : R) (chunk room₀ : List ℕ) (r : R) (n : ℕ) (room : List ℕ) (i : ℕ) : Type 0 where
    pub within : i ≤ length chunk
    pub at : r ≡ fed_all fed r₀ (take i chunk)
    pub long : n ≡ length (written_all fed written r₀ (take i chunk))
    pub text : room ≡ over (written_all fed written r₀ (take i chunk)) room₀
    pub paid : n + credit r ≤ credit r₀ + rate * i

  pub streamed_none : (r : R) (chunk room : List ℕ) → Streamed r chunk room r 0 room 0
  unfolding fed_all written_all
  streamed_none r chunk room = record { within = omega arith; at = refl; long = refl; text = over_none room; paid = omega arith }

  -- what may be there by now, and the room's length
  pub streamed_most : {r₀ : R} {chunk room₀ : List ℕ} {r : R} {n : ℕ} {room : List ℕ} {i : ℕ} → Streamed r₀ chunk room₀ r n room i → credit r₀ + rate * length chunk ≤ length room₀ → (n ≤ credit r₀ + rate * length chunk) × (length room ≡ length room₀)
  streamed_most {r₀} {chunk} {room₀} {r} {n} {room} {i} s h =
      let m : rate * i ≤ rate * length chunk = mul-le-mul_left rate s.within in
      let p = s.paid in
      let q : n ≤ length room₀ = omega arith in
      (omega arith, ap length s.text ∙ over_long (written_all fed written r₀ (take i chunk)) room₀ (rw s.long at q))

  -- a turn of the loop, where r', n' and room' are what the byte gives
  pub streamed_more : {r₀ : R} {chunk room₀ : List ℕ} {r : R} {n : ℕ} {room : List ℕ} {i : ℕ} {r' : R} {n' : ℕ} {room' : List ℕ} → Streamed r₀ chunk room₀ r n room i → i < length chunk → r' ≡ fed r (get_or chunk i 0) → n' ≡ n + length (written r (get_or chunk i 0)) → room' ≡ take n room ++ over (written r (get_or chunk i 0)) (drop n room) → n' + credit r' ≤ n + credit r + rate → Streamed r₀ chunk room₀ r' n' room' (i + 1)
  streamed_more {r₀} {chunk} {room₀} {r} {n} {room} {i} {r'} {n'} {room'} s h e f g c =
      let b = get_or chunk i 0 in
      let p = s.paid in
      let m : rate * (i + 1) ≡ rate * i + rate = rw (add-one i) (mul-suc rate i) in
      record {
        within = omega arith;
        at = rw (fed_more fed r₀ chunk i h, ← s.at) e;
        long = rw (written_more fed written r₀ chunk i h, ← s.at, length-append, ← s.long) f;
        text = rw (written_more fed written r₀ chunk i h, ← s.at) (g ∙ rw (s.long, s.text) (over_more (written_all fed written r₀ (take i chunk)) (written r b) room₀));
        paid = omega arith;
      }

  -- a turn at which nothing is written
  pub streamed_quiet : {r₀ : R} {chunk room₀ : List ℕ} {r : R} {n : ℕ} {room : List ℕ} {i : ℕ} {r' : R} → Streamed r₀ chunk room₀ r n room i → i < length chunk → r' ≡ fed r (get_or chunk i 0) → written r (get_or chunk i 0) ≡ [] → credit r' ≤ credit r + rate → Streamed r₀ chunk room₀ r' n room (i + 1)
  streamed_quiet {r₀} {chunk} {room₀} {r} {n} {room} {i} s h e q c = streamed_more s h e (rw q (omega arith)) (rw (q, ← over_none (drop n room)) (sym (take-append-drop n room))) (omega arith)

  -- where it ends
  pub streamed_end : {r₀ : R} {chunk room₀ : List ℕ} {r : R} {n : ℕ} {room : List ℕ} {i : ℕ} → Streamed r₀ chunk room₀ r n room i → length chunk ≤ i → (r ≡ fed_all fed r₀ chunk) × (n ≡ length (written_all fed written r₀ chunk)) × (room ≡ over (written_all fed written r₀ chunk) room₀)
  streamed_end {r₀} {chunk} {room₀} {r} {n} {room} {i} s h = let e = take_all i chunk h in (rw e at s.at, rw e at s.long, rw e at s.text)
