-- The loop over a chunk: what a line's text costs, and what is held of the line pays for it.
use Prim.Native.Nat.{ℕ, ◌+◌, ◌*◌, ◌<◌, ◌≤◌, min}
use mathlib.Core.Path.{◌≡◌, refl, sym, ap, ◌∙◌}
use mathlib.Core.List.{List, [], ◌∷◌}
use mathlib.Core.Bool.{Bool, true, false, cond, ◌&&◌}
use native.Mathlib.Omega.{arith}
use lib.Bits.{bit_and}
use lib.Dec.{eqb}
use lib.ListN.{length, get_or, take, length-append}
use borrow.Author.Tests.{eq-eqb, ne_eqb, le-leb, lt-leb}
use Rattle.sequence.specs.Table.{table}
use Rattle.stream.specs.Decimal.{decimal_in, decimal, figure}
use Rattle.stream.specs.Held.{shown, zeros, shown_long, push_one}
use Rattle.stream.specs.Room.{over}
use Rattle.stream.specs.Machine.{Streamed, streamed_most}
use Rattle.hex_lines.specs.Text.{is_frame, payload}
use Rattle.receiver.specs.Receiver.{line_of, frame_of, is_line, write_number, read_number}
use Rattle.receiver.specs.Lines.{line_length}
use Rattle.receiver.specs.Calls.{line_long}
use Rattle.convert.specs.declared.Way.{Way}
use Rattle.convert.specs.declared.Way.TheVariants.{ToReceiver, FromReceiver}
use Rattle.converter.specs.declared.Held.{Held}
use Rattle.converter.specs.declared.Converter.{Converter}
use Rattle.convert.specs.Convert.{hexadecimal, refused, line_or, to_number, to_receiver, from_receiver, converted, is_plus, text}
use Rattle.convert.specs.Halves.{frame_long}
use Rattle.converter.specs.Feed.{kept, push, held_line, standing, room_for, credit, fed, written}

-- ---- what is held, as a slice of the array
pub shown_over : (l : List ℕ) (n : ℕ) → 162 < n → shown 162 l n ≡ zeros 163
unfolding shown
shown_over l n h = rw (lt-leb n 162 h)

pub shown_within : (l : List ℕ) (n : ℕ) → n ≤ 162 → shown 162 l n ≡ take n l
unfolding shown
shown_within l n h = rw (le-leb n 162 h)

-- ---- how long a text is, beside its line
abbrev Bound : List ℕ → List ℕ → Type 0
Bound line t = (length t ≤ 163) × (length t ≤ 11 * length line + 11)

to_bound : (line : List ℕ) → Bound line (to_receiver line)
unfolding to_receiver to_number write_number line_or refused figure decimal decimal_in
to_bound line = by (is_frame line) (eqb (length (payload line)) 20) (eqb (bit_and (get_or (payload line) 19 0) 192) 0) refl
  where
    by : (f s t : Bool) → is_frame line ≡ f → Bound line (line_or (cond f (cond s (cond t 0 6) 3) 9) (line_of (payload line)))
    by true true true e =
        let h = length-append (line_of (payload line)) (10 ∷ []) in
        let k = line_long (payload line) in
        let n = frame_long line e in
        (omega arith, omega arith)
    by true true false e = (omega arith, omega arith)
    by true false t e = (omega arith, omega arith)
    by false s t e = (omega arith, omega arith)

from_bound : (line : List ℕ) → Bound line (from_receiver line)
unfolding from_receiver read_number line_or refused figure decimal decimal_in frame_of table hexadecimal
from_bound line = by (is_line line) refl
  where
    by : (f : Bool) → is_line line ≡ f → Bound line (line_or (cond f 0 10) (hexadecimal (frame_of line)))
    by true e = let h = line_length line e in (omega arith, omega arith)
    by false e = (omega arith, omega arith)

text_bound : (way : Way) (first : Bool) (line : List ℕ) → Bound line (text way first line)
unfolding text
text_bound way first line = by (first && is_plus line) way
  where
    by : (b : Bool) (w : Way) → Bound line (cond b (43 ∷ 10 ∷ []) (converted w line))
    by true w = (omega arith, omega arith)
    by false ToReceiver = to_bound line
    by false FromReceiver = from_bound line

-- the text t of the line that is held, put over the beginning of a room
pub settled : (way : Way) (first : Bool) (l : Held) → length l.text ≡ 162 → {t : List ℕ} → text way first (held_line l) ≡ t → (room : List ℕ) {n : ℕ} {after : List ℕ} → (n ≡ length t) × (after ≡ over t room)
    → (n ≡ length (text way first (held_line l))) × ((after ≡ over (text way first (held_line l)) room) × ((n ≤ 163) × (n ≤ 11 * min l.n 163 + 11)))
unfolding held_line
settled way first l e q room p =
    let b = text_bound way first (held_line l) in
    let h = shown_long 162 l.text l.n e in
    let n = p.0 ∙ ap length (sym q) in
    (n, (p.1 ∙ ap (λ (u : List ℕ). over u room) (sym q), (omega (arith, n, b.0), omega (arith, n, b.1, h))))

-- ---- a turn
pub turn_fits : (way : Way) {r₀ : Converter} {chunk room₀ : List ℕ} {r : Converter} {n : ℕ} {room : List ℕ} {i : ℕ} → Streamed fed (written way) credit 11 r₀ chunk room₀ r n room i → room_for (length chunk) ≤ length room₀ → (n + 163 ≤ length room) × (length room ≡ length room₀)
turn_fits way {r₀} {chunk} {room₀} {r} {n} {room} {i} s h =
    let m = streamed_most fed (written way) credit 11 s (omega arith) in
    (omega arith, m.1)

pub fed_newline : (way : Way) (r : Converter) {b : ℕ} → b ≡ 10 → (fed r b ≡ standing false (kept [])) × (written way r b ≡ text way r.first (held_line r.line))
unfolding fed written
fed_newline way r {b} e = rw (eq-eqb b 10 e) (refl, refl)

pub fed_other : (way : Way) (r : Converter) {b : ℕ} → (b ≡ 10 → ⊥) → (fed r b ≡ standing r.first (push r.line b)) × (written way r b ≡ [])
unfolding fed written
fed_other way r {b} h = rw (ne_eqb b 10 h) (refl, refl)

pub newline_paid : (l : Held) (n k : ℕ) → k ≤ 11 * min l.n 163 + 11 → n + k + 11 * min (kept []).n 163 ≤ n + 11 * min l.n 163 + 11
unfolding kept
newline_paid l n k h = omega arith

pub other_paid : (l : Held) (b : ℕ) → 11 * min (push l b).n 163 ≤ 11 * min l.n 163 + 11
unfolding push
other_paid l b = let p = push_one 162 l.n in omega arith
