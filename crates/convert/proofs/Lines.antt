-- A line or its refusal, by the answer of receiver's calls; and what hex tells of 40 bytes that are copied into its line.
use Prim.Native.Nat.{ℕ, ◌≤◌}
use mathlib.Core.Path.{◌≡◌, refl, sym, ap, ◌∙◌}
use mathlib.Core.Bool.{Bool}
use mathlib.Core.List.{List, [], ◌∷◌, ◌++◌, append-nil}
use native.Mathlib.Omega.{arith}
use lib.ListN.{length, replicate, drop_of_length-le}
use Rattle.stream.specs.Held.{shown_whole}
use Rattle.stream.specs.Room.{over}
use Rattle.stream.specs.Decimal.{figure_long}
use Rattle.hex_lines.specs.Text.{is_frame}
use Rattle.hex_lines.specs.Held.{held_line}
use Rattle.refusal.specs.declared.Refusal.{Refusal}
use Rattle.refusal.specs.Numbers.{number, never_zero}
use Rattle.convert.specs.Convert.{refused, line_or}

pub accepted_line : (n : ℕ) (line : List ℕ) → 0 ≡ n → line_or n line ≡ line ++ (10 ∷ [])
unfolding line_or
accepted_line n line e = rw (sym e)

pub refused_line : (n : ℕ) (why : Refusal) (line : List ℕ) → number why ≡ n → line_or n line ≡ refused (number why)
unfolding line_or
refused_line n why line e = rw (sym e, never_zero why)

pub refused_long : (n : ℕ) → length (refused n) ≤ 29
unfolding refused
refused_long n = figure_long _ n

copied : (line text : List ℕ) → length line ≡ 40 → text ≡ over line (replicate 40 0) → text ≡ line
unfolding over
copied line text l e = e ∙ rw (drop_of_length-le {A = ℕ} (replicate 40 0) {i = length line} (omega arith), append-nil)

pub frame_told : (line text : List ℕ) → length line ≡ 40 → text ≡ over line (replicate 40 0) → {b : Bool} → b ≡ is_frame (held_line (record { text = text; n = 40 })) → (b ≡ is_frame line) × (text ≡ line)
unfolding held_line
frame_told line text l e f =
    let k = copied line text l e in
    (f ∙ ap is_frame (shown_whole 40 text 40 (rw k l) refl ∙ k), k)
