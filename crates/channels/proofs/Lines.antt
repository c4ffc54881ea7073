-- What is held of a channel's line, and what each line leaves and is printed as.
use Prim.Native.Nat.{ℕ, zero, suc, ◌+◌, ◌<◌}
use mathlib.Core.Path.{◌≡◌, refl, ap}
use mathlib.Core.List.{List}
use native.Mathlib.Omega.{arith}
use lib.IntN.{ℤ}
use lib.ListN.{drop}
use Rattle.state.specs.State.{missed_frame}
use Rattle.hex_lines.specs.Text.{refused_text}
use Rattle.hex_lines.specs.Held as Hex
use Rattle.heard.specs.Recording.{line_text}
use Rattle.channel_lines.specs.declared.Ended.{Ended}
use Rattle.channel_lines.specs.declared.Pair.{Pair}
use Rattle.channel_lines.specs.declared.Held.{Held}
use Rattle.channel_lines.specs.declared.Whose.{Whose}
use Rattle.channel_lines.specs.declared.Whose.TheVariants.{A, B, Neither}
use Rattle.channel_lines.specs.Channels.{begins, whose, lettered, step_by, text_by, step, text}
use Rattle.channel_lines.specs.Feed.{push, push_by, held_by, held_line, worth, held, called, ended}

-- ---- a byte more, behind the first two
pub push_more : (l : Held) (b : ℕ) → (l.n ≡ 0 → ⊥) → (l.n ≡ 1 → ⊥) → push l b ≡ record { first = l.first; second = l.second; n = l.n; rest = Hex.push l.rest b }
unfolding push push_by
push_more l b h g = by l.n refl
  where
    by : (n : ℕ) → l.n ≡ n → push_by l.n l b ≡ record { first = l.first; second = l.second; n = l.n; rest = Hex.push l.rest b }
    by zero e = absurd (h e)
    by (suc zero) e = absurd (g e)
    by (suc (suc k)) e = rw e

-- ---- a channel's line has its two bytes, and what is kept of the rest is behind them
pub number : Whose → ℕ
number A = 0
number B = 1
number Neither = 2

pub behind : (l : Held) (w : Whose) → whose (held_line l) ≡ w → number w < 2 → (drop 2 (held_line l) ≡ Hex.held_line l.rest) × (held l ≡ 64 + worth l.rest)
unfolding held_line held_by whose begins held number
behind l w o h = by l.n refl
  where
    by : (n : ℕ) → l.n ≡ n → (drop 2 (held_by l.n l) ≡ Hex.held_line l.rest) × (held l ≡ 64 + worth l.rest)
    by zero e = let k : 2 ≡ number w = ap number (rw e at o) in absurd (omega arith)
    by (suc zero) e = let k : 2 ≡ number w = ap number (rw e at o) in absurd (omega arith)
    by (suc (suc k)) e = rw e (refl, omega arith)

-- ---- what it leaves and what it is printed as
module _ (words : List ℤ) (bytes : List ℕ) (p : Pair) (l : Held) where
  pub ends_a : whose (held_line l) ≡ A → (ended words bytes p l ≡ record { n = (called words bytes 97 p.a (Hex.held_line l.rest)).n; channels = record { a = (called words bytes 97 p.a (Hex.held_line l.rest)).state; b = p.b } }) × (text words bytes p (held_line l) ≡ lettered 97 (line_text words bytes p.a (Hex.held_line l.rest))) × (held l ≡ 64 + worth l.rest)
  unfolding ended called text step text_by step_by number
  ends_a o = let q = behind l A o (omega arith) in rw (o, q.0) (refl, refl, q.1)

  pub ends_b : whose (held_line l) ≡ B → (ended words bytes p l ≡ record { n = (called words bytes 98 p.b (Hex.held_line l.rest)).n; channels = record { a = p.a; b = (called words bytes 98 p.b (Hex.held_line l.rest)).state } }) × (text words bytes p (held_line l) ≡ lettered 98 (line_text words bytes p.b (Hex.held_line l.rest))) × (held l ≡ 64 + worth l.rest)
  unfolding ended called text step text_by step_by number
  ends_b o = let q = behind l B o (omega arith) in rw (o, q.0) (refl, refl, q.1)

  pub ends_neither : whose (held_line l) ≡ Neither → {r : Ended} → r.n ≡ 12 → r.channels.a ≡ (missed_frame p.a).state → r.channels.b ≡ (missed_frame p.b).state → (r ≡ ended words bytes p l) × (text words bytes p (held_line l) ≡ lettered 63 (refused_text 9))
  unfolding ended text step text_by step_by lettered refused_text
  ends_neither o n a b = rw (o, ← a, ← b, ← n) (refl, refl)
