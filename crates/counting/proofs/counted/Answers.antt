-- Each count is one more at its own place.
use Rattle.tally.specs.Figures.{class, gain_index_of, code_gain_of}
use Rattle.tally.specs.declared.Subframes.{Subframes}
use Rattle.tally.specs.Carried.{more, bump, lag_place, larger, smaller, counted}
use borrow.Author.Rules.{sfits_of}
use mir.Syntax.{w16}
use mir.ValLaws.{to_z-of_z}
use Prim.Native.Nat.{ℕ}
use mathlib.Core.List.{List}
use mathlib.Core.Path.{◌≡◌, ◌∙◌}
use Rattle.counting.proofs.counted.Goals as goal

same : {n n' a a' b b' : ℕ} {x x' y y' z z' : List ℕ} → n ≡ n' → x ≡ x' → y ≡ y' → z ≡ z' → a ≡ a' → b ≡ b' → ◌≡◌ {A = Subframes} (record { n = n; classes = x; lags = y; gain_indexes = z; largest = a; smallest = b }) (record { n = n'; classes = x'; lags = y'; gain_indexes = z'; largest = a'; smallest = b' })
same p e f g q r = rw (p, e, f, g, q, r)

pub returns : goal.returns
unfolding counted class gain_index_of code_gain_of
returns c =
    let p = c.before.before.before.before in
    let q = p.before.before.before.before in
    let r = q.before.before.before.before.before in
    let w = r.before.before.before.before.before.before in
    let t = w.before.before.args.t in
    let s = w.before.before.args.s in
    let gain : w.whole-gain.result ≡ code_gain_of s = w.whole-gain.ensures in
    let n : c.before.before.more.result ≡ more t.n = c.before.before.more.ensures in
    let e : r.bump.new.counts ≡ bump t.classes (class s) = r.bump.ensures ∙ rw r.before.whole.ensures in
    let f : q.bump-2.new.counts ≡ bump t.lags (lag_place s.lag) = q.bump-2.ensures ∙ rw (q.before.lag_place.ensures, to_z-of_z w16 s.lag (sfits_of q.before.before.struct_told-1.given.1.0.1)) in
    let g : p.bump-3.new.counts ≡ bump t.gain_indexes (gain_index_of s) = p.bump-3.ensures ∙ rw p.before.whole-2.ensures in
    let h : c.before.larger.result ≡ larger t.largest (code_gain_of s) = c.before.larger.ensures ∙ rw gain in
    let k : c.smaller.result ≡ smaller t.n t.smallest (code_gain_of s) = c.smaller.ensures ∙ rw gain in
    same n e f g h k
