-- Each turn puts a tap on both sides of the centre; the last four places are not written.
use borrow.Author.Rules.{rules}
use native.Mathlib.Omega.{arith}
use native.Mathlib.Nat.{eq-or-lt_of_le}
use mathlib.Core.Bool.{Bool, ◌&&◌}
use mathlib.Core.Logic.{⊎_elim}
use mathlib.Core.Path.{◌≡◌, refl, sym, ◌∙◌, ap, subst}
use mathlib.Core.List.{List}
use Prim.Native.Nat.{ℕ, ◌+◌, ◌-◌, ◌*◌, ◌<◌}
use lib.IntN.{ℤ, pos}
use lib.ListN.{length, get_or, set, drop, length-set, get_or-replicate}
use lib.Seq.{get_or-set_same, get_or-set_other}
use mir.Syntax.{w16}
use Rattle.fixed.specs.Machine.{back}
use Rattle.products.specs.Runs.{small}
use Rattle.adaptive.specs.Window as Window
use Rattle.adaptive.specs.Window.{Filled}
use Rattle.adaptive.proofs.Filter.{rest_is}
use Rattle.adaptive.proofs.PhaseTaps.new.Goals as goal
use Rattle.adaptive.proofs.PhaseTaps.new.Goals.{then-small, else-small}

filled_more : (taps : List ℤ) (phase : ℕ) (w : List ℤ) (n : ℕ) (u v : ℤ) → Filled taps phase n w → n < 10 → u ≡ get_or taps (phase + 3 * n) (pos 0) → v ≡ get_or taps (3 - phase + 3 * n) (pos 0) → Filled taps phase (n + 1) (set (set w (9 - n) u) (10 + n) v)
filled_more taps phase w n u v f h p q =
    let w₁ : List ℤ = set w (9 - n) u in
    let e : length w ≡ 24 = f.size in
    let e₁ : length w₁ ≡ 24 = length-set w (9 - n) u ∙ e in
    record {
      size = length-set w₁ (10 + n) v ∙ e₁;
      left =
          λ k l. get_or-set_other w₁ (10 + n) (9 - k) v (pos 0) (λ d. omega arith)
          ∙ ⊎_elim (λ (d : k ≡ n). ap (λ (i : ℕ). get_or w₁ (9 - i) (pos 0)) d ∙ get_or-set_same w (9 - n) u (pos 0) (omega arith) ∙ p ∙ ap (λ (i : ℕ). get_or taps (phase + 3 * i) (pos 0)) (sym d))
          (λ (d : k < n). get_or-set_other w (9 - n) (9 - k) u (pos 0) (λ g. omega arith) ∙ f.left k d)
          (eq-or-lt_of_le (omega arith));
      right =
          λ k l. ⊎_elim (λ (d : k ≡ n). ap (λ (i : ℕ). get_or (set w₁ (10 + n) v) (10 + i) (pos 0)) d ∙ get_or-set_same w₁ (10 + n) v (pos 0) (omega arith) ∙ q ∙ ap (λ (i : ℕ). get_or taps (3 - phase + 3 * i) (pos 0)) (sym d))
          (λ (d : k < n). get_or-set_other w₁ (10 + n) (10 + k) v (pos 0) (λ g. omega arith) ∙ get_or-set_other w (9 - n) (10 + k) u (pos 0) (λ g. omega arith) ∙ f.right k d)
          (eq-or-lt_of_le (omega arith));
      rest =
          λ k l. get_or-set_other w₁ (10 + n) (20 + k) v (pos 0) (λ d. omega arith) ∙ get_or-set_other w (9 - n) (20 + k) u (pos 0) (λ d. omega arith) ∙ f.rest k l;
    }

pub loop-k-init : goal.loop-k-init
loop-k-init c =
    (omega arith, record { size = refl; left = λ k h. absurd (omega arith); right = λ k h. absurd (omega arith); rest = λ k h. get_or-replicate 24 (20 + k) (pos 0) (pos 0) (omega arith) })

pub loop-k-preserved : goal.loop-k-preserved
loop-k-preserved c =
    let l = c.before.before.before in
    let a = l.before.args in (
      omega arith,
      filled_more a.taps.now a.phase l.loop-k.window l.loop-k.k _ _ l.loop-k.invariant.1 (omega arith)
          (back w16 (get_or a.taps.now (a.phase + 3 * l.loop-k.k) (pos 0)) (search rules))
          (back w16 (get_or a.taps.now (3 - a.phase + 3 * l.loop-k.k) (pos 0)) (search rules)),
    )

pub invariant_of-result-clause-ended : goal.invariant_of-result-clause-ended
invariant_of-result-clause-ended c = c.loop-k.invariant.1.rest

-- the answer is that of the last eight where the first sixteen pass
pub invariant_of-result-clause-narrowed : goal.invariant_of-result-clause-narrowed
unfolding Window.narrow
invariant_of-result-clause-narrowed c =
    let t = c.loop-k.window in
    let e = rest_is t c.loop-k.invariant.1.size in
    elim c.if-small.branch [
      | then-small w ↦ w.narrow-is ∙ w.small-narrow.ensures ∙ ap small e ∙ ap (λ (b : Bool). b && small (drop 16 t)) (sym w.if-small.true ∙ c.small.ensures)
      | else-small w ↦ w.narrow-is ∙ w.if-small.false ∙ ap (λ (b : Bool). b && small (drop 16 t)) (sym w.if-small.false ∙ c.small.ensures)
    ]

pub returns : goal.returns
returns c =
    let l = c.before in
    let a = l.before.args in
    let e : l.loop-k.k ≡ 10 = omega arith in
    subst (λ (n : ℕ). Filled a.taps.now a.phase n l.loop-k.window) e l.loop-k.invariant.1
