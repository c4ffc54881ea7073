-- By the tests; nothing is written before they are passed.
use Rattle.std.specs.Prelude.{Result, ⊤}
use Rattle.std.proofs.Common.{◌≡◌, List, sym, ap, ◌∙◌, eq-eqb, ne_eqb, ℕ}
use Rattle.std.proofs.lemmas.Result.{err_from_is_err_and}
use Rattle.sequence.specs.Table.{table}
use Rattle.bits.specs.Bits.{changed, spread, byte_of, frame_of, width_number, pack, packed}
use Rattle.bits.specs.RoundTrips.{spread_digits}
use Rattle.refusal.specs.declared.Refusal.{Refusal}
use Rattle.refusal.specs.Numbers.{told, never_zero}
use Rattle.frame_params.proofs.pack.Goals as goal

pub returns-then-out-ne20 : goal.returns-then-out-ne20
unfolding pack packed
returns-then-out-ne20 c = let e = ne_eqb _ 20 c.if-out-ne20.true in record { number = simp e; frame = simp e }

-- what `check_widths` answered
answered : {r s : Result ⊤ Refusal} {l l' : List ℕ} → told r ≡ width_number l → l ≡ l' → r ≡ s → width_number l' ≡ told s
answered w h e = sym (w ∙ ap width_number h) ∙ ap told e

pub returns-in_err-check_widths : goal.returns-in_err-check_widths
unfolding pack packed
returns-in_err-check_widths c =
    let l = eq-eqb _ 20 c.if-out-ne20.false in
    let w = answered c.check_widths.ensures c.list-fields.ensures c.in_err-check_widths.was in
    let n = never_zero c.in_err-check_widths.field-0.0 in
    let p = err_from_is_err_and c.from_residual.result c.from_residual.ensures.1 in
    record { number = rw (p.1, p.2) (simp (l, w)); frame = simp (l, w, n) }

pub put_bytes-requires : goal.put_bytes-requires
put_bytes-requires c = (c.if-out-ne20.false, rw c.spread-bits.ensures (spread_digits _))

pub returns : goal.returns
unfolding pack packed frame_of
returns c =
    let l = eq-eqb _ 20 c.if-out-ne20.false in
    let w = answered c.check_widths.ensures c.list-fields.ensures c.in_ok-check_widths.was in
    let b = c.put_bytes.ensures ∙ ap (λ (x : List ℕ). table (byte_of x) 20) c.spread-bits.ensures
    ∙ ap (λ (x : List ℕ). table (byte_of (spread (changed x))) 20) c.list-fields.ensures in
    record { number = simp (l, w); frame = simp (l, w) b }
