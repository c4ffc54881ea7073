-- An entry of the list, part by part; how long the texts are.
use Rattle.std.specs.Prelude.{ℕ, ◌+◌, ◌≤◌, ◌≡◌, refl, List, [], ◌∷◌, ◌++◌, Bool, true, false, ◌||◌, length}
use Rattle.std.proofs.Common.{sym, ap, ◌∙◌, arith, zero-add, length-append}
use Rattle.std.proofs.lemmas.List.Edits.{sets}
use Rattle.stream.specs.Room.{over, sets_append, sets_over}
use Rattle.stream.specs.Decimal.{decimal, decimal_long}
use Rattle.mending.specs.Repair.{return, blank, letter, replaced, said, entry}
use Rattle.mending.specs.Look.{changes}

pub said_long : (b : Bool) (word : List ℕ) → length (said b word) ≤ length word
unfolding said
said_long true word = omega arith
said_long false word = omega arith

pub none_said : (r b l : Bool) (n : ℕ) → r || (b || l) ≡ false → entry n (changes r b l) ≡ []
unfolding changes said entry
none_said false false false n e = refl
none_said false false true n e = cc
none_said false true l n e = cc
none_said true b l n e = cc

pub some_said : (r b l : Bool) (n : ℕ) → r || (b || l) ≡ true → entry n (changes r b l) ≡ decimal n ++ (said r return ++ (said b blank ++ (said l letter ++ (10 ∷ []))))
unfolding changes said entry
some_said false false false n e = cc
some_said false false true n e = refl
some_said false true false n e = refl
some_said false true true n e = refl
some_said true false false n e = refl
some_said true false true n e = refl
some_said true true false n e = refl
some_said true true true n e = refl

-- texts, one behind the other
pub two : (d e room : List ℕ) → length (d ++ e) ≤ length room → (0 + length d + length e ≡ length (d ++ e)) × (sets (sets room 0 d) (0 + length d) e ≡ over (d ++ e) room)
two d e room h =
    let p = length-append d e in
    (omega arith, sets_append d e room 0 ∙ sets_over (d ++ e) room h)

pub behind : (d e room : List ℕ) → length d + length e ≤ length room → (length d + length e ≡ length (d ++ e)) × (sets (over d room) (length d) e ≡ over (d ++ e) room)
behind d e room h =
    let p = length-append d e in
    let t = rw (zero-add (length d)) at (two d e room (omega arith)) in
    (t.0, ap (λ (r : List ℕ). sets r (length d) e) (sym (sets_over d room (omega arith))) ∙ t.1)

pub five : (d r b l e room : List ℕ) → length (d ++ (r ++ (b ++ (l ++ e)))) ≤ length room
    → (0 + length d + length r + length b + length l + length e ≡ length (d ++ (r ++ (b ++ (l ++ e))))) × (sets (sets (sets (sets (sets room 0 d) (0 + length d) r) (0 + length d + length r) b) (0 + length d + length r + length b) l) (0 + length d + length r + length b + length l) e ≡ over (d ++ (r ++ (b ++ (l ++ e)))) room)
five d r b l e room h =
    let p = length-append d (r ++ (b ++ (l ++ e))) in
    let q = length-append r (b ++ (l ++ e)) in
    let s = length-append b (l ++ e) in
    let t = length-append l e in (
      omega arith,
      sets_append l e (sets (sets (sets room 0 d) (0 + length d) r) (0 + length d + length r) b) (0 + length d + length r + length b)
          ∙ sets_append b (l ++ e) (sets (sets room 0 d) (0 + length d) r) (0 + length d + length r)
          ∙ sets_append r (b ++ (l ++ e)) (sets room 0 d) (0 + length d)
          ∙ (two d (r ++ (b ++ (l ++ e))) room h).1,
    )

pub five_long : (n : ℕ) (r b l : Bool) → length (decimal n ++ (said r return ++ (said b blank ++ (said l letter ++ (10 ∷ []))))) ≤ 41
five_long n r b l =
    let p = length-append (decimal n) (said r return ++ (said b blank ++ (said l letter ++ (10 ∷ [])))) in
    let q = length-append (said r return) (said b blank ++ (said l letter ++ (10 ∷ []))) in
    let s = length-append (said b blank) (said l letter ++ (10 ∷ [])) in
    let t = length-append (said l letter) (10 ∷ []) in
    let u = said_long r return in
    let v = said_long b blank in
    let w = said_long l letter in
    let x = decimal_long n in
    omega arith

pub replaced_is : (n : ℕ) → entry n replaced ≡ decimal n ++ (replaced ++ (10 ∷ []))
unfolding entry
replaced_is n = refl

pub replaced_long : (n : ℕ) → length (decimal n ++ (replaced ++ (10 ∷ []))) ≤ 30
replaced_long n =
    let p = length-append (decimal n) (replaced ++ (10 ∷ [])) in
    let x = decimal_long n in
    omega arith
