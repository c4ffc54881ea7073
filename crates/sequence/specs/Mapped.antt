-- A loop that puts f of each element of the list l₀ in its place: what is done by place n.
use Rattle.std.proofs.Common.{arith, add-one, append-nil, append_assoc, ap, sym, ◌∙◌, length-set, drop_of_length-le, take_all, take-suc-set, drop-cons, drop-set-lt}
use Rattle.std.specs.Prelude.{List, [], ◌∷◌, ◌++◌, map, ◌≡◌, refl, ℕ, suc, ◌+◌, ◌≤◌, ◌<◌, length, get_or, take, drop, set}

module _ {A : Type 0} (f : A → A) (l₀ : List A) where
  abbrev pub Mapped : List A → ℕ → Type 0
  Mapped l n = (n ≤ length l) × (length l ≡ length l₀) × (map f l₀ ≡ take n l ++ map f (drop n l))

  -- where the loop begins
  pub mapped_none : Mapped l₀ 0
  mapped_none = (omega arith, refl, refl)

  -- a turn of the loop
  pub mapped_more : (l : List A) (n : ℕ) (d y : A) → Mapped l n → n < length l → y ≡ f (get_or l n d) → Mapped (set l n y) (n + 1)
  mapped_more l n d y i h e =
      let c : drop n l ≡ get_or l n d ∷ drop (suc n) l = drop-cons l n d h in
      let k : drop (suc n) (set l n y) ≡ drop (suc n) l = drop-set-lt (suc n) l n y (omega arith) in
      let s = length-set l n y in (
        omega arith,
        s ∙ i.1,
        rw (add-one n, k, take-suc-set l n y h, append_assoc (take n l) (y ∷ []) (map f (drop (suc n) l)), e) (i.2 ∙ ap (λ (t : List A). take n l ++ map f t) c),
      )

  -- where the loop ends
  pub mapped_end : (l : List A) (n : ℕ) → Mapped l n → length l ≤ n → l ≡ map f l₀
  mapped_end l n i h =
      let c : drop n l ≡ [] = drop_of_length-le l {i = n} h in
      sym (i.2 ∙ ap (λ (t : List A). take n l ++ map f t) c ∙ append-nil (take n l) ∙ take_all n l h)
