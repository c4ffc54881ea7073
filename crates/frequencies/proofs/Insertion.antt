-- The loops of `insert` and `sort`. A hole at j, with x still to come: what stands before it, and x inserted into what stands after it, stay the same list.
use mathlib.Core.Path.{◌≡◌, refl, sym, ap, ◌∙◌}
use mathlib.Core.List.{List, [], ◌∷◌, ◌++◌, append_assoc, append-nil}
use Prim.Native.Nat.{ℕ, suc, ◌+◌, ◌-◌, ◌≤◌, ◌<◌}
use native.Mathlib.Numerals.{add-one}
use native.Mathlib.Omega.{arith}
use mathlib.Core.Bool.{true, false}
use lib.ListN.{length, get_or, take, drop, set, drop_of_length-le}
use lib.Seq.{drop-cons, drop-set-lt, take-suc-set, set_split, take_all, take-take, take-append-le, drop_at, get_or_at, length-take-le, take-suc}
use lib.Ieee.{Float, nan, lt}
use Rattle.spectral.specs.Spectral.{insert, sort}

-- the list that the loop of `insert` keeps
abbrev pub filled_at : Float → List Float → ℕ → List Float
filled_at x l j = take j l ++ insert lt x (drop (j + 1) l)

past : (x y : Float) (ys : List Float) → lt y x ≡ true → insert lt x (y ∷ ys) ≡ y ∷ insert lt x ys
unfolding insert
past x y ys h = rw h

before : (x y : Float) (ys : List Float) → lt y x ≡ false → insert lt x (y ∷ ys) ≡ x ∷ y ∷ ys
unfolding insert
before x y ys h = rw h

alone : (x : Float) → insert lt x [] ≡ x ∷ []
unfolding insert
alone x = refl

-- a smaller one goes into the hole, which is then one higher
pub hole_up : (x : Float) (l : List Float) (j : ℕ) → j + 1 < length l → lt (get_or l (j + 1) nan) x ≡ true → filled_at x (set l j (get_or l (j + 1) nan)) (j + 1) ≡ filled_at x l j
hole_up x l j h t =
    let y = get_or l (j + 1) nan in
    let e : drop (j + 1) l ≡ y ∷ drop (j + 1 + 1) l = drop-cons l (j + 1) nan h ∙ ap (λ (n : ℕ). y ∷ drop n l) (sym (add-one (j + 1))) in
    ap (λ (n : ℕ). take n (set l j y) ++ insert lt x (drop (j + 1 + 1) (set l j y))) (add-one j)
    ∙ ap (λ (z : List Float). z ++ insert lt x (drop (j + 1 + 1) (set l j y))) (take-suc-set l j y (omega arith))
    ∙ ap (λ (z : List Float). (take j l ++ (y ∷ [])) ++ insert lt x z) (drop-set-lt (j + 1 + 1) l j y (omega arith))
    ∙ append_assoc (take j l) (y ∷ []) (insert lt x (drop (j + 1 + 1) l))
    ∙ ap (λ (z : List Float). take j l ++ z) (sym (past x y (drop (j + 1 + 1) l) t) ∙ ap (insert lt x) (sym e))

split : (l : List Float) (j : ℕ) (x : Float) → j < length l → set l j x ≡ take j l ++ x ∷ drop (j + 1) l
split l j x h = rw (add-one j) (set_split l j x h)

-- x goes into the hole before one that is not smaller
pub hole_stop : (x : Float) (l : List Float) (j : ℕ) → j + 1 < length l → lt (get_or l (j + 1) nan) x ≡ false → set l j x ≡ filled_at x l j
hole_stop x l j h t =
    let y = get_or l (j + 1) nan in
    let e : drop (j + 1) l ≡ y ∷ drop (suc (j + 1)) l = drop-cons l (j + 1) nan h in
    split l j x (omega arith) ∙ ap (λ (z : List Float). take j l ++ z) (ap (λ (z : List Float). x ∷ z) e ∙ sym (before x y (drop (suc (j + 1)) l) t) ∙ ap (insert lt x) (sym e))

-- or at the end
pub hole_last : (x : Float) (l : List Float) (j : ℕ) → j < length l → length l ≤ j + 1 → set l j x ≡ filled_at x l j
hole_last x l j h k =
    let e : drop (j + 1) l ≡ [] = drop_of_length-le l {i = j + 1} k in
    split l j x h ∙ ap (λ (z : List Float). take j l ++ z) (ap (λ (z : List Float). x ∷ z) e ∙ sym (alone x) ∙ ap (insert lt x) (sym e))

-- ---- the loop of `sort`: the places from n on are sorted
abbrev pub sorted_from : List Float → ℕ → List Float
sorted_from l n = take n l ++ sort lt (drop n l)

none : sort lt [] ≡ []
unfolding sort
none = refl

one_more : (x : Float) (xs : List Float) → sort lt (x ∷ xs) ≡ insert lt x (sort lt xs)
unfolding sort
one_more x xs = refl

pub sorted_none : (l : List Float) (n : ℕ) → length l ≤ n → l ≡ sorted_from l n
sorted_none l n h =
    sym (ap (λ (z : List Float). take n l ++ sort lt z) (drop_of_length-le l {i = n} h) ∙ ap (λ (z : List Float). take n l ++ z) none ∙ append-nil (take n l) ∙ take_all n l h)

-- the place before them inserted
pub sorted_more : (l s r : List Float) (n : ℕ) → 0 < n → n ≤ length l → s ≡ sorted_from l n → r ≡ filled_at (get_or s (n - 1) nan) s (n - 1) → r ≡ sorted_from l (n - 1)
sorted_more l s r n p h e q = go (n - 1) (omega arith)
  where
    go : (m : ℕ) → n ≡ suc m → r ≡ sorted_from l (n - 1)
    go m w =
        let w' : n - 1 ≡ m = omega arith in
        let hm : m < length l = omega arith in
        let lm : length (take m l) ≡ m = length-take-le m l (omega arith) in
        let s' : s ≡ take m l ++ get_or l m nan ∷ sort lt (drop (suc m) l) =
        e ∙ ap (sorted_from l) w ∙ ap (λ (z : List Float). z ++ sort lt (drop (suc m) l)) (take-suc l m nan hm) ∙ append_assoc (take m l) (get_or l m nan ∷ []) (sort lt (drop (suc m) l)) in
        let x : get_or s m nan ≡ get_or l m nan = ap (λ (z : List Float). get_or z m nan) s' ∙ get_or_at (take m l) (get_or l m nan) (sort lt (drop (suc m) l)) nan m lm in
        let t : take m s ≡ take m l = ap (take m) s' ∙ take-append-le m (take m l) (get_or l m nan ∷ sort lt (drop (suc m) l)) (omega arith) ∙ take-take m m l (omega arith) in
        let d : drop (m + 1) s ≡ sort lt (drop (suc m) l) =
        ap (λ (k : ℕ). drop k s) (add-one m) ∙ ap (drop (suc m)) (s' ∙ sym (append_assoc (take m l) (get_or l m nan ∷ []) (sort lt (drop (suc m) l))))
        ∙ drop_at (take m l ++ (get_or l m nan ∷ [])) (sort lt (drop (suc m) l)) (suc m) (ap length (sym (take-suc l m nan hm)) ∙ length-take-le (suc m) l hm) in
        q ∙ ap (λ (k : ℕ). filled_at (get_or s k nan) s k) w'
        ∙ ap (λ (z : Float). filled_at z s m) x
        ∙ ap (λ (z : List Float). z ++ insert lt (get_or l m nan) (drop (m + 1) s)) t
        ∙ ap (λ (z : List Float). take m l ++ insert lt (get_or l m nan) z) d
        ∙ ap (λ (z : List Float). take m l ++ z) (sym (one_more (get_or l m nan) (drop (suc m) l)) ∙ ap (sort lt) (sym (drop-cons l m nan hm)))
        ∙ ap (sorted_from l) (sym w')

pub sorted_all : (l s : List Float) (n : ℕ) → n ≤ 0 → s ≡ sorted_from l n → s ≡ sort lt l
sorted_all l s n h e = let z : n ≡ 0 = omega arith in e ∙ ap (sorted_from l) z
