-- Parts behind one another, each of so many numbers of one width.
use Rattle.std.specs.Prelude.{ℕ, zero, suc, ◌+◌, ◌*◌, ◌^◌, ◌<◌, ◌≤◌, ◌≡◌, refl, List, [], ◌∷◌, ◌++◌, length, get_or, take, drop}
use Rattle.std.proofs.Common.{sym, ap, ◌∙◌, append_assoc, append-nil, mul-suc, mul-zero, arith, length-append, take-append-drop, drop_of_length-le, take-add, drop-drop}
use Rattle.sequence.specs.Table.{table, table_of, get_or_table, length_table}
use Rattle.image.specs.Bytes.{bytes_of, number_at, Bytes, bytes_append, length_bytes, bytes_of_lem, number_below, number_behind, number_back, bytes_back}

pub record Part : Type 0 where
  pub count : ℕ
  pub width : ℕ

abbrev pub part : ℕ → ℕ → Part
part n w = record { count = n; width = w }

-- how many bytes they take
unfoldable pub size : List Part → ℕ
size [] = 0
size (p ∷ ps) = p.width * p.count + size ps

-- numbers of w bytes each
unfoldable pub bytes_of_all : ℕ → List ℕ → List ℕ
bytes_of_all w [] = []
bytes_of_all w (n ∷ ns) = bytes_of w n ++ bytes_of_all w ns

-- n of them, from a place on
unfoldable pub numbers_at : ℕ → ℕ → List ℕ → ℕ → List ℕ
numbers_at w n b at = table (λ k. number_at w b (at + w * k)) n

-- the parts' numbers as bytes
unfoldable pub join : List Part → List (List ℕ) → List ℕ
join [] ns = []
join (p ∷ ps) [] = []
join (p ∷ ps) (n ∷ ns) = bytes_of_all p.width n ++ join ps ns

-- the parts' numbers out of bytes, from a place on
unfoldable pub cut : List Part → List ℕ → ℕ → List (List ℕ)
cut [] b at = []
cut (p ∷ ps) b at = numbers_at p.width p.count b at ∷ cut ps b (at + p.width * p.count)

-- numbers that have w bytes
abbrev pub Below : ℕ → List ℕ → Type 0
Below w ns = (k : ℕ) → k < length ns → get_or ns k 0 < 256 ^ w

-- numbers that these parts have room for
pub data Fit : List Part → List (List ℕ) → Type 0 where
  none : Fit [] []
  more : {p : Part} {n : List ℕ} {ps : List Part} {ns : List (List ℕ)} → length n ≡ p.count → Below p.width n → Fit ps ns → Fit (p ∷ ps) (n ∷ ns)

-- ---- laws
pub length_all : (w : ℕ) (ns : List ℕ) → length (bytes_of_all w ns) ≡ w * length ns
unfolding bytes_of_all
length_all w [] = sym (mul-zero w)
length_all w (n ∷ ns) =
    let a = length_bytes w n in
    let b = length_all w ns in
    length-append (bytes_of w n) (bytes_of_all w ns) ∙ (let e = mul-suc w (length ns) in omega arith)

all_bytes : (w : ℕ) (ns : List ℕ) → Bytes (bytes_of_all w ns)
unfolding bytes_of_all
all_bytes w [] = λ k. omega arith
all_bytes w (n ∷ ns) = bytes_append (bytes_of w n) (bytes_of_all w ns) (bytes_of_lem w n) (all_bytes w ns)

pub all_append : (w : ℕ) (m n : List ℕ) → bytes_of_all w (m ++ n) ≡ bytes_of_all w m ++ bytes_of_all w n
unfolding bytes_of_all
all_append w [] n = refl
all_append w (x ∷ m) n = rw (all_append w m n, append_assoc)

pub all_one : (w n : ℕ) → bytes_of_all w (n ∷ []) ≡ bytes_of w n
unfolding bytes_of_all
all_one w n = append-nil (bytes_of w n)

pub length_join : {ps : List Part} {ns : List (List ℕ)} → Fit ps ns → length (join ps ns) ≡ size ps
unfolding join size
length_join none = refl
length_join (more {p = p} {n = n} {ps = ps} {ns = ns} l h f) =
    let a = length_all p.width n ∙ ap (λ (k : ℕ). p.width * k) l in
    let b = length_join f in
    length-append (bytes_of_all p.width n) (join ps ns) ∙ omega arith

pub join_bytes : (ps : List Part) (ns : List (List ℕ)) → Bytes (join ps ns)
unfolding join
join_bytes [] ns = λ k. omega arith
join_bytes (p ∷ ps) [] = λ k. omega arith
join_bytes (p ∷ ps) (n ∷ ns) = bytes_append (bytes_of_all p.width n) (join ps ns) (all_bytes p.width n) (join_bytes ps ns)

-- ---- numbers that are written and read
one_back : (w : ℕ) (ns b : List ℕ) → Below w ns → (k : ℕ) → k < length ns → number_at w (bytes_of_all w ns ++ b) (w * k) ≡ get_or ns k 0
unfolding bytes_of_all
one_back w [] b h k l = absurd (omega arith)
one_back w (n ∷ ns) b h zero l = rw (append_assoc, mul-zero w) (number_back w n (bytes_of_all w ns ++ b) (h 0 (omega arith)))
one_back w (n ∷ ns) b h (suc k) l =
    let a = length_bytes w n in
    let m = mul-suc w k in
    let e : w * suc k ≡ length (bytes_of w n) + w * k = omega arith in
    rw (append_assoc, e, number_behind w (bytes_of w n) (bytes_of_all w ns ++ b) (w * k)) (one_back w ns b (λ j q. h (suc j) (omega arith)) k (omega arith))

all_back : (w : ℕ) (p ns b : List ℕ) → Below w ns → numbers_at w (length ns) (p ++ (bytes_of_all w ns ++ b)) (length p) ≡ ns
unfolding numbers_at
all_back w p ns b h =
    table_of (λ k. number_at w (p ++ (bytes_of_all w ns ++ b)) (length p + w * k)) 0 ns (length ns) refl
    (λ k l. number_behind w p (bytes_of_all w ns ++ b) (w * k) ∙ one_back w ns b h k l)

behind : {ps : List Part} {ns : List (List ℕ)} → Fit ps ns → (b : List ℕ) → cut ps (b ++ join ps ns) (length b) ≡ ns
unfolding cut join
behind none b = refl
behind (more {p = p} {n = n} {ps = ps} {ns = ns} e h f) b =
    let w = p.width in
    let a = bytes_of_all w n in
    let l : length b + w * p.count ≡ length (b ++ a) = sym (length-append b a ∙ ap (λ (k : ℕ). length b + k) (length_all w n ∙ ap (λ (k : ℕ). w * k) e)) in
    rw (l, ← e, all_back w b n (join ps ns) h, ← (append_assoc b a (join ps ns)), behind f (b ++ a))

pub cut_join : {ps : List Part} {ns : List (List ℕ)} → Fit ps ns → cut ps (join ps ns) 0 ≡ ns
cut_join f = behind f []

-- ---- bytes that are read and written
part_back : (w n : ℕ) (b : List ℕ) → Bytes b → (at : ℕ) → at + w * n ≤ length b → bytes_of_all w (numbers_at w n b at) ≡ take (w * n) (drop at b)
unfolding numbers_at table bytes_of_all
part_back w zero b h at l = rw (mul-zero w)
part_back w (suc n) b h at l =
    let e : w * suc n ≡ w * n + w = mul-suc w n in
    rw (e, all_append, all_one, take-add, drop-drop, part_back w n b h at (omega arith), bytes_back w b h (at + w * n) (omega arith))

pub join_cut : (ps : List Part) (b : List ℕ) → Bytes b → (at : ℕ) → length b ≡ at + size ps → join ps (cut ps b at) ≡ drop at b
unfolding join cut size
join_cut [] b h at l = sym (drop_of_length-le b {i = at} (omega arith))
join_cut (p ∷ ps) b h at l =
    let w = p.width in
    let n = p.count in
    rw (part_back w n b h at (omega arith), join_cut ps b h (at + w * n) (omega arith), ← (drop-drop (w * n) at b)) (take-append-drop (w * n) (drop at b))

-- ---- what is read
pub length_numbers : (w n : ℕ) (b : List ℕ) (at : ℕ) → length (numbers_at w n b at) ≡ n
unfolding numbers_at
length_numbers w n b at = length_table (λ k. number_at w b (at + w * k)) n

pub numbers_at_lem : (w n : ℕ) (b : List ℕ) (at k : ℕ) → k < n → get_or (numbers_at w n b at) k 0 ≡ number_at w b (at + w * k)
unfolding numbers_at
numbers_at_lem w n b at k h = get_or_table (λ j. number_at w b (at + w * j)) n k 0 h

pub numbers_below : (w n : ℕ) (b : List ℕ) → Bytes b → (at : ℕ) → Below w (numbers_at w n b at)
numbers_below w n b h at k l = let e = length_numbers w n b at in rw (numbers_at_lem w n b at k (omega arith)) (number_below w b h (at + w * k))
