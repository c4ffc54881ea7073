-- The walk along the table, field by field, that the unpacker and the packer share; and the step within a field of each.
use mathlib.Core.Path.{◌≡◌, refl, sym, ap, ◌∙◌}
use mathlib.Core.List.{List, [], ◌++◌, map}
use Prim.Native.Nat.{ℕ, suc, ◌+◌, ◌-◌, ◌*◌, ◌/◌, ◌%◌, ◌^◌, ◌≤◌, ◌<◌}
use native.Mathlib.Nat.{pow-suc}
use native.Mathlib.Numerals.{add-one}
use native.Mathlib.Omega.{arith}
use lib.Pow.{pow_mono}
use lib.ListN.{length, get_or, take, drop, set, replicate, length-append, length-drop, get_or-map}
use lib.Seq.{drop-cons, drop-drop, take_at, drop_at}
use Rattle.sequence.specs.Table.{table}
use Rattle.bits.specs.Bits.{groups, flat, places, widths, inverted, read, gather, digits, spell, scatter, spread}
use Rattle.bits.specs.Digits.{length_down}
use Rattle.bits.specs.Places.{places_count, groups_count, widths_count, width_le}
use Rattle.bits.specs.Scattered.{scatter_append}

-- one digit more: the number stays below 2 ^ n
pub room : (n t t' v b : ℕ) → t ≡ suc t' → t ≤ n → v < 2 ^ (n - t) → b < 2 → (v * 2 + b < 2 ^ n) × (v * 2 + b < 2 ^ (n - t'))
room n t t' v b e h s l =
    let m : n - t' ≡ suc (n - t) = omega arith in
    let p : 2 ^ (n - t') ≡ 2 ^ (n - t) * 2 = rw m (pow-suc 2 (n - t)) in
    let q : 2 ^ (n - t') ≤ 2 ^ n = pow_mono {i = n - t'} {j = n} (omega arith) in
    (omega arith, omega arith)

-- ---- field by field

-- k fields are done, and their places are the table's first «at»
pub record Walk (at k : ℕ) : Type 0 where
  pub some : k ≤ 24
  pub far : at ≤ 158
  pub rest : drop at places ≡ flat (drop k groups)

pub record Step (at k w : ℕ) : Type 0 where
  pub few : w ≤ 16
  pub near : at + w ≤ 158
  pub full : length (get_or groups k []) ≡ w
  pub here : take w (drop at places) ≡ get_or groups k []
  pub next : Walk (at + w) (k + 1)

pub walk_none : Walk 0 0
unfolding places
walk_none = record { some = omega arith; far = omega arith; rest = refl }

pub walk_more : {at k w : ℕ} → Walk at k → k < 24 → w ≡ get_or widths k 0 → Step at k w
unfolding widths
walk_more {at} {k} {w} r h e =
    let g : List ℕ = get_or groups k [] in
    let gs : List (List ℕ) = drop (suc k) groups in
    let l : length g ≡ w = sym (e ∙ get_or-map length groups k []) in
    let cut : drop at places ≡ g ++ flat gs = r.rest ∙ ap flat (drop-cons groups k [] (omega (arith, groups_count))) in
    let n : 158 - at ≡ w + length (flat gs) = rw (length-drop at places, places_count, length-append g (flat gs), l) at (ap length cut) in
    record {
      few = omega (arith, width_le k h);
      near = omega (arith, r.far);
      full = l;
      here = ap (take w) cut ∙ take_at g (flat gs) w l;
      next = record {
        some = omega arith;
        far = omega (arith, r.far);
        rest = sym (drop-drop w at places) ∙ ap (drop w) cut ∙ drop_at g (flat gs) w l ∙ rw (add-one k);
      };
    }

-- field k, where the frame's bits read as f says
abbrev pub field : (ℕ → ℕ) → ℕ → ℕ
field f k = read 0 (map f (get_or groups k []))

pub gathered : (f : ℕ → ℕ) → table (field f) 24 ≡ gather f
unfolding table gather groups
gathered f = refl

-- ---- within a field

-- v is read so far, and t digits are to come, from place j on; with them it is r
pub record Reading (f : ℕ → ℕ) (r v j t : ℕ) : Type 0 where
  pub near : j + t ≤ 158
  pub few : t ≤ 16
  pub small : v < 2 ^ (16 - t)
  pub rest : read v (map f (take t (drop j places))) ≡ r

-- x is the next digit
pub reading_more : (f : ℕ → ℕ) {r v j t t' x : ℕ} → Reading f r v j t → t ≡ suc t' → x ≡ f (get_or places j 0) → x < 2 → (v * 2 + x < 65536) × Reading f r (v * 2 + x) (j + 1) t'
reading_more f {r} {v} {j} {t} {t'} {x} i s e b =
    let fits = room 16 t t' v x s i.few i.small b in (
      fits.0,
      record {
        near = omega (arith, i.near);
        few = omega (arith, i.few);
        small = fits.1;
        rest = rw (add-one j, e) (rw (s, drop-cons places j 0 (omega (arith, places_count, i.near))) at i.rest);
      },
    )

-- of v, t digits are to be written, from place j on; with them the bits are r
pub record Writing (r bits : List ℕ) (v j t : ℕ) : Type 0 where
  pub near : j + t ≤ 158
  pub few : t ≤ 16
  pub rest : scatter bits (take t (drop j places)) (digits t v) ≡ r

-- x goes to the next place, i
pub writing_more : {r bits : List ℕ} {v j t t' i x : ℕ} → Writing r bits v j t → t ≡ suc t' → i ≡ get_or places j 0
    → x ≡ (v / 2 ^ t' % 2 + inverted i) % 2 → Writing r (set bits i x) v (j + 1) t'
writing_more {r} {bits} {v} {j} {t} {t'} {i} {x} w s e d =
    record {
      near = omega (arith, w.near);
      few = omega (arith, w.few);
      rest = rw (add-one j, d, e) (rw (s, drop-cons places j 0 (omega (arith, places_count, w.near))) at w.rest);
    }

-- ---- the packer's fields

-- k fields are done, and with the others the bits are those of all
pub record Spread (fs bits : List ℕ) (k : ℕ) : Type 0 where
  pub rest : scatter bits (flat (drop k groups)) (spell (drop k widths) (drop k fs)) ≡ spread fs

pub spread_none : (fs : List ℕ) → Spread fs (replicate 160 0) 0
unfolding spread places
spread_none fs = record { rest = refl }

pub spread_more : {fs bits bits' : List ℕ} {at k w : ℕ} → Spread fs bits k → length fs ≡ 24 → k < 24 → w ≡ get_or widths k 0 → Step at k w
    → bits' ≡ scatter bits (take w (drop at places)) (digits w (get_or fs k 0)) → Spread fs bits' (k + 1)
spread_more {fs} {bits} {bits'} {at} {k} {w} i l h e s d =
    let g : List ℕ = get_or groups k [] in
    let v : ℕ = get_or fs k 0 in
    let a : flat (drop k groups) ≡ g ++ flat (drop (suc k) groups) = ap flat (drop-cons groups k [] (omega (arith, groups_count))) in
    let b : spell (drop k widths) (drop k fs) ≡ digits w v ++ spell (drop (suc k) widths) (drop (suc k) fs) =
    rw (drop-cons widths k 0 (omega (arith, widths_count)), drop-cons fs k 0 (omega arith), ← e) in
    let x : bits' ≡ scatter bits g (digits w v) = rw s.here at d in
    let y : length (digits w v) ≡ length g = length_down w _ ∙ sym s.full in
    record {
      rest = rw (add-one k, x) (sym (scatter_append bits g (flat (drop (suc k) groups)) (digits w v) (spell (drop (suc k) widths) (drop (suc k) fs)) y) ∙ rw (a, b) at i.rest);
    }

pub spread_end : {fs bits : List ℕ} {k : ℕ} → Spread fs bits k → k ≤ 24 → 24 ≤ k → bits ≡ spread fs
unfolding groups
spread_end {fs} {bits} {k} i p q = let e : k ≡ 24 = omega arith in rw e at i.rest
