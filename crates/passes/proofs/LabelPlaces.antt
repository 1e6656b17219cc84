-- Labels by entry and by place: the bits of the entries' labels are those of the tones', in t' order.
use Prim.Native.Nat.{ℕ, zero, suc, ◌+◌, ◌*◌, ◌/◌, ◌%◌, ◌^◌, ◌≤◌, ◌<◌}
use mathlib.Core.Bool.{Bool, true, false}
use mathlib.Core.List.{List, [], ◌∷◌, ◌++◌, map-append, append_assoc}
use mathlib.Core.Path.{◌≡◌, refl, sym, ap, ◌∙◌}
use native.Mathlib.Omega.{arith}
use borrow.Author.Tests.{leb-true, leb-false}
use lib.Dec.{leb}
use lib.ListN.{length, take, drop, get_or, replicate}
use lib.Seq.{drop-cons}
use Rattle.frame.specs.Labels.{bits_of_labels, Within, labels_at}
use Rattle.g9932.specs.Bits.{bits, odd}
use Rattle.g9932.specs.Order.{cons_if, filter}
use Rattle.g9932.specs.Sizes.{entry}
use Rattle.mapper.specs.Reading.{join_ones}
use Rattle.mapper.specs.Writing.{split_ones}
use Rattle.plan.specs.Plan.{places_where, every_second}

-- ---- bits in two parts

pub bits_append : (es fs ls ms : List ℕ) → length ls ≡ length es → bits_of_labels (es ++ fs) (ls ++ ms) ≡ bits_of_labels es ls ++ bits_of_labels fs ms
bits_append [] fs [] ms h = refl
bits_append [] fs (l ∷ ls) ms h = absurd (omega arith)
bits_append (e ∷ es) fs [] ms h = absurd (omega arith)
bits_append (e ∷ es) fs (l ∷ ls) ms h = ap (λ (z : List Bool). bits e l ++ z) (bits_append es fs ls ms (omega arith)) ∙ sym (append_assoc (bits e l) (bits_of_labels es ls) (bits_of_labels fs ms))

pub at_append : (ps qs ls : List ℕ) → labels_at (ps ++ qs) ls ≡ labels_at ps ls ++ labels_at qs ls
at_append ps qs ls = map-append (entry ls) ps qs

-- ---- tones with an entry of their own, from place i on

-- a count below the least is 0
abbrev Own : ℕ → List ℕ → Type 0
Own least bs = (k : ℕ) → entry bs k < least → entry bs k ≡ 0

pub count_places : (least : ℕ) (bs : List ℕ) (i : ℕ) → length (places_where (leb least) i bs) ≡ length (filter (leb least) bs)
count_places least [] i = refl
count_places least (b ∷ bs) i = go (leb least b) (count_places least bs (suc i))
  where
    go : (c : Bool) → length (places_where (leb least) (suc i) bs) ≡ length (filter (leb least) bs)
        → length (cons_if c i (places_where (leb least) (suc i) bs)) ≡ length (cons_if c b (filter (leb least) bs))
    go true e = ap suc e
    go false e = e

no_bits : (b l : ℕ) (d : List Bool) → b ≡ 0 → bits b l ++ d ≡ d
unfolding bits
no_bits b l d z = rw z

pub own_bits_lem : (least : ℕ) (bs ls : List ℕ) (i : ℕ) → Own least bs → i + length bs ≤ length ls
    → bits_of_labels (filter (leb least) bs) (labels_at (places_where (leb least) i bs) ls) ≡ bits_of_labels bs (take (length bs) (drop i ls))
own_bits_lem least [] ls i own h = refl
own_bits_lem least (b ∷ bs) ls i own h =
    let t : drop i ls ≡ entry ls i ∷ drop (suc i) ls = drop-cons ls i 0 (omega arith) in
    rw t (go (leb least b) refl (own_bits_lem least bs ls (suc i) (λ k. own (suc k)) (omega arith)))
  where
    go : (c : Bool) → leb least b ≡ c
        → bits_of_labels (filter (leb least) bs) (labels_at (places_where (leb least) (suc i) bs) ls) ≡ bits_of_labels bs (take (length bs) (drop (suc i) ls))
        → bits_of_labels (cons_if c b (filter (leb least) bs)) (labels_at (cons_if c i (places_where (leb least) (suc i) bs)) ls)
        ≡ bits b (entry ls i) ++ bits_of_labels bs (take (length bs) (drop (suc i) ls))
    go true q e = ap (λ (z : List Bool). bits b (entry ls i) ++ z) e
    go false q e = e ∙ sym (no_bits b (entry ls i) (bits_of_labels bs (take (length bs) (drop (suc i) ls))) (own 0 (leb-false least b q)))

-- ---- tones that share, from place i on

-- two bits of a label, one by one
two_bits : (a : ℕ) (d : List Bool) → bits 1 (a % 2) ++ (bits 1 (a / 2) ++ d) ≡ bits 2 a ++ d
unfolding bits odd
two_bits a d = let e : a % 2 % 2 ≡ a % 2 = omega arith in rw e

pub shared_bits : (h i : ℕ) (ls : List ℕ) → i + 2 * h ≤ length ls
    → bits_of_labels (replicate h 2) (labels_at (every_second i h) ls) ≡ bits_of_labels (replicate (2 * h) 1) (split_ones (drop i ls))
shared_bits zero i ls k = refl
shared_bits (suc h) i ls k =
    let a : drop i ls ≡ entry ls i ∷ drop (suc i) ls = drop-cons ls i 0 (omega arith) in
    let b : drop (suc i) ls ≡ entry ls (suc i) ∷ drop (suc (suc i)) ls = drop-cons ls (suc i) 0 (omega arith) in
    let n : 2 * suc h ≡ suc (suc (2 * h)) = omega arith in
    rw (n, a, b)
    (ap (λ (d : List Bool). bits 2 (entry ls i) ++ d) (shared_bits h (suc (suc i)) ls (omega arith))
    ∙ sym (two_bits (entry ls i) (bits_of_labels (replicate (2 * h) 1) (split_ones (drop (suc (suc i)) ls)))))

-- a list of even length is split, joined and split again
pub split_joined : (h : ℕ) (ls : List ℕ) → length ls ≡ 2 * h → ((k : ℕ) → k < length ls → entry ls k < 2) → split_ones (join_ones ls) ≡ ls
split_joined zero [] n s = refl
split_joined zero (a ∷ ls) n s = absurd (omega arith)
split_joined (suc h) [] n s = absurd (omega arith)
split_joined (suc h) (a ∷ []) n s = absurd (omega arith)
split_joined (suc h) (a ∷ b ∷ ls) n s =
    let x : (a + 2 * b) % 2 ≡ a = omega (arith, s 0 (omega arith)) in
    let y : (a + 2 * b) / 2 ≡ b = omega (arith, s 0 (omega arith)) in
    rw (x, y) (ap (λ (l : List ℕ). a ∷ b ∷ l) (split_joined h ls (omega arith) (λ k l. s (suc (suc k)) (omega arith))))

pub length_split : (ls : List ℕ) → length (split_ones ls) ≡ length ls
length_split [] = refl
length_split (a ∷ []) = refl
length_split (a ∷ b ∷ ls) = ap (λ (n : ℕ). suc (suc n)) (length_split ls)

pub length_join : (ls : List ℕ) → length (join_ones ls) ≡ length ls
length_join [] = refl
length_join (a ∷ []) = refl
length_join (a ∷ b ∷ ls) = ap (λ (n : ℕ). suc (suc n)) (length_join ls)

-- ---- how large the labels are

pub within_append : (es fs ls ms : List ℕ) → length ls ≡ length es → Within es ls (length es) → Within fs ms (length fs) → Within (es ++ fs) (ls ++ ms) (length (es ++ fs))
within_append [] fs [] ms h a b k l = b k l
within_append [] fs (x ∷ ls) ms h a b k l = absurd (omega arith)
within_append (e ∷ es) fs [] ms h a b k l = absurd (omega arith)
within_append (e ∷ es) fs (x ∷ ls) ms h a b zero l = a 0 (omega arith)
within_append (e ∷ es) fs (x ∷ ls) ms h a b (suc k) l = within_append es fs ls ms (omega arith) (λ j i. a (suc j) (omega arith)) b k (omega arith)

pub within_front : (es fs ls ms : List ℕ) → length ls ≡ length es → Within (es ++ fs) (ls ++ ms) (length (es ++ fs)) → Within es ls (length es)
within_front [] fs ls ms h w k l = absurd (omega arith)
within_front (e ∷ es) fs [] ms h w k l = absurd (omega arith)
within_front (e ∷ es) fs (x ∷ ls) ms h w zero l = w 0 (omega arith)
within_front (e ∷ es) fs (x ∷ ls) ms h w (suc k) l = within_front es fs ls ms (omega arith) (λ j i. w (suc j) (omega arith)) k (omega arith)

pub within_behind : (es fs ls ms : List ℕ) → length ls ≡ length es → Within (es ++ fs) (ls ++ ms) (length (es ++ fs)) → Within fs ms (length fs)
within_behind [] fs [] ms h w = w
within_behind [] fs (x ∷ ls) ms h w = absurd (omega arith)
within_behind (e ∷ es) fs [] ms h w = absurd (omega arith)
within_behind (e ∷ es) fs (x ∷ ls) ms h w = within_behind es fs ls ms (omega arith) (λ j i. w (suc j) (omega arith))

-- of tones with an entry of their own, by entry and by place
pub own_within : (least : ℕ) (bs ls : List ℕ) (i : ℕ) → Own least bs
    → Within (filter (leb least) bs) (labels_at (places_where (leb least) i bs) ls) (length (filter (leb least) bs))
    → (k : ℕ) → k < length bs → 1 ≤ entry bs k → entry ls (i + k) < 2 ^ entry bs k
own_within least [] ls i own w k l m = absurd (omega arith)
own_within least (b ∷ bs) ls i own w k l m = go (leb least b) refl w k l m (own_within least bs ls (suc i) (λ j. own (suc j)))
  where
    go : (c : Bool) → leb least b ≡ c
        → Within (cons_if c b (filter (leb least) bs)) (labels_at (cons_if c i (places_where (leb least) (suc i) bs)) ls) (length (cons_if c b (filter (leb least) bs)))
        → (k : ℕ) → k < length (b ∷ bs) → 1 ≤ entry (b ∷ bs) k
        → (Within (filter (leb least) bs) (labels_at (places_where (leb least) (suc i) bs) ls) (length (filter (leb least) bs))
        → (k : ℕ) → k < length bs → 1 ≤ entry bs k → entry ls (suc i + k) < 2 ^ entry bs k)
        → entry ls (i + k) < 2 ^ entry (b ∷ bs) k
    go true q w zero l m rest = let e : i + 0 ≡ i = omega arith in rw e (w 0 (omega arith))
    go true q w (suc k) l m rest = let e : i + suc k ≡ suc i + k = omega arith in rw e (rest (λ j h. w (suc j) (omega arith)) k (omega arith) m)
    go false q w zero l m rest = absurd (omega (arith, m, own 0 (leb-false least b q)))
    go false q w (suc k) l m rest = let e : i + suc k ≡ suc i + k = omega arith in rw e (rest w k (omega arith) m)

pub within_own : (least : ℕ) (bs ls : List ℕ) (i : ℕ) → ((k : ℕ) → k < length bs → least ≤ entry bs k → entry ls (i + k) < 2 ^ entry bs k)
    → Within (filter (leb least) bs) (labels_at (places_where (leb least) i bs) ls) (length (filter (leb least) bs))
within_own least [] ls i w j l = absurd (omega arith)
within_own least (b ∷ bs) ls i w j l =
    go (leb least b) refl j l (within_own least bs ls (suc i) (λ k h m. let e : suc i + k ≡ i + suc k = omega arith in rw e (w (suc k) (omega arith) m)))
  where
    go : (c : Bool) → leb least b ≡ c → (j : ℕ) → j < length (cons_if c b (filter (leb least) bs))
        → Within (filter (leb least) bs) (labels_at (places_where (leb least) (suc i) bs) ls) (length (filter (leb least) bs))
        → get_or (labels_at (cons_if c i (places_where (leb least) (suc i) bs)) ls) j 0 < 2 ^ get_or (cons_if c b (filter (leb least) bs)) j 0
    go true q zero l rest = let e : i + 0 ≡ i = omega arith in rw e at (w 0 (omega arith) (leb-true least b q))
    go true q (suc j) l rest = rest j (omega arith)
    go false q j l rest = rest j l

-- of tones that share
pub shared_within : (h i : ℕ) (ls : List ℕ) → i + 2 * h ≤ length ls → Within (replicate h 2) (labels_at (every_second i h) ls) (length (replicate {A = ℕ} h 2))
    → (k : ℕ) → k < 2 * h → entry (split_ones (drop i ls)) k < 2
shared_within zero i ls m w k l = absurd (omega arith)
shared_within (suc h) i ls m w k l =
    let a : drop i ls ≡ entry ls i ∷ drop (suc i) ls = drop-cons ls i 0 (omega arith) in
    let b : drop (suc i) ls ≡ entry ls (suc i) ∷ drop (suc (suc i)) ls = drop-cons ls (suc i) 0 (omega arith) in
    rw (a, b) (go k l (shared_within h (suc (suc i)) ls (omega arith) (λ j q. w (suc j) (omega arith))))
  where
    go : (k : ℕ) → k < 2 * suc h → ((k : ℕ) → k < 2 * h → entry (split_ones (drop (suc (suc i)) ls)) k < 2)
        → entry (entry ls i % 2 ∷ entry ls i / 2 ∷ split_ones (drop (suc (suc i)) ls)) k < 2
    go zero q rest = omega arith
    go (suc zero) q rest = omega (arith, w 0 (omega arith))
    go (suc (suc k)) q rest = rest k (omega arith)

pub within_shared : (h i : ℕ) (ls : List ℕ) → ((j : ℕ) → j < h → entry ls (i + 2 * j) < 4) → Within (replicate h 2) (labels_at (every_second i h) ls) (length (replicate {A = ℕ} h 2))
within_shared zero i ls w j l = absurd (omega arith)
within_shared (suc h) i ls w zero l = let e : i + 2 * 0 ≡ i = omega arith in rw e at (w 0 (omega arith))
within_shared (suc h) i ls w (suc j) l =
    within_shared h (suc (suc i)) ls (λ k m. let e : suc (suc i) + 2 * k ≡ i + 2 * suc k = omega arith in rw e (w (suc k) (omega arith))) j (omega arith)

pub join_four : (ls : List ℕ) (j : ℕ) → ((k : ℕ) → k < length ls → entry ls k < 2) → 2 * j + 1 < length ls → entry (join_ones ls) (2 * j) < 4
join_four [] j s l = absurd (omega arith)
join_four (a ∷ []) j s l = absurd (omega arith)
join_four (a ∷ b ∷ ls) zero s l = omega (arith, s 0 (omega arith), s 1 (omega arith))
join_four (a ∷ b ∷ ls) (suc j) s l =
    let e : 2 * suc j ≡ suc (suc (2 * j)) = omega arith in
    rw e (join_four ls j (λ k m. s (suc (suc k)) (omega arith)) (omega arith))
