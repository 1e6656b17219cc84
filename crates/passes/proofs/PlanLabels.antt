-- The labels of a plan: by entry before the code, by place in t' for the points.
use Prim.Native.Nat.{ℕ, zero, suc, ◌+◌, ◌-◌, ◌*◌, ◌^◌, ◌≤◌, ◌<◌}
use mathlib.Core.Bool.{Bool, true, false}
use mathlib.Core.List.{List, [], ◌∷◌, ◌++◌, map, map-append}
use mathlib.Core.Path.{◌≡◌, refl, sym, ap, ap₂, ◌∙◌}
use native.Mathlib.Omega.{arith}
use borrow.Author.Tests.{ltb-true, ltb-false}
use lib.Dec.{ltb, leb}
use lib.ListN.{length, take, drop, replicate, length-append, length-drop, length-map, length-replicate, take-append-drop, get_or-append}
use lib.Seq.{length-take-le, take_at, drop_at, get_or-take, get_or-drop, get_or-append-add}
use Rattle.frame.proofs.Labels.{length_at}
use Rattle.frame.specs.Labels.{bits_of_labels, Within, labels_at, Placed}
use Rattle.g9932.proofs.Counts.{map_replicate}
use Rattle.g9932.specs.Order.{cons_if, filter}
use Rattle.g9932.specs.Sizes.{entry}
use Rattle.g9932.specs.Symbol.{load}
use Rattle.g9932.specs.declared.Class.{Class}
use Rattle.g9932.specs.declared.Class.TheVariants.{Data}
use Rattle.mapper.specs.Reading.{join_ones}
use Rattle.mapper.specs.Writing.{split_ones}
use Rattle.plan.specs.Classes.{PlanOf}
use Rattle.plan.specs.Plan.{places_where, every_second}
use Rattle.passes.proofs.LabelPlaces.{bits_append, at_append, count_places, own_bits_lem, shared_bits, split_joined, length_split, length_join, join_four}
use Rattle.passes.proofs.LabelPlaces.{within_append, within_front, within_behind, own_within, within_own, shared_within, within_shared}

-- ---- places rise

length_second : (p h : ℕ) → length (every_second p h) ≡ h
length_second p zero = refl
length_second p (suc h) = ap suc (length_second (suc (suc p)) h)

pub where_inside : {A : Type 0} (p : A → Bool) (i : ℕ) (bs : List A) (j : ℕ) → j < length (places_where p i bs)
    → (i ≤ entry (places_where p i bs) j) × (entry (places_where p i bs) j < i + length bs)
where_inside p i [] j h = absurd (omega arith)
where_inside p i (b ∷ bs) j h = go (p b) j h (where_inside p (suc i) bs)
  where
    go : (c : Bool) (j : ℕ) → j < length (cons_if c i (places_where p (suc i) bs))
        → ((j : ℕ) → j < length (places_where p (suc i) bs) → (suc i ≤ entry (places_where p (suc i) bs) j) × (entry (places_where p (suc i) bs) j < suc i + length bs))
        → (i ≤ entry (cons_if c i (places_where p (suc i) bs)) j) × (entry (cons_if c i (places_where p (suc i) bs)) j < i + suc (length bs))
    go true zero h rest = (omega arith, omega arith)
    go true (suc j) h rest = let r = rest j (omega arith) in (omega arith, omega arith)
    go false j h rest = let r = rest j h in (omega arith, omega arith)

where_rises : (p : ℕ → Bool) (i : ℕ) (bs : List ℕ) (j k : ℕ) → j < k → k < length (places_where p i bs) → entry (places_where p i bs) j < entry (places_where p i bs) k
where_rises p i [] j k l h = absurd (omega arith)
where_rises p i (b ∷ bs) j k l h = go (p b) j k l h (where_inside p (suc i) bs) (where_rises p (suc i) bs)
  where
    go : (c : Bool) (j k : ℕ) → j < k → k < length (cons_if c i (places_where p (suc i) bs))
        → ((j : ℕ) → j < length (places_where p (suc i) bs) → (suc i ≤ entry (places_where p (suc i) bs) j) × (entry (places_where p (suc i) bs) j < suc i + length bs))
        → ((j k : ℕ) → j < k → k < length (places_where p (suc i) bs) → entry (places_where p (suc i) bs) j < entry (places_where p (suc i) bs) k)
        → entry (cons_if c i (places_where p (suc i) bs)) j < entry (cons_if c i (places_where p (suc i) bs)) k
    go true zero zero l h inside rest = absurd (omega arith)
    go true zero (suc k) l h inside rest = let r = inside k (omega arith) in omega arith
    go true (suc j) zero l h inside rest = absurd (omega arith)
    go true (suc j) (suc k) l h inside rest = rest j k (omega arith) (omega arith)
    go false j k l h inside rest = rest j k l h

second_at : (p h j : ℕ) → j < h → entry (every_second p h) j ≡ p + 2 * j
second_at p zero j l = absurd (omega arith)
second_at p (suc h) zero l = omega arith
second_at p (suc h) (suc j) l = second_at (suc (suc p)) h j (omega arith) ∙ omega arith

-- what holds of the entries of two lists
all_append : (P : ℕ → Type 0) (ps qs : List ℕ) → ((j : ℕ) → j < length ps → P (entry ps j)) → ((j : ℕ) → j < length qs → P (entry qs j))
    → (j : ℕ) → j < length (ps ++ qs) → P (entry (ps ++ qs) j)
all_append P [] qs a b j h = b j h
all_append P (p ∷ ps) qs a b zero h = a 0 (omega arith)
all_append P (p ∷ ps) qs a b (suc j) h = all_append P ps qs (λ k l. a (suc k) (omega arith)) b j (omega arith)

rises_append : (ps qs : List ℕ) (m : ℕ) → ((j : ℕ) → j < length ps → entry ps j < m) → ((j : ℕ) → j < length qs → m ≤ entry qs j)
    → ((j k : ℕ) → j < k → k < length ps → entry ps j < entry ps k) → ((j k : ℕ) → j < k → k < length qs → entry qs j < entry qs k)
    → (j k : ℕ) → j < k → k < length (ps ++ qs) → entry (ps ++ qs) j < entry (ps ++ qs) k
rises_append [] qs m a b c d j k l h = d j k l h
rises_append (p ∷ ps) qs m a b c d j zero l h = absurd (omega arith)
rises_append (p ∷ ps) qs m a b c d zero (suc k) l h =
    all_append (λ (n : ℕ). p < n) ps qs (λ i q. c 0 (suc i) (omega arith) (omega arith)) (λ i q. let x = a 0 (omega arith) in let y = b i q in omega arith) k (omega arith)
rises_append (p ∷ ps) qs m a b c d (suc j) (suc k) l h =
    rises_append ps qs m (λ i q. a (suc i) (omega arith)) b (λ i n q s. c (suc i) (suc n) (omega arith) (omega arith)) d j k (omega arith) (omega arith)

-- ---- a plan

module _ {cs : List Class} {from : ℕ} {es ps ds layouts : List ℕ} (p : PlanOf cs from es ps ds layouts) where
  abbrev bs : List ℕ
  bs = map load p.own

  abbrev h : ℕ
  h = p.shared_count

  own_count : length bs ≡ from
  own_count = length-map p.own load ∙ sym p.from_is

  pub all_count : from + 2 * h ≡ length cs
  all_count =
      let e = ap length p.classes in
      omega (arith, e, p.from_is, length-append p.own (replicate (2 * h) (Data 1)), length-replicate (2 * h) (Data 1))

  pub loads_are : map load cs ≡ bs ++ replicate (2 * h) 1
  loads_are = ap (map load) p.classes ∙ map-append load p.own (replicate (2 * h) (Data 1)) ∙ ap (λ (l : List ℕ). bs ++ l) (map_replicate load (2 * h) (Data 1))

  ones_at : (n k : ℕ) → k < n → entry (replicate n 1) k ≡ 1
  ones_at zero k l = absurd (omega arith)
  ones_at (suc n) zero l = refl
  ones_at (suc n) (suc k) l = ones_at n k (omega arith)

  own_places : length (places_where (leb p.least) 0 bs) ≡ length (filter (leb p.least) bs)
  own_places = count_places p.least bs 0

  -- an entry, a place: the places rise
  pub plan_placed : (ls : List ℕ) → length ls ≡ length cs → Placed es ps ls
  plan_placed ls n =
      let a = own_places in
      let m = all_count in
      let k = length_second from h in
      let own : List ℕ = places_where (leb p.least) 0 bs in
      let front : (j : ℕ) → j < length own → entry own j < from = λ j l. let w = where_inside (leb p.least) 0 bs j l in let c = own_count in omega (arith, w.1) in
      let behind : (j : ℕ) → j < length (every_second from h) → (from ≤ entry (every_second from h) j) × (entry (every_second from h) j < length ls) =
      λ j l. let s = second_at from h j (omega arith) in (omega arith, omega arith) in
      record {
        places_length =
            let e = ap length p.places_are ∙ length-append own (every_second from h) in
            let f = ap length p.entries_are ∙ length-append (filter (leb p.least) bs) (replicate h 2) in
            omega (arith, e, f, length-replicate {A = ℕ} h 2);
        rising =
            rw p.places_are
            (record {
              below = all_append (λ (q : ℕ). q < length ls) own (every_second from h) (λ j l. let f = front j l in omega arith) (λ j l. (behind j l).1);
              rises =
                  rises_append own (every_second from h) from front (λ j l. (behind j l).0) (where_rises (leb p.least) 0 bs)
                  (λ j i l q. let s = second_at from h j (omega arith) in let t = second_at from h i (omega arith) in omega arith);
            });
      }

  module _ (ls : List ℕ) (n : length ls ≡ length cs) where
    abbrev pub split : List ℕ
    split = take from ls ++ split_ones (drop from ls)

    abbrev pub joined : List ℕ
    joined = take from ls ++ join_ones (drop from ls)

    pub front_count : length (take from ls) ≡ from
    front_count = length-take-le from ls (omega (arith, all_count))

    pub behind_count : length (drop from ls) ≡ 2 * h
    behind_count = length-drop from ls ∙ omega (arith, all_count)

    pub split_count : length split ≡ length cs
    split_count = length-append (take from ls) (split_ones (drop from ls)) ∙ omega (arith, length_split (drop from ls), front_count, behind_count, all_count)

    pub joined_count : length joined ≡ length cs
    joined_count = length-append (take from ls) (join_ones (drop from ls)) ∙ omega (arith, length_join (drop from ls), front_count, behind_count, all_count)

    -- the labels of the entries, in the two parts of the plan
    abbrev pub firsts : List ℕ
    firsts = labels_at (places_where (leb p.least) 0 bs) ls

    abbrev pub lasts : List ℕ
    lasts = labels_at (every_second from h) ls

    pub parts : labels_at ps ls ≡ firsts ++ lasts
    parts = ap (λ (q : List ℕ). labels_at q ls) p.places_are ∙ at_append (places_where (leb p.least) 0 bs) (every_second from h) ls

    pub firsts_count : length firsts ≡ length (filter (leb p.least) bs)
    firsts_count = length_at (places_where (leb p.least) 0 bs) ls ∙ own_places

    -- the bits of the entries' labels are those of the tones', once shared ones are split
    pub by_place : bits_of_labels es (labels_at ps ls) ≡ bits_of_labels (map load cs) split
    by_place =
        let m = own_count in
        let k = all_count in
        ap₂ bits_of_labels p.entries_are parts
        ∙ bits_append (filter (leb p.least) bs) (replicate h 2) firsts lasts firsts_count
        ∙ ap₂ (λ (a b : List Bool). a ++ b)
        (own_bits_lem p.least bs ls 0 p.own_bits (omega arith) ∙ ap (λ (i : ℕ). bits_of_labels bs (take i ls)) m)
        (shared_bits h from ls (omega arith))
        ∙ sym (ap (λ (l : List ℕ). bits_of_labels l split) loads_are ∙ bits_append bs (replicate (2 * h) 1) (take from ls) (split_ones (drop from ls)) (front_count ∙ sym m))

    -- a tone's own label has no more bits than the tone
    pub split_within : Within es (labels_at ps ls) (length es) → (k : ℕ) → k < length cs → 1 ≤ entry (map load cs) k → entry split k < 2 ^ entry (map load cs) k
    split_within w k l =
        let v = rw (p.entries_are, parts) at w in
        let a = own_within p.least bs ls 0 p.own_bits (within_front (filter (leb p.least) bs) (replicate h 2) firsts lasts firsts_count v) in
        let b = shared_within h from ls (omega (arith, all_count)) (within_behind (filter (leb p.least) bs) (replicate h 2) firsts lasts firsts_count v) in
        rw loads_are (go (ltb k from) refl a b)
      where
        go : (c : Bool) → ltb k from ≡ c → ((i : ℕ) → i < length bs → 1 ≤ entry bs i → entry ls (0 + i) < 2 ^ entry bs i)
            → ((i : ℕ) → i < 2 * h → entry (split_ones (drop from ls)) i < 2) → 1 ≤ entry (bs ++ replicate (2 * h) 1) k → entry split k < 2 ^ entry (bs ++ replicate (2 * h) 1) k
        go true e a b m =
            let i = ltb-true k from e in
            let j : k < length bs = omega (arith, own_count) in
            let z : 0 + k ≡ k = omega arith in
            let x = get_or-append bs (replicate (2 * h) 1) 0 k j in
            let y = get_or-append (take from ls) (split_ones (drop from ls)) 0 k (omega (arith, front_count)) ∙ get_or-take from ls k 0 i in
            rw (y, x) (rw z at (a k j (rw x at m)))
        go false e a b m =
            let i = ltb-false k from e in
            let d : k ≡ length bs + (k - from) = omega (arith, own_count) in
            let f : k ≡ length (take from ls) + (k - from) = omega (arith, front_count) in
            let x = ap (λ (t : ℕ). entry (bs ++ replicate (2 * h) 1) t) d ∙ get_or-append-add bs (replicate (2 * h) 1) (k - from) 0 ∙ ones_at (2 * h) (k - from) (omega (arith, all_count)) in
            let y = ap (λ (t : ℕ). entry split t) f ∙ get_or-append-add (take from ls) (split_ones (drop from ls)) (k - from) 0 in
            rw (y, x) (b (k - from) (omega (arith, all_count)))

    -- and back
    module _ (small : (k : ℕ) → k < length cs → 1 ≤ entry (map load cs) k → entry ls k < 2 ^ entry (map load cs) k) where
      pub own_small : (k : ℕ) → k < length bs → p.least ≤ entry bs k → entry joined (0 + k) < 2 ^ entry bs k
      own_small k l m =
          let o = p.least_is in
          let x = get_or-append bs (replicate (2 * h) 1) 0 k l in
          let z : 0 + k ≡ k = omega arith in
          let y = get_or-append (take from ls) (join_ones (drop from ls)) 0 k (omega (arith, front_count, own_count)) ∙ get_or-take from ls k 0 (omega (arith, own_count)) in
          rw (z, y) (rw (loads_are, x) at (small k (omega (arith, own_count, all_count)) (rw (loads_are, x) (omega arith))))

      pub ones_small : (k : ℕ) → k < length (drop from ls) → entry (drop from ls) k < 2
      ones_small k l =
          let c = behind_count in
          let f : from + k ≡ length bs + k = omega (arith, own_count) in
          let x = ap (λ (t : ℕ). entry (bs ++ replicate (2 * h) 1) t) f ∙ get_or-append-add bs (replicate (2 * h) 1) k 0 ∙ ones_at (2 * h) k (omega arith) in
          rw (get_or-drop from ls k 0) (rw (loads_are, x) at (small (from + k) (omega (arith, all_count)) (rw (loads_are, x) (omega arith))))

      pub drop_joined : drop from joined ≡ join_ones (drop from ls)
      drop_joined = drop_at (take from ls) (join_ones (drop from ls)) from front_count

      pub take_joined : take from joined ≡ take from ls
      take_joined = take_at (take from ls) (join_ones (drop from ls)) from front_count

-- reading: labels by place, joined where they are shared
module _ {cs : List Class} {from : ℕ} {es ps ds layouts : List ℕ} (p : PlanOf cs from es ps ds layouts) (ls : List ℕ) (n : length ls ≡ length cs)
    (small : (k : ℕ) → k < length cs → 1 ≤ entry (map load cs) k → entry ls k < 2 ^ entry (map load cs) k) where
  pub by_entry : bits_of_labels es (labels_at ps (joined p ls n)) ≡ bits_of_labels (map load cs) ls
  by_entry =
      by_place p (joined p ls n) (joined_count p ls n)
      ∙ ap (bits_of_labels (map load cs))
      (ap₂ (λ (a b : List ℕ). a ++ split_ones b) (take_joined p ls n small) (drop_joined p ls n small)
      ∙ ap (λ (l : List ℕ). take from ls ++ l) (split_joined p.shared_count (drop from ls) (behind_count p ls n) (ones_small p ls n small))
      ∙ take-append-drop from ls)

  pub joined_within : Within es (labels_at ps (joined p ls n)) (length es)
  joined_within =
      let j : List ℕ = joined p ls n in
      let a = within_own p.least (map load p.own) j 0 (own_small p ls n small) in
      let b = within_shared p.shared_count from j four in
      rw (p.entries_are, parts p j (joined_count p ls n))
      (within_append (filter (leb p.least) (map load p.own)) (replicate p.shared_count 2) (firsts p j (joined_count p ls n)) (lasts p j (joined_count p ls n)) (firsts_count p j (joined_count p ls n)) a b)
    where
      four : (i : ℕ) → i < p.shared_count → entry (joined p ls n) (from + 2 * i) < 4
      four i l =
          let e : from + 2 * i ≡ length (take from ls) + 2 * i = omega (arith, front_count p ls n) in
          rw (e, get_or-append-add (take from ls) (join_ones (drop from ls)) (2 * i) 0) (join_four (drop from ls) i (ones_small p ls n small) (omega (arith, behind_count p ls n)))
