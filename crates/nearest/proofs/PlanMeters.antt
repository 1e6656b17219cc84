-- The entries of a plan and the points received at their places: what the bits of the entries' labels cost is the total of the points that are
-- written for those bits.
use Prim.Native.Nat.{ℕ, zero, suc, ◌+◌, ◌*◌, ◌%◌, ◌≤◌, ◌<◌}
use mathlib.Core.Bool.{Bool, true, false}
use mathlib.Core.List.{List, [], ◌∷◌, ◌++◌, map}
use mathlib.Core.Path.{◌≡◌, refl, sym, ap, subst, ◌∙◌}
use native.Mathlib.Nat.{suc-add}
use native.Mathlib.Omega.{arith}
use borrow.Author.Tests.{ltb-false, lt-ltb, le-ltb, leb-false, lt-leb}
use lib.Dec.{ltb, leb}
use lib.ListN.{length, take, drop, get_or, replicate, length-map, length-replicate}
use lib.Seq.{drop-cons, drop-drop, take-take, take-nil}
use Rattle.cosets.specs.Meters.{Meter}
use Rattle.g9932.proofs.Formed.{is_one_odd, is_one_even}
use Rattle.g9932.specs.Filler.{after_draws, draws}
use Rattle.g9932.specs.Nearest.{total_of, tone_distance}
use Rattle.g9932.specs.Order.{Pair, pair, cons_if, filter, is_one, in_twos, zero_in_front, pairs_of}
use Rattle.g9932.specs.Points.{point_of}
use Rattle.g9932.specs.Sizes.{entry, Point, origin}
use Rattle.g9932.specs.Symbol.{load, write_points}
use Rattle.g9932.specs.declared.Class.{Class}
use Rattle.g9932.specs.declared.Class.TheVariants.{Data, Monitored, Silent}
use Rattle.passes.proofs.LabelPlaces.{count_places}
use Rattle.passes.proofs.PlanLabels.{all_count, where_inside, plan_placed}
use Rattle.paths.specs.Frames.{pairs_by, sent_cost}
use Rattle.plan.specs.Classes.{PlanOf}
use Rattle.plan.specs.Plan.{ClassBits, places_where, every_second}
use Rattle.decisions.specs.Deciding.{meters_in_twos, no_meter, meter_in_front, pair_meters}
use Rattle.decisions.specs.Entries.{meter_by, meters_in}

-- what the bits of labels cost, one label after the other
unfoldable pub meters_cost : List Meter → List Bool → ℕ
meters_cost [] d = 0
meters_cost (m ∷ ms) d = m.cost (take m.bits d) + meters_cost ms (drop m.bits d)

abbrev pub bits_in : List Meter → List ℕ
bits_in ms = map (λ m. m.bits) ms

-- ---- tones by entries

-- the points written for tones from place i on have the total that their entries' bits cost
abbrev Metered : ℕ → List Point → List Class → ℕ → List ℕ → List ℕ → Type 0
Metered from q cs i es ps = (r : ℕ) (d : List Bool) → total_of cs (drop i q) (write_points r cs d) ≡ meters_cost (meters_in from q es ps) d

-- the lowest two bits, one by one
first_of_two_lem : (d : List Bool) → take 1 (take 2 d) ≡ take 1 d
first_of_two_lem [] = refl
first_of_two_lem (a ∷ []) = refl
first_of_two_lem (a ∷ b ∷ d) = refl

second_of_two : (d : List Bool) → take 1 (drop 1 (take 2 d)) ≡ take 1 (drop 1 d)
second_of_two [] = refl
second_of_two (a ∷ []) = refl
second_of_two (a ∷ b ∷ d) = refl

module _ (from : ℕ) (q : List Point) where
  -- one tone more in front, with an entry of its own if it has bits
  tone_metered : (least : ℕ) (c : Class) (cs : List Class) (i : ℕ) (es ps es' ps' : List ℕ) → 1 ≤ least → (load c < least → load c ≡ 0) → ClassBits c → i < from → i < length q
      → Metered from q cs (suc i) (es ++ es') (ps ++ ps')
      → Metered from q (c ∷ cs) i (cons_if (leb least (load c)) (load c) es ++ es') (cons_if (leb least (load c)) i ps ++ ps')
  unfolding total_of write_points meters_cost
  tone_metered least (Data n) cs i es ps es' ps' one few has a b next r d =
      let t : drop i q ≡ get_or q i origin ∷ drop (suc i) q = drop-cons q i origin b in
      rw t (go (leb least n) refl)
    where
      go : (o : Bool) → leb least n ≡ o → tone_distance (Data n) (get_or q i origin) (point_of n (take n d)) + total_of cs (drop (suc i) q) (write_points (after_draws (draws (Data n)) r) cs (drop n d))
          ≡ meters_cost (meters_in from q (cons_if o n es ++ es') (cons_if o i ps ++ ps')) d
      go true e = rw (lt-ltb i from a) (ap (λ (m : ℕ). tone_distance (Data n) (get_or q i origin) (point_of n (take n d)) + m) (next (after_draws (draws (Data n)) r) (drop n d)))
      go false e = absurd (omega (arith, has.0, few (leb-false least n e)))
  tone_metered least Monitored cs i es ps es' ps' one few has a b next r d =
      let t : drop i q ≡ get_or q i origin ∷ drop (suc i) q = drop-cons q i origin b in
      let e = next (after_draws (draws Monitored) r) d in
      rw (t, lt-leb least 0 one) (omega (arith, e))
  tone_metered least Silent cs i es ps es' ps' one few has a b next r d =
      let t : drop i q ≡ get_or q i origin ∷ drop (suc i) q = drop-cons q i origin b in
      let e = next (after_draws (draws Silent) r) d in
      rw (t, lt-leb least 0 one) (omega (arith, e))

  -- tones with entries of their own come before place `from`
  own_metered : (least : ℕ) (own rest : List Class) (i : ℕ) (es ps : List ℕ) → 1 ≤ least → ((k : ℕ) → entry (map load own) k < least → entry (map load own) k ≡ 0)
      → ((k : ℕ) → k < length (own ++ rest) → ClassBits (get_or (own ++ rest) k Silent)) → i + length own ≤ from → from ≤ length q
      → Metered from q rest (i + length own) es ps
      → Metered from q (own ++ rest) i (filter (leb least) (map load own) ++ es) (places_where (leb least) i (map load own) ++ ps)
  own_metered least [] rest i es ps one few has a b next = let e : i + 0 ≡ i = omega arith in rw e at next
  own_metered least (c ∷ own) rest i es ps one few has a b next =
      let e : i + suc (length own) ≡ suc i + length own = omega arith in
      tone_metered least c (own ++ rest) i (filter (leb least) (map load own)) (places_where (leb least) (suc i) (map load own)) es ps one (few 0) (has 0 (omega arith)) (omega arith) (omega arith)
      (own_metered least own rest (suc i) es ps one (λ k. few (suc k)) (λ k h. has (suc k) (omega arith)) (omega arith) b (rw e at next))

  -- 1-bit tones from there on share an entry, two by two
  shared_metered : (h i : ℕ) → from ≤ i → i + 2 * h ≤ length q → Metered from q (replicate (2 * h) (Data 1)) i (replicate h 2) (every_second i h)
  unfolding total_of write_points meters_cost
  shared_metered zero i a b r d = refl
  shared_metered (suc h) i a b r d =
      let n : 2 * suc h ≡ suc (suc (2 * h)) = omega arith in
      let s : drop i q ≡ get_or q i origin ∷ drop (suc i) q = drop-cons q i origin (omega arith) in
      let t : drop (suc i) q ≡ get_or q (suc i) origin ∷ drop (suc (suc i)) q = drop-cons q (suc i) origin (omega arith) in
      let e = shared_metered h (suc (suc i)) (omega arith) (omega arith) (after_draws (draws (Data 1)) (after_draws (draws (Data 1)) r)) (drop 1 (drop 1 d)) in
      let f = ap (meters_cost (meters_in from q (replicate h 2) (every_second (suc (suc i)) h))) (drop-drop 1 1 d) in
      rw (n, s, t, le-ltb i from a, first_of_two_lem d, second_of_two d) (omega (arith, e, f))

-- ---- the entries of a plan

-- what holds of an entry and its place, in two parts
pub both_append : (P : ℕ → ℕ → Type 0) (es ps fs qs : List ℕ) → length ps ≡ length es → ((k : ℕ) → k < length es → P (entry es k) (entry ps k))
    → ((k : ℕ) → k < length fs → P (entry fs k) (entry qs k)) → (k : ℕ) → k < length (es ++ fs) → P (entry (es ++ fs) k) (entry (ps ++ qs) k)
both_append P [] [] fs qs n a b k h = b k h
both_append P [] (p ∷ ps) fs qs n a b k h = absurd (omega arith)
both_append P (e ∷ es) [] fs qs n a b k h = absurd (omega arith)
both_append P (e ∷ es) (p ∷ ps) fs qs n a b zero h = a 0 (omega arith)
both_append P (e ∷ es) (p ∷ ps) fs qs n a b (suc k) h = both_append P es ps fs qs (omega arith) (λ j l. a (suc j) (omega arith)) b k (omega arith)

-- a shared entry has 2 bits, and its second tone is one of n
abbrev pub SharedIn : ℕ → ℕ → ℕ → ℕ → Type 0
SharedIn from n e p = from ≤ p → (e ≡ 2) × (suc p < n)

second_shared : (from n h i : ℕ) → i + 2 * h ≤ n → (k : ℕ) → k < length {A = ℕ} (replicate h 2) → SharedIn from n (entry (replicate h 2) k) (entry (every_second i h) k)
second_shared from n zero i a k h l = absurd (omega arith)
second_shared from n (suc s) i a zero h l = (refl, omega arith)
second_shared from n (suc s) i a (suc k) h l = second_shared from n s (suc (suc i)) (omega arith) k (omega arith) l

metered_bits : (from n : ℕ) (q : List Point) (es ps : List ℕ) → length ps ≡ length es → ((k : ℕ) → k < length es → SharedIn from n (entry es k) (entry ps k)) → bits_in (meters_in from q es ps) ≡ es
metered_bits from n q [] ps l s = refl
metered_bits from n q (e ∷ es) [] l s = absurd (omega arith)
metered_bits from n q (e ∷ es) (p ∷ ps) l s = λ i. own (ltb p from) refl i ∷ metered_bits from n q es ps (omega arith) (λ k h. s (suc k) (omega arith)) i
  where
    own : (c : Bool) → ltb p from ≡ c → (meter_by c e p q).bits ≡ e
    own true h = refl
    own false h = sym (s 0 (omega arith) (ltb-false p from h)).0

module _ {cs : List Class} {from : ℕ} {es ps ds layouts : List ℕ} (p : PlanOf cs from es ps ds layouts) where
  abbrev own_entries : List ℕ
  own_entries = filter (leb p.least) (map load p.own)

  abbrev own_places : List ℕ
  own_places = places_where (leb p.least) 0 (map load p.own)

  own_below : (k : ℕ) → k < length own_places → entry own_places k < from
  own_below k h = omega (arith, (where_inside (leb p.least) 0 (map load p.own) k h).1, length-map p.own load, p.from_is)

  pub plan_shared : (k : ℕ) → k < length es → SharedIn from (length cs) (entry es k) (entry ps k)
  plan_shared =
      let n = count_places p.least (map load p.own) 0 in
      rw (p.entries_are, p.places_are)
      (both_append (SharedIn from (length cs)) own_entries own_places (replicate p.shared_count 2) (every_second from p.shared_count) n
      (λ k h l. absurd (omega (arith, own_below k (omega arith))))
      (second_shared from (length cs) p.shared_count from (omega (arith, all_count p))))

  pub plan_total : (q : List Point) → length q ≡ length cs → (r : ℕ) (d : List Bool) → total_of cs q (write_points r cs d) ≡ meters_cost (meters_in from q es ps) d
  plan_total q n r d =
      let shares : List Class = replicate (2 * p.shared_count) (Data 1) in
      let c = all_count p in
      let z : 0 + length p.own ≡ from = omega (arith, p.from_is) in
      let has = subst (λ (l : List Class). (k : ℕ) → k < length l → ClassBits (get_or l k Silent)) p.classes p.carries in
      let e = own_metered from q p.least p.own shares 0 (replicate p.shared_count 2) (every_second from p.shared_count) p.least_is p.own_bits has (omega (arith, p.from_is)) (omega arith)
      (rw z (shared_metered from q p.shared_count from (omega arith) (omega arith))) in
      ap (λ (l : List Class). total_of l q (write_points r l d)) p.classes ∙ e r d ∙ sym (λ i. meters_cost (meters_in from q (p.entries_are i) (p.places_are i)) d)

  pub meters_bits : (q : List Point) → bits_in (meters_in from q es ps) ≡ es
  meters_bits q = metered_bits from (length cs) q es ps places_length_lem plan_shared
    where
      places_length_lem : length ps ≡ length es
      places_length_lem = (plan_placed p (replicate (length cs) 0) (length-replicate (length cs) 0)).places_length

  pub meters_length : (q : List Point) → length (meters_in from q es ps) ≡ length es
  meters_length q = sym (length-map (meters_in from q es ps) (λ (m : Meter). m.bits)) ∙ ap length (meters_bits q)

-- ---- entries in pairs

pairs_in_twos : (ms : List Meter) → pairs_by (meters_in_twos ms) ≡ in_twos (bits_in ms)
pairs_in_twos [] = refl
pairs_in_twos (a ∷ []) = refl
pairs_in_twos (a ∷ b ∷ ms) = ap (λ (l : List Pair). pair a.bits b.bits ∷ l) (pairs_in_twos ms)

pub pairs_metered : (ms : List Meter) → pairs_by (pair_meters ms) ≡ pairs_of (map (λ m. m.bits) ms)
pairs_metered ms =
    pairs_in_twos (meter_in_front (is_one (length ms % 2)) ms) ∙ ap in_twos (front (is_one (length ms % 2)))
    ∙ ap (λ (n : ℕ). in_twos (zero_in_front (is_one (n % 2)) (bits_in ms))) (sym (length-map ms (λ (m : Meter). m.bits)))
  where
    front : (o : Bool) → bits_in (meter_in_front o ms) ≡ zero_in_front o (bits_in ms)
    front true = refl
    front false = refl

drop_take : (x y : ℕ) (d : List Bool) → drop x (take (x + y) d) ≡ take y (drop x d)
drop_take zero y d = let e : 0 + y ≡ y = omega arith in ap (λ (n : ℕ). take n d) e
drop_take (suc x) y [] = ap (drop (suc x)) (take-nil (suc x + y)) ∙ sym (take-nil y)
drop_take (suc x) y (b ∷ d) = ap (λ (n : ℕ). drop (suc x) (take n (b ∷ d))) (suc-add x y) ∙ drop_take x y d

cost_in_twos : (ms : List Meter) (d : List Bool) → length ms % 2 ≡ 0 → sent_cost (meters_in_twos ms) d ≡ meters_cost ms d
unfolding meters_cost sent_cost
cost_in_twos [] d h = refl
cost_in_twos (a ∷ []) d h = absurd (omega arith)
cost_in_twos (a ∷ b ∷ ms) d h =
    let x = a.bits in
    let y = b.bits in
    let e1 = ap a.cost (take-take x (x + y) d (omega arith)) in
    let e2 = ap b.cost (drop_take x y d) in
    let e3 = ap (meters_cost ms) (drop-drop y x d) in
    omega (arith, e1, e2, e3, cost_in_twos ms (drop (x + y) d) (omega arith))

pub cost_metered : (ms : List Meter) (d : List Bool) → sent_cost (pair_meters ms) d ≡ meters_cost ms d
unfolding meters_cost
cost_metered ms d = go (is_one (length ms % 2)) refl
  where
    go : (o : Bool) → is_one (length ms % 2) ≡ o → sent_cost (meters_in_twos (meter_in_front o ms)) d ≡ meters_cost ms d
    go true e = cost_in_twos (no_meter ∷ ms) d (omega (arith, is_one_odd (length ms) e)) ∙ omega arith
    go false e = cost_in_twos ms d (is_one_even (length ms) e)
