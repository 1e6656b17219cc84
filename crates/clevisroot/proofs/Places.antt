-- Every place and every L fits the 32 bits of a C answer.
use Rattle.std.specs.Prelude.{Option, None, Some}
use Prim.Native.Nat.{ℕ, zero, suc, ◌≤◌}
use mathlib.Core.Bool.{Bool, true, false, cond}
use mathlib.Core.List.{List, [], ◌∷◌}
use mathlib.Core.Path.{◌≡◌, refl}
use native.Mathlib.Omega.{arith}
use borrow.Author.Tests.{eqb-true, eqb-false}
use lib.Dec.{ltb, eqb}
use lib.IntN.{ℤ}
use lib.ListN.{length, drop, length-map}
use Rattle.g9932.specs.Bits.{or_at, first}
use Rattle.g9932.specs.Sizes.{Tables, entry, most_tones, most_bits, Point, points}
use Rattle.g9932.specs.Refusals.{Verdict, refuse_if, refuse_at, verdict_by, and_then, size_test, list_verdict, mode_verdict, table_verdict}
use Rattle.g9932.specs.Order.{Pair, bits_of, coded_pairs}
use Rattle.g9932.specs.Trellis.{Reading, frame, breaks, after, zero_state, read_pairs, reading_of, obeys_code, last_two, decoded_at, next_of, taken_bits, width}
use Rattle.g9932.specs.Symbol.{classes_of, pairs_in, size_of, gather_bits, reading_in}
use Rattle.g9932.specs.Answers.{break_in, order_verdict, encode_inputs, encode_verdict, places_verdict, points_verdict, read_inputs, read_verdict}
use Rattle.g9932.specs.Nearest.{work_bytes, nearest_inputs, range_verdict, nearest_verdict}
use Rattle.g9932.specs.Clip.{clip_inputs, clip_verdict}
use Rattle.g9932.specs.declared.Mode.{Mode}
use Rattle.g9932.specs.declared.Mode.TheVariants.{Uncoded, Coded}
use Rattle.g9932.specs.declared.TrellisState.{TrellisState}
use Rattle.g9932.proofs.Accepted.{Accepted, accepted_tables, size_facts}
use Rattle.g9932.proofs.Counts.{count_most}
use Rattle.g9932.proofs.Sent.{length_classes}
use Rattle.clevisroot.specs.CAnswers.{Small}

-- ---- a place is found inside what is searched

index : Option ℕ → ℕ
index (Some k) = k
index None = 0

first_inside : (p : ℕ → Bool) (n : ℕ) → index (first p n) ≤ n
unfolding first index
first_inside p zero = omega arith
first_inside p (suc n) = go (first p n) (p n) (first_inside p n)
  where
    go : (f : Option ℕ) (b : Bool) → index f ≤ n → index (or_at f b n) ≤ suc n
    go (Some k) b h = omega arith
    go None true h = omega arith
    go None false h = omega arith

breaks_inside : (ps : List Pair) (s : TrellisState) (d : List Bool) → index (break_in (read_pairs s ps d)) ≤ length ps
unfolding read_pairs index
breaks_inside [] s d = omega arith
breaks_inside (p ∷ ps) s d =
    go (obeys_code (last_two ps) s (decoded_at p d)) (taken_bits (last_two ps) p.x (decoded_at p d)) (read_pairs (next_of s (decoded_at p d)) ps (drop (width p) d))
    (breaks_inside ps (next_of s (decoded_at p d)) (drop (width p) d))
  where
    go : (b : Bool) (x : List Bool) (R : Reading) → index (break_in R) ≤ length ps → index (break_in (cond b (after x R) (breaks 0))) ≤ suc (length ps)
    go true x (frame f) h = omega arith
    go true x (breaks k) h = omega arith
    go false x R h = omega arith

module _ (m : ℕ) where
  place_if : (n : ℕ) (b : Bool) (v : Verdict) → v.place ≤ m → (refuse_if n b v).place ≤ m
  unfolding refuse_if
  place_if n true v h = omega arith
  place_if n false v h = h

  place_at : (n : ℕ) (f : Option ℕ) (v : Verdict) → index f ≤ m → v.place ≤ m → (refuse_at n f v).place ≤ m
  unfolding refuse_at index
  place_at n (Some k) v i h = i
  place_at n None v i h = h

  place_first : (n : ℕ) (p : ℕ → Bool) (l : ℕ) (v : Verdict) → l ≤ m → v.place ≤ m → (refuse_at n (first p l) v).place ≤ m
  place_first n p l v k h = place_at n (first p l) v (omega (arith, first_inside p l)) h

  place_unless : (n : ℕ) (b : Bool) (v : Verdict) → (b ≡ false → v.place ≤ m) → (refuse_if n b v).place ≤ m
  unfolding refuse_if
  place_unless n true v h = omega arith
  place_unless n false v h = h refl

  place_and : (v w : Verdict) → v.place ≤ m → (v.number ≡ 0 → w.place ≤ m) → (and_then v w).place ≤ m
  unfolding and_then
  place_and v w h k = go (eqb v.number 0) refl
    where
      go : (b : Bool) → eqb v.number 0 ≡ b → (verdict_by b w v).place ≤ m
      go true e = k (eqb-true v.number 0 e)
      go false e = h

-- ---- the tables

table_place : (T : Tables) → (table_verdict T).place ≤ most_tones
unfolding table_verdict list_verdict mode_verdict
table_place T =
    let b = T.bits in
    let g = T.gains in
    let t = T.tones in
    place_and most_tones (list_verdict b g t) (mode_verdict T.mode b t)
    (place_unless most_tones 1 (size_test (length b) (length g) (length t)) _ (λ e.
    let s = size_facts (length b) (length g) (length t) e in
    place_first most_tones 2 _ (length t) _ (omega (arith, s.most, s.tones_fit))
    (place_first most_tones 3 _ (length t) _ (omega (arith, s.most, s.tones_fit))
    (place_first most_tones 4 _ (length b) _ s.most
    (place_first most_tones 5 _ (length b) _ s.most
    (place_first most_tones 6 _ (length b) _ s.most
    (omega arith)))))))
    (λ _. place_if most_tones 7 _ _ (place_if most_tones 8 _ _ (omega arith)))

-- ---- every call

size_most_lem : (T : Tables) → (table_verdict T).number ≡ 0 → size_of T ≤ most_bits
size_most_lem T e = (accepted_tables T e).size_most

pub small_table : (T : Tables) → Small (table_verdict T)
small_table T =
    record {
      place_most = table_place T;
      size_most = λ e. let k = accepted_tables T e in rw k.verdict k.size_most;
    }

-- a verdict of the tables, then one that has L where it refuses nothing
small_then : (T : Tables) (w : Verdict) → ((table_verdict T).number ≡ 0 → w.place ≤ most_tones) → (w.number ≡ 0 → w.size ≡ size_of T) → Small (and_then (table_verdict T) w)
unfolding and_then
small_then T w p s =
    record {
      place_most = place_and most_tones (table_verdict T) w (table_place T) p;
      size_most = λ e. go (eqb (table_verdict T).number 0) refl e;
    }
  where
    go : (b : Bool) → eqb (table_verdict T).number 0 ≡ b → (verdict_by b w (table_verdict T)).number ≡ 0 → (verdict_by b w (table_verdict T)).size ≤ most_bits
    go true z e = rw (s e) (size_most_lem T (eqb-true (table_verdict T).number 0 z))
    go false z e = (small_table T).size_most e

size_if : (n : ℕ) (b : Bool) (v : Verdict) (l : ℕ) → (v.number ≡ 0 → v.size ≡ l) → (refuse_if (suc n) b v).number ≡ 0 → (refuse_if (suc n) b v).size ≡ l
unfolding refuse_if
size_if n true v l h e = absurd (omega arith)
size_if n false v l h e = h e

size_at_lem : (n : ℕ) (f : Option ℕ) (v : Verdict) (l : ℕ) → (v.number ≡ 0 → v.size ≡ l) → (refuse_at (suc n) f v).number ≡ 0 → (refuse_at (suc n) f v).size ≡ l
unfolding refuse_at
size_at_lem n (Some k) v l h e = absurd (omega arith)
size_at_lem n None v l h e = h e

size_then : (v w : Verdict) (l : ℕ) → (w.number ≡ 0 → w.size ≡ l) → (and_then v w).number ≡ 0 → (and_then v w).size ≡ l
unfolding and_then
size_then v w l h e = go (eqb v.number 0) refl e
  where
    go : (b : Bool) → eqb v.number 0 ≡ b → (verdict_by b w v).number ≡ 0 → (verdict_by b w v).size ≡ l
    go true z e = h e
    go false z e = absurd (eqb-false v.number 0 z e)

pub small_order : (T : Tables) (a b : ℕ) → Small (order_verdict T a b)
unfolding order_verdict
small_order T a b = small_then T _ (λ _. place_if most_tones 10 _ _ (omega arith)) (size_if 9 _ _ (size_of T) (λ _. refl))

pub small_encode : (T : Tables) (start : ℕ) (f : List ℕ) (r a b : ℕ) → Small (encode_verdict T start f r a b)
unfolding encode_verdict encode_inputs
small_encode T start f r a b =
    small_then T _ (λ _. place_if most_tones 10 _ _ (place_if most_tones 11 _ _ (place_if most_tones 12 _ _ (omega arith))))
    (size_if 9 _ _ (size_of T) (size_if 10 _ _ (size_of T) (size_if 11 _ _ (size_of T) (λ _. refl))))

pairs_most : (T : Tables) → Accepted T → length (pairs_in T) ≤ length T.tones
unfolding coded_pairs
pairs_most T k = go T.mode refl
  where
    go : (m : Mode) → T.mode ≡ m → length (pairs_in T) ≤ length T.tones
    go Uncoded e = rw e (omega arith)
    go Coded e = omega (arith, (k.coded e).pairs_length, count_most (ltb 0) (bits_of T.bits T.tones), length-map T.tones (entry T.bits))

break_inside : (T : Tables) (q : List Point) → index (break_in (reading_in T q)) ≤ length (pairs_in T)
unfolding reading_in reading_of index
break_inside T q = go T.mode
  where
    go : (m : Mode) → index (break_in (reading_of m (pairs_in T) (gather_bits (classes_of T) q))) ≤ length (pairs_in T)
    go Uncoded = omega arith
    go Coded = breaks_inside (pairs_in T) zero_state (gather_bits (classes_of T) q)

pub small_read : (T : Tables) (xs ys : List ℤ) (r start a : ℕ) → Small (read_verdict T xs ys r start a)
unfolding read_verdict read_inputs points_verdict
small_read T xs ys r start a =
    let q = points xs ys in
    let inputs = read_inputs start (size_of T) (length T.tones) (length xs) (length ys) a r in
    small_then T (and_then inputs (points_verdict T q r))
    (λ e.
    let k = accepted_tables T e in
    let n : length T.tones ≤ most_tones = omega (arith, k.tones_most, k.table_most) in
    let l = length_classes T in
    let i = break_inside T q in
    let c = pairs_most T k in
    place_and most_tones inputs (points_verdict T q r)
    (place_if most_tones 10 _ _ (place_if most_tones 11 _ _ (place_if most_tones 12 _ _ (omega arith))))
    (λ _. place_and most_tones (places_verdict (classes_of T) q r) _
    (place_first most_tones 13 _ (length (classes_of T)) _ (omega arith)
    (place_first most_tones 14 _ (length (classes_of T)) _ (omega arith)
    (omega arith)))
    (λ _. place_at most_tones 15 _ _ (omega arith) (omega arith))))
    (size_then inputs (points_verdict T q r) (size_of T)
    (size_then (places_verdict (classes_of T) q r) _ (size_of T)
    (size_at_lem 14 _ _ (size_of T) (λ _. refl))))

-- 23 is found among the NSC places
pub small_nearest : (T : Tables) (xs ys : List ℤ) (r start a w : ℕ) → Small (nearest_verdict T xs ys r start a w)
unfolding nearest_verdict nearest_inputs range_verdict
small_nearest T xs ys r start a w =
    let q = points xs ys in
    let inputs = nearest_inputs start (size_of T) (length T.tones) (work_bytes T) (length xs) (length ys) a w r in
    small_then T (and_then inputs (range_verdict T q))
    (λ e.
    let k = accepted_tables T e in
    let n : length T.tones ≤ most_tones = omega (arith, k.tones_most, k.table_most) in
    place_and most_tones inputs (range_verdict T q)
    (place_if most_tones 10 _ _ (place_if most_tones 11 _ _ (place_if most_tones 12 _ _ (omega arith))))
    (λ _. place_first most_tones 23 _ (length T.tones) _ n (omega arith)))
    (size_then inputs (range_verdict T q) (size_of T)
    (size_at_lem 22 _ _ (size_of T) (λ _. refl)))

-- of the clip check, which tells no L
pub clip_place : (T : Tables) (a b r : ℕ) → (clip_verdict T a b r).place ≤ most_tones
unfolding clip_verdict clip_inputs
clip_place T a b r = place_and most_tones (table_verdict T) _ (table_place T) (λ _. place_if most_tones 10 _ _ (place_if most_tones 12 _ _ (omega arith)))
