-- The loops over a block of places: entries made, tones counted, and points put over points.
use Prim.Native.Nat.{ℕ, ◌+◌, ◌-◌, ◌≤◌, ◌<◌}
use native.Mathlib.Nat.{eq-or-lt_of_le}
use mathlib.Core.Logic.{⊎_elim}
use native.Mathlib.Omega.{arith}
use borrow.Author.Count.{below_more}
use borrow.Author.Tests.{ltb-true, ltb-false}
use mathlib.Core.Bool.{Bool, true, false, true≢false}
use mathlib.Core.List.{List, ◌++◌}
use mathlib.Core.Path.{◌≡◌, refl, sym, ◌∙◌}
use lib.Dec.{ltb}
use lib.IntN.{ℤ, pos}
use lib.ListN.{length, set, take, drop, length-set}
use borrow.Rule.Slice.PartMut.{put_mid, same_len_mid}
use lib.Seq.{get_or-set_same, get_or-set_other, length-take-le, length_front}
use Rattle.constellation.specs.MapByLayout.{MapsTo, MapsByRule}
use Rattle.constellation.specs.Stored.{Stored, is_stored}
use Rattle.constellation.proofs.StoredPoints.{maps_to, ruled_maps}
use Rattle.g9932.specs.Sizes.{entry, point_at}
use Rattle.mapper.specs.Writing.{PutNeeds, PutsPoints}
use Rattle.mapper.proofs.Parts.{part, length_part, part_at, put_before, put_inside}
use Rattle.mapper.specs.Blocks.{PutsByRule, CountsStored, FindNeeds, FindsEntries, LooksUp, PutsStored, TableNeeds, PutsFromTable, BlockEnd, most_places}

-- ---- entries made: each before i as it should be, and the others as they came

pub record Making (P : ℕ → ℕ → Type 0) (before after : List ℕ) (i : ℕ) : Type 0 where
  pub same_length : length after ≡ length before
  pub made : (j : ℕ) → j < i → P j (entry after j)
  pub left : (j : ℕ) → i ≤ j → entry after j ≡ entry before j

pub make_start : (P : ℕ → ℕ → Type 0) (l : List ℕ) → Making P l l 0
make_start P l = record { same_length = refl; made = λ j h. absurd (omega arith); left = λ j h. refl }

module _ {P : ℕ → ℕ → Type 0} {before after : List ℕ} {i : ℕ} (g : Making P before after i) where
  pub make_step : i < length before → (v : ℕ) → P i v → Making P before (set after i v) (i + 1)
  make_step h v here =
      record {
        same_length = length-set after i v ∙ g.same_length;
        made = below_more (λ j. P j (entry (set after i v) j)) i
            (λ j k. rw (get_or-set_other after i j v 0 (λ e. absurd (omega arith))) (g.made j k))
            (rw (get_or-set_same after i v 0 (omega (arith, g.same_length))) here);
        left = λ j k. get_or-set_other after i j v 0 (λ e. absurd (omega arith)) ∙ g.left j (omega arith);
      }

  pub make_end : length before ≤ i → (j : ℕ) → j < length after → P j (entry after j)
  make_end h j l = g.made j (omega (arith, g.same_length))

-- ---- tones counted

pub record Counting (layouts : List ℕ) (n i : ℕ) : Type 0 where
  pub inside : i ≤ length layouts
  pub most : n ≤ i
  pub all : n ≡ i → (j : ℕ) → j < i → is_stored (entry layouts j) ≡ true
  pub none : n ≡ 0 → (j : ℕ) → j < i → is_stored (entry layouts j) ≡ false

pub count_start : (layouts : List ℕ) → Counting layouts 0 0
count_start layouts = record { inside = omega arith; most = omega arith; all = λ e j h. absurd (omega arith); none = λ e j h. absurd (omega arith) }

module _ {layouts : List ℕ} {n i : ℕ} (g : Counting layouts n i) where
  pub count_one : i < length layouts → is_stored (entry layouts i) ≡ true → Counting layouts (n + 1) (i + 1)
  count_one h e =
      record {
        inside = omega arith;
        most = omega (arith, g.most);
        all = λ f. below_more (λ j. is_stored (entry layouts j) ≡ true) i (g.all (omega arith)) e;
        none = λ f. absurd (omega arith);
      }

  pub count_none : i < length layouts → is_stored (entry layouts i) ≡ false → Counting layouts (n + 0) (i + 1)
  count_none h e =
      record {
        inside = omega arith;
        most = omega (arith, g.most);
        all = λ f. absurd (omega (arith, g.most));
        none = λ f. below_more (λ j. is_stored (entry layouts j) ≡ false) i (g.none (omega arith)) e;
      }

  pub count_end : length layouts ≤ i → CountsStored layouts n
  count_end h =
      record {
        most = omega (arith, g.most, g.inside);
        all = λ e j l. g.all (omega (arith, g.inside)) j (omega arith);
        none = λ e j l. g.none e j (omega arith);
      }

-- ---- a block

pub find_needs : {table layouts labels entries : List ℕ} {xs ys : List ℤ} → TableNeeds table layouts labels entries xs ys → FindNeeds layouts labels entries
find_needs g =
    let n = sym g.entries_length in
    record {
      layouts_length = g.put.layouts_length ∙ n;
      labels_length = g.put.labels_length ∙ n;
      mappable = λ i h. g.put.mappable i (omega arith);
    }

-- the entries that were found, looked up and put
pub from_table : {table layouts labels found entries : List ℕ} {xs ys xs' ys' : List ℤ} → Stored table → length found ≡ length xs' → length entries ≡ length xs'
    → FindsEntries layouts labels found → LooksUp table found entries → PutsStored layouts entries xs ys xs' ys' → PutsFromTable layouts labels xs ys xs' ys'
from_table t m n f l p =
    record {
      points = λ i h ruled.
          rw (p.points i h, l.looked i (omega arith)) (maps_to t (f.found i (omega arith)) ruled);
    }

-- after the rule's loop, which is left out where the table has all n points
pub record Ruled (layouts labels : List ℕ) (n : ℕ) (xs₀ ys₀ xs ys : List ℤ) : Type 0 where
  pub xs_length : length xs ≡ length xs₀
  pub ys_length : length ys ≡ length ys₀
  pub points : n < length xs₀ → PutsByRule layouts labels xs ys

module _ {table layouts labels entries : List ℕ} {n : ℕ} {xs₀ ys₀ xs ys : List ℤ} (g : TableNeeds table layouts labels entries xs₀ ys₀) (r : Ruled layouts labels n xs₀ ys₀ xs ys) where
  pub still_needs : TableNeeds table layouts labels entries xs ys
  still_needs =
      let m = sym r.xs_length in
      record {
        stored = g.stored;
        put =
            record {
              layouts_length = g.put.layouts_length ∙ m;
              labels_length = g.put.labels_length ∙ m;
              ys_length = r.ys_length ∙ g.put.ys_length ∙ m;
              mappable = λ i h. g.put.mappable i (omega (arith, m));
            };
        entries_length = g.entries_length ∙ m;
      }

  module _ (c : CountsStored layouts n) where
    -- the table has no point of the block
    pub none_stored : n ≡ 0 → PutsPoints layouts labels xs ys
    none_stored e =
        record {
          points = λ i h.
              let l : i < length xs₀ = omega (arith, r.xs_length) in
              ruled_maps (c.none e i (omega (arith, g.put.layouts_length))) ((r.points (omega arith)).points i h);
        }

    -- it has all, or those that it does not have are there
    pub some_stored : {xs' ys' : List ℤ} → length xs' ≡ length xs → PutsFromTable layouts labels xs ys xs' ys' → PutsPoints layouts labels xs' ys'
    some_stored m p =
        record {
          points = λ i h.
              let l : i < length xs = omega arith in
              p.points i h (ruled i l);
        }
      where
        ruled : (i : ℕ) → i < length xs → is_stored (entry layouts i) ≡ false → MapsByRule (entry layouts i) (entry labels i) (point_at xs ys i)
        ruled i l e =
            ⊎_elim
            (λ a. absurd (true≢false (sym (c.all a i (omega (arith, r.xs_length, g.put.layouts_length))) ∙ e)))
            (λ b. (r.points (omega (arith, b, g.put.layouts_length))).points i l)
            (eq-or-lt_of_le c.most)

-- ---- the blocks: each place before i has its point

pub record Covered (layouts labels : List ℕ) (xs₀ ys₀ xs ys : List ℤ) (entries : List ℕ) (i : ℕ) : Type 0 where
  pub inside : i ≤ length xs₀
  pub xs_length : length xs ≡ length xs₀
  pub ys_length : length ys ≡ length ys₀
  pub points : (j : ℕ) → j < i → MapsTo (entry layouts j) (entry labels j) (point_at xs ys j)
  pub entries_length : length entries ≡ most_places

pub cover_start : (layouts labels : List ℕ) (xs ys : List ℤ) (entries : List ℕ) → length entries ≡ most_places → Covered layouts labels xs ys xs ys entries 0
cover_start layouts labels xs ys entries n =
    record { inside = omega arith; xs_length = refl; ys_length = refl; points = λ j h. absurd (omega arith); entries_length = n }

module _ {layouts labels : List ℕ} {xs₀ ys₀ xs ys : List ℤ} {entries : List ℕ} {i : ℕ} (g : Covered layouts labels xs₀ ys₀ xs ys entries i) where
  pub cover_to : {j : ℕ} → i ≡ j → Covered layouts labels xs₀ ys₀ xs ys entries j
  cover_to e = rw e at g

  pub cover_end : length xs₀ ≤ i → PutsPoints layouts labels xs ys
  cover_end h = record { points = λ j k. g.points j (omega (arith, g.xs_length)) }

module _ {table layouts labels : List ℕ} {xs₀ ys₀ xs ys : List ℤ} {entries : List ℕ} {i e : ℕ} (s : Stored table) (g : PutNeeds layouts labels xs₀ ys₀)
    (c : Covered layouts labels xs₀ ys₀ xs ys entries i) (b : BlockEnd i (length xs) e) where
  layouts_part : length (part layouts i e) ≡ e - i
  layouts_part = length_part layouts i e (omega (arith, b.inside, c.xs_length, g.layouts_length))

  labels_part : length (part labels i e) ≡ e - i
  labels_part = length_part labels i e (omega (arith, b.inside, c.xs_length, g.labels_length))

  xs_part : length (part xs i e) ≡ e - i
  xs_part = length_part xs i e b.inside

  ys_part : length (part ys i e) ≡ e - i
  ys_part = length_part ys i e (omega (arith, b.inside, c.xs_length, c.ys_length, g.ys_length))

  pub entries_part : length (take (e - i) entries) ≡ e - i
  entries_part = length-take-le (e - i) entries (omega (arith, b.short, c.entries_length))

  pub block_needs : TableNeeds table (part layouts i e) (part labels i e) (take (e - i) entries) (part xs i e) (part ys i e) × (length (part xs i e) ≤ most_places)
  block_needs = (needs, omega (arith, xs_part, b.short))
    where
      needs : TableNeeds table (part layouts i e) (part labels i e) (take (e - i) entries) (part xs i e) (part ys i e)
      needs =
          record {
            stored = s;
            put =
                record {
                  layouts_length = layouts_part ∙ sym xs_part;
                  labels_length = labels_part ∙ sym xs_part;
                  ys_length = ys_part ∙ sym xs_part;
                  mappable = λ j h.
                      let l : j < e - i = omega (arith, xs_part) in
                      rw (part_at layouts i e j 0 l, part_at labels i e j 0 l) (g.mappable (i + j) (omega (arith, b.inside, c.xs_length)));
                };
            entries_length = entries_part ∙ sym xs_part;
          }

  module _ {new_xs new_ys : List ℤ} (new : List ℕ) (m : length new_xs ≡ length (part xs i e)) (n : length new_ys ≡ length (part ys i e)) (k : length new ≡ length (take (e - i) entries))
      (p : PutsPoints (part layouts i e) (part labels i e) new_xs new_ys) where
    pub block_step : Covered layouts labels xs₀ ys₀ (put_mid i (e - i) xs new_xs) (put_mid i (e - i) ys new_ys) (new ++ drop (e - i) entries) e
    block_step =
        record {
          inside = omega (arith, b.inside, c.xs_length);
          xs_length = same_len_mid i (e - i) xs new_xs m ∙ c.xs_length;
          ys_length = same_len_mid i (e - i) ys new_ys n ∙ c.ys_length;
          points = λ j h. by j h (ltb j i) refl;
          entries_length = length_front entries new (e - i) k ∙ c.entries_length;
        }
      where
        to_xs : i ≤ length xs
        to_xs = omega (arith, c.inside, c.xs_length)

        to_ys : i ≤ length ys
        to_ys = omega (arith, c.inside, c.ys_length, g.ys_length)

        put : ℕ → Type 0
        put j = MapsTo (entry layouts j) (entry labels j) (point_at (put_mid i (e - i) xs new_xs) (put_mid i (e - i) ys new_ys) j)

        inside : (j : ℕ) → j < e - i → put (i + j)
        inside j l =
            rw (
              put_inside xs i (e - i) new_xs to_xs j (pos 0) (omega (arith, m, xs_part)),
              put_inside ys i (e - i) new_ys to_ys j (pos 0) (omega (arith, n, ys_part)),
              ← (part_at layouts i e j 0 l),
              ← (part_at labels i e j 0 l),
            )
            (p.points j (omega (arith, m, xs_part)))

        by : (j : ℕ) → j < e → (t : Bool) → ltb j i ≡ t → put j
        by j h true t =
            let l = ltb-true j i t in
            rw (put_before xs i (e - i) new_xs to_xs j (pos 0) l, put_before ys i (e - i) new_ys to_ys j (pos 0) l) (c.points j l)
        by j h false t =
            let l = ltb-false j i t in
            let z : i + (j - i) ≡ j = omega arith in
            rw z at (inside (j - i) (omega arith))
