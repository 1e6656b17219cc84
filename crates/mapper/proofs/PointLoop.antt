-- Points by place: each place before i has its point, or its label, or none.
use Rattle.std.specs.Prelude.{Option, None, Some}
use Rattle.std.specs.Option.{is_some, unwrap_or}
use Prim.Native.Nat.{ℕ, ◌+◌, ◌≤◌, ◌<◌}
use native.Mathlib.Omega.{arith}
use borrow.Author.Count.{below_more}
use mathlib.Core.Bool.{Bool, true, false, ◌&&◌, and-eq-true_iff, true≢false, false≢true}
use mathlib.Core.Logic.{inl, inr}
use mathlib.Core.List.{List}
use mathlib.Core.Path.{◌≡◌, refl, ◌∙◌, sym, ap, subst}
use lib.IntN.{ℤ, pos}
use lib.ListN.{length, set, length-set, get_or}
use lib.Seq.{get_or-set_same, get_or-set_other}
use Rattle.constellation.proofs.DemapByLayout.{on_or_off}
use Rattle.constellation.specs.DemapByLayout.{Demaps}
use Rattle.g9932.specs.Sizes.{entry, Point, point, point_at}
use Rattle.mapper.proofs.Parts.{part, length_part, part_at}
use Rattle.mapper.specs.Reading.{DemapNeeds, LabelIs, Off, Told, DemapsAll, OffAt, DemapsPoints, OnOrOff, DemapAllNeeds}

-- ---- points put: each place before i has one as it should, and the others are as they came

pub record Putting (P : ℕ → Point → Type 0) (xs₀ ys₀ xs ys : List ℤ) (i : ℕ) : Type 0 where
  pub xs_length : length xs ≡ length xs₀
  pub ys_length : length ys ≡ length xs₀
  pub so_far : (j : ℕ) → j < i → P j (point_at xs ys j)
  pub left : (j : ℕ) → i ≤ j → point_at xs ys j ≡ point_at xs₀ ys₀ j

pub put_start : (P : ℕ → Point → Type 0) (xs ys : List ℤ) → length ys ≡ length xs → Putting P xs ys xs ys 0
put_start P xs ys h = record { xs_length = refl; ys_length = h; so_far = λ j l. absurd (omega arith); left = λ j l. refl }

module _ {P : ℕ → Point → Type 0} {xs₀ ys₀ xs ys : List ℤ} {i : ℕ} (g : Putting P xs₀ ys₀ xs ys i) where
  pub put_end : length xs₀ ≤ i → (j : ℕ) → j < length xs → P j (point_at xs ys j)
  put_end h j l = g.so_far j (omega (arith, g.xs_length))

  pub put_step : i < length xs₀ → (x y : ℤ) → P i (point x y) → Putting P xs₀ ys₀ (set xs i x) (set ys i y) (i + 1)
  put_step h x y here =
      record {
        xs_length = length-set xs i x ∙ g.xs_length;
        ys_length = length-set ys i y ∙ g.ys_length;
        so_far = below_more (λ j. P j (point_at (set xs i x) (set ys i y) j)) i
            (λ j k. rw (other j (λ e. absurd (omega arith))) (g.so_far j k))
            (rw (get_or-set_same xs i x (pos 0) (omega (arith, g.xs_length)), get_or-set_same ys i y (pos 0) (omega (arith, g.ys_length))) here);
        left = λ j k. other j (λ e. absurd (omega arith)) ∙ g.left j (omega arith);
      }
    where
      other : (j : ℕ) → (j ≡ i → ⊥) → point_at (set xs i x) (set ys i y) j ≡ point_at xs ys j
      other j n = rw (get_or-set_other xs i j x (pos 0) n, get_or-set_other ys i j y (pos 0) n)

-- ---- points demapped

pub record Demapping (layouts : List ℕ) (xs ys : List ℤ) (labels : List ℕ) (all : Bool) (i : ℕ) : Type 0 where
  pub inside : i ≤ length xs
  pub labels_length : length labels ≡ length xs
  pub each : (j : ℕ) → j < i → Told layouts xs ys labels j
  pub every : all ≡ true → (j : ℕ) → j < i → LabelIs (entry layouts j) (point_at xs ys j) (entry labels j)
  pub some : all ≡ false → (j : ℕ) × (j < i) × Off (entry layouts j) (point_at xs ys j)

pub demap_start : (layouts : List ℕ) (xs ys : List ℤ) (labels : List ℕ) → length labels ≡ length xs → Demapping layouts xs ys labels true 0
demap_start layouts xs ys labels n =
    record { inside = omega arith; labels_length = n; each = λ j h. absurd (omega arith); every = λ e j h. absurd (omega arith); some = λ e. absurd (true≢false e) }

module _ {layouts : List ℕ} {xs ys : List ℤ} {labels : List ℕ} {all : Bool} {i : ℕ} (g : Demapping layouts xs ys labels all i) where
  pub demap_end : length xs ≤ i → DemapsAll layouts xs ys labels all
  demap_end h =
      record {
        each = λ j k. g.each j (omega arith);
        every = λ e j k. g.every e j (omega arith);
        some = λ e. let w = g.some e in (w.0, omega (arith, w.1, g.inside), w.2);
        labels_length = g.labels_length;
      }

  pub demap_step : i < length xs → (r : Option ℕ) → Demaps (entry layouts i) (point_at xs ys i) r
      → (l : ℕ) → l ≡ unwrap_or r 0 → (on : Bool) → on ≡ is_some r → Demapping layouts xs ys (set labels i l) (all && on) (i + 1)
  demap_step h r seen l is on some_is =
      record {
        inside = omega arith;
        labels_length = length-set labels i l ∙ g.labels_length;
        each = below_more tells i
            (λ j k. rw (get_or-set_other labels i j l 0 (λ e. absurd (omega arith))) (g.each j k))
            (told r refl on some_is);
        every = λ e. let both = (and-eq-true_iff all on).0 e in below_more has i (before both.0) (here r refl (sym some_is ∙ both.1));
        some = some all on refl refl;
      }
    where
      tells : ℕ → Type 0
      tells j = Told layouts xs ys (set labels i l) j

      has : ℕ → Type 0
      has j = LabelIs (entry layouts j) (point_at xs ys j) (entry (set labels i l) j)

      here : (o : Option ℕ) → r ≡ o → is_some r ≡ true → has i
      here (Some k) e s =
          let n : l ≡ k = is ∙ ap (λ (o : Option ℕ). unwrap_or o 0) e in
          rw (get_or-set_same labels i l 0 (omega (arith, g.labels_length)), n) (subst (Demaps (entry layouts i) (point_at xs ys i)) e seen)
      here None e s = absurd (false≢true (sym (ap is_some e) ∙ s))

      told : (o : Option ℕ) → r ≡ o → (b : Bool) → b ≡ is_some r → tells i
      told (Some k) e b s = inl (here (Some k) e (ap is_some e))
      told None e b s = inr (subst (Demaps (entry layouts i) (point_at xs ys i)) e seen)

      before : all ≡ true → (j : ℕ) → j < i → has j
      before e j k = rw (get_or-set_other labels i j l 0 (λ e. absurd (omega arith))) (g.every e j k)

      off : (o : Option ℕ) → r ≡ o → is_some r ≡ false → Off (entry layouts i) (point_at xs ys i)
      off (Some k) e s = absurd (true≢false (sym (ap is_some e) ∙ s))
      off None e s = subst (Demaps (entry layouts i) (point_at xs ys i)) e seen

      some : (a o : Bool) → all ≡ a → on ≡ o → a && o ≡ false → (j : ℕ) × (j < i + 1) × Off (entry layouts j) (point_at xs ys j)
      some false o p q e = let w = g.some p in (w.0, omega (arith, w.1), w.2)
      some true false p q e = (i, omega arith, off r refl (sym some_is ∙ q))
      some true true p q e = absurd (true≢false e)

module _ {layouts : List ℕ} {xs ys : List ℤ} {labels : List ℕ} {all : Bool} (g : DemapsAll layouts xs ys labels all) where
  pub all_on : all ≡ true → DemapsPoints layouts xs ys labels None
  all_on e = record { off = λ i h. (entry labels i, g.every e i h); labelled = λ _. g.every e; labels_length = g.labels_length }

  -- where a point is off, the search finds one
  pub some_off : DemapNeeds layouts xs ys → all ≡ false → (r : Option ℕ) → OffAt layouts xs ys r → DemapsPoints layouts xs ys labels r
  some_off needs e r off = record { off = off; labelled = λ z. absurd (none (rw z at off)); labels_length = g.labels_length }
    where
      none : OffAt layouts xs ys None → ⊥
      none on =
          let w = g.some e in
          let i = w.0 in
          let o = on i w.1 in
          on_or_off (entry layouts i) (point_at xs ys i) o.0 (needs.of_tones i w.1) o.1 w.2

-- ---- one place

abbrev one : {A : Type 0} → List A → ℕ → List A
one l i = part l i (i + 1)

length_one : {A : Type 0} (l : List A) (i : ℕ) → i < length l → length (one l i) ≡ 1
length_one l i h = omega (arith, length_part l i (i + 1) (omega arith))

one_at : {A : Type 0} (l : List A) (i : ℕ) (d : A) → get_or (one l i) 0 d ≡ get_or l i d
one_at l i d = let z : i + 0 ≡ i = omega arith in rw z at (part_at l i (i + 1) 0 d (omega arith))

module _ (layouts : List ℕ) (xs ys : List ℤ) (i : ℕ) (needs : DemapNeeds layouts xs ys) (h : i < length xs) where
  one_point : point_at (one xs i) (one ys i) 0 ≡ point_at xs ys i
  one_point = rw (one_at xs i (pos 0), one_at ys i (pos 0))

  pub one_needs : (labels : List ℕ) → length labels ≡ 1 → DemapAllNeeds (one layouts i) (one xs i) (one ys i) labels
  one_needs labels n =
      let x = length_one xs i h in
      let y = length_one ys i (omega (arith, needs.ys_length)) in
      let l = length_one layouts i (omega (arith, needs.layouts_length)) in
      record {
        points =
            record {
              layouts_length = l ∙ sym x;
              ys_length = y ∙ sym x;
              of_tones = λ k j.
                  let z : k ≡ 0 = omega (arith, x) in
                  rw (z, one_at layouts i 0) (needs.of_tones i h);
            };
        labels_length = n ∙ sym x;
      }

  pub one_found : (labels : List ℕ) (r : Bool) → DemapsAll (one layouts i) (one xs i) (one ys i) labels r → OnOrOff (entry layouts i) (point_at xs ys i) r
  one_found labels true d = (entry labels 0, rw (one_at layouts i 0, one_point) at (d.every refl 0 (omega (arith, length_one xs i h))))
  one_found labels false d =
      let s = d.some refl in
      let z : s.0 ≡ 0 = omega (arith, s.1, length_one xs i h) in
      rw (z, one_at layouts i 0, one_point) at s.2
