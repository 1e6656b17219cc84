-- A block of places, and block after block: the lists have the numbers of the places so far, and the peak is theirs.
use Rattle.std.specs.Prelude.{Option, None}
use Prim.Native.Nat.{ℕ, zero, suc, ◌+◌, ◌-◌, ◌≤◌, ◌<◌}
use native.Mathlib.Omega.{arith}
use borrow.Author.Tests.{ltb-true, ltb-false}
use borrow.Rule.Slice.PartMut.{put_mid, same_len_mid}
use mathlib.Core.Bool.{Bool, true, false}
use mathlib.Core.List.{List, [], ◌∷◌, ◌++◌, map}
use mathlib.Core.Path.{◌≡◌, refl, sym, ap, ◌∙◌}
use lib.Dec.{ltb}
use lib.Ieee.{Float, nan}
use lib.IntN.{ℤ}
use lib.ListN.{length, get_or, take, drop, length-map}
use lib.Seq.{ext_get_or, length-take-le, length_front, take-add, take_all}
use Rattle.constellation.specs.MapByLayout.{Mappable, MapsTo, label, silent}
use Rattle.constellation.specs.Stored.{Stored}
use Rattle.g9932.proofs.Distances.{InRange, point_range}
use Rattle.g9932.proofs.Lists.{map_take}
use Rattle.g9932.proofs.Words.{length_bits}
use Rattle.g9932.specs.Bits.{bits}
use Rattle.g9932.specs.Drive.{size_at, signal_of, x_of, y_of}
use Rattle.g9932.specs.Sizes.{entry, Point, point_at}
use Rattle.g9932.specs.declared.Peak.{Peak}
use Rattle.mapper.specs.Blocks.{most_places, BlockEnd}
use Rattle.mapper.specs.Writing.{PutsPoints}
use Rattle.mapper.proofs.Parts.{part, length_part, part_at, put_before, put_inside}
use Rattle.drive.specs.Numbers.{whole_by, PutNeeds, PutsNumbers}
use Rattle.drive.specs.Peaks.{peak_by, carried, Lists, Carries}
use Rattle.drive.specs.Blocks.{Stand, Drives, BlockNeeds, SymbolNeeds, none_yet, DrivesSymbol}
use Rattle.drive.proofs.Carrying.{carried_append, mapped_at}

-- ---- one block

mapped_range : (s l : ℕ) (p : Point) → Mappable s l → MapsTo s l p → InRange p
mapped_range s l p (label b h k e m) t = rw (t.tone b h k e m) (point_range b (bits b l) k (length_bits b l))
mapped_range s l p (silent e m) t = rw (t.silent e) (omega arith, omega arith)

-- a list that has f of the elements of another, place by place
pub list_is : {A : Type 0} (f : A → Float) (l : List Float) (ws : List A) (d : A) → length l ≡ length ws → ((k : ℕ) → k < length l → get_or l k nan ≡ f (get_or ws k d)) → l ≡ map f ws
list_is f l ws d n e = ext_get_or nan l (map f ws) (n ∙ sym (length-map ws f)) (λ k h. e k h ∙ sym (mapped_at f ws k d nan (omega arith)))

module _ {table layouts labels gains entries : List ℕ} {px₀ py₀ : List ℤ} {xs₀ ys₀ : List Float} {from : ℕ} (g : BlockNeeds table layouts labels gains entries px₀ py₀ xs₀ ys₀ from)
    {px py : List ℤ} (nx : length px ≡ length px₀) (ny : length py ≡ length py₀) (p : PutsPoints layouts labels px py) where
  pub numbers_need : PutNeeds px py gains xs₀ ys₀
  numbers_need =
      record {
        points_x_length = nx ∙ sym g.xs_length;
        points_y_length = ny ∙ g.put.put.ys_length ∙ sym g.xs_length;
        gains_length = g.gains_length ∙ sym g.xs_length;
        ys_length = g.ys_length ∙ sym g.xs_length;
        drivable = λ i h.
            let k : i < length px₀ = omega (arith, g.xs_length) in
            let r = mapped_range (entry layouts i) (entry labels i) (point_at px py i) (g.put.put.mappable i k) (p.points i (omega (arith, nx))) in
            record { gain_most = g.gains_most i (omega (arith, g.gains_length)); x_most = r.0; y_most = r.1 };
      }

  module _ {xs ys : List Float} (mx : length xs ≡ length xs₀) (my : length ys ≡ length ys₀) (q : PutsNumbers px py gains xs ys) where
    pub block_lists : (ws : List (Option Point)) → Stand layouts labels gains ws → Lists ws xs ys
    block_lists ws s =
        let n : length ws ≡ length xs = s.count ∙ g.put.put.layouts_length ∙ sym g.xs_length ∙ sym mx in
        let same : (k : ℕ) → k < length xs → whole_by (entry gains k) (point_at px py k) ≡ get_or ws k None =
        λ k h. s.wholes k (omega arith) (point_at px py k) (p.points k (omega (arith, mx, g.xs_length, nx))) in
        record {
          xs_are = list_is (λ w. x_of (signal_of w)) xs ws None (sym n) (λ k h. q.xs_are k h ∙ ap (λ (w : Option Point). x_of (signal_of w)) (same k h));
          ys_are = list_is (λ w. y_of (signal_of w)) ys ws None (my ∙ g.ys_length ∙ sym g.xs_length ∙ sym mx ∙ sym n)
              (λ k h. let i : k < length xs = omega (arith, mx, my, g.xs_length, g.ys_length) in q.ys_are k i ∙ ap (λ (w : Option Point). y_of (signal_of w)) (same k i));
        }

    pub block_driven : {peak r : Peak} → Carries peak xs ys from r → Drives peak layouts labels gains from xs ys r
    block_driven c = record { lists = block_lists; peak_is = λ m ws e s. c.carried_is m ws e (block_lists ws s) }

-- ---- block after block

pub record DrivenTo (layouts labels gains : List ℕ) (xs₀ xs ys : List Float) (entries : List ℕ) (px py : List ℤ) (peak : Peak) (i : ℕ) : Type 0 where
  pub inside : i ≤ length xs₀
  pub xs_length : length xs ≡ length xs₀
  pub ys_length : length ys ≡ length xs₀
  pub entries_length : length entries ≡ most_places
  pub points_x_length : length px ≡ most_places
  pub points_y_length : length py ≡ most_places
  pub xs_are : (ws : List (Option Point)) → Stand layouts labels gains ws → (j : ℕ) → j < i → get_or xs j nan ≡ x_of (signal_of (get_or ws j None))
  pub ys_are : (ws : List (Option Point)) → Stand layouts labels gains ws → (j : ℕ) → j < i → get_or ys j nan ≡ y_of (signal_of (get_or ws j None))
  pub peak_is : (ws : List (Option Point)) → Stand layouts labels gains ws → peak ≡ peak_by (carried (none_yet (length xs₀)) (take i (map size_at ws)) 0)

map_drop : {A B : Type 0} (f : A → B) (k : ℕ) (l : List A) → map f (drop k l) ≡ drop k (map f l)
map_drop f zero l = refl
map_drop f (suc k) [] = refl
map_drop f (suc k) (a ∷ l) = map_drop f k l

-- the elements so far, and those of a part
parts_meet : {A : Type 0} (f : A → ℕ) (l : List A) (i e : ℕ) → i ≤ e → take e (map f l) ≡ take i (map f l) ++ map f (part l i e)
parts_meet f l i e h =
    let n : i + (e - i) ≡ e = omega arith in
    ap (λ (k : ℕ). take k (map f l)) (sym n)
    ∙ take-add i (e - i) (map f l)
    ∙ ap (λ (s : List ℕ). take i (map f l) ++ s) (ap (take (e - i)) (sym (map_drop f i l)) ∙ sym (map_take f (e - i) (drop i l)))

module _ {table layouts labels gains : List ℕ} {xs₀ ys₀ : List Float} (s : Stored table) (g : SymbolNeeds layouts labels gains xs₀ ys₀)
    {xs ys : List Float} {entries : List ℕ} {px py : List ℤ} {peak : Peak} {i e : ℕ} (c : DrivenTo layouts labels gains xs₀ xs ys entries px py peak i) (b : BlockEnd i (length xs) e) where
  places : e ≤ length xs₀
  places = omega (arith, b.inside, c.xs_length)

  short : e - i ≤ most_places
  short = omega (arith, b.short)

  pub front_entries : length (take (e - i) entries) ≡ e - i
  front_entries = length-take-le (e - i) entries (omega (arith, short, c.entries_length))

  pub front_x : length (take (e - i) px) ≡ e - i
  front_x = length-take-le (e - i) px (omega (arith, short, c.points_x_length))

  pub front_y : length (take (e - i) py) ≡ e - i
  front_y = length-take-le (e - i) py (omega (arith, short, c.points_y_length))

  part_layouts : length (part layouts i e) ≡ e - i
  part_layouts = length_part layouts i e (omega (arith, places, g.layouts_length))

  part_labels : length (part labels i e) ≡ e - i
  part_labels = length_part labels i e (omega (arith, places, g.labels_length))

  part_gains : length (part gains i e) ≡ e - i
  part_gains = length_part gains i e (omega (arith, places, g.gains_length))

  part_xs : length (part xs i e) ≡ e - i
  part_xs = length_part xs i e b.inside

  part_ys : length (part ys i e) ≡ e - i
  part_ys = length_part ys i e (omega (arith, places, c.ys_length))

  pub block_needs : BlockNeeds table (part layouts i e) (part labels i e) (part gains i e) (take (e - i) entries) (take (e - i) px) (take (e - i) py) (part xs i e) (part ys i e) i
  block_needs =
      record {
        put =
            record {
              stored = s;
              put =
                  record {
                    layouts_length = part_layouts ∙ sym front_x;
                    labels_length = part_labels ∙ sym front_x;
                    ys_length = front_y ∙ sym front_x;
                    mappable = λ j h.
                        let l : j < e - i = omega (arith, front_x) in
                        rw (part_at layouts i e j 0 l, part_at labels i e j 0 l) (g.mappable (i + j) (omega (arith, places)));
                  };
              entries_length = front_entries ∙ sym front_x;
            };
        short = omega (arith, front_x, short);
        xs_length = part_xs ∙ sym front_x;
        ys_length = part_ys ∙ sym front_x;
        gains_length = part_gains ∙ sym front_x;
        gains_most = λ j h.
            let l : j < e - i = omega (arith, part_gains) in
            rw (part_at gains i e j 0 l) (g.gains_most (i + j) (omega (arith, places, g.gains_length)));
        places_most = omega (arith, part_xs, places, b.after, g.places_most);
      }

  part_stands : (ws : List (Option Point)) → Stand layouts labels gains ws → Stand (part layouts i e) (part labels i e) (part gains i e) (part ws i e)
  part_stands ws w =
      let n : length (part ws i e) ≡ e - i = length_part ws i e (omega (arith, places, w.count, g.layouts_length)) in
      record {
        count = n ∙ sym part_layouts;
        wholes = λ j h.
            let l : j < e - i = omega arith in
            rw (part_at layouts i e j 0 l, part_at labels i e j 0 l, part_at gains i e j 0 l, part_at ws i e j None l) (w.wholes (i + j) (omega (arith, places, w.count, g.layouts_length)));
      }

  -- of either list: what stands before the block, and what the block has
  over : (f : Option Point → Float) (l new : List Float) → length l ≡ length xs₀ → length new ≡ e - i → (ws : List (Option Point)) → Stand layouts labels gains ws
      → ((j : ℕ) → j < i → get_or l j nan ≡ f (get_or ws j None)) → new ≡ map f (part ws i e) → (j : ℕ) → j < e → get_or (put_mid i (e - i) l new) j nan ≡ f (get_or ws j None)
  over f l new nl nn ws w before is j h = by (ltb j i) refl
    where
      to : i ≤ length l
      to = omega (arith, c.inside)

      by : (t : Bool) → ltb j i ≡ t → get_or (put_mid i (e - i) l new) j nan ≡ f (get_or ws j None)
      by true t = put_before l i (e - i) new to j nan (ltb-true j i t) ∙ before j (ltb-true j i t)
      by false t =
          let k = ltb-false j i t in
          let z : i + (j - i) ≡ j = omega arith in
          let m : j - i < e - i = omega arith in
          let n : length (part ws i e) ≡ e - i = length_part ws i e (omega (arith, places, w.count, g.layouts_length)) in
          ap (λ (n : ℕ). get_or (put_mid i (e - i) l new) n nan) (sym z)
          ∙ put_inside l i (e - i) new to (j - i) nan (omega (arith, nn))
          ∙ ap (λ (x : List Float). get_or x (j - i) nan) is
          ∙ mapped_at f (part ws i e) (j - i) None nan (omega arith)
          ∙ ap f (part_at ws i e (j - i) None m ∙ ap (λ (n : ℕ). get_or ws n None) z)

  module _ {new_xs_lem new_ys_lem : List Float} (new_entries : List ℕ) (new_px new_py : List ℤ) {r : Peak} (mx : length new_xs_lem ≡ length (part xs i e)) (my : length new_ys_lem ≡ length (part ys i e))
      (ke : length new_entries ≡ length (take (e - i) entries)) (kx : length new_px ≡ length (take (e - i) px)) (ky : length new_py ≡ length (take (e - i) py))
      (d : Drives peak (part layouts i e) (part labels i e) (part gains i e) i new_xs_lem new_ys_lem r) where
    pub block_step : DrivenTo layouts labels gains xs₀ (put_mid i (e - i) xs new_xs_lem) (put_mid i (e - i) ys new_ys_lem)
        (new_entries ++ drop (e - i) entries) (new_px ++ drop (e - i) px) (new_py ++ drop (e - i) py) r e
    block_step =
        record {
          inside = places;
          xs_length = same_len_mid i (e - i) xs new_xs_lem mx ∙ c.xs_length;
          ys_length = same_len_mid i (e - i) ys new_ys_lem my ∙ c.ys_length;
          entries_length = length_front entries new_entries (e - i) ke ∙ c.entries_length;
          points_x_length = length_front px new_px (e - i) kx ∙ c.points_x_length;
          points_y_length = length_front py new_py (e - i) ky ∙ c.points_y_length;
          xs_are = λ ws w. over (λ w. x_of (signal_of w)) xs new_xs_lem c.xs_length (mx ∙ part_xs) ws w (c.xs_are ws w) (d.lists (part ws i e) (part_stands ws w)).xs_are;
          ys_are = λ ws w. over (λ w. y_of (signal_of w)) ys new_ys_lem c.ys_length (my ∙ part_ys) ws w (c.ys_are ws w) (d.lists (part ws i e) (part_stands ws w)).ys_are;
          peak_is = λ ws w.
              let n : length (take i (map size_at ws)) ≡ i = length-take-le i (map size_at ws) (omega (arith, c.inside, w.count, g.layouts_length, length-map ws size_at)) in
              let z : i ≡ 0 + length (take i (map size_at ws)) = omega arith in
              d.peak_is _ (part ws i e) (c.peak_is ws w) (part_stands ws w)
              ∙ ap peak_by
              (ap (carried (carried (none_yet (length xs₀)) (take i (map size_at ws)) 0) (map size_at (part ws i e))) z
              ∙ sym (carried_append (none_yet (length xs₀)) (take i (map size_at ws)) (map size_at (part ws i e)) 0)
              ∙ ap (λ (l : List ℕ). carried (none_yet (length xs₀)) l 0) (sym (parts_meet size_at ws i e (omega (arith, b.after)))));
        }

pub driven_to : {layouts labels gains : List ℕ} {xs₀ xs ys : List Float} {entries : List ℕ} {px py : List ℤ} {peak : Peak} {i j : ℕ} → i ≡ j
    → DrivenTo layouts labels gains xs₀ xs ys entries px py peak i → DrivenTo layouts labels gains xs₀ xs ys entries px py peak j
driven_to e c = rw e at c

module _ {layouts labels gains : List ℕ} {xs₀ ys₀ : List Float} (g : SymbolNeeds layouts labels gains xs₀ ys₀) where
  pub driven_start : {entries : List ℕ} {px py : List ℤ} {peak : Peak} → length entries ≡ most_places → length px ≡ most_places → length py ≡ most_places → peak ≡ peak_by (none_yet (length xs₀))
      → DrivenTo layouts labels gains xs₀ xs₀ ys₀ entries px py peak 0
  unfolding carried
  driven_start ke kx ky p =
      record {
        inside = omega arith;
        xs_length = refl;
        ys_length = g.ys_length;
        entries_length = ke;
        points_x_length = kx;
        points_y_length = ky;
        xs_are = λ ws w j h. absurd (omega arith);
        ys_are = λ ws w j h. absurd (omega arith);
        peak_is = λ ws w. p;
      }

  pub driven_end : {xs ys : List Float} {entries : List ℕ} {px py : List ℤ} {peak : Peak} {i : ℕ} → DrivenTo layouts labels gains xs₀ xs ys entries px py peak i → length xs ≤ i
      → DrivesSymbol layouts labels gains xs ys peak
  driven_end {xs = xs} {ys = ys} {i = i} c h =
      record {
        lists = λ ws w.
            record {
              xs_are = list_is (λ w. x_of (signal_of w)) xs ws None (c.xs_length ∙ sym g.layouts_length ∙ sym w.count) (λ k l. c.xs_are ws w k (omega arith));
              ys_are = list_is (λ w. y_of (signal_of w)) ys ws None (c.ys_length ∙ sym g.layouts_length ∙ sym w.count) (λ k l. c.ys_are ws w k (omega (arith, c.xs_length, c.ys_length)));
            };
        peak_is = λ ws w.
            let n : length ws ≡ length xs₀ = w.count ∙ g.layouts_length in
            c.peak_is ws w
            ∙ ap (λ (l : List ℕ). peak_by (carried (none_yet (length xs₀)) l 0)) (take_all i (map size_at ws) (omega (arith, length-map ws size_at, c.xs_length)))
            ∙ ap (λ (k : ℕ). peak_by (carried (none_yet k) (map size_at ws) 0)) (sym n);
      }
