-- Filing tone by tone: what a tone adds to the lists, and what a shared entry adds.
use mathlib.Core.Bool.{Bool, true, false}
use mathlib.Core.List.{List, [], ◌∷◌, ◌++◌, map, map-append, append-nil, append_assoc}
use mathlib.Core.Path.{◌≡◌, refl, sym, ap, ◌∙◌}
use Prim.Native.Nat.{ℕ, zero, suc, ◌+◌, ◌*◌, ◌≤◌, ◌<◌}
use lib.Dec.{ltb, leb}
use lib.ListN.{length, take, set, replicate, length-set, length-append, length-map}
use lib.Seq.{take-suc, take-suc-set}
use borrow.Author.Tests.{ltb-true}
use native.Mathlib.Numerals.{add-one}
use native.Mathlib.Omega.{arith}
use Rattle.constellation.specs.Layouts.{class_layout}
use Rattle.g9932.proofs.Counts.{filter_append}
use Rattle.g9932.proofs.Words.{weight_le}
use Rattle.g9932.specs.Bits.{weight}
use Rattle.g9932.specs.Order.{cons_if, filter}
use Rattle.g9932.specs.Sizes.{entry, tone_of, class_by}
use Rattle.g9932.specs.Symbol.{load, class_at, classes_by}
use Rattle.g9932.specs.declared.Class.TheVariants.{Data, Monitored, Silent}
use Rattle.g9932.specs.declared.Class.{Class}
use Rattle.plan.specs.Plan.{ClassBits, is_drawing, is_placed, places_where, every_second, FilesEmpty, FilesTone, Filing, Shares, room}
use Rattle.plan.specs.declared.Room.{Room}
use Rattle.plan.specs.declared.filing.Cursors.{Cursors}

-- the class of a tone, by its bits
pub class_bits : (b g : ℕ) → b ≤ 15 → ClassBits (tone_of b g).class
class_bits b g h = go (ltb 0 b) (ltb 0 g) refl
  where
    go : (p q : Bool) → ltb 0 b ≡ p → ClassBits (class_by p (Data b) (class_by q Monitored Silent))
    go true q e = (ltb-true 0 b e, h)
    go false true e = tt
    go false false e = tt

-- ---- lists in two parts

cons_append : (b : Bool) (x : ℕ) (l m n : List ℕ) → l ≡ m ++ n → cons_if b x l ≡ cons_if b x m ++ n
cons_append true x l m n e = ap (λ (z : List ℕ). x ∷ z) e
cons_append false x l m n e = e

pub places_append : {A : Type 0} (p : A → Bool) (i : ℕ) (l m : List A) → places_where p i (l ++ m) ≡ places_where p i l ++ places_where p (i + length l) m
places_append p i [] m = let e : i ≡ i + 0 = omega arith in ap (λ (n : ℕ). places_where p n m) e
places_append p i (a ∷ l) m =
    let e : suc i + length l ≡ i + suc (length l) = omega arith in
    cons_append (p a) i (places_where p (suc i) (l ++ m)) (places_where p (suc i) l) (places_where p (suc i + length l) m) (places_append p (suc i) l m) ∙ rw e

-- ---- a list that is filled up to a cursor

more : (l : List ℕ) (e x : ℕ) → e < length l → take (e + 1) (set l e x) ≡ take e l ++ (x ∷ [])
more l e x h = rw add-one (take-suc-set l e x h)

no_more : (l : List ℕ) (e : ℕ) → take e l ≡ take e l ++ []
no_more l e = sym (append-nil (take e l))

-- ---- what one tone adds

-- one that draws has no data, and a place of its own
draws_placed : (least : ℕ) (c : Class) → is_drawing c ≡ true → (load c ≡ 0) × (is_placed least c ≡ true)
draws_placed least (Data b) e = let z : ◌≡◌ {A = ℕ} 0 1 = cc in absurd (omega arith)
draws_placed least Monitored e = (refl, refl)
draws_placed least Silent e = (refl, refl)

module _ (least : ℕ) (at : Cursors) (all : Room) where
  pub files_data : (b x : ℕ) → leb least b ≡ true → x ≡ class_layout (Data b) → at.place.0 < length all.layouts → at.entry < length all.entries → at.entry < length all.places
      → FilesTone least (Data b) at all (record { place = record { 0 = at.place.0 + 1 }; entry = at.entry + 1; drawing = at.drawing })
      (room (set all.layouts at.place.0 x) (set all.entries at.entry b) (set all.places at.entry at.place.0) all.drawing)
  unfolding weight
  files_data b x own is lt et pt =
      record {
        place_is = rw own;
        entry_is = rw own;
        drawing_is = omega arith;
        layouts_are = rw (own, is) (more all.layouts at.place.0 (class_layout (Data b)) lt);
        entries_are = rw own (more all.entries at.entry b et);
        places_are = rw own (more all.places at.entry at.place.0 pt);
        drawing_are = no_more all.drawing at.drawing;
      }

  -- a tone that shares
  pub files_none : (b : ℕ) → leb least b ≡ false → FilesTone least (Data b) at all at all
  unfolding weight
  files_none b not =
      record {
        place_is = rw not (omega arith);
        entry_is = rw not (omega arith);
        drawing_is = omega arith;
        layouts_are = rw not (no_more all.layouts at.place.0);
        entries_are = rw not (no_more all.entries at.entry);
        places_are = rw not (no_more all.places at.entry);
        drawing_are = no_more all.drawing at.drawing;
      }

  -- a tone without data
  pub files_empty : (c : Class) → is_drawing c ≡ true → leb least 0 ≡ false → (x : ℕ) → x ≡ class_layout c → at.place.0 < length all.layouts → at.drawing < length all.drawing
      → {r : Cursors} {after : Room} → FilesEmpty x at all r after → FilesTone least c at all r after
  unfolding weight
  files_empty c empty not x is lt dt f =
      let z = draws_placed least c empty in
      record {
        place_is = rw z.1 f.place_is;
        entry_is = rw (z.0, not) (f.entry_is ∙ omega arith);
        drawing_is = rw empty f.drawing_is;
        layouts_are = rw (z.1, f.place_is, f.room_is, is) (more all.layouts at.place.0 (class_layout c) lt);
        entries_are = rw (z.0, not, f.entry_is, f.room_is) (no_more all.entries at.entry);
        places_are = rw (z.0, not, f.entry_is, f.room_is) (no_more all.places at.entry);
        drawing_are = rw (empty, f.drawing_is, f.room_is) (more all.drawing at.drawing at.place.0 dt);
      }

-- ---- a tone more

module _ (least : ℕ) (cs : List Class) {at r : Cursors} {before after : Room} (c : Class)
    (f : Filing least cs at before)
    (w : FilesTone least c at before r after) where
  -- at a place of its own
  placed : is_placed least c ≡ true → Filing least (cs ++ (c ∷ [])) r after
  unfolding weight
  placed here =
      let one : r.place.0 ≡ at.place.0 + 1 = w.place_is ∙ ap (λ (b : Bool). at.place.0 + weight b) here in
      let n : 0 + length (map load cs) ≡ at.place.0 = omega (arith, length-map cs load, f.place_is) in
      let m : 0 + length cs ≡ at.place.0 = omega (arith, f.place_is) in
      let z : map load (cs ++ (c ∷ [])) ≡ map load cs ++ (load c ∷ []) = map-append load cs (c ∷ []) in
      record {
        place_is = sym (length-append cs (c ∷ []) ∙ omega (arith, f.place_is));
        layouts_are = w.layouts_are ∙ rw here (ap (λ (l : List ℕ). l ++ (class_layout c ∷ [])) f.layouts_are) ∙ sym (map-append class_layout cs (c ∷ []));
        entries_are =
            w.entries_are
            ∙ ap (λ (l : List ℕ). l ++ cons_if (leb least (load c)) (load c) []) f.entries_are
            ∙ sym (ap (filter (leb least)) z ∙ filter_append (leb least) (map load cs) (load c ∷ []));
        places_are =
            w.places_are
            ∙ ap (λ (l : List ℕ). l ++ cons_if (leb least (load c)) at.place.0 []) f.places_are
            ∙ sym (ap (places_where (leb least) 0) z ∙ places_append (leb least) 0 (map load cs) (load c ∷ []) ∙ rw n);
        drawing_are =
            w.drawing_are
            ∙ ap (λ (l : List ℕ). l ++ cons_if (is_drawing c) at.place.0 []) f.drawing_are
            ∙ sym (places_append is_drawing 0 cs (c ∷ []) ∙ rw m);
        entry_most = omega (arith, f.entry_most, w.entry_is, weight_le (leb least (load c)));
        drawing_most = omega (arith, f.drawing_most, w.drawing_is, weight_le (is_drawing c));
      }

  -- among those that share: it adds nothing
  passed : (c : Class) → is_placed least c ≡ false → (leb least (load c) ≡ false) × (is_drawing c ≡ false)
  passed (Data b) e = (e, refl)
  passed Monitored e = let z : ◌≡◌ {A = ℕ} 0 1 = cc in absurd (omega arith)
  passed Silent e = let z : ◌≡◌ {A = ℕ} 0 1 = cc in absurd (omega arith)

  skipped : is_placed least c ≡ false → Filing least cs r after
  unfolding weight
  skipped not =
      let q = passed c not in
      let a : r.place.0 ≡ at.place.0 + 0 = w.place_is ∙ ap (λ (b : Bool). at.place.0 + weight b) not in
      let b : r.entry ≡ at.entry + 0 = w.entry_is ∙ ap (λ (b : Bool). at.entry + weight b) q.0 in
      let d : r.drawing ≡ at.drawing + 0 = w.drawing_is ∙ ap (λ (b : Bool). at.drawing + weight b) q.1 in
      record {
        place_is = omega (arith, f.place_is);
        layouts_are = w.layouts_are ∙ rw not (append-nil (take at.place.0 before.layouts)) ∙ f.layouts_are;
        entries_are = w.entries_are ∙ rw q.0 (append-nil (take at.entry before.entries)) ∙ f.entries_are;
        places_are = w.places_are ∙ rw q.0 (append-nil (take at.entry before.places)) ∙ f.places_are;
        drawing_are = w.drawing_are ∙ rw q.1 (append-nil (take at.drawing before.drawing)) ∙ f.drawing_are;
        entry_most = omega (arith, f.entry_most);
        drawing_most = omega (arith, f.drawing_most);
      }

  pub tone_more : Filing least (cs ++ filter (is_placed least) (c ∷ [])) r after
  tone_more = go (is_placed least c) refl
    where
      go : (b : Bool) → is_placed least c ≡ b → Filing least (cs ++ cons_if b c []) r after
      go true e = placed e
      go false e = rw (append-nil cs) (skipped e)

  -- each tone adds at most one place
  pub one_place : r.place.0 ≤ at.place.0 + 1
  one_place = omega (arith, w.place_is, weight_le (is_placed least c))

-- the tones before place i of t, and the one there
pub classes_more : (least : ℕ) (b g t : List ℕ) (i : ℕ) → i < length t
    → filter (is_placed least) (classes_by b g (take (i + 1) t))
    ≡ filter (is_placed least) (classes_by b g (take i t)) ++ filter (is_placed least) (class_at b g (entry t i) ∷ [])
classes_more least b g t i h =
    let k : List ℕ = entry t i ∷ [] in
    ap (λ (n : ℕ). filter (is_placed least) (classes_by b g (take n t))) (add-one i)
    ∙ ap (λ (l : List ℕ). filter (is_placed least) (classes_by b g l)) (take-suc t i 0 h)
    ∙ ap (filter (is_placed least)) (map-append (class_at b g) (take i t) k)
    ∙ filter_append (is_placed least) (classes_by b g (take i t)) (classes_by b g k)

-- ---- a shared entry more

replicate_more : (n x : ℕ) → replicate n x ++ (x ∷ []) ≡ replicate (suc n) x
replicate_more zero x = refl
replicate_more (suc n) x = ap (λ (l : List ℕ). x ∷ l) (replicate_more n x)

second_more : (p h : ℕ) → every_second p h ++ ((p + 2 * h) ∷ []) ≡ every_second p (suc h)
second_more p zero = let e : p + 0 ≡ p = omega arith in ap (λ (n : ℕ). n ∷ []) e
second_more p (suc h) =
    let e : p + 2 * suc h ≡ suc (suc p) + 2 * h = omega arith in
    ap (λ (l : List ℕ). p ∷ l) (ap (λ (n : ℕ). every_second (suc (suc p)) h ++ (n ∷ [])) e ∙ second_more (suc (suc p)) h)

module _ {layout from h at : ℕ} {before all : Room} (s : Shares layout from h at before all) where
  pub share_more : from + 2 * h + 1 < length all.layouts → at + h < length all.entries → at + h < length all.places
      → Shares layout from (h + 1) at before (room (set (set all.layouts (from + 2 * h) layout) (from + 2 * h + 1) layout) (set all.entries (at + h) 2) (set all.places (at + h) (from + 2 * h)) all.drawing)
  share_more lt et pt =
      let two : from + 2 * (h + 1) ≡ from + 2 * h + 1 + 1 = omega arith in
      let n : at + (h + 1) ≡ at + h + 1 = omega arith in
      let r : 2 * (h + 1) ≡ suc (suc (2 * h)) = omega arith in
      let k = length-set all.layouts (from + 2 * h) layout in
      record {
        layouts_are =
            rw (two, r)
            (more (set all.layouts (from + 2 * h) layout) (from + 2 * h + 1) layout (omega arith)
            ∙ ap (λ (l : List ℕ). l ++ (layout ∷ [])) (more all.layouts (from + 2 * h) layout (omega arith) ∙ ap (λ (l : List ℕ). l ++ (layout ∷ [])) s.layouts_are ∙ append_assoc (take from before.layouts) (replicate (2 * h) layout) (layout ∷ []) ∙ ap (λ (l : List ℕ). take from before.layouts ++ l) (replicate_more (2 * h) layout))
            ∙ append_assoc (take from before.layouts) (replicate (suc (2 * h)) layout) (layout ∷ [])
            ∙ ap (λ (l : List ℕ). take from before.layouts ++ l) (replicate_more (suc (2 * h)) layout));
        entries_are =
            rw (n, add-one h)
            (more all.entries (at + h) 2 et
            ∙ ap (λ (l : List ℕ). l ++ (2 ∷ [])) s.entries_are
            ∙ append_assoc (take at before.entries) (replicate h 2) (2 ∷ [])
            ∙ ap (λ (l : List ℕ). take at before.entries ++ l) (replicate_more h 2));
        places_are =
            rw (n, add-one h)
            (more all.places (at + h) (from + 2 * h) pt
            ∙ ap (λ (l : List ℕ). l ++ ((from + 2 * h) ∷ [])) s.places_are
            ∙ append_assoc (take at before.places) (every_second from h) ((from + 2 * h) ∷ [])
            ∙ ap (λ (l : List ℕ). take at before.places ++ l) (second_more from h));
        drawing_is = s.drawing_is;
      }

pub share_none : {layout from at : ℕ} {all : Room} → Shares layout from 0 at all all
share_none {from = from} {at = at} {all = all} =
    let e : from + 0 ≡ from = omega arith in
    let n : at + 0 ≡ at = omega arith in
    record {
      layouts_are = rw e (sym (append-nil (take from all.layouts)));
      entries_are = rw n (sym (append-nil (take at all.entries)));
      places_are = rw n (sym (append-nil (take at all.places)));
      drawing_is = refl;
    }
