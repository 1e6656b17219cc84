-- The stored points: one test of the whole table makes the rule at each entry; and what a layout tells of the table.
use Rattle.std.specs.Prelude.{Option, None, Some}
use Prim.Native.Nat.{ℕ, zero, suc, ◌+◌, ◌-◌, ◌*◌, ◌/◌, ◌%◌, ◌^◌, ◌≤◌, ◌<◌}
use mathlib.Core.Bool.{Bool, true, false, not, cond, true≢false}
use mathlib.Core.List.{List}
use mathlib.Core.Path.{◌≡◌, refl, sym, ◌∙◌}
use native.Mathlib.Nat.{mul-le-mul, mul-le-mul_left}
use native.Mathlib.Omega.{arith}
use borrow.Author.Tests.{not-false, lt-ltb, ltb-true, ltb-false}
use lib.Dec.{eqb, ltb}
use lib.Pow.{pow_mono}
use Rattle.g9932.specs.Bits.{bits, first}
use Rattle.g9932.specs.Points.{point_of, same_point}
use Rattle.g9932.specs.Sizes.{Point, entry}
use Rattle.g9932.proofs.Constellations.{same_point→eq}
use Rattle.g9932.proofs.Search.{first_no}
use Rattle.constellation.specs.Layouts.{upper, layout_of, silent_layout}
use Rattle.constellation.specs.MapByLayout.{Mappable, label, silent, MapsTo, MapsByRule}
use Rattle.constellation.specs.Reading.{is_at}
use Rattle.constellation.specs.Stored.{stored_point, first_entry, Stored, is_stored, EntryOf, stored_or}
use Rattle.constellation.proofs.Grid.{bit_rule}
use Rattle.constellation.proofs.Mapping.{rule}
use Rattle.constellation.proofs.MapByLayout.{Liftable, liftable_upper}

-- ---- the whole table

abbrev agrees : List ℕ → ℕ → ℕ → Bool
agrees t b l = same_point (stored_point (entry t (first_entry b + l))) (point_of b (bits b l))

-- the first bit count, less one, that has a label whose entry does not agree with the mapping rule
abbrev pub first_wrong : List ℕ → Option ℕ
first_wrong t = first (λ j. is_at (first (λ l. not (agrees t (suc j) l)) (2 ^ suc j))) 8

none_at : (f : Option ℕ) → is_at f ≡ false → f ≡ None
none_at (Some k) e = absurd (true≢false e)
none_at None e = refl

-- The computed test, made the rule.
pub stored : (t : List ℕ) → first_wrong t ≡ None → Stored t
stored t e = record { rule = at }
  where
    at : (b l : ℕ) → 1 ≤ b → b ≤ 8 → l < 2 ^ b → stored_point (entry t (first_entry b + l)) ≡ point_of b (bits b l)
    at zero l h k s = absurd (omega arith)
    at (suc j) l h k s =
        let none = none_at _ (first_no (λ j. is_at (first (λ l. not (agrees t (suc j) l)) (2 ^ suc j))) 8 e j (omega arith)) in
        same_point→eq _ _ (not-false (agrees t (suc j) l) (first_no (λ l. not (agrees t (suc j) l)) (2 ^ suc j) none l s))

-- ---- by a layout

-- which layouts are those of 1 to 8 bits
pub stored_few : (b : ℕ) → 1 ≤ b → b ≤ 15 → is_stored (layout_of b) ≡ ltb b 9
unfolding first
stored_few zero h k = absurd (omega arith)
stored_few (suc j) h k = bit_rule (λ j. is_stored (layout_of (suc j))) (λ j. ltb (suc j) 9) 15 refl j (omega arith)

not_silent_lem : (b : ℕ) → 1 ≤ b → b ≤ 15 → eqb (layout_of b) silent_layout ≡ false
unfolding first
not_silent_lem zero h k = absurd (omega arith)
not_silent_lem (suc j) h k = bit_rule (λ j. eqb (layout_of (suc j)) silent_layout) (λ j. false) 15 refl j (omega arith)

-- what the code computes of a layout: how many labels it has, 4 where b is 1; and where its points begin
abbrev pub labels_of : ℕ → ℕ
labels_of s = 4 * (upper s * upper s) + 4 * (upper s * upper s) * (s / 128 % 2)

abbrev pub first_of : ℕ → ℕ
first_of s = cond (is_stored s) (labels_of s - (2 + 2 * (s / 32768))) 0

first_at : (b : ℕ) → 1 ≤ b → b ≤ 15 → first_of (layout_of b) ≡ cond (ltb b 9) (first_entry b) 0
unfolding first
first_at zero h k = absurd (omega arith)
first_at (suc j) h k = rule (λ j. first_of (layout_of (suc j))) (λ j. cond (ltb (suc j) 9) (first_entry (suc j)) 0) 15 refl j (omega arith)

first_le : (s l : ℕ) → Mappable s l → first_of s ≤ 254
first_le s l (label b h k e i) = rw (e, first_at b h k) (by (ltb b 9) refl)
  where
    by : (c : Bool) → ltb b 9 ≡ c → cond c (first_entry b) 0 ≤ 254
    by true t = let most : 2 ^ b ≤ 2 ^ 8 = pow_mono {i = b} {j = 8} (omega (arith, ltb-true b 9 t)) in omega arith
    by false t = omega arith
first_le s l (silent e i) = rw e (omega arith)

pub entry_of : (s l e : ℕ) → Mappable s l → e ≡ first_of s + l % 256 → EntryOf s l e
entry_of s l e m is = record { inside = omega (arith, first_le s l m); at = at }
  where
    at : (b : ℕ) → 1 ≤ b → b ≤ 8 → s ≡ layout_of b → l < 2 ^ b → e ≡ first_entry b + l
    at b h k o z =
        let begin : first_of s ≡ first_entry b = rw (o, first_at b h (omega arith), lt-ltb b 9 (omega arith)) in
        let most : 2 ^ b ≤ 2 ^ 8 = pow_mono {i = b} {j = 8} k in
        omega arith

-- no number on the way is too large
pub record LabelsFit (s : ℕ) : Type 0 where
  pub square : upper s * upper s ≤ 4096
  pub odds : 4 * (upper s * upper s) * (s / 128 % 2) ≤ 16384
  pub enough : 2 + 2 * (s / 32768) ≤ labels_of s

pub labels_fit_lem : {s l : ℕ} → s < 65536 → Liftable s l → LabelsFit s
labels_fit_lem {s} {l} h t =
    let u = liftable_upper t in
    let most = mul-le-mul {n₁ = upper s} {m₁ = upper s} {n₂ = 64} {m₂ = 64} u.1 u.1 in
    let least = mul-le-mul {n₁ = 1} {m₁ = 1} {n₂ = upper s} {m₂ = upper s} u.0 u.0 in
    let odd : 4 * (upper s * upper s) * (s / 128 % 2) ≤ 4 * (upper s * upper s) * 1 = mul-le-mul_left (4 * (upper s * upper s)) (omega arith) in
    record { square = omega arith; odds = omega arith; enough = omega arith }

-- The point of a tone: from the table, or the one that the rule gave.
pub maps_to : {t : List ℕ} {s l e : ℕ} {p : Point} → Stored t → EntryOf s l e → (is_stored s ≡ false → MapsByRule s l p) → MapsTo s l (stored_or s (entry t e) p)
maps_to {t} {s} {l} {e} {p} g at ruled = record { tone = tone; silent = λ o. rw o refl }
  where
    tone : (b : ℕ) → 1 ≤ b → b ≤ 15 → s ≡ layout_of b → l < 2 ^ b → stored_or s (entry t e) p ≡ point_of b (bits b l)
    tone b h k o z = by (ltb b 9) refl
      where
        by : (c : Bool) → ltb b 9 ≡ c → stored_or s (entry t e) p ≡ point_of b (bits b l)
        by true f =
            let few : b ≤ 8 = omega (arith, ltb-true b 9 f) in
            rw (at.at b h few o z, o, stored_few b h k, f, not_silent_lem b h k) (g.rule b l h few z)
        by false f = rw (o, stored_few b h k, f) (rw o at (ruled (rw o (stored_few b h k ∙ f))) b (omega (arith, ltb-false b 9 f)) k refl z)

-- where the table has none of the layout's points, the rule's is the tone's
pub ruled_maps : {s l : ℕ} {p : Point} → is_stored s ≡ false → MapsByRule s l p → MapsTo s l p
ruled_maps {s} {l} {p} e r =
    record {
      tone = λ b h k o z.
          let large = ltb-false b 9 (sym (stored_few b h k) ∙ rw o at e) in
          r b (omega arith) k o z;
      silent = λ o. absurd (true≢false (rw o at e));
    }
