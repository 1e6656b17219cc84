-- The total looks at loaded tones only: neither the other tones' points nor the register changes it.
use Prim.Native.Nat.{ℕ, suc, ◌+◌, ◌<◌}
use mathlib.Core.Bool.{Bool, true, false}
use mathlib.Core.List.{List, [], ◌∷◌}
use mathlib.Core.Path.{◌≡◌, refl, ap, ap₂, ◌∙◌}
use native.Mathlib.Omega.{arith}
use borrow.Author.Tests.{ltb-true}
use lib.Dec.{ltb}
use lib.ListN.{length, drop, get_or}
use Rattle.g9932.specs.Sizes.{Tables, entry, Point, origin, class_by, class_of}
use Rattle.g9932.specs.Filler.{after_draws, draws}
use Rattle.g9932.specs.Symbol.{classes_by, reordered_tones_of, classes_of, load, tone_point, write_points, sent_in, written_points}
use Rattle.g9932.specs.Nearest.{squared_distance, tone_distance, total_of, frame_total, NearestFrame}
use Rattle.g9932.specs.declared.Class.{Class}
use Rattle.g9932.specs.declared.Class.TheVariants.{Data, Monitored, Silent}
use Rattle.g9932.proofs.Reordering.{length_order}
use Rattle.guarantees.specs.Words.{SameLoaded}

-- ---- the other tones

tone_loaded : (b g : ℕ) (x y w : Point) → (0 < load (class_of b g) → x ≡ y) → tone_distance (class_of b g) x w ≡ tone_distance (class_of b g) y w
tone_loaded b g x y w = go (ltb 0 b) refl (ltb 0 g)
  where
    go : (c : Bool) → ltb 0 b ≡ c → (d : Bool) → (0 < load (class_by c (Data b) (class_by d Monitored Silent)) → x ≡ y)
        → tone_distance (class_by c (Data b) (class_by d Monitored Silent)) x w ≡ tone_distance (class_by c (Data b) (class_by d Monitored Silent)) y w
    go true e d same = ap (λ (p : Point). squared_distance p w) (same (ltb-true 0 b e))
    go false e true same = refl
    go false e false same = refl

total_loaded : (b g t : List ℕ) (p q ws : List Point) → length p ≡ length q
    → ((k : ℕ) → k < length t → 0 < load (get_or (classes_by b g t) k Silent) → get_or p k origin ≡ get_or q k origin)
    → total_of (classes_by b g t) p ws ≡ total_of (classes_by b g t) q ws
unfolding total_of
total_loaded b g [] p q ws l same = refl
total_loaded b g (j ∷ t) [] [] ws l same = refl
total_loaded b g (j ∷ t) [] (y ∷ q) ws l same = absurd (omega arith)
total_loaded b g (j ∷ t) (x ∷ p) [] ws l same = absurd (omega arith)
total_loaded b g (j ∷ t) (x ∷ p) (y ∷ q) [] l same = refl
total_loaded b g (j ∷ t) (x ∷ p) (y ∷ q) (w ∷ ws) l same =
    ap₂ (λ (m n : ℕ). m + n) (tone_loaded (entry b j) (entry g j) x y w (same 0 (omega arith)))
    (total_loaded b g t p q ws (omega arith) (λ k h. same (suc k) (omega arith)))

pub loaded_only : (T : Tables) (p q : List Point) → length p ≡ length q → SameLoaded T p q → (r start : ℕ) (f : List ℕ)
    → frame_total T p r start f ≡ frame_total T q r start f
loaded_only T p q l same r start f =
    total_loaded T.bits T.gains (reordered_tones_of T) p q (written_points T r start f) l
    (λ k h. same k (omega (arith, length_order T.bits T.tones T.mode)))

-- ---- the register

tone_register : (r s : ℕ) (c : Class) (d : List Bool) (p : Point) → tone_distance c p (tone_point r c d) ≡ tone_distance c p (tone_point s c d)
tone_register r s (Data n) d p = refl
tone_register r s Monitored d p = refl
tone_register r s Silent d p = refl

total_register : (r s : ℕ) (cs : List Class) (d : List Bool) (q : List Point) → total_of cs q (write_points r cs d) ≡ total_of cs q (write_points s cs d)
unfolding total_of write_points
total_register r s [] d q = refl
total_register r s (c ∷ cs) d [] = refl
total_register r s (c ∷ cs) d (p ∷ q) =
    ap₂ (λ (m n : ℕ). m + n) (tone_register r s c d p)
    (total_register (after_draws (draws c) r) (after_draws (draws c) s) cs (drop (load c) d) q)

pub any_register : (T : Tables) (q : List Point) (r s start : ℕ) (f : List ℕ) → frame_total T q r start f ≡ frame_total T q s start f
unfolding written_points
any_register T q r s start f = total_register r s (classes_of T) (sent_in T start f) q

pub any_register_nearest : (T : Tables) (q : List Point) (r s start : ℕ) (f : List ℕ) (n : ℕ) → NearestFrame T q r start f n → NearestFrame T q s start f n
any_register_nearest T q r s start f n near =
    record {
      frame_accepted = near.frame_accepted;
      total = any_register T q s r start f ∙ near.total;
      least = λ g ok. rw (any_register T q s r start g) (near.least g ok);
    }
