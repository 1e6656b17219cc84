-- The clip check says neither of a written symbol that is turned by a quarter, either way: the tone's own point, the opposite one and the two
-- quarter turns are four different points.
use Rattle.std.specs.Prelude.{Some}
use Prim.Native.Nat.{ℕ}
use mathlib.Core.Bool.{Bool, true≢false}
use mathlib.Core.List.{List, map}
use mathlib.Core.Logic.{◌≢◌}
use mathlib.Core.Path.{◌≡◌, refl, sym, ap, ◌∙◌}
use native.Mathlib.Omega.{arith}
use lib.IntN.{ℤ, neg_ℤ}
use lib.ListN.{length, take, get_or, length-map, get_or-map}
use Rattle.g9932.specs.Clip.{filler_point, clip_check}
use Rattle.g9932.specs.Filler.{drawn, register_after}
use Rattle.g9932.specs.Points.{point_of, negated, turned_left, quarters, same_point}
use Rattle.g9932.specs.Sizes.{Tables, Point, origin, points}
use Rattle.g9932.specs.Symbol.{classes_of, written_points, first_monitored}
use Rattle.g9932.specs.declared.Clip.TheVariants.{Neither}
use Rattle.g9932.proofs.Constellations.{same_point_self}
use Rattle.g9932.proofs.Quarters.{turned_label, length_turned, point_turned}
use Rattle.guarantees.specs.Words.{AcceptedTables, ValidRegister, RightLength, turned, WrittenSymbol}
use Rattle.guarantees.proofs.ClipAnswers as ClipAnswers
use Rattle.guarantees.proofs.ClipFullWay.{written_right, written_points_lem, written_filler}
use Rattle.guarantees.proofs.QuarterTurn.{left_point, right_point, points_left, points_right}
use Rattle.guarantees.proofs.TurnedSymbol.{PointTurn, two_moves}

-- a turned point of 2 bits is another one
moves : (turn : PointTurn) (v : List Bool) → length v ≡ 2 → turn.point (point_of 2 v) ≢ point_of 2 v
moves turn v l e =
    true≢false (sym (same_point_self (point_of 2 v)) ∙ ap (λ (p : Point). same_point p (point_of 2 v)) (sym e) ∙ two_moves turn v l)

module _ (T : Tables) (r k : ℕ) where
  abbrev bits : List Bool
  bits = drawn 2 (register_after r (take k (classes_of T)))

  abbrev filler : Point
  filler = filler_point T r k

  -- after n quarters, one more makes another point
  one_more : (n : ℕ) → turned_left (quarters n filler) ≢ quarters n filler
  one_more n = rw (point_turned n 2 bits (omega arith) refl) (moves left_point (turned_label n bits) (length_turned n bits))

  module _ (ok : AcceptedTables T) (valid : ValidRegister r) (e : first_monitored T ≡ Some k) (X Y : List ℤ) (w : WrittenSymbol T r X Y) where
    right : RightLength T X Y
    right = written_right T ok r X Y w

    -- lists of the right length whose point there is the tone's, turned by n quarters
    neither : (n : ℕ) (X' Y' : List ℤ) → RightLength T X' Y' → get_or (points X' Y') k origin ≡ quarters n filler → quarters n filler ≢ filler → quarters n filler ≢ negated filler
        → clip_check T X' Y' r ≡ record { number = 0; place = 0; clip = Some Neither; register = r }
    neither n X' Y' lengths there other opposite =
        rw (← ((ClipAnswers.neither T (points X' Y') r k e).1 (λ z. other (sym there ∙ z), λ z. opposite (sym there ∙ z)))) (ClipAnswers.done T ok X' Y' r lengths valid)

    there : get_or (written_points T r w.start w.frame) k origin ≡ filler
    there = ap (λ (l : List Point). get_or l k origin) (sym (written_points_lem T ok r X Y w)) ∙ written_filler T ok r X Y w k e

    abbrev q : List Point
    q = written_points T r w.start w.frame

    left_there : get_or (points (turned Y) X) k origin ≡ quarters 1 filler
    left_there =
        let are : points (turned Y) X ≡ map (quarters 1) q = rw (w.xs_are, w.ys_are) (points_left q) in
        ap (λ (l : List Point). get_or l k origin) are ∙ get_or-map (quarters 1) q k origin ∙ ap (quarters 1) there

    right_there : get_or (points Y (turned X)) k origin ≡ quarters 3 filler
    right_there =
        let are : points Y (turned X) ≡ map (quarters 3) q = rw (w.xs_are, w.ys_are) (points_right q) in
        ap (λ (l : List Point). get_or l k origin) are ∙ get_or-map (quarters 3) q k origin ∙ ap (quarters 3) there

    pub check_quarter : (clip_check T (turned Y) X r ≡ record { number = 0; place = 0; clip = Some Neither; register = r })
        × (clip_check T Y (turned X) r ≡ record { number = 0; place = 0; clip = Some Neither; register = r })
    check_quarter = (
      neither 1 (turned Y) X (record { xs_length = length-map Y neg_ℤ ∙ right.ys_length; ys_length = right.xs_length }) left_there (one_more 0) (λ z. one_more 1 (sym z)),
      neither 3 Y (turned X) (record { xs_length = right.ys_length; ys_length = length-map X neg_ℤ ∙ right.xs_length }) right_there
          (moves right_point bits refl) (one_more 2),
    )
