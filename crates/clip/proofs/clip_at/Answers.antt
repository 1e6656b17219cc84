-- `clip::clip_at` meets its contract: both tests compare points by their coordinates.
use Rattle.std.proofs.Common.{◌≡◌, Bool, ◌&&◌, int_eq, ap, ◌∙◌, arith}
use Rattle.g9932.specs.Bits.{bits}
use Rattle.g9932.specs.Filler.{drawn}
use Rattle.g9932.specs.Points.{point_of, negated, same_point}
use Rattle.g9932.specs.Sizes.{Point, point}
use Rattle.g9932.proofs.Words.{bits_num, num_lt}
use Rattle.clip.proofs.Compared.{Unit16, opposite_of, same_points, two_bit_units}
use Rattle.clip.proofs.clip_at.Goals as goal
use Rattle.clip.proofs.clip_at.Goals.{After-point_of-filler}

-- the point that the filler bits give
filler_is : (c : After-point_of-filler) → let m = c.point_of-filler.result in point m.x m.y ≡ point_of 2 (drawn 2 c.args.register)
filler_is c =
    let r = c.args.register in
    c.point_of-filler.ensures ∙ ap (λ n. point_of 2 (bits 2 n)) c.filler_label.ensures.label ∙ ap (point_of 2) (bits_num (drawn 2 r))

units : (c : After-point_of-filler) → Unit16 c.point_of-filler.result.x × Unit16 c.point_of-filler.result.y
units c = rw (ap (λ (p : Point). p.px) (filler_is c), ap (λ (p : Point). p.py) (filler_is c)) (two_bit_units _ _)

-- the two tests
module _ (c : After-point_of-filler) where
  abbrev p : Point
  p = point c.args.p.x c.args.p.y

  abbrev m : Point
  m = point c.point_of-filler.result.x c.point_of-filler.result.y

  straight : {r : Bool} → r ≡ int_eq p.px m.px && int_eq p.py m.py → r ≡ same_point p (point_of 2 (drawn 2 c.args.register))
  straight e = e ∙ same_points p m ∙ ap (same_point p) (filler_is c)

  turned : {r : Bool} → r ≡ int_eq p.px (opposite_of m.px) && int_eq p.py (opposite_of m.py) → r ≡ same_point p (negated (point_of 2 (drawn 2 c.args.register)))
  turned e = rw ((units c).0.opposite, (units c).1.opposite) at e ∙ same_points p (negated m) ∙ ap (λ (q : Point). same_point p (negated q)) (filler_is c)

pub point_of-filler-requires : goal.point_of-filler-requires
point_of-filler-requires c = (omega arith, omega arith, rw c.filler_label.ensures.label (num_lt (drawn 2 c.args.register)))

pub returns-then-eq : goal.returns-then-eq
returns-then-eq c = rw (← straight (goal.at.returns-then-eq c).After-point_of-filler c.eq.ensures, c.if-eq.true)

pub overflow_sub-opposite : goal.overflow_sub-opposite
overflow_sub-opposite c = (units (goal.at.overflow_sub-opposite c).After-point_of-filler).0.fits_opposite

pub overflow_sub-opposite-2 : goal.overflow_sub-opposite-2
overflow_sub-opposite-2 c = (units (goal.at.overflow_sub-opposite-2 c).After-point_of-filler).1.fits_opposite

pub returns-then-eq-2 : goal.returns-then-eq-2
returns-then-eq-2 c =
    let f = (goal.at.returns-then-eq-2 c).After-point_of-filler in
    rw (← straight f c.eq.ensures, ← turned f c.eq-2.ensures, c.if-eq.false, c.if-eq-2.true)

pub returns : goal.returns
returns c =
    let f = (goal.at.returns c).After-point_of-filler in
    rw (← straight f c.eq.ensures, ← turned f c.eq-2.ensures, c.if-eq.false, c.if-eq-2.false)
