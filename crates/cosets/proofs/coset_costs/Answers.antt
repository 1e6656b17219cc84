-- `cosets::coset_costs` meets its contract: of 3 bits one rectangle has the coset, else the nearer of two.
use native.Mathlib.Omega.{arith}
use Rattle.cosets.proofs.Shapes.{three_costs, cross_costs}
use Rattle.cosets.proofs.coset_costs.Goals as goal

pub returns-then-h : goal.returns-then-h
returns-then-h c =
    let e = c.sides_of-x.ensures in
    let f = c.sides_of-y.ensures in
    record {
      costs = λ b lb mb shape p at. three_costs b _ _ _ c.sides_of-x.result c.sides_of-y.result lb mb shape e f p at c.if-h.true;
      small = record {
        small0 = omega (arith, e.outer0.small, f.inner0.small);
        small1 = omega (arith, e.inner0.small, f.outer1.small);
        small2 = omega (arith, e.inner1.small, f.outer0.small);
        small3 = omega (arith, e.outer1.small, f.inner1.small);
      };
    }

pub returns : goal.returns
returns c =
    let e = c.sides_of-x.ensures in
    let f = c.sides_of-y.ensures in
    let c0 = c.min.ensures in
    let c1 = c.min-2.ensures in
    let c2 = c.min-3.ensures in
    let c3 = c.min-4.ensures in
    record {
      costs = λ b lb mb shape p at. cross_costs b _ _ _ c.sides_of-x.result c.sides_of-y.result lb mb shape e f p at c.if-h.false _ c0 c1 c2 c3;
      small = record {
        small0 = omega (arith, c0, e.inner0.small, f.outer0.small);
        small1 = omega (arith, c1, e.inner0.small, f.outer1.small);
        small2 = omega (arith, c2, e.inner1.small, f.outer0.small);
        small3 = omega (arith, c3, e.inner1.small, f.outer1.small);
      };
    }
