-- `cosets::nearest` meets its contract: of 3 bits one rectangle has the coset, else the nearer of two.
use native.Mathlib.Omega.{arith}
use Rattle.cosets.proofs.Shapes.{takes_first, takes_second}
use Rattle.cosets.proofs.nearest.Goals as goal

pub returns-then-across : goal.returns-then-across
returns-then-across c =
    let f = c.args.h.sides in
    record {
      nearest = λ b lb mb shape w1 w0 e1 e0. takes_second _ _ _ _ b _ c.in_rectangle-p.result c.in_rectangle-q.result lb mb shape w1 w0 e1 e0 c.in_rectangle-p.ensures c.in_rectangle-q.ensures c.if-across.true;
      u_small = omega (arith, c.in_rectangle-q.ensures.within_x.right, f.3);
      w_small = omega (arith, c.in_rectangle-q.ensures.within_y.right, f.1);
    }

pub returns-else-across : goal.returns-else-across
returns-else-across c =
    let f = c.args.h.sides in
    record {
      nearest = λ b lb mb shape w1 w0 e1 e0. takes_first _ _ _ _ b _ c.in_rectangle-p.result c.in_rectangle-q.result lb mb shape w1 w0 e1 e0 c.in_rectangle-p.ensures c.in_rectangle-q.ensures c.if-across.false;
      u_small = omega (arith, c.in_rectangle-p.ensures.within_x.right, f.1);
      w_small = omega (arith, c.in_rectangle-p.ensures.within_y.right, f.3);
    }
