-- `cosets::costs_by` meets its contract, by the shape: of 1 bit that of 2.
use native.Mathlib.Omega.{arith}
use Rattle.cosets.proofs.Labels.{tone_least, one_costs}
use Rattle.cosets.proofs.costs_by.Goals as goal

pub returns : goal.returns
returns c =
    let h = c.shape_of.ensures in
    let o = c.coset_costs.ensures in
    record {
      tone = λ b lb mb e p s. tone_least (o.costs b lb mb (h.shaped b lb mb e) p s);
      one = λ e p s. one_costs (o.costs 2 (omega arith) (omega arith) (h.one e) p s);
      small = o.small;
    }
