-- `frame::masks::Masks::lowest` meets its contract: a mask of k ones is the remainder by 2 to the k.
use Rattle.frame.proofs.Lowest.{mask_found}
use native.Mathlib.Omega.{arith}
use Rattle.frame.proofs.masks.Masks.lowest.Goals as goal

pub overflow_cast-result : goal.overflow_cast-result
overflow_cast-result c = let a = c.args in
    omega (arith, mask_found a.self.now.table a.k a.word a.self.now.of_ones c.requires)

pub returns : goal.returns
returns c = let a = c.args in
    mask_found a.self.now.table a.k a.word a.self.now.of_ones c.requires
