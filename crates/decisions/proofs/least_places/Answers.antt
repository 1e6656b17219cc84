use Rattle.decisions.proofs.Places.{cosets_again, least_more}
use Rattle.decisions.proofs.least_places.Goals as goal

pub loop-i-preserved : goal.loop-i-preserved
loop-i-preserved c =
    record {
      least = least_more c.loop-i.invariant.least c.loop-i-test.true (rw c.at.ensures.0 at c.least_coset-c.ensures) c.put_least.ensures.least;
      cosets = cosets_again c.loop-i.invariant.cosets c.put_least.ensures.cosets;
    }
