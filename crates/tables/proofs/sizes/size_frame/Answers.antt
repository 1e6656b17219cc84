-- `tables::sizes::size_frame` meets its contract: the counts of the tones decide 7, 8 and L.
use mathlib.Core.Path.{refl}
use native.Mathlib.Omega.{arith}
use Rattle.tables.proofs.Modes.{uncoded_verdict, coded_odd, coded_few, coded_done, half_loaded_lem, coded_within, coded_fits}
use Rattle.tables.proofs.sizes.size_frame.Goals as goal

pub returns-then-c-eq1 : goal.returns-then-c-eq1
returns-then-c-eq1 c = rw c.in-Coded.is (record { answer = coded_odd c.count_tones-c.ensures c.if-c-eq1.true; shares = tt })

pub overflow_sub-n : goal.overflow_sub-n
overflow_sub-n c = half_loaded_lem c.count_tones-c.ensures c.if-c-eq1.false

pub returns-then-n-lt4 : goal.returns-then-n-lt4
returns-then-n-lt4 c =
    rw c.in-Coded.is (record { answer = coded_few c.count_tones-c.ensures c.if-c-eq1.false c.if-n-lt4.true; shares = tt })

pub overflow_add-result : goal.overflow_add-result
overflow_add-result c =
    let k = c.count_tones-c.ensures in
    omega (arith, coded_within k c.if-c-eq1.false, c.well_formed)

pub overflow_sub-result : goal.overflow_sub-result
overflow_sub-result c =
    let k = c.count_tones-c.ensures in
    omega (arith, coded_fits k c.if-c-eq1.false c.if-n-lt4.false)

pub overflow_sub-result-in-Coded : goal.overflow_sub-result-in-Coded
overflow_sub-result-in-Coded c =
    let k = c.count_tones-c.ensures in
    omega (arith, coded_fits k c.if-c-eq1.false c.if-n-lt4.false)

pub returns-in-Uncoded : goal.returns-in-Uncoded
returns-in-Uncoded c =
    rw c.in-Uncoded.is (record { answer = uncoded_verdict _ _ c.count_tones-c.ensures.sum_is; shares = (omega (arith, c.count_tones-c.ensures.loaded_is), refl, refl) })

pub returns-else-n-lt4 : goal.returns-else-n-lt4
returns-else-n-lt4 c =
    rw c.in-Coded.is (record { answer = coded_done c.count_tones-c.ensures c.if-c-eq1.false c.if-n-lt4.false; shares = (omega (arith, c.count_tones-c.ensures.loaded_is, c.count_tones-c.ensures.ones_is), c.count_tones-c.ensures.ones_is, omega (arith, c.if-c-eq1.false)) })
