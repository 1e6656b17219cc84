use Prim.Native.Nat.{◌-◌, ◌+◌, ◌*◌, ◌/◌, ◌<◌}
use mathlib.Core.Path.{◌≡◌, sym, ap, subst, ◌∙◌}
use native.Mathlib.Omega.{arith}
use Rattle.paths.specs.Survivors.{far, reached, Below, grouped}
use Rattle.paths.proofs.Metrics.{group_at, GroupIs, stored_more, stored_group}
use Rattle.paths.proofs.Forced.{below_reached, group_reached}
use Rattle.paths.proofs.Steps.{weaken}
use Rattle.paths.proofs.advance.Goals as goal

pub four_at-requires : goal.four_at-requires
four_at-requires c =
    (omega arith, omega arith, subst (Below far) (sym c.reached-from.ensures) (below_reached c.args.old.now c.args.late (weaken _ _ c.args.old.now (omega arith) c.requires.1)))

pub loop-g-preserved : goal.loop-g-preserved
loop-g-preserved c =
    let r = c.group-r.result in
    let turn : c.loop-g.g < 4 = c.loop-g-test.true in
    let room = c.requires.0 in
    let e : r ≡ group_at (reached c.args.old.now c.args.late) c.args.edges.now c.loop-g.g =
    c.group-r.ensures
    ∙ (λ i. grouped (c.four_at.ensures.0 i) (c.four_at-in-loop-g.ensures.0 i))
    ∙ ap (λ m. group_at m c.args.edges.now c.loop-g.g) c.reached-from.ensures in
    let gi : GroupIs c.args.old.now c.args.edges.now c.args.late c.loop-g.g r =
    subst (GroupIs c.args.old.now c.args.edges.now c.args.late c.loop-g.g) (sym e) (group_reached c.args.old.now c.args.edges.now c.requires.1 c.requires.2 c.args.late c.loop-g.g (omega arith)) in
    let s1 = stored_more c.loop-g.invariant (8 * (c.loop-g.g / 2) + c.loop-g.g) r.a c.store.new.new c.store.new.survivors (omega arith) room gi.is_a c.store.ensures.0 c.store.ensures.1 in
    let s2 = stored_more s1 (8 * (1 - c.loop-g.g / 2) + c.loop-g.g) r.b c.store-in-loop-g.new.new c.store-in-loop-g.new.survivors (omega arith) room gi.is_b c.store-in-loop-g.ensures.0 c.store-in-loop-g.ensures.1 in
    let s3 = stored_more s2 (8 * (c.loop-g.g / 2) + 4 + c.loop-g.g) r.c c.store-in-loop-g-2.new.new c.store-in-loop-g-2.new.survivors (omega arith) room gi.is_c c.store-in-loop-g-2.ensures.0 c.store-in-loop-g-2.ensures.1 in
    let s4 = stored_more s3 (8 * (1 - c.loop-g.g / 2) + 4 + c.loop-g.g) r.d c.store-in-loop-g-3.new.new c.store-in-loop-g-3.new.survivors (omega arith) room gi.is_d c.store-in-loop-g-3.ensures.0 c.store-in-loop-g-3.ensures.1 in
    stored_group {g = c.loop-g.g} (omega arith) s4
