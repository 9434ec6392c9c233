use Rattle.std.proofs.Common.{rules, ◌≡◌, ◌∷◌, subst}
use Rattle.std.specs.List.{All}
use Rattle.std.specs.Vec.Iter.{into_iter_items}
use Rattle.std.proofs.lemmas.List.Elements.{All-tail}
use Rattle.stripe_locks.specs.Holding.{IsHeldOf}
use Rattle.run_memory.proofs.store.release_all.Goals as goal

pub loop-held-preserved : goal.loop-held-preserved
loop-held-preserved c =
    let left = into_iter_items c.next.new.self in
    let front : into_iter_items c.loop-held.held-iterator ≡ c.in-Some.held ∷ left = search rules in
    (c.release_one.ensures.own, All-tail (IsHeldOf c.args.stripes.now) c.in-Some.held left (subst (All (IsHeldOf c.args.stripes.now)) front c.loop-held.invariant.1), c.release_one.ensures.waiting)
