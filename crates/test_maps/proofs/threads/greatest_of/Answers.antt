use Rattle.std.proofs.Common.{rules, ◌≡◌, ◌∷◌, Result, IfOk, subst}
use Rattle.std.specs.List.{All}
use Rattle.std.specs.Vec.Iter.{into_iter_items}
use Rattle.std.proofs.lemmas.List.Elements.{All-tail}
use Rattle.map_types.specs.declared.refusals.Refusal.{Refusal}
use Rattle.stripe_locks.specs.Holding.{IsHeldOf}
use Rattle.stripe_locks.specs.Passes.{IsPassOf}
use Rattle.stripe_locks.specs.declared.held.Held.{Held}
use Rattle.test_maps.proofs.threads.greatest_of.Goals as goal

pub loop-held-preserved : goal.loop-held-preserved
loop-held-preserved c =
    let left = into_iter_items c.next.new.self in
    let front : into_iter_items c.loop-held.held-iterator ≡ c.in-Some.held ∷ left = search rules in
    let own : IsPassOf c.args.stripes.now c.sum_of.new.pass = search rules in
    (own, All-tail (λ (answer : Result Held Refusal). IfOk answer (IsHeldOf c.args.stripes.now)) c.in-Some.held left (subst (All (λ (answer : Result Held Refusal). IfOk answer (IsHeldOf c.args.stripes.now))) front c.loop-held.invariant.1))
