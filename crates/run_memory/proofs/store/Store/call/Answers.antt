use Rattle.std.proofs.Common.{rules, ◌≡◌, subst}
use Rattle.std.proofs.lemmas.List.Elements.{All-push, All-same}
use Rattle.std.specs.Arc.{arc_value}
use Rattle.stripe_locks.specs.declared.stripes.Stripes.{Stripes}
use Rattle.stripe_locks.specs.Holding.{IsHeldOf}
use Rattle.stripe_locks.specs.Passes.{IsPassOf}
use Rattle.run_memory.proofs.store.Store.call.Goals as goal

pub invariant_of-self-2 : goal.invariant_of-self-2
invariant_of-self-2 g c =
    let v = c.self.invariant in
    let stripes = arc_value c.self.inside.stripes in
    let same : c.deref.result.now ≡ stripes = search rules in
    let own = subst (λ (s : Stripes). IsPassOf s c.call_by.new.pass) same c.call_by.ensures.own in
    let held = subst (λ (s : Stripes). IsHeldOf s c.in_ok-held.held) same c.in_ok-held.ensures.held in
    (v.0, own, c.call_by.ensures.idle, All-same (IsHeldOf stripes) _ _ c.in_ok-push.ensures.items (All-push (IsHeldOf stripes) c.self.inside.held.items c.in_ok-held.held v.3 held))
