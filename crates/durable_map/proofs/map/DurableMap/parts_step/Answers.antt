use Rattle.std.proofs.Common.{rules, ◌≡◌, [], ◌∷◌, ◌++◌, List, sym, subst}
use Rattle.std.specs.Arc.{arc_value}
use Rattle.stripe_locks.specs.Passes as shared
use Rattle.stripe_locks.specs.Passes.{recorded}
use Rattle.stripe_locks.specs.declared.rule.Pass.{Pass}
use Rattle.stripe_locks.specs.declared.stripes.Stripes.{Stripes}
use Rattle.ticket_order.specs.declared.record.Record.{Record}
use Rattle.ticket_order.specs.declared.record.Section.{Section}
use Rattle.view_walk.specs.declared.parts.PartsWalk.{PartsWalk}
use Rattle.view_walk.specs.Walking.{Fits, Next, lent_sections, next_kind}
use Rattle.durable_map.specs.Durable.{GrewBy, MakesStep}
use Rattle.durable_map.specs.Maps.{IsPassOf, stripe_count}
use Rattle.durable_map.proofs.Viewing.{parts_ready_after}
use Rattle.durable_map.proofs.map.DurableMap.parts_step.Goals as goal

-- lent to the pass, the stripes and the pass are the same
fits_on : (s t : Stripes) (p q : Pass) (b : Record) (xs : List Section) (walk : PartsWalk) → s ≡ t → p ≡ q → Fits (shared.stripe_count t) b xs walk (recorded q) → Fits (shared.stripe_count s) b xs walk (recorded p)
fits_on s t p q b xs walk same lent k =
    subst (λ (s : Stripes). Fits (shared.stripe_count s) b xs walk (recorded p)) (sym same) (subst (λ (p : Pass). Fits (shared.stripe_count t) b xs walk (recorded p)) (sym lent) k)

pub step-requires : goal.step-requires
step-requires g c =
    let same : c.at-steps.result.stripes.now ≡ arc_value c.args.self.now.stripes = search rules in
    (c.requires.fits.0, c.requires.fits.1, fits_on _ _ _ _ _ _ c.args.walk same c.at-steps.ensures.pass c.requires.fits.2)

pub returns-clause-one : goal.returns-clause-one
returns-clause-one g c =
    let one = c.step.ensures.one in
    let steps = subst (λ (p : Pass). GrewBy (recorded p) (one.made ∷ []) (recorded c.step.new.steps.pass.now)) c.at-steps.ensures.pass one.steps in
    let made : MakesStep (next_kind c.args.walk) (recorded c.args.pass.now) (recorded c.step.new.steps.pass.now) = record { made = one.made; steps = steps; kind_is = one.kind_is } in
    search rules

pub returns-clause-next : goal.returns-clause-next
returns-clause-next g c = λ b xs f.
    let same : c.at-steps.result.stripes.now ≡ arc_value c.args.self.now.stripes = search rules in
    let next = c.step.ensures.next b xs (fits_on _ _ _ _ b xs c.args.walk same c.at-steps.ensures.pass f) in
    let here : Next (stripe_count c.args.self.now) b (xs ++ lent_sections c.args.walk) c.step.result (recorded c.step.new.steps.pass.now) =
    subst (λ (s : Stripes). Next (shared.stripe_count s) b (xs ++ lent_sections c.args.walk) c.step.result (recorded c.step.new.steps.pass.now)) same next in
    search rules

pub returns-clause-ready : goal.returns-clause-ready
returns-clause-ready g c =
    let b = c.requires.fits.0 in
    let xs = c.requires.fits.1 in
    let same : c.at-steps.result.stripes.now ≡ arc_value c.args.self.now.stripes = search rules in
    let next = c.step.ensures.next b xs (fits_on _ _ _ _ b xs c.args.walk same c.at-steps.ensures.pass c.requires.fits.2) in
    let own : IsPassOf c.args.self.now c.step.new.steps.pass.now = search rules in
    let ready = parts_ready_after c.args.self.now _ b _ c.step.result c.step.new.steps.pass.now own next in
    search rules
