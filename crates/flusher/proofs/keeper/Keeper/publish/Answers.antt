use Rattle.std.proofs.Common.{◌≡◌, ℕ, subst, sym, ◌∙◌, ap}
use Rattle.ticket_order.specs.declared.record.Record.{Record}
use Rattle.ticket_order.specs.Records.{publishing}
use Rattle.ticket_order.specs.StepRules.{MayPublish}
use Rattle.flusher.specs.Fitting.{Fits}
use Rattle.flusher.proofs.FittingKeepers.{may_publish, fits_published}
use Rattle.flusher.proofs.keeper.Keeper.publish.Goals as goal

pub durable-requires : goal.durable-requires
durable-requires g c =
    let f = c.requires.fits in
    let may : MayPublish (g.S.Steps.recorded c.args.steps.now) c.args.self.now.log.committed =
    may_publish g.D.Disk.states g.D.Disk.honest (g.S.Steps.stripe_count c.args.steps.now) f.0 c.args.self.now (g.S.Steps.recorded c.args.steps.now) f.1 c.requires.rests c.if-self.false in
    record { fits = subst (λ (x : ℕ). MayPublish (g.S.Steps.recorded c.args.steps.now) x) (sym c.committed-committed.ensures) may }

pub returns-clause-fits : goal.returns-clause-fits
returns-clause-fits g c = λ done f.
    let n = g.S.Steps.stripe_count c.args.steps.now in
    let p = g.S.Steps.recorded c.args.steps.now in
    let same : c.committed-committed.result ≡ c.args.self.now.log.committed = c.committed-committed.ensures in
    let is : g.S.Steps.recorded c.durable.new.self ≡ publishing p c.args.self.now.log.committed = c.durable.ensures.step ∙ ap (publishing p) same in
    subst (λ (m : ℕ). Fits g.D.Disk.states g.D.Disk.honest m done (record c.args.self.now { published = c.committed-committed.result }) (g.S.Steps.recorded c.durable.new.self)) (sym c.durable.ensures.stripes)
    (subst (λ (x : ℕ). Fits g.D.Disk.states g.D.Disk.honest n done (record c.args.self.now { published = x }) (g.S.Steps.recorded c.durable.new.self)) (sym same)
    (subst (λ (w : Record). Fits g.D.Disk.states g.D.Disk.honest n done (record c.args.self.now { published = c.args.self.now.log.committed }) w) (sym is)
    (fits_published g.D.Disk.states g.D.Disk.honest n done c.args.self.now p f c.requires.rests)))
