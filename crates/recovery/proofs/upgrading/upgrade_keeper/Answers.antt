use Rattle.std.proofs.Common.{◌≡◌, ◌⊎◌, inl, inr, ◌+◌, refl, ap, ◌∙◌}
use Rattle.std.proofs.lemmas.Result.{err_from_is_err_and}
use Rattle.gate_log.specs.States.{IsResting, LogState}
use Rattle.recovery.specs.Upgrading.{IsLastGeneration, IsRefusedBehind}
use Rattle.recovery.proofs.RefusedBehind.{behind}
use Rattle.recovery.proofs.OpeningLemmas.{if_err}
use Rattle.one_history.specs.Turns.{at_start, opening_of, record_of}
use Rattle.recovery.proofs.GateClosing.{on_ok}
use Rattle.recovery.proofs.Unmoved.{stays}
use Rattle.recovery.proofs.Rotation.{starts, starts_at}
use Rattle.recovery.proofs.upgrading.upgrade_keeper.Goals as goal

pub returns-in_err-words-clause-stands : goal.returns-in_err-words-clause-stands
returns-in_err-words-clause-stands g c =
    let k = c.args.keeper.now in
    let parts = c.args.parts.items in
    let o = opening_of c.args.first parts c.args.limit in
    let is = starts g.D.Disk.states g.D.Disk.honest k c.requires.start.0 k.stripes.count c.args.first c.args.limit parts c.requires.start.1 c.requires.parts.one_each c.requires.fits in
    let b = at_start c.args.first parts c.args.limit 0 in
    stays g.D.Disk.states g.D.Disk.honest b.stripes o k (record_of 0 b) is.unmoved k.disk refl c.stops_of_a_keeper.ensures

pub rotate_sealed-requires-clause-unmoved : goal.rotate_sealed-requires-clause-unmoved
rotate_sealed-requires-clause-unmoved g c =
    let k = c.args.keeper.now in
    let parts = c.args.parts.items in (
      opening_of c.args.first parts c.args.limit,
      starts_at g.D.Disk.states g.D.Disk.honest k c.requires.start.0 k.stripes.count c.args.first c.args.limit parts c.requires.start.1 c.requires.parts.one_each c.requires.fits c.new-steps.result.pass c.new-steps.result.words.now
          c.new-steps.ensures.pass (c.new-steps.ensures.words ∙ c.in_ok-words.ensures.ok),
    )

pub returns-clause-stands : goal.returns-clause-stands
returns-clause-stands g c =
    let k = c.args.keeper.now in
    let parts = c.args.parts.items in
    c.rotate_sealed.ensures.stands (opening_of c.args.first parts c.args.limit)
    (starts_at g.D.Disk.states g.D.Disk.honest k c.requires.start.0 k.stripes.count c.args.first c.args.limit parts c.requires.start.1 c.requires.parts.one_each c.requires.fits c.new-steps.result.pass c.new-steps.result.words.now
    c.new-steps.ensures.pass (c.new-steps.ensures.words ∙ c.in_ok-words.ensures.ok))

pub returns-clause-rotated : goal.returns-clause-rotated
returns-clause-rotated g c =
    let k = c.args.keeper.now in
    let parts = c.args.parts.items in
    on_ok _ _ c.rotate_sealed.result (λ rotated.
    rotated (opening_of c.args.first parts c.args.limit)
    (starts_at g.D.Disk.states g.D.Disk.honest k c.requires.start.0 k.stripes.count c.args.first c.args.limit parts c.requires.start.1 c.requires.parts.one_each c.requires.fits c.new-steps.result.pass c.new-steps.result.words.now
    c.new-steps.ensures.pass (c.new-steps.ensures.words ∙ c.in_ok-words.ensures.ok))) c.rotate_sealed.ensures.rotated

pub returns-in_err-words-clause-err : goal.returns-in_err-words-clause-err
returns-in_err-words-clause-err g c =
    let q = err_from_is_err_and c.from_residual.result c.from_residual.ensures.1 in
    rw (q.1, q.2) (inr (inl c.in_err-words.ensures.err))

pub returns-clause-err : goal.returns-clause-err
returns-clause-err g c =
    let k = c.args.keeper.now in
    let parts = c.args.parts.items in
    let o = opening_of c.args.first parts c.args.limit in
    let Failing : Type 0 = g.D.Disk.failures c.rotate_sealed.new.keeper.disk ≡ g.D.Disk.failures k.disk + 1 in
    let is =
    starts_at g.D.Disk.states g.D.Disk.honest k c.requires.start.0 k.stripes.count c.args.first c.args.limit parts c.requires.start.1 c.requires.parts.one_each c.requires.fits c.new-steps.result.pass c.new-steps.result.words.now
    c.new-steps.ensures.pass (c.new-steps.ensures.words ∙ c.in_ok-words.ensures.ok) in
    let resumed = c.requires.start.1.resumed in
    let rests : IsResting k.log = (ap (λ (l : LogState). l.phase) resumed, ap (λ (l : LogState). l.ending) resumed) in
    let Last : Type 0 = (k.log.generation ≡ k.sealed) ⊎ (k.log.generation ≡ k.sealed + 1) → IsLastGeneration k.log.generation in
    if_err _ (λ e. IsRefusedBehind Failing Last k.stripes.count o.map k.log.generation k.sealed e) c.rotate_sealed.result
    (λ e refused. behind Failing Failing (IsResting k.log → Last) Last k.stripes.count o.map k.log.generation k.sealed e (λ failing. failing) (λ last. last rests) (refused o is)) c.rotate_sealed.ensures.err

pub returns-in_err-words-clause-unfailing : goal.returns-in_err-words-clause-unfailing
returns-in_err-words-clause-unfailing g c =
    let q = err_from_is_err_and c.from_residual.result c.from_residual.ensures.1 in
    rw (q.1, q.2) (λ other. refl)
