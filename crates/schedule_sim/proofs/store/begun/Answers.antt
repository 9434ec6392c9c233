use Rattle.std.proofs.Common.{◌≡◌, map, subst}
use Rattle.std.specs.FinMap as finite
use Rattle.map_model.specs.Parts.{union_of}
use Rattle.one_history.specs.Turns.{maps_of}
use Rattle.sim_rules.specs.Cases.{entry_of}
use Rattle.schedule_sim.proofs.OpenedStores.{opened_did}
use Rattle.schedule_sim.proofs.store.begun.Goals as goal

pub returns-clause-did : goal.returns-clause-did
returns-clause-did c = λ w least fails_at old none made exact syncs opened closed.
    let entries = subst (λ parts. map entry_of c.in_ok-entries.entries.items ≡ finite.entries (union_of (maps_of parts))) c.deref.ensures.value c.in_ok-entries.ensures in
    opened_did (record { front = c.steps_between_lives.ensures.front; parts = c.laws_of_parts.ensures.union }) w least c.args.stripes fails_at c.args.calls old c.args.keeper c.args.parts.items c.args.first c.args.limit _ _ closed none made exact syncs
    opened entries c.in_ok-life.ensures.life
