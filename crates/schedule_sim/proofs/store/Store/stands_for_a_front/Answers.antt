use Rattle.std.proofs.Common.{subst}
use Rattle.one_history.specs.Turns.{record_of}
use Rattle.schedule_sim.specs.Storing.{IsStore}
use Rattle.schedule_sim.proofs.Fronts.{closed_now, life_now}
use Rattle.schedule_sim.proofs.store.Store.stands_for_a_front.Goals as goal

pub returns-in-Closed : goal.returns-in-Closed
returns-in-Closed c = λ w least stands. closed_now w least _ (subst (λ s. IsStore w least s) c.in-Closed.is stands)

pub returns-in-Open : goal.returns-in-Open
returns-in-Open c = λ w least stands.
    let life = c.in-Open.life in
    let stand = subst (λ s. IsStore w least s) c.in-Open.is stands in
    life_now c.laws_of_known_histories.ensures.stands c.laws_of_telling.ensures.staged w least life stand.0 stand.1
    (c.stops_while_capturing.ensures life.words.stripes stand.0.done (record_of 64 life.words) stand.0.fits tt)
