-- What the files of a store stand for now.
use Rattle.std.proofs.Common.{◌≡◌, ℕ, ◌≤◌, List, length, Option, None, Some, refl, sym, ◌∙◌, ap, subst, arith}
use Rattle.disk_model.specs.Files.{AreCoherent, Contents, Leaves, now}
use Rattle.ticket_order.specs.Legality.{history_of}
use Rattle.one_history.specs.Turns.{record_of}
use Rattle.disk_model.proofs.FileLemmas.{now_coherent}
use Rattle.store_layout.specs.Opening.{StandsForFront}
use Rattle.flusher.specs.Fitting.{StopsFit}
use Rattle.sim_rules.specs.Laws.{KnownStands}
use Rattle.sim_rules.specs.Machine.{whole}
use Rattle.sim_rules.specs.Runs.{least_of, most_of}
use Rattle.sim_rules.specs.Sound.{AreAbove}
use Rattle.sim_rules.specs.World.{World, Life, seen_of}
use Rattle.sim_keeper.specs.Laws.{StagedIsTold}
use Rattle.schedule_sim.specs.declared.life.Life as sim
use Rattle.schedule_sim.specs.declared.store.Store.{Store}
use Rattle.schedule_sim.specs.declared.store.Store.TheVariants.{Closed, Open}
use Rattle.schedule_sim.specs.declared.traced.Traced.{Traced}
use Rattle.schedule_sim.specs.Living.{IsLife}
use Rattle.schedule_sim.specs.Storing.{IsClosed, IsDurable, IsStore, StandsNow}
use Rattle.schedule_sim.specs.Tracing.{traced_honest, traced_states}
use Rattle.schedule_sim.proofs.LivesParts.{life_there}
use Rattle.schedule_sim.proofs.OpenedStores.{leaves_seen, seen_stands}
use Rattle.schedule_sim.proofs.Stopping.{life_keeps}

-- between lives
closed_above : (w : World) (least : ℕ) (contents : Contents) → w.life ≡ None → StandsForFront (whole w.history) least (length w.history) contents → AreAbove w least contents
closed_above w least contents none s = record {
  front = record {
    count = s.count;
    stands = s.stands;
    from_first = s.from_first;
    within = s.within;
    from_least = omega (arith, ap least_of none);
    to_most = omega (arith, ap (most_of w.history) none, s.to_most);
  };
  above = s.from_least;
}

pub closed_now : (w : World) (least : ℕ) (disk : Traced) → IsClosed w least disk → StandsNow w least
closed_now w least disk closed = record {
  left = λ contents leaves. closed_above w least contents closed.life (closed.stops contents leaves);
  read = closed_above w least (seen_of w.files) closed.life (seen_stands w least disk closed);
}

-- in a life
pub life_now : KnownStands → StagedIsTold traced_states traced_honest → (w : World) (least : ℕ) (life : sim.Life) → IsLife w life → IsDurable least w.life
    → StopsFit (history_of (record_of 64 life.words)) life.keeper (now (traced_states life.keeper.disk)) → StandsNow w least
life_now law told w least life a durable stops =
    let there = life_there w life.keeper life.words life.jobs.items a in
    let files = there.1.keeper_stands.files in
    let is : least ≡ there.0.durable = subst (λ o. IsDurable least o) there.1.life durable in
    let left : (contents : Contents) → Leaves w.files contents → AreAbove w least contents = λ contents leaves.
    subst (λ n. AreAbove w n contents) (sym is) (life_keeps law told w there.0 life.keeper life.words life.jobs.items a there.1.life (now (traced_states life.keeper.disk)) stops contents
    (subst (λ f. Leaves f contents) files leaves)) in
    let coherent : AreCoherent w.files = subst AreCoherent (sym files) (now_coherent (traced_states life.keeper.disk) life.keeper.disk.disk.coherent) in
    record { left = left; read = left (seen_of w.files) (λ number low. leaves_seen (w.files number) (coherent number low)) }

-- in a world without a life the store is closed
no_life : (w : World) (life : sim.Life) → w.life ≡ None → IsLife w life → ⊥
no_life w life none a = let is = sym none ∙ (life_there w life.keeper life.words life.jobs.items a).1.life in cc

pub now_at_start : (from : World) (store : Store) → from.life ≡ None → IsStore from 0 store → StandsNow from 0
now_at_start from (Closed disk) none stands = closed_now from 0 disk stands
now_at_start from (Open life) none stands = absurd (no_life from life none stands.0)
