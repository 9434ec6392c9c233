-- What a stop within a device call leaves of the files of a life.
use Rattle.std.proofs.Common.{◌≡◌, ℕ, ◌+◌, ◌≤◌, List, ◌++◌, length, take, Option, None, Some, arith, sym, ◌∙◌, ap, subst}
use Rattle.std.proofs.lemmas.List.{length-append, length-take-le, take-append-drop}
use Rattle.map_types.specs.declared.commands.Command.{Command}
use Rattle.map_model.specs.Histories.{History}
use Rattle.ticket_order.specs.declared.record.Record.{Record}
use Rattle.ticket_order.specs.Legality.{history_of}
use Rattle.ticket_order.specs.declared.walk.Walk.{Walk}
use Rattle.one_history.specs.declared.book.Book.{Book}
use Rattle.one_history.specs.Turns.{record_of}
use Rattle.disk_model.specs.Files.{Contents, Files, Leaves}
use Rattle.store_layout.specs.Opening.{StandsForFront}
use Rattle.store_layout.specs.SectionsAndLog.{reach}
use Rattle.store_invariant.specs.StoreStates.{StopsStand}
use Rattle.flusher.specs.declared.keeper.Keeper.{Keeper}
use Rattle.flusher.specs.Fitting.{StopsFit}
use Rattle.checkpoint_walk.specs.Walking.{FitsBy}
use Rattle.sim_rules.specs.Machine.{whole}
use Rattle.sim_rules.specs.World.{World, Life}
use Rattle.sim_rules.specs.Runs.{least_of, most_of, staged_in}
use Rattle.sim_rules.specs.Sound.{AreAbove, IsKnownOf}
use Rattle.sim_rules.specs.Laws.{KnownStands}
use Rattle.sim_keeper.specs.Laws.{StagedIsTold}
use Rattle.sim_keeper.specs.KeeperInWorld.{SeesHistory}
use Rattle.schedule_sim.specs.declared.traced.Traced.{Traced}
use Rattle.schedule_sim.specs.declared.job.Job.{Job}
use Rattle.schedule_sim.specs.Tracing.{traced_states, traced_honest}
use Rattle.schedule_sim.specs.Living.{IsLifeOf}
use Rattle.schedule_sim.proofs.LivesParts.{life_there}

-- what the pass has seen is a front of the world's history
known : (p : Record) (w : World) (l : Life) → SeesHistory p w l → IsKnownOf (history_of p) w.history
known p w l s = record {
  front = take l.first w.history;
  more = s.unseen;
  first = s.first ∙ sym (length-take-le l.first w.history s.within);
  opening = s.opening;
  history_is = sym (take-append-drop l.first w.history) ∙ ap (λ xs. take l.first w.history ++ xs) s.added;
}

reach_within : (h : History) (history : List Command) → IsKnownOf h history → reach h ≤ length history
reach_within h history k =
    let whole_is = ap (λ (xs : List Command). length xs) k.history_is in
    omega (arith, whole_is, length-append k.front (h.commands ++ k.more), length-append h.commands k.more, k.first)

-- one that stands for a front of a history, with these bounds, does so with wider ones
wider : (h : History) (least most low high : ℕ) (contents : Contents) → low ≤ least → reach h ≤ high → StandsForFront h least most contents → StandsForFront h low high contents
wider h least most low high contents lower higher s = record {
  count = s.count;
  stands = s.stands;
  from_first = s.from_first;
  within = s.within;
  from_least = omega (arith, lower, s.from_least);
  to_most = omega (arith, higher, s.within);
}

-- the durable count is no greater than the committed one, also while a capture is under way
durable_within : (n : ℕ) (done : List Command) (keeper : Keeper Traced) (p : Record) (o : Option Walk) → FitsBy o traced_states traced_honest n done keeper p → keeper.published ≤ keeper.log.committed
durable_within n done keeper p None fits = fits.tells.durable
durable_within n done keeper p (Some walk) fits = fits.fits.tells.durable

-- Files that a stop may leave for the keeper stand for what they have to, and for no fewer commands than are durable.
pub life_keeps : KnownStands → StagedIsTold traced_states traced_honest → (w : World) (l : Life) (keeper : Keeper Traced) (b : Book) (jobs : List Job) → IsLifeOf w keeper b jobs → w.life ≡ Some l → (files : Files)
    → StopsFit (history_of (record_of 64 b)) keeper files → (contents : Contents) → Leaves files contents → AreAbove w l.durable contents
life_keeps law told w l keeper b jobs a is files stops contents leaves =
    let there = life_there w keeper b jobs a in
    let same : Some there.0 ≡ Some l = sym there.1.life ∙ is in
    let stands = there.1.keeper_stands in
    let p = record_of 64 b in
    let knows = known p w there.0 stands.history in
    let durable = subst (λ (v : Life). v.durable ≤ keeper.log.committed) (let e : there.0 ≡ l = cc in e)
    (subst (λ n. n ≤ keeper.log.committed) (sym stands.durable) (durable_within b.stripes a.done keeper p keeper.capture a.fits)) in
    let least : least_of w.life ≡ keeper.log.committed = ap least_of there.1.life ∙ stands.committed in
    let staged = told b.stripes a.done keeper p w there.0 a.fits stands in
    let most : most_of w.history w.life ≡ keeper.log.committed + length keeper.staged.items =
    ap (most_of w.history) there.1.life ∙ ap (λ n. n + staged_in there.0.log) stands.committed ∙ ap (λ n. keeper.log.committed + n) staged in
    let front = law (history_of p) w.history knows keeper.log.committed (keeper.log.committed + length keeper.staged.items) contents (stops contents leaves) in
    record {
      front = record {
        count = front.count;
        stands = front.stands;
        from_first = front.from_first;
        within = front.within;
        from_least = omega (arith, front.from_least, least);
        to_most = omega (arith, front.to_most, most);
      };
      above = omega (arith, durable, front.from_least);
    }

-- so they stand for a front of at least so many commands
pub above_stands : (w : World) (least : ℕ) (contents : Contents) → AreAbove w least contents → StandsForFront (whole w.history) least (length w.history) contents
above_stands w least contents a = record {
  count = a.front.count;
  stands = a.front.stands;
  from_first = a.front.from_first;
  within = a.front.within;
  from_least = a.above;
  to_most = omega (arith, a.front.within);
}

-- Files that a stop may leave for the keeper may be left for its life.
pub life_stops : KnownStands → (w : World) (l : Life) (keeper : Keeper Traced) (b : Book) (jobs : List Job) → IsLifeOf w keeper b jobs → w.life ≡ Some l → (files : Files)
    → StopsFit (history_of (record_of 64 b)) keeper files → StopsStand (whole w.history) l.durable (length w.history) files
life_stops law w l keeper b jobs a is files stops = λ contents leaves.
    let there = life_there w keeper b jobs a in
    let same : Some there.0 ≡ Some l = sym there.1.life ∙ is in
    let stands = there.1.keeper_stands in
    let p = record_of 64 b in
    let knows = known p w there.0 stands.history in
    let durable = subst (λ (v : Life). v.durable ≤ keeper.log.committed) (let e : there.0 ≡ l = cc in e)
    (subst (λ n. n ≤ keeper.log.committed) (sym stands.durable) (durable_within b.stripes a.done keeper p keeper.capture a.fits)) in
    law (history_of p) w.history knows l.durable (length w.history) contents
    (wider (history_of p) keeper.log.committed (keeper.log.committed + length keeper.staged.items) l.durable (length w.history) contents durable (reach_within (history_of p) w.history knows) (stops contents leaves))
