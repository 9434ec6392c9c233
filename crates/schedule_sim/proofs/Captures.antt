-- What a step of a capture leaves of the workers.
use Rattle.std.proofs.Common.{◌≡◌, ℕ}
use Rattle.map_types.specs.declared.commands.Command.{Command}
use Rattle.ticket_order.specs.Walks.{Kind}
use Rattle.one_history.specs.declared.book.Book.{Book}
use Rattle.one_history.specs.OneHistory.{HoldApart, IsOneHistory}
use Rattle.one_history.specs.Turns.{record_of}
use Rattle.flusher.specs.declared.keeper.Keeper.{Keeper}
use Rattle.checkpoint_walk.specs.Walking.{FitsWalking}
use Rattle.sim_rules.specs.declared.outcome.Made.{Made}
use Rattle.sim_rules.specs.World.{World, Life}
use Rattle.sim_workers.specs.Doings.{Doing}
use Rattle.sim_workers.specs.Laws.{KeeperSteps}
use Rattle.sim_workers.specs.Workers.{WorkersStand}
use Rattle.sim_keeper.specs.Laws.{CountsAreTold, StripeIsTold}
use Rattle.sim_keeper.specs.KeeperInWorld.{KeeperStands}
use Rattle.schedule_sim.specs.declared.traced.Traced.{Traced}
use Rattle.schedule_sim.specs.Tracing.{traced_states, traced_honest}
use Rattle.schedule_sim.specs.Watching.{MakesStep}
use Rattle.schedule_sim.proofs.KeeperTold.{DrawsNoTicket, keeper_moves}
use Rattle.std.specs.Prelude.{List, None}

-- What concerns the workers stays, but for the counts and for what the keeper holds.
pub record StaysForWorkers (w w' : World) (l l' : Life) : Type 0 where
  pub history : w'.history ≡ w.history
  pub stripes : l'.stripes ≡ l.stripes
  pub first : l'.first ≡ l.first
  pub key_limit : l'.key_limit ≡ l.key_limit
  pub jobs : l'.jobs ≡ l.jobs
  pub seen : l'.seen ≡ l.seen
  pub places : l'.places ≡ l.places

-- the keeper made a step that took no entry, and the workers stand as before
pub workers_after : (keeper : Keeper Traced) (b b' : Book) (w w' : World) (l l' : Life) (doings : ℕ → Doing) (kind : Kind) (m : Made) (done : List Command)
    → KeeperSteps → StripeIsTold traced_states traced_honest → CountsAreTold traced_states traced_honest
    → WorkersStand b w l doings → MakesStep 64 kind b b' m → DrawsNoTicket kind → IsOneHistory b' → HoldApart b'
    → FitsWalking traced_states traced_honest b'.stripes done keeper (record_of 64 b') → KeeperStands traced_states keeper (record_of 64 b') w' l'
    → StaysForWorkers w w' l l' → (record_of 64 b').taken ≡ (record_of 64 b).taken → WorkersStand b' w' l' doings
workers_after keeper b b' w w' l l' doings kind m done steps stripe counts stand made other one apart fits stands stays taken =
    steps b b' w w' l l' doings None stand
    (keeper_moves stripe counts b b' w w' l l' doings kind m done keeper stand made other one apart fits stands stays.history (record {
      stripes = stays.stripes;
      first = stays.first;
      key_limit = stays.key_limit;
      jobs = stays.jobs;
      seen = stays.seen;
    })) (taken, stays.places)
