-- How the words of a life, as their book tells them, stand against its world.
use Rattle.std.specs.Prelude.{◌≡◌, ◌↔◌, ℕ, ◌+◌, ◌<◌, ◌≤◌, List, ◌++◌, length, Option, Some, None}
use Rattle.std.specs.List.{Contains}
use Rattle.map_types.specs.declared.commands.Command.{Command}
use Rattle.map_model.specs.Steps.{fold_of}
use Rattle.ticket_order.specs.declared.stripe.Entry.{Entry}
use Rattle.ticket_order.specs.Legality.{entries_from}
use Rattle.one_history.specs.declared.book.Book.{Book}
use Rattle.one_history.specs.OneHistory.{IsOneHistory, HoldApart}
use Rattle.sim_rules.specs.World.{World, Life, Job, Walks, Stage, HasDrawn, WithWorker, InHand, job_of, place_of}

-- The words go on from the commands that the opening found, whose map they began with.
pub record WordsStand (b : Book) (w : World) (l : Life) : Type 0 where
  pub one : IsOneHistory b
  pub apart : HoldApart b
  pub stripes : l.stripes ≡ b.stripes
  pub first : l.first ≡ b.opening.first
  pub key_limit : b.opening.key_limit ≡ l.key_limit
  pub before : List Command
  pub count : length before ≡ b.opening.first
  pub map : b.opening.map ≡ fold_of before
  pub history : w.history ≡ before ++ b.history
  pub durable : l.durable ≡ b.effects.durable
  pub has_failed : l.has_failed ≡ b.effects.failed

-- ---- tickets

abbrev pub drawn_at : Stage → Option ℕ
drawn_at (HasDrawn ticket) = Some ticket
drawn_at stage = None

-- the ticket that the worker's walk has drawn, and whose stripe it has still to give back
abbrev pub drawn_by : Job → Option ℕ
drawn_by (Walks asked stage) = drawn_at stage
drawn_by job = None

-- a worker's walk has drawn this ticket
abbrev pub IsDrawn : Life → ℕ → Type 0
IsDrawn l ticket = (worker : ℕ) × (drawn_by (job_of l worker) ≡ Some ticket)

-- a sweep took the entry of this ticket
abbrev pub IsTaken : Book → ℕ → Type 0
IsTaken b ticket = (e : Entry) × Contains b.effects.taken e × (e.ticket ≡ ticket)

-- it is a ticket of this life
abbrev pub IsOfLife : Book → ℕ → Type 0
IsOfLife b ticket = (b.opening.first ≤ ticket) × (ticket < b.opening.first + length b.history)

-- Each ticket of this life has its place. Its entry is with the worker whose walk has drawn it; it is in hand if a
-- sweep took it; else it lies in an outbox.
pub record PlacesStand (b : Book) (l : Life) : Type 0 where
  pub count : length l.places ≡ length b.history
  pub drawn : (ticket : ℕ) → IsDrawn l ticket → IsOfLife b ticket
  pub drawn_once : (i j ticket : ℕ) → drawn_by (job_of l i) ≡ Some ticket → drawn_by (job_of l j) ≡ Some ticket → i ≡ j
  pub taken : (ticket : ℕ) → IsTaken b ticket → IsOfLife b ticket
  -- each entry that a sweep took is one of the history
  pub entries : (e : Entry) → Contains b.effects.taken e → Contains (entries_from b.opening.first b.history) e
  pub with_worker : (ticket : ℕ) → IsOfLife b ticket → (place_of l ticket ≡ WithWorker) ↔ IsDrawn l ticket
  pub in_hand : (ticket : ℕ) → IsOfLife b ticket → (place_of l ticket ≡ InHand) ↔ IsTaken b ticket
