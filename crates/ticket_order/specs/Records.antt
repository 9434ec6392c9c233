-- The record of a pass, as a function of the record before each step.
use Rattle.std.specs.Prelude.{ℕ, ◌+◌, ◌^◌, ◌≤◌, max, List, [], ◌∷◌, ◌++◌, length, Option, Some, None, Bool, true, false}
use Rattle.std.specs.Prelude.{nat_lt, if◌then◌else◌}
use Rattle.map_types.specs.declared.commands.Command.{Command}
use Rattle.map_types.specs.declared.commands.Read.{Read}
use Rattle.map_types.specs.declared.commands.Reply.{Reply}
use Rattle.map_model.specs.Maps.{Map}
use Rattle.map_model.specs.Steps.{step, answer}
use Rattle.std.specs.FinMap as finite
use Rattle.ticket_order.specs.declared.stripe.Entry.{Entry}
use Rattle.ticket_order.specs.declared.record.Opening.{Opening}
use Rattle.ticket_order.specs.declared.record.Purpose.{Purpose}
use Rattle.ticket_order.specs.declared.record.Purpose.TheVariants.{Sweep, Capture}
use Rattle.ticket_order.specs.declared.record.StepMade.{StepMade}
use Rattle.ticket_order.specs.declared.record.StepMade.TheVariants.{Took, FoundHeld, Gave, Drew, Looked, Published, Saw}
use Rattle.ticket_order.specs.declared.record.StepMade.TheVariants.{Failed, FoundAlive}
use Rattle.ticket_order.specs.declared.record.Asked.{Asked}
use Rattle.ticket_order.specs.declared.record.Asked.TheVariants.{Changing, Reading}
use Rattle.ticket_order.specs.declared.record.Call.{Call}
use Rattle.ticket_order.specs.declared.record.Section.{Section}
use Rattle.ticket_order.specs.declared.record.Holding.{Holding}
use Rattle.ticket_order.specs.declared.record.Record.{Record}

-- from this count of tickets on no change is made
abbrev pub ticket_limit : ℕ
ticket_limit = 2 ^ 62

-- the change's key has at most so many bytes
abbrev pub IsWithin : ℕ → Command → Type 0
IsWithin limit c = length c.key ≤ limit

abbrev pub entry : ℕ → Command → Entry
entry t c = record { ticket = t; command = c }

abbrev pub call : ℕ → Asked → Reply → Call
call position asked reply = record { position = position; asked = asked; reply = reply }

-- the greatest position that the pass has seen
abbrev pub reach : Record → ℕ
reach v = v.opening.first + length v.seen

-- one past the greatest ticket of the entries, or 0 if there is none
abbrev pub past : List Entry → ℕ
past [] = 0
past (e ∷ es) = max (e.ticket + 1) (past es)

-- a pass that has made no step
abbrev pub newcomer : Opening → Record
newcomer o =
    record {
      opening = o;
      steps = [];
      calls = [];
      sections = [];
      seen = [];
      holding = None;
      keeper = false;
      taken = [];
      published = o.first;
      failed = false;
      enrolled = false;
      fresh = false;
      passes = 0;
    }

-- the pass that sweeps, publishes and fails, at its start
abbrev pub keeper_at_start : Opening → Record
keeper_at_start o = record (newcomer o) { keeper = true }

abbrev pub with_step : StepMade → Record → Record
with_step s v = record v { steps = v.steps ++ s ∷ [] }

-- TAKE of a stripe that another holds
abbrev pub missing : Record → ℕ → Record
missing v i = with_step (FoundHeld i) v

-- TAKE of a free stripe with this content; `between` is what the pass sees of the history from now on besides
abbrev pub taking : Record → ℕ → Map → List Entry → ℕ → List Command → Record
taking v i m es last between = record v {
  steps = v.steps ++ Took i es last ∷ [];
  seen = v.seen
      ++ between;
  holding =
      Some record { stripe = i; part = m; outbox = es; last = last; has_drawn = false; looked = None };
}

abbrev pub looking_at : ℕ → Option Holding → Option Holding
looking_at q None = None
looking_at q (Some d) = Some record d { looked = (if d.has_drawn then None else Some q) }

-- LOOK: the whole history is seen
abbrev pub looking : Record → List Command → Record
looking v between =
    let q : ℕ = v.opening.first + length (v.seen ++ between) in
    record v {
      steps = v.steps ++ Looked q ∷ [];
      seen = v.seen
          ++ between;
      holding = looking_at q v.holding;
      fresh = nat_lt q ticket_limit;
    }

abbrev pub drawing_at : ℕ → Command → Option Holding → Option Holding
drawing_at t c None = None
drawing_at t c (Some d) = Some record d {
  part = (step d.part c).map;
  outbox = d.outbox
      ++ entry t c ∷ [];
  last = t + 1;
  has_drawn = true;
  looked = None;
}

-- the part that is held
abbrev pub part_held : Option Holding → Map
part_held None = finite.empty
part_held (Some d) = d.part

-- TICKET for the change c: the history gains it at its end, and the part is as after it
abbrev pub drawing : Record → List Command → Command → Record
drawing v between c =
    let t : ℕ = v.opening.first + length (v.seen ++ between) in
    record v {
      steps = v.steps ++ Drew t ∷ [];
      seen = (v.seen ++ between) ++ c ∷ [];
      calls = v.calls
          ++ call (t + 1) (Changing c)
          (step (part_held v.holding) c).reply ∷ [];
      holding = drawing_at t c v.holding;
      fresh = false;
    }

abbrev pub stripe_held : Option Holding → ℕ
stripe_held None = 0
stripe_held (Some d) = d.stripe

abbrev pub outbox_held : Option Holding → List Entry
outbox_held None = []
outbox_held (Some d) = d.outbox

-- one past the last ticket of the stripe that is held
abbrev pub last_held : Option Holding → ℕ
last_held None = 0
last_held (Some d) = d.last

-- the entries that a GIVE keeps for a sweep
abbrev pub swept_by : Purpose → Option Holding → List Entry
swept_by Sweep held = outbox_held held
swept_by purpose held = []

abbrev pub captured : Holding → Option ℕ → List Section
captured d None = []
captured d (Some q) = record { stripe = d.stripe; mark = q; part = d.part } ∷ []

-- the section that a GIVE keeps for a capture
abbrev pub sections_for : Purpose → Option Holding → List Section
sections_for Capture (Some d) = captured d d.looked
sections_for purpose held = []

-- the outbox that goes back
abbrev pub outbox_for : Purpose → Holding → List Entry
outbox_for Sweep d = []
outbox_for purpose d = d.outbox

-- GIVE that makes no read
abbrev pub giving : Purpose → Record → Record
giving p v = record v {
  steps = v.steps ++ Gave (stripe_held v.holding) ∷ [];
  holding = None;
  taken = v.taken
      ++ swept_by p v.holding;
  sections = v.sections ++ sections_for p v.holding;
}

-- GIVE that makes the read r: at the position that the pass has then seen, with the reply of the part that was held
abbrev pub answering : Read → Record → List Command → Record
answering r v between =
    let q : ℕ = v.opening.first + length (v.seen ++ between) in
    record v {
      steps = v.steps ++ Gave (stripe_held v.holding) ∷ [];
      seen = v.seen ++ between;
      calls = v.calls
          ++ call q (Reading r) (answer (part_held v.holding) r) ∷ [];
      holding = None;
    }

-- DURABLE with the number n
abbrev pub publishing : Record → ℕ → Record
publishing v n = record v { steps = v.steps ++ Published n ∷ []; published = max v.published n }

-- SEE of the durable count d
abbrev pub seeing : Record → ℕ → List Command → Record
seeing v d between = record v { steps = v.steps ++ Saw d ∷ []; seen = v.seen ++ between }

-- FAIL
abbrev pub failing : Record → Record
failing v = record v { steps = v.steps ++ Failed ∷ []; failed = true }

-- ALIVE
abbrev pub living : Record → Bool → Record
living v is_alive = with_step (FoundAlive is_alive) v

-- the pass counts, as one of n
abbrev pub enrolling : Record → ℕ → Record
enrolling v n = record v { passes = n; enrolled = true }

-- the count of passes was found
abbrev pub meeting : Record → ℕ → Record
meeting v n = record v { passes = n }
