-- What may come of an event of a worker, by what came before it. The clauses of one definition exclude each other.
use Rattle.std.specs.Prelude.{◌≡◌, ℕ, ◌+◌, ◌<◌, ◌≤◌, max, length, true, false, not}
use Rattle.map_types.specs.declared.commands.Command.{Command}
use Rattle.map_types.specs.declared.refusals.Refusal.TheVariants as refusal
use Rattle.ticket_order.specs.declared.record.Asked.{Asked}
use Rattle.ticket_order.specs.declared.record.Asked.TheVariants.{Changing, Reading}
use Rattle.ticket_order.specs.Records.{ticket_limit}
use Rattle.sim_rules.specs.declared.outcome.End.{End}
use Rattle.sim_rules.specs.declared.outcome.End.TheVariants as ends
use Rattle.sim_rules.specs.declared.outcome.Made.{Made}
use Rattle.sim_rules.specs.declared.outcome.Made.TheVariants as made
use Rattle.sim_rules.specs.declared.outcome.Outcome.{Outcome}
use Rattle.sim_rules.specs.declared.outcome.Outcome.TheVariants as outcome
use Rattle.sim_rules.specs.World.{World, Life, Job, Idle, Walks, Keeps, Releasing, Stage, Begins, HasTaken, IsAlive}
use Rattle.sim_rules.specs.World.{IsDead, HasLooked, HasDrawn, Asking, FirstSees, HasMissed, FoundFailure, count}
use Rattle.sim_rules.specs.World.{is_held, last_on, seen_by, stripe_asked}

-- ---- a change begins

-- A change begins its walk if its key is within the limit of the life. Else it is refused with 2, and no walk begins.
abbrev pub BeginsChange : Life → Command → Outcome → Type 0
BeginsChange l c outcome.Started = length c.key ≤ l.key_limit
BeginsChange l c (outcome.Refused refusal.KeyTooLong) = l.key_limit < length c.key
BeginsChange l c x = ⊥

-- ---- the steps of a call

-- TAKE finds the word held exactly if another has it; then the call is over, with refusal 8.
abbrev pub TakesForCall : Life → ℕ → Made → End → Type 0
TakesForCall l stripe (made.Took i) ends.Goes = (i ≡ stripe) × (is_held l stripe ≡ false)
TakesForCall l stripe (made.FoundHeld i) (ends.Refused (refusal.Busy j)) =
    (i ≡ stripe) × (j ≡ stripe) × (is_held l stripe ≡ true)
TakesForCall l stripe m end = ⊥

-- ALIVE says no exactly if a FAIL of this life came before.
abbrev pub FindsAlive : Life → Made → End → Type 0
FindsAlive l (made.FoundAlive is_alive) ends.Goes = is_alive ≡ not l.has_failed
FindsAlive l m end = ⊥

-- After an ALIVE that said no the stripe is given back, with refusal 9.
abbrev pub GivesUp : ℕ → Made → End → Type 0
GivesUp stripe (made.Gave i) (ends.Refused refusal.Failed) = i ≡ stripe
GivesUp stripe m end = ⊥

-- LOOK gives the ticket count.
abbrev pub LooksAround : World → Made → End → Type 0
LooksAround w (made.Looked n) ends.Goes = n ≡ count w
LooksAround w m end = ⊥

-- TICKET gives the ticket count. After a LOOK of 2^62 or more the stripe is given back instead, with refusal 10. If
-- memory is wanting, it is given back with refusal 7.
abbrev pub DrawsTicket : World → ℕ → ℕ → Made → End → Type 0
DrawsTicket w stripe n (made.Drew ticket) ends.Goes = (ticket ≡ count w) × (n < ticket_limit)
DrawsTicket w stripe n (made.Gave i) (ends.Refused refusal.TicketsSpent) = (i ≡ stripe) × (ticket_limit ≤ n)
DrawsTicket w stripe n (made.Gave i) (ends.Refused refusal.NoMemory) = (i ≡ stripe) × (n < ticket_limit)
DrawsTicket w stripe n m end = ⊥

-- A change that ends with a held reply has the position one past its ticket.
abbrev pub GivesChange : ℕ → ℕ → Made → End → Type 0
GivesChange stripe ticket (made.Gave i) (ends.Held position) = (i ≡ stripe) × (position ≡ ticket + 1)
GivesChange stripe ticket m end = ⊥

-- A read has as its position the greater of what its pass had seen and of one past the last ticket that was drawn on
-- its stripe; or memory is wanting, with refusal 7.
abbrev pub GivesRead : World → Life → ℕ → ℕ → Made → End → Type 0
GivesRead w l worker stripe (made.Gave i) (ends.Held position) =
    (i ≡ stripe) × (position ≡ max (seen_by l worker) (last_on w l stripe))
GivesRead w l worker stripe (made.Gave i) (ends.Refused refusal.NoMemory) = i ≡ stripe
GivesRead w l worker stripe m end = ⊥

-- After an ALIVE that said yes a change goes on with its LOOK, and a read with its GIVE.
abbrev pub GoesOnAlive : World → Life → ℕ → ℕ → Asked → Made → End → Type 0
GoesOnAlive w l worker stripe (Changing c) m end = LooksAround w m end
GoesOnAlive w l worker stripe (Reading r) m end = GivesRead w l worker stripe m end

-- A read makes no LOOK.
abbrev pub GoesOnAfterLook : World → ℕ → Asked → ℕ → Made → End → Type 0
GoesOnAfterLook w stripe (Changing c) n m end = DrawsTicket w stripe n m end
GoesOnAfterLook w stripe (Reading r) n m end = ⊥

-- A change of a worker walks TAKE, ALIVE, LOOK, TICKET, GIVE; a read TAKE, ALIVE, GIVE.
abbrev pub StepsCall : World → Life → ℕ → ℕ → Asked → Stage → Made → End → Type 0
StepsCall w l worker stripe asked Begins m end = TakesForCall l stripe m end
StepsCall w l worker stripe asked HasTaken m end = FindsAlive l m end
StepsCall w l worker stripe asked IsAlive m end = GoesOnAlive w l worker stripe asked m end
StepsCall w l worker stripe asked IsDead m end = GivesUp stripe m end
StepsCall w l worker stripe asked (HasLooked n) m end = GoesOnAfterLook w stripe asked n m end
StepsCall w l worker stripe asked (HasDrawn ticket) m end = GivesChange stripe ticket m end

-- ---- the steps of a release

-- SEE gives the durable count. The reply is released, with its position, exactly if that count reaches the position.
abbrev pub SeesFirst : Life → ℕ → Made → End → Type 0
SeesFirst l position (made.Saw n) (ends.Replied q reply) = (n ≡ l.durable) × (position ≤ n) × (q ≡ position)
SeesFirst l position (made.Saw n) ends.Goes = (n ≡ l.durable) × (n < position)
SeesFirst l position m end = ⊥

-- Below it, the reply isn't durable yet if ALIVE says yes.
abbrev pub AsksAlive : Life → Made → End → Type 0
AsksAlive l (made.FoundAlive is_alive) ends.NotYet = (is_alive ≡ true) × (is_alive ≡ not l.has_failed)
AsksAlive l (made.FoundAlive is_alive) ends.Goes = (is_alive ≡ false) × (is_alive ≡ not l.has_failed)
AsksAlive l m end = ⊥

-- If it said no, the reply is released if a second SEE reaches the position, and else given up.
abbrev pub SeesLast : Life → ℕ → Made → End → Type 0
SeesLast l position (made.Saw n) (ends.Replied q reply) = (n ≡ l.durable) × (position ≤ n) × (q ≡ position)
SeesLast l position (made.Saw n) ends.Failed = (n ≡ l.durable) × (n < position)
SeesLast l position m end = ⊥

-- A release walks SEE, ALIVE, SEE.
abbrev pub StepsRelease : Life → ℕ → Asking → Made → End → Type 0
StepsRelease l position FirstSees m end = SeesFirst l position m end
StepsRelease l position HasMissed m end = AsksAlive l m end
StepsRelease l position FoundFailure m end = SeesLast l position m end

abbrev pub StepsJob : World → Life → ℕ → Job → Made → End → Type 0
StepsJob w l worker Idle m end = ⊥
StepsJob w l worker (Walks asked stage) m end = StepsCall w l worker (stripe_asked l.stripes asked) asked stage m end
StepsJob w l worker (Keeps asked position) m end = ⊥
StepsJob w l worker (Releasing asked position asking) m end = StepsRelease l position asking m end
