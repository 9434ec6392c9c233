-- What each step leaves of the book.
use Rattle.std.specs.Prelude.{ℕ, ◌+◌, ◌-◌, max, List, [], ◌∷◌, ◌++◌, length, take, drop, map, true, false, not}
use Rattle.std.specs.Prelude.{slice_index_or, slice_set, replicate}
use Rattle.map_types.specs.declared.commands.Command.{Command}
use Rattle.map_model.specs.Maps.{Map}
use Rattle.map_model.specs.Parts.{union_of}
use Rattle.atomic_methods.specs.PartState.{PartState}
use Rattle.ticket_order.specs.declared.stripe.Stripe.{Stripe}
use Rattle.ticket_order.specs.declared.record.Opening.{Opening}
use Rattle.ticket_order.specs.declared.record.Purpose.{Purpose}
use Rattle.ticket_order.specs.declared.record.Purpose.TheVariants.{Answer}
use Rattle.ticket_order.specs.declared.record.StepMade.{StepMade}
use Rattle.ticket_order.specs.declared.record.StepMade.TheVariants as made
use Rattle.ticket_order.specs.declared.record.Record.{Record}
use Rattle.ticket_order.specs.Records.{past, stripe_held, newcomer, keeper_at_start, enrolling, missing, taking}
use Rattle.ticket_order.specs.Records.{looking, drawing, giving, answering, last_held, swept_by, publishing, seeing}
use Rattle.ticket_order.specs.Records.{failing, living}
use Rattle.one_history.specs.declared.book.Book.{Book}
use Rattle.one_history.specs.declared.book.PassStep.{PassStep}
use Rattle.one_history.specs.Interleaving.{Words, words_at, words_after}

-- the record of the pass j
abbrev pub record_of : ℕ → Book → Record
record_of j b = slice_index_or b.passes j (newcomer b.opening)

abbrev pub pass_step : ℕ → StepMade → PassStep
pass_step j s = record { pass = j; step = s }

-- the step s of the pass j, whose record is v after it
abbrev pub with_step_by : ℕ → StepMade → Record → Book → Book
with_step_by j s v b = record b { passes = slice_set b.passes j v; interleaving = b.interleaving ++ pass_step j s ∷ [] }

-- what the words hold
abbrev pub words_of : Book → Words
words_of b = words_after (words_at b.opening) b.interleaving

-- what the pass has not seen of the history
abbrev pub unseen : Record → List Command → List Command
unseen v h = drop (length v.seen) h

-- what it has not seen of the history up to the position n
abbrev pub unseen_to : ℕ → Record → List Command → List Command
unseen_to n v h = unseen v (take (n - v.opening.first) h)

-- TAKE of a free stripe by the pass j, which then has seen each change that lies in its outbox
abbrev pub took : ℕ → ℕ → Stripe → Book → Book
took j i content b =
    let v : Record = record_of j b in
    with_step_by j (made.Took i content.outbox.items content.last)
    (taking v i content.part.map content.outbox.items content.last
    (unseen_to (past content.outbox.items) v b.history)) b

-- TAKE of a stripe that another holds
abbrev pub found_held : ℕ → ℕ → Book → Book
found_held j i b = with_step_by j (made.FoundHeld i) (missing (record_of j b) i) b

-- what a GIVE leaves of the record: if it makes a read, the pass has then seen the history up to the stripe's last
-- ticket
abbrev pub given : Purpose → Record → List Command → Record
given (Answer r) v h = answering r v (unseen_to (last_held v.holding) v h)
given p v h = giving p v

-- GIVE
abbrev pub gave : ℕ → Purpose → Book → Book
gave j p b = record (with_step_by j (made.Gave (stripe_held (record_of j b).holding))
    (given p (record_of j b) b.history) b) {
      effects = record b.effects {
        taken = b.effects.taken
            ++ swept_by p (record_of j b).holding;
      };
    }

-- TICKET: the change stands at the end of the history
abbrev pub drew : ℕ → Command → Book → Book
drew j c b =
    let v : Record = record_of j b in let between : List Command = unseen v b.history in
    record (with_step_by j (made.Drew (v.opening.first + length (v.seen ++ between)))
    (drawing v between c) b) { history = b.history ++ c ∷ []; authors = b.authors ++ j ∷ [] }

-- LOOK
abbrev pub looked : ℕ → Book → Book
looked j b =
    let v : Record = record_of j b in let between : List Command = unseen v b.history in
    with_step_by j (made.Looked (v.opening.first + length (v.seen ++ between))) (looking v between) b

-- DURABLE
abbrev pub published : ℕ → ℕ → Book → Book
published j n b = record (with_step_by j (made.Published n)
    (publishing (record_of j b) n) b) { effects = record b.effects { durable = max b.effects.durable n } }

-- SEE
abbrev pub saw : ℕ → Book → Book
saw j b = with_step_by j (made.Saw b.effects.durable)
    (seeing (record_of j b) b.effects.durable (unseen_to b.effects.durable (record_of j b) b.history)) b

-- FAIL
abbrev pub failed : ℕ → Book → Book
failed j b =
    record (with_step_by j made.Failed (failing (record_of j b)) b) { effects = record b.effects { failed = true } }

-- ALIVE
abbrev pub found_alive : ℕ → Book → Book
found_alive j b =
    with_step_by j (made.FoundAlive (not b.effects.failed)) (living (record_of j b) (not b.effects.failed)) b

-- one more pass, which has made no step
abbrev pub joined : Book → Book
joined b = record b { passes = b.passes ++ enrolling (newcomer b.opening) (length b.passes + 1) ∷ [] }

-- no step was made; the keeper's pass comes after those of the workers
abbrev pub started : Opening → ℕ → ℕ → Book
started o stripes workers = record {
  opening = o;
  stripes = stripes;
  history = [];
  authors = [];
  passes = replicate workers (enrolling (newcomer o) (workers + 1)) ++ enrolling (keeper_at_start o) (workers + 1) ∷ [];
  effects = record { keeper = workers; taken = []; durable = o.first; failed = false };
  interleaving = [];
}

-- the maps of the parts
abbrev pub maps_of : List PartState → List Map
maps_of parts = map (λ (p : PartState). p.map) parts

-- the first changes are known by the union of the parts, and later ones have keys within the limit
abbrev pub opening_of : ℕ → List PartState → ℕ → Opening
opening_of first parts limit = record { first = first; map = union_of (maps_of parts); key_limit = limit }

abbrev pub at_start : ℕ → List PartState → ℕ → ℕ → Book
at_start first parts limit workers = started (opening_of first parts limit) (length parts) workers
