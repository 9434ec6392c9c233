-- What passes have seen of the one history, and that their records are of one.
use Rattle.std.specs.Prelude.{◌≡◌, ℕ, ◌<◌, ◌⊎◌, List, [], ◌++◌, length, Option, nat_lt, if◌then◌else◌}
use Rattle.std.specs.List.{All}
use Rattle.std.specs.FinMap as finite
use Rattle.atomic_table.specs.Table.{Step}
use Rattle.map_types.specs.declared.commands.Command.{Command}
use Rattle.ticket_order.specs.declared.stripe.Stripe.{Stripe}
use Rattle.ticket_order.specs.declared.record.Record.{Record}
use Rattle.ticket_order.specs.Records.{newcomer}
use Rattle.ticket_order.specs.Legality.{entries_from}
use Rattle.one_history.specs.declared.book.Book.{Book}
use Rattle.one_history.specs.declared.book.PassStep.{PassStep}
use Rattle.one_history.specs.Turns.{record_of}
use Rattle.one_history.specs.OneHistory.{IsFront, IsOneHistory, HoldApart, StaysSo}
use Rattle.stripe_locks.specs.declared.view.SeatView.{SeatView}
use Rattle.stripe_locks.specs.Rule.{BearsOut, commands_of}
use Rattle.stripe_locks.specs.Plays.{Sat, stepless}

-- one goes on from the other
abbrev pub AreComparable : List Command → List Command → Type 0
AreComparable xs ys = IsFront xs ys ⊎ IsFront ys xs

-- the later of two fronts of one order
abbrev pub later_of : List PassStep → List PassStep → List PassStep
later_of xs ys = if nat_lt (length xs) (length ys) then ys else xs

-- The view of a seat that is no pass's any more. It lists two passes, and keeps what both have seen, and the one order
-- with the steps of both. If the other is the keeper's, it keeps also the steps of the one, with what the keeper
-- published and whether it failed.
abbrev pub both_fronts : SeatView → SeatView → SeatView
both_fronts v w = record {
  pass = record (newcomer v.pass.opening) {
    seen = v.pass.seen;
    taken = entries_from 0 w.pass.seen;
    steps = if w.pass.keeper then v.pass.steps else [];
    published = w.pass.published;
    failed = w.pass.failed;
  };
  order = later_of v.order w.order;
  places = v.places ++ w.places;
}

abbrev pub no_front : SeatView
no_front = stepless (newcomer (record { first = 0; map = finite.empty; key_limit = 0 }))

abbrev pub compared : Step (Option Stripe) → Sat → ℕ → Sat → Type 0
compared st m r m' = AreComparable m.0.pass.seen (commands_of m.0.pass.taken)
    × All (BearsOut m.0.pass.published m.0.pass.failed) m.0.pass.steps

-- There is one history of all passes on the words, and this is the record of one of them. What each of its steps found
-- is what the words held then.
pub record StandsInOneHistory (v : Record) : Type 0 where
  pub book : Book
  pub place : ℕ
  pub within : place < length book.passes
  pub is : record_of place book ≡ v
  pub begins : book.opening ≡ v.opening
  pub one : IsOneHistory book
  pub apart : HoldApart book
  pub stays : All (StaysSo book place) v.steps

abbrev pub attested : Step (Option Stripe) → Sat → ℕ → Sat → Type 0
attested st m r m' = (m'.1 ≡ m.1) × (m'.0 ≡ m.0) × StandsInOneHistory m.0.pass
