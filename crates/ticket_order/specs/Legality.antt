-- The one history as a pass has seen it, and what is legal in it.
use Rattle.std.specs.Prelude.{◌≡◌, ℕ, ◌+◌, ◌≤◌, max, List, [], ◌∷◌, ◌++◌, length}
use Rattle.std.specs.List.{filter}
use Rattle.map_types.specs.declared.commands.Command.{Command}
use Rattle.map_types.specs.declared.commands.Reply.{Reply}
use Rattle.map_model.specs.Maps.{Map}
use Rattle.map_model.specs.Parts.{part_of, is_in_stripe}
use Rattle.map_model.specs.Steps.{map_after}
use Rattle.map_model.specs.Histories.{History, fold_to, IsLegalChange, IsLegalRead}
use Rattle.ticket_order.specs.declared.stripe.Entry.{Entry}
use Rattle.ticket_order.specs.declared.record.Opening.{Opening}
use Rattle.ticket_order.specs.declared.record.Asked.{Asked}
use Rattle.ticket_order.specs.declared.record.Asked.TheVariants.{Changing, Reading}
use Rattle.ticket_order.specs.declared.record.Call.{Call}
use Rattle.ticket_order.specs.declared.record.Section.{Section}
use Rattle.ticket_order.specs.declared.record.Record.{Record}
use Rattle.ticket_order.specs.Records.{entry, past}

-- the history that goes on from the opening with these commands
abbrev pub history_from : Opening → List Command → History
history_from o commands = record { first = o.first; opening = o.map; commands = commands }

-- the front of the one history that the pass has seen
abbrev pub history_of : Record → History
history_of v = history_from v.opening v.seen

-- the call with this position and reply is one thread's in the history
abbrev pub IsLegal : History → ℕ → Asked → Reply → Type 0
IsLegal h position (Changing c) reply = IsLegalChange h position c reply
IsLegal h position (Reading r) reply = IsLegalRead h position r reply

abbrev pub IsLegalCall : History → Call → Type 0
IsLegalCall h x = IsLegal h x.position x.asked x.reply

-- the section is the part of its stripe, of n stripes, after the first `mark` commands
pub record IsLegalSection (n : ℕ) (h : History) (x : Section) : Type 0 where
  pub from_first : h.first ≤ x.mark
  pub within : x.mark ≤ h.first + length h.commands
  pub part_is : part_of n x.stripe (fold_to h x.mark) ≡ x.part

-- the commands with their tickets, from t on
abbrev pub entries_from : ℕ → List Command → List Entry
entries_from t [] = []
entries_from t (c ∷ cs) = entry t c ∷ entries_from (t + 1) cs

-- the entries whose key has the stripe i of n
abbrev pub entries_of : ℕ → ℕ → List Entry → List Entry
entries_of n i es = filter (λ e. is_in_stripe n i e.command.key) es

-- One past the greatest ticket of the stripe i of n, if the first of these commands has the ticket `first`. It is
-- `first` if no key of them has that stripe.
abbrev pub last_of : ℕ → ℕ → ℕ → List Command → ℕ
last_of n i first commands = max first (past (entries_of n i (entries_from first commands)))

-- The content of stripe i of n after the commands, of whose entries the sweeps took `taken`. The part is the stripe's
-- part of the map. The outbox is exactly those of its entries that no sweep took, in the order of their tickets. `last`
-- is one past the stripe's greatest ticket, if it has one.
pub record IsContent (o : Opening) (n : ℕ) (commands : List Command) (taken : List Entry) (i : ℕ) (part : Map)
    (outbox : List Entry) (last : ℕ) : Type 0 where
  pub part_is : part_of n i (map_after o.map commands) ≡ part
  pub outbox_is : entries_of n i (entries_from o.first commands) ≡ entries_of n i taken ++ outbox
  pub last_is : last ≡ last_of n i o.first commands
