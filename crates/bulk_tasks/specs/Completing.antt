-- What a whole view leaves of the record of its pass.
use Rattle.std.specs.Prelude.{◌≡◌, ℕ, ◌+◌, ◌≤◌, List, [], ◌∷◌, ◌++◌, length, fold, map, max, Result, Ok, Err}
use Rattle.map_types.specs.declared.refusals.Refusal.{Refusal}
use Rattle.map_types.specs.declared.refusals.Refusal.TheVariants.{Failed, NoMemory}
use Rattle.map_model.specs.Maps.{Map}
use Rattle.map_model.specs.Parts.{union_of}
use Rattle.map_model.specs.Histories.{History, fold_to}
use Rattle.ticket_order.specs.declared.record.Record.{Record}
use Rattle.ticket_order.specs.declared.record.Section.{Section}
use Rattle.ticket_order.specs.Records.{reach}
use Rattle.ticket_order.specs.Legality.{history_of}
use Rattle.ticket_order.specs.StepRules.{AllLegalSections}
use Rattle.flusher.specs.Fitting.{IsBeside}
use Rattle.durable_map.specs.Durable.{EndsDurable, EndsFailed}
use Rattle.bulk_tasks.specs.Parts.{parts_from}
use Rattle.bulk_tasks.specs.ViewState.{ViewState}

-- The view of n stripes of the history at these marks. It is the union of the parts of the stripes, each after as many
-- commands as its mark says.
abbrev pub view_of : ℕ → History → List ℕ → Map
view_of n h marks = union_of (parts_from n 0 (map (fold_to h) marks))

-- the greatest of the marks, or 0 if there is none
abbrev pub greatest_of : List ℕ → ℕ
greatest_of marks = fold max 0 marks

-- the marks don't fall, from low to high
abbrev pub Rising : ℕ → List ℕ → ℕ → Type 0
Rising low [] high = low ≤ high
Rising low (q ∷ marks) high = (low ≤ q) × Rising q marks high

-- the sections are those of the stripes from i on, one of each in turn, with these marks
abbrev pub AreInTurn : ℕ → List ℕ → List Section → Type 0
AreInTurn i [] [] = Unit {0}
AreInTurn i [] (x ∷ xs) = ⊥
AreInTurn i (q ∷ marks) [] = ⊥
AreInTurn i (q ∷ marks) (x ∷ xs) = (x.stripe ≡ i) × (x.mark ≡ q) × AreInTurn (i + 1) marks xs

-- The record gained a section of each of the first stripes, with these marks. Each is the part of its stripe after as
-- many commands as its mark says. The marks don't fall from stripe to stripe, are at least what the pass had seen
-- before, and at most what it has seen now.
pub record Captures (n : ℕ) (v : Record) (marks : List ℕ) (w : Record) : Type 0 where
  pub sections : List Section
  pub grew : w.sections ≡ v.sections ++ sections
  pub in_turn : AreInTurn 0 marks sections
  pub legal : AllLegalSections n w sections
  pub rising : Rising (reach v) marks (reach w)

-- A view of all stripes was returned: that of the history at the marks of the sections that were captured. The last
-- step is a SEE that reached the greatest mark, so that all marks are durable.
pub record AnswersView (n : ℕ) (v : Record) (view : ViewState) (w : Record) : Type 0 where
  pub captures : Captures n v view.marks w
  pub whole : length view.marks ≡ n
  pub map_is : view.map ≡ view_of n (history_of w) view.marks
  pub durable : EndsDurable v (greatest_of view.marks) w

-- No memory was found: a section of each of the first stripes was captured, and no other.
pub record LacksMemory (n : ℕ) (v : Record) (w : Record) : Type 0 where
  pub marks : List ℕ
  pub captures : Captures n v marks w
  pub within : length marks ≤ n

-- All stripes were captured, and the store has failed before the greatest mark became durable.
pub record FindsFailure (n : ℕ) (v : Record) (w : Record) : Type 0 where
  pub marks : List ℕ
  pub captures : Captures n v marks w
  pub whole : length marks ≡ n
  pub failed : EndsFailed v (greatest_of marks) w

-- what a view adds to the record, by its answer
abbrev pub AddsView : ℕ → Record → Result ViewState Refusal → Record → Type 0
AddsView n v (Ok view) w = AnswersView n v view w
AddsView n v (Err NoMemory) w = LacksMemory n v w
AddsView n v (Err Failed) w = FindsFailure n v w
AddsView n v (Err other) w = ⊥

-- What a view leaves. Whatever it returns, it adds no call, and the pass goes on from what it was, so that its calls
-- stay those of one history.
pub record CompletesView (n : ℕ) (v : Record) (result : Result ViewState Refusal) (w : Record) : Type 0 where
  pub beside : IsBeside v w
  pub calls : w.calls ≡ v.calls
  pub adds : AddsView n v result w
