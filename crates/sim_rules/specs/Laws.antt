-- Laws of the machine, of whole runs, and of what the loop of a run keeps.
use Rattle.std.specs.Prelude.{◌≡◌, ◌⊎◌, ◌↔◌, ℕ, ◌≤◌, List, [], ◌∷◌, ◌++◌, drop, length, take, Some, None, true, false}
use Rattle.std.specs.FinMap as finite
use Rattle.std.specs.List.{AllByRecursion}
use Rattle.map_types.specs.declared.commands.Command.{Command}
use Rattle.map_model.specs.Maps.{Map}
use Rattle.map_model.specs.Histories.{History, fold_to}
use Rattle.map_model.specs.Steps.{fold_of}
use Rattle.ticket_order.specs.declared.record.Call.{Call}
use Rattle.ticket_order.specs.Legality.{IsLegalCall}
use Rattle.disk_model.specs.Files.{Files}
use Rattle.disk_model.specs.declared.fill.Fill.TheVariants.{New}
use Rattle.store_layout.specs.Opening.{Contents, Holds, Opened, StandsFor, StandsForFront}
use Rattle.store_layout.specs.SectionsAndLog.{reach}
use Rattle.store_layout.specs.Hands.{Hand, IsLongest}
use Rattle.sim_rules.specs.declared.event.Event.{Event}
use Rattle.sim_rules.specs.declared.event.Event.TheVariants as event
use Rattle.sim_rules.specs.declared.outcome.DeviceCall.{DeviceCall}
use Rattle.sim_rules.specs.declared.outcome.Outcome.{Outcome}
use Rattle.sim_rules.specs.declared.outcome.Outcome.TheVariants as outcome
use Rattle.sim_rules.specs.Machine.{Machine, Move, Calls, Releases, Stops, Opens, AreAllowed, machine_after, whole}
use Rattle.sim_rules.specs.World.{World, Life, next_commands, old_start, seen_of, start}
use Rattle.sim_rules.specs.Fitting.{fits}
use Rattle.sim_rules.specs.After.{after, entered, failed}
use Rattle.sim_rules.specs.Cases.{IsLongestRun, IsPossible, Meets}
use Rattle.sim_rules.specs.InHand.{IsHandOf}
use Rattle.sim_rules.specs.Runs.{Row, Happens, IsMove, IsRun, IsRunFrom, LeadsTo, OpensWell, is_old, rows_of}
use Rattle.sim_rules.specs.Sound.{AnswersLegally, IsFront, IsKnownOf, IsSound, IsSoundInside, IsSoundOutside}
use Rattle.sim_rules.specs.Sound.{OpensFront, Stays, durable_or, released_by}

-- ---- the machine

-- However many lives came after it, each reply that was released is one thread's at its position in the history.
abbrev pub ReleasedStayLegal : Type 0
ReleasedStayLegal = (moves : List Move) → AreAllowed moves
    → AllByRecursion (IsLegalCall (whole (machine_after moves).history)) (machine_after moves).released

-- ---- a history that is known from its opening on

-- its maps are those of the whole list
abbrev pub KnownFolds : Type 0
KnownFolds = (h : History) (history : List Command) → IsKnownOf h history → (q : ℕ) → h.first ≤ q → q ≤ reach h
    → fold_to h q ≡ fold_of (take q history)

-- what is legal in it is legal in the whole list
abbrev pub KnownIsLegal : Type 0
KnownIsLegal = (h : History) (history : List Command) → IsKnownOf h history → (call : Call) → IsLegalCall h call
    → IsLegalCall (whole history) call

-- and files that stand for a front of it stand for one of the whole list
abbrev pub KnownStands : Type 0
KnownStands = (h : History) (history : List Command) → IsKnownOf h history → (least most : ℕ) (contents : Contents) →
    StandsForFront h least most contents → StandsForFront (whole history) least most contents

-- ---- runs

-- what the outcomes are is a list of moves, each of which the machine allows after those before it
abbrev pub OutcomesAreMoves : Type 0
OutcomesAreMoves = (from : World) (rows : List Row) (w : World) (a : Machine) → LeadsTo from rows w a
    → (moves : List Move) × AreAllowed moves × (machine_after moves ≡ a)

-- each reply that a run released is one thread's at its position, whatever world it began with
abbrev pub RunsAnswerAsOneThread : Type 0
RunsAnswerAsOneThread =
    (from : World) (events : List Event) (outcomes : List Outcome) (run : IsRunFrom from events outcomes) →
    AllByRecursion (IsLegalCall (whole run.machine.history)) run.machine.released

-- a run begins with a new store, or with an Old and a directory of version 01
abbrev pub RunsBegin : Type 0
RunsBegin = (events : List Event) (outcomes : List Outcome) → IsRun events outcomes → IsRunFrom start events outcomes
    ⊎ ((more : List Event) × (others : List Outcome) × (events ≡ event.Old ∷ more) × (outcomes ≡ outcome.Old ∷ others)
    × IsRunFrom old_start more others)

-- an event is skipped exactly if it doesn't fit
abbrev pub SkippedWhereUnfit : Type 0
SkippedWhereUnfit = (w : World) (found : Opened) (e : Event) →
    (Meets w found e outcome.Skipped ↔ (fits w e ≡ false))
    × ((x : Outcome) → fits w e ≡ false → Meets w found e x → x ≡ outcome.Skipped)

-- an Old among the rows of a run is skipped, and changes nothing
abbrev pub OldIsSkipped : Type 0
OldIsSkipped = (w : World) (found : Opened) (x : Outcome) → Meets w found event.Old x
    → (x ≡ outcome.Skipped) × (after w found event.Old x ≡ w)

-- with one event more, and its outcome, there is one row more
abbrev pub RowsGoOn : Type 0
RowsGoOn = (events : List Event) (outcomes : List Outcome) (e : Event) (x : Outcome) → length outcomes ≡ length events →
    rows_of (events ++ e ∷ []) (outcomes ++ x ∷ []) ≡ (e, x) ∷ rows_of events outcomes

-- ---- what is staged

-- the longest run in a keeper's hand is the longest run in hand, and these commands are the next
abbrev pub LongestRunInHand : Type 0
LongestRunInHand = (w : World) (l : Life) (hand : Hand) (most : ℕ) (commands : List Command) → IsHandOf w l hand
    → IsLongest l.layout most hand commands →
    IsLongestRun w l most (length commands) × (next_commands w l (length commands) ≡ commands)

-- ---- the disk

-- The files of a world at the beginning stand for no command and the empty map.
abbrev pub BeginsEmpty : World → Type 0
BeginsEmpty from = StandsFor (seen_of from.files) 0 finite.empty

-- A call within which a stop falls leaves what it leaves when it fails and a write is read as made.
abbrev pub EnteredAsFailed : Type 0
EnteredAsFailed =
    (call : DeviceCall) (files : Files) → IsPossible files call → entered call files ≡ failed New call files

-- ---- what the loop of a run keeps

-- at the beginning
abbrev pub SoundAt : World → Type 0
SoundAt from = IsSoundOutside from [] from 0 []

-- an event of a life that is no move
abbrev pub QuietInside : Type 0
QuietInside = (from : World) (rows : List Row) (w : World) (durable : ℕ) (released : List Call) (row : Row) (w' : World)
    (durable' : ℕ) →
    IsSoundInside from rows w durable released → Happens w row w' → Stays w durable row w' durable'
    → IsMove w row.0 row.1 None → w'.history ≡ w.history → durable ≤ durable'
    → IsSoundInside from (row ∷ rows) w' durable' released

-- a TICKET
abbrev pub DrawsInside : Type 0
DrawsInside = (from : World) (rows : List Row) (w : World) (durable : ℕ) (released : List Call) (row : Row) (w' : World)
    (c : Command) →
    IsSoundInside from rows w durable released → Happens w row w' → Stays w durable row w' durable
    → IsMove w row.0 row.1 (Some (Calls c)) → w'.history ≡ w.history ++ c ∷ []
    → IsSoundInside from (row ∷ rows) w' durable released

-- a reply that is released
abbrev pub ReleasesInside : Type 0
ReleasesInside = (from : World) (rows : List Row) (w : World) (durable : ℕ) (released : List Call) (row : Row)
    (w' : World) (call : Call) →
    IsSoundInside from rows w durable released → Happens w row w' → Stays w durable row w' durable
    → IsMove w row.0 row.1 (Some (Releases call)) → w'.history ≡ w.history
    → IsLegalCall (whole w.history) call → call.position ≤ durable
    → IsSoundInside from (row ∷ rows) w' durable (call ∷ released)

-- a stop, or a life that is left
abbrev pub EndsInside : Type 0
EndsInside = (from : World) (rows : List Row) (w : World) (durable : ℕ) (released : List Call) (row : Row) (w' : World)
    (least : ℕ) →
    IsSoundInside from rows w durable released → Happens w row w' → Stays w durable row w' least
    → ((p : ℕ) → IsMove w row.0 row.1 (Some (Stops p))) → w'.history ≡ w.history → durable ≤ least
    → least ≤ length w.history
    → IsSoundOutside from (row ∷ rows) w' least released

-- a stop between lives
abbrev pub StopsOutside : Type 0
StopsOutside = (from : World) (rows : List Row) (w : World) (least : ℕ) (released : List Call) (row : Row) (w' : World)
    → IsSoundOutside from rows w least released
    → Happens w row w' → Stays w least row w' least → ((p : ℕ) → IsMove w row.0 row.1 (Some (Stops p)))
    → w'.history ≡ w.history → IsSoundOutside from (row ∷ rows) w' least released

-- an event between lives that is no move
abbrev pub QuietOutside : Type 0
QuietOutside = (from : World) (rows : List Row) (w : World) (least : ℕ) (released : List Call) (row : Row) (w' : World)
    → IsSoundOutside from rows w least released
    → Happens w row w' → Stays w least row w' least → IsMove w row.0 row.1 None → w'.history ≡ w.history
    → IsSoundOutside from (row ∷ rows) w' least released

-- an opening that finds the map after the first p commands, and loses none at whose position a reply was released
abbrev pub OpensOutside : Type 0
OpensOutside = (from : World) (rows : List Row) (w : World) (least : ℕ) (released : List Call) (row : Row) (w' : World)
    (p : ℕ) (m : Map) →
    IsSoundOutside from rows w least released → Happens w row w' → Stays w least row w' p
    → IsMove w row.0 row.1 (Some (Opens p m)) → w'.history ≡ take p w.history
    → least ≤ p → p ≤ length w.history → m ≡ fold_of (take p w.history) → IsSoundInside from (row ∷ rows) w' p released

-- ---- each event, by its case

-- In a life each event keeps it, if the reply that it may release is legal. If the life ends, it is kept for any count
-- from the durable one on.
abbrev pub LifeGoesOn : Type 0
LifeGoesOn = (from : World) (rows : List Row) (w : World) (l : Life) (released : List Call) (least : ℕ) (e : Event)
    (x : Outcome) (w' : World) →
    w.life ≡ Some l → IsSoundInside from rows w l.durable released → Happens w (e, x) w'
    → Stays w l.durable (e, x) w' (durable_or w'.life least) → AnswersLegally w e x
    → l.durable ≤ least → least ≤ length w.history → IsSound from ((e, x) ∷ rows) w' least (released_by w e x released)

-- Between lives each event keeps it, if an opening finds a front of the history.
abbrev pub NextLifeBegins : Type 0
NextLifeBegins = (from : World) (rows : List Row) (w : World) (released : List Call) (least : ℕ) (e : Event)
    (x : Outcome) (w' : World) →
    w.life ≡ None → IsSoundOutside from rows w least released → (happens : Happens w (e, x) w')
    → Stays w least (e, x) w' (durable_or w'.life least)
    → OpensFront w least happens.found x → IsSound from ((e, x) ∷ rows) w' least released

-- what files that stand for a front of the history are found to be
abbrev pub FrontIsFound : Type 0
FrontIsFound = (w : World) (least most : ℕ) (found : Opened) →
    Holds (seen_of w.files) found → StandsForFront (whole w.history) least most (seen_of w.files)
    → IsFront w least found

-- opening files that stand for something is refused only for want of memory, or by the device call that its event names
abbrev pub StandingFilesOpen : Type 0
StandingFilesOpen = (w : World) (p : ℕ) (m : Map) (e : Event) (x : Outcome) (w' : World) →
    StandsFor (seen_of w.files) p m → Happens w (e, x) w' → OpensWell (e, x)

-- ---- the end

-- What is kept to the end makes a run, whether the last life is over or not.
abbrev pub SoundIsRun : Type 0
SoundIsRun = (from : World) (events : List Event) (outcomes : List Outcome) (w : World) (durable : ℕ)
    (released : List Call) → length outcomes ≡ length events
    → IsSoundInside from (rows_of events outcomes) w durable released
    → AllByRecursion OpensWell (rows_of events outcomes) → IsRunFrom from events outcomes

abbrev pub SoundBetweenIsRun : Type 0
SoundBetweenIsRun = (from : World) (events : List Event) (outcomes : List Outcome) (w : World) (least : ℕ)
    (released : List Call) → length outcomes ≡ length events
    → IsSoundOutside from (rows_of events outcomes) w least released
    → AllByRecursion OpensWell (rows_of events outcomes) → IsRunFrom from events outcomes

-- If the events don't begin with an Old, this run is one that begins with a new store.
abbrev pub NewIsRun : Type 0
NewIsRun = (events : List Event) (outcomes : List Outcome) → is_old events ≡ false → IsRunFrom start events outcomes
    → IsRun events outcomes

-- If they do, a run of the events behind it from a directory of version 01 on, and an Old before its outcomes.
abbrev pub OldIsRun : Type 0
OldIsRun = (events : List Event) (outcomes : List Outcome) → is_old events ≡ true
    → IsRunFrom old_start (drop 1 events) outcomes → IsRun events (outcome.Old ∷ outcomes)
