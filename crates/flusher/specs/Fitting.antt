-- What holds of a keeper between any two of its calls.
use Rattle.std.specs.Prelude.{◌≡◌, ℕ, ◌+◌, ◌<◌, ◌≤◌, ◌^◌, Bool, true, false, List, [], ◌∷◌, ◌++◌, length, IfSome, None}
use Rattle.std.specs.Prelude.{Result, Ok}
use Rattle.std.specs.List.{Contains}
use Rattle.disk_model.specs.Files.{Contents, Files, at_rest, now}
use Rattle.map_types.specs.declared.commands.Command.{Command}
use Rattle.map_types.specs.declared.refusals.Refusal.{Refusal}
use Rattle.map_model.specs.Histories.{History}
use Rattle.ticket_order.specs.declared.stripe.Entry.{Entry}
use Rattle.ticket_order.specs.declared.record.Record.{Record}
use Rattle.ticket_order.specs.declared.record.StepMade.{StepMade}
use Rattle.ticket_order.specs.Legality.{entries_from, history_of}
use Rattle.log_records.specs.Layout.{layout_of}
use Rattle.store_layout.specs.Checkpoints.{checkpoint_file, is_to_close}
use Rattle.store_layout.specs.Logs.{Batch, log_file}
use Rattle.store_layout.specs.Opening.{Opened as FoundStore, Holds, map_of, newest_of, prefix_of}
use Rattle.store_layout.specs.declared.log_phase.Phase.{Phase}
use Rattle.store_layout.specs.declared.log_phase.Phase.TheVariants.{Idle, Header, HeaderWritten, Staged, Written}
use Rattle.store_layout.specs.declared.log_phase.Phase.TheVariants.{Synced, Opened}
use Rattle.gate_log.specs.States.{LogState, batch_of, commands_of}
use Rattle.gate_log.specs.LogStates as gate_log
use Rattle.store_invariant.specs.States.{StoreState, Held}
use Rattle.store_invariant.specs.StoreStates as store
use Rattle.flusher.specs.declared.keeper.Keeper.{Keeper}
use Rattle.flusher.specs.Sweeping.{Stands}
use Rattle.flusher.specs.Rotating.{MayRotate}

-- the staged entries as a batch, or none
abbrev pub batches_of : ℕ → List Entry → List Batch
batches_of first [] = []
batches_of first (e ∷ es) = batch_of first (e ∷ es) ∷ []

-- what it knows of the store
abbrev pub store_of : {D : Type 0} → Keeper D → StoreState
store_of keeper = record { sealed = keeper.sealed; log = keeper.log; next = keeper.next; writer = keeper.checkpoint }

-- no part of it has failed
pub record IsUnbroken (store : StoreState) : Type 0 where
  pub log : store.log.is_broken ≡ false
  pub next : IfSome store.next (λ next. next.is_broken ≡ false)
  pub writer : IfSome store.writer (λ w. w.is_broken ≡ false)

-- The files hold a front of the history, with these entries staged as a batch, as the one knows who writes the store.
pub record HoldsFront (h : History) (state : StoreState) (staged : List Entry) (must_close : Bool)
    (files : Files) : Type 0 where
  pub held : Held
  pub stands : store.Stands h state held files
  pub staged_is : held.staged ≡ batches_of state.log.committed staged
  pub must_close_is : must_close ≡ is_to_close held.other

abbrev pub HoldsFor : {D : Type 0} → History → Keeper D → Files → Type 0
HoldsFor h keeper files = HoldsFront h (store_of keeper) keeper.staged.items keeper.must_close files

-- Whatever a stop leaves of these files stands for a front of the history, with the committed commands and no more than
-- the staged ones besides.
abbrev pub StopsFit : {D : Type 0} → History → Keeper D → Files → Type 0
StopsFit h keeper files =
    store.StopsStand h keeper.log.committed (keeper.log.committed + length keeper.staged.items) files

-- in these phases nothing is staged
abbrev pub IsEmptyIn : Phase → List Entry → Type 0
IsEmptyIn Idle staged = staged ≡ []
IsEmptyIn Header staged = staged ≡ []
IsEmptyIn HeaderWritten staged = staged ≡ []
IsEmptyIn Staged staged = Unit {0}
IsEmptyIn Written staged = Unit {0}
IsEmptyIn Synced staged = Unit {0}
IsEmptyIn Opened staged = Unit {0}

-- The log, the entries in hand and what is staged stand at the count after `done`.
pub record Counts {D : Type 0} (done : List Command) (keeper : Keeper D) (p : Record) : Type 0 where
  pub committed : p.opening.first + length done ≡ keeper.log.committed
  pub next : keeper.sweeper.in_hand.next ≡ keeper.log.committed
  pub count : keeper.log.count ≡ length keeper.staged.items
  pub tickets : keeper.staged.items ≡ entries_from keeper.log.committed (commands_of keeper.staged.items)
  pub fits : keeper.log.committed + length keeper.staged.items < 2 ^ 64
  pub empty : IsEmptyIn keeper.log.phase keeper.staged.items

-- What was published, and whether `fail` was called, are as the record says.
pub record Tells {D : Type 0} (keeper : Keeper D) (p : Record) : Type 0 where
  pub published : keeper.published ≡ p.published
  pub durable : keeper.published ≤ keeper.log.committed
  pub failed : keeper.has_failed ≡ p.failed

-- A checkpoint is written for as many stripes as the pass has.
pub record HasStripes {D : Type 0} (n : ℕ) (keeper : Keeper D) : Type 0 where
  pub count : keeper.stripes.count ≡ n
  pub writer : IfSome keeper.checkpoint (λ w. w.stripes ≡ n)

-- What the disk holds, if it gives what was written.
pub record Stores {D : Type 0} (states : D → List Files) (honest : D → Type 0) (keeper : Keeper D)
    (p : Record) : Type 0 where
  pub unbroken : keeper.is_broken ≡ false → IsUnbroken (store_of keeper)
  pub works : keeper.is_broken ≡ false → honest keeper.disk → HoldsFor (history_of p) keeper (now (states keeper.disk))
  pub stopped : keeper.is_broken ≡ true → honest keeper.disk → StopsFit (history_of p) keeper (now (states keeper.disk))

-- a record of this log may have each key that is within the limit of the pass's life
abbrev pub AllowsKeys : LogState → Record → Type 0
AllowsKeys log p = p.opening.key_limit ≤ (layout_of log.version).key_limit

-- The keeper over n stripes, and the record of its pass; the commands of `done` were committed since the pass's
-- opening.
pub record Fits {D : Type 0} (states : D → List Files) (honest : D → Type 0) (n : ℕ) (done : List Command)
    (keeper : Keeper D) (p : Record) : Type 0 where
  pub stands : Stands n keeper.sweeper (done ++ commands_of keeper.staged.items) p
  pub counts : Counts done keeper p
  pub tells : Tells keeper p
  pub stripes : HasStripes n keeper
  pub rotation : MayRotate keeper.next keeper.log keeper.staged.items
  pub keys : AllowsKeys keeper.log p
  pub stores : Stores states honest keeper p

-- the keeper over n stripes fits this record of its pass
abbrev pub IsKept : {D : Type 0} → (D → List Files) → (D → Type 0) → ℕ → Keeper D → Record → Type 0
IsKept states honest n keeper p = (done : List Command) × Fits states honest n done keeper p

-- it fits some record, of a pass over some stripes
abbrev pub IsFitting : {D : Type 0} → (D → List Files) → (D → Type 0) → Keeper D → Type 0
IsFitting states honest keeper = (n : ℕ) × (done : List Command) × (p : Record) × Fits states honest n done keeper p

-- it fits what it fitted before; no step was made
abbrev pub StillFits : {D : Type 0} → (D → List Files) → (D → Type 0) → Keeper D → Keeper D → Type 0
StillFits states honest before after =
    (n : ℕ) (done : List Command) (p : Record) → Fits states honest n done before p → Fits states honest n done after p

-- it fits what it fitted before, and perhaps more is committed; no step was made
abbrev pub FitsFurther : {D : Type 0} → (D → List Files) → (D → Type 0) → Keeper D → Keeper D → Type 0
FitsFurther states honest before after =
    (n : ℕ) (p : Record) (done : List Command) → Fits states honest n done before p
    → (more : List Command) × Fits states honest n more after p

-- if it fitted the pass's record, it fits the one that the pass has after its steps, and no more is committed
abbrev pub FitsOn : {D S : Type 0} → (D → List Files) → (D → Type 0) → (S → ℕ) → (S → Record)
    → Keeper D → S → Keeper D → S → Type 0
FitsOn states honest stripe_count recorded keeper steps keeper_after steps_after =
    (done : List Command) → Fits states honest (stripe_count steps) done keeper (recorded steps)
    → Fits states honest (stripe_count steps_after) done keeper_after (recorded steps_after)

-- what is committed after a step of the log
abbrev pub done_after : Result Phase Refusal → Phase → List Command → List Entry → List Command
done_after (Ok next) Opened done staged = done ++ commands_of staged
done_after result phase done staged = done

-- The record of a keeper's pass that has made no call of the keeper. Its life begins after `first` commands, and has
-- this limit for keys.
pub record IsUnused (first key_limit : ℕ) (p : Record) : Type 0 where
  pub opening : p.opening.first ≡ first
  pub limit : p.opening.key_limit ≡ key_limit
  pub keeper : p.keeper ≡ true
  pub free : p.holding ≡ None
  pub none_taken : p.taken ≡ []
  pub published : p.published ≡ first
  pub works : p.failed ≡ false

-- An opening found these files, in which nothing is pending. The sealed checkpoint is of this generation, the log goes
-- on behind the last batch, and the pass begins with the map that they stand for.
pub record IsFoundFor (p : Record) (sealed : ℕ) (log : LogState) (must_close : Bool) (files : Files) : Type 0 where
  pub contents : Contents
  pub settled : (n : ℕ) → n < 4 → files n ≡ at_rest (contents n)
  pub found : FoundStore
  pub holds : Holds contents found
  pub sealed_is : sealed ≡ found.checkpoint.generation
  pub generation : log.generation ≡ (newest_of found).generation
  pub low : log.low ≡ (newest_of found).low
  pub goes_on : gate_log.Stands log (newest_of found).batches [] (at_rest (contents (log_file log.generation)))
  pub must_close_is : must_close ≡ is_to_close (contents (checkpoint_file (sealed + 1)))
  pub first : p.opening.first ≡ prefix_of found
  pub map : p.opening.map ≡ map_of found

-- Neither DURABLE nor FAIL was made, and no call.
pub record IsQuiet (p w : Record) : Type 0 where
  pub opening : w.opening ≡ p.opening
  pub calls : w.calls ≡ p.calls
  pub published : w.published ≡ p.published
  pub failed : w.failed ≡ p.failed

-- the pass has seen what it had seen, and perhaps more
pub record HasSeenMore (p w : Record) : Type 0 where
  pub more : List Command
  pub is : w.seen ≡ p.seen ++ more

-- The pass made steps of calls and releases, none of them the keeper's.
pub record IsBeside (p w : Record) : Type 0 where
  pub opening : w.opening ≡ p.opening
  pub keeper : w.keeper ≡ p.keeper
  pub taken : w.taken ≡ p.taken
  pub published : w.published ≡ p.published
  pub failed : w.failed ≡ p.failed
  pub seen : HasSeenMore p w
  pub made : List StepMade
  pub steps : w.steps ≡ p.steps ++ made

-- The pass goes on from what it was, by steps of calls and releases alone: no capture of it kept a section either.
pub record GoesOnByCalls (p w : Record) : Type 0 where
  pub beside : IsBeside p w
  pub sections : w.sections ≡ p.sections

-- the sweeps of the pass took these commands, from this ticket on
abbrev pub WereTaken : ℕ → List Command → Record → Type 0
WereTaken first commands p = (e : Entry) → Contains (entries_from first commands) e → Contains p.taken e

-- What is committed is the front of the one history from the pass's opening on, and the pass's sweeps took each of its
-- entries.
pub record IsTakenFront (done : List Command) (count : ℕ) (p : Record) : Type 0 where
  pub rest : List Command
  pub front : p.seen ≡ done ++ rest
  pub reached : p.opening.first + length done ≡ count
  pub taken : WereTaken p.opening.first done p
