-- What the events and outcomes so far say of a store: its files, its history, and in a life its workers, its keeper and
-- its counts.
use Rattle.std.specs.Prelude.{ℕ, ◌+◌, ◌-◌, max, List, [], ◌∷◌, length, take, drop, replicate, slice_index_or, Option}
use Rattle.std.specs.Prelude.{Some, None, Bool, true, false, ◌&&◌, ◌||◌, ◌==◌, nat_lt, if◌then◌else◌}
use Rattle.java_hash.specs.Stripes.{stripe_of}
use Rattle.map_types.specs.declared.commands.Command.{Command}
use Rattle.map_model.specs.Parts.{is_in_stripe}
use Rattle.log_records.specs.Layout.{Layout}
use Rattle.ticket_order.specs.declared.record.Asked.{Asked}
use Rattle.ticket_order.specs.declared.record.Asked.TheVariants.{Changing, Reading}
use Rattle.ticket_order.specs.Legality.{last_of}
use Rattle.disk_model.specs.Files.{Contents, Files}
use Rattle.store_layout.specs.Checkpoints.{Section}
use Rattle.store_layout.specs.Logs.{Batch, frame, log_file}
use Rattle.store_layout.specs.Opening.{FoundLog, Opened, gate_in, key_limit_of, log_layout, newest_of, prefix_of}
use Rattle.store_layout.specs.FirstFiles.{new_files, old_files}

-- ---- workers

-- How far the walk of a call is, by the last step that it made: none; TAKE; ALIVE that said yes, or no; of a change
-- besides LOOK; TICKET.
pub data Stage : Type 0 where
  Begins : Stage
  HasTaken : Stage
  IsAlive : Stage
  IsDead : Stage
  HasLooked : ℕ → Stage
  HasDrawn : ℕ → Stage

-- How far the walk of a release is: no step; a SEE below the position; after it an ALIVE that said no.
pub data Asking : Type 0 where
  FirstSees : Asking
  HasMissed : Asking
  FoundFailure : Asking

pub data Job : Type 0 where
  Idle : Job
  -- the walk of this call is under way
  Walks : Asked → Stage → Job
  -- the call was made, and its reply is held at this position
  Keeps : Asked → ℕ → Job
  -- the walk of the release of that reply is under way
  Releasing : Asked → ℕ → Asking → Job

-- ---- the keeper

-- Where the entry of a ticket of this life is: its change has still to give its stripe back; it lies in the stripe's
-- outbox; a sweep took it.
pub data Place : Type 0 where
  WithWorker : Place
  InOutbox : Place
  InHand : Place

-- a sweep that was begun and isn't over: the count that its LOOK found, and the stripe that is its next
pub record Sweep : Type 0 where
  pub count : ℕ
  pub stripe : ℕ

-- What the keeper walks: nothing; a sweep that comes to its TAKE, or to its GIVE; a capture that comes to its LOOK, or
-- with what that found to its GIVE.
pub data KeeperWalk : Type 0 where
  Rests : KeeperWalk
  SweepTakes : KeeperWalk
  SweepGives : KeeperWalk
  CaptureLooks : KeeperWalk
  CaptureGives : ℕ → KeeperWalk

-- What the log is at: nothing; a batch, by how many commands it has and how many device calls are left to make; or a
-- rotation, by how many device calls are left to make.
pub data LogWork : Type 0 where
  Resting : LogWork
  Committing : ℕ → ℕ → LogWork
  Rotating : ℕ → LogWork

-- a checkpoint that is written
pub record Running : Type 0 where
  pub generation : ℕ
  -- how many device calls are left before its first section
  pub clears : ℕ
  -- what was captured
  pub sections : List Section
  -- the last of them is still to be written
  pub is_waiting : Bool
  -- how many device calls of the seal are left, 0 if none was begun
  pub seals : ℕ

-- ---- the store

pub record Life : Type 0 where
  pub stripes : ℕ
  -- how many commands the opening found
  pub first : ℕ
  -- the most bytes that the key of a change may have in this life
  pub key_limit : ℕ
  pub jobs : List Job
  -- of each worker's pass, the greatest position that it has seen, at first that of the opening
  pub seen : List ℕ
  -- of the tickets of this life, in order
  pub places : List Place
  pub sweep : Option Sweep
  pub walk : KeeperWalk
  -- the count that was published last, at first that of the opening
  pub durable : ℕ
  -- a FAIL was made
  pub has_failed : Bool
  -- a device call has failed
  pub is_broken : Bool
  pub committed : ℕ
  pub log : LogWork
  -- the generation of the newest log, its layout, and where its gate stands that counts
  pub newest : ℕ
  pub layout : Layout
  pub gate : ℕ
  -- the generation of the sealed checkpoint
  pub sealed : ℕ
  pub checkpoint : Option Running

pub record World : Type 0 where
  pub files : Files
  -- all commands in the order of their tickets; those that a stop took away leave it at the next opening
  pub history : List Command
  pub life : Option Life

-- ---- the beginning

-- a store that was formatted for 16 stripes, and no life
unfoldable pub start : World
start = record { files = new_files 16; history = []; life = None }

-- and one that was formatted in version 01
unfoldable pub old_start : World
old_start = record { files = old_files 16; history = []; life = None }

-- The first life's beginning, and each later one's: what was found in these contents is committed and published, and
-- nothing is under way.
unfoldable pub begun_by : ℕ → Contents → Opened → Life
begun_by stripes contents found =
    let newest : FoundLog = newest_of found in
    let content : List ℕ = contents (log_file newest.generation) in
    record {
      stripes = stripes;
      first = prefix_of found;
      key_limit = key_limit_of contents found;
      jobs = replicate 64 Idle;
      seen = replicate 64 (prefix_of found);
      places = [];
      sweep = None;
      walk = Rests;
      durable = prefix_of found;
      has_failed = false;
      is_broken = false;
      committed = prefix_of found;
      log = Resting;
      newest = newest.generation;
      layout = log_layout content;
      gate = gate_in content newest;
      sealed = found.checkpoint.generation;
      checkpoint = None;
    }

-- ---- what can be read off

-- the ticket count
abbrev pub count : World → ℕ
count w = length w.history

-- what a read gives of each file
abbrev pub seen_of : Files → Contents
seen_of files = λ number. (files number).seen

-- the stripe of the call's key
abbrev pub stripe_asked : ℕ → Asked → ℕ
stripe_asked stripes (Changing c) = stripe_of stripes c.key
stripe_asked stripes (Reading r) = stripe_of stripes r.key

abbrev pub job_of : Life → ℕ → Job
job_of l worker = slice_index_or l.jobs worker Idle

-- the greatest position that the worker's pass has seen
abbrev pub seen_by : Life → ℕ → ℕ
seen_by l worker = slice_index_or l.seen worker 0

abbrev pub is_idle : Job → Bool
is_idle Idle = true
is_idle job = false

-- its next step is to be made
abbrev pub is_walking : Job → Bool
is_walking (Walks asked stage) = true
is_walking (Releasing asked position asking) = true
is_walking job = false

abbrev pub is_keeping : Job → Bool
is_keeping (Keeps asked position) = true
is_keeping job = false

-- its TAKE was made
abbrev pub has_stripe : Stage → Bool
has_stripe Begins = false
has_stripe stage = true

-- the worker has the word of this stripe
abbrev pub job_holds : ℕ → ℕ → Job → Bool
job_holds stripes stripe (Walks asked stage) = has_stripe stage && stripe_asked stripes asked == stripe
job_holds stripes stripe job = false

abbrev pub any_holds : ℕ → ℕ → List Job → Bool
any_holds stripes stripe [] = false
any_holds stripes stripe (job ∷ jobs) = job_holds stripes stripe job || any_holds stripes stripe jobs

-- the stripe whose section is the next
abbrev pub next_section : Option Running → ℕ
next_section None = 0
next_section (Some running) = length running.sections

-- a sweep that has looked, or one from the start
abbrev pub sweep_or : Option Sweep → Sweep
sweep_or None = record { count = 0; stripe = 0 }
sweep_or (Some sweep) = sweep

-- the keeper has the word of this stripe
abbrev pub keeper_holds : Life → ℕ → KeeperWalk → Bool
keeper_holds l stripe Rests = false
keeper_holds l stripe SweepTakes = false
keeper_holds l stripe SweepGives = (sweep_or l.sweep).stripe == stripe
keeper_holds l stripe CaptureLooks = next_section l.checkpoint == stripe
keeper_holds l stripe (CaptureGives mark) = next_section l.checkpoint == stripe

abbrev pub is_held : Life → ℕ → Bool
is_held l stripe = any_holds l.stripes stripe l.jobs || keeper_holds l stripe l.walk

-- one past the last ticket of this life that was drawn on this stripe, or the count at the opening if there is none
abbrev pub last_on : World → Life → ℕ → ℕ
last_on w l stripe = last_of l.stripes stripe l.first (drop l.first w.history)

-- One past the greatest ticket whose entry lies in the outbox of this stripe, or 0 if there is none. The commands have
-- these places, and the tickets from that one on.
unfoldable pub past_boxed : ℕ → ℕ → ℕ → List Command → List Place → ℕ
past_boxed stripes stripe ticket (c ∷ cs) (InOutbox ∷ places) =
    if is_in_stripe stripes stripe c.key then max (ticket + 1) (past_boxed stripes stripe (ticket + 1) cs places)
    else past_boxed stripes stripe (ticket + 1) cs places
past_boxed stripes stripe ticket (c ∷ cs) (place ∷ places) = past_boxed stripes stripe (ticket + 1) cs places
past_boxed stripes stripe ticket cs places = 0

-- of the tickets of this life
abbrev pub past_outbox : World → Life → ℕ → ℕ
past_outbox w l stripe = past_boxed l.stripes stripe l.first (drop l.first w.history) l.places

abbrev pub rests : KeeperWalk → Bool
rests Rests = true
rests walk = false

abbrev pub is_resting : LogWork → Bool
is_resting Resting = true
is_resting log = false

abbrev pub is_rotating : LogWork → Bool
is_rotating (Rotating left) = true
is_rotating log = false

-- the log of the next checkpoint is still to be begun
abbrev pub needs_rotation : Life → Bool
needs_rotation l = l.newest == l.sealed

abbrev pub place_of : Life → ℕ → Place
place_of l ticket = slice_index_or l.places (ticket - l.first) WithWorker

-- the first n commands that aren't committed
abbrev pub next_commands : World → Life → ℕ → List Command
next_commands w l n = take n (drop l.committed w.history)

-- as one batch
abbrev pub next_batch : World → Life → ℕ → Batch
next_batch w l n = record { first = l.committed; commands = next_commands w l n }

-- where the gate stands behind this batch
abbrev pub gate_after : World → Life → ℕ → ℕ
gate_after w l n = l.gate + 1 + length (frame l.layout (next_batch w l n))

-- a device call of the checkpoint is still to be made
abbrev pub has_checkpoint_call : Option Running → Bool
has_checkpoint_call None = false
has_checkpoint_call (Some running) = nat_lt 0 running.clears || running.is_waiting || nat_lt 0 running.seals
