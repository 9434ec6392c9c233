-- What each event, with what came of it, leaves of the world.
use Rattle.std.specs.Prelude.{ℕ, ◌+◌, ◌-◌, max, List, [], ◌∷◌, ◌++◌, length, take, drop, slice_set, Option, Some, None}
use Rattle.std.specs.Prelude.{Bool, true, false, ◌==◌, nat_lt, if◌then◌else◌}
use Rattle.map_types.specs.declared.commands.Command.{Command}
use Rattle.map_types.specs.declared.refusals.Refusal.{Refusal}
use Rattle.map_types.specs.declared.refusals.Refusal.TheVariants as refusal
use Rattle.map_model.specs.Parts.{is_in_stripe, part_of}
use Rattle.map_model.specs.Steps.{fold_of}
use Rattle.ticket_order.specs.declared.record.Asked.TheVariants.{Changing, Reading}
use Rattle.disk_model.specs.declared.fill.Fill.{Fill}
use Rattle.disk_model.specs.Files.{Files, synced, with_file}
use Rattle.disk_model.specs.Fills.{after_stop, torn}
use Rattle.disk_model.specs.Gates as disk
use Rattle.store_layout.specs.Checkpoints.{Section, checkpoint_file, is_to_close}
use Rattle.store_layout.specs.Logs.{log_header_bytes, new_layout}
use Rattle.store_layout.specs.Opening.{Opened}
use Rattle.sim_rules.specs.declared.event.Ending.{Ending}
use Rattle.sim_rules.specs.declared.event.Ending.TheVariants as ending
use Rattle.sim_rules.specs.declared.event.Event.{Event}
use Rattle.sim_rules.specs.declared.event.Event.TheVariants as event
use Rattle.sim_rules.specs.declared.outcome.DeviceCall.{DeviceCall}
use Rattle.sim_rules.specs.declared.outcome.DeviceCall.TheVariants as device
use Rattle.sim_rules.specs.declared.outcome.End.{End}
use Rattle.sim_rules.specs.declared.outcome.End.TheVariants as ends
use Rattle.sim_rules.specs.declared.outcome.Made.{Made}
use Rattle.sim_rules.specs.declared.outcome.Made.TheVariants as made
use Rattle.sim_rules.specs.declared.outcome.Outcome.{Outcome}
use Rattle.sim_rules.specs.declared.outcome.Outcome.TheVariants as outcome
use Rattle.sim_rules.specs.World.{World, Life, Job, Idle, Walks, Keeps, Releasing, Stage, Begins, HasTaken, IsAlive}
use Rattle.sim_rules.specs.World.{IsDead, HasLooked, HasDrawn, Asking, FirstSees, HasMissed, FoundFailure, Place}
use Rattle.sim_rules.specs.World.{WithWorker, InOutbox, InHand, Sweep, KeeperWalk, Rests, SweepTakes, SweepGives}
use Rattle.sim_rules.specs.World.{CaptureLooks, CaptureGives, LogWork, Resting, Committing, Rotating, Running, begun_by}
use Rattle.sim_rules.specs.World.{gate_after, job_of, needs_rotation, past_outbox, seen_by, seen_of, sweep_or}

-- ---- the device calls that an outcome names

abbrev pub file_of : DeviceCall → ℕ
file_of (device.Write file at bytes) = file
file_of (device.Sync file) = file

abbrev pub bytes_of : DeviceCall → List ℕ
bytes_of (device.Write file at bytes) = bytes.items
bytes_of (device.Sync file) = []

-- what it does to its file
abbrev pub call_of : DeviceCall → disk.Call
call_of (device.Write file at bytes) = disk.writes at bytes.items
call_of (device.Sync file) = disk.syncs

-- it succeeds
abbrev pub called : DeviceCall → Files → Files
called call files = with_file (file_of call) (disk.called (call_of call) (files (file_of call))) files

-- A stop falls within it: a write counts as made, and a sync as not made.
abbrev pub entered : DeviceCall → Files → Files
entered (device.Write file at bytes) files = called (device.Write file at bytes) files
entered (device.Sync file) files = files

-- It fails: a write leaves to be read what the fill picks, and a sync leaves the files as they were.
abbrev pub failed : Fill → DeviceCall → Files → Files
failed fill (device.Write file at bytes) files = with_file file (torn fill file at bytes.items (files file)) files
failed fill (device.Sync file) files = files

-- the first n files are synced
abbrev pub synced_below : ℕ → Files → Files
synced_below n files = λ number. if nat_lt number n then synced (files number) else files number

-- ---- worlds with one thing changed

abbrev pub with_life : World → Life → World
with_life w l = record { files = w.files; history = w.history; life = Some l }

abbrev pub with_files : World → Files → Life → World
with_files w files l = record { files = files; history = w.history; life = Some l }

-- the life is over, or none was begun
abbrev pub without_life : World → Files → World
without_life w files = record { files = files; history = w.history; life = None }

abbrev pub with_job : ℕ → Job → Life → Life
with_job worker job l = record l { jobs = slice_set l.jobs worker job }

-- ---- a step of a worker

abbrev pub stage_alive : Bool → Stage
stage_alive true = IsAlive
stage_alive false = IsDead

abbrev pub stage_after : Stage → Made → Stage
stage_after stage (made.Took stripe) = HasTaken
stage_after stage (made.FoundAlive is_alive) = stage_alive is_alive
stage_after stage (made.Looked n) = HasLooked n
stage_after stage (made.Drew ticket) = HasDrawn ticket
stage_after stage m = stage

abbrev pub asking_after : Made → Asking
asking_after (made.Saw n) = HasMissed
asking_after m = FoundFailure

-- the walk goes on; or it leaves a held reply; or it leaves nothing
abbrev pub job_after : Job → Made → End → Job
job_after (Walks asked stage) m ends.Goes = Walks asked (stage_after stage m)
job_after (Walks asked stage) m (ends.Held position) = Keeps asked position
job_after (Walks asked stage) m end = Idle
job_after (Releasing asked position asking) m ends.Goes = Releasing asked position (asking_after m)
job_after (Releasing asked position asking) m ends.NotYet = Keeps asked position
job_after (Releasing asked position asking) m end = Idle
job_after job m end = job

-- a TICKET adds the command that the worker's event named
abbrev pub history_after : List Command → Job → Made → List Command
history_after history (Walks (Changing c) stage) (made.Drew ticket) = history ++ c ∷ []
history_after history job m = history

-- with its GIVE the entry of a change lies in the outbox
abbrev pub boxed_by : Life → Stage → List Place
boxed_by l (HasDrawn ticket) = slice_set l.places (ticket - l.first) InOutbox
boxed_by l stage = l.places

abbrev pub places_after : Life → Job → Made → List Place
places_after l (Walks asked stage) (made.Drew ticket) = l.places ++ WithWorker ∷ []
places_after l (Walks asked stage) (made.Gave stripe) = boxed_by l stage
places_after l job m = l.places

-- What a pass has seen after a step, if it had seen that position. A TAKE raises it to one past the greatest ticket in
-- the outbox that it took. A LOOK and a SEE raise it to what they found, a TICKET to one past its ticket, and the GIVE
-- that makes a read to the read's position.
abbrev pub seen_after : World → Life → ℕ → Made → End → ℕ
seen_after w l seen (made.Took stripe) end = max seen (past_outbox w l stripe)
seen_after w l seen (made.Looked n) end = max seen n
seen_after w l seen (made.Saw n) end = max seen n
seen_after w l seen (made.Drew ticket) end = max seen (ticket + 1)
seen_after w l seen (made.Gave stripe) (ends.Held position) = max seen position
seen_after w l seen m end = seen

abbrev pub worker_stepped : World → Life → ℕ → Job → Made → End → World
worker_stepped w l worker job m end = record {
  files = w.files;
  history = history_after w.history job m;
  life = Some (record l {
    jobs = slice_set l.jobs worker (job_after job m end);
    seen = slice_set l.seen worker (seen_after w l (seen_by l worker) m end);
    places = places_after l job m;
  });
}

-- the worker that keeps a reply begins to release it
abbrev pub job_releasing : Job → Job
job_releasing (Keeps asked position) = Releasing asked position FirstSees
job_releasing job = job

-- ---- a step of the keeper

-- the entries in the outbox of this stripe come into hand
abbrev pub swept_places : ℕ → ℕ → List Command → List Place → List Place
swept_places stripes stripe (c ∷ cs) (InOutbox ∷ places) =
    (if is_in_stripe stripes stripe c.key then InHand else InOutbox) ∷ swept_places stripes stripe cs places
swept_places stripes stripe (c ∷ cs) (place ∷ places) = place ∷ swept_places stripes stripe cs places
swept_places stripes stripe cs places = places

abbrev pub places_swept : World → Life → ℕ → List Place
places_swept w l stripe = swept_places l.stripes stripe (drop l.first w.history) l.places

abbrev pub sweep_takes : Life → End → Life
sweep_takes l ends.Goes = record l { walk = SweepGives }
sweep_takes l end = record l { walk = Rests }

-- if the GIVE ends with a refusal, the entries stay in the outbox, and the sweep stays at its stripe
abbrev pub sweep_gives : World → Life → Sweep → End → Life
sweep_gives w l sweep ends.Goes =
    record l {
      places = places_swept w l sweep.stripe;
      sweep = Some
          (record sweep { stripe = sweep.stripe + 1 });
      walk = SweepTakes;
    }
sweep_gives w l sweep (ends.Swept n) = record l { places = places_swept w l sweep.stripe; sweep = None; walk = Rests }
sweep_gives w l sweep end = record l { walk = Rests }

abbrev pub look_of : Made → ℕ
look_of (made.Looked n) = n
look_of m = 0

-- The first step of a sweep: its LOOK, or the TAKE of the stripe that it waits for.
abbrev pub sweep_begins : Life → Option Sweep → Made → End → Life
sweep_begins l None m end = record l { sweep = Some (record { count = look_of m; stripe = 0 }); walk = SweepTakes }
sweep_begins l (Some sweep) m end = sweep_takes l end

abbrev pub capture_takes : Life → End → Life
capture_takes l ends.Goes = record l { walk = CaptureLooks }
capture_takes l end = l

-- what the next section of the checkpoint is to hold: the part of its stripe after the first `mark` commands
abbrev pub section_at : World → Life → ℕ → Running → Section
section_at w l mark running =
    record { mark = mark; map = part_of l.stripes (length running.sections) (fold_of (take mark w.history)) }

abbrev pub with_section : World → Life → ℕ → Option Running → Option Running
with_section w l mark None = None
with_section w l mark (Some running) =
    Some (record running { sections = running.sections ++ section_at w l mark running ∷ []; is_waiting = true })

abbrev pub capture_gives : World → Life → ℕ → End → Life
capture_gives w l mark (ends.Captured n) = record l { checkpoint = with_section w l mark l.checkpoint; walk = Rests }
capture_gives w l mark end = record l { walk = Rests }

abbrev pub keeper_stepped : World → Life → KeeperWalk → Made → End → Life
keeper_stepped w l Rests m end = l
keeper_stepped w l SweepTakes m end = sweep_takes l end
keeper_stepped w l SweepGives m end = sweep_gives w l (sweep_or l.sweep) end
keeper_stepped w l CaptureLooks m end = record l { walk = CaptureGives (look_of m) }
keeper_stepped w l (CaptureGives mark) m end = capture_gives w l mark end

-- ---- a change of the keeper's own

-- four device calls commit a batch
abbrev pub staged_by : ℕ → LogWork → LogWork
staged_by n log = if n == 0 then log else Committing n 4

-- A gate that reads open, or a file without one, takes a write more than a gate that reads closed.
abbrev pub clears_of : List ℕ → ℕ
clears_of content = if is_to_close content then 3 else 2

-- a checkpoint of the generation that follows the sealed one, and six device calls for its log if that is still to be
-- begun
abbrev pub checkpoint_begun : World → Life → Life
checkpoint_begun w l = record l {
  checkpoint = Some (record {
    generation = l.sealed + 1;
    clears = clears_of (w.files (checkpoint_file (l.sealed + 1))).seen;
    sections = [];
    is_waiting = false;
    seals = 0;
  });
  log = (if needs_rotation l then Rotating 6 else l.log);
}

-- four device calls seal a checkpoint
abbrev pub seal_begun : Option Running → Option Running
seal_begun None = None
seal_begun (Some running) = Some (record running { seals = 4 })

-- ---- a device call that succeeds

-- The last call of a batch commits it. After the last of a rotation the next log is the newest, of the new version.
abbrev pub log_called : World → Life → LogWork → Life
log_called w l Resting = l
log_called w l (Committing n left) =
    if left == 1 then record l { log = Resting; committed = l.committed + n; gate = gate_after w l n }
    else record l { log = Committing n (left - 1) }
log_called w l (Rotating left) =
    if left == 1 then record l { log = Resting; newest = l.newest + 1; layout = new_layout; gate = log_header_bytes }
    else record l { log = Rotating (left - 1) }

-- First the calls before the sections, then the write of the section that waits, then the calls of the seal, of which
-- the last seals.
abbrev pub running_called : Life → Running → Life
running_called l running =
    if nat_lt 0 running.clears then record l { checkpoint = Some (record running { clears = running.clears - 1 }) }
    else if running.is_waiting then record l { checkpoint = Some (record running { is_waiting = false }) }
    else if nat_lt 1 running.seals then record l { checkpoint = Some (record running { seals = running.seals - 1 }) }
    else record l { checkpoint = None; sealed = running.generation }

abbrev pub checkpoint_called : Life → Option Running → Life
checkpoint_called l None = l
checkpoint_called l (Some running) = running_called l running

-- ---- an opening

-- of the four syncs those before the n-th device call
abbrev pub syncs_before : ℕ → ℕ
syncs_before n = if nat_lt n 5 then n - 1 else 4

-- those that an opening made which was refused so: all, or those before its last call, which failed
abbrev pub syncs_made : Refusal → ℕ → ℕ
syncs_made refusal.Failed calls = syncs_before calls
syncs_made reason calls = 4

-- ---- each event, by its outcome

abbrev pub started_or : Outcome → World → World → World
started_or outcome.Started w next = next
started_or x w next = w

abbrev pub stepped_or : Outcome → World → (Made → End → World) → World
stepped_or (outcome.Stepped m end) w next = next m end
stepped_or x w next = w

abbrev pub staged_or : Outcome → World → Life → World
staged_or (outcome.Staged n) w l = with_life w (record l { log = staged_by n l.log })
staged_or x w l = w

abbrev pub failed_or : Ending → DeviceCall → Files → Files
failed_or ending.Done call files = files
failed_or (ending.Fails fill) call files = failed fill call files

abbrev pub called_or : Ending → Outcome → World → Life → World
called_or e (outcome.Logged call phase) w l = with_files w (called call w.files) (log_called w l l.log)
called_or e (outcome.Checkpointed call phase) w l =
    with_files w (called call w.files) (checkpoint_called l l.checkpoint)
called_or e (outcome.CallFailed call) w l = with_files w (failed_or e call w.files) (record l { is_broken = true })
called_or e x w l = w

abbrev pub published_or : Outcome → World → Life → World
published_or (outcome.Published n) w l = with_life w (record l { durable = max l.durable n })
published_or x w l = w

abbrev pub begun_or : Outcome → World → Life → World
begun_or outcome.Begun w l = with_life w (checkpoint_begun w l)
begun_or x w l = w

abbrev pub sealing_or : Outcome → World → Life → World
sealing_or outcome.Sealing w l = with_life w (record l { checkpoint = seal_begun l.checkpoint })
sealing_or x w l = w

abbrev pub stopped_or : Fill → Outcome → World → World
stopped_or fill (outcome.Stopped None) w = without_life w (after_stop fill w.files)
stopped_or fill (outcome.Stopped (Some call)) w = without_life w (after_stop fill (entered call w.files))
stopped_or fill x w = w

-- An opening that succeeds leaves the commands that it found; one that is refused leaves no life.
abbrev pub opened_or : ℕ → Opened → Outcome → World → World
opened_or stripes found (outcome.Opened calls prefix entries) w =
    record {
      files = synced_below 4 w.files;
      history = take prefix w.history;
      life = Some (begun_by stripes (seen_of w.files) found);
    }
opened_or stripes found (outcome.NotOpened calls reason) w =
    without_life w (synced_below (syncs_made reason calls) w.files)
opened_or stripes found x w = w

abbrev pub after_inside : World → Life → Event → Outcome → World
after_inside w l (event.Change worker c) x =
    started_or x w (with_life w (with_job worker (Walks (Changing c) Begins) l))
after_inside w l (event.Read worker r) x = started_or x w (with_life w (with_job worker (Walks (Reading r) Begins) l))
after_inside w l (event.Release worker) x =
    started_or x w (with_life w (with_job worker (job_releasing (job_of l worker)) l))
after_inside w l (event.Step worker) x = stepped_or x w (worker_stepped w l worker (job_of l worker))
after_inside w l event.Sweep x = stepped_or x w (λ m end. with_life w (sweep_begins l l.sweep m end))
after_inside w l event.KeeperStep x = stepped_or x w (λ m end. with_life w (keeper_stepped w l l.walk m end))
after_inside w l (event.Stage most) x = staged_or x w l
after_inside w l (event.Device side e) x = called_or e x w l
after_inside w l event.Publish x = published_or x w l
after_inside w l event.Fail x = with_life w (record l { has_failed = true })
after_inside w l event.Begin x = begun_or x w l
after_inside w l (event.Capture stripe) x = stepped_or x w (λ m end. with_life w (capture_takes l end))
after_inside w l event.Seal x = sealing_or x w l
after_inside w l (event.Stop within fill) x = stopped_or fill x w
after_inside w l event.Leave x = without_life w w.files
after_inside w l event.Old x = w
after_inside w l (event.Open stripes fails_at) x = w

abbrev pub after_outside : World → Opened → Event → Outcome → World
after_outside w found (event.Open stripes fails_at) x = opened_or stripes.count found x w
after_outside w found (event.Stop within fill) x = stopped_or fill x w
after_outside w found e x = w

abbrev pub after_with : World → Option Life → Opened → Event → Outcome → World
after_with w None found e x = after_outside w found e x
after_with w (Some l) found e x = after_inside w l e x

-- The world after an event. What an opening found is `found`. An event that was skipped changes nothing.
unfoldable pub after : World → Opened → Event → Outcome → World
after w found e outcome.Skipped = w
after w found e x = after_with w w.life found e x
