-- What a device call of a life's keeper did, from its case and from how the keeper stands after it.
use Rattle.std.proofs.Common.{◌≡◌, ℕ, ◌+◌, ◌-◌, ◌==◌, ◌&&◌, ◌||◌, not, nat_lt, if◌then◌else◌, List, Option, None, Some, is_some, Bool, true, false, refl, ◌∙◌}
use Rattle.map_types.specs.declared.commands.Command.{Command}
use Rattle.ticket_order.specs.declared.record.Record.{Record}
use Rattle.one_history.specs.declared.book.Book.{Book}
use Rattle.one_history.specs.Turns.{record_of}
use Rattle.disk_model.specs.Files.{Files}
use Rattle.flusher.specs.declared.keeper.Keeper.{Keeper}
use Rattle.flusher.specs.Fitting.{Fits}
use Rattle.flusher.specs.KeeperSteps.{is_walking}
use Rattle.checkpoint_walk.specs.Walking.{FitsWalking}
use Rattle.sim_rules.specs.declared.event.Ending.{Ending}
use Rattle.sim_rules.specs.declared.event.Event.{Event}
use Rattle.sim_rules.specs.declared.event.Event.TheVariants as event
use Rattle.sim_rules.specs.declared.event.Side.{Side}
use Rattle.sim_rules.specs.declared.outcome.Outcome.{Outcome}
use Rattle.sim_rules.specs.declared.outcome.Outcome.TheVariants as outcome
use Rattle.sim_rules.specs.World.{World, Life, LogWork, Resting, Committing, Rotating, Running, gate_after, rests}
use Rattle.sim_rules.specs.Fitting.{fits_inside, has_call}
use Rattle.log_records.specs.Layout.{Layout}
use Rattle.store_layout.specs.Logs.{log_header_bytes, new_layout}
use Rattle.sim_rules.specs.After.{after_inside, called, checkpoint_called, failed_or, log_called, running_called, with_files}
use Rattle.sim_workers.specs.Laws.{KeeperRests}
use Rattle.sim_workers.specs.Workers.{ConcernsNone}
use Rattle.sim_keeper.specs.Laws.{CheckpointCallIsTold, LogCallIsTold, WalkIsTold}
use Rattle.sim_keeper.specs.KeeperInWorld.{Answers, HasKeeper, KeeperStands, StandsIn}
use Rattle.schedule_sim.specs.declared.traced.Traced.{Traced}
use Rattle.schedule_sim.specs.declared.job.Job.{Job}
use Rattle.schedule_sim.specs.declared.life.Life as sim
use Rattle.schedule_sim.specs.Calling.{MayCall}
use Rattle.schedule_sim.specs.Living.{Did, IsLife, IsLifeOf}
use Rattle.schedule_sim.specs.Tracing.{traced_states, traced_honest}
use Rattle.schedule_sim.specs.Workers.{doings_of}
use Rattle.schedule_sim.proofs.Devices.{due_told, planned_fits, planned_stands}
use Rattle.schedule_sim.proofs.Doing.{did}
use Rattle.schedule_sim.proofs.LivesParts.{Parts, life_there}
use Rattle.schedule_sim.proofs.Quiet.{fits_between, none_held}

-- ---- the event fits

both_true : (a b : Bool) → a ≡ true → b ≡ true → (a && b) ≡ true
both_true a b e1 e2 = rw (e1, e2) refl

first_true : (a b : Bool) → (a && b) ≡ true → a ≡ true
first_true true b e = refl
first_true false b e = absurd (let no : false ≡ true = e in cc)

or_true : (a b : Bool) → b ≡ true → (a || b) ≡ true
or_true true b e = refl
or_true false b e = e

none_walks : (keeper : Keeper Traced) → is_walking keeper.sweeper.walking ≡ false → keeper.capture ≡ None
    → not (is_walking keeper.sweeper.walking || is_some keeper.capture) ≡ true
none_walks keeper still none = rw (still, none) refl

pub walk_rests : WalkIsTold traced_states → (s : Side) (w : World) (l : Life) (keeper : Keeper Traced) (b : Book) (jobs : List Job)
    → Parts w l keeper b jobs → MayCall s keeper → rests l.walk ≡ true
walk_rests walks s w l keeper b jobs there may =
    walks keeper (record_of 64 b) w l there.keeper_stands ∙ none_walks keeper may.rests may.no_capture

-- the world has a call on this side
pub has_its_call : LogCallIsTold traced_states traced_honest → CheckpointCallIsTold traced_states → (s : Side) (w : World) (l : Life)
    (keeper : Keeper Traced) (b : Book) (jobs : List Job) → IsLifeOf w keeper b jobs → Parts w l keeper b jobs → MayCall s keeper
    → has_call s l ≡ true
has_its_call log checkpoint s w l keeper b jobs a there may =
    due_told log checkpoint s w keeper b jobs l a there.keeper_stands may.no_capture may.works ∙ may.due

pub call_fits : (s : Side) (e : Ending) (l : Life) → rests l.walk ≡ true → has_call s l ≡ true → fits_inside l (event.Device s e) ≡ true
call_fits s e l resting has = both_true (rests l.walk) (l.is_broken || has_call s l) resting (or_true l.is_broken (has_call s l) has)

-- ---- it concerns no worker

-- this becomes of what a device call can change
abbrev pub changed : Life → Bool → ℕ → LogWork → ℕ → Layout → ℕ → ℕ → Option Running → Life
changed l broken committed log newest layout gate sealed checkpoint = record l {
  is_broken = broken;
  committed = committed;
  log = log;
  newest = newest;
  layout = layout;
  gate = gate;
  sealed = sealed;
  checkpoint = checkpoint;
}

changes_quietly : (w : World) (files : Files) (l : Life) (broken : Bool) (committed : ℕ) (log : LogWork) (newest : ℕ) (layout : Layout) (gate sealed : ℕ)
    (checkpoint : Option Running) → rests l.walk ≡ true
    → ConcernsNone w (with_files w files (changed l broken committed log newest layout gate sealed checkpoint)) l
    (changed l broken committed log newest layout gate sealed checkpoint)
changes_quietly w files l broken committed log newest layout gate sealed checkpoint resting = record {
  history = refl;
  stripes = refl;
  first = refl;
  key_limit = refl;
  jobs = refl;
  seen = refl;
  places = refl;
  durable = refl;
  has_failed = refl;
  held = λ i. none_held l (changed l broken committed log newest layout gate sealed checkpoint) l.walk i resting;
}

one_of : (w : World) (files : Files) (l one other : Life) (b : Bool) → ConcernsNone w (with_files w files one) l one
    → ConcernsNone w (with_files w files other) l other
    → ConcernsNone w (with_files w files (if b then one else other)) l (if b then one else other)
one_of w files l one other true first second = first
one_of w files l one other false first second = second

log_quietly : (w : World) (files : Files) (l : Life) (log : LogWork) → rests l.walk ≡ true
    → ConcernsNone w (with_files w files (log_called w l log)) l (log_called w l log)
log_quietly w files l Resting resting = changes_quietly w files l l.is_broken l.committed l.log l.newest l.layout l.gate l.sealed l.checkpoint resting
log_quietly w files l (Committing n left) resting =
    one_of w files l (record l { log = Resting; committed = l.committed + n; gate = gate_after w l n }) (record l { log = Committing n (left - 1) })
    (left == 1)
    (changes_quietly w files l l.is_broken (l.committed + n) Resting l.newest l.layout (gate_after w l n) l.sealed l.checkpoint resting)
    (changes_quietly w files l l.is_broken l.committed (Committing n (left - 1)) l.newest l.layout l.gate l.sealed l.checkpoint resting)
log_quietly w files l (Rotating left) resting =
    one_of w files l (record l { log = Resting; newest = l.newest + 1; layout = new_layout; gate = log_header_bytes }) (record l { log = Rotating (left - 1) }) (left == 1)
    (changes_quietly w files l l.is_broken l.committed Resting (l.newest + 1) new_layout log_header_bytes l.sealed l.checkpoint resting)
    (changes_quietly w files l l.is_broken l.committed (Rotating (left - 1)) l.newest l.layout l.gate l.sealed l.checkpoint resting)

-- this becomes of a checkpoint, and of the sealed generation
becomes_quietly : (w : World) (files : Files) (l : Life) (sealed : ℕ) (checkpoint : Option Running) → rests l.walk ≡ true
    → ConcernsNone w (with_files w files (record l { sealed = sealed; checkpoint = checkpoint })) l (record l { sealed = sealed; checkpoint = checkpoint })
becomes_quietly w files l sealed checkpoint resting = changes_quietly w files l l.is_broken l.committed l.log l.newest l.layout l.gate sealed checkpoint resting

running_quietly : (w : World) (files : Files) (l : Life) (running : Running) → rests l.walk ≡ true
    → ConcernsNone w (with_files w files (running_called l running)) l (running_called l running)
running_quietly w files l running resting =
    let clears : Life = record l { checkpoint = Some (record running { clears = running.clears - 1 }) } in
    let writes : Life = record l { checkpoint = Some (record running { is_waiting = false }) } in
    let seals : Life = record l { checkpoint = Some (record running { seals = running.seals - 1 }) } in
    let ends : Life = record l { checkpoint = None; sealed = running.generation } in
    let last : Life = if nat_lt 1 running.seals then seals else ends in
    one_of w files l clears (if running.is_waiting then writes else last) (nat_lt 0 running.clears)
    (becomes_quietly w files l l.sealed (Some (record running { clears = running.clears - 1 })) resting)
    (one_of w files l writes last running.is_waiting
    (becomes_quietly w files l l.sealed (Some (record running { is_waiting = false })) resting)
    (one_of w files l seals ends (nat_lt 1 running.seals)
    (becomes_quietly w files l l.sealed (Some (record running { seals = running.seals - 1 })) resting)
    (becomes_quietly w files l running.generation None resting)))

checkpoint_quietly : (w : World) (files : Files) (l : Life) (checkpoint : Option Running) → rests l.walk ≡ true
    → ConcernsNone w (with_files w files (checkpoint_called l checkpoint)) l (checkpoint_called l checkpoint)
checkpoint_quietly w files l None resting = becomes_quietly w files l l.sealed l.checkpoint resting
checkpoint_quietly w files l (Some running) resting = running_quietly w files l running resting

-- ---- what it did

-- the world goes on with other files, and in nothing that concerns the workers
calls_quietly : (w : World) (files : Files) (l l' : Life) (old new : Keeper Traced) (b : Book) (jobs : List Job) (done : List Command) → KeeperRests
    → IsLifeOf w old b jobs → Parts w l old b jobs → ConcernsNone w (with_files w files l') l l'
    → FitsWalking traced_states traced_honest b.stripes done new (record_of 64 b)
    → HasKeeper traced_states new (record_of 64 b) (with_files w files l')
    → IsLifeOf (with_files w files l') new b jobs
calls_quietly w files l l' old new b jobs done leaves a there same fits stands = record {
  done = done;
  fits = fits;
  count = a.count;
  workers_stand = leaves b w (with_files w files l') l l' (doings_of jobs) there.workers_stand same;
  keeper_stands = stands;
}

-- the outcome names a device call
abbrev pub NamesCall : Outcome → Type 0
NamesCall (outcome.Logged call phase) = Unit {0}
NamesCall (outcome.Checkpointed call phase) = Unit {0}
NamesCall (outcome.CallFailed call) = Unit {0}
NamesCall x = ⊥

-- A device call was made, and succeeded or failed. With it the commands that the keeper has done may be others.
pub device_did : (w : World) (l : Life) (s : Side) (e : Ending) (x : Outcome) (old new : Keeper Traced) (b : Book) (jobs : List Job)
    (done : List Command) → KeeperRests → IsLifeOf w old b jobs → Parts w l old b jobs → fits_inside l (event.Device s e) ≡ true → NamesCall x
    → FitsWalking traced_states traced_honest b.stripes done new (record_of 64 b)
    → Answers traced_states new (record_of 64 b) w l (event.Device s e) x
    → (life : sim.Life) → life.keeper ≡ new → life.words ≡ b → life.jobs.items ≡ jobs
    → Did w (event.Device s e) x life
device_did w l s e (outcome.Logged call phase) old new b jobs done leaves a there fit names fits k life e1 e2 e3 =
    did w l (event.Device s e) (outcome.Logged call phase) life there.life tt fit k.happens tt
    (rw (e1, e2, e3) (calls_quietly w (called call w.files) l (log_called w l l.log) old new b jobs done leaves a there
    (log_quietly w (called call w.files) l l.log (first_true (rests l.walk) (l.is_broken || has_call s l) fit)) fits k.stands))
device_did w l s e (outcome.Checkpointed call phase) old new b jobs done leaves a there fit names fits k life e1 e2 e3 =
    did w l (event.Device s e) (outcome.Checkpointed call phase) life there.life tt fit k.happens tt
    (rw (e1, e2, e3) (calls_quietly w (called call w.files) l (checkpoint_called l l.checkpoint) old new b jobs done leaves a there
    (checkpoint_quietly w (called call w.files) l l.checkpoint (first_true (rests l.walk) (l.is_broken || has_call s l) fit)) fits k.stands))
device_did w l s e (outcome.CallFailed call) old new b jobs done leaves a there fit names fits k life e1 e2 e3 =
    did w l (event.Device s e) (outcome.CallFailed call) life there.life tt fit k.happens tt
    (rw (e1, e2, e3) (calls_quietly w (failed_or e call w.files) l (record l { is_broken = true }) old new b jobs done leaves a there
    (changes_quietly w (failed_or e call w.files) l true l.committed l.log l.newest l.layout l.gate l.sealed l.checkpoint
    (first_true (rests l.walk) (l.is_broken || has_call s l) fit)) fits k.stands))
device_did w l s e x old new b jobs done leaves a there fit names fits k life e1 e2 e3 = absurd names

-- ---- the note of it is taken

stands_after : (w : World) (o : Option Life) (keeper : Keeper Traced) (p : Record) (disk : Traced) → traced_states disk ≡ traced_states keeper.disk
    → StandsIn traced_states keeper p w o → StandsIn traced_states (record keeper { disk = disk }) p w o
stands_after w None keeper p disk same stands = absurd stands
stands_after w (Some l) keeper p disk same stands = planned_stands keeper p w l disk same stands

-- taking the note leaves the states of the disk
pub noted_answers : (w : World) (l : Life) (e : Event) (x : Outcome) (keeper : Keeper Traced) (p : Record) (disk : Traced)
    → traced_states disk ≡ traced_states keeper.disk → Answers traced_states keeper p w l e x
    → Answers traced_states (record keeper { disk = disk }) p w l e x
noted_answers w l e x keeper p disk same k = record {
  happens = k.happens;
  stands = stands_after (after_inside w l e x) (after_inside w l e x).life keeper p disk same k.stands;
}

-- ---- all of it

-- A device call was made on the planned disk, after which its note was taken.
pub ends_call : (w : World) (life new : sim.Life) (s : Side) (e : Ending) (x : Outcome) (planned disk : Traced) (made : Keeper Traced)
    (done : List Command) → WalkIsTold traced_states → LogCallIsTold traced_states traced_honest → CheckpointCallIsTold traced_states → KeeperRests
    → MayCall s life.keeper → traced_states planned ≡ traced_states life.keeper.disk → traced_states disk ≡ traced_states made.disk
    → made.capture ≡ None → Fits traced_states traced_honest life.words.stripes done made (record_of 64 life.words) → NamesCall x
    → ((l : Life) → KeeperStands traced_states (record life.keeper { disk = planned }) (record_of 64 life.words) w l → has_call s l ≡ true
    → Answers traced_states made (record_of 64 life.words) w l (event.Device s e) x)
    → new.keeper ≡ record made { disk = disk } → new.words ≡ life.words → new.jobs.items ≡ life.jobs.items → IsLife w life
    → Did w (event.Device s e) x new
ends_call w life new s e x planned disk made done walks log checkpoint leaves may plan same none fits names answers e1 e2 e3 a =
    let b : Book = life.words in
    let jobs : List Job = life.jobs.items in
    let p : Record = record_of 64 b in
    let there = life_there w life.keeper b jobs a in
    let l : Life = there.0 in
    let has = has_its_call log checkpoint s w l life.keeper b jobs a there.1 may in
    device_did w l s e x life.keeper (record made { disk = disk }) b jobs done leaves a there.1
    (call_fits s e l (walk_rests walks s w l life.keeper b jobs there.1 may) has) names
    (fits_between b.stripes done (record made { disk = disk }) b none (planned_fits b.stripes done made p disk same fits))
    (noted_answers w l (event.Device s e) x made p disk same
    (answers l (planned_stands life.keeper p w l planned plan there.1.keeper_stands) has)) new e1 e2 e3
