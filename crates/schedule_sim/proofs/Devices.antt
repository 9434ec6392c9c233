-- The keeper of a life at its device calls.
use Rattle.std.proofs.Common.{◌≡◌, ◌≢◌, ℕ, ◌&&◌, ◌||◌, not, List, [], ◌∷◌, ◌++◌, length, Option, None, Some, IfOk, IfSome, is_some, Bool, true, false, Result, Ok, Err, refl, sym, ◌∙◌, ap, subst}
use Rattle.map_types.specs.declared.commands.Command.{Command}
use Rattle.map_types.specs.declared.refusals.Refusal.{Refusal}
use Rattle.ticket_order.specs.declared.record.Record.{Record}
use Rattle.one_history.specs.declared.book.Book.{Book}
use Rattle.one_history.specs.Turns.{record_of}
use Rattle.disk_model.specs.declared.fill.Fill.{Fill}
use Rattle.disk_model.specs.Files as disk
use Rattle.disk_model.specs.Files.{Files, now}
use Rattle.std.specs.List.{AllByRecursion}
use Rattle.std.specs.Option.{ok_or}
use Rattle.disk_model.specs.declared.fill.Fill.TheVariants.{New}
use Rattle.disk_model.specs.Gates.{Call}
use Rattle.store_layout.specs.declared.checkpoint_phase.CheckpointPhase.{CheckpointPhase}
use Rattle.checkpoint_file.specs.States.{CheckpointState}
use Rattle.checkpoint_walk.specs.Checkpointing.{StepsCheckpoint, call_due}
use Rattle.disk_model.specs.Moments.{AtEachMoment}
use Rattle.ticket_order.specs.Legality.{history_of}
use Rattle.store_layout.specs.Logs.{log_file}
use Rattle.store_layout.specs.declared.log_phase.Phase.{Phase}
use Rattle.store_layout.specs.declared.log_phase.Phase.TheVariants as log_phase
use Rattle.gate_log.specs.States.{LogState, call_in}
use Rattle.flusher.specs.declared.keeper.Keeper.{Keeper}
use Rattle.flusher.specs.Fitting.{Fits, StopsFit}
use Rattle.flusher.specs.KeeperSteps.{is_walking}
use Rattle.flusher.specs.Rotating.{Logs, StepsLogs, due_of, logs_of}
use Rattle.sim_rules.specs.declared.event.Event.TheVariants as event
use Rattle.sim_rules.specs.declared.event.Side.{Side}
use Rattle.sim_rules.specs.declared.event.Side.TheVariants as side
use Rattle.sim_rules.specs.declared.outcome.DeviceCall.{DeviceCall}
use Rattle.sim_rules.specs.World.{World, Life}
use Rattle.sim_rules.specs.Fitting.{fits, fits_with, has_call}
use Rattle.sim_rules.specs.After.{failed, file_of}
use Rattle.sim_rules.specs.Cases.{IsPossible}
use Rattle.sim_rules.specs.Due.{due_file}
use Rattle.sim_rules.specs.Laws.{EnteredAsFailed, KnownStands}
use Rattle.sim_keeper.specs.Laws.{CheckpointCallIsTold, LogCallIsTold, WalkIsTold}
use Rattle.sim_keeper.specs.KeeperInWorld.{KeeperStands}
use Rattle.schedule_sim.specs.declared.traced.Traced.{Traced}
use Rattle.schedule_sim.specs.declared.job.Job.{Job}
use Rattle.schedule_sim.specs.Calling.{MayCall, is_due}
use Rattle.schedule_sim.specs.Living.{IsLifeOf}
use Rattle.schedule_sim.specs.Noting.{WasLast, left}
use Rattle.schedule_sim.specs.Storing.{IsInterrupted}
use Rattle.schedule_sim.specs.Tracing.{traced_states, traced_honest}
use Rattle.schedule_sim.proofs.LivesParts.{fits_now, life_there, rests}
use Rattle.schedule_sim.proofs.Stopping.{life_keeps}
use Rattle.schedule_sim.proofs.TracedCalls.{HasOneMore}

-- ---- which calls can be made

and_false : (a : Bool) → (a && false) ≡ false
and_false true = refl
and_false false = refl

-- what the world says of a call that the machine may stop within
abbrev pub can_call : Side → Keeper Traced → Bool
can_call s keeper = not (is_walking keeper.sweeper.walking || is_some keeper.capture) && (is_due s keeper && not keeper.is_broken)

pub due_told : LogCallIsTold traced_states traced_honest → CheckpointCallIsTold traced_states → (s : Side) (w : World) (keeper : Keeper Traced) (b : Book) (jobs : List Job) (l : Life) → (a : IsLifeOf w keeper b jobs)
    → KeeperStands traced_states keeper (record_of 64 b) w l → keeper.capture ≡ None → keeper.is_broken ≡ false → has_call s l ≡ is_due s keeper
due_told log checkpoint side.Log w keeper b jobs l a k none works = log b.stripes a.done keeper (record_of 64 b) w l (fits_now w keeper b jobs a none) k works
due_told log checkpoint side.Checkpoint w keeper b jobs l a k none works = checkpoint keeper (record_of 64 b) w l k works

where_works : (broken due called : Bool) → (broken ≡ false → called ≡ due) → (called && not broken) ≡ (due && not broken)
where_works true due called same = and_false called ∙ sym (and_false due)
where_works false due called same = ap (λ x. x && true) (same refl)

where_rests : (walking a b : Bool) → (walking ≡ false → a ≡ b) → (not walking && a) ≡ (not walking && b)
where_rests true a b same = refl
where_rests false a b same = same refl

pub told_fits : WalkIsTold traced_states → LogCallIsTold traced_states traced_honest → CheckpointCallIsTold traced_states → (s : Side) (fill : Fill) (w : World) (keeper : Keeper Traced) (b : Book) (jobs : List Job)
    → IsLifeOf w keeper b jobs → fits w (event.Stop (Some s) fill) ≡ can_call s keeper
told_fits walks log checkpoint s fill w keeper b jobs a =
    let there = life_there w keeper b jobs a in
    let k = there.1.keeper_stands in
    let walking = is_walking keeper.sweeper.walking || is_some keeper.capture in
    ap (λ o. fits_with o (event.Stop (Some s) fill)) there.1.life
    ∙ subst (λ r. (r && (has_call s there.0 && not there.0.is_broken)) ≡ can_call s keeper) (sym (walks keeper (record_of 64 b) w there.0 k))
    (subst (λ broken. (not walking && (has_call s there.0 && not broken)) ≡ can_call s keeper) (sym k.is_broken)
    (where_rests walking (has_call s there.0 && not keeper.is_broken) (is_due s keeper && not keeper.is_broken)
    (λ still. where_works keeper.is_broken (is_due s keeper) (has_call s there.0) (λ works. due_told log checkpoint s w keeper b jobs there.0 a k (rests keeper walking refl still).1 works))))

all_hold : (walking due broken : Bool) → (not walking && (due && not broken)) ≡ true → (walking ≡ false) × (due ≡ true) × (broken ≡ false)
all_hold false true false e = (refl, refl, refl)
all_hold false true true e = absurd (let no : false ≡ true = e in cc)
all_hold false false broken e = absurd (let no : false ≡ true = e in cc)
all_hold true due broken e = absurd (let no : false ≡ true = e in cc)

pub may_call_so : (s : Side) (keeper : Keeper Traced) → can_call s keeper ≡ true → MayCall s keeper
may_call_so s keeper e =
    let walking = is_walking keeper.sweeper.walking || is_some keeper.capture in
    let all = all_hold walking (is_due s keeper) keeper.is_broken e in
    let still = rests keeper walking refl all.0 in
    record { rests = still.0; no_capture = still.1; works = all.2; due = all.1 }

-- ---- a plan of the disk leaves the rest as it is

pub planned_fits : (n : ℕ) (done : List Command) (keeper : Keeper Traced) (p : Record) (disk : Traced) → traced_states disk ≡ traced_states keeper.disk → Fits traced_states traced_honest n done keeper p
    → Fits traced_states traced_honest n done (record keeper { disk = disk }) p
planned_fits n done keeper p disk same f = record {
  stands = f.stands;
  counts = record { committed = f.counts.committed; next = f.counts.next; count = f.counts.count; tickets = f.counts.tickets; fits = f.counts.fits; empty = f.counts.empty };
  tells = record { published = f.tells.published; durable = f.tells.durable; failed = f.tells.failed };
  stripes = record { count = f.stripes.count; writer = f.stripes.writer };
  rotation = f.rotation;
  keys = f.keys;
  stores = record {
    unbroken = f.stores.unbroken;
    works = λ works honest. let h = f.stores.works works tt in rw same h;
    stopped = λ broken honest. let h = f.stores.stopped broken tt in rw same h;
  };
}

pub planned_stands : (keeper : Keeper Traced) (p : Record) (w : World) (l : Life) (disk : Traced) → traced_states disk ≡ traced_states keeper.disk → KeeperStands traced_states keeper p w l
    → KeeperStands traced_states (record keeper { disk = disk }) p w l
planned_stands keeper p w l disk same k = record {
  life = k.life;
  files = k.files ∙ ap now (sym same);
  history = k.history;
  stripes = k.stripes;
  sweep = k.sweep;
  walk = k.walk;
  committed = k.committed;
  durable = k.durable;
  has_failed = k.has_failed;
  is_broken = k.is_broken;
  staged = k.staged;
  store = λ works. let s = k.store works in record { log = s.log; newest = s.newest; layout = s.layout; gate = s.gate; sealed = s.sealed; checkpoint = rw same s.checkpoint; both = s.both };
}

-- ---- the call that was made

pub phase_due : (phase : Phase) (log : LogState) → is_some (call_in phase log) ≡ true → phase ≢ log_phase.Idle
phase_due phase log due is = let no : false ≡ true = sym (ap (λ at. is_some (call_in at log)) is) ∙ due in cc

made_one : (old new : Logs) (disk_old disk_new : Traced) (result : Result Phase Refusal) (failures : Traced → ℕ) → StepsLogs traced_states failures traced_honest old new disk_old disk_new result
    → HasOneMore (traced_states disk_new) (traced_states disk_old)
made_one old new disk_old disk_new (Ok phase) failures s = record { files = _; is = s.ok.2.state }
made_one old new disk_old disk_new (Err e) failures s = record { files = _; is = s.err.2.state }

-- the note says what the call left
pub record Leaves (lost : Option Fill) (call : DeviceCall) (old new : List Files) : Type 0 where
  pub possible : IsPossible (now old) call
  pub state : now new ≡ left lost call (now old)

last_left : (lost : Option Fill) (call : DeviceCall) (files : Files) (old : List Files) → WasLast lost call (files ∷ old) → Leaves lost call old (files ∷ old)
last_left lost call files old was = record { possible = was.0; state = was.1 }

pub noted : (lost : Option Fill) (call : DeviceCall) (old new : List Files) → HasOneMore new old → WasLast lost call new → Leaves lost call old new
noted lost call old new more was = subst (λ states. Leaves lost call old states) (sym more.is) (last_left lost call more.files old (subst (λ states. WasLast lost call states) more.is was))

-- ---- a stop within it

pub newest_has : (P : Files → Type 0) (new old added : List Files) → new ≡ added ++ old → P (now old) → AllByRecursion P added → P (now new)
newest_has P new old [] is first each = subst (λ states. P (now states)) (sym is) first
newest_has P new old (files ∷ added) is first each = subst (λ states. P (now states)) (sym is) each.0

-- ---- what the keeper's functions say of the call

-- Wherever the keeper was lent its planned disk, its device call was made, and nothing is known of it but that.
pub log_made : (keeper : Keeper Traced) (failures : Traced → ℕ) (planned made : Traced) (new : Logs) (result : Result Phase Refusal) → MayCall side.Log keeper
    → (keeper.is_broken ≡ false → (due_of (logs_of keeper)).phase ≢ log_phase.Idle → StepsLogs traced_states failures traced_honest (logs_of keeper) new planned made result)
    → HasOneMore (traced_states made) (traced_states planned)
log_made keeper failures planned made new result may steps =
    let log = due_of (logs_of keeper) in
    made_one (logs_of keeper) new planned made result failures (steps may.works (phase_due log.phase log may.due))

pub record HasDue (next : Option LogState) (writer : Option CheckpointState) : Type 0 where
  pub call : Call
  pub state : CheckpointState
  pub due : call_due next writer ≡ Some call
  pub writer_is : writer ≡ Some state

due_in : (o : Option Call) → is_some o ≡ true → (call : Call) × (o ≡ Some call)
due_in None e = absurd (let no : false ≡ true = e in cc)
due_in (Some call) e = (call, refl)

pub has_due : (next : Option LogState) (writer : Option CheckpointState) → is_some (call_due next writer) ≡ true → HasDue next writer
has_due (Some next) writer e = absurd (let no : false ≡ true = e in cc)
has_due None None e = absurd (let no : false ≡ true = e in cc)
has_due None (Some v) e = let d = due_in (call_due None (Some v)) e in record { call = d.0; state = v; due = d.1; writer_is = refl }

checkpoint_one : (call : Call) (v : CheckpointState) (old new : Keeper Traced) (result : Result CheckpointPhase Refusal) (failures : Traced → ℕ) → StepsCheckpoint traced_states failures traced_honest call v old new result
    → HasOneMore (traced_states new.disk) (traced_states old.disk)
checkpoint_one call v old new (Ok phase) failures s = record { files = _; is = s.ok.2.state }
checkpoint_one call v old new (Err e) failures s = record { files = _; is = s.err.2.state }

pub checkpoint_made : (keeper new : Keeper Traced) (failures : Traced → ℕ) (planned : Traced) (result : Result CheckpointPhase Refusal) → MayCall side.Checkpoint keeper
    → (keeper.is_broken ≡ false → (call : Call) (v : CheckpointState) → call_due keeper.next keeper.checkpoint ≡ Some call → keeper.checkpoint ≡ Some v
    → StepsCheckpoint traced_states failures traced_honest call v (record keeper { disk = planned }) new result)
    → HasOneMore (traced_states new.disk) (traced_states planned)
checkpoint_made keeper new failures planned result may steps =
    let d = has_due keeper.next keeper.checkpoint may.due in
    checkpoint_one d.call d.state (record keeper { disk = planned }) new result failures (steps may.works d.call d.state d.due d.writer_is)

-- what a note that is there says, the answer made of it says
pub ok_of : {T E : Type 0} (result : Result T E) (o : Option T) (e : E) (P Q : T → Type 0) → result ≡ ok_or o e → IfSome o P → ((t : T) → P t → Q t) → IfOk result Q
ok_of result None e P Q is some so = subst (λ r. IfOk r Q) (sym is) tt
ok_of result (Some t) e P Q is some so = subst (λ r. IfOk r Q) (sym is) (so t some)
