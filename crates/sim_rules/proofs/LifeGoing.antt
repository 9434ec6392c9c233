-- In a life each event keeps what the loop of a run keeps.
use Rattle.std.proofs.Common.{◌≡◌, ◌≤◌, ℕ, Bool, true, false, List, ◌∷◌, length, max, Option, None, Some, MatchBool, ◌==◌, nat_lt}
use Rattle.std.proofs.Common.{if◌then◌else◌, refl, sym, subst, arith}
use Rattle.map_types.specs.declared.commands.Command.{Command}
use Rattle.map_types.specs.declared.commands.Read.{Read}
use Rattle.map_types.specs.declared.commands.Reply.{Reply}
use Rattle.ticket_order.specs.declared.record.Asked.TheVariants.{Changing, Reading}
use Rattle.ticket_order.specs.declared.record.Call.{Call}
use Rattle.ticket_order.specs.Records.{call}
use Rattle.disk_model.specs.Files.{Files}
use Rattle.disk_model.specs.declared.fill.Fill.{Fill}
use Rattle.store_layout.specs.Opening.{Opened}
use Rattle.sim_rules.specs.declared.event.Ending.{Ending}
use Rattle.sim_rules.specs.declared.event.Ending.TheVariants as ending
use Rattle.sim_rules.specs.declared.event.Event.{Event}
use Rattle.sim_rules.specs.declared.event.Event.TheVariants as event
use Rattle.sim_rules.specs.declared.event.Side.{Side}
use Rattle.sim_rules.specs.declared.event.Side.TheVariants as side
use Rattle.sim_rules.specs.declared.outcome.End.{End}
use Rattle.sim_rules.specs.declared.outcome.End.TheVariants as ends
use Rattle.sim_rules.specs.declared.outcome.Made.{Made}
use Rattle.sim_rules.specs.declared.outcome.Made.TheVariants as made
use Rattle.sim_rules.specs.declared.outcome.Outcome.{Outcome}
use Rattle.sim_rules.specs.declared.outcome.Outcome.TheVariants as outcome
use Rattle.sim_rules.specs.Laws.{LifeGoesOn}
use Rattle.sim_rules.specs.Machine.{Stops}
use Rattle.sim_rules.specs.World.{World, Life, Job, Idle, Walks, Keeps, Releasing, Asking, FirstSees, HasMissed, FoundFailure, Sweep}
use Rattle.sim_rules.specs.World.{KeeperWalk, Rests, SweepTakes, SweepGives, CaptureLooks, CaptureGives, LogWork, Resting, Committing, Rotating}
use Rattle.sim_rules.specs.World.{Running, job_of, sweep_or}
use Rattle.sim_rules.specs.Fitting.{fits}
use Rattle.sim_rules.specs.After.{after, capture_gives, capture_takes, checkpoint_called}
use Rattle.sim_rules.specs.After.{keeper_stepped, log_called, running_called, sweep_begins, sweep_gives, sweep_takes}
use Rattle.sim_rules.specs.After.{worker_stepped}
use Rattle.sim_rules.specs.Cases.{BeginsCapture, BeginsChange, BeginsCheckpoint, BeginsSeal, HappensInside, IsStep, MakesCall, Meets, Publishes}
use Rattle.sim_rules.specs.Cases.{StagesRun, StepsJob, StepsRelease, StopsInside}
use Rattle.sim_rules.specs.Runs.{Row, Happens, IsMove, move_of}
use Rattle.sim_rules.specs.Sound.{AnswersLegally, IsSound, IsSoundInside, IsSoundOutside, ReleasesLegal, Stays, durable_or, released_by, released_with}
use Rattle.sim_rules.proofs.RunLaws.{draws_inside, ends_inside, quiet_inside, releases_inside}

-- ---- the durable count, where nothing is published

of_either : (b : Bool) (x y : Life) (n : ℕ) → x.durable ≡ n → y.durable ≡ n → (if b then x else y).durable ≡ n
of_either true x y n one two = one
of_either false x y n one two = two

of_sweep_takes : (l : Life) (end : End) → (sweep_takes l end).durable ≡ l.durable
of_sweep_takes l ends.Goes = refl
of_sweep_takes l end = refl

of_sweep_begins : (l : Life) (sweep : Option Sweep) (m : Made) (end : End) → (sweep_begins l sweep m end).durable ≡ l.durable
of_sweep_begins l None m end = refl
of_sweep_begins l (Some sweep) m end = of_sweep_takes l end

of_sweep_gives : (w : World) (l : Life) (sweep : Sweep) (end : End) → (sweep_gives w l sweep end).durable ≡ l.durable
of_sweep_gives w l sweep ends.Goes = refl
of_sweep_gives w l sweep (ends.Swept n) = refl
of_sweep_gives w l sweep end = refl

of_capture_takes : (l : Life) (end : End) → (capture_takes l end).durable ≡ l.durable
of_capture_takes l ends.Goes = refl
of_capture_takes l end = refl

of_capture_gives : (w : World) (l : Life) (mark : ℕ) (end : End) → (capture_gives w l mark end).durable ≡ l.durable
of_capture_gives w l mark (ends.Captured n) = refl
of_capture_gives w l mark end = refl

of_keeper_stepped : (w : World) (l : Life) (walk : KeeperWalk) (m : Made) (end : End) → (keeper_stepped w l walk m end).durable ≡ l.durable
of_keeper_stepped w l Rests m end = refl
of_keeper_stepped w l SweepTakes m end = of_sweep_takes l end
of_keeper_stepped w l SweepGives m end = of_sweep_gives w l (sweep_or l.sweep) end
of_keeper_stepped w l CaptureLooks m end = refl
of_keeper_stepped w l (CaptureGives mark) m end = of_capture_gives w l mark end

of_log_called : (w : World) (l : Life) (log : LogWork) → (log_called w l log).durable ≡ l.durable
of_log_called w l Resting = refl
of_log_called w l (Committing n left) = of_either (left == 1) _ _ l.durable refl refl
of_log_called w l (Rotating left) = of_either (left == 1) _ _ l.durable refl refl

of_running_called : (l : Life) (running : Running) → (running_called l running).durable ≡ l.durable
of_running_called l running =
    of_either (nat_lt 0 running.clears) _ _ l.durable refl (of_either running.is_waiting _ _ l.durable refl (of_either (nat_lt 1 running.seals) _ _ l.durable refl refl))

of_checkpoint_called : (l : Life) (checkpoint : Option Running) → (checkpoint_called l checkpoint).durable ≡ l.durable
of_checkpoint_called l None = refl
of_checkpoint_called l (Some running) = of_running_called l running

-- a reply is released below the durable count
replied_within : (l : Life) (position : ℕ) (asking : Asking) (m : Made) (q : ℕ) (reply : Reply) → StepsRelease l position asking m (ends.Replied q reply) → q ≤ l.durable
replied_within l position FirstSees (made.Saw n) q reply case = omega (arith, case.0, case.1, case.2)
replied_within l position FirstSees m q reply case = absurd case
replied_within l position HasMissed (made.FoundAlive is_alive) q reply case = absurd case
replied_within l position HasMissed m q reply case = absurd case
replied_within l position FoundFailure (made.Saw n) q reply case = omega (arith, case.0, case.1, case.2)
replied_within l position FoundFailure m q reply case = absurd case

-- ---- each event

abbrev living : Files → List Command → Life → World
living files history l = record { files = files; history = history; life = Some l }

-- it happens, and the files stand for what they have to
abbrev Occurs : Files → List Command → Life → ℕ → Opened → Event → Outcome → Type 0
Occurs files history l least found e x =
    Happens (living files history l) (e, x) (after (living files history l) found e x)
    × Stays (living files history l) l.durable (e, x) (after (living files history l) found e x) (durable_or (after (living files history l) found e x).life least)

abbrev Goes : World → List Row → Files → List Command → Life → List Call → ℕ → Opened → Event → Outcome → Type 0
Goes from rows files history l released least found e x =
    IsSound from ((e, x) ∷ rows) (after (living files history l) found e x) least (released_by (living files history l) e x released)

module _ (from : World) (rows : List Row) (files : Files) (history : List Command) (l : Life) (released : List Call) (least : ℕ) (found : Opened) (sound : IsSoundInside from rows (living files history l) l.durable released) (low : l.durable ≤ least) (reached : least ≤ length history) where
  -- an event that leaves the history, and is no move
  quiet : (e : Event) (x : Outcome) (w' : World) (durable : ℕ) → Happens (living files history l) (e, x) w' × Stays (living files history l) l.durable (e, x) w' durable
      → IsMove (living files history l) e x None → w'.history ≡ history → l.durable ≤ durable → IsSoundInside from ((e, x) ∷ rows) w' durable released
  quiet e x w' durable occurs none same longer =
      quiet_inside from rows (living files history l) l.durable released (e, x) w' durable sound occurs.0 occurs.1 none same longer

  -- one that ends the life
  ending_life : (e : Event) (x : Outcome) (w' : World) → Happens (living files history l) (e, x) w' × Stays (living files history l) l.durable (e, x) w' least
      → ((p : ℕ) → IsMove (living files history l) e x (Some (Stops p))) → w'.history ≡ history → IsSoundOutside from ((e, x) ∷ rows) w' least released
  ending_life e x w' occurs stops same =
      ends_inside from rows (living files history l) l.durable released (e, x) w' least sound occurs.0 occurs.1 stops same low reached

  by_outcome : (e : Event) (x y : Outcome) → x ≡ y → (Occurs files history l least found e y → Goes from rows files history l released least found e y) → Occurs files history l least found e x
      → Goes from rows files history l released least found e x
  by_outcome e x y is goes = subst (λ (z : Outcome). Occurs files history l least found e z → Goes from rows files history l released least found e z) (sym is) goes

  skipped_goes : (e : Event) → Occurs files history l least found e outcome.Skipped → Goes from rows files history l released least found e outcome.Skipped
  unfolding after
  skipped_goes e occurs = quiet e outcome.Skipped _ l.durable occurs refl refl (omega arith)

  change_goes : (worker : ℕ) (c : Command) (x : Outcome) → Occurs files history l least found (event.Change worker c) x → BeginsChange l c x → Goes from rows files history l released least found (event.Change worker c) x
  unfolding after
  change_goes worker c outcome.Started occurs case = quiet (event.Change worker c) outcome.Started _ l.durable occurs refl refl (omega arith)
  change_goes worker c (outcome.Refused refusal) occurs case = quiet (event.Change worker c) (outcome.Refused refusal) _ l.durable occurs refl refl (omega arith)
  change_goes worker c x occurs case = absurd case

  read_goes : (worker : ℕ) (r : Read) → Occurs files history l least found (event.Read worker r) outcome.Started → Goes from rows files history l released least found (event.Read worker r) outcome.Started
  unfolding after
  read_goes worker r occurs = quiet (event.Read worker r) outcome.Started _ l.durable occurs refl refl (omega arith)

  release_goes : (worker : ℕ) → Occurs files history l least found (event.Release worker) outcome.Started → Goes from rows files history l released least found (event.Release worker) outcome.Started
  unfolding after
  release_goes worker occurs = quiet (event.Release worker) outcome.Started _ l.durable occurs refl refl (omega arith)

  -- a step of a worker, by its job
  job_goes : (worker : ℕ) (job : Job) (m : Made) (end : End) → Happens (living files history l) (event.Step worker, outcome.Stepped m end) (worker_stepped (living files history l) l worker job m end)
      × Stays (living files history l) l.durable (event.Step worker, outcome.Stepped m end) (worker_stepped (living files history l) l worker job m end) l.durable
      → IsMove (living files history l) (event.Step worker) (outcome.Stepped m end) (move_of job m end) → StepsJob (living files history l) l worker job m end → ReleasesLegal history (move_of job m end)
      → IsSoundInside from ((event.Step worker, outcome.Stepped m end) ∷ rows) (worker_stepped (living files history l) l worker job m end) l.durable (released_with (move_of job m end) released)
  job_goes worker Idle m end occurs is case legal = absurd case
  job_goes worker (Keeps asked position) m end occurs is case legal = absurd case
  job_goes worker (Walks (Changing c) stage) (made.Drew ticket) end occurs is case legal =
      draws_inside from rows (living files history l) l.durable released (event.Step worker, outcome.Stepped (made.Drew ticket) end) _ c sound occurs.0 occurs.1 is refl
  job_goes worker (Walks (Changing c) stage) m end occurs is case legal =
      quiet_inside from rows (living files history l) l.durable released (event.Step worker, outcome.Stepped m end) _ l.durable sound occurs.0 occurs.1 is refl (omega arith)
  job_goes worker (Walks (Reading r) stage) m end occurs is case legal =
      quiet_inside from rows (living files history l) l.durable released (event.Step worker, outcome.Stepped m end) _ l.durable sound occurs.0 occurs.1 is refl (omega arith)
  job_goes worker (Releasing asked position asking) m (ends.Replied q reply) occurs is case legal =
      releases_inside from rows (living files history l) l.durable released (event.Step worker, outcome.Stepped m (ends.Replied q reply)) _ (call q asked reply) sound occurs.0 occurs.1 is refl legal
      (replied_within l position asking m q reply case)
  job_goes worker (Releasing asked position asking) m end occurs is case legal =
      quiet_inside from rows (living files history l) l.durable released (event.Step worker, outcome.Stepped m end) _ l.durable sound occurs.0 occurs.1 is refl (omega arith)

  step_goes : (worker : ℕ) (x : Outcome) → Occurs files history l least found (event.Step worker) x → IsStep x (StepsJob (living files history l) l worker (job_of l worker))
      → AnswersLegally (living files history l) (event.Step worker) x → Goes from rows files history l released least found (event.Step worker) x
  unfolding after
  step_goes worker (outcome.Stepped m end) occurs case legal = job_goes worker (job_of l worker) m end occurs refl case legal
  step_goes worker x occurs case legal = absurd case

  sweep_goes : (x : Outcome) (P : Made → End → Type 0) → Occurs files history l least found event.Sweep x → IsStep x P → Goes from rows files history l released least found event.Sweep x
  unfolding after
  sweep_goes (outcome.Stepped m end) P occurs case = quiet event.Sweep (outcome.Stepped m end) _ (sweep_begins l l.sweep m end).durable occurs refl refl (omega (arith, of_sweep_begins l l.sweep m end))
  sweep_goes x P occurs case = absurd case

  keeper_goes : (x : Outcome) (P : Made → End → Type 0) → Occurs files history l least found event.KeeperStep x → IsStep x P → Goes from rows files history l released least found event.KeeperStep x
  unfolding after
  keeper_goes (outcome.Stepped m end) P occurs case =
      quiet event.KeeperStep (outcome.Stepped m end) _ (keeper_stepped (living files history l) l l.walk m end).durable occurs refl refl (omega (arith, of_keeper_stepped (living files history l) l l.walk m end))
  keeper_goes x P occurs case = absurd case

  stage_goes : (most : ℕ) (x : Outcome) → Occurs files history l least found (event.Stage most) x → StagesRun (living files history l) l most x → Goes from rows files history l released least found (event.Stage most) x
  unfolding after
  stage_goes most (outcome.Staged n) occurs case = quiet (event.Stage most) (outcome.Staged n) _ l.durable occurs refl refl (omega arith)
  stage_goes most (outcome.Refused refusal) occurs case = quiet (event.Stage most) (outcome.Refused refusal) _ l.durable occurs refl refl (omega arith)
  stage_goes most x occurs case = absurd case

  device_goes : (s : Side) (e : Ending) (x : Outcome) → Occurs files history l least found (event.Device s e) x → MakesCall (living files history l) l s e x → Goes from rows files history l released least found (event.Device s e) x
  unfolding after
  device_goes s e (outcome.Refused refusal) occurs case = quiet (event.Device s e) (outcome.Refused refusal) _ l.durable occurs refl refl (omega arith)
  device_goes s e (outcome.Logged made phase) occurs case =
      quiet (event.Device s e) (outcome.Logged made phase) _ (log_called (living files history l) l l.log).durable occurs refl refl (omega (arith, of_log_called (living files history l) l l.log))
  device_goes s e (outcome.Checkpointed made phase) occurs case =
      quiet (event.Device s e) (outcome.Checkpointed made phase) _ (checkpoint_called l l.checkpoint).durable occurs refl refl (omega (arith, of_checkpoint_called l l.checkpoint))
  device_goes s e (outcome.CallFailed made) occurs case = quiet (event.Device s e) (outcome.CallFailed made) _ l.durable occurs refl refl (omega arith)
  device_goes side.Log ending.Done x occurs case = absurd case
  device_goes side.Log (ending.Fails fill) x occurs case = absurd case
  device_goes side.Checkpoint ending.Done x occurs case = absurd case
  device_goes side.Checkpoint (ending.Fails fill) x occurs case = absurd case

  publish_goes : (x : Outcome) → Occurs files history l least found event.Publish x → Publishes l x → Goes from rows files history l released least found event.Publish x
  unfolding after
  publish_goes (outcome.Published n) occurs case = quiet event.Publish (outcome.Published n) _ (max l.durable n) occurs refl refl (omega arith)
  publish_goes x occurs case = absurd case

  fail_goes : Occurs files history l least found event.Fail outcome.FailMade → Goes from rows files history l released least found event.Fail outcome.FailMade
  unfolding after
  fail_goes occurs = quiet event.Fail outcome.FailMade _ l.durable occurs refl refl (omega arith)

  begin_goes : (x : Outcome) → Occurs files history l least found event.Begin x → BeginsCheckpoint l x → Goes from rows files history l released least found event.Begin x
  unfolding after
  begin_goes outcome.Begun occurs case = quiet event.Begin outcome.Begun _ l.durable occurs refl refl (omega arith)
  begin_goes (outcome.Refused refusal) occurs case = quiet event.Begin (outcome.Refused refusal) _ l.durable occurs refl refl (omega arith)
  begin_goes x occurs case = absurd case

  capture_goes : (stripe : ℕ) (x : Outcome) → Occurs files history l least found (event.Capture stripe) x → BeginsCapture l stripe x → Goes from rows files history l released least found (event.Capture stripe) x
  unfolding after
  capture_goes stripe (outcome.Stepped m end) occurs case =
      quiet (event.Capture stripe) (outcome.Stepped m end) _ (capture_takes l end).durable occurs refl refl (omega (arith, of_capture_takes l end))
  capture_goes stripe (outcome.Refused refusal) occurs case = quiet (event.Capture stripe) (outcome.Refused refusal) _ l.durable occurs refl refl (omega arith)
  capture_goes stripe x occurs case = absurd case

  seal_goes : (x : Outcome) → Occurs files history l least found event.Seal x → BeginsSeal l x → Goes from rows files history l released least found event.Seal x
  unfolding after
  seal_goes outcome.Sealing occurs case = quiet event.Seal outcome.Sealing _ l.durable occurs refl refl (omega arith)
  seal_goes (outcome.Refused refusal) occurs case = quiet event.Seal (outcome.Refused refusal) _ l.durable occurs refl refl (omega arith)
  seal_goes x occurs case = absurd case

  stop_goes : (within : Option Side) (fill : Fill) (x : Outcome) → Occurs files history l least found (event.Stop within fill) x → StopsInside (living files history l) l within x
      → Goes from rows files history l released least found (event.Stop within fill) x
  unfolding after
  stop_goes None fill (outcome.Stopped None) occurs case = ending_life (event.Stop None fill) (outcome.Stopped None) _ occurs (λ p. (p, refl)) refl
  stop_goes (Some s) fill (outcome.Stopped (Some made)) occurs case = ending_life (event.Stop (Some s) fill) (outcome.Stopped (Some made)) _ occurs (λ p. (p, refl)) refl
  stop_goes None fill x occurs case = absurd case
  stop_goes (Some s) fill x occurs case = absurd case

  leave_goes : Occurs files history l least found event.Leave outcome.Left → Goes from rows files history l released least found event.Leave outcome.Left
  unfolding after
  leave_goes occurs = ending_life event.Leave outcome.Left _ occurs (λ p. (p, refl)) refl

  fitting_goes : (e : Event) (x : Outcome) → Occurs files history l least found e x → HappensInside (living files history l) l e x → AnswersLegally (living files history l) e x
      → Goes from rows files history l released least found e x
  fitting_goes event.Old x occurs case legal = absurd case
  fitting_goes (event.Open stripes fails_at) x occurs case legal = absurd case
  fitting_goes (event.Change worker c) x occurs case legal = change_goes worker c x occurs case
  fitting_goes (event.Read worker r) x occurs case legal = by_outcome (event.Read worker r) x outcome.Started case (read_goes worker r) occurs
  fitting_goes (event.Step worker) x occurs case legal = step_goes worker x occurs case legal
  fitting_goes (event.Release worker) x occurs case legal = by_outcome (event.Release worker) x outcome.Started case (release_goes worker) occurs
  fitting_goes event.Sweep x occurs case legal = sweep_goes x _ occurs case
  fitting_goes event.KeeperStep x occurs case legal = keeper_goes x _ occurs case
  fitting_goes (event.Stage most) x occurs case legal = stage_goes most x occurs case
  fitting_goes (event.Device s e) x occurs case legal = device_goes s e x occurs case
  fitting_goes event.Publish x occurs case legal = publish_goes x occurs case
  fitting_goes event.Fail x occurs case legal = by_outcome event.Fail x outcome.FailMade case fail_goes occurs
  fitting_goes event.Begin x occurs case legal = begin_goes x occurs case
  fitting_goes (event.Capture stripe) x occurs case legal = capture_goes stripe x occurs case
  fitting_goes event.Seal x occurs case legal = seal_goes x occurs case
  fitting_goes (event.Stop within fill) x occurs case legal = stop_goes within fill x occurs case
  fitting_goes event.Leave x occurs case legal = by_outcome event.Leave x outcome.Left case leave_goes occurs

  -- whether it fits or not
  event_goes : (b : Bool) (e : Event) (x : Outcome) → fits (living files history l) e ≡ b → Meets (living files history l) found e x → Occurs files history l least found e x
      → AnswersLegally (living files history l) e x → Goes from rows files history l released least found e x
  event_goes true e x is meets occurs legal =
      fitting_goes e x occurs (subst (λ (b : Bool). MatchBool b (HappensInside (living files history l) l e x) (x ≡ outcome.Skipped)) is meets) legal
  event_goes false e x is meets occurs legal =
      by_outcome e x outcome.Skipped (subst (λ (b : Bool). MatchBool b (HappensInside (living files history l) l e x) (x ≡ outcome.Skipped)) is meets) (skipped_goes e) occurs

-- the same of any world that has this life
pub life_goes_on : LifeGoesOn
life_goes_on from rows w l released least e x w' life sound happens stays legal low reached =
    subst (λ (y : Option Life). IsSoundInside from rows (record { files = w.files; history = w.history; life = y }) l.durable released → Happens (record { files = w.files; history = w.history; life = y }) (e, x) w'
    → Stays (record { files = w.files; history = w.history; life = y }) l.durable (e, x) w' (durable_or w'.life least)
    → AnswersLegally (record { files = w.files; history = w.history; life = y }) e x → IsSound from ((e, x) ∷ rows) w' least (released_by (record { files = w.files; history = w.history; life = y }) e x released))
    (sym life)
    (λ sound happens stays legal.
    let v : World = living w.files w.history l in
    subst (λ (next : World). IsSound from ((e, x) ∷ rows) next least (released_by v e x released)) (sym happens.world)
    (event_goes from rows w.files w.history l released least happens.found sound low reached (fits v e) e x refl happens.meets
    (subst (λ (next : World). Happens v (e, x) next × Stays v l.durable (e, x) next (durable_or next.life least)) happens.world (happens, stays)) legal))
    sound happens stays legal
