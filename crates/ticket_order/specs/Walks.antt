-- Where a walk stands: what the record of its pass has gained since the walk began, and what its next step leaves.
use Rattle.std.specs.FinMap as finite
use Rattle.std.specs.Prelude.{length, ◌≡◌, ℕ, ◌+◌, ◌^◌, ◌<◌, max, List, [], ◌∷◌, ◌++◌, Option, Some, None, Bool, true}
use Rattle.std.specs.Prelude.{false}
use Rattle.atomic_methods.specs.PartState.{PartState}
use Rattle.java_hash.specs.Stripes.{stripe_of}
use Rattle.map_types.specs.declared.commands.Command.{Command}
use Rattle.map_types.specs.declared.commands.Read as read_type
use Rattle.map_types.specs.declared.commands.Reply.{Reply}
use Rattle.map_types.specs.declared.refusals.Refusal.{Refusal}
use Rattle.map_types.specs.declared.refusals.Refusal.TheVariants as refusal
use Rattle.map_types.specs.declared.texts.Value.{Value}
use Rattle.map_model.specs.Steps.{step, answer}
use Rattle.ticket_order.specs.declared.stripe.Entry.{Entry}
use Rattle.ticket_order.specs.declared.held.Held.{Held}
use Rattle.ticket_order.specs.declared.record.Purpose.TheVariants.{Nothing}
use Rattle.ticket_order.specs.declared.record.StepMade.{StepMade}
use Rattle.ticket_order.specs.declared.record.StepMade.TheVariants.{Took, FoundHeld, Gave, Drew, Looked, Published, Saw}
use Rattle.ticket_order.specs.declared.record.StepMade.TheVariants.{Failed, FoundAlive}
use Rattle.ticket_order.specs.declared.record.Holding.{Holding}
use Rattle.ticket_order.specs.declared.record.Record.{Record}
use Rattle.ticket_order.specs.declared.change_walk.ChangeStage.{ChangeStage}
use Rattle.ticket_order.specs.declared.change_walk.ChangeStage.TheVariants as change
use Rattle.ticket_order.specs.declared.read_walk.ReadStage.{ReadStage}
use Rattle.ticket_order.specs.declared.read_walk.ReadStage.TheVariants as read
use Rattle.ticket_order.specs.declared.release_walk.ReleaseStage.{ReleaseStage}
use Rattle.ticket_order.specs.declared.release_walk.ReleaseStage.TheVariants as release
use Rattle.ticket_order.specs.declared.sweep_walk.SweepStage.{SweepStage}
use Rattle.ticket_order.specs.declared.sweep_walk.SweepStage.TheVariants as sweep
use Rattle.ticket_order.specs.declared.capture_walk.Captured.{Captured}
use Rattle.ticket_order.specs.declared.capture_walk.CaptureStage.{CaptureStage}
use Rattle.ticket_order.specs.declared.capture_walk.CaptureStage.TheVariants as capture
use Rattle.ticket_order.specs.declared.walk.Taken.{Taken}
use Rattle.ticket_order.specs.declared.walk.Stage.{Stage}
use Rattle.ticket_order.specs.declared.walk.Stage.TheVariants as stage
use Rattle.ticket_order.specs.declared.walk.Walk.{Walk}
use Rattle.ticket_order.specs.declared.walk.Stepped.{Stepped}
use Rattle.ticket_order.specs.declared.walk.Stepped.TheVariants as stepped
use Rattle.ticket_order.specs.Records.{IsWithin, ticket_limit, entry, past, reach, taking, living, looking, giving}
use Rattle.ticket_order.specs.Memory.{HasMemory}
use Rattle.ticket_order.specs.StepRules.{Rises, TakesStripe}
use Rattle.ticket_order.specs.Calls.{walked, MakesCall, MakesRead, RefusesChange, RefusesRead, RefusesSweep}
use Rattle.ticket_order.specs.Calls.{RefusesCapture, HasTooMany, Misses, MissesAlive, Releases, SweepsStripe}
use Rattle.ticket_order.specs.Calls.{CapturesStripe}

-- what a walk is for
pub data Task : Type 0 where
  ToChange : Command → Task
  ToRead : read_type.Read → Task
  ToRelease : ℕ → Reply → Task
  ToSweep : ℕ → Task
  ToCapture : ℕ → Task

-- which of the eight steps, and on which stripe
pub data Kind : Type 0 where
  Take : ℕ → Kind
  Give : ℕ → Kind
  Ticket : Kind
  Look : Kind
  Durable : Kind
  See : Kind
  Fail : Kind
  Alive : Kind

abbrev pub kind_of : StepMade → Kind
kind_of (Took i outbox last) = Take i
kind_of (FoundHeld i) = Take i
kind_of (Gave i) = Give i
kind_of (Drew t) = Ticket
kind_of (Looked q) = Look
kind_of (Published x) = Durable
kind_of (Saw d) = See
kind_of Failed = Fail
kind_of (FoundAlive is_alive) = Alive

-- the kind of the step that a walk on n stripes makes next
abbrev pub next_of_change : ℕ → ChangeStage → Kind
next_of_change n (change.Begins new) = Take (stripe_of n new.command.key)
next_of_change n (change.HasTaken new t) = Alive
next_of_change n (change.IsAlive new t) = Look
next_of_change n (change.IsReady new t prepared) = Ticket
next_of_change n (change.HasDrawn t h) = Give t.stripe

abbrev pub next_of_read : ℕ → ReadStage → Kind
next_of_read n (read.Begins r) = Take (stripe_of n r.key)
next_of_read n (read.HasTaken r t) = Alive
next_of_read n (read.HasRead r t h) = Give t.stripe

abbrev pub next_of_release : ReleaseStage → Kind
next_of_release (release.Begins h) = See
next_of_release (release.HasMissed h) = Alive
next_of_release (release.FoundFailure h) = See

abbrev pub next_of_sweep : SweepStage → Kind
next_of_sweep (sweep.Begins spare i) = Take i
next_of_sweep (sweep.HasTaken spare t) = Give t.stripe

abbrev pub next_of_capture : CaptureStage → Kind
next_of_capture (capture.Begins i) = Take i
next_of_capture (capture.HasTaken t) = Look
next_of_capture (capture.HasLooked t z) = Give t.stripe

abbrev pub next_of_stage : ℕ → Stage → Kind
next_of_stage n (stage.Change s) = next_of_change n s
next_of_stage n (stage.Read s) = next_of_read n s
next_of_stage n (stage.Release s) = next_of_release s
next_of_stage n (stage.Sweep s) = next_of_sweep s
next_of_stage n (stage.Capture s) = next_of_capture s
next_of_stage n (stage.GivingBack t e) = Give t.stripe

abbrev pub next_kind : ℕ → Walk → Kind
next_kind n w = next_of_stage n w.stage

-- how many steps are left at most
abbrev pub left_of_change : ChangeStage → ℕ
left_of_change (change.Begins new) = 5
left_of_change (change.HasTaken new t) = 4
left_of_change (change.IsAlive new t) = 3
left_of_change (change.IsReady new t prepared) = 2
left_of_change (change.HasDrawn t h) = 1

abbrev pub left_of_read : ReadStage → ℕ
left_of_read (read.Begins r) = 3
left_of_read (read.HasTaken r t) = 2
left_of_read (read.HasRead r t h) = 1

abbrev pub left_of_release : ReleaseStage → ℕ
left_of_release (release.Begins h) = 3
left_of_release (release.HasMissed h) = 2
left_of_release (release.FoundFailure h) = 1

abbrev pub left_of_sweep : SweepStage → ℕ
left_of_sweep (sweep.Begins spare i) = 2
left_of_sweep (sweep.HasTaken spare t) = 1

abbrev pub left_of_capture : CaptureStage → ℕ
left_of_capture (capture.Begins i) = 3
left_of_capture (capture.HasTaken t) = 2
left_of_capture (capture.HasLooked t z) = 1

abbrev pub left_of_stage : Stage → ℕ
left_of_stage (stage.Change s) = left_of_change s
left_of_stage (stage.Read s) = left_of_read s
left_of_stage (stage.Release s) = left_of_release s
left_of_stage (stage.Sweep s) = left_of_sweep s
left_of_stage (stage.Capture s) = left_of_capture s
left_of_stage (stage.GivingBack t e) = 1

abbrev pub steps_left : Walk → ℕ
steps_left w = left_of_stage w.stage

-- a walk that goes on has fewer than k steps left
abbrev pub HasFewerLeft : ℕ → Stepped → Type 0
HasFewerLeft k (stepped.More w) = steps_left w < k
HasFewerLeft k end = Unit {0}

-- the entries that a sweep has taken and not handed out yet
abbrev pub entries_of_sweep : SweepStage → List Entry
entries_of_sweep (sweep.Begins spare i) = []
entries_of_sweep (sweep.HasTaken spare t) = t.content.outbox.items

abbrev pub entries_of_stage : Stage → List Entry
entries_of_stage (stage.Sweep s) = entries_of_sweep s
entries_of_stage s = []

abbrev pub entries_of_walk : Walk → List Entry
entries_of_walk w = entries_of_stage w.stage

-- what a sweep hands out
abbrev pub KeepsEntries : List Entry → Stepped → Type 0
KeepsEntries es (stepped.Swept entries) = entries.items ≡ es
KeepsEntries es end = Unit {0}

-- the entries of what a capture took, in rising byte order of their keys
abbrev pub entries_captured : Captured → List (List ℕ × Value)
entries_captured z = finite.entries z.part.value.map

-- the part of the stripe of a capture that has only its GIVE left
abbrev pub part_of_capture : CaptureStage → Option PartState
part_of_capture (capture.HasLooked t z) = Some t.content.part
part_of_capture s = None

abbrev pub part_of_stage : Stage → Option PartState
part_of_stage (stage.Capture s) = part_of_capture s
part_of_stage s = None

abbrev pub part_of_walk : Walk → Option PartState
part_of_walk w = part_of_stage w.stage

-- what a capture has taken and not handed out yet
abbrev pub captured_of_capture : CaptureStage → Option Captured
captured_of_capture (capture.HasLooked t z) = Some z
captured_of_capture s = None

abbrev pub captured_of_stage : Stage → Option Captured
captured_of_stage (stage.Capture s) = captured_of_capture s
captured_of_stage s = None

abbrev pub captured_of_walk : Walk → Option Captured
captured_of_walk w = captured_of_stage w.stage

-- a capture that has copied its stripe hands that out, and no other does
abbrev pub KeepsCaptured : Option Captured → Stepped → Type 0
KeepsCaptured (Some z) end = end ≡ stepped.Captured z
KeepsCaptured None (stepped.Captured z) = ⊥
KeepsCaptured None end = Unit {0}

-- the refusal of a walk that gives its stripe back
abbrev pub refusal_of_stage : Stage → Option Refusal
refusal_of_stage (stage.GivingBack t e) = Some e
refusal_of_stage s = None

abbrev pub refusal_of_walk : Walk → Option Refusal
refusal_of_walk w = refusal_of_stage w.stage

abbrev pub KeepsRefusal : Option Refusal → Stepped → Type 0
KeepsRefusal None end = Unit {0}
KeepsRefusal (Some e) end = end ≡ stepped.Refused e

-- a sweep or a capture that has only its GIVE left
abbrev pub holds_of_sweep : SweepStage → Bool
holds_of_sweep (sweep.HasTaken spare t) = true
holds_of_sweep s = false

abbrev pub holds_of_capture : CaptureStage → Bool
holds_of_capture (capture.HasLooked t z) = true
holds_of_capture s = false

abbrev pub holds_of_stage : Stage → Bool
holds_of_stage (stage.Sweep s) = holds_of_sweep s
holds_of_stage (stage.Capture s) = holds_of_capture s
holds_of_stage s = false

abbrev pub is_holding : Walk → Bool
is_holding w = holds_of_stage w.stage

-- what a refusal of the task leaves
abbrev pub Refuses : ℕ → Record → Task → Refusal → Record → Type 0
Refuses n b (ToChange c) e w = RefusesChange b (stripe_of n c.key) e w
Refuses n b (ToRead r) e w = RefusesRead b (stripe_of n r.key) e w
Refuses n b (ToRelease q y) e w = ⊥
Refuses n b (ToSweep i) e w = RefusesSweep b i e w
Refuses n b (ToCapture i) e w = RefusesCapture b i e w

-- the record says that this stripe is held, with this content to be given back
pub record HasContent (p : Record) (t : Taken) : Type 0 where
  pub held : Holding
  pub holding : p.holding ≡ Some held
  pub stripe_is : held.stripe ≡ t.stripe
  pub part_is : t.content.part.map ≡ held.part
  pub outbox_is : t.content.outbox.items ≡ held.outbox
  pub last_is : t.content.last ≡ held.last

-- since b: nothing
pub record HasBegun (b : Record) (task : Task) (same : Task) (p : Record) : Type 0 where
  pub task_is : task ≡ same
  pub is : p ≡ b
  pub empty_handed : b.holding ≡ None

-- since b: TAKE of this stripe, which had this content
pub record TookContent (b : Record) (t : Taken) (p : Record) : Type 0 where
  pub taken : List Command
  pub is : p ≡ taking b t.stripe t.content.part.map t.content.outbox.items t.content.last taken

-- since b: TAKE, and ALIVE that said yes
pub record TookAlive (b : Record) (t : Taken) (p : Record) : Type 0 where
  pub taken : List Command
  pub is : p ≡ living (taking b t.stripe t.content.part.map t.content.outbox.items t.content.last taken) true

-- since b: TAKE, ALIVE and LOOK
pub record TookLooked (b : Record) (t : Taken) (p : Record) : Type 0 where
  pub taken : List Command
  pub looked : List Command
  pub is : p ≡ walked b t.stripe t.content.part.map t.content.outbox.items t.content.last taken looked

pub record OfTask (n : ℕ) (task same : Task) (i j : ℕ) : Type 0 where
  pub task_is : task ≡ same
  pub stripe_is : i ≡ j

-- the change c with this ticket was made on what was taken, which is t now, and h has its position and reply
pub record HasChanged (c : Command) (before : Taken) (ticket : ℕ) (t : Taken) (h : Held) : Type 0 where
  pub stripe : t.stripe ≡ before.stripe
  pub part : t.content.part.map ≡ (step before.content.part.map c).map
  pub growth : t.content.part.growth ≡ before.content.part.growth
  pub outbox : t.content.outbox.items ≡ before.content.outbox.items ++ entry ticket c ∷ []
  pub last : t.content.last ≡ ticket + 1
  pub position : h.position ≡ ticket + 1
  pub reply : h.reply ≡ (step before.content.part.map c).reply

-- the ticket was drawn, and the GIVE that is left makes the call
pub record HasMade (n : ℕ) (b : Record) (task : Task) (t : Taken) (h : Held) (p : Record) : Type 0 where
  pub command : Command
  pub task_is : task ≡ ToChange command
  pub content : HasContent p t
  pub made : MakesCall n b command h.position h.reply (giving Nothing p)

-- the GIVE that is left refuses the task
pub record IsRefusing (n : ℕ) (b : Record) (task : Task) (t : Taken) (e : Refusal) (p : Record) : Type 0 where
  pub content : HasContent p t
  pub refused : Refuses n b task e (giving Nothing p)
  -- a capture is full only if what it holds since its LOOK has too many entries
  pub too_many : e ≡ refusal.LogFull → (i : ℕ) → task ≡ ToCapture i → HasTooMany b i p

-- Since b: TAKE, and ALIVE that said yes. The position of the read is the greater of what the pass has seen and of one
-- past the last ticket of the stripe, and the reply is that of the stripe's part.
pub record HasAnswer (n : ℕ) (b : Record) (r : read_type.Read) (t : Taken) (h : Held) (p : Record) : Type 0 where
  pub found : Record
  pub took : TakesStripe n b t.stripe t.content found
  pub is : p ≡ living found true
  pub position_is : h.position ≡ max (reach p) t.content.last
  pub reply_is : h.reply ≡ answer t.content.part.map r

-- the walk of a change, which began at the record b, stands at the record p
abbrev pub FitsChange : ℕ → Record → Task → ChangeStage → Record → Type 0
FitsChange n b task (change.Begins new) p =
    HasBegun b task (ToChange new.command) p × IsWithin b.opening.key_limit new.command
FitsChange n b task (change.HasTaken new t) p = OfTask n task (ToChange new.command) t.stripe
    (stripe_of n new.command.key) × TookContent b t p × Rises b (past t.content.outbox.items) p
    × IsWithin b.opening.key_limit new.command
FitsChange n b task (change.IsAlive new t) p = OfTask n task (ToChange new.command) t.stripe
    (stripe_of n new.command.key) × TookAlive b t p × IsWithin b.opening.key_limit new.command
FitsChange n b task (change.IsReady new t prepared) p = OfTask n task (ToChange new.command) t.stripe
    (stripe_of n new.command.key) × TookLooked b t p × (reach p < ticket_limit)
    × HasMemory new.command t.content prepared × IsWithin b.opening.key_limit new.command
FitsChange n b task (change.HasDrawn t h) p = HasMade n b task t h p

abbrev pub FitsRead : ℕ → Record → Task → ReadStage → Record → Type 0
FitsRead n b task (read.Begins r) p = HasBegun b task (ToRead r) p
FitsRead n b task (read.HasTaken r t) p =
    OfTask n task (ToRead r) t.stripe (stripe_of n r.key) × TakesStripe n b t.stripe t.content p
FitsRead n b task (read.HasRead r t h) p = OfTask n task (ToRead r) t.stripe (stripe_of n r.key) × HasAnswer n b r t h p

abbrev pub FitsRelease : Record → Task → ReleaseStage → Record → Type 0
FitsRelease b task (release.Begins h) p = (task ≡ ToRelease h.position h.reply) × (p ≡ b)
FitsRelease b task (release.HasMissed h) p = (task ≡ ToRelease h.position h.reply) × Misses h.position b p
FitsRelease b task (release.FoundFailure h) p = (task ≡ ToRelease h.position h.reply) × MissesAlive h.position false b p

-- since b, by the keeper: TAKE
pub record HasSwept (n : ℕ) (b : Record) (task : Task) (t : Taken) (p : Record) : Type 0 where
  pub task_is : task ≡ ToSweep t.stripe
  pub keeper : b.keeper ≡ true
  pub took : TakesStripe n b t.stripe t.content p

abbrev pub FitsSweep : ℕ → Record → Task → SweepStage → Record → Type 0
FitsSweep n b task (sweep.Begins spare i) p = HasBegun b task (ToSweep i) p × (i < n) × (b.keeper ≡ true)
FitsSweep n b task (sweep.HasTaken spare t) p = HasSwept n b task t p

-- since b: TAKE, and LOOK at the mark, with the part as it is still held
pub record HasMarked (b : Record) (t : Taken) (z : Captured) (p : Record) : Type 0 where
  pub taken : List Command
  pub looked : List Command
  pub is : p ≡ looking (taking b t.stripe t.content.part.map t.content.outbox.items t.content.last taken) looked
  pub mark_is : z.mark ≡ reach p
  pub part_is : z.part.value ≡ t.content.part
  pub few : length (entries_captured z) < 2 ^ 32

abbrev pub FitsCapture : ℕ → Record → Task → CaptureStage → Record → Type 0
FitsCapture n b task (capture.Begins i) p = HasBegun b task (ToCapture i) p × (i < n)
FitsCapture n b task (capture.HasTaken t) p = (task ≡ ToCapture t.stripe) × TookContent b t p
FitsCapture n b task (capture.HasLooked t z) p = (task ≡ ToCapture t.stripe) × HasMarked b t z p

abbrev pub FitsStage : ℕ → Record → Task → Stage → Record → Type 0
FitsStage n b task (stage.Change s) p = FitsChange n b task s p
FitsStage n b task (stage.Read s) p = FitsRead n b task s p
FitsStage n b task (stage.Release s) p = FitsRelease b task s p
FitsStage n b task (stage.Sweep s) p = FitsSweep n b task s p
FitsStage n b task (stage.Capture s) p = FitsCapture n b task s p
FitsStage n b task (stage.GivingBack t e) p = IsRefusing n b task t e p

-- The walk of this task on n stripes, which began at the record b, stands at the record p.
abbrev pub Fits : ℕ → Record → Task → Walk → Record → Type 0
Fits n b task w p = FitsStage n b task w.stage p

-- the walk of some task stands at the record p
abbrev pub IsUnderWay : ℕ → Walk → Record → Type 0
IsUnderWay n w p = (b : Record) × (task : Task) × Fits n b task w p

-- what a step of the walk leaves: it goes on, or the task is over
abbrev pub Next : ℕ → Record → Task → Stepped → Record → Type 0
Next n b task (stepped.More walk) w = Fits n b task walk w
Next n b task (stepped.Refused e) w = Refuses n b task e w
Next n b (ToChange c) (stepped.Held h) w = MakesCall n b c h.position h.reply w
Next n b (ToRead r) (stepped.Held h) w = MakesRead n b r h.position h.reply w
Next n b (ToRelease q y) (stepped.Released z) w = Releases q y b z w
Next n b (ToSweep i) (stepped.Swept entries) w = SweepsStripe n b i entries.items w
Next n b (ToCapture i) (stepped.Captured z) w = CapturesStripe n b i z.mark (entries_captured z) w
Next n b task end w = ⊥

-- exactly one step was made, of this kind
pub record MakesOne {T : Type 0} (recorded : T → Record) (moves : T → StepMade → T → Type 0) (kind : Kind)
    (old new : T) : Type 0 where
  pub made : StepMade
  pub steps : (recorded new).steps ≡ (recorded old).steps ++ made ∷ []
  pub kind_is : kind_of made ≡ kind
  pub moved : moves old made new
