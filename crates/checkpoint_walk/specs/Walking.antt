-- Where a keeper stands between the steps of a capture.
use Rattle.std.specs.Prelude.{◌≡◌, ◌⊎◌, ℕ, List, ◌++◌, replicate, Option, None, Some, true, false, Result, Ok, Err, []}
use Rattle.std.specs.Prelude.{◌∷◌, length}
use Rattle.disk_model.specs.Files.{Files, now}
use Rattle.map_types.specs.declared.commands.Command.{Command}
use Rattle.map_types.specs.declared.refusals.Refusal.{Refusal}
use Rattle.map_types.specs.declared.refusals.Refusal.TheVariants.{Busy, Failed, LogFull, NoMemory, WrongPhase}
use Rattle.map_types.specs.declared.texts.Value.{Value}
use Rattle.map_model.specs.Histories.{History, fold_to}
use Rattle.map_model.specs.Parts.{part_of}
use Rattle.store_layout.specs.Checkpoints.{Section}
use Rattle.ticket_order.specs.declared.record.Record.{Record}
use Rattle.ticket_order.specs.declared.walk.Walk.{Walk}
use Rattle.ticket_order.specs.Records.{missing}
use Rattle.ticket_order.specs.Calls.{CapturesStripe, RefusesCapture}
use Rattle.ticket_order.specs.Walks.{Give, Kind, Look, Take, next_kind}
use Rattle.ticket_order.specs.declared.record.StepMade.TheVariants.{FoundHeld}
use Rattle.checkpoint_file.specs.States.{CheckpointState, with_section}
use Rattle.flusher.specs.declared.keeper.Keeper.{Keeper}
use Rattle.flusher.specs.Fitting.{Fits}
use Rattle.flusher.specs.KeeperSteps.{is_walking}
use Rattle.checkpoint_walk.specs.Capturing.{HasLooked, HasTaken, StandsWith}
use Rattle.checkpoint_walk.specs.Checkpointing.{HasGiven, IsNextStripe}

-- The capture of stripe i, which is the next, began at the record `begun`, and its walk has come from there. The keeper
-- stands as it did there, and no sweep walks.
pub record IsCapturing {D : Type 0} (states : D → List Files) (honest : D → Type 0) (n : ℕ) (done : List Command)
    (keeper : Keeper D) (walk : Walk) (p : Record) : Type 0 where
  pub begun : Record
  pub stripe : ℕ
  pub fits : Fits states honest n done keeper begun
  pub rests : is_walking keeper.sweeper.walking ≡ false
  pub works : keeper.is_broken ≡ false
  pub next : IsNextStripe stripe keeper.next keeper.checkpoint
  pub walked : HasTaken n begun stripe walk p ⊎ HasLooked n begun stripe walk p

abbrev pub FitsBy : {D : Type 0} → Option Walk → (D → List Files) → (D → Type 0) → ℕ → List Command → Keeper D → Record
    → Type 0
FitsBy None states honest n done keeper p = Fits states honest n done keeper p
FitsBy (Some walk) states honest n done keeper p = IsCapturing states honest n done keeper walk p

-- The keeper over n stripes, and the record of its pass, also between the steps of a capture. The commands of `done`
-- were committed since the pass's opening.
abbrev pub FitsWalking : {D : Type 0} → (D → List Files) → (D → Type 0) → ℕ → List Command → Keeper D → Record → Type 0
FitsWalking states honest n done keeper p = FitsBy keeper.capture states honest n done keeper p

-- the kind of the step that comes next in a capture of this stripe
abbrev pub kind_next : ℕ → ℕ → Option Walk → Kind
kind_next n stripe None = Take stripe
kind_next n stripe (Some walk) = next_kind n walk

-- GIVE: the section of the stripe is given to the checkpoint, with its mark
pub record GivesSection {D : Type 0} (n : ℕ) (b : Record) (stripe mark : ℕ) (old new : Keeper D)
    (w : Record) : Type 0 where
  pub entries : List (List ℕ × Value)
  pub captures : CapturesStripe n b stripe mark entries w
  pub writer : CheckpointState
  pub was : old.checkpoint ≡ Some writer
  pub is : new ≡ record old { checkpoint = Some (with_section mark entries writer); capture = None }
  pub stands : StandsWith writer mark entries

-- GIVE: the stripe is put back as it was taken
pub record PutsBack {D : Type 0} (b : Record) (stripe : ℕ) (refusal : Refusal) (old new : Keeper D)
    (w : Record) : Type 0 where
  pub no_other : (refusal ≡ NoMemory) ⊎ (refusal ≡ LogFull)
  pub back : RefusesCapture b stripe refusal w
  pub is : new ≡ record old { capture = None }

-- TAKE found the stripe free
pub record TakesStripe {D : Type 0} (n stripe : ℕ) (old new : Keeper D) (p w : Record) : Type 0 where
  pub works : old.is_broken ≡ false
  pub next : IsNextStripe stripe old.next old.checkpoint
  pub walk : Walk
  pub taken : HasTaken n p stripe walk w
  pub is : new ≡ record old { capture = Some walk }

-- TAKE found the stripe held, and the capture is over
pub record MissesStripe {D : Type 0} (stripe i : ℕ) (old new : Keeper D) (p w : Record) : Type 0 where
  pub stripe_is : i ≡ stripe
  pub missed : w ≡ missing p stripe
  pub is : new ≡ old

-- nothing was done
pub record StaysAt {D : Type 0} (old new : Keeper D) (p w : Record) : Type 0 where
  pub keeper : new ≡ old
  pub record_is : w ≡ p

-- the first step of a capture of this stripe
abbrev pub AfterTake : {D : Type 0} → ℕ → ℕ → Keeper D → Keeper D → Record → Record → Result (Option ℕ) Refusal → Type 0
AfterTake n stripe old new p w (Ok None) = TakesStripe n stripe old new p w
AfterTake n stripe old new p w (Ok (Some mark)) = ⊥
AfterTake n stripe old new p w (Err (Busy i)) = MissesStripe stripe i old new p w
AfterTake n stripe old new p w (Err Failed) = StaysAt old new p w
AfterTake n stripe old new p w (Err WrongPhase) = StaysAt old new p w
AfterTake n stripe old new p w (Err refusal) = ⊥

-- LOOK
pub record LooksAt {D : Type 0} (n : ℕ) (walk : Walk) (old new : Keeper D) (p w : Record) : Type 0 where
  pub kind : next_kind n walk ≡ Look
  pub next : Walk
  pub looked : (b : Record) (i : ℕ) → HasTaken n b i walk p → HasLooked n b i next w
  pub is : new ≡ record old { capture = Some next }

-- a step of a capture whose walk is under way
abbrev pub AfterWalk : {D : Type 0} → ℕ → Walk → Keeper D → Keeper D → Record → Record → Result (Option ℕ) Refusal
    → Type 0
AfterWalk n walk old new p w (Ok None) = LooksAt n walk old new p w
AfterWalk n walk old new p w (Ok (Some mark)) =
    (i : ℕ) × (next_kind n walk ≡ Give i) × ((b : Record) → HasLooked n b i walk p → GivesSection n b i mark old new w)
AfterWalk n walk old new p w (Err refusal) =
    (i : ℕ) × (next_kind n walk ≡ Give i) × ((b : Record) → HasLooked n b i walk p → PutsBack b i refusal old new w)

-- what one step of a capture leaves, by where it stood
abbrev pub AfterStep : {D : Type 0} → ℕ → ℕ → Option Walk → Keeper D → Keeper D → Record → Record
    → Result (Option ℕ) Refusal → Type 0
AfterStep n stripe None old new p w result = AfterTake n stripe old new p w result
AfterStep n stripe (Some walk) old new p w result = AfterWalk n walk old new p w result

-- what a refused capture of this stripe leaves
abbrev pub AfterRefusal : {D : Type 0} → ℕ → Keeper D → Keeper D → Record → Record → Refusal → Type 0
AfterRefusal stripe old new p w (Busy i) = MissesStripe stripe i old new p w
AfterRefusal stripe old new p w Failed = StaysAt old new p w
AfterRefusal stripe old new p w WrongPhase = StaysAt old new p w
AfterRefusal stripe old new p w refusal = PutsBack p stripe refusal old new w

-- TAKEs of the stripe, each of which found it held
pub record HasWaited (stripe : ℕ) (p b : Record) : Type 0 where
  pub tries : ℕ
  pub is : b ≡ record p { steps = p.steps ++ replicate tries (FoundHeld stripe) }

-- then a capture of it gave its section
pub record GivesWaiting {D : Type 0} (n : ℕ) (p : Record) (stripe mark : ℕ) (old new : Keeper D)
    (w : Record) : Type 0 where
  pub begun : Record
  pub waited : HasWaited stripe p begun
  pub gives : GivesSection n begun stripe mark old new w

-- or put it back
pub record BackWaiting {D : Type 0} (p : Record) (stripe : ℕ) (refusal : Refusal) (old new : Keeper D)
    (w : Record) : Type 0 where
  pub begun : Record
  pub waited : HasWaited stripe p begun
  pub back : PutsBack begun stripe refusal old new w

-- what a refused capture of this stripe leaves, which waited for it
abbrev pub AfterWaiting : {D : Type 0} → ℕ → Keeper D → Keeper D → Record → Record → Refusal → Type 0
AfterWaiting stripe old new p w Failed = StaysAt old new p w
AfterWaiting stripe old new p w WrongPhase = StaysAt old new p w
AfterWaiting stripe old new p w refusal = BackWaiting p stripe refusal old new w

-- the capture of this stripe isn't refused before its first step
pub record MayCapture {D : Type 0} (stripe : ℕ) (keeper : Keeper D) : Type 0 where
  pub works : keeper.is_broken ≡ true → ⊥
  pub next : (IsNextStripe stripe keeper.next keeper.checkpoint → ⊥) → ⊥

-- The section of this mark, given behind these, is the part of the next stripe after the first `mark` commands.
pub record GivesPart {D : Type 0} (states : D → List Files) (n : ℕ) (h : History) (mark : ℕ) (sections : List Section)
    (new : Keeper D) : Type 0 where
  pub section : Section
  pub mark_is : section.mark ≡ mark
  pub map : section.map ≡ part_of n (length sections) (fold_to h mark)
  pub given : HasGiven new.checkpoint (sections ++ section ∷ []) (now (states new.disk))

-- the same, once the capture is over
abbrev pub GivesPartIn : {D : Type 0} → (D → List Files) → ℕ → History → Result (Option ℕ) Refusal → List Section
    → Keeper D → Type 0
GivesPartIn states n h (Ok None) sections new = Unit {0}
GivesPartIn states n h (Ok (Some mark)) sections new = GivesPart states n h mark sections new
GivesPartIn states n h (Err refusal) sections new = Unit {0}
