-- How far the walk of a call has come, told by the record of its pass.
use Rattle.std.proofs.Common.{ℕ, ◌≡◌, ◌+◌, ◌<◌, List, [], ◌∷◌, ◌++◌, Option, Some, None, true, false, length, refl, sym, ◌∙◌, ap, subst, append-nil, arith, length-append}
use Rattle.java_hash.specs.Stripes.{stripe_of}
use Rattle.map_types.specs.declared.commands.Command.{Command}
use Rattle.map_types.specs.declared.commands.Read as read_type
use Rattle.map_types.specs.declared.commands.Reply.{Reply}
use Rattle.map_types.specs.declared.refusals.Refusal.{Refusal}
use Rattle.map_types.specs.declared.refusals.Refusal.TheVariants as refusal
use Rattle.map_model.specs.Maps.{Map}
use Rattle.ticket_order.specs.declared.stripe.Entry.{Entry}
use Rattle.ticket_order.specs.declared.record.Asked.{Asked}
use Rattle.ticket_order.specs.declared.record.Asked.TheVariants.{Changing, Reading}
use Rattle.ticket_order.specs.declared.record.Call.{Call}
use Rattle.ticket_order.specs.declared.record.Purpose.TheVariants.{Nothing}
use Rattle.ticket_order.specs.declared.record.StepMade.{StepMade}
use Rattle.ticket_order.specs.declared.record.StepMade.TheVariants.{Took, FoundHeld, Gave, Drew, Looked, FoundAlive}
use Rattle.ticket_order.specs.declared.record.Record.{Record}
use Rattle.ticket_order.specs.declared.change_walk.ChangeStage.{ChangeStage}
use Rattle.ticket_order.specs.declared.change_walk.ChangeStage.TheVariants as change
use Rattle.ticket_order.specs.declared.read_walk.ReadStage.{ReadStage}
use Rattle.ticket_order.specs.declared.read_walk.ReadStage.TheVariants as read
use Rattle.ticket_order.specs.declared.release_walk.ReleaseStage.{ReleaseStage}
use Rattle.ticket_order.specs.declared.release_walk.ReleaseStage.TheVariants as release
use Rattle.ticket_order.specs.declared.sweep_walk.SweepStage.{SweepStage}
use Rattle.ticket_order.specs.declared.sweep_walk.SweepStage.TheVariants as sweep
use Rattle.ticket_order.specs.declared.capture_walk.CaptureStage.{CaptureStage}
use Rattle.ticket_order.specs.declared.capture_walk.CaptureStage.TheVariants as capture
use Rattle.ticket_order.specs.declared.walk.Taken.{Taken}
use Rattle.ticket_order.specs.declared.walk.Stage as walk_stage
use Rattle.ticket_order.specs.declared.walk.Stage.TheVariants as stage
use Rattle.ticket_order.specs.Records.{ticket_limit, call, reach, taking, living, drawing, giving, missing, stripe_held}
use Rattle.ticket_order.specs.Calls.{walked, FindsFailure, FindsNoFailure, GivesBack, LooksAround, MakesCall}
use Rattle.ticket_order.specs.Walks.{ToChange, ToRead, ToRelease, ToSweep, ToCapture, FitsStage, FitsChange, FitsRead, FitsRelease, FitsSweep, FitsCapture, HasContent, IsRefusing}
use Rattle.one_history.specs.OneHistory.{stripe_in}
use Rattle.sim_rules.specs.World.{stripe_asked}
use Rattle.sim_workers.specs.Doings.{task_of}
use Rattle.sim_workers.proofs.Lists.{ends_same, onto}

-- What a TAKE finds: the outbox of its stripe, and one past the last ticket that was drawn there.
pub record Found : Type 0 where
  pub outbox : List Entry
  pub last : ℕ

abbrev pub found_in : List Entry → ℕ → Found
found_in outbox last = record { outbox = outbox; last = last }

abbrev pub take_of : ℕ → Found → StepMade
take_of i f = Took i f.outbox f.last

-- What the steps of a call were, from none on, up to its GIVE.
pub data Way : Type 0 where
  Starts : Way
  HasStripe : Found → Way
  Lives : Found → Way
  FindsNone : Found → Way
  Sees : Found → ℕ → Way
  Draws : Found → ℕ → ℕ → Way

-- the steps, on the stripe i
abbrev pub steps_on : ℕ → Way → List StepMade
steps_on i Starts = []
steps_on i (HasStripe found) = take_of i found ∷ []
steps_on i (Lives found) = take_of i found ∷ FoundAlive true ∷ []
steps_on i (FindsNone found) = take_of i found ∷ FoundAlive false ∷ []
steps_on i (Sees found q) = take_of i found ∷ FoundAlive true ∷ Looked q ∷ []
steps_on i (Draws found q t) = take_of i found ∷ FoundAlive true ∷ Looked q ∷ Drew t ∷ []

-- the stripe that is held
abbrev pub stripe_on : ℕ → Way → Option ℕ
stripe_on i Starts = None
stripe_on i way = Some i

-- the call is a change, whose ticket was drawn below the limit, and the record p has it
pub record HasDrawnFor (asked : Asked) (q t : ℕ) (p : Record) : Type 0 where
  pub command : Command
  pub asked_is : asked ≡ Changing command
  pub below : q < ticket_limit
  pub before : List Call
  pub position : ℕ
  pub reply : Reply
  pub position_is : position ≡ t + 1
  pub calls : p.calls ≡ before ++ call position (Changing command) reply ∷ []

-- the call is a change
abbrev pub IsChange : Asked → Type 0
IsChange (Changing c) = Unit {0}
IsChange (Reading r) = ⊥

-- A walk that began at b stands at p. Before its TICKET its pass has made no call since, and only a change makes a LOOK.
abbrev pub Knows : Record → Asked → Way → Record → Type 0
Knows b asked (Draws found q t) p = HasDrawnFor asked q t p
Knows b asked (Sees found q) p = IsChange asked × (p.calls ≡ b.calls)
Knows b asked way p = p.calls ≡ b.calls

-- the record p goes on from b by such steps
pub record GoesBy (n : ℕ) (b : Record) (asked : Asked) (p : Record) : Type 0 where
  pub way : Way
  pub steps : p.steps ≡ b.steps ++ steps_on (stripe_asked n asked) way
  pub holds : stripe_in p.holding ≡ stripe_on (stripe_asked n asked) way
  pub knows : Knows b asked way p

-- ---- the task of a call

pub asks_change : (asked : Asked) (c : Command) → task_of asked ≡ ToChange c → asked ≡ Changing c
asks_change (Changing d) c e = cc
asks_change (Reading r) c e = absurd cc

pub asks_read : (asked : Asked) (r : read_type.Read) → task_of asked ≡ ToRead r → asked ≡ Reading r
asks_read (Changing d) r e = absurd cc
asks_read (Reading s) r e = cc

pub no_release : (asked : Asked) (position : ℕ) (reply : Reply) → task_of asked ≡ ToRelease position reply → ⊥
no_release (Changing d) position reply e = cc
no_release (Reading s) position reply e = cc

pub no_sweep : (asked : Asked) (i : ℕ) → task_of asked ≡ ToSweep i → ⊥
no_sweep (Changing d) i e = cc
no_sweep (Reading s) i e = cc

pub no_capture : (asked : Asked) (i : ℕ) → task_of asked ≡ ToCapture i → ⊥
no_capture (Changing d) i e = cc
no_capture (Reading s) i e = cc

-- ---- the steps of each

pub alive_steps : (b : Record) (i : ℕ) (m : Map) (es : List Entry) (last : ℕ) (x : List Command) → (living (taking b i m es last x) true).steps ≡ b.steps ++ steps_on i (Lives (found_in es last))
alive_steps b i m es last x = onto b.steps (steps_on i (HasStripe (found_in es last))) _ (FoundAlive true) refl

pub walked_steps : (b : Record) (i : ℕ) (m : Map) (es : List Entry) (last : ℕ) (x y : List Command)
    → (walked b i m es last x y).steps ≡ b.steps ++ steps_on i (Sees (found_in es last) (reach (walked b i m es last x y)))
walked_steps b i m es last x y =
    let q : ℕ = reach (walked b i m es last x y) in
    onto b.steps (steps_on i (Lives (found_in es last))) _ (Looked q) (alive_steps b i m es last x)

pub drawn_steps : (b : Record) (i : ℕ) (m : Map) (es : List Entry) (last : ℕ) (x y z : List Command) (c : Command) →
    (drawing (walked b i m es last x y) z c).steps ≡ b.steps ++ steps_on i (Draws (found_in es last) (reach (walked b i m es last x y)) (b.opening.first + length (((b.seen ++ x) ++ y) ++ z)))
drawn_steps b i m es last x y z c =
    onto b.steps (steps_on i (Sees (found_in es last) (reach (walked b i m es last x y)))) _ (Drew (b.opening.first + length (((b.seen ++ x) ++ y) ++ z))) (walked_steps b i m es last x y)

-- a record whose GIVE leaves what that of another leaves has made the same steps, and holds that one's stripe
module _ (p holder : Record) (t : Taken) (content : HasContent p t) (is : giving Nothing p ≡ giving Nothing holder) where
  both : (p.steps ≡ holder.steps) × (Gave (stripe_held p.holding) ≡ Gave (stripe_held holder.holding))
  both = ends_same p.steps holder.steps (Gave (stripe_held p.holding)) (Gave (stripe_held holder.holding)) (ap (λ (r : Record). r.steps) is)

  pub given_steps : p.steps ≡ holder.steps
  given_steps = both.0

  pub given_stripe : stripe_in p.holding ≡ Some (stripe_held holder.holding)
  given_stripe =
      let same : stripe_held p.holding ≡ stripe_held holder.holding = (let e : Gave (stripe_held p.holding) ≡ Gave (stripe_held holder.holding) = both.1 in cc) in
      ap stripe_in content.holding ∙ ap (λ i. Some i) (sym (ap stripe_held content.holding) ∙ same)

-- with what the stripe i was found
module _ (n : ℕ) (b : Record) (asked : Asked) (p : Record) (i : ℕ) (own : i ≡ stripe_asked n asked) where
  pub goes_by : (way : Way) → p.steps ≡ b.steps ++ steps_on i way → stripe_in p.holding ≡ stripe_on i way → Knows b asked way p → GoesBy n b asked p
  goes_by way steps holds knows = record {
    way = way;
    steps = subst (λ k. p.steps ≡ b.steps ++ steps_on k way) own steps;
    holds = subst (λ k. stripe_in p.holding ≡ stripe_on k way) own holds;
    knows = knows;
  }

  pub after_take : (m : Map) (es : List Entry) (last : ℕ) (x : List Command) → p ≡ taking b i m es last x → GoesBy n b asked p
  after_take m es last x is = goes_by (HasStripe (found_in es last)) (ap (λ (r : Record). r.steps) is) (ap (λ (r : Record). stripe_in r.holding) is) (ap (λ (r : Record). r.calls) is)

  pub after_alive : (m : Map) (es : List Entry) (last : ℕ) (x : List Command) → p ≡ living (taking b i m es last x) true → GoesBy n b asked p
  after_alive m es last x is =
      goes_by (Lives (found_in es last)) (ap (λ (r : Record). r.steps) is ∙ alive_steps b i m es last x) (ap (λ (r : Record). stripe_in r.holding) is) (ap (λ (r : Record). r.calls) is)

  pub after_look : IsChange asked → (m : Map) (es : List Entry) (last : ℕ) (x y : List Command) → p ≡ walked b i m es last x y → GoesBy n b asked p
  after_look changes m es last x y is =
      goes_by (Sees (found_in es last) (reach (walked b i m es last x y))) (ap (λ (r : Record). r.steps) is ∙ walked_steps b i m es last x y) (ap (λ (r : Record). stripe_in r.holding) is)
      (changes, ap (λ (r : Record). r.calls) is)

  after_failure : (t : Taken) → HasContent p t → GivesBack b (FindsFailure b i) (giving Nothing p) → GoesBy n b asked p
  after_failure t content back =
      let dead : FindsFailure b i back.holder = back.before in
      goes_by (FindsNone (found_in dead.outbox dead.last))
      (given_steps p back.holder t content back.is ∙ (ap (λ (r : Record). r.steps) dead.is ∙ onto b.steps (steps_on i (HasStripe (found_in dead.outbox dead.last))) _ (FoundAlive false) refl))
      (given_stripe p back.holder t content back.is ∙ ap (λ (r : Record). Some (stripe_held r.holding)) dead.is) back.same_calls

  after_unread : (t : Taken) → HasContent p t → GivesBack b (FindsNoFailure b i) (giving Nothing p) → GoesBy n b asked p
  after_unread t content back =
      let alive : FindsNoFailure b i back.holder = back.before in
      goes_by (Lives (found_in alive.outbox alive.last))
      (given_steps p back.holder t content back.is ∙ (ap (λ (r : Record). r.steps) alive.is ∙ alive_steps b i alive.part alive.outbox alive.last alive.taken))
      (given_stripe p back.holder t content back.is ∙ ap (λ (r : Record). Some (stripe_held r.holding)) alive.is) back.same_calls

  after_spent : IsChange asked → (t : Taken) → HasContent p t → GivesBack b (LooksAround b i) (giving Nothing p) → GoesBy n b asked p
  after_spent changes t content back =
      let look : LooksAround b i back.holder = back.before in
      goes_by (Sees (found_in look.outbox look.last) (reach (walked b i look.part look.outbox look.last look.taken look.looked)))
      (given_steps p back.holder t content back.is ∙ (ap (λ (r : Record). r.steps) look.is ∙ walked_steps b i look.part look.outbox look.last look.taken look.looked))
      (given_stripe p back.holder t content back.is ∙ ap (λ (r : Record). Some (stripe_held r.holding)) look.is) (changes, back.same_calls)

-- a GIVE is no TAKE
never_missed : (b p : Record) (i : ℕ) → giving Nothing p ≡ missing b i → ⊥
never_missed b p i is =
    let last : Gave (stripe_held p.holding) ≡ FoundHeld i = (ends_same p.steps b.steps (Gave (stripe_held p.holding)) (FoundHeld i) (ap (λ (r : Record). r.steps) is)).1 in
    absurd cc

by_change : (n : ℕ) (b : Record) (c : Command) (t : Taken) (e : Refusal) (p : Record) → IsRefusing n b (ToChange c) t e p → GoesBy n b (Changing c) p
by_change n b c t (refusal.Busy j) p is = absurd (never_missed b p (stripe_of n c.key) is.refused.1)
by_change n b c t refusal.Failed p is = after_failure n b (Changing c) p (stripe_of n c.key) refl t is.content is.refused
by_change n b c t refusal.TicketsSpent p is = after_spent n b (Changing c) p (stripe_of n c.key) refl tt t is.content is.refused.0
by_change n b c t refusal.NoMemory p is = after_spent n b (Changing c) p (stripe_of n c.key) refl tt t is.content is.refused.0
by_change n b c t other p is = absurd is.refused

by_read : (n : ℕ) (b : Record) (r : read_type.Read) (t : Taken) (e : Refusal) (p : Record) → IsRefusing n b (ToRead r) t e p → GoesBy n b (Reading r) p
by_read n b r t (refusal.Busy j) p is = absurd (never_missed b p (stripe_of n r.key) is.refused.1)
by_read n b r t refusal.Failed p is = after_failure n b (Reading r) p (stripe_of n r.key) refl t is.content is.refused
by_read n b r t refusal.NoMemory p is = after_unread n b (Reading r) p (stripe_of n r.key) refl t is.content is.refused
by_read n b r t other p is = absurd is.refused

by_refusal : (n : ℕ) (b : Record) (asked : Asked) (t : Taken) (e : Refusal) (p : Record) → IsRefusing n b (task_of asked) t e p → GoesBy n b asked p
by_refusal n b (Changing c) t e p is = by_change n b c t e p is
by_refusal n b (Reading r) t e p is = by_read n b r t e p is

-- the ticket was drawn
by_draw : (n : ℕ) (b : Record) (asked : Asked) (t : Taken) (c : Command) (position : ℕ) (reply : Reply) (p : Record) → asked ≡ Changing c → HasContent p t → MakesCall n b c position reply (giving Nothing p) → GoesBy n b asked p
by_draw n b asked t c position reply p is content made =
    let i : ℕ = stripe_of n c.key in
    let holder : Record = drawing (walked b i made.part made.outbox made.last made.taken made.looked) made.drawn c in
    goes_by n b asked p i (ap (stripe_asked n) (sym is))
    (Draws (found_in made.outbox made.last) (reach (walked b i made.part made.outbox made.last made.taken made.looked)) (b.opening.first + length (((b.seen ++ made.taken) ++ made.looked) ++ made.drawn)))
    (given_steps p holder t content made.is ∙ drawn_steps b i made.part made.outbox made.last made.taken made.looked made.drawn c)
    (given_stripe p holder t content made.is)
    (record {
      command = c;
      asked_is = is;
      below = made.below;
      before = b.calls;
      position = position;
      reply = reply;
      position_is = made.position_is ∙ (ap reach made.is ∙ omega (arith, length-append (((b.seen ++ made.taken) ++ made.looked) ++ made.drawn) (c ∷ [])));
      calls = made.grew;
    })

begun : (n : ℕ) (b : Record) (asked : Asked) (p : Record) → p ≡ b → b.holding ≡ None → GoesBy n b asked p
begun n b asked p is free = goes_by n b asked p (stripe_asked n asked) refl Starts (ap (λ (r : Record). r.steps) is ∙ sym (append-nil b.steps)) (ap (λ (r : Record). stripe_in r.holding) is ∙ ap stripe_in free) (ap (λ (r : Record). r.calls) is)

change_goes : (n : ℕ) (b : Record) (asked : Asked) (s : ChangeStage) (p : Record) → FitsChange n b (task_of asked) s p → GoesBy n b asked p
change_goes n b asked (change.Begins new) p fits = begun n b asked p fits.0.is fits.0.empty_handed
change_goes n b asked (change.HasTaken new t) p fits =
    after_take n b asked p t.stripe (fits.0.stripe_is ∙ ap (stripe_asked n) (sym (asks_change asked new.command fits.0.task_is)))
    t.content.part.map t.content.outbox.items t.content.last fits.1.taken fits.1.is
change_goes n b asked (change.IsAlive new t) p fits =
    after_alive n b asked p t.stripe (fits.0.stripe_is ∙ ap (stripe_asked n) (sym (asks_change asked new.command fits.0.task_is)))
    t.content.part.map t.content.outbox.items t.content.last fits.1.taken fits.1.is
change_goes n b asked (change.IsReady new t prepared) p fits =
    after_look n b asked p t.stripe (fits.0.stripe_is ∙ ap (stripe_asked n) (sym (asks_change asked new.command fits.0.task_is)))
    (subst IsChange (sym (asks_change asked new.command fits.0.task_is)) tt) t.content.part.map t.content.outbox.items t.content.last fits.1.taken fits.1.looked fits.1.is
change_goes n b asked (change.HasDrawn t h) p fits = by_draw n b asked t fits.command h.position h.reply p (asks_change asked fits.command fits.task_is) fits.content fits.made

read_goes : (n : ℕ) (b : Record) (asked : Asked) (s : ReadStage) (p : Record) → FitsRead n b (task_of asked) s p → GoesBy n b asked p
read_goes n b asked (read.Begins r) p fits = begun n b asked p fits.is fits.empty_handed
read_goes n b asked (read.HasTaken r t) p fits =
    after_take n b asked p t.stripe (fits.0.stripe_is ∙ ap (stripe_asked n) (sym (asks_read asked r fits.0.task_is)))
    t.content.part.map t.content.outbox.items t.content.last fits.1.between fits.1.is
read_goes n b asked (read.HasRead r t h) p fits =
    after_alive n b asked p t.stripe (fits.0.stripe_is ∙ ap (stripe_asked n) (sym (asks_read asked r fits.0.task_is)))
    t.content.part.map t.content.outbox.items t.content.last fits.1.took.between (fits.1.is ∙ ap (λ v. living v true) fits.1.took.is)

release_goes : (n : ℕ) (b : Record) (asked : Asked) (s : ReleaseStage) (p : Record) → FitsRelease b (task_of asked) s p → GoesBy n b asked p
release_goes n b asked (release.Begins h) p fits = absurd (no_release asked h.position h.reply fits.0)
release_goes n b asked (release.HasMissed h) p fits = absurd (no_release asked h.position h.reply fits.0)
release_goes n b asked (release.FoundFailure h) p fits = absurd (no_release asked h.position h.reply fits.0)

sweep_goes : (n : ℕ) (b : Record) (asked : Asked) (s : SweepStage) (p : Record) → FitsSweep n b (task_of asked) s p → GoesBy n b asked p
sweep_goes n b asked (sweep.Begins alloc i) p fits = absurd (no_sweep asked i fits.0.task_is)
sweep_goes n b asked (sweep.HasTaken alloc t) p fits = absurd (no_sweep asked t.stripe fits.task_is)

capture_goes : (n : ℕ) (b : Record) (asked : Asked) (s : CaptureStage) (p : Record) → FitsCapture n b (task_of asked) s p → GoesBy n b asked p
capture_goes n b asked (capture.Begins i) p fits = absurd (no_capture asked i fits.0.task_is)
capture_goes n b asked (capture.HasTaken t) p fits = absurd (no_capture asked t.stripe fits.0)
capture_goes n b asked (capture.HasLooked t z) p fits = absurd (no_capture asked t.stripe fits.0)

-- The walk of a call that stands at the record p has come to it by such steps.
pub call_goes : (n : ℕ) (b : Record) (asked : Asked) (s : walk_stage.Stage) (p : Record) → FitsStage n b (task_of asked) s p → GoesBy n b asked p
call_goes n b asked (stage.Change s) p fits = change_goes n b asked s p fits
call_goes n b asked (stage.Read s) p fits = read_goes n b asked s p fits
call_goes n b asked (stage.Release s) p fits = release_goes n b asked s p fits
call_goes n b asked (stage.Sweep s) p fits = sweep_goes n b asked s p fits
call_goes n b asked (stage.Capture s) p fits = capture_goes n b asked s p fits
call_goes n b asked (stage.GivingBack t e) p fits = by_refusal n b asked t e p fits
