-- A step of a capture, and its refusal, against the world of its life.
use Rattle.std.proofs.Common.{◌≡◌, ◌≢◌, ◌⊎◌, inl, inr, ℕ, ◌+◌, ◌<◌, ◌^◌, ◌-◌, ◌||◌, ◌++◌, length, arith, not, is_some, List, Option, None, Some}
use Rattle.std.proofs.Common.{Bool, true, false, Result, Err, refl, sym, ◌∙◌, ap, subst}
use Rattle.std.specs.Prelude.{IfErr}
use Rattle.map_types.specs.declared.commands.Command.{Command}
use Rattle.map_types.specs.declared.refusals.Refusal.{Refusal}
use Rattle.map_types.specs.declared.refusals.Refusal.TheVariants.{Busy, Failed, LogFull, NoMemory, WrongPhase}
use Rattle.map_model.specs.Histories.{fold_to}
use Rattle.map_model.specs.Parts.{part_of}
use Rattle.ticket_order.specs.Calls.{HasTooMany}
use Rattle.ticket_order.specs.Legality.{history_of}
use Rattle.ticket_order.specs.Records.{reach}
use Rattle.ticket_order.specs.declared.record.Record.{Record}
use Rattle.ticket_order.specs.declared.walk.Stage.{Stage}
use Rattle.ticket_order.specs.declared.walk.Stage.TheVariants as stage
use Rattle.ticket_order.specs.declared.walk.Walk.{Walk}
use Rattle.ticket_order.specs.Walks.{FitsStage, Give, Kind, Look, MakesOne, ToCapture, next_kind, next_of_stage, refusal_of_stage}
use Rattle.one_history.specs.declared.book.Book.{Book}
use Rattle.one_history.specs.OneHistory.{HoldApart, IsOneHistory, Knows}
use Rattle.one_history.specs.Turns.{record_of}
use Rattle.flusher.specs.declared.keeper.Keeper.{Keeper}
use Rattle.flusher.specs.KeeperSteps.{is_walking}
use Rattle.checkpoint_walk.specs.Capturing.{IsCauseOf}
use Rattle.checkpoint_walk.specs.Walking.{AfterStep, AfterTake, FitsBy, FitsWalking, IsCapturing, kind_next}
use Rattle.sim_rules.specs.declared.event.Event.TheVariants as event
use Rattle.sim_rules.specs.declared.outcome.End.{End}
use Rattle.sim_rules.specs.declared.outcome.End.TheVariants as ends
use Rattle.sim_rules.specs.declared.outcome.Made.{Made}
use Rattle.sim_rules.specs.declared.outcome.Outcome.TheVariants as outcome
use Rattle.sim_rules.specs.World.{World, Life, KeeperWalk, CaptureLooks, CaptureGives, rests as rests_at}
use Rattle.sim_rules.specs.After.{capture_gives, capture_takes, keeper_stepped, with_life}
use Rattle.sim_rules.specs.Cases.{section_size}
use Rattle.sim_rules.specs.Fitting.{fits_with}
use Rattle.sim_workers.specs.Laws.{FreeIsTold, HeldIsTold, KeeperSteps}
use Rattle.sim_workers.specs.Workers.{StandWith, WorkersStand}
use Rattle.sim_keeper.specs.Laws.{CaptureAnswers, CaptureRefuses, CaptureStepAnswers, CaptureTakesNone, CountsAreTold, FrontIsSeen}
use Rattle.sim_keeper.specs.Laws.{PassHolds, StripeIsTold, TooManyAreTooLarge, WalkIsTold}
use Rattle.sim_keeper.specs.Promises.{StepsCapture}
use Rattle.sim_keeper.specs.Showing.{capture_shown, walk_by}
use Rattle.sim_keeper.specs.KeeperInWorld.{Answers, HasKeeper, KeeperStands}
use Rattle.sim_keeper.specs.Telling as telling
use Rattle.schedule_sim.specs.declared.traced.Traced.{Traced}
use Rattle.schedule_sim.specs.declared.job.Job.{Job}
use Rattle.schedule_sim.specs.declared.life.Life as sim
use Rattle.schedule_sim.specs.Living.{Did, IsLife, IsLifeOf}
use Rattle.schedule_sim.specs.Tracing.{traced_states, traced_honest}
use Rattle.schedule_sim.specs.Watching.{MakesStep}
use Rattle.schedule_sim.specs.WatchedWords.{watched_moves, watched_place, watched_record, watched_stripes}
use Rattle.schedule_sim.specs.Workers.{doings_of}
use Rattle.schedule_sim.specs.declared.watched.Watched.{Watched}
use Rattle.schedule_sim.proofs.Captures.{StaysForWorkers, workers_after}
use Rattle.schedule_sim.proofs.KeeperTold.{DrawsNoTicket, step_told}
use Rattle.schedule_sim.proofs.Doing.{did, did_skip}
use Rattle.schedule_sim.proofs.LivesParts.{Parts, fits_now, life_there}
use Rattle.schedule_sim.proofs.Telling.{no_step_untold, second_same, step_made, told_capture}

-- the laws of captures, and of what a step of the keeper leaves
pub record Laws : Type 0 where
  pub begins : CaptureAnswers traced_states traced_honest
  pub refuses : CaptureRefuses traced_states traced_honest
  pub goes_on : CaptureStepAnswers traced_states traced_honest
  pub too_large : TooManyAreTooLarge traced_states traced_honest
  pub takes_none : CaptureTakesNone traced_states traced_honest
  pub walk : WalkIsTold traced_states
  pub stripe : StripeIsTold traced_states traced_honest
  pub counts : CountsAreTold traced_states traced_honest
  pub sees : FrontIsSeen
  pub free : FreeIsTold
  pub held : HeldIsTold
  pub steps : KeeperSteps

-- One step of a capture was made on the words, and it is told.
pub record StepsCaptureOn (stripe : ℕ) (old new : Keeper Traced) (b b' : Book) (result : Result (Option ℕ) Refusal) (m : Made) : Type 0 where
  pub steps : StepsCapture traced_states traced_honest b.stripes stripe old new (record_of 64 b) (record_of 64 b') result
  pub made : MakesStep 64 (kind_next b.stripes stripe old.capture) b b' m
  pub fits : (done : List Command) → FitsWalking traced_states traced_honest b.stripes done old (record_of 64 b)
      → FitsWalking traced_states traced_honest b'.stripes done new (record_of 64 b')
  pub one : IsOneHistory b'
  pub apart : HoldApart b'

-- ---- what the world says of the keeper's walk

idle : (a : Bool) (o : Option Walk) → a ≡ false → o ≡ None → not (a || is_some o) ≡ true
idle false None e f = refl
idle true o e f = absurd (let no : true ≡ false = e in cc)
idle false (Some walk) e f = absurd (let no : Some walk ≡ None = f in cc)

busy : (a : Bool) (o : Option Walk) (walk : Walk) → o ≡ Some walk → not (a || is_some o) ≡ false
busy false (Some other) walk f = refl
busy true o walk f = refl
busy false None walk f = absurd (let no : None ≡ Some walk = f in cc)

module _ (law : WalkIsTold traced_states) (keeper : Keeper Traced) (b : Book) (jobs : List Job) (w : World) (l : Life) (k : Parts w l keeper b jobs) where
  is_idle : is_walking keeper.sweeper.walking ≡ false → keeper.capture ≡ None → rests_at l.walk ≡ true
  is_idle still none = law keeper (record_of 64 b) w l k.keeper_stands ∙ idle (is_walking keeper.sweeper.walking) keeper.capture still none

  is_busy : (walk : Walk) → keeper.capture ≡ Some walk → not (rests_at l.walk) ≡ true
  is_busy walk under_way = ap not (law keeper (record_of 64 b) w l k.keeper_stands ∙ busy (is_walking keeper.sweeper.walking) keeper.capture walk under_way)

-- ---- what stays for the workers

stays_taken : (w : World) (l : Life) (end : End) → StaysForWorkers w (with_life w (capture_takes l end)) l (capture_takes l end)
stays_taken w l ends.Goes = record { history = refl; stripes = refl; first = refl; key_limit = refl; jobs = refl; seen = refl; places = refl }
stays_taken w l end = record { history = refl; stripes = refl; first = refl; key_limit = refl; jobs = refl; seen = refl; places = refl }

abbrev IsCapture : KeeperWalk → Type 0
IsCapture CaptureLooks = Unit {0}
IsCapture (CaptureGives mark) = Unit {0}
IsCapture walk = ⊥

is_capture : (kind : Kind) (mark : ℕ) → IsCapture (capture_shown kind mark)
is_capture Look mark = tt
is_capture (Give i) mark = tt
is_capture kind mark = tt

stays_given : (w : World) (l : Life) (mark : ℕ) (end : End)
    → StaysForWorkers w (with_life w (capture_gives w l mark end)) l (capture_gives w l mark end)
stays_given w l mark (ends.Captured n) = record { history = refl; stripes = refl; first = refl; key_limit = refl; jobs = refl; seen = refl; places = refl }
stays_given w l mark end = record { history = refl; stripes = refl; first = refl; key_limit = refl; jobs = refl; seen = refl; places = refl }

stays_stepped : (w : World) (l : Life) (walk : KeeperWalk) (m : Made) (end : End) → IsCapture walk
    → StaysForWorkers w (with_life w (keeper_stepped w l walk m end)) l (keeper_stepped w l walk m end)
stays_stepped w l CaptureLooks m end is = record { history = refl; stripes = refl; first = refl; key_limit = refl; jobs = refl; seen = refl; places = refl }
stays_stepped w l (CaptureGives mark) m end is = stays_given w l mark end
stays_stepped w l walk m end is = absurd is

-- ---- the life after a step

-- the keeper stands against the next world, and so does all of the life
life_after : (laws : Laws) (stripe : ℕ) (old new : Keeper Traced) (b b' : Book) (jobs : List Job) (w w' : World) (l l' : Life)
    (result : Result (Option ℕ) Refusal) (m : Made)
    → (is : IsLifeOf w old b jobs) → WorkersStand b w l (doings_of jobs) → StepsCaptureOn stripe old new b b' result m
    → DrawsNoTicket (kind_next b.stripes stripe old.capture) → w'.life ≡ Some l' → StaysForWorkers w w' l l'
    → HasKeeper traced_states new (record_of 64 b') w' → KeeperStands traced_states new (record_of 64 b') w' l' → IsLifeOf w' new b' jobs
life_after laws stripe old new b b' jobs w w' l l' result m is stand step other life stays has stands =
    let fits : FitsWalking traced_states traced_honest b'.stripes is.done new (record_of 64 b') = step.fits is.done is.fits in
    record {
      done = is.done;
      fits = fits;
      count = is.count;
      workers_stand = subst (λ o. StandWith b' w' o (doings_of jobs)) (sym life)
          (workers_after new b b' w w' l l' (doings_of jobs) (kind_next b.stripes stripe old.capture) m is.done laws.steps laws.stripe laws.counts
          stand step.made other step.one step.apart fits stands stays
          (laws.takes_none b.stripes is.done stripe old new (record_of 64 b) (record_of 64 b') result is.fits step.steps));
      keeper_stands = has;
    }

-- ---- the first step

pub begin_did : (laws : Laws) (stripe : ℕ) (life after : sim.Life) (w : World) (result : Result (Option ℕ) Refusal) (m : Made) → IsLife w life
    → life.keeper.capture ≡ None → is_walking life.keeper.sweeper.walking ≡ false → after.jobs.items ≡ life.jobs.items
    → StepsCaptureOn stripe life.keeper after.keeper life.words after.words result m → result ≢ Err Failed → result ≢ Err WrongPhase
    → Did w (event.Capture stripe) (outcome.Stepped m (telling.capture_end result)) after
begin_did laws stripe life after w result m is none still jobs step works phase =
    let there : (l : Life) × Parts w l life.keeper life.words life.jobs.items = life_there w life.keeper life.words life.jobs.items is in
    let l : Life = there.0 in
    let k : Parts w l life.keeper life.words life.jobs.items = there.1 in
    let rests : rests_at l.walk ≡ true = is_idle laws.walk life.keeper life.words life.jobs.items w l k still none in
    let other : DrawsNoTicket (kind_next life.words.stripes stripe life.keeper.capture) =
    subst (λ o. DrawsNoTicket (kind_next life.words.stripes stripe o)) (sym none) tt in
    let told = step_told laws.free laws.held laws.sees life.words after.words w l (doings_of life.jobs.items)
    (kind_next life.words.stripes stripe life.keeper.capture) m k.workers_stand step.made other step.one in
    let answers : Answers traced_states after.keeper (record_of 64 after.words) w l (event.Capture stripe)
    (outcome.Stepped m (telling.capture_end result)) =
    laws.begins life.words.stripes is.done stripe life.keeper after.keeper (record_of 64 life.words) (record_of 64 after.words) w l result m
    (fits_now w life.keeper life.words life.jobs.items is none) tt k.keeper_stands rests step.steps works phase
    (subst (λ o. telling.MakesStep w l (record_of 64 life.words) (record_of 64 after.words) (kind_next life.words.stripes stripe o) m) none told) in
    did w l (event.Capture stripe) (outcome.Stepped m (telling.capture_end result)) after k.life tt rests answers.happens tt
    (subst (IsLifeOf (with_life w (capture_takes l (telling.capture_end result))) after.keeper after.words) (sym jobs)
    (life_after laws stripe life.keeper after.keeper life.words after.words life.jobs.items w
    (with_life w (capture_takes l (telling.capture_end result))) l (capture_takes l (telling.capture_end result)) result m is
    k.workers_stand step other refl (stays_taken w l (telling.capture_end result)) answers.stands answers.stands))

-- ---- a refusal before it

-- no other refusal comes where no step was made
refused_first : (n stripe : ℕ) (old new : Keeper Traced) (p q : Record) (refusal : Refusal) → AfterTake n stripe old new p q (Err refusal)
    → (refusal ≢ Failed → refusal ≢ WrongPhase → ⊥)
    → (refusal ≡ Failed) ⊎ (refusal ≡ WrongPhase)
refused_first n stripe old new p q (Busy i) after none = absurd (none (λ e. cc) (λ e. cc))
refused_first n stripe old new p q Failed after none = inl refl
refused_first n stripe old new p q WrongPhase after none = inr refl
refused_first n stripe old new p q refusal after none = absurd after

same_error : {a b : Refusal} → (let left : Result (Option ℕ) Refusal = Err a in left ≡ Err b) → a ≡ b
same_error e = cc

pub refused : (stripe : ℕ) (keeper keeper' : Keeper Traced) (old new : Watched) (result : Result (Option ℕ) Refusal) (refusal : Refusal)
    → result ≡ Err refusal → keeper.capture ≡ None → new.made ≡ None
    → (result ≢ Err Failed → result ≢ Err WrongPhase → MakesOne watched_record watched_moves (kind_next (watched_stripes old) stripe keeper.capture) old new)
    → AfterStep (watched_stripes old) stripe keeper.capture keeper keeper' (watched_record old) (watched_record new) result
    → (refusal ≡ Failed) ⊎ (refusal ≡ WrongPhase)
refused stripe keeper keeper' old new result refusal is none untold one after =
    refused_first (watched_stripes old) stripe keeper keeper' (watched_record old) (watched_record new) refusal
    (subst (λ r. AfterStep (watched_stripes old) stripe None keeper keeper' (watched_record old) (watched_record new) r) is
    (subst (λ o. AfterStep (watched_stripes old) stripe o keeper keeper' (watched_record old) (watched_record new) result) none after))
    (λ f g. no_step_untold old new (kind_next (watched_stripes old) stripe keeper.capture)
    (one (λ e. f (same_error (sym is ∙ e))) (λ e. g (same_error (sym is ∙ e))))
    (told_capture (watched_stripes old) stripe keeper.capture) untold)

-- it leaves the life as it was
pub refuse_did : WalkIsTold traced_states → CaptureRefuses traced_states traced_honest
    → (stripe : ℕ) (life after : sim.Life) (w : World) (e : Refusal) → IsLife w life
    → life.keeper.capture ≡ None → is_walking life.keeper.sweeper.walking ≡ false → after.keeper ≡ life.keeper → after.words ≡ life.words
    → after.jobs.items ≡ life.jobs.items
    → StepsCapture traced_states traced_honest life.words.stripes stripe life.keeper after.keeper (record_of 64 life.words) (record_of 64 after.words) (Err e)
    → (e ≡ Failed) ⊎ (e ≡ WrongPhase) → Did w (event.Capture stripe) (outcome.Refused e) after
refuse_did walk law stripe life after w e is none still keeper words jobs steps which =
    let there : (l : Life) × Parts w l life.keeper life.words life.jobs.items = life_there w life.keeper life.words life.jobs.items is in
    let l : Life = there.0 in
    let k : Parts w l life.keeper life.words life.jobs.items = there.1 in
    let rests : rests_at l.walk ≡ true = is_idle walk life.keeper life.words life.jobs.items w l k still none in
    let answers : Answers traced_states after.keeper (record_of 64 after.words) w l (event.Capture stripe) (outcome.Refused e) =
    law life.words.stripes is.done stripe life.keeper after.keeper (record_of 64 life.words) (record_of 64 after.words) w l e
    (fits_now w life.keeper life.words life.jobs.items is none) tt k.keeper_stands rests steps which in
    did w l (event.Capture stripe) (outcome.Refused e) after k.life tt rests answers.happens tt (rw (keeper, words, jobs) is)

-- ---- each step that follows

some_refusal : {a b : Refusal} → Some a ≡ Some b → a ≡ b
some_refusal e = cc

too_many_at : (n i : ℕ) (b p : Record) (s : Stage) → refusal_of_stage s ≡ Some LogFull → FitsStage n b (ToCapture i) s p → HasTooMany b i p
too_many_at n i b p (stage.GivingBack t e) is fits = fits.too_many (some_refusal is) i refl
too_many_at n i b p s is fits = absurd (let no : None ≡ Some LogFull = is in cc)

-- a walk that is to be refused doesn't come to its LOOK
looks_not : (n : ℕ) (s : Stage) (e : Refusal) → refusal_of_stage s ≡ Some e → next_of_stage n s ≡ Look → ⊥
looks_not n (stage.GivingBack t refusal) e is next = let no : Give t.stripe ≡ Look = next in cc
looks_not n s e is next = let no : None ≡ Some e = is in cc

capture_holds : (b p : Record) (i : ℕ) → HasTooMany b i p → PassHolds p i
capture_holds b p i many = record {
  held = record {
    stripe = i;
    part = many.at.part;
    outbox = many.at.outbox;
    last = many.at.last;
    has_drawn = false;
    looked = Some (b.opening.first + length ((b.seen ++ many.at.taken) ++ many.at.looked));
  };
  holding = ap (λ r. r.holding) many.at.is;
  stripe_is = refl;
}

-- the part that the pass holds is the one at the mark
part_at : (book : Book) (begun : Record) (i : ℕ) → Knows book.opening book.stripes book.history book.authors book.effects 64 (record_of 64 book)
    → (many : HasTooMany begun i (record_of 64 book))
    → part_of book.stripes i (fold_to (history_of (record_of 64 book)) (reach (record_of 64 book))) ≡ many.at.part
unfolding capture_holds
part_at book begun i knows many =
    let q : ℕ = begun.opening.first + length ((begun.seen ++ many.at.taken) ++ many.at.looked) in
    let same : reach (record_of 64 book) ≡ q = ap reach many.at.is in
    let holds : PassHolds (record_of 64 book) i = capture_holds begun (record_of 64 book) i many in
    rw same ((knows.held holds.held holds.holding).looked q refl).part_is

module _ (laws : Laws) (keeper : Keeper Traced) (b : Book) (jobs : List Job) (w : World) (l : Life) (walk : Walk) (is : IsLifeOf w keeper b jobs)
    (k : Parts w l keeper b jobs) (under_way : keeper.capture ≡ Some walk) where
  capturing : IsCapturing traced_states traced_honest b.stripes is.done keeper walk (record_of 64 b)
  capturing = subst (λ o. FitsBy o traced_states traced_honest b.stripes is.done keeper (record_of 64 b)) under_way is.fits

  undrawn_next : DrawsNoTicket (next_kind b.stripes walk)
  undrawn_next = elim capturing.walked [ inl taken ↦ subst DrawsNoTicket (sym taken.next) tt | inr looked ↦ subst DrawsNoTicket (sym looked.next) tt ]

  is_large : (begun : Record) (i : ℕ) → HasTooMany begun i (record_of 64 b) → 2 ^ 32 - 1 < section_size w l (reach (record_of 64 b)) l.checkpoint
  is_large begun i many =
      laws.too_large b.stripes is.done walk keeper (record_of 64 b) w l i many.at.part is.fits k.keeper_stands under_way
      (capture_holds begun (record_of 64 b) i many)
      (part_at b begun i (k.workers_stand.words.one.passes 64 (let all = k.workers_stand.passes in omega (arith, all))) many) many.many

  -- refusal 14 comes only for a section that is too large
  too_large : IsCauseOf walk LogFull → 2 ^ 32 - 1 < section_size w l (reach (record_of 64 b)) l.checkpoint
  too_large cause = elim cause [
    | inl memory ↦ absurd (let no : LogFull ≡ NoMemory = memory in cc)
    | inr full ↦ elim capturing.walked [
      | inl taken ↦ absurd (looks_not b.stripes walk.stage LogFull full taken.next)
      | inr looked ↦ is_large capturing.begun capturing.stripe
          (too_many_at b.stripes capturing.stripe capturing.begun (record_of 64 b) walk.stage full looked.fits)
    ]
  ]

  captures : IsCapture l.walk
  captures =
      subst IsCapture (sym (k.keeper_stands.walk ∙ ap (λ o. walk_by keeper.stripes.count keeper.sweeper.walking o (record_of 64 b)) under_way))
      (is_capture (next_kind keeper.stripes.count walk) (reach (record_of 64 b)))

pub step_did : (laws : Laws) (stripe : ℕ) (life after : sim.Life) (w : World) (result : Result (Option ℕ) Refusal) (m : Made) (walk : Walk)
    → IsLife w life
    → life.keeper.capture ≡ Some walk → after.jobs.items ≡ life.jobs.items
    → StepsCaptureOn stripe life.keeper after.keeper life.words after.words result m → IfErr result (IsCauseOf walk)
    → Did w event.KeeperStep (outcome.Stepped m (telling.capture_end result)) after
step_did laws stripe life after w result m walk is under_way jobs step cause =
    let there : (l : Life) × Parts w l life.keeper life.words life.jobs.items = life_there w life.keeper life.words life.jobs.items is in
    let l : Life = there.0 in
    let k : Parts w l life.keeper life.words life.jobs.items = there.1 in
    let goes : not (rests_at l.walk) ≡ true = is_busy laws.walk life.keeper life.words life.jobs.items w l k walk under_way in
    let other : DrawsNoTicket (kind_next life.words.stripes stripe life.keeper.capture) =
    subst (λ o. DrawsNoTicket (kind_next life.words.stripes stripe o)) (sym under_way)
    (undrawn_next laws life.keeper life.words life.jobs.items w l walk is k under_way) in
    let told = step_told laws.free laws.held laws.sees life.words after.words w l (doings_of life.jobs.items)
    (kind_next life.words.stripes stripe life.keeper.capture) m k.workers_stand step.made other step.one in
    let answers : Answers traced_states after.keeper (record_of 64 after.words) w l event.KeeperStep
    (outcome.Stepped m (telling.capture_end result)) =
    laws.goes_on life.words.stripes is.done stripe walk life.keeper after.keeper (record_of 64 life.words) (record_of 64 after.words) w l result m
    is.fits tt k.keeper_stands under_way step.steps
    (λ full. too_large laws life.keeper life.words life.jobs.items w l walk is k under_way (subst (λ r. IfErr r (IsCauseOf walk)) full cause))
    (subst (λ o. telling.MakesStep w l (record_of 64 life.words) (record_of 64 after.words) (kind_next life.words.stripes stripe o) m) under_way told) in
    did w l event.KeeperStep (outcome.Stepped m (telling.capture_end result)) after k.life tt goes answers.happens tt
    (subst (IsLifeOf (with_life w (keeper_stepped w l l.walk m (telling.capture_end result))) after.keeper after.words) (sym jobs)
    (life_after laws stripe life.keeper after.keeper life.words after.words life.jobs.items w
    (with_life w (keeper_stepped w l l.walk m (telling.capture_end result))) l
    (keeper_stepped w l l.walk m (telling.capture_end result)) result m is k.workers_stand step other refl
    (stays_stepped w l l.walk m (telling.capture_end result) (captures laws life.keeper life.words life.jobs.items w l walk is k under_way))
    answers.stands answers.stands))

-- ---- what the watched words tell

-- a step that is told was no refusal before the first
untold : (old new : Watched) (made : Made) → old.made ≡ None → new.made ≡ Some made → new ≡ old → ⊥
untold old new made none some same =
    let e : None ≡ Some made = sym none ∙ sym (ap (λ w. w.made) same) ∙ some in
    cc

pub was_made : (result : Result (Option ℕ) Refusal) (old new : Watched) (keeper keeper' : Keeper Traced) (made : Made) (refusal : Refusal)
    → ((result ≡ Err Failed) ⊎ (result ≡ Err WrongPhase) → (new ≡ old) × (keeper' ≡ keeper)) → old.made ≡ None → new.made ≡ Some made
    → (refusal ≡ Failed) ⊎ (refusal ≡ WrongPhase) → result ≢ Err refusal
was_made result old new keeper keeper' made refusal first none some which is =
    untold old new made none some (first (elim which [ inl e ↦ inl (is ∙ ap Err e) | inr e ↦ inr (is ∙ ap Err e) ])).0

-- the pass is the keeper's
pub steps_at : (n stripe : ℕ) (keeper keeper' : Keeper Traced) (p : Record) (new : Watched) (result : Result (Option ℕ) Refusal) → new.pass ≡ 64
    → StepsCapture traced_states traced_honest n stripe keeper keeper' p (watched_record new) result
    → StepsCapture traced_states traced_honest n stripe keeper keeper' p (record_of 64 new.words.now) result
steps_at n stripe keeper keeper' p new result pass steps =
    subst (λ j. StepsCapture traced_states traced_honest n stripe keeper keeper' p (record_of j new.words.now) result) pass steps

pub steps_on : (stripe : ℕ) (keeper keeper' : Keeper Traced) (old new : Watched) (result : Result (Option ℕ) Refusal) (m : Made) → old.pass ≡ 64
    → watched_place new ≡ watched_place old
    → StepsCapture traced_states traced_honest (watched_stripes old) stripe keeper keeper' (watched_record old) (watched_record new) result
    → MakesOne watched_record watched_moves (kind_next (watched_stripes old) stripe keeper.capture) old new → new.made ≡ Some m
    → ((done : List Command) → FitsWalking traced_states traced_honest (watched_stripes old) done keeper (watched_record old)
    → FitsWalking traced_states traced_honest (watched_stripes new) done keeper' (watched_record new))
    → IsOneHistory new.words.now → HoldApart new.words.now → StepsCaptureOn stripe keeper keeper' old.words.now new.words.now result m
steps_on stripe keeper keeper' old new result m pass place steps one is fits history apart = record {
  steps = steps_at old.words.now.stripes stripe keeper keeper' (record_of 64 old.words.now) new result (second_same place ∙ pass)
      (subst (λ j. StepsCapture traced_states traced_honest old.words.now.stripes stripe keeper keeper' (record_of j old.words.now)
      (watched_record new) result) pass steps);
  made = subst (λ j. MakesStep j (kind_next old.words.now.stripes stripe keeper.capture) old.words.now new.words.now m) pass
      (step_made old new new.words.now (kind_next old.words.now.stripes stripe keeper.capture) m one (second_same place) refl is);
  fits = λ done now. subst (λ j. FitsWalking traced_states traced_honest new.words.now.stripes done keeper' (record_of j new.words.now))
      (second_same place ∙ pass)
      (fits done (subst (λ j. FitsWalking traced_states traced_honest old.words.now.stripes done keeper (record_of j old.words.now)) (sym pass) now));
  one = history;
  apart = apart;
}

-- ---- while the keeper walks

pub capture_skips : WalkIsTold traced_states → (stripe : ℕ) (life : sim.Life) (w : World) (answer : Bool) → IsLife w life
    → answer ≡ (is_walking life.keeper.sweeper.walking || is_some life.keeper.capture) → answer ≡ true
    → Did w (event.Capture stripe) outcome.Skipped life
capture_skips walk stripe life w answer is told walks =
    let there : (l : Life) × Parts w l life.keeper life.words life.jobs.items = life_there w life.keeper life.words life.jobs.items is in
    let l : Life = there.0 in
    let k : Parts w l life.keeper life.words life.jobs.items = there.1 in
    did_skip w (event.Capture stripe) life
    (ap (λ o. fits_with o (event.Capture stripe)) k.life ∙ walk life.keeper (record_of 64 life.words) w l k.keeper_stands ∙ ap not (sym told ∙ walks)) is
