-- Each step of a walk is told.
use Rattle.std.proofs.Common.{◌≡◌, ℕ, Option, None, Some, [], ◌∷◌, get_or, refl, sym, ◌∙◌, subst, ap}
use Rattle.ticket_order.specs.declared.record.StepMade.{StepMade}
use Rattle.ticket_order.specs.declared.record.StepMade.TheVariants.{Took, FoundHeld, Gave, Drew, Looked, Published, Saw, Failed, FoundAlive}
use Rattle.ticket_order.specs.declared.change_walk.ChangeStage.TheVariants as change
use Rattle.ticket_order.specs.declared.read_walk.ReadStage.TheVariants as read
use Rattle.ticket_order.specs.declared.release_walk.ReleaseStage.TheVariants as release
use Rattle.ticket_order.specs.declared.sweep_walk.SweepStage.TheVariants as sweep
use Rattle.ticket_order.specs.declared.capture_walk.CaptureStage.TheVariants as capture
use Rattle.ticket_order.specs.declared.walk.Stage.{Stage}
use Rattle.ticket_order.specs.declared.walk.Stage.TheVariants as stage
use Rattle.ticket_order.specs.declared.walk.Walk.{Walk}
use Rattle.ticket_order.specs.Walks.{Kind, MakesOne, kind_of, next_kind, next_of_stage}
use Rattle.flusher.specs.declared.sweeper.Sweep.{Sweep}
use Rattle.checkpoint_walk.specs.Walking as capturing
use Rattle.sim_rules.specs.declared.outcome.Made.{Made}
use Rattle.one_history.specs.declared.book.Book.{Book}
use Rattle.sim_rules.specs.Told.{told_of}
use Rattle.schedule_sim.specs.declared.watched.Watched.{Watched}
use Rattle.schedule_sim.specs.Watching.{IsTold, MakesStep}
use Rattle.schedule_sim.specs.WatchedWords.{watched_record, watched_moves}

-- a step of a kind that is told is told
pub told : (s : StepMade) → IsTold (kind_of s) → (made : Made) × (told_of s ≡ Some made)
told (Took i outbox last) k = (_, refl)
told (FoundHeld i) k = (_, refl)
told (Gave i) k = (_, refl)
told (Drew t) k = (_, refl)
told (Looked q) k = (_, refl)
told (Published x) k = absurd k
told (Saw d) k = (_, refl)
told Failed k = absurd k
told (FoundAlive is_alive) k = (_, refl)

told_stage : (n : ℕ) (s : Stage) → IsTold (next_of_stage n s)
told_stage n (stage.Change (change.Begins new)) = tt
told_stage n (stage.Change (change.HasTaken new t)) = tt
told_stage n (stage.Change (change.IsAlive new t)) = tt
told_stage n (stage.Change (change.IsReady new t prepared)) = tt
told_stage n (stage.Change (change.HasDrawn t h)) = tt
told_stage n (stage.Read (read.Begins r)) = tt
told_stage n (stage.Read (read.HasTaken r t)) = tt
told_stage n (stage.Read (read.HasRead r t h)) = tt
told_stage n (stage.Release (release.Begins h)) = tt
told_stage n (stage.Release (release.HasMissed h)) = tt
told_stage n (stage.Release (release.FoundFailure h)) = tt
told_stage n (stage.Sweep (sweep.Begins alloc i)) = tt
told_stage n (stage.Sweep (sweep.HasTaken alloc t)) = tt
told_stage n (stage.Capture (capture.Begins i)) = tt
told_stage n (stage.Capture (capture.HasTaken t)) = tt
told_stage n (stage.Capture (capture.HasLooked t z)) = tt
told_stage n (stage.GivingBack t e) = tt

pub told_walk : (n : ℕ) (w : Walk) → IsTold (next_kind n w)
told_walk n w = told_stage n w.stage

pub told_capture : (n i : ℕ) (o : Option Walk) → IsTold (capturing.kind_next n i o)
told_capture n i None = tt
told_capture n i (Some w) = told_walk n w

pub second_same : {a b c d : ℕ} → a ∷ b ∷ [] ≡ c ∷ d ∷ [] → b ≡ d
second_same e = ap (λ xs. get_or xs 1 0) e

-- the step that the watched words were lent for
pub step_made : (old new : Watched) (after : Book) (kind : Kind) (made : Made) → MakesOne watched_record watched_moves kind old new
    → new.pass ≡ old.pass → after ≡ new.words.now → new.made ≡ Some made → MakesStep old.pass kind old.words.now after made
step_made old new after kind made one same is last = rw is
    (record {
      step = one.made;
      steps = rw same at one.steps;
      kind_is = one.kind_is;
      moved = one.moved.book;
      told_is = sym one.moved.told_is ∙ last;
    })

-- a walk of the watched pass makes steps that are told
pub no_step_untold : (old new : Watched) (kind : Kind) → MakesOne watched_record watched_moves kind old new → IsTold kind → new.made ≡ None → ⊥
no_step_untold old new kind one is none =
    let t : (made : Made) × (told_of one.made ≡ Some made) = told one.made (subst IsTold (sym one.kind_is) is) in
    let e : None ≡ Some t.0 = sym none ∙ one.moved.told_is ∙ t.1 in
    cc
