-- The LOOK and the GIVE of a capture.
use Rattle.std.proofs.Common.{◌≡◌, ◌⊎◌, inl, inr, ℕ, ◌-◌, ◌^◌, ◌<◌, ◌≤◌, List, [], ◌∷◌, ◌++◌, length, take, Option, Some, None, Bool, true, false, Result, Ok, Err, refl, sym, ◌∙◌, ap, subst, arith}
use Rattle.std.specs.FinMap as finite
use Rattle.std.proofs.lemmas.List.{same_from_push}
use Rattle.map_types.specs.declared.commands.Command.{Command}
use Rattle.map_types.specs.declared.refusals.Refusal.{Refusal}
use Rattle.map_types.specs.declared.refusals.Refusal.TheVariants as refusal
use Rattle.map_types.specs.declared.texts.Value.{Value}
use Rattle.map_model.specs.Histories.{fold_to}
use Rattle.map_model.specs.Maps.{Map}
use Rattle.map_model.specs.Parts.{part_of}
use Rattle.map_model.specs.Steps.{fold_of}
use Rattle.ticket_order.specs.declared.record.Record.{Record}
use Rattle.ticket_order.specs.declared.record.StepMade.TheVariants.{Looked}
use Rattle.ticket_order.specs.declared.walk.Walk.{Walk}
use Rattle.ticket_order.specs.Legality.{history_of}
use Rattle.ticket_order.specs.Records.{reach}
use Rattle.ticket_order.specs.Walks.{Give, Look, next_kind}
use Rattle.disk_model.specs.Files.{Files, now}
use Rattle.store_layout.specs.Checkpoints.{Section}
use Rattle.gate_log.specs.States.{LogState}
use Rattle.store_layout.specs.declared.checkpoint_phase.CheckpointPhase.TheVariants.{Ready}
use Rattle.checkpoint_file.specs.States as checkpoint
use Rattle.checkpoint_file.specs.States.{CheckpointState}
use Rattle.flusher.specs.declared.keeper.Keeper.{Keeper}
use Rattle.flusher.specs.declared.sweeper.Walking.{Walking}
use Rattle.flusher.specs.declared.sweeper.Walking.TheVariants as walking
use Rattle.flusher.specs.KeeperSteps.{is_walking}
use Rattle.checkpoint_walk.specs.Capturing.{HasLooked, HasTaken}
use Rattle.checkpoint_walk.specs.Checkpointing.{HasGiven, IsNextStripe}
use Rattle.checkpoint_walk.specs.Walking.{AfterStep, AfterWalk, FitsBy, GivesPart, GivesPartIn, GivesSection, IsCapturing, LooksAt, PutsBack}
use Rattle.sim_rules.specs.declared.outcome.End.TheVariants as ends
use Rattle.sim_rules.specs.declared.outcome.Made.{Made}
use Rattle.sim_rules.specs.declared.outcome.Made.TheVariants as told
use Rattle.sim_rules.specs.World.{World, Life, CaptureLooks, CaptureGives, KeeperWalk, Rests, Running, next_section}
use Rattle.sim_rules.specs.After.{capture_gives, keeper_stepped, section_at, with_life, with_section}
use Rattle.sim_rules.specs.Cases.{GivesCaptured, StepsKeeper, section_size}
use Rattle.sim_keeper.specs.Laws.{CaptureStepAnswers}
use Rattle.sim_keeper.specs.Showing.{capture_shown, clears_left, running_shown, seals_left, walk_by, walking_shown}
use Rattle.sim_keeper.specs.KeeperInWorld.{BeginsBoth, HasKeeper, IsWritten, KeeperStands, KnowsStore, SeesHistory}
use Rattle.sim_keeper.specs.Telling.{AgreesWith, MakesStep, capture_end}
use Rattle.sim_keeper.proofs.Moved.{same_history}
use Rattle.sim_keeper.proofs.Captured.{same_fold, same_mark}
use Rattle.sim_keeper.proofs.WalkSteps.{give_told, look_told, looks_last}

-- the walk has taken its stripe, or has looked
pub taken_at : (n : ℕ) (b : Record) (i : ℕ) (walk : Walk) (p : Record) → next_kind n walk ≡ Look → HasTaken n b i walk p ⊎ HasLooked n b i walk p → HasTaken n b i walk p
taken_at n b i walk p e (inl t) = t
taken_at n b i walk p e (inr t) = absurd (not_both (sym e ∙ t.next))
  where
    not_both : Look ≡ Give i → ⊥
    not_both e = cc

pub looked_at : (n : ℕ) (b : Record) (i j : ℕ) (walk : Walk) (p : Record) → next_kind n walk ≡ Give j → HasTaken n b i walk p ⊎ HasLooked n b i walk p → HasLooked n b i walk p × (i ≡ j)
looked_at n b i j walk p e (inl t) = absurd (not_both (sym t.next ∙ e))
  where
    not_both : Look ≡ Give j → ⊥
    not_both e = cc
looked_at n b i j walk p e (inr t) = (t, same (sym t.next ∙ e))
  where
    same : Give i ≡ Give j → i ≡ j
    same e = cc

-- the stripe is the next of the world
pub next_is : (o : Option CheckpointState) (running : Option Running) (next : Option LogState) (files : Files) (i : ℕ) → IsWritten o running files → IsNextStripe i next o → i ≡ next_section running
next_is None running next files i is k = absurd k
next_is (Some v) running next files i is k = sym k.2 ∙ is.2.1.knows.count ∙ sym (ap next_section is.1)

-- a section more
shown : (v : CheckpointState) (sections : List Section) (a b : Section) (mark : ℕ) (entries : List (List ℕ × Value)) → v.phase ≡ Ready → a ≡ b
    → (let r : Running = record (running_shown v sections) { sections = sections ++ a ∷ []; is_waiting = true } in r) ≡ running_shown (checkpoint.with_section mark entries v) (sections ++ b ∷ [])
shown v sections a b mark entries ready same =
    ap (λ ph. let r : Running = record { generation = v.generation; clears = clears_left ph; sections = sections ++ a ∷ []; is_waiting = true; seals = seals_left ph } in r) ready
    ∙ ap (λ x. let r : Running = record { generation = v.generation; clears = 0; sections = sections ++ x ∷ []; is_waiting = true; seals = 0 } in r) same

not_first : (next : Option LogState) (v u : CheckpointState) (must_close : Bool) → next ≡ None → BeginsBoth next (Some u) must_close
not_first None v u must_close e = tt
not_first (Some next) v u must_close e = absurd cc

rests_of : (walks : Walking) → is_walking walks ≡ false → Rests ≡ walking_shown walks
rests_of walking.Rests e = refl
rests_of walking.SweepTakes e = absurd cc
rests_of (walking.SweepGives walk) e = absurd cc

module _ {D : Type 0} (states : D → List Files) (honest : D → Type 0) (n : ℕ) (done : List Command) (walk : Walk) (old new : Keeper D) (p q : Record) (w : World) (l : Life)
    (f : IsCapturing states honest n done old walk p) (s : KeeperStands states old p w l) (seen : SeesHistory q w l) where
  k : KnowsStore states old l
  k = s.store f.works

  stripes_are : old.stripes.count ≡ n
  stripes_are = f.fits.stripes.count

  -- how the keeper stands with another capture
  captured : (checkpoint : Option CheckpointState) (capture : Option Walk) (running : Option Running) (v : KeeperWalk) → new ≡ record old { checkpoint = checkpoint; capture = capture } → v ≡ walk_by old.stripes.count old.sweeper.walking capture q
      → IsWritten checkpoint running (now (states old.disk)) → BeginsBoth old.next checkpoint old.must_close → HasKeeper states new q (with_life w (record l { checkpoint = running; walk = v }))
  captured checkpoint capture running v is walk_is written both =
      let m : Life = record l { checkpoint = running; walk = v } in
      subst (λ k. HasKeeper states k q (with_life w m)) (sym is) (record {
        life = refl;
        files = s.files;
        history = same_history q q w (with_life w m) l m refl refl refl refl seen;
        stripes = s.stripes;
        sweep = s.sweep;
        walk = walk_is;
        committed = s.committed;
        durable = s.durable;
        has_failed = s.has_failed;
        is_broken = s.is_broken;
        store = λ _. record { log = k.log; newest = k.newest; layout = k.layout; gate = k.gate; sealed = k.sealed; checkpoint = written; both = both };
        staged = s.staged;
      })

  resting : Rests ≡ walk_by old.stripes.count old.sweeper.walking None q
  resting = rests_of old.sweeper.walking f.rests

  -- ---- its LOOK

  looks : (m : Made) → LooksAt n walk old new p q → MakesStep w l p q (next_kind n walk) m → StepsKeeper w l CaptureLooks m ends.Goes × HasKeeper states new q (with_life w (keeper_stepped w l CaptureLooks m ends.Goes))
  looks m a t =
      let e = look_told t.step m (t.kind_is ∙ a.kind) t.told_is in
      let looked = a.looked f.begun f.stripe (taken_at n f.begun f.stripe walk p a.kind f.walked) in
      let last = looks_last n f.begun f.stripe a.next q looked in
      let count : e.0 ≡ reach q = same_count (sym e.1 ∙ (same_from_push p.steps last.front t.step (Looked (reach q)) (sym t.steps ∙ last.is)).1) in
      subst (λ m. StepsKeeper w l CaptureLooks m ends.Goes × HasKeeper states new q (with_life w (keeper_stepped w l CaptureLooks m ends.Goes))) (sym e.2) (
        subst (AgreesWith w l) e.2 t.agrees,
        captured old.checkpoint (Some a.next) l.checkpoint (CaptureGives e.0) a.is
            (ap CaptureGives count ∙ sym (ap (λ i. capture_shown (next_kind i a.next) (reach q)) stripes_are ∙ ap (λ kind. capture_shown kind (reach q)) looked.next)) k.checkpoint k.both,
      )
    where
      same_count : {a b : ℕ} → Looked a ≡ Looked b → a ≡ b
      same_count e = cc

  -- ---- its GIVE

  stripe_is : (i : ℕ) → f.stripe ≡ i → i ≡ next_section l.checkpoint
  stripe_is i e = sym e ∙ next_is old.checkpoint l.checkpoint old.next (now (states old.disk)) f.stripe k.checkpoint f.next

  gives_back : (e : Refusal) (i mark : ℕ) (m : Made) → f.stripe ≡ i → (e ≡ refusal.LogFull → 2 ^ 32 - 1 < section_size w l mark l.checkpoint) → PutsBack f.begun f.stripe e old new q → m ≡ told.Gave i
      → GivesCaptured w l mark m (ends.Refused e) × HasKeeper states new q (with_life w (capture_gives w l mark (ends.Refused e)))
  gives_back e i mark m same large back gave = (
    subst (λ m. GivesCaptured w l mark m (ends.Refused e)) (sym gave) (happens back.no_other),
    captured old.checkpoint None l.checkpoint Rests back.is resting k.checkpoint k.both,
  )
    where
      happens : (e ≡ refusal.NoMemory) ⊎ (e ≡ refusal.LogFull) → GivesCaptured w l mark (told.Gave i) (ends.Refused e)
      happens (inl is) = subst (λ x. GivesCaptured w l mark (told.Gave i) (ends.Refused x)) (sym is) (stripe_is i same)
      happens (inr is) = subst (λ x. GivesCaptured w l mark (told.Gave i) (ends.Refused x)) (sym is) (stripe_is i same, large is)

  gives : (mark i : ℕ) (m : Made) → GivesSection n f.begun i mark old new q → f.stripe ≡ i → m ≡ told.Gave i
      → ((sections : List Section) → HasGiven old.checkpoint sections (now (states old.disk)) → GivesPart states n (history_of q) mark sections new)
      → GivesCaptured w l mark m (ends.Captured mark) × HasKeeper states new q (with_life w (capture_gives w l mark (ends.Captured mark)))
  gives mark i m g same gave given =
      let v = g.writer in
      let written : IsWritten (Some v) l.checkpoint (now (states old.disk)) = subst (λ o. IsWritten o l.checkpoint (now (states old.disk))) g.was k.checkpoint in
      let sections : List Section = written.0 in
      let next : IsNextStripe f.stripe old.next (Some v) = subst (IsNextStripe f.stripe old.next) g.was f.next in
      let part = given written.0 (subst (λ o. HasGiven o written.0 (now (states old.disk))) (sym g.was) written.2) in (
        subst (λ m. GivesCaptured w l mark m (ends.Captured mark)) (sym gave) (stripe_is i same, refl, small mark i v g written.0 written.1 (place i v same next written.0 written.2)),
        captured (Some (checkpoint.with_section mark g.entries v)) None (with_section w l mark l.checkpoint) Rests g.is resting (
          written.0 ++ part.section ∷ [],
          ap (with_section w l mark) written.1 ∙ ap Some (shown v written.0 (section_at w l mark (running_shown v written.0)) part.section mark g.entries next.1.0 (same_section mark i v g written.0 part)),
          subst (λ k. HasGiven k.checkpoint (written.0 ++ part.section ∷ []) (now (states k.disk))) g.is part.given,
        )
            (not_first old.next v (checkpoint.with_section mark g.entries v) old.must_close next.0),
      )
    where
      place : (i : ℕ) (v : CheckpointState) → f.stripe ≡ i → IsNextStripe f.stripe old.next (Some v) → (sections : List Section) → HasGiven (Some v) sections (now (states old.disk)) → length sections ≡ i
      place i v same next sections given = sym given.1.knows.count ∙ next.2 ∙ same

      fold : (mark i : ℕ) (g : GivesSection n f.begun i mark old new q) → fold_to (history_of q) mark ≡ fold_of (take mark w.history)
      fold mark i g = same_fold q w l mark seen g.captures.legal.from_first (omega (arith, g.captures.mark_is))

      same_map : (mark i : ℕ) (v : CheckpointState) (g : GivesSection n f.begun i mark old new q) (sections : List Section) → (section_at w l mark (running_shown v sections)).map ≡ part_of n (length sections) (fold_to (history_of q) mark)
      same_map mark i v g sections = ap (λ x. part_of x (length sections) (fold_of (take mark w.history))) (s.stripes ∙ stripes_are) ∙ ap (part_of n (length sections)) (sym (fold mark i g))

      same_section : (mark i : ℕ) (v : CheckpointState) (g : GivesSection n f.begun i mark old new q) (sections : List Section) (part : GivesPart states n (history_of q) mark sections new) → section_at w l mark (running_shown v sections) ≡ part.section
      same_section mark i v g sections part =
          ap (λ x. let y : Section = record { mark = mark; map = x } in y) (same_map mark i v g sections ∙ sym part.map) ∙ ap (λ x. let y : Section = record { mark = x; map = part.section.map } in y) (sym part.mark_is)

      small : (mark i : ℕ) (v : CheckpointState) (g : GivesSection n f.begun i mark old new q) (sections : List Section) → l.checkpoint ≡ Some (running_shown v sections) → length sections ≡ i → section_size w l mark l.checkpoint ≤ 2 ^ 32 - 1
      small mark i v g sections is long =
          let map_is : (section_at w l mark (running_shown v sections)).map ≡ g.captures.part = same_map mark i v g sections ∙ ap (λ x. part_of n x (fold_to (history_of q) mark)) long ∙ g.captures.legal.part_is in
          let size : section_size w l mark l.checkpoint ≡ length g.entries = ap (section_size w l mark) is ∙ ap (λ (x : Map). length (finite.entries x)) map_is ∙ ap (λ (xs : List (List ℕ × Value)). length xs) (sym g.captures.entries_are) in
          let few : length g.entries < 2 ^ 32 = g.captures.few in
          omega (arith, size, few)

  -- ---- the step

  goes : (result : Result (Option ℕ) Refusal) (m : Made) → AfterWalk n walk old new p q result → MakesStep w l p q (next_kind n walk) m → (result ≡ Err refusal.LogFull → 2 ^ 32 - 1 < section_size w l (reach p) l.checkpoint)
      → ((mark : ℕ) → result ≡ Ok (Some mark) → (sections : List Section) → HasGiven old.checkpoint sections (now (states old.disk)) → GivesPart states n (history_of q) mark sections new)
      → StepsKeeper w l (capture_shown (next_kind n walk) (reach p)) m (capture_end result) × HasKeeper states new q (with_life w (keeper_stepped w l (capture_shown (next_kind n walk) (reach p)) m (capture_end result)))
  goes (Ok None) m a t large given =
      subst (λ kind. StepsKeeper w l (capture_shown kind (reach p)) m ends.Goes × HasKeeper states new q (with_life w (keeper_stepped w l (capture_shown kind (reach p)) m ends.Goes))) (sym a.kind) (looks m a t)
  goes (Ok (Some mark)) m a t large given =
      let looked = looked_at n f.begun f.stripe a.0 walk p a.1 f.walked in
      let gave : m ≡ told.Gave a.0 = give_told t.step a.0 m (t.kind_is ∙ a.1) t.told_is in
      let g = a.2 f.begun (subst (λ i. HasLooked n f.begun i walk p) looked.1 looked.0) in
      let same : mark ≡ reach p = same_mark n a.0 mark g.entries f.begun p q t.step g.captures (looks_last n f.begun f.stripe walk p looked.0) t.steps in
      subst (λ kind. StepsKeeper w l (capture_shown kind (reach p)) m (ends.Captured mark) × HasKeeper states new q (with_life w (keeper_stepped w l (capture_shown kind (reach p)) m (ends.Captured mark)))) (sym a.1)
      (subst (λ x. GivesCaptured w l x m (ends.Captured mark) × HasKeeper states new q (with_life w (capture_gives w l x (ends.Captured mark)))) same (gives mark a.0 m g looked.1 gave (given mark refl)))
  goes (Err e) m a t large given =
      let looked = looked_at n f.begun f.stripe a.0 walk p a.1 f.walked in
      let gave : m ≡ told.Gave a.0 = give_told t.step a.0 m (t.kind_is ∙ a.1) t.told_is in
      let back : PutsBack f.begun f.stripe e old new q = subst (λ i. PutsBack f.begun i e old new q) (sym looked.1) (a.2 f.begun (subst (λ i. HasLooked n f.begun i walk p) looked.1 looked.0)) in
      subst (λ kind. StepsKeeper w l (capture_shown kind (reach p)) m (ends.Refused e) × HasKeeper states new q (with_life w (keeper_stepped w l (capture_shown kind (reach p)) m (ends.Refused e)))) (sym a.1)
      (gives_back e a.0 (reach p) m looked.1 (λ is. large (ap Err is)) back gave)

pub capture_step_answers : {D : Type 0} (states : D → List Files) (honest : D → Type 0) → CaptureStepAnswers states honest
capture_step_answers {D} states honest n done stripe walk old new p q w l result m fw h s is on large t =
    let f : IsCapturing states honest n done old walk p = subst (λ o. FitsBy o states honest n done old p) is fw in
    let after : AfterWalk n walk old new p q result = subst (λ o. AfterStep n stripe o old new p q result) is on.after in
    let k = goes states honest n done walk old new p q w l f s t.history result m after t large (λ mark r sections has. subst (λ r. GivesPartIn states n (history_of q) r sections new) r (on.given done sections fw h has)) in
    let walk_is : l.walk ≡ capture_shown (next_kind n walk) (reach p) = s.walk ∙ ap (λ o. walk_by old.stripes.count old.sweeper.walking o p) is ∙ ap (λ i. capture_shown (next_kind i walk) (reach p)) f.fits.stripes.count in
    record {
      happens = subst (λ v. StepsKeeper w l v m (capture_end result)) (sym walk_is) k.0;
      stands = subst (λ v. HasKeeper states new q (with_life w (keeper_stepped w l v m (capture_end result)))) (sym walk_is) k.1;
    }
