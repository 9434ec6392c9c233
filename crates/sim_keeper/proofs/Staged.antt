-- A batch is staged.
use Rattle.std.proofs.Common.{◌≡◌, ◌⊎◌, inl, inr, ℕ, zero, suc, ◌≤◌, List, length, true, false, if◌then◌else◌, Result, Ok, Err, refl, sym, ◌∙◌, ap, subst, arith}
use Rattle.std.proofs.lemmas.Bool.{false_from_ne_true, true_from_ne_false}
use Rattle.map_types.specs.declared.commands.Command.{Command}
use Rattle.map_types.specs.declared.refusals.Refusal.{Refusal}
use Rattle.map_types.specs.declared.refusals.Refusal.TheVariants as refusal
use Rattle.ticket_order.specs.declared.record.Record.{Record}
use Rattle.ticket_order.specs.declared.stripe.Entry.{Entry}
use Rattle.disk_model.specs.Files.{Files, now}
use Rattle.log_records.specs.Layout.{layout_of}
use Rattle.gate_log.specs.States.{LogState}
use Rattle.flusher.specs.declared.keeper.Keeper.{Keeper}
use Rattle.flusher.specs.Fitting.{Fits}
use Rattle.flusher.specs.KeeperSteps.{MayStage, Stages, is_walking}
use Rattle.ticket_order.proofs.Entries.{length-entries}
use Rattle.sim_rules.specs.declared.event.Event.TheVariants as event
use Rattle.sim_rules.specs.declared.outcome.Outcome.TheVariants as outcome
use Rattle.sim_rules.specs.World.{World, Life, Committing, LogWork, is_resting, rests}
use Rattle.sim_rules.specs.After.{staged_by, with_life}
use Rattle.sim_rules.specs.Cases.{IsLongestRun, IsPastFull, StagesRun}
use Rattle.sim_keeper.specs.Laws.{StageAnswers, staged_as}
use Rattle.sim_keeper.specs.Promises.{TriesStage}
use Rattle.sim_keeper.specs.Showing.{committing, sweep_shown, walk_shown, work_by}
use Rattle.sim_keeper.specs.KeeperInWorld.{Answers, HasKeeper, KeeperStands, KnowsStore, StandsIn, TellsPlaces}
use Rattle.sim_keeper.proofs.Deciding.{other_is, two_ways}
use Rattle.sim_keeper.proofs.Moved.{same_history}
use Rattle.sim_keeper.proofs.Staging.{full_past, longest, may_rest, no_walk, past_full, rest_may}

ok_err : {A E : Type 0} (x : A) (e : E) → Ok x ≡ Err e → ⊥
ok_err x e same = cc

of_result : Result ℕ Refusal → Refusal
of_result (Ok count) = refusal.NoMemory
of_result (Err e) = e

no_failed : refusal.NoMemory ≡ refusal.Failed → ⊥
no_failed e = cc

no_wrong : refusal.NoMemory ≡ refusal.WrongPhase → ⊥
no_wrong e = cc

other_failed : (r : Result ℕ Refusal) → r ≡ Err refusal.NoMemory → r ≡ Err refusal.Failed → ⊥
unfolding of_result
other_failed r a b = no_failed (ap of_result (sym a ∙ b))

other_wrong : (r : Result ℕ Refusal) → r ≡ Err refusal.NoMemory → r ≡ Err refusal.WrongPhase → ⊥
unfolding of_result
other_wrong r a b = no_wrong (ap of_result (sym a ∙ b))

module _ {D : Type 0} (states : D → List Files) (honest : D → Type 0) (n : ℕ) (done : List Command) (most : ℕ) (old new : Keeper D) (p : Record) (w : World) (l : Life)
    (f : Fits states honest n done old p) (s : KeeperStands states old p w l) (places : TellsPlaces p l) (rest : is_walking old.sweeper.walking ≡ false) where
  resting : old.is_broken ≡ false → MayStage old.log old.next → is_resting l.log ≡ true
  resting works may = ap is_resting (s.store works).log ∙ may_rest old.log old.next (length old.staged.items) may

  may_by : old.is_broken ≡ false → is_resting l.log ≡ true → MayStage old.log old.next
  may_by works e = rest_may old.log old.next (length old.staged.items) old.staged.items f.rotation (sym (ap is_resting (s.store works).log) ∙ e)

  -- the keeper stands so where its log does
  stands_by : old.is_broken ≡ false → (g : LogWork) (log : LogState) → new.log ≡ log → new ≡ record old { log = new.log; sweeper = record old.sweeper { in_hand = new.sweeper.in_hand }; staged = new.staged } → log.version ≡ old.log.version → log.generation ≡ old.log.generation → log.gate ≡ old.log.gate → log.committed ≡ old.log.committed
      → (old.is_broken ≡ false → g ≡ work_by new.log old.next (length new.staged.items)) → KeeperStands states new p (with_life w (record l { log = g })) (record l { log = g })
  stands_by works g log log_is same version generation gate committed shown =
      let m : Life = record l { log = g } in
      subst (λ k. KeeperStands states k p (with_life w m) m) (sym same) (record {
        life = refl;
        files = s.files;
        history = same_history p p w (with_life w m) l m refl refl refl refl s.history;
        stripes = s.stripes;
        sweep = s.sweep;
        walk = s.walk;
        committed = s.committed ∙ sym committed ∙ sym (ap (λ (x : LogState). x.committed) log_is);
        durable = s.durable;
        has_failed = s.has_failed;
        is_broken = s.is_broken;
        staged = λ broken. absurd (two_ways old.is_broken broken works);
        store = λ works. let k = s.store works in record {
          log = shown works;
          newest = k.newest ∙ sym generation ∙ sym (ap (λ (x : LogState). x.generation) log_is);
          layout = k.layout ∙ ap layout_of (sym version ∙ sym (ap (λ (x : LogState). x.version) log_is));
          gate = k.gate ∙ sym gate ∙ sym (ap (λ (x : LogState). x.gate) log_is);
          sealed = k.sealed;
          checkpoint = k.checkpoint;
          both = k.both;
        };
      })

  -- nothing was staged
  unstaged : new ≡ record old { log = new.log; sweeper = record old.sweeper { in_hand = new.sweeper.in_hand }; staged = new.staged } → new.log ≡ old.log → new.staged ≡ old.staged → HasKeeper states new p w
  unstaged same log staged =
      subst (λ life. StandsIn states new p w life) (sym s.life) (record {
        life = s.life;
        files = s.files ∙ sym (ap (λ (k : Keeper D). now (states k.disk)) same);
        history = s.history;
        stripes = s.stripes ∙ sym (ap (λ (k : Keeper D). k.stripes.count) same);
        sweep = s.sweep ∙ sym (ap (λ (k : Keeper D). sweep_shown k.sweeper.sweep) same);
        walk = s.walk ∙ sym (ap (λ (k : Keeper D). walk_shown k.stripes.count k p) same);
        committed = s.committed ∙ sym (ap (λ (x : LogState). x.committed) log);
        durable = s.durable ∙ sym (ap (λ (k : Keeper D). k.published) same);
        has_failed = s.has_failed ∙ sym (ap (λ (k : Keeper D). k.has_failed) same);
        is_broken = s.is_broken ∙ sym (ap (λ (k : Keeper D). k.is_broken) same);
        staged = λ broken. s.staged (sym (ap (λ (k : Keeper D). k.is_broken) same) ∙ broken) ∙ sym (ap (λ xs. length xs.items) staged);
        store = λ works. subst (λ k. KnowsStore states k l) (sym same)
            (let k = s.store (sym (ap (λ (k : Keeper D). k.is_broken) same) ∙ works) in record {
              log = k.log ∙ ap (λ x. work_by x old.next (length old.staged.items)) (sym log) ∙ ap (λ x. work_by new.log old.next (length x.items)) (sym staged);
              newest = k.newest ∙ sym (ap (λ (x : LogState). x.generation) log);
              layout = k.layout ∙ sym (ap (λ (x : LogState). layout_of x.version) log);
              gate = k.gate ∙ sym (ap (λ (x : LogState). x.gate) log);
              sealed = k.sealed;
              checkpoint = k.checkpoint;
              both = k.both;
            });
      })

  -- some were
  some_staged : old.is_broken ≡ false → (count : ℕ) (commands : List Command) → 1 ≤ count → count ≡ length commands → MayStage old.log old.next → Stages commands old.log old.sweeper.in_hand new.log new.sweeper.in_hand new.staged.items
      → new ≡ record old { log = new.log; sweeper = record old.sweeper { in_hand = new.sweeper.in_hand }; staged = new.staged } → KeeperStands states new p (with_life w (record l { log = Committing count 4 })) (record l { log = Committing count 4 })
  some_staged works count commands some is may st same =
      let long : count ≡ length new.staged.items = is ∙ sym (ap (λ (xs : List Entry). length xs) st.entries ∙ length-entries old.sweeper.in_hand.next commands) in
      stands_by works (Committing count 4) new.log refl same (ap (λ (x : LogState). x.version) st.log) (ap (λ (x : LogState). x.generation) st.log) (ap (λ (x : LogState). x.gate) st.log) (ap (λ (x : LogState). x.committed) st.log)
      (λ works. ap (λ k. Committing k 4) long ∙ sym (ap (λ o. work_by new.log o (length new.staged.items)) may.1 ∙ ap (λ (x : LogState). committing x.phase (length new.staged.items)) st.log))

  after_ok : old.is_broken ≡ false → (count : ℕ) (commands : List Command) → count ≡ length commands → MayStage old.log old.next → (count ≡ 0 → new ≡ old) → (1 ≤ count → Stages commands old.log old.sweeper.in_hand new.log new.sweeper.in_hand new.staged.items)
      → new ≡ record old { log = new.log; sweeper = record old.sweeper { in_hand = new.sweeper.in_hand }; staged = new.staged } → HasKeeper states new p (with_life w (record l { log = staged_by count l.log }))
  after_ok works zero commands is may none_ some same =
      let e = none_ refl in stands_by works l.log old.log (ap (λ (k : Keeper D). k.log) e) same refl refl refl refl
      (λ works. (s.store works).log ∙ ap (λ x. work_by x old.next (length old.staged.items)) (sym (ap (λ (k : Keeper D). k.log) e)) ∙ ap (λ x. work_by new.log old.next (length x.items)) (sym (ap (λ (k : Keeper D). k.staged) e)))
  after_ok works (suc m) commands is may none_ some same =
      subst (λ g. HasKeeper states new p (with_life w (record l { log = g }))) (sym (never_none m l.log)) (some_staged works (suc m) commands (omega arith) is may (some (omega arith)) same)
    where
      never_none : (m : ℕ) (log : LogWork) → staged_by (suc m) log ≡ Committing (suc m) 4
      never_none m log = ap (λ b. if b then log else Committing (suc m) 4) (other_is (suc m) 0 (λ e. omega (arith, e)))

  stage_by : (result : Result ℕ Refusal) → TriesStage most old new result → Answers states new p w l (event.Stage most) (staged_as result)
  stage_by (Ok count) t =
      let works : old.is_broken ≡ false = false_from_ne_true old.is_broken (λ broken. ok_err count refusal.Failed (t.failed.1 broken)) in
      let rested : is_resting l.log ≡ true = true_from_ne_false (is_resting l.log) (λ not_. ok_err count refusal.WrongPhase (t.wrong_phase.1 (works, λ may. two_ways (is_resting l.log) (resting works may) not_))) in
      let may = may_by works rested in
      let k = s.store works in
      let o = t.ok in
      record {
        happens = (
          s.is_broken ∙ works,
          rested,
          subst (IsLongestRun w l most) (sym o.2) (longest states honest n done old p w l f s places rest may k.layout most o.0 o.1),
          λ past. ok_err count refusal.LogFull (t.full.1 (works, may, past_full states honest n done old p w l f s places rest may k.layout most o.0 o.1 k.gate (subst (IsPastFull w l) o.2 past))),
        );
        stands = after_ok works count o.0 o.2 may o.3 o.4 t.same;
      }
  stage_by (Err e) t = record { happens = refused e t.no_other t; stands = unstaged t.same t.err.0 t.err.1 }
    where
      refused : (e : Refusal) → (e ≡ refusal.Failed) ⊎ (e ≡ refusal.WrongPhase) ⊎ (e ≡ refusal.LogFull) ⊎ (e ≡ refusal.NoMemory) → TriesStage most old new (Err e) → StagesRun w l most (outcome.Refused e)
      refused e (inl is) t = subst (λ x. StagesRun w l most (outcome.Refused x)) (sym is) (s.is_broken ∙ t.failed.0 (ap Err is))
      refused e (inr (inl is)) t =
          let wrong = t.wrong_phase.0 (ap Err is) in
          subst (λ x. StagesRun w l most (outcome.Refused x)) (sym is) (s.is_broken ∙ wrong.0, false_from_ne_true (is_resting l.log) (λ e. wrong.1 (may_by wrong.0 e)))
      refused e (inr (inr (inl is))) t =
          let full = t.full.0 (ap Err is) in
          subst (λ x. StagesRun w l most (outcome.Refused x)) (sym is) (
            s.is_broken ∙ full.0,
            resting full.0 full.1,
            (
              length full.2.commands,
              longest states honest n done old p w l f s places rest full.1 (s.store full.0).layout most full.2.commands full.2.longest,
              full_past states honest n done old p w l f s places rest full.1 (s.store full.0).layout most full.2 (s.store full.0).gate,
            ),
          )
      refused e (inr (inr (inr is))) t =
          let works : old.is_broken ≡ false = false_from_ne_true old.is_broken (λ broken. other_failed (Err e) (ap Err is) (t.failed.1 broken)) in
          let rested : is_resting l.log ≡ true = true_from_ne_false (is_resting l.log) (λ not_. other_wrong (Err e) (ap Err is) (t.wrong_phase.1 (works, λ may. two_ways (is_resting l.log) (resting works may) not_))) in
          subst (λ x. StagesRun w l most (outcome.Refused x)) (sym is) (s.is_broken ∙ works, rested)

pub stage_answers : {D : Type 0} (states : D → List Files) (honest : D → Type 0) → StageAnswers states honest
stage_answers {D} states honest n done most old new p w l result f s places rests_ t =
    let still = no_walk old.stripes.count old.sweeper.walking old.capture p (sym (ap rests s.walk) ∙ rests_) in
    stage_by states honest n done most old new p w l f s places still.0 result t
