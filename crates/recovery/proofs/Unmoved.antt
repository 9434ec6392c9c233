-- A keeper that commits and stages nothing: what its calls leave.
use Rattle.std.proofs.Common.{◌≡◌, ◌≢◌, ◌⊎◌, inl, inr, IfSome, ℕ, ◌+◌, ◌-◌, List, [], length, take, Option, None, Some, Result, Ok, Err, OnOk, IfOk, IfErr, true, false, refl, sym, ap, subst, ◌∙◌, arith}
use Rattle.disk_model.specs.Files.{Contents, File, Files, now}
use Rattle.disk_model.specs.Gates.{Call, called}
use Rattle.disk_model.specs.Moments.{AtEachMoment}
use Rattle.disk_model.proofs.FileLemmas.{with_other}
use Rattle.disk_model.proofs.MomentLemmas.{goes_on, no_call, weaker}
use Rattle.map_types.specs.declared.commands.Command.{Command}
use Rattle.map_types.specs.declared.refusals.Refusal.{Refusal}
use Rattle.map_types.specs.declared.refusals.Refusal.TheVariants.{Failed}
use Rattle.map_model.specs.Maps.{Map}
use Rattle.map_model.specs.Steps.{map_after}
use Rattle.map_model.specs.Histories.{History, fold_to}
use Rattle.ticket_order.specs.declared.stripe.Entry.{Entry}
use Rattle.ticket_order.specs.declared.record.Opening.{Opening}
use Rattle.ticket_order.specs.declared.record.Record.{Record}
use Rattle.ticket_order.specs.Legality.{history_of}
use Rattle.store_layout.specs.Opening.{StandsFor, checkpoint_layout}
use Rattle.store_layout.specs.declared.log_phase.Phase.{Phase}
use Rattle.store_layout.specs.declared.log_phase.Phase.TheVariants as log_phase
use Rattle.store_layout.specs.declared.checkpoint_phase.CheckpointPhase.{CheckpointPhase}
use Rattle.store_layout.specs.declared.checkpoint_phase.CheckpointPhase.TheVariants as phase
use Rattle.checkpoint_file.specs.CheckpointStates as checkpoint
use Rattle.checkpoint_file.specs.States.{CheckpointState, call_in, state_after}
use Rattle.gate_log.specs.States.{LogState, commands_of, log_after}
use Rattle.flusher.specs.declared.keeper.Keeper.{Keeper}
use Rattle.flusher.specs.declared.sweeper.Sweeper.{Sweeper}
use Rattle.flusher.specs.Fitting.{Fits, HoldsFor, StopsFit, done_after, store_of}
use Rattle.flusher.specs.KeeperSteps.{IsPast, is_walking}
use Rattle.flusher.specs.Rotating.{StepsLogs, broken, due_by, due_in, due_of, ended_in, logs_of, rotated_in, stepped, stepped_by}
use Rattle.disk_model.specs.Calls.{Fails, Makes}
use Rattle.store_layout.specs.Checkpoints.{Checkpoint, Section, checkpoint_file}
use Rattle.store_layout.specs.Faults.{stripes_in}
use Rattle.store_layout.specs.Logs.{log_file}
use Rattle.store_layout.specs.UsedCheckpoint.{UsesCheckpoint}
use Rattle.store_layout.proofs.CheckpointFields.{has_stripes}
use Rattle.store_invariant.specs.StoreStates.{WriterStands, Writes}
use Rattle.checkpoint_walk.specs.Checkpointing.{phase_of, Checkpoints, HasGiven, StepsCheckpoint, call_due, checkpoints_of, kept_in}
use Rattle.recovery.specs.LogReading.{contents_of}
use Rattle.recovery.specs.Upgrading.{IsUnmoved, StandsAt, StandsThroughout, advanced_by, sealed_stripes}

pub err_of : {A : Type 0} (P : Refusal → Type 0) (r : Result A Refusal) (e : Refusal) → r ≡ Err e → IfErr r P → P e
err_of P r e is h = subst (λ x. IfErr x P) is h

pub ok_of : {A : Type 0} (P : Type 0) (r : Result A Refusal) (y : A) → r ≡ Ok y → OnOk r P → P
ok_of P r y is h = subst (λ x. OnOk x P) is h

-- only the last sync of a seal changes which checkpoint is sealed
keeps_sealed : (c : CheckpointPhase) (after : CheckpointState) (before : Checkpoints) → (c ≡ phase.Opened) ⊎ ((kept_in c after before).sealed ≡ before.sealed)
keeps_sealed phase.Idle after before = inr refl
keeps_sealed phase.Gate after before = inr refl
keeps_sealed phase.GateWritten after before = inr refl
keeps_sealed phase.GateSynced after before = inr refl
keeps_sealed phase.Ready after before = inr refl
keeps_sealed phase.Staged after before = inr refl
keeps_sealed phase.Header after before = inr refl
keeps_sealed phase.HeaderWritten after before = inr refl
keeps_sealed phase.HeaderSynced after before = inr refl
keeps_sealed phase.Opened after before = inl refl
keeps_sealed phase.Sealed after before = inr refl

-- ---- what a stop leaves

none_made : (h : History) (count : ℕ) → count ≡ h.first → fold_to h count ≡ h.opening
none_made h count e = let z : count - h.first ≡ 0 = omega (arith, e) in ap (λ (n : ℕ). map_after h.opening (take n h.commands)) z

module _ {D : Type 0} (states : D → List Files) (honest : D → Type 0) where
  pub stands_at : (n : ℕ) (o : Opening) (keeper : Keeper D) (p : Record) (files : Files) → IsUnmoved states honest n o keeper p → StopsFit (history_of p) keeper files → StandsAt o.first o.map files
  stands_at n o keeper p files is stops contents leaves =
      let front = stops contents leaves in
      let least = front.from_least in
      let most = front.to_most in
      let committed : p.opening.first + 0 ≡ keeper.log.committed = is.fits.counts.committed in
      let none : length keeper.staged.items ≡ 0 = ap length is.staged in
      let count : front.count ≡ p.opening.first = omega (arith, least, most, committed, none) in
      let at : StandsFor contents p.opening.first p.opening.map = record {
        found = front.stands.found;
        holds = front.stands.holds;
        prefix = front.stands.prefix ∙ count;
        map = front.stands.map ∙ none_made (history_of p) front.count count;
      } in
      subst (λ (x : Opening). StandsFor contents x.first x.map) is.opening at

  -- ---- from one call to the next

  pub through : (p : ℕ) (m : Map) (old mid new : D) → StandsThroughout states honest p m old mid → StandsThroughout states honest p m mid new → StandsThroughout states honest p m old new
  through p m old mid new one two = record {
    was_honest = λ h. one.was_honest (two.was_honest h);
    moments = λ h. goes_on states old mid new (StandsAt p m) (one.moments (two.was_honest h)) (two.moments h);
  }

  -- a call in another file leaves that of the sealed checkpoint
  other_file : (failures : D → ℕ) (number : ℕ) (call : Call) (keeper new : Keeper D) → Makes states failures number call keeper.disk new.disk → checkpoint_file keeper.sealed ≢ number → new.sealed ≡ keeper.sealed
      → sealed_stripes states new ≡ sealed_stripes states keeper
  other_file failures number call keeper new makes other sealed =
      ap (λ (g : ℕ). stripes_in (contents_of states new.disk (checkpoint_file g))) sealed
      ∙ ap (λ (past : List Files). stripes_in (now past (checkpoint_file keeper.sealed)).seen) makes.state
      ∙ ap (λ (file : File). stripes_in file.seen) (with_other number (called call (now (states keeper.disk) number)) (now (states keeper.disk)) (checkpoint_file keeper.sealed) other)

  module _ (n : ℕ) (o : Opening) (keeper : Keeper D) (p : Record) (is : IsUnmoved states honest n o keeper p) where
    -- no call was made
    pub stays : (new : D) → new ≡ keeper.disk → ((n : ℕ) (done : List Command) (p : Record) → Fits states honest n done keeper p → honest keeper.disk → StopsFit (history_of p) keeper (now (states keeper.disk)))
        → StandsThroughout states honest o.first o.map keeper.disk new
    stays new e stops = record {
      was_honest = λ h. subst honest e h;
      moments = λ h. no_call states keeper.disk new (StandsAt o.first o.map) (ap states e)
          (stands_at n o keeper p (now (states keeper.disk)) is (stops n [] p is.fits (subst honest e h)));
    }

    moved : (new : D) → (honest new → honest keeper.disk) → (honest keeper.disk → AtEachMoment states keeper.disk new (StopsFit (history_of p) keeper)) → StandsThroughout states honest o.first o.map keeper.disk new
    moved new was moments = record {
      was_honest = was;
      moments = λ h. weaker states keeper.disk new (StopsFit (history_of p) keeper) (StandsAt o.first o.map) (λ files fit. stands_at n o keeper p files is fit) (moments (was h));
    }

    -- ---- a call of the checkpoint

    module _ (failures : D → ℕ) (new : Keeper D) (r : Result CheckpointPhase Refusal) (no_next : keeper.next ≡ None)
        (rests : keeper.is_broken ≡ false → call_due keeper.next keeper.checkpoint ≡ None → (r ≡ Ok (phase_of keeper.checkpoint)) × (new ≡ keeper))
        (steps : keeper.is_broken ≡ false → (call : Call) (w : CheckpointState) → call_due keeper.next keeper.checkpoint ≡ Some call → keeper.checkpoint ≡ Some w → StepsCheckpoint states failures honest call w keeper new r) where
      data Due : Type 0 where
        due : (call : Call) (w : CheckpointState) → keeper.checkpoint ≡ Some w → StepsCheckpoint states failures honest call w keeper new r → Due
        none : call_due None keeper.checkpoint ≡ None → (r ≡ Ok (phase_of keeper.checkpoint)) → new ≡ keeper → Due

      with_next : (call : Option Call) → call_due None keeper.checkpoint ≡ call → call_due keeper.next keeper.checkpoint ≡ call
      with_next call e = ap (λ (x : Option LogState). call_due x keeper.checkpoint) no_next ∙ e

      is_due : Due
      is_due = by keeper.checkpoint refl
        where
          by : (c : Option CheckpointState) → keeper.checkpoint ≡ c → Due
          by None e =
              let d : call_due None keeper.checkpoint ≡ None = ap (λ (x : Option CheckpointState). call_due None x) e in
              let so = rests is.works (with_next None d) in
              none d so.0 so.1
          by (Some w) e = on (call_in w.phase w) refl
            where
              on : (c : Option Call) → call_in w.phase w ≡ c → Due
              on None f =
                  let d : call_due None keeper.checkpoint ≡ None = ap (λ (x : Option CheckpointState). call_due None x) e ∙ f in
                  let so = rests is.works (with_next None d) in
                  none d so.0 so.1
              on (Some call) f =
                  let d : call_due None keeper.checkpoint ≡ Some call = ap (λ (x : Option CheckpointState). call_due None x) e ∙ f in
                  due call w e (steps is.works call w (with_next (Some call) d) e)

      pub checkpoint_was_honest : honest new.disk → honest keeper.disk
      checkpoint_was_honest h = by is_due
        where
          by : Due → honest keeper.disk
          by (due call w e s) = s.was_honest h
          by (none d e same) = subst (λ (k : Keeper D). honest k.disk) same h

      pub checkpoint_stands : (honest keeper.disk → AtEachMoment states keeper.disk new.disk (StopsFit (history_of p) keeper)) → StandsThroughout states honest o.first o.map keeper.disk new.disk
      checkpoint_stands moments = moved new.disk checkpoint_was_honest moments

      -- a call that fails is counted, and one that succeeds isn't
      pub checkpoint_failed : IfErr r (λ refusal. (refusal ≡ Failed) × (failures new.disk ≡ failures keeper.disk + 1))
      checkpoint_failed = by r refl is_due
        where
          by : (x : Result CheckpointPhase Refusal) → r ≡ x → Due → IfErr x (λ refusal. (refusal ≡ Failed) × (failures new.disk ≡ failures keeper.disk + 1))
          by (Ok y) e d = tt
          by (Err refusal) e (due call w f s) =
              let so = err_of (λ refusal. (refusal ≡ Failed) × (checkpoints_of new ≡ record (checkpoints_of keeper) { writer = Some (record w { is_broken = true }) }) × Fails states failures (checkpoint_file w.generation) call keeper.disk new.disk) r refusal e s.err in
              (so.0, so.2.counted)
          by (Err refusal) e (none d f same) = absurd cc

      pub checkpoint_counted : (y : CheckpointPhase) → r ≡ Ok y → failures new.disk ≡ failures keeper.disk
      checkpoint_counted y e = by is_due
        where
          by : Due → failures new.disk ≡ failures keeper.disk
          by (due call w f s) =
              (subst (λ (x : Result CheckpointPhase Refusal). IfOk x (λ phase. (checkpoints_of new ≡ kept_in w.phase (state_after w.phase w) (checkpoints_of keeper)) × (phase ≡ (state_after w.phase w).phase)
              × Makes states failures (checkpoint_file w.generation) call keeper.disk new.disk)) e s.ok).2.counted
          by (none d f same) = ap (λ (k : Keeper D). failures k.disk) same

      no_change : (w : CheckpointState) (c : CheckpointPhase) (before : Checkpoints) → call_in c w ≡ None → before.writer ≡ Some w → kept_in c (state_after c w) before ≡ before
      no_change w c before e f = elim c as (λ c. call_in c w ≡ None → kept_in c (state_after c w) before ≡ before) [
        | phase.Idle ↦ λ e. ap (λ (x : Option CheckpointState). record before { writer = x }) (sym f)
        | phase.Gate ↦ λ e. absurd cc
        | phase.GateWritten ↦ λ e. absurd cc
        | phase.GateSynced ↦ λ e. absurd cc
        | phase.Ready ↦ λ e. ap (λ (x : Option CheckpointState). record before { writer = x }) (sym f)
        | phase.Staged ↦ λ e. absurd cc
        | phase.Header ↦ λ e. absurd cc
        | phase.HeaderWritten ↦ λ e. absurd cc
        | phase.HeaderSynced ↦ λ e. absurd cc
        | phase.Opened ↦ λ e. absurd cc
        | phase.Sealed ↦ λ e. ap (λ (x : Option CheckpointState). record before { writer = x }) (sym f)
      ] e

      unadvanced : (c : Option CheckpointState) → keeper.checkpoint ≡ c → call_due None c ≡ None → advanced_by c (checkpoints_of keeper) ≡ checkpoints_of keeper
      unadvanced None e d = refl
      unadvanced (Some w) e d = no_change w w.phase (checkpoints_of keeper) d e

      pub checkpoint_goes_on : (y : CheckpointPhase) → r ≡ Ok y → checkpoints_of new ≡ advanced_by keeper.checkpoint (checkpoints_of keeper)
      checkpoint_goes_on y e = by is_due
        where
          by : Due → checkpoints_of new ≡ advanced_by keeper.checkpoint (checkpoints_of keeper)
          by (due call w f s) =
              let so : checkpoints_of new ≡ kept_in w.phase (state_after w.phase w) (checkpoints_of keeper) =
              (subst (λ (x : Result CheckpointPhase Refusal). IfOk x (λ phase. (checkpoints_of new ≡ kept_in w.phase (state_after w.phase w) (checkpoints_of keeper)) × (phase ≡ (state_after w.phase w).phase)
              × Makes states failures (checkpoint_file w.generation) call keeper.disk new.disk)) e s.ok).0 in
              so ∙ ap (λ (x : Option CheckpointState). advanced_by x (checkpoints_of keeper)) (sym f)
          by (none d f same) = ap checkpoints_of same ∙ sym (unadvanced keeper.checkpoint refl d)

      -- a checkpoint that is sealed now has the keeper's stripes; else the sealed one is as it was
      abbrev Sealed : Type 0
      Sealed = ((new.sealed ≡ keeper.sealed) × (sealed_stripes states new ≡ sealed_stripes states keeper)) ⊎ (sealed_stripes states new ≡ keeper.stripes.count)

      uses_new : (w : CheckpointState) (sections : List Section) → keeper.checkpoint ≡ Some w → new.sealed ≡ w.generation → UsesCheckpoint (checkpoint.checkpoint_of w sections) (now (states new.disk)) → sealed_stripes states new ≡ keeper.stripes.count
      uses_new w sections f at uses =
          let contents : Contents = contents_of states new.disk in
          let found = uses.read.0 in
          let k = found.checkpoint in
          let same : k ≡ checkpoint.checkpoint_of w sections = uses.read.2 in
          let g : new.sealed ≡ k.generation = at ∙ sym (ap (λ (x : Checkpoint). x.generation) same) in
          let content : List ℕ = contents (checkpoint_file k.generation) in
          let of_writer : w.stripes ≡ n = subst (λ (c : Option CheckpointState). IfSome c (λ w. w.stripes ≡ n)) f is.fits.stripes.writer in
          ap (λ (x : ℕ). stripes_in (contents (checkpoint_file x))) g ∙ has_stripes (checkpoint_layout content) k content uses.read.1.checkpoint
          ∙ ap (λ (x : Checkpoint). x.stripes) same ∙ of_writer ∙ sym is.fits.stripes.count

      pub checkpoint_sealed : (y : CheckpointPhase) → r ≡ Ok y → honest new.disk
          → ((w : CheckpointState) (sections : List Section) → honest new.disk → keeper.next ≡ None → keeper.checkpoint ≡ Some w → w.phase ≡ phase.Opened → HasGiven keeper.checkpoint sections (now (states keeper.disk))
          → OnOk r (UsesCheckpoint (checkpoint.checkpoint_of w sections) (now (states new.disk)))) → Sealed
      checkpoint_sealed y e h uses = by is_due
        where
          by : Due → Sealed
          by (none d f same) = inl (ap (λ (k : Keeper D). k.sealed) same, ap (λ (k : Keeper D). sealed_stripes states k) same)
          by (due call w f s) =
              let ok = subst (λ (x : Result CheckpointPhase Refusal). IfOk x (λ phase. (checkpoints_of new ≡ kept_in w.phase (state_after w.phase w) (checkpoints_of keeper)) × (phase ≡ (state_after w.phase w).phase)
              × Makes states failures (checkpoint_file w.generation) call keeper.disk new.disk)) e s.ok in
              let front : HoldsFor (history_of p) keeper (now (states keeper.disk)) = is.fits.stores.works is.works (s.was_honest h) in
              let place : File = now (states keeper.disk) (checkpoint_file (keeper.sealed + 1)) in
              let writes : Writes w (store_of keeper) front.held place = subst (λ (c : Option CheckpointState). WriterStands c (store_of keeper) front.held place) f front.stands.kept.writer in
              let generation : w.generation ≡ keeper.sealed + 1 = writes.generation in
              elim (keeps_sealed w.phase (state_after w.phase w) (checkpoints_of keeper)) [
                | inl last ↦ (
                    let given : HasGiven (Some w) front.held.sections (now (states keeper.disk)) = (front.held.other, subst (λ (g : ℕ). checkpoint.Stands w front.held.other front.held.sections (now (states keeper.disk) (checkpoint_file g))) (sym generation) writes.stands) in
                    let used = ok_of (UsesCheckpoint (checkpoint.checkpoint_of w front.held.sections) (now (states new.disk))) r y e
                    (uses w front.held.sections h no_next f last (subst (λ (c : Option CheckpointState). HasGiven c front.held.sections (now (states keeper.disk))) (sym f) given)) in
                    let at : new.sealed ≡ w.generation = ap (λ (c : Checkpoints). c.sealed) ok.0 ∙ ap (λ (c : CheckpointPhase). (kept_in c (state_after c w) (checkpoints_of keeper)).sealed) last in
                    inr (uses_new w front.held.sections f at used)
                    )
                | inr same ↦ (
                    let at : new.sealed ≡ keeper.sealed = ap (λ (c : Checkpoints). c.sealed) ok.0 ∙ same in
                    inl (at, other_file failures (checkpoint_file w.generation) call keeper new ok.2 (λ x. absurd (omega (arith, x, generation))) at)
                    )
              ]

      pub checkpoint_unmoved : (y : CheckpointPhase) → r ≡ Ok y → (OnOk r (new.is_broken ≡ false)) → Fits states honest n [] new p
          → new ≡ record keeper { disk = new.disk; sealed = new.sealed; checkpoint = new.checkpoint; must_close = new.must_close; is_broken = new.is_broken } → IsUnmoved states honest n o new p
      checkpoint_unmoved y e works fits same = record {
        fits = fits;
        opening = is.opening;
        staged = ap (λ (k : Keeper D). k.staged.items) same ∙ is.staged;
        rests = ap (λ (k : Keeper D). is_walking k.sweeper.walking) same ∙ is.rests;
        over = ap (λ (k : Keeper D). k.capture) same ∙ is.over;
        works = subst (λ (x : Result CheckpointPhase Refusal). OnOk x (new.is_broken ≡ false)) e works;
        published = ap (λ (k : Keeper D). k.published) same ∙ is.published;
      }

    -- ---- a call of the logs

    module _ (failures : D → ℕ) (new : Keeper D) (r : Result Phase Refusal)
        (rests : keeper.is_broken ≡ false → (due_of (logs_of keeper)).phase ≡ log_phase.Idle → (r ≡ Ok log_phase.Idle) × (new ≡ keeper))
        (steps : keeper.is_broken ≡ false → (due_of (logs_of keeper)).phase ≢ log_phase.Idle → StepsLogs states failures honest (logs_of keeper) (logs_of new) keeper.disk new.disk r) where
      data DueLog : Type 0 where
        due_log : StepsLogs states failures honest (logs_of keeper) (logs_of new) keeper.disk new.disk r → DueLog
        none_due : (due_of (logs_of keeper)).phase ≡ log_phase.Idle → (r ≡ Ok log_phase.Idle) → new ≡ keeper → DueLog

      log_due : DueLog
      log_due = by (due_of (logs_of keeper)).phase refl
        where
          moves : (x : Phase) → (due_of (logs_of keeper)).phase ≡ x → (x ≡ log_phase.Idle → ⊥) → DueLog
          moves x e other = due_log (steps is.works (λ i. other (sym e ∙ i)))

          by : (x : Phase) → (due_of (logs_of keeper)).phase ≡ x → DueLog
          by log_phase.Idle e = let so = rests is.works e in none_due e so.0 so.1
          by log_phase.Header e = moves log_phase.Header e (λ i. absurd cc)
          by log_phase.HeaderWritten e = moves log_phase.HeaderWritten e (λ i. absurd cc)
          by log_phase.Staged e = moves log_phase.Staged e (λ i. absurd cc)
          by log_phase.Written e = moves log_phase.Written e (λ i. absurd cc)
          by log_phase.Synced e = moves log_phase.Synced e (λ i. absurd cc)
          by log_phase.Opened e = moves log_phase.Opened e (λ i. absurd cc)

      pub logs_stand : (honest keeper.disk → AtEachMoment states keeper.disk new.disk (StopsFit (history_of p) keeper)) → StandsThroughout states honest o.first o.map keeper.disk new.disk
      logs_stand moments = moved new.disk (by log_due) moments
        where
          by : DueLog → honest new.disk → honest keeper.disk
          by (due_log s) h = s.was_honest h
          by (none_due d e same) h = subst (λ (k : Keeper D). honest k.disk) same h

      pub logs_failed : IfErr r (λ refusal. (refusal ≡ Failed) × (failures new.disk ≡ failures keeper.disk + 1))
      logs_failed = by r refl log_due
        where
          by : (x : Result Phase Refusal) → r ≡ x → DueLog → IfErr x (λ refusal. (refusal ≡ Failed) × (failures new.disk ≡ failures keeper.disk + 1))
          by (Ok y) e d = tt
          by (Err refusal) e (due_log s) =
              let so = err_of (λ refusal. (refusal ≡ Failed) × (logs_of new ≡ broken (logs_of keeper)) × Fails states failures (log_file (due_of (logs_of keeper)).generation) s.call keeper.disk new.disk) r refusal e s.err in
              (so.0, so.2.counted)
          by (Err refusal) e (none_due d f same) = absurd cc

      pub logs_counted : (y : Phase) → r ≡ Ok y → failures new.disk ≡ failures keeper.disk
      logs_counted y e = by log_due
        where
          by : DueLog → failures new.disk ≡ failures keeper.disk
          by (due_log s) =
              (subst (λ (x : Result Phase Refusal). IfOk x (λ phase. (logs_of new ≡ stepped (logs_of keeper)) × (phase ≡ (due_of (logs_of new)).phase)
              × Makes states failures (log_file (due_of (logs_of keeper)).generation) s.call keeper.disk new.disk)) e s.ok).2.counted
          by (none_due d f same) = ap (λ (k : Keeper D). failures k.disk) same

      -- if none is due, the logs are the same after it
      idle_log : (l : LogState) (phase : Phase) → l.phase ≡ phase → phase ≡ log_phase.Idle → log_after phase l ≡ l
      idle_log l log_phase.Idle e f = refl
      idle_log l log_phase.Header e f = absurd cc
      idle_log l log_phase.HeaderWritten e f = absurd cc
      idle_log l log_phase.Staged e f = absurd cc
      idle_log l log_phase.Written e f = absurd cc
      idle_log l log_phase.Synced e f = absurd cc
      idle_log l log_phase.Opened e f = absurd cc

      idle_end : (l next : LogState) (phase : Phase) → phase ≡ log_phase.Idle → ended_in phase l next ≡ record { newest = l; next = Some next }
      idle_end l next log_phase.Idle f = refl
      idle_end l next log_phase.Header f = absurd cc
      idle_end l next log_phase.HeaderWritten f = absurd cc
      idle_end l next log_phase.Staged f = absurd cc
      idle_end l next log_phase.Written f = absurd cc
      idle_end l next log_phase.Synced f = absurd cc
      idle_end l next log_phase.Opened f = absurd cc

      idle_next : (l next : LogState) (phase : Phase) → next.phase ≡ phase → (due_in phase l next).phase ≡ log_phase.Idle → rotated_in phase l next ≡ record { newest = l; next = Some next }
      idle_next l next log_phase.Header e f = absurd (let x : log_phase.Header ≡ log_phase.Idle = sym e ∙ f in cc)
      idle_next l next log_phase.HeaderWritten e f = absurd (let x : log_phase.HeaderWritten ≡ log_phase.Idle = sym e ∙ f in cc)
      idle_next l next log_phase.Idle e f = idle_end l next l.phase f
      idle_next l next log_phase.Staged e f = idle_end l next l.phase f
      idle_next l next log_phase.Written e f = idle_end l next l.phase f
      idle_next l next log_phase.Synced e f = idle_end l next l.phase f
      idle_next l next log_phase.Opened e f = idle_end l next l.phase f

      unstepped : (l : LogState) (next : Option LogState) → (due_by l next).phase ≡ log_phase.Idle → stepped_by l next ≡ record { newest = l; next = next }
      unstepped l None e = ap (λ (x : LogState). record { newest = x; next = None }) (idle_log l l.phase refl e)
      unstepped l (Some next) e = idle_next l next next.phase refl e

      pub logs_go_on : (y : Phase) → r ≡ Ok y → logs_of new ≡ stepped (logs_of keeper)
      logs_go_on y e = by log_due
        where
          by : DueLog → logs_of new ≡ stepped (logs_of keeper)
          by (due_log s) = (subst (λ (x : Result Phase Refusal). IfOk x (λ phase. (logs_of new ≡ stepped (logs_of keeper)) × (phase ≡ (due_of (logs_of new)).phase)
              × Makes states failures (log_file (due_of (logs_of keeper)).generation) s.call keeper.disk new.disk)) e s.ok).0
          by (none_due d f same) = ap logs_of same ∙ sym (unstepped keeper.log keeper.next d)

      -- no call of a log is in a file of checkpoints
      pub logs_keep : (y : Phase) → r ≡ Ok y → new.sealed ≡ keeper.sealed → sealed_stripes states new ≡ sealed_stripes states keeper
      logs_keep y e sealed = by log_due
        where
          by : DueLog → sealed_stripes states new ≡ sealed_stripes states keeper
          by (due_log s) =
              let makes = (subst (λ (x : Result Phase Refusal). IfOk x (λ phase. (logs_of new ≡ stepped (logs_of keeper)) × (phase ≡ (due_of (logs_of new)).phase)
              × Makes states failures (log_file (due_of (logs_of keeper)).generation) s.call keeper.disk new.disk)) e s.ok).2 in
              other_file failures (log_file (due_of (logs_of keeper)).generation) s.call keeper new makes (λ x. absurd (omega (arith, x))) sealed
          by (none_due d f same) = ap (λ (k : Keeper D). sealed_stripes states k) same

      -- nothing is staged, and no walk is under way
      past_staged : (next : Option LogState) (x : Phase) (old new : Sweeper) (staged left : List Entry) → IsPast next x old staged new left → staged ≡ [] → left ≡ []
      past_staged None log_phase.Opened old new staged left h e = h.1
      past_staged None log_phase.Idle old new staged left h e = h.1 ∙ e
      past_staged None log_phase.Header old new staged left h e = h.1 ∙ e
      past_staged None log_phase.HeaderWritten old new staged left h e = h.1 ∙ e
      past_staged None log_phase.Staged old new staged left h e = h.1 ∙ e
      past_staged None log_phase.Written old new staged left h e = h.1 ∙ e
      past_staged None log_phase.Synced old new staged left h e = h.1 ∙ e
      past_staged (Some next) x old new staged left h e = h.1 ∙ e

      past_walking : (next : Option LogState) (x : Phase) (old new : Sweeper) (staged left : List Entry) → IsPast next x old staged new left → new.walking ≡ old.walking
      past_walking None log_phase.Opened old new staged left h = ap (λ (s : Sweeper). s.walking) h.0
      past_walking None log_phase.Idle old new staged left h = ap (λ (s : Sweeper). s.walking) h.0
      past_walking None log_phase.Header old new staged left h = ap (λ (s : Sweeper). s.walking) h.0
      past_walking None log_phase.HeaderWritten old new staged left h = ap (λ (s : Sweeper). s.walking) h.0
      past_walking None log_phase.Staged old new staged left h = ap (λ (s : Sweeper). s.walking) h.0
      past_walking None log_phase.Written old new staged left h = ap (λ (s : Sweeper). s.walking) h.0
      past_walking None log_phase.Synced old new staged left h = ap (λ (s : Sweeper). s.walking) h.0
      past_walking (Some next) x old new staged left h = ap (λ (s : Sweeper). s.walking) h.0

      none_done : (x : Result Phase Refusal) (phase : Phase) (staged : List Entry) → staged ≡ [] → done_after x phase [] staged ≡ []
      none_done (Ok y) log_phase.Opened staged e = ap commands_of e
      none_done (Ok y) log_phase.Idle staged e = refl
      none_done (Ok y) log_phase.Header staged e = refl
      none_done (Ok y) log_phase.HeaderWritten staged e = refl
      none_done (Ok y) log_phase.Staged staged e = refl
      none_done (Ok y) log_phase.Written staged e = refl
      none_done (Ok y) log_phase.Synced staged e = refl
      none_done (Err y) phase staged e = refl

      pub logs_unmoved : (y : Phase) → r ≡ Ok y → OnOk r (new.is_broken ≡ false) → OnOk r (IsPast keeper.next keeper.log.phase keeper.sweeper keeper.staged.items new.sweeper new.staged.items)
          → Fits states honest n (done_after r keeper.log.phase [] keeper.staged.items) new p
          → new ≡ record keeper { disk = new.disk; log = new.log; next = new.next; sweeper = new.sweeper; staged = new.staged; is_broken = new.is_broken } → IsUnmoved states honest n o new p
      logs_unmoved y e works hand fits same =
          let past = ok_of (IsPast keeper.next keeper.log.phase keeper.sweeper keeper.staged.items new.sweeper new.staged.items) r y e hand in
          record {
            fits = subst (λ (done : List Command). Fits states honest n done new p) (none_done r keeper.log.phase keeper.staged.items is.staged) fits;
            opening = is.opening;
            staged = past_staged keeper.next keeper.log.phase keeper.sweeper new.sweeper keeper.staged.items new.staged.items past is.staged;
            rests = ap is_walking (past_walking keeper.next keeper.log.phase keeper.sweeper new.sweeper keeper.staged.items new.staged.items past) ∙ is.rests;
            over = ap (λ (k : Keeper D). k.capture) same ∙ is.over;
            works = ok_of (new.is_broken ≡ false) r y e works;
            published = ap (λ (k : Keeper D). k.published) same ∙ is.published;
          }

  -- no call was made since
  pub still : (p : ℕ) (m : Map) (old mid new : D) → StandsThroughout states honest p m old mid → new ≡ mid → StandsThroughout states honest p m old new
  still p m old mid new one e = subst (λ (d : D). StandsThroughout states honest p m old d) (sym e) one

  pub begun_unmoved : (n : ℕ) (o : Opening) (k : Keeper D) (p : Record) → IsUnmoved states honest n o k p → (new : Keeper D) → new ≡ record k { next = new.next; checkpoint = new.checkpoint } → Fits states honest n [] new p → IsUnmoved states honest n o new p
  begun_unmoved n o k p is new same fits = record {
    fits = fits;
    opening = is.opening;
    staged = ap (λ (x : Keeper D). x.staged.items) same ∙ is.staged;
    rests = ap (λ (x : Keeper D). is_walking x.sweeper.walking) same ∙ is.rests;
    over = ap (λ (x : Keeper D). x.capture) same ∙ is.over;
    works = ap (λ (x : Keeper D). x.is_broken) same ∙ is.works;
    published = ap (λ (x : Keeper D). x.published) same ∙ is.published;
  }
