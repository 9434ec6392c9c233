-- What holds of a keeper once zeros are written ahead.
use Rattle.std.proofs.Common.{◌≡◌, ◌⊎◌, inl, inr, ℕ, List, Option, Some, None, Bool, true, false, Result, Ok, Err, OnOk, IfErr, sym, ◌∙◌, ap, subst}
use Rattle.disk_model.specs.Files.{Files, now}
use Rattle.disk_model.specs.Moments.{AtEachMoment}
use Rattle.map_types.specs.declared.commands.Command.{Command}
use Rattle.map_types.specs.declared.refusals.Refusal.{Refusal}
use Rattle.map_types.specs.declared.refusals.Refusal.TheVariants.{Failed}
use Rattle.ticket_order.specs.declared.stripe.Entry.{Entry}
use Rattle.ticket_order.specs.declared.record.Record.{Record}
use Rattle.ticket_order.specs.Legality.{history_of}
use Rattle.gate_log.specs.States.{LogState}
use Rattle.gate_log.specs.Ahead.{WritesAhead}
use Rattle.store_invariant.specs.States.{StoreState}
use Rattle.store_invariant.specs.Laws.{LogStays, LogStepsStop, StoresStop}
use Rattle.flusher.specs.declared.keeper.Keeper.{Keeper}
use Rattle.flusher.specs.Rotating.{MayRotate}
use Rattle.flusher.specs.Fitting.{Fits, HoldsFor, IsEmptyIn, IsUnbroken, StopsFit, store_of}
use Rattle.flusher.proofs.LogsAfter.{stores_on}
use Rattle.flusher.proofs.NewestSteps.{log_fails}
use Rattle.flusher.proofs.EndSteps.{turn_same}
use Rattle.flusher.proofs.Advancing.{same_hand, still_moments}
use Rattle.flusher.proofs.Committing.{IsSame, fits_gone, stops_by}
use Rattle.flusher.proofs.Keys.{keys_kept}
use Rattle.flusher.proofs.StoreSteps.{ahead_goes, kept_moments}

-- other zeros are to be written
pub fits_with : {D : Type 0} (states : D → List Files) (honest : D → Type 0) (n : ℕ) (done : List Command) (keeper : Keeper D) (count : ℕ) (p : Record) → Fits states honest n done keeper p
    → Fits states honest n done (record keeper { zeros = count }) p
fits_with {D} states honest n done keeper count p f = record {
  stands = f.stands;
  counts = record {
    committed = f.counts.committed;
    next = f.counts.next;
    count = f.counts.count;
    tickets = f.counts.tickets;
    fits = f.counts.fits;
    empty = f.counts.empty;
  };
  tells = record { published = f.tells.published; durable = f.tells.durable; failed = f.tells.failed };
  stripes = record { count = f.stripes.count; writer = f.stripes.writer };
  rotation = f.rotation;
  keys = f.keys;
  stores = record { unbroken = f.stores.unbroken; works = f.stores.works; stopped = f.stores.stopped };
}

-- whether the newest log has failed says nothing of its rotation
rotation_failed : (next : Option LogState) (log : LogState) (es : List Entry) → MayRotate next log es → MayRotate next (record log { is_broken = true }) es
rotation_failed None log es k = k
rotation_failed (Some next) log es k = record { is = k.is; turn = turn_same next.phase log k.turn; ready = k.ready; none_staged = k.none_staged }

-- What a call that may write ahead says.
pub record TriesAhead {D : Type 0} (states : D → List Files) (failures : D → ℕ) (honest : D → Type 0) (old new : Keeper D) (result : Result (Unit {0}) Refusal) : Type 0 where
  pub same : new ≡ record old { disk = new.disk; log = new.log; is_broken = new.is_broken }
  pub works : old.is_broken ≡ false
  pub ahead : ((result ≡ Ok tt) × (new ≡ old)) ⊎ WritesAhead states failures honest old.zeros old.log new.log old.disk new.disk result
  pub ok : OnOk result (new.is_broken ≡ false)
  pub err : IfErr result (λ refusal. (refusal ≡ Failed) × (new.is_broken ≡ true))

module _ {D : Type 0} (states : D → List Files) (failures : D → ℕ) (honest : D → Type 0) (n : ℕ) (done : List Command) (old new : Keeper D) (p : Record) (f : Fits states honest n done old p) where
  abbrev Written : Result (Unit {0}) Refusal → Type 0
  Written result = WritesAhead states failures honest old.zeros old.log new.log old.disk new.disk result

  -- they were written, or the device call failed
  moments : (result : Result (Unit {0}) Refusal) → LogStepsStop → old.is_broken ≡ false → Written result → honest old.disk → AtEachMoment states old.disk new.disk (StopsFit (history_of p) old)
  moments result law works a h = kept_moments states (history_of p) (store_of old) old.staged.items old.must_close old.disk new.disk law (f.stores.works works h) a.any_moment

  moments_by : (result : Result (Unit {0}) Refusal) → StoresStop → LogStepsStop → old.is_broken ≡ false → honest old.disk → ((result ≡ Ok tt) × (new ≡ old)) ⊎ Written result
      → AtEachMoment states old.disk new.disk (StopsFit (history_of p) old)
  moments_by result still law works h (inl none) =
      still_moments states old.disk new.disk (StopsFit (history_of p) old) (ap (λ (k : Keeper D). k.disk) none.1) (stops_by states honest n done old p still f h)
  moments_by result still law works h (inr a) = moments result law works a h

  pub ahead_moments : (result : Result (Unit {0}) Refusal) → StoresStop → LogStepsStop → honest old.disk → TriesAhead states failures honest old new result → AtEachMoment states old.disk new.disk (StopsFit (history_of p) old)
  ahead_moments result still law h s = moments_by result still law s.works h s.ahead

  same_next : new ≡ record old { disk = new.disk; log = new.log; is_broken = new.is_broken } → IsSame old new
  same_next same =
      same_hand old new (same ∙ ap (λ (x : Option LogState). let k : Keeper D = record old { disk = new.disk; log = new.log; next = x; is_broken = new.is_broken } in k) (sym (ap (λ (k : Keeper D). k.next) same)))

  fits_on : LogStays → TriesAhead states failures honest old new (Ok tt) → Written (Ok tt) → Fits states honest n done new p
  fits_on law s a =
      let log : new.log ≡ old.log = a.ok.0 in
      let is : new ≡ record old { disk = new.disk } =
      s.same ∙ ap (λ (x : LogState). let k : Keeper D = record old { disk = new.disk; log = x; is_broken = new.is_broken } in k) log
      ∙ ap (λ (b : Bool). let k : Keeper D = record old { disk = new.disk; is_broken = b } in k) (s.ok ∙ sym s.works) in
      let state : store_of new ≡ store_of old = ap (λ (k : Keeper D). store_of k) is in
      let holds : honest new.disk → HoldsFor (history_of p) (record old { disk = new.disk }) (now (states new.disk)) =
      λ h. ahead_goes states failures honest (history_of p) (store_of old) old.staged.items old.must_close old.zeros new.log old.disk new.disk law (f.stores.works s.works (a.was_honest h)) a in
      fits_gone states honest n done old new p f (record {
        same = same_next s.same;
        sweeper = ap (λ (k : Keeper D). k.sweeper) is;
        staged = ap (λ (k : Keeper D). k.staged.items) is;
        committed = ap (λ (x : LogState). x.committed) log;
        count = ap (λ (x : LogState). x.count) log;
        empty = subst (λ (x : LogState). IsEmptyIn x.phase old.staged.items) (sym log) f.counts.empty;
        rotation = subst (λ (x : LogState). MayRotate new.next x old.staged.items) (sym log) (subst (λ (o : Option LogState). MayRotate o old.log old.staged.items) (sym (ap (λ (k : Keeper D). k.next) is)) f.rotation);
        keys = keys_kept old.log new.log p (ap (λ (x : LogState). x.version) log) f.keys;
        stores = stores_on states honest new p s.ok (subst (λ (x : StoreState). IsUnbroken x) (sym state) (f.stores.unbroken s.works))
            (λ h. subst (λ (k : Keeper D). HoldsFor (history_of p) k (now (states new.disk))) (sym is) (holds h));
      })

  fits_off : (e : Refusal) → LogStepsStop → TriesAhead states failures honest old new (Err e) → Written (Err e) → Fits states honest n done new p
  fits_off e law s a =
      let next : new.next ≡ old.next = ap (λ (k : Keeper D). k.next) s.same in
      log_fails states failures honest n done old new p e law f (same_next s.same) s.works s.err.1 (ap (λ (k : Keeper D). k.sweeper) s.same) (ap (λ (k : Keeper D). k.staged) s.same) a.err.1
      (subst (λ (o : Option LogState). MayRotate o (record old.log { is_broken = true }) old.staged.items) (sym next) (rotation_failed old.next old.log old.staged.items f.rotation)) a.was_honest
      (λ h. moments (Err e) law s.works a h)

  fits_written : (result : Result (Unit {0}) Refusal) → LogStays → LogStepsStop → TriesAhead states failures honest old new result → Written result → Fits states honest n done new p
  fits_written (Ok x) on stop s a = fits_on on s a
  fits_written (Err e) on stop s a = fits_off e stop s a

  fits_by : (result : Result (Unit {0}) Refusal) → LogStays → LogStepsStop → TriesAhead states failures honest old new result → ((result ≡ Ok tt) × (new ≡ old)) ⊎ Written result → Fits states honest n done new p
  fits_by result on stop s (inl none) = subst (λ (k : Keeper D). Fits states honest n done k p) (sym none.1) f
  fits_by result on stop s (inr a) = fits_written result on stop s a

  pub fits_ahead : (result : Result (Unit {0}) Refusal) → LogStays → LogStepsStop → TriesAhead states failures honest old new result → Fits states honest n done new p
  fits_ahead result on stop s = fits_by result on stop s s.ahead
