-- A rotation is committed, after which the newest log is in the newest version.
use Rattle.std.proofs.Common.{◌≡◌, ◌⊎◌, inl, inr, ℕ, ◌+◌, List, [], length, Option, None, Some, refl, sym, ap, subst, ◌∙◌}
use Rattle.disk_model.specs.Files.{Files}
use Rattle.ticket_order.specs.declared.record.Record.{Record}
use Rattle.java_hash.specs.declared.stripe_count.StripeCount.{StripeCount}
use Rattle.atomic_methods.specs.PartState.{PartState}
use Rattle.one_history.specs.declared.book.Book.{Book}
use Rattle.one_history.specs.Turns.{at_start, opening_of, record_of}
use Rattle.flusher.specs.Fitting.{Fits, IsUnused}
use Rattle.flusher.specs.KeeperSteps.{is_walking}
use Rattle.recovery.specs.Opening.{IsAtStart}
use Rattle.gate_log.specs.States.{LogState, begun}
use Rattle.store_layout.specs.declared.log_phase.Phase.TheVariants.{Idle}
use Rattle.flusher.specs.declared.keeper.Keeper.{Keeper}
use Rattle.flusher.specs.Rotating.{Logs, logs_of}
use Rattle.checkpoint_walk.specs.Checkpointing.{Begins}
use Rattle.recovery.specs.Upgrading.{HasRotated, IsUnmovedWith, logs_after}

-- six calls: the header is written and synced, and the end frame committed
six : (newest : LogState) (generation low : ℕ) → logs_after 6 (record { newest = newest; next = Some (begun generation low) }) ≡ record { newest = record (begun generation low) { phase = Idle }; next = None }
six newest generation low = refl

pub rotated : {D : Type 0} (k k1 k2 : Keeper D) → Begins k k1 → k.log.generation ≡ k.sealed → k1 ≡ record k { next = k1.next; checkpoint = k1.checkpoint } → logs_of k2 ≡ logs_after 6 (logs_of k1) → k2.checkpoint ≡ k1.checkpoint
    → k2.sealed ≡ k1.sealed → HasRotated k2
rotated k k1 k2 begins at same is checkpoint sealed =
    let new = begins.rotates at in
    let all = is ∙ ap (λ (next : Option LogState). logs_after 6 (record { newest = k1.log; next = next })) new.0 ∙ six k1.log (k.sealed + 1) k.log.committed in
    let log : k2.log ≡ record (begun (k.sealed + 1) k.log.committed) { phase = Idle } = ap (λ (l : Logs). l.newest) all in
    let s : k2.sealed ≡ k.sealed = sealed ∙ ap (λ (x : Keeper _). x.sealed) same in
    let c : k2.log.committed ≡ k.log.committed = ap (λ (l : LogState). l.committed) log in
    record {
      log = log ∙ ap (λ (n : ℕ). record (begun (n + 1) k.log.committed) { phase = Idle }) (sym s) ∙ ap (λ (n : ℕ). record (begun (k2.sealed + 1) n) { phase = Idle }) (sym c);
      next = ap (λ (l : Logs). l.next) all;
      low = k.log.committed;
      stripes = k.stripes.count;
      must_close = k.must_close;
      checkpoint = checkpoint ∙ new.1;
      generation = k.sealed + 1;
    }

pub is_after : (generation sealed : ℕ) → (generation ≡ sealed) ⊎ (generation ≡ sealed + 1) → (generation ≡ sealed → ⊥) → generation ≡ sealed + 1
is_after generation sealed (inl same) other = absurd (other same)
is_after generation sealed (inr next) other = next

-- ---- the words of an upgrade

module _ {D : Type 0} (states : D → List Files) (honest : D → Type 0) (keeper : Keeper D) (stripes : StripeCount) (n first limit : ℕ) (parts : List PartState) (start : IsAtStart stripes first keeper) (one_each : length parts ≡ n)
    (fits : (p : Record) → p.opening ≡ opening_of first parts limit → IsUnused first limit p → Fits states honest n [] keeper p) where
  abbrev book : Book
  book = at_start first parts limit 0

  pub starts : IsUnmovedWith states honest (opening_of first parts limit) keeper 0 book
  starts = record {
    unmoved = record {
      fits = subst (λ (m : ℕ). Fits states honest m [] keeper (record_of 0 book)) (sym one_each) (fits (record_of 0 book) refl (record { opening = refl; limit = refl; keeper = refl; free = refl; none_taken = refl; published = refl; works = refl }));
      opening = refl;
      staged = start.staged;
      rests = ap is_walking start.walking;
      over = start.capture;
      works = start.working;
      published = start.published;
    };
    first = refl;
    one = refl;
    none_made = refl;
  }

  pub starts_at : (j : ℕ) (b : Book) → j ≡ 0 → b ≡ book → IsUnmovedWith states honest (opening_of first parts limit) keeper j b
  starts_at j b e is = subst (λ (x : Book). IsUnmovedWith states honest (opening_of first parts limit) keeper j x) (sym is) (subst (λ (x : ℕ). IsUnmovedWith states honest (opening_of first parts limit) keeper x book) (sym e) starts)
