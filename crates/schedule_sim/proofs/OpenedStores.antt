-- What an opening leaves of a store.
use Rattle.std.proofs.Common.{◌≡◌, ◌⊎◌, inl, inr, ℕ, ◌+◌, ◌-◌, ◌≤◌, nat_lt, nat_le, if◌then◌else◌, List, length, map, take, Bool, true, false, Option, None, Some, MatchBool, Vec, Global, refl, sym, ◌∙◌, ap, subst, arith}
use Rattle.std.specs.FinMap as finite
use Rattle.std.proofs.lemmas.Bool.Decides.{nat_tests}
use Rattle.std.proofs.lemmas.List.{ext_get_or, length-take-le}
use Rattle.map_types.specs.declared.refusals.Refusal.{Refusal}
use Rattle.map_types.specs.declared.refusals.Refusal.TheVariants as refusal
use Rattle.map_model.specs.Laws.{PartsMakeTheMap}
use Rattle.map_model.specs.Parts.{union_of}
use Rattle.map_model.specs.Steps.{fold_of}
use Rattle.java_hash.specs.declared.stripe_count.StripeCount.{StripeCount}
use Rattle.java_hash.proofs.StripeLaws.{some_stripe}
use Rattle.atomic_methods.specs.PartState.{PartState}
use Rattle.one_history.specs.Turns.{maps_of}
use Rattle.disk_model.specs.Files.{AreCoherent, Contents, File, Files, IsCoherent, Leaves, MayLeave, at_rest, now, synced}
use Rattle.disk_model.specs.Memory.{memory_failures}
use Rattle.disk_model.proofs.FileLemmas.{now_coherent}
use Rattle.file_pieces.specs.Counting.{Made, MadeAtMost}
use Rattle.store_layout.specs.Calls.{opening_calls}
use Rattle.store_layout.specs.Opening.{Holds, Opened, Refuses, StandsForFront, key_limit_of, map_of, newest_of, prefix_of}
use Rattle.flusher.specs.declared.keeper.Keeper.{Keeper}
use Rattle.recovery.specs.LogReading.{GoesOnIn, RefusesFor, contents_of}
use Rattle.recovery.specs.Opening.{IsOpenedAs}
use Rattle.recovery.specs.Syncing.{Stopped, SyncsAndLooks}
use Rattle.sim_rules.specs.declared.event.Event.TheVariants as event
use Rattle.sim_rules.specs.declared.outcome.MapEntry.{MapEntry}
use Rattle.sim_rules.specs.declared.outcome.Outcome.{Outcome}
use Rattle.sim_rules.specs.declared.outcome.Outcome.TheVariants as outcome
use Rattle.sim_rules.specs.Machine.{whole}
use Rattle.sim_rules.specs.World.{World, begun_by, seen_of}
use Rattle.sim_rules.specs.After.{after, after_with, synced_below, syncs_made, without_life}
use Rattle.sim_rules.specs.Cases.{Finds, HappensWith, MayTake, Meets, OpensFiles, entry_of, names_within}
use Rattle.sim_rules.specs.Fitting.{fits_with}
use Rattle.sim_rules.specs.Laws.{FrontIsFound, StandingFilesOpen}
use Rattle.sim_rules.specs.Sound.{IsFront}
use Rattle.schedule_sim.specs.declared.life.Life as sim
use Rattle.schedule_sim.specs.declared.store.Store.TheVariants.{Closed, Open}
use Rattle.schedule_sim.specs.declared.traced.Traced.{Traced}
use Rattle.schedule_sim.specs.Living.{IsLife}
use Rattle.schedule_sim.specs.Opening.{LastFails}
use Rattle.schedule_sim.specs.Storing.{DidStore, IsClosed, IsOpening}
use Rattle.schedule_sim.specs.Tracing.{traced_honest, traced_states}
use Rattle.schedule_sim.proofs.OpenedFiles.{HasFailed, Synced, all_synced, at_least, failed_leaves, syncs_and_looks}
use Rattle.schedule_sim.proofs.Stores.{nothing}

-- ---- what a stop leaves of files that were synced

settled : (there content : List ℕ) → MayLeave (at_rest there) content → content ≡ there
settled there content may = ext_get_or 0 content there (omega (arith, may.no_shorter, may.no_longer))
    (λ i l. may.same i (let beyond : nat_le (length there) i ≡ false = grind (arith, nat_tests, l, may.no_longer) in beyond))

pub leaves_seen : (file : File) → IsCoherent file → MayLeave file file.seen
leaves_seen file is = record { no_shorter = is.no_shorter; no_longer = is.no_longer; bytes = is.bytes; same = λ i none. refl }

before_by : (b : Bool) (file : File) (content : List ℕ) → IsCoherent file → MayLeave (if b then synced file else file) content → MayLeave file content
before_by true file content is may = subst (λ c. MayLeave file c) (sym (settled file.seen content may)) (leaves_seen file is)
before_by false file content is may = may

leaves_before : (n : ℕ) (files : Files) (contents : Contents) → AreCoherent files → Leaves (synced_below n files) contents → Leaves files contents
leaves_before n files contents are leaves number low = before_by (nat_lt number n) (files number) (contents number) (are number low) (leaves number low)

closed_coherent : (w : World) (least : ℕ) (old : Traced) → IsClosed w least old → AreCoherent w.files
closed_coherent w least old closed = subst AreCoherent (sym closed.files) (now_coherent (traced_states old) old.disk.coherent)

closed_after : (w : World) (least n : ℕ) (old new : Traced) → IsClosed w least old → now (traced_states new) ≡ synced_below n (now (traced_states old)) → IsClosed (without_life w (synced_below n w.files)) least new
closed_after w least n old new closed files = record {
  life = refl;
  files = ap (λ f. synced_below n f) closed.files ∙ sym files;
  reached = closed.reached;
  stops = λ contents leaves. closed.stops contents (leaves_before n w.files contents (closed_coherent w least old closed) leaves);
}

-- what is read stands for a front of the history
pub seen_stands : (w : World) (least : ℕ) (old : Traced) → IsClosed w least old → StandsForFront (whole w.history) least (length w.history) (seen_of w.files)
seen_stands w least old closed = closed.stops (seen_of w.files) (λ number low. leaves_seen (w.files number) (closed_coherent w least old closed number low))

-- ---- a refusal

meets_open : (w : World) (found : Opened) (stripes : StripeCount) (fails_at : Option ℕ) (x : Outcome) → w.life ≡ None → OpensFiles w found fails_at x → Meets w found (event.Open stripes fails_at) x
meets_open w found stripes fails_at x life opens =
    subst (λ o. MatchBool (fits_with o (event.Open stripes fails_at)) (HappensWith w o found (event.Open stripes fails_at) x) (x ≡ outcome.Skipped)) (sym life) opens

after_refused : (w : World) (found : Opened) (stripes : StripeCount) (fails_at : Option ℕ) (calls : ℕ) (e : Refusal) → w.life ≡ None
    → after w found (event.Open stripes fails_at) (outcome.NotOpened calls e) ≡ without_life w (synced_below (syncs_made e calls) w.files)
unfolding after
after_refused w found stripes fails_at calls e life = ap (λ o. after_with w o found (event.Open stripes fails_at) (outcome.NotOpened calls e)) life

refused_did : StandingFilesOpen → (w : World) (least : ℕ) (stripes : StripeCount) (fails_at : Option ℕ) (calls : ℕ) (e : Refusal) (old new : Traced) → IsClosed w least old
    → now (traced_states new) ≡ synced_below (syncs_made e calls) (now (traced_states old)) → OpensFiles w nothing fails_at (outcome.NotOpened calls e)
    → DidStore w least (event.Open stripes fails_at) (outcome.NotOpened calls e) (Closed new)
refused_did law w least stripes fails_at calls e old new closed files opens =
    let meets = meets_open w nothing stripes fails_at (outcome.NotOpened calls e) closed.life opens in
    let leaves = after_refused w nothing stripes fails_at calls e closed.life in
    let front = seen_stands w least old closed in
    let next : IsClosed (without_life w (synced_below (syncs_made e calls) w.files)) least new = closed_after w least (syncs_made e calls) old new closed files in
    record {
      found = nothing;
      meets = meets;
      answers = tt;
      front = tt;
      opens = law w front.count _ (event.Open stripes fails_at) (outcome.NotOpened calls e) _ front.stands (record { found = nothing; meets = meets; world = refl });
      within = tt;
      next = least;
      next_is = rw leaves refl;
      stands = rw leaves next;
    }

-- not more device calls were made than finding what the files hold takes
may_take : (w : World) (least calls : ℕ) (old new : Traced) → IsClosed w least old → length (traced_states old) + calls ≡ length (traced_states new)
    → ((found : Opened) → Holds (contents_of traced_states old) found → MadeAtMost traced_states (opening_calls (contents_of traced_states old) found) old new) → MayTake w calls
may_take w least calls old new closed made tried = λ found holds.
    let most = tried found (subst (λ files. Holds (seen_of files) found) closed.files holds) in
    subst (λ files. calls ≤ opening_calls (seen_of files) found) (sym closed.files) (omega (arith, made, most))

-- by the call that the event names
pub failed_did : StandingFilesOpen → (w : World) (least : ℕ) (stripes : StripeCount) (fails_at : Option ℕ) (calls : ℕ) (e : Refusal) (old new : Traced) → IsClosed w least old → e ≡ refusal.Failed
    → Stopped traced_states (λ (traced : Traced). memory_failures traced.disk) traced_honest 4 old new e → length (traced_states old) + calls ≡ length (traced_states new)
    → ((found : Opened) → Holds (contents_of traced_states old) found → MadeAtMost traced_states (opening_calls (contents_of traced_states old) found) old new)
    → fails_at ≡ Some calls → LastFails calls (traced_states new) → DidStore w least (event.Open stripes fails_at) (outcome.NotOpened calls e) (Closed new)
failed_did law w least stripes fails_at calls e old new closed failed stopped made tried named last =
    let left : HasFailed (traced_states old) (traced_states new) calls =
    failed_leaves traced_states (λ (traced : Traced). memory_failures traced.disk) traced_honest old new e calls stopped made last in
    refused_did law w least stripes fails_at calls e old new closed
    (left.files ∙ ap (λ r. synced_below (syncs_made r calls) (now (traced_states old))) (sym failed))
    (subst (λ r. OpensFiles w nothing fails_at (outcome.NotOpened calls r)) (sym failed) (left.some, named, may_take w least calls old new closed made tried))

syncs_all : (e : Refusal) (calls : ℕ) → (e ≡ refusal.Failed → ⊥) → syncs_made e calls ≡ 4
syncs_all refusal.Failed calls other = absurd (other refl)
syncs_all e calls other = refl

not_failed : (e : Refusal) (Reason : Type 0) → (e ≡ refusal.Failed → ⊥) → RefusesFor Reason e → (e ≡ refusal.NoMemory) ⊎ Reason
not_failed e Reason other (inl is) = absurd (other is)
not_failed e Reason other (inr reason) = reason

opens_refused : (w : World) (fails_at : Option ℕ) (calls : ℕ) (e : Refusal) → (e ≡ refusal.Failed → ⊥) → 4 ≤ calls → names_within fails_at calls ≡ false → (e ≡ refusal.NoMemory) ⊎ Refuses (seen_of w.files) e
    → MayTake w calls → OpensFiles w nothing fails_at (outcome.NotOpened calls e)
opens_refused w fails_at calls refusal.Failed other all none reason few = absurd (other refl)
opens_refused w fails_at calls e other all none reason few = (all, none, reason, few)

-- as the files are, or for want of memory
pub other_did : StandingFilesOpen → (w : World) (least : ℕ) (stripes : StripeCount) (fails_at : Option ℕ) (calls : ℕ) (e : Refusal) (old new : Traced) → IsClosed w least old → (e ≡ refusal.Failed → ⊥)
    → names_within fails_at calls ≡ false → length (traced_states old) + calls ≡ length (traced_states new)
    → ((found : Opened) → Holds (contents_of traced_states old) found → MadeAtMost traced_states (opening_calls (contents_of traced_states old) found) old new)
    → Stopped traced_states (λ (traced : Traced). memory_failures traced.disk) traced_honest 4 old new e
    → RefusesFor (Refuses (contents_of traced_states old) e) e → DidStore w least (event.Open stripes fails_at) (outcome.NotOpened calls e) (Closed new)
other_did law w least stripes fails_at calls e old new closed other none made tried stopped reason =
    let synced : Synced (traced_states old) (traced_states new) = all_synced traced_states (λ (traced : Traced). memory_failures traced.disk) traced_honest old new e other stopped in
    let reason' : RefusesFor (Refuses (seen_of w.files) e) e = subst (λ files. RefusesFor (Refuses (seen_of files) e) e) (sym closed.files) reason in
    refused_did law w least stripes fails_at calls e old new closed
    (synced.files ∙ ap (λ n. synced_below n (now (traced_states old))) (sym (syncs_all e calls other)))
    (opens_refused w fails_at calls e other (omega (arith, made, at_least (traced_states old) (traced_states new) synced)) none (not_failed e (Refuses (seen_of w.files) e) other reason')
    (may_take w least calls old new closed made tried))

-- ---- a life begins

abbrev opened_world : World → StripeCount → Opened → ℕ → World
opened_world w stripes found prefix = record { files = synced_below 4 w.files; history = take prefix w.history; life = Some (begun_by stripes.count (seen_of w.files) found) }

after_opened : (w : World) (found : Opened) (stripes : StripeCount) (fails_at : Option ℕ) (calls prefix : ℕ) (entries : Vec MapEntry Global) → w.life ≡ None
    → after w found (event.Open stripes fails_at) (outcome.Opened calls prefix entries) ≡ opened_world w stripes found prefix
unfolding after
after_opened w found stripes fails_at calls prefix entries life = ap (λ o. after_with w o found (event.Open stripes fails_at) (outcome.Opened calls prefix entries)) life

durable_found : (stripes : ℕ) (contents : Contents) (found : Opened) → prefix_of found ≡ (begun_by stripes contents found).durable
unfolding begun_by
durable_found stripes contents found = refl

-- The laws by which an opening is known.
pub record AreLaws : Type 0 where
  pub front : FrontIsFound
  pub parts : PartsMakeTheMap

pub opened_did : AreLaws → (w : World) (least : ℕ) (stripes : StripeCount) (fails_at : Option ℕ) (calls : ℕ) (old : Traced) (keeper : Keeper Traced) (parts : List PartState) (first limit : ℕ)
    (entries : Vec MapEntry Global) (life : sim.Life) → IsClosed w least old → names_within fails_at calls ≡ false → length (traced_states old) + calls ≡ length (traced_states keeper.disk)
    → ((found : Opened) → Holds (contents_of traced_states old) found → Made traced_states (opening_calls (contents_of traced_states old) found) old keeper.disk)
    → SyncsAndLooks traced_states (λ (traced : Traced). memory_failures traced.disk) traced_honest 4 0 old keeper.disk
    → IsOpenedAs (contents_of traced_states old) stripes.count keeper parts first limit → map entry_of entries.items ≡ finite.entries (union_of (maps_of parts))
    → ((w' : World) (contents : Contents) (found : Opened) → limit ≡ key_limit_of contents found → IsOpening w' stripes.count contents found keeper parts → IsLife w' life)
    → DidStore w least (event.Open stripes fails_at) (outcome.Opened calls first entries) (Open life)
opened_did laws w least stripes fails_at calls old keeper parts first limit entries life closed none made exact syncs opened entries_are begins =
    let found = opened.found in
    let holds = subst (λ files. Holds (seen_of files) found) (sym closed.files) opened.holds in
    let front : IsFront w least found = laws.front w least (length w.history) found holds (seen_stands w least old closed) in
    let union : union_of (maps_of parts) ≡ map_of found = ap union_of opened.divided.maps ∙ laws.parts stripes.count (map_of found) (some_stripe stripes.count stripes.allowed) in
    let finds : Finds w found first entries.items = record { holds = holds; prefix_is = opened.first_is; entries_are = entries_are ∙ ap (λ m. finite.entries m) union } in
    let leaves = after_opened w found stripes fails_at calls first entries closed.life in
    let synced : Synced (traced_states old) (traced_states keeper.disk) = syncs_and_looks traced_states (λ (traced : Traced). memory_failures traced.disk) traced_honest 0 old keeper.disk syncs in
    let limited : limit ≡ key_limit_of (seen_of w.files) found = subst (λ files. limit ≡ key_limit_of (seen_of files) found) (sym closed.files) opened.limit_is in
    let begun : IsLife (opened_world w stripes found first) life = begins (opened_world w stripes found first) (seen_of w.files) found limited (record {
      life = refl;
      files = ap (λ f. synced_below 4 f) closed.files ∙ sym synced.files;
      long = length-take-le first w.history (subst (λ n. n ≤ length w.history) (sym opened.first_is) front.within) ∙ opened.first_is;
      map = front.map ∙ ap (λ n. fold_of (take n w.history)) (sym opened.first_is);
      divided = opened.divided;
      sealed = opened.sealed;
      log = subst (λ files. GoesOnIn (seen_of files) (newest_of found) keeper.log) (sym closed.files) opened.log;
    }) in
    record {
      found = found;
      meets = meets_open w found stripes fails_at (outcome.Opened calls first entries) closed.life
          (subst (λ files. calls ≡ opening_calls (seen_of files) found) (sym closed.files) (omega (arith, made, exact found opened.holds)), none, finds);
      answers = tt;
      front = front;
      opens = tt;
      within = tt;
      next = prefix_of found;
      next_is = rw leaves tt;
      stands = rw leaves (begun, durable_found stripes.count (seen_of w.files) found);
    }
