-- A life at its beginning.
use Rattle.std.proofs.Common.{◌≡◌, ℕ, ◌+◌, ◌-◌, ◌<◌, List, [], length, replicate, None, Some, Option, refl, sym, ◌∙◌, ap, subst, arith}
use Rattle.std.proofs.lemmas.List.{get_or-replicate, length-replicate, length-append}
use Rattle.java_hash.specs.declared.stripe_count.StripeCount.{StripeCount}
use Rattle.map_model.specs.Laws.{PartsMakeTheMap}
use Rattle.map_model.specs.Parts.{union_of}
use Rattle.map_model.specs.Steps.{fold_of}
use Rattle.atomic_methods.specs.PartState.{PartState}
use Rattle.ticket_order.specs.declared.record.Opening.{Opening}
use Rattle.ticket_order.specs.declared.record.Record.{Record}
use Rattle.one_history.specs.declared.book.Book.{Book}
use Rattle.one_history.specs.OneHistory.{HoldApart, IsOneHistory}
use Rattle.one_history.specs.Turns.{at_start, maps_of, opening_of, record_of}
use Rattle.one_history.proofs.Starts.{keeper as keepers, keeper_at}
use Rattle.flusher.specs.declared.keeper.Keeper.{Keeper}
use Rattle.flusher.specs.Fitting.{Fits, IsUnused}
use Rattle.checkpoint_walk.specs.Walking.{FitsBy}
use Rattle.store_layout.specs.Checkpoints.{Checkpoint}
use Rattle.store_layout.specs.Logs.{Batch, commands_in}
use Rattle.store_layout.specs.Opening.{Opened, key_limit_of, logged_by, newest_by, newest_of, prefix_of}
use Rattle.disk_model.specs.Files.{Contents, Leaves, now}
use Rattle.recovery.specs.Formatting.{AtStops, IsNew}
use Rattle.store_layout.specs.FirstFiles.{new_files, old_files}
use Rattle.recovery.specs.Dividing.{ArePartsOf}
use Rattle.recovery.specs.Opening.{IsAtStart}
use Rattle.sim_rules.specs.World.{World, old_start, start}
use Rattle.sim_rules.specs.Laws.{SoundAt}
use Rattle.sim_workers.specs.Laws.{LifeBegins}
use Rattle.sim_keeper.specs.Laws.{OpeningStands}
use Rattle.sim_keeper.specs.KeeperInWorld.{HasKeeper}
use Rattle.schedule_sim.specs.declared.traced.Traced.{Traced}
use Rattle.schedule_sim.specs.declared.job.Job.{Job}
use Rattle.schedule_sim.specs.declared.job.Job.TheVariants.{Idle}
use Rattle.schedule_sim.specs.Tracing.{traced_states, traced_honest}
use Rattle.schedule_sim.specs.Workers.{doing_of, doings_of}
use Rattle.schedule_sim.specs.Living.{IsLifeOf}
use Rattle.schedule_sim.specs.declared.store.Store.{Store}
use Rattle.schedule_sim.specs.Storing.{IsBeginning, IsClosed, IsOpening, IsStore}

unused : (o : Opening) (n : ℕ) → IsUnused o.first o.key_limit (keepers o n)
unused o n = record { opening = refl; limit = refl; keeper = refl; free = refl; none_taken = refl; published = refl; works = refl }

-- the newest log ends where the commands end that are found
reaches_by : (k : Checkpoint) (first : List Batch) (second : Option (List Batch)) → (newest_by k first second).low + length (commands_in (newest_by k first second).batches) ≡ k.low + length (logged_by first second)
reaches_by k first None = refl
reaches_by k first (Some second) = omega (arith, length-append (commands_in first) (commands_in second))

reaches_found : (found : Opened) → (newest_of found).low + length (commands_in (newest_of found).batches) ≡ prefix_of found
reaches_found found = reaches_by found.checkpoint found.first found.second

first_found : (w : World) (stripes : StripeCount) (contents : Contents) (found : Opened) (keeper : Keeper Traced) (parts : List PartState) (first : ℕ) → IsAtStart stripes first keeper
    → IsOpening w stripes.count contents found keeper parts → first ≡ prefix_of found
first_found w stripes contents found keeper parts first start opening = sym start.committed ∙ opening.log.committed ∙ reaches_found found

-- the keeper stands against the world
keeper_begins : OpeningStands traced_states → (w : World) (stripes : StripeCount) (contents : Contents) (found : Opened) (keeper : Keeper Traced) (parts : List PartState) (first limit : ℕ) → IsAtStart stripes first keeper
    → IsOpening w stripes.count contents found keeper parts → union_of (maps_of parts) ≡ fold_of w.history → HasKeeper traced_states keeper (keepers (opening_of first parts limit) 65) w
keeper_begins law w stripes contents found keeper parts first limit start opening map =
    let same = first_found w stripes contents found keeper parts first start opening in
    law keeper (keepers (opening_of first parts limit) 65) w stripes.count contents found (record {
      life = opening.life;
      files = opening.files;
      long = opening.long;
      first = same;
      map = map;
      none_seen = refl;
      stripes_are = ap (λ (s : StripeCount). s.count) start.stripes_are;
      sealed = opening.sealed;
      generation = opening.log.generation;
      version = opening.log.version;
      gate = opening.log.gate;
      committed = start.committed ∙ same;
      published = start.published ∙ same;
      idle = ap (λ l. l.phase) start.resumed;
      no_next = start.next;
      sweep = start.sweep;
      walking = start.walking;
      checkpoint = start.checkpoint;
      capture = start.capture;
      works = start.working;
      not_failed = start.unfailed;
    })

-- The laws by which a life begins.
pub record AreLaws : Type 0 where
  pub life : LifeBegins
  pub opening : OpeningStands traced_states
  pub parts : PartsMakeTheMap

pub life_begins : AreLaws → (w : World) (stripes : StripeCount) (contents : Contents) (found : Opened) (keeper : Keeper Traced) (parts : List PartState) (first limit : ℕ) → 0 < stripes.count → ArePartsOf stripes.count parts
    → ((p : Record) → p.opening ≡ opening_of first parts limit → IsUnused first limit p → Fits traced_states traced_honest stripes.count [] keeper p) → IsAtStart stripes first keeper
    → IsOneHistory (at_start first parts limit 64) → HoldApart (at_start first parts limit 64) → limit ≡ key_limit_of contents found → IsOpening w stripes.count contents found keeper parts
    → IsLifeOf w keeper (at_start first parts limit 64) (replicate 64 Idle)
life_begins laws w stripes contents found keeper parts first limit some are fits start one apart limited opening =
    let o : Opening = opening_of first parts limit in
    let b : Book = at_start first parts limit 64 in
    let same = first_found w stripes contents found keeper parts first start opening in
    let book : b ≡ at_start (prefix_of found) parts (key_limit_of contents found) 64 = ap (λ n. at_start n parts limit 64) same ∙ ap (λ n. at_start (prefix_of found) parts n 64) limited in
    let map : union_of (maps_of parts) ≡ fold_of w.history = ap union_of opening.divided.maps ∙ laws.parts stripes.count _ some ∙ opening.map in
    let fits' : Fits traced_states traced_honest b.stripes [] keeper (record_of 64 b) = rw (are.one_each, keeper_at o (length parts) 64) (fits (keepers o 65) refl (unused o 65)) in
    record {
      done = [];
      fits = subst (λ k. FitsBy k traced_states traced_honest b.stripes [] keeper (record_of 64 b)) (sym start.capture) fits';
      count = length-replicate 64 Idle;
      workers_stand = laws.life b w stripes.count contents found parts (doings_of (replicate 64 Idle)) book one apart are.one_each opening.life opening.long map
          (λ j lt. ap doing_of (get_or-replicate 64 j Idle Idle lt));
      keeper_stands = subst (λ p. HasKeeper traced_states keeper p w) (sym (keeper_at o (length parts) 64)) (keeper_begins laws.opening w stripes contents found keeper parts first limit start opening map);
    }

-- the same of the words and the workers that were made
pub life_began : AreLaws → (w : World) (stripes : StripeCount) (contents : Contents) (found : Opened) (keeper : Keeper Traced) (parts : List PartState) (first limit : ℕ) (b : Book) (jobs : List Job)
    → 0 < stripes.count → ArePartsOf stripes.count parts → ((p : Record) → p.opening ≡ opening_of first parts limit → IsUnused first limit p → Fits traced_states traced_honest stripes.count [] keeper p)
    → IsAtStart stripes first keeper → IsOneHistory b → HoldApart b → b ≡ at_start first parts limit 64 → jobs ≡ replicate 64 Idle → limit ≡ key_limit_of contents found
    → IsOpening w stripes.count contents found keeper parts → IsLifeOf w keeper b jobs
life_began laws w stripes contents found keeper parts first limit b jobs some are fits start one apart book idle limited opening =
    rw (book, idle) (life_begins laws w stripes contents found keeper parts first limit some are fits start (subst IsOneHistory book one) (subst (λ v. HoldApart v) book apart) limited opening)

-- a store that was formatted is closed, and stands for no command
at_rest_stands : (from : World) (disk : Traced) → from.life ≡ None → from.history ≡ [] → from.files ≡ now (traced_states disk) → AtStops (IsNew 16) (now (traced_states disk)) → IsClosed from 0 disk
at_rest_stands from disk none empty files new = record {
  life = none;
  files = files;
  reached = omega arith;
  stops = λ contents leaves. rw empty (record {
    count = 0;
    stands = (new contents (subst (λ files. Leaves files contents) files leaves)).stands;
    from_first = omega arith;
    within = omega arith;
    from_least = omega arith;
    to_most = omega arith;
  });
}

pub formatted_stands : (disk : Traced) → now (traced_states disk) ≡ new_files 16 → AtStops (IsNew 16) (now (traced_states disk)) → IsClosed start 0 disk
unfolding start
formatted_stands disk files new = at_rest_stands start disk refl refl (sym files) new

-- so is one that was formatted in version 01
pub old_stands : (disk : Traced) → now (traced_states disk) ≡ old_files 16 → AtStops (IsNew 16) (now (traced_states disk)) → IsClosed old_start 0 disk
unfolding old_start
old_stands disk files new = at_rest_stands old_start disk refl refl (sym files) new

-- a run may begin with either
pub new_begins : SoundAt start → (store : Store) → IsStore start 0 store → IsBeginning start store
unfolding start
new_begins sound store stands = record { life = refl; sound = sound; stands = stands }

pub old_begins : SoundAt old_start → (store : Store) → IsStore old_start 0 store → IsBeginning old_start store
unfolding old_start
old_begins sound store stands = record { life = refl; sound = sound; stands = stands }
