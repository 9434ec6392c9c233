-- The workers stand in a world in which the job of one of them changed.
use Rattle.std.proofs.Common.{ℕ, ◌≡◌, ◌≢◌, ◌<◌, List, Some, None, true, MatchBool, length, refl, arith, sym, ◌∙◌, ap, subst, inl, inr}
use Rattle.std.specs.Prelude.{slice_index_or, slice_set}
use Rattle.std.proofs.lemmas.List.{get_or-set_same, get_or-set_other}
use Rattle.std.proofs.Math.ListN.{length-set}
use Rattle.std.proofs.lemmas.Bool.{cases_eq}
use Rattle.map_types.specs.declared.commands.Command.{Command}
use Rattle.disk_model.specs.Files.{Files}
use Rattle.store_layout.specs.Opening.{Opened}
use Rattle.ticket_order.specs.declared.record.Record.{Record}
use Rattle.ticket_order.specs.Records.{reach}
use Rattle.one_history.specs.declared.book.Book.{Book}
use Rattle.one_history.specs.Turns.{record_of}
use Rattle.one_history.specs.OneHistory.{HoldsStripe, stripe_in}
use Rattle.sim_rules.specs.declared.event.Event.{Event}
use Rattle.sim_rules.specs.declared.outcome.Outcome.{Outcome}
use Rattle.sim_rules.specs.declared.outcome.Outcome.TheVariants as outcome
use Rattle.sim_rules.specs.World.{World, Life, Job, Idle, Place, job_of, place_of}
use Rattle.sim_rules.specs.Fitting.{fits, is_worker}
use Rattle.sim_rules.specs.Cases.{HappensWith, Meets}
use Rattle.sim_workers.specs.Doings.{Doing, JobStands}
use Rattle.sim_workers.specs.WordsInWorld.{IsDrawn, IsOfLife, IsTaken, PlacesStand, WordsStand, drawn_by}
use Rattle.sim_workers.specs.Workers.{IsNowDoing, Stand, StandWith, WorkersStand}

abbrev pub world_of : Files → List Command → Life → World
world_of files history l = record { files = files; history = history; life = Some l }

-- a world in which the workers stand has a life
pub in_life : (b : Book) (w : World) (doings : ℕ → Doing) (P : World → Type 0)
    → ((files : Files) (history : List Command) (l : Life) → WorkersStand b (world_of files history l) l doings → P (world_of files history l)) → Stand b w doings → P w
in_life b w doings P f = elim w.life as (λ x. StandWith b (record { files = w.files; history = w.history; life = x }) x doings → P (record { files = w.files; history = w.history; life = x })) [
  | None ↦ λ no. absurd no
  | Some l ↦ f w.files w.history l
]

-- an event that fits meets its case
pub fitting : (w : World) (found : Opened) (e : Event) (x : Outcome) → fits w e ≡ true → HappensWith w w.life found e x → Meets w found e x
fitting w found e x is h = subst (λ b. MatchBool b (HappensWith w w.life found e x) (x ≡ outcome.Skipped)) (sym is) h

-- it is one of the workers
pub is_one : (j : ℕ) → j < 64 → is_worker j ≡ true
is_one j worker = grind (arith, worker)

-- ---- places

-- another book and another life, with the same tickets in the same places
module _ (b b' : Book) (l l' : Life) (first : b'.opening.first ≡ b.opening.first) (history : b'.history ≡ b.history) (taken : b'.effects.taken ≡ b.effects.taken)
    (places : l'.places ≡ l.places) (begins : l'.first ≡ l.first) (drawn : (i : ℕ) → drawn_by (job_of l' i) ≡ drawn_by (job_of l i)) where
  of_life : (t : ℕ) → IsOfLife b' t → IsOfLife b t
  of_life t is = (omega (arith, is.0, first), omega (arith, is.1, first, ap length history))

  still_of_life : (t : ℕ) → IsOfLife b t → IsOfLife b' t
  still_of_life t is = (omega (arith, is.0, first), omega (arith, is.1, first, ap length history))

  was_drawn : (t : ℕ) → IsDrawn l' t → IsDrawn l t
  was_drawn t is = (is.0, sym (drawn is.0) ∙ is.1)

  still_drawn : (t : ℕ) → IsDrawn l t → IsDrawn l' t
  still_drawn t is = (is.0, drawn is.0 ∙ is.1)

  was_taken : (t : ℕ) → IsTaken b' t → IsTaken b t
  was_taken t is = (is.0, rw (sym taken) is.1, is.2)

  still_taken : (t : ℕ) → IsTaken b t → IsTaken b' t
  still_taken t is = (is.0, rw taken is.1, is.2)

  same_place : (t : ℕ) → place_of l' t ≡ place_of l t
  same_place t = rw (places, begins) refl

  pub places_kept : PlacesStand b l → PlacesStand b' l'
  places_kept stand = record {
    count = ap length places ∙ (stand.count ∙ sym (ap length history));
    drawn = λ t is. still_of_life t (stand.drawn t (was_drawn t is));
    drawn_once = λ i j t x y. stand.drawn_once i j t (sym (drawn i) ∙ x) (sym (drawn j) ∙ y);
    taken = λ t is. still_of_life t (stand.taken t (was_taken t is));
    entries = λ e has. rw (first, history) (stand.entries e (rw (sym taken) has));
    with_worker = λ t is. (
      λ at. still_drawn t ((stand.with_worker t (of_life t is)).0 (sym (same_place t) ∙ at)),
      λ x. same_place t ∙ (stand.with_worker t (of_life t is)).1 (was_drawn t x),
    );
    in_hand = λ t is. (
      λ at. still_taken t ((stand.in_hand t (of_life t is)).0 (sym (same_place t) ∙ at)),
      λ x. same_place t ∙ (stand.in_hand t (of_life t is)).1 (was_taken t x),
    );
  }

-- ---- one job

-- the life with the job of worker j, and with these positions and places
abbrev pub changed : Life → ℕ → Job → List ℕ → List Place → Life
changed l j job seen places = record l { jobs = slice_set l.jobs j job; seen = seen; places = places }

-- these are the greatest positions that the passes of the workers have seen
pub record SeenStand (b : Book) (seen : List ℕ) : Type 0 where
  pub count : length seen ≡ 64
  pub each : (j : ℕ) → j < 64 → slice_index_or seen j 0 ≡ reach (record_of j b)

-- if only the pass of worker j has seen more
pub seen_set : (b b' : Book) (w : World) (l : Life) (doings : ℕ → Doing) (j n : ℕ) → WorkersStand b w l doings → j < 64 → ((i : ℕ) → i ≢ j → record_of i b' ≡ record_of i b)
    → n ≡ reach (record_of j b') → SeenStand b' (slice_set l.seen j n)
seen_set b b' w l doings j n stand worker others is = record {
  count = length-set l.seen j n ∙ stand.seen_count;
  each = λ i lt. elim (cases_eq i j) [
    | inl e ↦ subst (λ k. slice_index_or (slice_set l.seen j n) k 0 ≡ reach (record_of k b')) (sym e) (get_or-set_same l.seen j n 0 (omega (arith, worker, stand.seen_count)) ∙ is)
    | inr ne ↦ get_or-set_other l.seen j i n 0 ne ∙ (stand.seen i lt ∙ sym (ap reach (others i ne)))
  ];
}

-- what holds of each worker's job, but for the one that changed
pub each_job : (P : ℕ → Job → Type 0) (jobs : List Job) (j : ℕ) (job : Job) → j < length jobs → P j job → ((i : ℕ) → i ≢ j → P i (slice_index_or jobs i Idle)) → (i : ℕ) → P i (slice_index_or (slice_set jobs j job) i Idle)
each_job P jobs j job within here there i = elim (cases_eq i j) [
  | inl e ↦ subst (λ k. P k (slice_index_or (slice_set jobs j job) k Idle)) (sym e) (subst (P j) (sym (get_or-set_same jobs j job Idle within)) here)
  | inr ne ↦ subst (P i) (sym (get_or-set_other jobs j i job Idle ne)) (there i ne)
]

module _ (b b' : Book) (w w' : World) (l : Life) (doings doings' : ℕ → Doing) (j : ℕ) (doing : Doing) (job : Job) (seen : List ℕ) (places : List Place) (stand : WorkersStand b w l doings) (worker : j < 64)
    (stripes : b'.stripes ≡ b.stripes) (passes : length b'.passes ≡ length b.passes) (keeper : b'.effects.keeper ≡ b.effects.keeper) (others : (i : ℕ) → i ≢ j → record_of i b' ≡ record_of i b) (goes : IsNowDoing j doing doings doings') where
  keeper_same : record_of 64 b' ≡ record_of 64 b
  keeper_same = others 64 (λ e. omega (arith, e, worker))

  held_before : (i : ℕ) → HoldsStripe b' 64 i → HoldsStripe b 64 i
  held_before i x = record { within = omega (arith, x.within, passes); has = sym (ap (λ (r : Record). stripe_in r.holding) keeper_same) ∙ x.has }

  held_after : (i : ℕ) → HoldsStripe b 64 i → HoldsStripe b' 64 i
  held_after i x = record { within = omega (arith, x.within, passes); has = ap (λ (r : Record). stripe_in r.holding) keeper_same ∙ x.has }

  pub job_changed : JobStands b'.stripes (record_of j b') doing job → WordsStand b' w' (changed l j job seen places) → SeenStand b' seen
      → PlacesStand b' (changed l j job seen places) → WorkersStand b' w' (changed l j job seen places) doings'
  job_changed here words sees placed = record {
    words = words;
    passes = passes ∙ stand.passes;
    keeper = keeper ∙ stand.keeper;
    jobs = length-set l.jobs j job ∙ stand.jobs;
    each = λ i lt. each_job (λ k x. k < 64 → JobStands b'.stripes (record_of k b') (doings' k) x) l.jobs j job (omega (arith, worker, stand.jobs))
        (λ lt. subst (λ x. JobStands b'.stripes (record_of j b') x job) (sym goes.here) here)
        (λ k ne lt. rw (stripes, others k ne, goes.there k ne) (stand.each k lt)) i lt;
    seen_count = sees.count;
    seen = sees.each;
    places = placed;
    held = λ i. (λ h. held_after i ((stand.held i).0 h), λ h. (stand.held i).1 (held_before i h));
  }
