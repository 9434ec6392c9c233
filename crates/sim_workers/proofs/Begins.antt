-- A worker begins a walk.
use Rattle.std.proofs.Common.{ℕ, ◌≡◌, ◌<◌, ◌≤◌, List, [], None, length, refl, arith, sym, ◌∙◌, ap, subst, append-nil}
use Rattle.map_types.specs.declared.commands.Command.{Command}
use Rattle.map_types.specs.declared.refusals.Refusal.TheVariants.{KeyTooLong}
use Rattle.disk_model.specs.Files.{Files}
use Rattle.ticket_order.specs.declared.held.Held.{Held}
use Rattle.ticket_order.specs.declared.record.Asked.{Asked}
use Rattle.ticket_order.specs.declared.record.Asked.TheVariants.{Changing, Reading}
use Rattle.ticket_order.specs.declared.record.Opening.{Opening}
use Rattle.ticket_order.specs.declared.record.Record.{Record}
use Rattle.ticket_order.specs.declared.walk.Walk.{Walk}
use Rattle.ticket_order.specs.Records.{IsWithin}
use Rattle.ticket_order.specs.Walks.{ToRelease, Fits}
use Rattle.one_history.specs.declared.book.Book.{Book}
use Rattle.one_history.specs.Turns.{record_of}
use Rattle.sim_rules.specs.declared.event.Event.TheVariants as event
use Rattle.sim_rules.specs.declared.outcome.Outcome.TheVariants as outcome
use Rattle.sim_rules.specs.World.{World, Life, Job, Idle, Walks, Keeps, Releasing, Begins, FirstSees, job_of}
use Rattle.sim_rules.specs.After.{after, job_releasing}
use Rattle.sim_workers.specs.Doings.{Doing, Rests, Calls, Waits, Releases, IsCalling, IsKeeping, IsReleasing, JobStands, asking_of, stage_of, task_of}
use Rattle.sim_workers.specs.WordsInWorld.{WordsStand, drawn_by}
use Rattle.sim_workers.specs.Workers.{IsNowDoing, WorkersStand}
use Rattle.sim_workers.specs.Laws.{ChangeBegins, ChangeTurnedDown, KeepsStanding, ReadBegins, ReleaseBegins}
use Rattle.sim_workers.proofs.WorkersInWorld.{changed, each_job, fitting, in_life, is_one, job_changed, places_kept, world_of}

-- the words stand as they did, whatever the jobs are
words_same : (b : Book) (files : Files) (history : List Command) (l : Life) (j : ℕ) (job : Job) → WordsStand b (world_of files history l) l → WordsStand b (world_of files history (changed l j job l.seen l.places)) (changed l j job l.seen l.places)
words_same b files history l j job words = record {
  one = words.one;
  apart = words.apart;
  stripes = words.stripes;
  first = words.first;
  key_limit = words.key_limit;
  before = words.before;
  count = words.count;
  map = words.map;
  history = words.history;
  durable = words.durable;
  has_failed = words.has_failed;
}

-- the job of worker j changes, and nothing else
module _ (b : Book) (files : Files) (history : List Command) (l : Life) (doings doings' : ℕ → Doing) (j : ℕ) (doing : Doing) (job : Job) where
  begins : WorkersStand b (world_of files history l) l doings → j < 64 → IsNowDoing j doing doings doings' → drawn_by job ≡ None → drawn_by (job_of l j) ≡ None → JobStands b.stripes (record_of j b) doing job
      → WorkersStand b (world_of files history (changed l j job l.seen l.places)) (changed l j job l.seen l.places) doings'
  begins stand worker goes none before here =
      let undrawn : (i : ℕ) → drawn_by (job_of (changed l j job l.seen l.places) i) ≡ drawn_by (job_of l i) =
      each_job (λ i x. drawn_by x ≡ drawn_by (job_of l i)) l.jobs j job (omega (arith, worker, stand.jobs)) (none ∙ sym before) (λ i ne. refl) in
      job_changed b b (world_of files history l) (world_of files history (changed l j job l.seen l.places)) l doings doings' j doing job l.seen l.places stand worker refl refl refl (λ i ne. refl) goes here
      (words_same b files history l j job stand.words) (record { count = stand.seen_count; each = stand.seen })
      (places_kept b b l (changed l j job l.seen l.places) refl refl refl refl refl undrawn stand.places)

-- a worker that rests is idle, and holds no stripe
idle : (n : ℕ) (p : Record) (job : Job) → JobStands n p Rests job → (job ≡ Idle) × (p.holding ≡ None)
idle n p Idle stands = (refl, stands)
idle n p (Walks asked stage) stands = absurd stands
idle n p (Keeps asked position) stands = absurd stands
idle n p (Releasing asked position asking) stands = absurd stands

-- one that waits keeps the reply of a call
IsKept : Record → Held → Job → Type 0
IsKept p held job = (asked : Asked) × (position : ℕ) × (job ≡ Keeps asked position) × IsKeeping p held asked position

kept : (n : ℕ) (p : Record) (held : Held) (job : Job) → JobStands n p (Waits held) job → IsKept p held job
unfolding IsKept
kept n p held Idle stands = absurd stands
kept n p held (Walks asked stage) stands = absurd stands
kept n p held (Keeps asked position) stands = (asked, position, refl, stands)
kept n p held (Releasing asked position asking) stands = absurd stands

begun_call : (n : ℕ) (p : Record) (walk : Walk) (asked : Asked) → p.holding ≡ None → Fits n p (task_of asked) walk p → IsCalling n p walk asked Begins
unfolding Rattle.sim_workers.specs.Doings.stage_from
begun_call n p walk asked free fits = record { begun = p; free = free; fits = fits; made = []; steps = sym (append-nil p.steps); stage_is = refl }

begun_release : (n : ℕ) (p : Record) (walk : Walk) (held : Held) (asked : Asked) (position : ℕ) → IsKeeping p held asked position → Fits n p (ToRelease held.position held.reply) walk p → IsReleasing n p walk asked position FirstSees
unfolding Rattle.sim_workers.specs.Doings.asking_from
begun_release n p walk held asked position keeps fits = record {
  begun = p;
  reply = held.reply;
  free = keeps.free;
  call_is = keeps.call_is;
  fits = rw (sym keeps.position_is) fits;
  made = [];
  steps = sym (append-nil p.steps);
  asking_is = refl;
}

-- the pass of a worker has the limit of the book
within_pass : (b : Book) (w : World) (l : Life) (doings : ℕ → Doing) (j : ℕ) (c : Command) → WorkersStand b w l doings → j < 64 → IsWithin b.opening.key_limit c → IsWithin (record_of j b).opening.key_limit c
within_pass b w l doings j c stand worker within = subst (λ (o : Opening). IsWithin o.key_limit c) (sym (stand.words.one.passes j (omega (arith, worker, stand.passes))).opening) within

pub change_begins : ChangeBegins
unfolding after
change_begins b w found doings doings' j c walk stand worker rests within fits goes = in_life b w doings (λ x. KeepsStanding x found (event.Change j c) outcome.Started b doings')
    (λ files history l stands.
    let is : (job_of l j ≡ Idle) × ((record_of j b).holding ≡ None) = idle b.stripes (record_of j b) (job_of l j) (subst (λ d. JobStands b.stripes (record_of j b) d (job_of l j)) rests (stands.each j worker)) in
    record {
      meets = fitting (world_of files history l) found (event.Change j c) outcome.Started (rw (is_one j worker, is.0) refl) (subst (λ (z : ℕ). length c.key ≤ z) stands.words.key_limit within);
      answers = tt;
      stand = begins b files history l doings doings' j (Calls walk) (Walks (Changing c) Begins) stands worker goes refl (ap drawn_by is.0)
          (begun_call b.stripes (record_of j b) walk (Changing c) is.1 (fits b.stripes (record_of j b) is.1 (within_pass b (world_of files history l) l doings j c stands worker within)));
    }) stand

pub change_turned_down : ChangeTurnedDown
unfolding after
change_turned_down b w found doings j c stand worker rests longer = in_life b w doings
    (λ x. KeepsStanding x found (event.Change j c) (outcome.Refused KeyTooLong) b doings × (after x found (event.Change j c) (outcome.Refused KeyTooLong) ≡ x))
    (λ files history l stands.
    let is : (job_of l j ≡ Idle) × ((record_of j b).holding ≡ None) = idle b.stripes (record_of j b) (job_of l j) (subst (λ d. JobStands b.stripes (record_of j b) d (job_of l j)) rests (stands.each j worker)) in (
      record {
        meets = fitting (world_of files history l) found (event.Change j c) (outcome.Refused KeyTooLong) (rw (is_one j worker, is.0) refl) (subst (λ (z : ℕ). z < length c.key) stands.words.key_limit longer);
        answers = tt;
        stand = stands;
      },
      refl,
    )) stand

pub read_begins : ReadBegins
unfolding after
read_begins b w found doings doings' j r walk stand worker rests fits goes = in_life b w doings (λ x. KeepsStanding x found (event.Read j r) outcome.Started b doings')
    (λ files history l stands.
    let is : (job_of l j ≡ Idle) × ((record_of j b).holding ≡ None) = idle b.stripes (record_of j b) (job_of l j) (subst (λ d. JobStands b.stripes (record_of j b) d (job_of l j)) rests (stands.each j worker)) in
    record {
      meets = fitting (world_of files history l) found (event.Read j r) outcome.Started (rw (is_one j worker, is.0) refl) refl;
      answers = tt;
      stand = begins b files history l doings doings' j (Calls walk) (Walks (Reading r) Begins) stands worker goes refl (ap drawn_by is.0)
          (begun_call b.stripes (record_of j b) walk (Reading r) is.1 (fits b.stripes (record_of j b) is.1));
    }) stand

pub release_begins : ReleaseBegins
unfolding after IsKept
release_begins b w found doings doings' j held walk stand worker waits fits goes = in_life b w doings (λ x. KeepsStanding x found (event.Release j) outcome.Started b doings')
    (λ files history l stands.
    let is : IsKept (record_of j b) held (job_of l j) = kept b.stripes (record_of j b) held (job_of l j) (subst (λ d. JobStands b.stripes (record_of j b) d (job_of l j)) waits (stands.each j worker)) in
    record {
      meets = fitting (world_of files history l) found (event.Release j) outcome.Started (rw (is_one j worker, is.2) refl) refl;
      answers = tt;
      stand = begins b files history l doings doings' j (Releases walk) (job_releasing (job_of l j)) stands worker goes (rw is.2 refl) (ap drawn_by is.2)
          (rw is.2 (begun_release b.stripes (record_of j b) walk held is.0 is.1 is.3 (fits b.stripes (record_of j b))));
    }) stand
