-- A worker's release makes a step.
use Rattle.std.proofs.Common.{ℕ, ◌≡◌, ◌<◌, ◌≤◌, ◌⊎◌, List, [], ◌∷◌, ◌++◌, Some, None, true, false, refl, arith, sym, ◌∙◌, ap, subst, append-nil, inl, inr}
use Rattle.std.specs.Prelude.{not, slice_set}
use Rattle.std.specs.List.{Contains}
use Rattle.map_types.specs.declared.commands.Command.{Command}
use Rattle.map_types.specs.declared.commands.Reply.{Reply}
use Rattle.disk_model.specs.Files.{Files}
use Rattle.store_layout.specs.Opening.{Opened}
use Rattle.ticket_order.specs.declared.held.Held.{Held}
use Rattle.ticket_order.specs.declared.held.Released.{Released}
use Rattle.ticket_order.specs.declared.held.Released.TheVariants as answer
use Rattle.ticket_order.specs.declared.record.Asked.{Asked}
use Rattle.ticket_order.specs.declared.record.StepMade.{StepMade}
use Rattle.ticket_order.specs.declared.record.StepMade.TheVariants.{Saw, FoundAlive}
use Rattle.ticket_order.specs.declared.record.Record.{Record}
use Rattle.ticket_order.specs.declared.walk.Walk.{Walk}
use Rattle.ticket_order.specs.declared.walk.Stepped.{Stepped}
use Rattle.ticket_order.specs.declared.walk.Stepped.TheVariants as stepped
use Rattle.ticket_order.specs.Records.{call, reach}
use Rattle.ticket_order.specs.Calls.{Misses, MissesAlive, Reaches, Releases, SeesAgain}
use Rattle.ticket_order.specs.Walks.{ToRelease, Next}
use Rattle.ticket_order.specs.Legality.{IsLegalCall}
use Rattle.one_history.specs.declared.book.Book.{Book}
use Rattle.one_history.specs.Turns.{record_of}
use Rattle.one_history.specs.Moves.{Raises, WordsMove}
use Rattle.sim_rules.specs.declared.event.Event.TheVariants as event
use Rattle.sim_rules.specs.declared.outcome.End.{End}
use Rattle.sim_rules.specs.declared.outcome.End.TheVariants as ends
use Rattle.sim_rules.specs.declared.outcome.Made.{Made}
use Rattle.sim_rules.specs.declared.outcome.Made.TheVariants as told
use Rattle.sim_rules.specs.declared.outcome.Outcome.TheVariants as outcome
use Rattle.sim_rules.specs.Machine.{whole}
use Rattle.sim_rules.specs.World.{World, Life, Job, Idle, Walks, Keeps, Releasing, Asking, FirstSees, job_of, seen_by}
use Rattle.sim_rules.specs.After.{after, asking_after, history_after, job_after, places_after, seen_after}
use Rattle.sim_rules.specs.Cases.{StepsJob, StepsRelease}
use Rattle.sim_rules.specs.Runs.{move_of}
use Rattle.sim_rules.specs.Sound.{ReleasesLegal}
use Rattle.sim_rules.specs.Told.{told_of}
use Rattle.sim_workers.specs.Doings as doings_of
use Rattle.sim_workers.specs.Doings.{Doing, AnswerLeaves, IsKeeping, IsReleasing, JobStands, ReleaseLeaves, asking_from, asking_of, asking_with}
use Rattle.sim_workers.specs.WordsInWorld.{drawn_by}
use Rattle.sim_workers.specs.Workers.{IsNowDoing, MakesStep, StepsWalk, WorkersStand}
use Rattle.sim_workers.specs.Laws.{KeepsStanding, ReleaseSteps}
use Rattle.sim_workers.proofs.Lists.{ends_same, never_empty, onto, same_rest}
use Rattle.sim_workers.proofs.Asks.{Way, Starts, Missed, Asked as AskedAlive, SawAgain, GoesBy, IsOpen, StandsBy, missed_alive, release_goes, saw, saw_again, steps_of}
use Rattle.sim_workers.proofs.WorkersInWorld.{SeenStand, changed, each_job, fitting, in_life, is_one, job_changed, places_kept, seen_set, world_of}
use Rattle.sim_workers.proofs.Legal.{legal_in_world}
use Rattle.sim_workers.proofs.Moving.{KeepsEffects, effects_kept, words_moved}
use Rattle.sim_workers.proofs.Seen.{same_seen, saw_seen}

-- A step of a release: from where it was made, what it was, and how the release went on or ended.
data Turn : Type 0 where
  IsBelow : ℕ → Turn
  Reached : ℕ → Reply → Turn
  FindsAlive : ℕ → Turn
  FindsDead : ℕ → Turn
  IsBelowAgain : ℕ → ℕ → Turn
  ReachedAgain : ℕ → ℕ → Reply → Turn

abbrev before : Turn → Way
before (IsBelow d) = Starts
before (Reached d y) = Starts
before (FindsAlive d) = Missed d
before (FindsDead d) = Missed d
before (IsBelowAgain d e) = AskedAlive d false
before (ReachedAgain d e y) = AskedAlive d false

abbrev step_of : Turn → StepMade
step_of (IsBelow d) = Saw d
step_of (Reached d y) = Saw d
step_of (FindsAlive d) = FoundAlive true
step_of (FindsDead d) = FoundAlive false
step_of (IsBelowAgain d e) = Saw e
step_of (ReachedAgain d e y) = Saw e

abbrev told_by : Turn → Made
told_by (IsBelow d) = told.Saw d
told_by (Reached d y) = told.Saw d
told_by (FindsAlive d) = told.FoundAlive true
told_by (FindsDead d) = told.FoundAlive false
told_by (IsBelowAgain d e) = told.Saw e
told_by (ReachedAgain d e y) = told.Saw e

abbrev end_of : ℕ → Turn → End
end_of position (IsBelow d) = ends.Goes
end_of position (Reached d y) = ends.Replied position y
end_of position (FindsAlive d) = ends.NotYet
end_of position (FindsDead d) = ends.Goes
end_of position (IsBelowAgain d e) = ends.Failed
end_of position (ReachedAgain d e y) = ends.Replied position y

abbrev Tells : ℕ → Turn → Type 0
Tells position (IsBelow d) = d < position
Tells position (Reached d y) = position ≤ d
Tells position (FindsAlive d) = Unit {0}
Tells position (FindsDead d) = Unit {0}
Tells position (IsBelowAgain d e) = e < position
Tells position (ReachedAgain d e y) = position ≤ e

-- the step that was made after these, of a release that began at b, and what it left in the record p
record IsTurn (position : ℕ) (b : Record) (made : List StepMade) (step : StepMade) (end : End) (p : Record) : Type 0 where
  turn : Turn
  made_is : made ≡ steps_of (before turn)
  step_is : step ≡ step_of turn
  end_is : end ≡ end_of position turn
  tells : Tells position turn
  holding : p.holding ≡ b.holding
  calls : p.calls ≡ b.calls

module _ (position : ℕ) (b : Record) (made : List StepMade) (step : StepMade) (end : End) (p p' : Record) (since : p.steps ≡ b.steps ++ made) (steps : p'.steps ≡ p.steps ++ step ∷ []) where
  turns : (turn : Turn) (way : Way) → GoesBy b way p' → steps_of way ≡ steps_of (before turn) ++ step_of turn ∷ [] → end ≡ end_of position turn → Tells position turn → IsTurn position b made step end p'
  turns turn way by is end_is tells =
      let all : made ++ step ∷ [] ≡ steps_of (before turn) ++ step_of turn ∷ [] = sym (same_rest b.steps made (steps_of way) p.steps step since (sym steps ∙ by.steps)) ∙ is in
      let both : (made ≡ steps_of (before turn)) × (step ≡ step_of turn) = ends_same made (steps_of (before turn)) step (step_of turn) all in
      record { turn = turn; made_is = both.0; step_is = both.1; end_is = end_is; tells = tells; holding = by.holding; calls = by.calls }

  never_still : (way : Way) → GoesBy b way p' → steps_of way ≡ [] → ⊥
  never_still way by none = never_empty made step (sym none ∙ same_rest b.steps made (steps_of way) p.steps step since (sym steps ∙ by.steps))

  goes_on : (way : Way) → GoesBy b way p' → IsOpen position way → end ≡ ends.Goes → IsTurn position b made step end p'
  goes_on Starts by is_open end_is = absurd (never_still Starts by refl)
  goes_on (Missed d) by is_open end_is = turns (IsBelow d) (Missed d) by refl end_is is_open
  goes_on (AskedAlive d true) by is_open end_is = absurd is_open
  goes_on (AskedAlive d false) by is_open end_is = turns (FindsDead d) (AskedAlive d false) by refl end_is tt
  goes_on (SawAgain d e) by is_open end_is = absurd is_open

  more_turn : (n : ℕ) (reply : Reply) (walk : Walk) → Next n b (ToRelease position reply) (stepped.More walk) p' → end ≡ ends.Goes → IsTurn position b made step end p'
  more_turn n reply walk next end_is = (let by : StandsBy b position p' = release_goes n b position reply p' walk.stage next in goes_on by.way by.by by.is_open end_is)

  reached_turn : (y : Reply) → Reaches position b p' → end ≡ ends.Replied position y → IsTurn position b made step end p'
  reached_turn y is end_is = turns (Reached is.durable y) (Missed is.durable) (saw b p' is.durable is.sees.between is.sees.is) refl end_is is.reached

  again_turn : (y : Reply) → SeesAgain position b (Reaches position) p' → end ≡ ends.Replied position y → IsTurn position b made step end p'
  again_turn y is end_is =
      let second : Reaches position is.between p' = is.second in
      turns (ReachedAgain is.first.misses.durable second.durable y) (SawAgain is.first.misses.durable second.durable)
      (saw_again b is.between p' is.first.misses.durable second.durable second.sees.between (missed_alive position false b is.between is.first) second.sees.is) refl end_is second.reached

  replied_turn : (y : Reply) → Reaches position b p' ⊎ SeesAgain position b (Reaches position) p' → end ≡ ends.Replied position y → IsTurn position b made step end p'
  replied_turn y either end_is = elim either [ inl is ↦ reached_turn y is end_is | inr is ↦ again_turn y is end_is ]

  failed_turn : SeesAgain position b (Misses position) p' → end ≡ ends.Failed → IsTurn position b made step end p'
  failed_turn is end_is =
      let second : Misses position is.between p' = is.second in
      turns (IsBelowAgain is.first.misses.durable second.durable) (SawAgain is.first.misses.durable second.durable)
      (saw_again b is.between p' is.first.misses.durable second.durable second.sees.between (missed_alive position false b is.between is.first) second.sees.is) refl end_is second.missed

  alive_turn : MissesAlive position true b p' → end ≡ ends.NotYet → IsTurn position b made step end p'
  alive_turn is end_is = turns (FindsAlive is.misses.durable) (AskedAlive is.misses.durable true) (missed_alive position true b p' is) refl end_is tt

  answer_turn : (reply : Reply) (z : Released) (doing : Doing) → Releases position reply b z p' → AnswerLeaves z doing end → IsTurn position b made step end p'
  answer_turn reply (answer.Reply q y) doing is leaves = replied_turn y is.2 (leaves.1 ∙ ap (λ k. ends.Replied k y) is.0)
  answer_turn reply (answer.NotYet h) doing is leaves = alive_turn is.2 leaves.1
  answer_turn reply answer.Failed doing is leaves = failed_turn is leaves.1

  turn_of : (n : ℕ) (reply : Reply) (s : Stepped) (doing : Doing) → Next n b (ToRelease position reply) s p' → ReleaseLeaves s doing end → IsTurn position b made step end p'
  turn_of n reply (stepped.More walk) doing next leaves = more_turn n reply walk next leaves.1
  turn_of n reply (stepped.Released z) doing next leaves = answer_turn reply z doing next leaves
  turn_of n reply s doing next leaves = absurd leaves

-- ---- the case of the step

step_meets : (b b' : Book) (l : Life) (j position : ℕ) (turn : Turn) → l.durable ≡ b.effects.durable → l.has_failed ≡ b.effects.failed → WordsMove j (step_of turn) b b' → Tells position turn
    → StepsRelease l position (asking_of (steps_of (before turn))) (told_by turn) (end_of position turn)
unfolding asking_from
step_meets b b' l j position (IsBelow d) durable failed words tells = (words.1 ∙ sym durable, tells)
step_meets b b' l j position (Reached d y) durable failed words tells = (words.1 ∙ sym durable, tells, refl)
step_meets b b' l j position (FindsAlive d) durable failed words tells = (refl, words.1 ∙ ap not (sym failed))
step_meets b b' l j position (FindsDead d) durable failed words tells = (refl, words.1 ∙ ap not (sym failed))
step_meets b b' l j position (IsBelowAgain d e) durable failed words tells = (words.1 ∙ sym durable, tells)
step_meets b b' l j position (ReachedAgain d e y) durable failed words tells = (words.1 ∙ sym durable, tells, refl)

same_history : (b b' : Book) (j : ℕ) (turn : Turn) → WordsMove j (step_of turn) b b' → b'.history ≡ b.history
same_history b b' j (IsBelow d) words = words.0.same.history
same_history b b' j (Reached d y) words = words.0.same.history
same_history b b' j (FindsAlive d) words = words.0.same.history
same_history b b' j (FindsDead d) words = words.0.same.history
same_history b b' j (IsBelowAgain d e) words = words.0.same.history
same_history b b' j (ReachedAgain d e y) words = words.0.same.history

seen_so : (b b' : Book) (w : World) (l : Life) (doings : ℕ → Doing) (stand : WorkersStand b w l doings) (j : ℕ) (worker : j < 64) (position : ℕ) (turn : Turn) → Raises j (step_of turn) b b'
    → seen_after w l (seen_by l j) (told_by turn) (end_of position turn) ≡ reach (record_of j b')
seen_so b b' w l doings stand j worker position (IsBelow d) raises = saw_seen b b' w l doings stand j worker d raises
seen_so b b' w l doings stand j worker position (Reached d y) raises = saw_seen b b' w l doings stand j worker d raises
seen_so b b' w l doings stand j worker position (FindsAlive d) raises = same_seen b b' w l doings stand j worker raises
seen_so b b' w l doings stand j worker position (FindsDead d) raises = same_seen b b' w l doings stand j worker raises
seen_so b b' w l doings stand j worker position (IsBelowAgain d e) raises = saw_seen b b' w l doings stand j worker e raises
seen_so b b' w l doings stand j worker position (ReachedAgain d e y) raises = saw_seen b b' w l doings stand j worker e raises

told_as : (turn : Turn) → told_of (step_of turn) ≡ Some (told_by turn)
told_as (IsBelow d) = refl
told_as (Reached d y) = refl
told_as (FindsAlive d) = refl
told_as (FindsDead d) = refl
told_as (IsBelowAgain d e) = refl
told_as (ReachedAgain d e y) = refl

told_once : (m k : Made) → Some m ≡ Some k → m ≡ k
told_once m k e = cc

-- ---- the job after the step

asking_more : (a : Asking) (made : List StepMade) (step : StepMade) (m : Made) → told_of step ≡ Some m → asking_after m ≡ asking_from a (made ++ step ∷ [])
unfolding asking_from
asking_more a [] step m is = ap (asking_with a) (sym is)
asking_more a (x ∷ made) step m is = asking_more (asking_with a (told_of x)) made step m is

module _ (n : ℕ) (p p' : Record) (walk : Walk) (asked : Asked) (position : ℕ) (asking : Asking) (r : IsReleasing n p walk asked position asking) (step : StepMade) (m : Made) (steps : p'.steps ≡ p.steps ++ step ∷ []) (told_is : told_of step ≡ Some m)
    (holding : p'.holding ≡ r.begun.holding) (calls : p'.calls ≡ r.begun.calls) where
  walks_on : (next : Walk) → Next n r.begun (ToRelease position r.reply) (stepped.More next) p' → IsReleasing n p' next asked position (asking_after m)
  walks_on next fits = record {
    begun = r.begun;
    reply = r.reply;
    free = r.free;
    call_is = r.call_is;
    fits = fits;
    made = r.made ++ step ∷ [];
    steps = steps ∙ onto r.begun.steps r.made p.steps step r.steps;
    asking_is = asking_more FirstSees r.made step m told_is;
  }

  keeps : (h : Held) → h.position ≡ position → h.reply ≡ r.reply → IsKeeping p' h asked position
  keeps h position_is reply_is = record {
    free = holding ∙ r.free;
    position_is = position_is;
    call_is = subst (λ y. Contains p'.calls (call position asked y)) (sym reply_is) (subst (λ cs. Contains cs (call position asked r.reply)) (sym calls) r.call_is);
  }

  answered : (z : Released) (doing : Doing) (end : End) → Releases position r.reply r.begun z p' → AnswerLeaves z doing end → JobStands n p' doing (job_after (Releasing asked position asking) m end)
  answered (answer.Reply q y) doing end is leaves = rw (leaves.0, leaves.1) (holding ∙ r.free)
  answered (answer.NotYet h) doing end is leaves = rw (leaves.0, leaves.1) (keeps h is.0 is.1)
  answered answer.Failed doing end is leaves = rw (leaves.0, leaves.1) (holding ∙ r.free)

  job_stands : (s : Stepped) (doing : Doing) (end : End) → Next n r.begun (ToRelease position r.reply) s p' → ReleaseLeaves s doing end → JobStands n p' doing (job_after (Releasing asked position asking) m end)
  job_stands (stepped.More next) doing end is leaves = rw (leaves.0, leaves.1) (walks_on next is)
  job_stands (stepped.Released z) doing end is leaves = answered z doing end is leaves
  job_stands s doing end is leaves = absurd leaves

-- a release that goes on, or ends, draws no ticket
undrawn : (asked : Asked) (position : ℕ) (asking : Asking) (m : Made) (end : End) → drawn_by (job_after (Releasing asked position asking) m end) ≡ None
undrawn asked position asking m ends.Goes = refl
undrawn asked position asking m ends.NotYet = refl
undrawn asked position asking m end = refl

-- ---- the reply

legal_answer : (history : List Command) (n position : ℕ) (reply : Reply) (b p' : Record) (asked : Asked) (asking : Asking) (m : Made) (z : Released) (doing : Doing) (end : End) → Releases position reply b z p' → AnswerLeaves z doing end
    → IsLegalCall (whole history) (call position asked reply) → ReleasesLegal history (move_of (Releasing asked position asking) m end)
legal_answer history n position reply b p' asked asking m (answer.Reply q y) doing end is leaves legal = rw (leaves.1, is.0, is.1) legal
legal_answer history n position reply b p' asked asking m (answer.NotYet h) doing end is leaves legal = rw leaves.1 tt
legal_answer history n position reply b p' asked asking m answer.Failed doing end is leaves legal = rw leaves.1 tt

legal_step : (history : List Command) (n position : ℕ) (reply : Reply) (b p' : Record) (asked : Asked) (asking : Asking) (m : Made) (s : Stepped) (doing : Doing) (end : End) → Next n b (ToRelease position reply) s p' → ReleaseLeaves s doing end
    → IsLegalCall (whole history) (call position asked reply) → ReleasesLegal history (move_of (Releasing asked position asking) m end)
legal_step history n position reply b p' asked asking m (stepped.More walk) doing end is leaves legal = rw leaves.1 tt
legal_step history n position reply b p' asked asking m (stepped.Released z) doing end is leaves legal = legal_answer history n position reply b p' asked asking m z doing end is leaves legal
legal_step history n position reply b p' asked asking m s doing end is leaves legal = absurd leaves

-- ---- the step

-- the walk of a release is under way
IsRelease : ℕ → Record → Walk → Job → Type 0
IsRelease n p walk job = (asked : Asked) × (position : ℕ) × (asking : Asking) × (job ≡ Releasing asked position asking) × IsReleasing n p walk asked position asking

a_release : (n : ℕ) (p : Record) (walk : Walk) (job : Job) → JobStands n p (doings_of.Releases walk) job → IsRelease n p walk job
unfolding IsRelease
a_release n p walk Idle stands = absurd stands
a_release n p walk (Walks asked stage) stands = absurd stands
a_release n p walk (Keeps asked position) stands = absurd stands
a_release n p walk (Releasing asked position asking) stands = (asked, position, asking, refl, stands)

module _ (b b' : Book) (files : Files) (history : List Command) (l : Life) (doings doings' : ℕ → Doing) (j : ℕ) (walk : Walk) (s : Stepped) (m : Made) (doing : Doing) (end : End) (stand : WorkersStand b (world_of files history l) l doings) (worker : j < 64)
    (made : MakesStep j b b' m) (next : StepsWalk b.stripes walk (record_of j b) s (record_of j b')) (leaves : ReleaseLeaves s doing end) (goes : IsNowDoing j doing doings doings')
    (asked : Asked) (position : ℕ) (asking : Asking) (job_is : job_of l j ≡ Releasing asked position asking) (r : IsReleasing b.stripes (record_of j b) walk asked position asking) where
  allowed : Next b.stripes r.begun (ToRelease position r.reply) s (record_of j b')
  allowed = next r.begun (ToRelease position r.reply) r.fits

  turned : IsTurn position r.begun r.made made.step end (record_of j b')
  turned = turn_of position r.begun r.made made.step end (record_of j b) (record_of j b') r.steps made.steps b.stripes r.reply s doing allowed leaves

  told_is : m ≡ told_by turned.turn
  told_is = told_once m (told_by turned.turn) (sym made.told ∙ (ap told_of turned.step_is ∙ told_as turned.turn))

  asking_is : asking ≡ asking_of (steps_of (before turned.turn))
  asking_is = r.asking_is ∙ ap asking_of turned.made_is

  words_move : WordsMove j (step_of turned.turn) b b'
  words_move = subst (λ x. WordsMove j x b b') turned.step_is made.moved.words

  abbrev seen_after_step : List ℕ
  seen_after_step = slice_set l.seen j (seen_after (world_of files history l) l (seen_by l j) m end)

  sees : SeenStand b' seen_after_step
  sees =
      let own : seen_after (world_of files history l) l (seen_by l j) (told_by turned.turn) (end_of position turned.turn) ≡ reach (record_of j b') =
      seen_so b b' (world_of files history l) l doings stand j worker position turned.turn (subst (λ x. Raises j x b b') turned.step_is made.moved.raises) in
      let at : seen_after (world_of files history l) l (seen_by l j) m end ≡ reach (record_of j b') =
      subst (λ x. seen_after (world_of files history l) l (seen_by l j) x end ≡ reach (record_of j b')) (sym told_is)
      (subst (λ x. seen_after (world_of files history l) l (seen_by l j) (told_by turned.turn) x ≡ reach (record_of j b')) (sym turned.end_is) own) in
      seen_set b b' (world_of files history l) l doings j (seen_after (world_of files history l) l (seen_by l j) m end) stand worker made.moved.others at

  meets_case : StepsJob (world_of files history l) l j (job_of l j) m end
  meets_case =
      let own : StepsRelease l position (asking_of (steps_of (before turned.turn))) (told_by turned.turn) (end_of position turned.turn) =
      step_meets b b' l j position turned.turn stand.words.durable stand.words.has_failed words_move turned.tells in
      let at : StepsRelease l position asking m end =
      subst (λ x. StepsRelease l position x m end) (sym asking_is)
      (subst (λ x. StepsRelease l position (asking_of (steps_of (before turned.turn))) x end) (sym told_is)
      (subst (λ x. StepsRelease l position (asking_of (steps_of (before turned.turn))) (told_by turned.turn) x) (sym turned.end_is) own)) in
      subst (λ x. StepsJob (world_of files history l) l j x m end) (sym job_is) at

  effects : KeepsEffects b b'
  effects = effects_kept b b' (world_of files history l) l doings j m stand worker made

  same_books : b'.history ≡ b.history
  same_books = same_history b b' j turned.turn words_move

  after_release : WorkersStand b' (world_of files history (changed l j (job_after (Releasing asked position asking) m end) seen_after_step l.places))
      (changed l j (job_after (Releasing asked position asking) m end) seen_after_step l.places) doings'
  after_release =
      let job : Job = job_after (Releasing asked position asking) m end in
      let none : drawn_by job ≡ drawn_by (job_of l j) = undrawn asked position asking m end ∙ sym (ap drawn_by job_is) in
      let stands : JobStands b.stripes (record_of j b') doing job =
      job_stands b.stripes (record_of j b) (record_of j b') walk asked position asking r made.step m made.steps made.told turned.holding turned.calls s doing end allowed leaves in
      job_changed b b' (world_of files history l) (world_of files history (changed l j job seen_after_step l.places)) l doings doings' j doing job seen_after_step l.places stand worker
      made.moved.stripes made.moved.passes effects.keeper made.moved.others goes
      (subst (λ n. JobStands n (record_of j b') doing job) (sym made.moved.stripes) stands)
      (words_moved b b' files history history [] l j job seen_after_step l.places stand.words made.one made.apart made.moved.opening made.moved.stripes effects (same_books ∙ sym (append-nil b.history)) (sym (append-nil history)))
      sees
      (places_kept b b' l (changed l j job seen_after_step l.places) (ap (λ o. o.first) made.moved.opening) same_books effects.taken refl refl
      (each_job (λ i x. drawn_by x ≡ drawn_by (job_of l i)) l.jobs j job (omega (arith, worker, stand.jobs)) none (λ i ne. refl)) stand.places)

  legal_reply : IsLegalCall (whole history) (call position asked r.reply)
  legal_reply =
      let same : (record_of j b).calls ≡ r.begun.calls = (release_goes b.stripes r.begun position r.reply (record_of j b) walk.stage r.fits).by.calls in
      legal_in_world b (world_of files history l) l j (call position asked r.reply) stand.words (omega (arith, worker, stand.passes))
      (subst (λ cs. Contains cs (call position asked r.reply)) (sym same) r.call_is)

  release_goes_on : (found : Opened) → KeepsStanding (world_of files history l) found (event.Step j) (outcome.Stepped m end) b' doings'
  unfolding after
  release_goes_on found = record {
    meets = fitting (world_of files history l) found (event.Step j) (outcome.Stepped m end) (rw (is_one j worker, job_is) refl) meets_case;
    answers = subst (λ x. ReleasesLegal history (move_of x m end)) (sym job_is)
        (legal_step history b.stripes position r.reply r.begun (record_of j b') asked asking m s doing end allowed leaves legal_reply);
    stand = subst (λ x. WorkersStand b' (world_of files (history_after history x m) (changed l j (job_after x m end) seen_after_step (places_after l x m)))
        (changed l j (job_after x m end) seen_after_step (places_after l x m)) doings') (sym job_is) after_release;
  }

pub release_steps : ReleaseSteps
unfolding IsRelease
release_steps b b' w found doings doings' j walk s m doing end stand worker releases made next leaves goes = in_life b w doings (λ x. KeepsStanding x found (event.Step j) (outcome.Stepped m end) b' doings')
    (λ files history l stands.
    let is : IsRelease b.stripes (record_of j b) walk (job_of l j) = a_release b.stripes (record_of j b) walk (job_of l j) (subst (λ d. JobStands b.stripes (record_of j b) d (job_of l j)) releases (stands.each j worker)) in
    release_goes_on b b' files history l doings doings' j walk s m doing end stands worker made next leaves goes is.0 is.1 is.2 is.3 is.4 found) stand
