-- A worker's call makes a step.
use Rattle.std.proofs.Common.{ℕ, ◌≡◌, ◌+◌, ◌<◌, List, [], ◌∷◌, ◌++◌, Some, None, true, false, length, refl, arith, sym, ◌∙◌, ap, subst, append-nil}
use Rattle.std.specs.Prelude.{not, slice_set}
use Rattle.std.specs.List.{Contains}
use Rattle.std.proofs.lemmas.List.Elements.{Contains-push}
use Rattle.java_hash.specs.Stripes.{stripe_of}
use Rattle.map_types.specs.declared.commands.Command.{Command}
use Rattle.map_types.specs.declared.commands.Read as read_type
use Rattle.map_types.specs.declared.commands.Reply.{Reply}
use Rattle.map_types.specs.declared.refusals.Refusal.{Refusal}
use Rattle.map_types.specs.declared.refusals.Refusal.TheVariants as refusal
use Rattle.disk_model.specs.Files.{Files}
use Rattle.store_layout.specs.Opening.{Opened}
use Rattle.ticket_order.specs.declared.held.Held.{Held}
use Rattle.ticket_order.specs.declared.record.Asked.{Asked}
use Rattle.ticket_order.specs.declared.record.Asked.TheVariants.{Changing, Reading}
use Rattle.ticket_order.specs.declared.record.Call.{Call}
use Rattle.ticket_order.specs.declared.record.StepMade.{StepMade}
use Rattle.ticket_order.specs.declared.record.Record.{Record}
use Rattle.ticket_order.specs.declared.walk.Walk.{Walk}
use Rattle.ticket_order.specs.declared.walk.Stepped.{Stepped}
use Rattle.ticket_order.specs.declared.walk.Stepped.TheVariants as stepped
use Rattle.ticket_order.specs.Records.{call, reach}
use Rattle.ticket_order.specs.Calls.{RefusesChange, RefusesRead}
use Rattle.ticket_order.specs.Walks.{Next}
use Rattle.one_history.specs.declared.book.Book.{Book}
use Rattle.one_history.specs.Turns.{record_of}
use Rattle.one_history.specs.Moves.{Raises, WordsMove}
use Rattle.sim_rules.specs.declared.event.Event.TheVariants as event
use Rattle.sim_rules.specs.declared.outcome.End.{End}
use Rattle.sim_rules.specs.declared.outcome.Made.{Made}
use Rattle.sim_rules.specs.declared.outcome.Made.TheVariants as told
use Rattle.sim_rules.specs.declared.outcome.Outcome.TheVariants as outcome
use Rattle.sim_rules.specs.World.{World, Life, Job, Idle, Walks, Keeps, Releasing, Place, Stage, Begins, job_of, seen_by, stripe_asked}
use Rattle.sim_rules.specs.After.{after, history_after, job_after, places_after, seen_after, stage_after}
use Rattle.sim_rules.specs.Cases.{StepsCall, StepsJob}
use Rattle.sim_rules.specs.Runs.{move_of}
use Rattle.sim_rules.specs.Sound.{ReleasesLegal}
use Rattle.sim_rules.specs.Told.{told_of}
use Rattle.sim_workers.specs.Doings.{Doing, Calls, CallLeaves, IsCalling, IsKeeping, JobStands, stage_from, stage_of, stage_with, task_of}
use Rattle.sim_workers.specs.WordsInWorld.{PlacesStand, drawn_at, drawn_by}
use Rattle.sim_workers.specs.Workers.{IsNowDoing, MakesStep, StepsWalk, WorkersStand}
use Rattle.sim_workers.specs.Laws.{CallSteps, KeepsStanding}
use Rattle.sim_workers.proofs.Lists.{ends_same, onto}
use Rattle.sim_workers.proofs.Ways.{steps_on}
use Rattle.sim_workers.proofs.Turns.{Turn, Takes, Misses, FindsAlive, FindsDead, GivesUp, Looks, GivesSpent, GivesStarved, DrawsTicket, GivesUnread, GivesRead, GivesChange, IsTurn, Tells, before, end_of, step_of, told_by, turn_of}
use Rattle.sim_workers.proofs.WorkersInWorld.{SeenStand, changed, each_job, fitting, in_life, is_one, job_changed, places_kept, seen_set, world_of}
use Rattle.sim_workers.proofs.Holding.{calls_since, held_by_another, held_by_none}
use Rattle.sim_workers.proofs.Places.{places_drawn, places_given}
use Rattle.sim_workers.proofs.Moving.{KeepsEffects, counted, effects_kept, words_moved}
use Rattle.sim_workers.proofs.Seen.{IsCallless, call_seen, read_position}

no_change : (r : read_type.Read) (c : Command) → Reading r ≡ Changing c → ⊥
no_change r c e = cc

-- ---- the case of the step

module _ (b b' : Book) (w : World) (l : Life) (doings : ℕ → Doing) (stand : WorkersStand b w l doings) (j : ℕ) (worker : j < 64) (begun : Record) where
  step_meets : (asked : Asked) (i : ℕ) (turn : Turn) → WordsMove j (step_of i turn) b b' → Raises j (step_of i turn) b b'
      → IsCallless b b' w l doings stand j worker begun asked i turn → Tells begun asked turn (record_of j b')
      → StepsCall w l j i asked (stage_of (steps_on i (before turn))) (told_by i turn) (end_of i turn)
  unfolding stage_from
  step_meets asked i (Takes found) words raises since tells = (refl, held_by_none b w l doings stand i words.1)
  step_meets asked i Misses words raises since tells = (refl, refl, held_by_another b w l doings stand i j words.1)
  step_meets asked i (FindsAlive found) words raises since tells = words.1 ∙ ap not (sym stand.words.has_failed)
  step_meets asked i (FindsDead found) words raises since tells = words.1 ∙ ap not (sym stand.words.has_failed)
  step_meets asked i (GivesUp found) words raises since tells = refl
  step_meets (Changing c) i (Looks found q) words raises since tells = words.1 ∙ sym (counted b w l stand.words)
  step_meets (Changing c) i (GivesSpent found q) words raises since tells = (refl, tells.1)
  step_meets (Changing c) i (GivesStarved found q) words raises since tells = (refl, tells.1)
  step_meets (Changing c) i (DrawsTicket found q t) words raises since tells = (words.ticket_is ∙ sym (counted b w l stand.words), tells.below)
  step_meets (Changing c) i (GivesUnread found) words raises since tells = absurd tells.0
  step_meets (Changing c) i (GivesRead found q) words raises since tells = absurd tells.asks
  step_meets (Changing c) i (GivesChange found q t) words raises since tells = (refl, refl)
  step_meets (Reading r) i (Looks found q) words raises since tells = absurd tells
  step_meets (Reading r) i (GivesSpent found q) words raises since tells = absurd tells.0
  step_meets (Reading r) i (GivesStarved found q) words raises since tells = absurd tells.0
  step_meets (Reading r) i (GivesUnread found) words raises since tells = refl
  step_meets (Reading r) i (DrawsTicket found q t) words raises since tells = absurd (no_change r tells.command tells.asked_is)
  step_meets (Reading r) i (GivesRead found q) words raises since tells = (refl, read_position b b' w l doings stand j worker begun (Reading r) i q raises (since refl) tells)
  step_meets (Reading r) i (GivesChange found q t) words raises since tells = absurd tells.0

-- ---- the job after the step

stage_more : (s : Stage) (made : List StepMade) (step : StepMade) (m : Made) → told_of step ≡ Some m → stage_after (stage_from s made) m ≡ stage_from s (made ++ step ∷ [])
unfolding stage_from
stage_more s [] step m is = ap (stage_with s) (sym is)
stage_more s (x ∷ made) step m is = stage_more (stage_with s (told_of x)) made step m is

change_free : (v p : Record) (i : ℕ) (e : Refusal) → v.holding ≡ None → RefusesChange v i e p → p.holding ≡ None
change_free v p i (refusal.Busy j) free is = ap (λ (r : Record). r.holding) is.1 ∙ free
change_free v p i refusal.Failed free is = ap (λ (r : Record). r.holding) is.is
change_free v p i refusal.TicketsSpent free is = ap (λ (r : Record). r.holding) is.0.is
change_free v p i refusal.NoMemory free is = ap (λ (r : Record). r.holding) is.0.is
change_free v p i other free is = absurd is

read_free : (v p : Record) (i : ℕ) (e : Refusal) → v.holding ≡ None → RefusesRead v i e p → p.holding ≡ None
read_free v p i (refusal.Busy j) free is = ap (λ (r : Record). r.holding) is.1 ∙ free
read_free v p i refusal.Failed free is = ap (λ (r : Record). r.holding) is.is
read_free v p i refusal.NoMemory free is = ap (λ (r : Record). r.holding) is.is
read_free v p i other free is = absurd is

module _ (n : ℕ) (v : Record) (made : List StepMade) (step : StepMade) (m : Made) (p p' : Record) (since : p.steps ≡ v.steps ++ made) (steps : p'.steps ≡ p.steps ++ step ∷ []) (told_is : told_of step ≡ Some m) (free : v.holding ≡ None) (stage : Stage)
    (stage_is : stage ≡ stage_of made) where
  walks_on : (asked : Asked) (walk : Walk) → Next n v (task_of asked) (stepped.More walk) p' → IsCalling n p' walk asked (stage_after stage m)
  walks_on asked walk next = record {
    begun = v;
    free = free;
    fits = next;
    made = made ++ step ∷ [];
    steps = steps ∙ onto v.steps made p.steps step since;
    stage_is = ap (λ s. stage_after s m) stage_is ∙ stage_more Begins made step m told_is;
  }

  keeps : (asked : Asked) (h : Held) (xs : List Call) → p'.holding ≡ None → p'.calls ≡ xs ++ call h.position asked h.reply ∷ [] → IsKeeping p' h asked h.position
  keeps asked h xs none grew = record { free = none; position_is = refl; call_is = subst (λ cs. Contains cs (call h.position asked h.reply)) (sym grew) (Contains-push xs (call h.position asked h.reply)) }

  job_stands : (asked : Asked) (s : Stepped) (doing : Doing) (end : End) → Next n v (task_of asked) s p' → CallLeaves s doing end → JobStands n p' doing (job_after (Walks asked stage) m end)
  job_stands asked (stepped.More walk) doing end next leaves = rw (leaves.0, leaves.1) (walks_on asked walk next)
  job_stands (Changing c) (stepped.Held h) doing end next leaves = rw (leaves.0, leaves.1) (keeps (Changing c) h v.calls (ap (λ (r : Record). r.holding) next.is) next.grew)
  job_stands (Changing c) (stepped.Refused e) doing end next leaves = rw (leaves.0, leaves.1) (change_free v p' (stripe_of n c.key) e free next)
  job_stands (Reading r) (stepped.Held h) doing end next leaves = rw (leaves.0, leaves.1) (keeps (Reading r) h v.calls (ap (λ (x : Record). x.holding) next.is) next.grew)
  job_stands (Reading r) (stepped.Refused e) doing end next leaves = rw (leaves.0, leaves.1) (read_free v p' (stripe_of n r.key) e free next)
  job_stands asked s doing end next leaves = absurd leaves

-- ---- the history after the step

-- no ticket was drawn
IsQuiet : Made → Type 0
IsQuiet (told.Drew t) = ⊥
IsQuiet m = Unit {0}

quiet_history : (history : List Command) (asked : Asked) (stage : Stage) (m : Made) → IsQuiet m → history_after history (Walks asked stage) m ≡ history
unfolding IsQuiet
quiet_history history (Changing c) stage (told.Drew t) quiet = absurd quiet
quiet_history history (Changing c) stage m quiet = refl
quiet_history history (Reading r) stage m quiet = refl

-- the book's history and the world's grew by the same commands
record Grew (b b' : Book) (history history' : List Command) : Type 0 where
  more : List Command
  book : b'.history ≡ b.history ++ more
  world : history' ≡ history ++ more

module _ (b b' : Book) (history : List Command) (asked : Asked) (stage : Stage) (j : ℕ) where
  quiet_grew : (m : Made) → IsQuiet m → b'.history ≡ b.history → Grew b b' history (history_after history (Walks asked stage) m)
  quiet_grew m quiet same = record { more = []; book = same ∙ sym (append-nil b.history); world = quiet_history history asked stage m quiet ∙ sym (append-nil history) }

-- the command is that of the worker's event
drawn_command : (c d e : Command) (t position : ℕ) (reply reply' : Reply) (xs ys : List Call) → Changing c ≡ Changing d → xs ++ call (t + 1) (Changing e) reply ∷ [] ≡ ys ++ call position (Changing d) reply' ∷ [] → e ≡ c
drawn_command c d e t position reply reply' xs ys is same =
    let last : call (t + 1) (Changing e) reply ≡ call position (Changing d) reply' = (ends_same xs ys (call (t + 1) (Changing e) reply) (call position (Changing d) reply') same).1 in
    let commands : Changing e ≡ Changing d = ap (λ (x : Call). x.asked) last in
    cc

grew : (b b' : Book) (history : List Command) (asked : Asked) (stage : Stage) (j i : ℕ) (turn : Turn) (begun : Record) → WordsMove j (step_of i turn) b b' → Tells begun asked turn (record_of j b') → Grew b b' history (history_after history (Walks asked stage) (told_by i turn))
unfolding IsQuiet
grew b b' history asked stage j i (Takes found) begun words tells = quiet_grew b b' history asked stage j (told.Took i) tt words.0.same.history
grew b b' history asked stage j i Misses begun words tells = quiet_grew b b' history asked stage j (told.FoundHeld i) tt words.0.same.history
grew b b' history asked stage j i (FindsAlive found) begun words tells = quiet_grew b b' history asked stage j (told.FoundAlive true) tt words.0.same.history
grew b b' history asked stage j i (FindsDead found) begun words tells = quiet_grew b b' history asked stage j (told.FoundAlive false) tt words.0.same.history
grew b b' history asked stage j i (GivesUp found) begun words tells = quiet_grew b b' history asked stage j (told.Gave i) tt words.0.history
grew b b' history asked stage j i (Looks found q) begun words tells = quiet_grew b b' history asked stage j (told.Looked q) tt words.0.same.history
grew b b' history asked stage j i (GivesSpent found q) begun words tells = quiet_grew b b' history asked stage j (told.Gave i) tt words.0.history
grew b b' history asked stage j i (GivesStarved found q) begun words tells = quiet_grew b b' history asked stage j (told.Gave i) tt words.0.history
grew b b' history (Changing c) stage j i (DrawsTicket found q t) begun words tells =
    let own : words.command ≡ c = drawn_command c tells.command words.command t tells.position words.reply tells.reply (record_of j b).calls tells.before tells.asked_is (sym words.calls ∙ tells.calls) in
    record { more = c ∷ []; book = words.history ∙ ap (λ d. b.history ++ d ∷ []) own; world = refl }
grew b b' history (Reading r) stage j i (DrawsTicket found q t) begun words tells = absurd (no_change r tells.command tells.asked_is)
grew b b' history asked stage j i (GivesUnread found) begun words tells = quiet_grew b b' history asked stage j (told.Gave i) tt words.0.history
grew b b' history asked stage j i (GivesRead found q) begun words tells = quiet_grew b b' history asked stage j (told.Gave i) tt words.0.history
grew b b' history asked stage j i (GivesChange found q t) begun words tells = quiet_grew b b' history asked stage j (told.Gave i) tt words.0.history

-- ---- the places after the step

Placed : Book → Life → ℕ → List ℕ → Asked → Stage → Made → End → Type 0
Placed b l j seen asked stage m end = PlacesStand b (changed l j (job_after (Walks asked stage) m end) seen (places_after l (Walks asked stage) m))

module _ (b b' : Book) (l : Life) (j : ℕ) (seen : List ℕ) (stand : PlacesStand b l) (within : j < length l.jobs) (first : l.first ≡ b.opening.first) (begins : b'.opening.first ≡ b.opening.first) (taken : b'.effects.taken ≡ b.effects.taken) where
  -- no ticket was drawn, and none given
  quiet : (job : Job) → b'.history ≡ b.history → drawn_by (job_of l j) ≡ None → drawn_by job ≡ None → PlacesStand b' (changed l j job seen l.places)
  quiet job same before now = places_kept b b' l (changed l j job seen l.places) begins same taken refl refl
      (each_job (λ i x. drawn_by x ≡ drawn_by (job_of l i)) l.jobs j job within (now ∙ sym before) (λ i ne. refl)) stand

  placed : (asked : Asked) (i : ℕ) (turn : Turn) → WordsMove j (step_of i turn) b b' → drawn_by (job_of l j) ≡ drawn_at (stage_of (steps_on i (before turn)))
      → Placed b' l j seen asked (stage_of (steps_on i (before turn))) (told_by i turn) (end_of i turn)
  unfolding stage_from Placed
  placed asked i (Takes found) words was = quiet _ words.0.same.history was refl
  placed asked i Misses words was = quiet _ words.0.same.history was refl
  placed asked i (FindsAlive found) words was = quiet _ words.0.same.history was refl
  placed asked i (FindsDead found) words was = quiet _ words.0.same.history was refl
  placed asked i (GivesUp found) words was = quiet _ words.0.history was refl
  placed asked i (Looks found q) words was = quiet _ words.0.same.history was refl
  placed asked i (GivesSpent found q) words was = quiet _ words.0.history was refl
  placed asked i (GivesStarved found q) words was = quiet _ words.0.history was refl
  placed asked i (DrawsTicket found q t) words was =
      places_drawn b b' l j t _ seen stand within first begins words.command words.history taken words.ticket_is was refl
  placed asked i (GivesUnread found) words was = quiet _ words.0.history was refl
  placed asked i (GivesRead found q) words was = quiet _ words.0.history was refl
  placed asked i (GivesChange found q t) words was = places_given b b' l j t _ seen stand within first begins words.0.history taken was refl

-- ---- the step

-- how it is told
told_as : (i : ℕ) (turn : Turn) → told_of (step_of i turn) ≡ Some (told_by i turn)
told_as i (Takes found) = refl
told_as i Misses = refl
told_as i (FindsAlive found) = refl
told_as i (FindsDead found) = refl
told_as i (GivesUp found) = refl
told_as i (Looks found q) = refl
told_as i (GivesSpent found q) = refl
told_as i (GivesStarved found q) = refl
told_as i (DrawsTicket found q t) = refl
told_as i (GivesUnread found) = refl
told_as i (GivesRead found q) = refl
told_as i (GivesChange found q t) = refl

told_once : (m k : Made) → Some m ≡ Some k → m ≡ k
told_once m k e = cc

-- a step of a call releases no reply
nothing_released : (history : List Command) (asked : Asked) (stage : Stage) (m : Made) (end : End) → ReleasesLegal history (move_of (Walks asked stage) m end)
nothing_released history (Changing c) stage (told.Drew t) end = tt
nothing_released history (Changing c) stage m end = tt
nothing_released history (Reading r) stage m end = tt

-- the walk of a call is under way
IsCall : ℕ → Record → Walk → Job → Type 0
IsCall n p walk job = (asked : Asked) × (stage : Stage) × (job ≡ Walks asked stage) × IsCalling n p walk asked stage

a_call : (n : ℕ) (p : Record) (walk : Walk) (job : Job) → JobStands n p (Calls walk) job → IsCall n p walk job
unfolding IsCall
a_call n p walk Idle stands = absurd stands
a_call n p walk (Walks asked stage) stands = (asked, stage, refl, stands)
a_call n p walk (Keeps asked position) stands = absurd stands
a_call n p walk (Releasing asked position asking) stands = absurd stands

module _ (b b' : Book) (files : Files) (history : List Command) (l : Life) (doings doings' : ℕ → Doing) (j : ℕ) (walk : Walk) (s : Stepped) (m : Made) (doing : Doing) (end : End) (stand : WorkersStand b (world_of files history l) l doings) (worker : j < 64)
    (made : MakesStep j b b' m) (next : StepsWalk b.stripes walk (record_of j b) s (record_of j b')) (leaves : CallLeaves s doing end) (goes : IsNowDoing j doing doings doings')
    (asked : Asked) (stage : Stage) (job_is : job_of l j ≡ Walks asked stage) (calling : IsCalling b.stripes (record_of j b) walk asked stage) where
  abbrev stripe : ℕ
  stripe = stripe_asked b.stripes asked

  allowed : Next b.stripes calling.begun (task_of asked) s (record_of j b')
  allowed = next calling.begun (task_of asked) calling.fits

  turned : IsTurn stripe calling.begun asked calling.made made.step end (record_of j b')
  turned = turn_of b.stripes calling.begun calling.made made.step end (record_of j b) (record_of j b') calling.steps made.steps asked s doing allowed leaves

  told_is : m ≡ told_by stripe turned.turn
  told_is = told_once m (told_by stripe turned.turn) (sym made.told ∙ (ap told_of turned.step_is ∙ told_as stripe turned.turn))

  stage_is : stage ≡ stage_of (steps_on stripe (before turned.turn))
  stage_is = calling.stage_is ∙ ap stage_of turned.made_is

  words_move : WordsMove j (step_of stripe turned.turn) b b'
  words_move = subst (λ x. WordsMove j x b b') turned.step_is made.moved.words

  raises : Raises j (step_of stripe turned.turn) b b'
  raises = subst (λ x. Raises j x b b') turned.step_is made.moved.raises

  since : IsCallless b b' (world_of files history l) l doings stand j worker calling.begun asked stripe turned.turn
  since none = calls_since b.stripes (record_of j b) walk asked stage calling (ap drawn_at stage_is ∙ none)

  abbrev seen_after_step : List ℕ
  seen_after_step = slice_set l.seen j (seen_after (world_of files history l) l (seen_by l j) m end)

  sees : SeenStand b' seen_after_step
  sees =
      let own : seen_after (world_of files history l) l (seen_by l j) (told_by stripe turned.turn) (end_of stripe turned.turn) ≡ reach (record_of j b') =
      call_seen b b' (world_of files history l) l doings stand j worker calling.begun asked stripe turned.turn words_move raises since turned.tells in
      let at : seen_after (world_of files history l) l (seen_by l j) m end ≡ reach (record_of j b') =
      subst (λ x. seen_after (world_of files history l) l (seen_by l j) x end ≡ reach (record_of j b')) (sym told_is)
      (subst (λ x. seen_after (world_of files history l) l (seen_by l j) (told_by stripe turned.turn) x ≡ reach (record_of j b')) (sym turned.end_is) own) in
      seen_set b b' (world_of files history l) l doings j (seen_after (world_of files history l) l (seen_by l j) m end) stand worker made.moved.others at

  meets_case : StepsJob (world_of files history l) l j (job_of l j) m end
  meets_case =
      let own : StepsCall (world_of files history l) l j stripe asked (stage_of (steps_on stripe (before turned.turn))) (told_by stripe turned.turn) (end_of stripe turned.turn) =
      step_meets b b' (world_of files history l) l doings stand j worker calling.begun asked stripe turned.turn words_move raises since turned.tells in
      let at : StepsCall (world_of files history l) l j stripe asked stage m end =
      subst (λ x. StepsCall (world_of files history l) l j stripe asked x m end) (sym stage_is)
      (subst (λ x. StepsCall (world_of files history l) l j stripe asked (stage_of (steps_on stripe (before turned.turn))) x end) (sym told_is)
      (subst (λ x. StepsCall (world_of files history l) l j stripe asked (stage_of (steps_on stripe (before turned.turn))) (told_by stripe turned.turn) x) (sym turned.end_is) own)) in
      subst (λ x. StepsJob (world_of files history l) l j x m end) (sym job_is)
      (subst (λ n. StepsCall (world_of files history l) l j (stripe_asked n asked) asked stage m end) (sym stand.words.stripes) at)

  effects : KeepsEffects b b'
  effects = effects_kept b b' (world_of files history l) l doings j m stand worker made

  placed_so : Placed b' l j seen_after_step asked stage m end
  placed_so =
      let was : drawn_by (job_of l j) ≡ drawn_at (stage_of (steps_on stripe (before turned.turn))) = ap drawn_by job_is ∙ ap drawn_at stage_is in
      let own : Placed b' l j seen_after_step asked (stage_of (steps_on stripe (before turned.turn))) (told_by stripe turned.turn) (end_of stripe turned.turn) =
      placed b b' l j seen_after_step stand.places (omega (arith, worker, stand.jobs)) stand.words.first (ap (λ o. o.first) made.moved.opening) effects.taken asked stripe turned.turn words_move was in
      subst (λ x. Placed b' l j seen_after_step asked x m end) (sym stage_is)
      (subst (λ x. Placed b' l j seen_after_step asked (stage_of (steps_on stripe (before turned.turn))) x end) (sym told_is)
      (subst (λ x. Placed b' l j seen_after_step asked (stage_of (steps_on stripe (before turned.turn))) (told_by stripe turned.turn) x) (sym turned.end_is) own))

  grew_so : Grew b b' history (history_after history (Walks asked stage) m)
  grew_so = subst (λ x. Grew b b' history (history_after history (Walks asked stage) x)) (sym told_is) (grew b b' history asked stage j stripe turned.turn calling.begun words_move turned.tells)

  after_call : WorkersStand b' (world_of files (history_after history (Walks asked stage) m) (changed l j (job_after (Walks asked stage) m end) seen_after_step (places_after l (Walks asked stage) m)))
      (changed l j (job_after (Walks asked stage) m end) seen_after_step (places_after l (Walks asked stage) m)) doings'
  unfolding Placed
  after_call =
      let job : Job = job_after (Walks asked stage) m end in
      let places : List Place = places_after l (Walks asked stage) m in
      let stands : JobStands b.stripes (record_of j b') doing job =
      job_stands b.stripes calling.begun calling.made made.step m (record_of j b) (record_of j b') calling.steps made.steps made.told calling.free stage calling.stage_is asked s doing end allowed leaves in
      job_changed b b' (world_of files history l) (world_of files (history_after history (Walks asked stage) m) (changed l j job seen_after_step places)) l doings doings' j doing job seen_after_step places stand worker
      made.moved.stripes made.moved.passes effects.keeper made.moved.others goes
      (subst (λ n. JobStands n (record_of j b') doing job) (sym made.moved.stripes) stands)
      (words_moved b b' files history (history_after history (Walks asked stage) m) grew_so.more l j job seen_after_step places stand.words made.one made.apart made.moved.opening made.moved.stripes effects grew_so.book grew_so.world)
      sees placed_so

  call_goes_on : (found : Opened) → KeepsStanding (world_of files history l) found (event.Step j) (outcome.Stepped m end) b' doings'
  unfolding after
  call_goes_on found = record {
    meets = fitting (world_of files history l) found (event.Step j) (outcome.Stepped m end) (rw (is_one j worker, job_is) refl) meets_case;
    answers = subst (λ x. ReleasesLegal history (move_of x m end)) (sym job_is) (nothing_released history asked stage m end);
    stand = subst (λ x. WorkersStand b' (world_of files (history_after history x m) (changed l j (job_after x m end) seen_after_step (places_after l x m)))
        (changed l j (job_after x m end) seen_after_step (places_after l x m)) doings') (sym job_is) after_call;
  }

pub call_steps : CallSteps
unfolding IsCall
call_steps b b' w found doings doings' j walk s m doing end stand worker calls made next leaves goes = in_life b w doings (λ x. KeepsStanding x found (event.Step j) (outcome.Stepped m end) b' doings')
    (λ files history l stands.
    let is : IsCall b.stripes (record_of j b) walk (job_of l j) = a_call b.stripes (record_of j b) walk (job_of l j) (subst (λ d. JobStands b.stripes (record_of j b) d (job_of l j)) calls (stands.each j worker)) in
    call_goes_on b b' files history l doings doings' j walk s m doing end stands worker made next leaves goes is.0 is.1 is.2 is.3 found) stand
