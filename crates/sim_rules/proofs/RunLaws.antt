-- A run goes on, row by row.
use Rattle.std.proofs.Common.{◌≡◌, ◌≤◌, inl, inr, ℕ, true, false, List, [], ◌∷◌, ◌++◌, length, take, Option, Some, None, refl, sym, ap, ◌∙◌, subst, arith}
use Rattle.std.specs.List.{AllByRecursion}
use Rattle.std.proofs.lemmas.List.{length-take-le, take-take, take_all}
use Rattle.map_types.specs.declared.commands.Command.{Command}
use Rattle.ticket_order.specs.declared.record.Call.{Call}
use Rattle.ticket_order.specs.Legality.{IsLegalCall}
use Rattle.disk_model.specs.Files.{Contents, Files}
use Rattle.store_layout.specs.FirstFiles.{new_files, old_files}
use Rattle.sim_rules.specs.declared.event.Event.{Event}
use Rattle.sim_rules.specs.declared.event.Event.TheVariants as event
use Rattle.sim_rules.specs.declared.outcome.Outcome.{Outcome}
use Rattle.sim_rules.specs.declared.outcome.Outcome.TheVariants as outcome
use Rattle.sim_rules.specs.Laws.{DrawsInside, EndsInside, OpensOutside, OutcomesAreMoves, NewIsRun, OldIsRun, QuietInside, QuietOutside, ReleasesInside, RowsGoOn, RunsBegin}
use Rattle.sim_rules.specs.Laws.{RunsAnswerAsOneThread, SoundAt, SoundBetweenIsRun, SoundIsRun, StopsOutside}
use Rattle.sim_rules.specs.Machine.{Machine, Move, Calls, Releases, Stops, Opens, AreAllowed, AreReleasedTo, IsAllowed, MayStop, begun, machine}
use Rattle.sim_rules.specs.Machine.{machine_after, moved, whole}
use Rattle.sim_rules.specs.World.{World, old_start, seen_of, start}
use Rattle.sim_rules.specs.Runs.{AreKept, Row, Happens, IsMove, Keeps, LeadsTo, MayMove, moved_by, rows_of, rows_onto}
use Rattle.sim_rules.specs.Sound.{AreAbove, Stays}
use Rattle.sim_rules.proofs.MachineLaws.{released_stay_legal}

-- ---- one row more

-- what the rows led to goes on with this move, or none
module _ (from : World) (rows : List Row) (w : World) (a : Machine) (row : Row) (w' : World) where
  led : LeadsTo from rows w a → Happens w row w' → (move : Option Move) → Keeps w a row w' (moved_by a move) → IsMove w row.0 row.1 move → MayMove a move → LeadsTo from (row ∷ rows) w' (moved_by a move)
  unfolding LeadsTo
  led leads happens move keeps is allowed = (w, a, leads, happens, record { move = move; is_move = is; allowed = allowed; machine = refl }, keeps)

released_further : (p q : ℕ) (calls : List Call) → p ≤ q → AreReleasedTo p calls → AreReleasedTo q calls
released_further p q [] l all = tt
released_further p q (call ∷ calls) l all = (omega (arith, all.0, l), released_further p q calls l all.1)

-- contents of no fewer commands than this count keep each that was released
above_kept : (w : World) (least : ℕ) (h : List Command) (released : List Call) → AreReleasedTo least released → (contents : Contents) → AreAbove w least contents → AreKept w (machine h released) contents
above_kept w least h released within contents above = record { front = above.front; released = released_further least above.front.count released above.above within }

-- whatever the machine's history is
stays_kept : (w : World) (least : ℕ) (row : Row) (w' : World) (next : ℕ) (h h' : List Command) (released released' : List Call) → AreReleasedTo least released → AreReleasedTo next released' → Stays w least row w' next
    → Keeps w (machine h released) row w' (machine h' released')
stays_kept w least row w' next h h' released released' within within' stays = record {
  within = λ contents leaves. above_kept w least h released within contents (stays.within contents leaves);
  left = λ contents leaves. above_kept w' next h' released' within' contents (stays.left contents leaves);
  read = above_kept w' next h' released' within' (seen_of w'.files) stays.read;
}

-- the machine with the history that the world has
at_history : (from : World) (rows : List Row) (w : World) (h : List Command) (released : List Call) → w.history ≡ h → LeadsTo from rows w (machine h released) → LeadsTo from rows w (machine w.history released)
at_history from rows w h released same leads = subst (λ (x : List Command). LeadsTo from rows w (machine x released)) (sym same) leads

-- ---- in a life

pub quiet_inside : QuietInside
quiet_inside from rows w durable released row w' durable' sound happens stays is same l =
    let within = released_further durable durable' released l sound.within in
    record {
      leads = at_history from (row ∷ rows) w' w.history released same
          (led from rows w (machine w.history released) row w' sound.leads happens None (stays_kept w durable row w' durable' w.history w.history released released sound.within within stays) is tt);
      within = within;
    }

pub draws_inside : DrawsInside
draws_inside from rows w durable released row w' c sound happens stays is same = record {
  leads = at_history from (row ∷ rows) w' (w.history ++ c ∷ []) released same
      (led from rows w (machine w.history released) row w' sound.leads happens (Some (Calls c))
      (stays_kept w durable row w' durable w.history (w.history ++ c ∷ []) released released sound.within sound.within stays) is tt);
  within = sound.within;
}

pub releases_inside : ReleasesInside
releases_inside from rows w durable released row w' call sound happens stays is same legal l = record {
  leads = at_history from (row ∷ rows) w' w.history (call ∷ released) same
      (led from rows w (machine w.history released) row w' sound.leads happens (Some (Releases call))
      (stays_kept w durable row w' durable w.history w.history released (call ∷ released) sound.within (l, sound.within) stays) is legal);
  within = (l, sound.within);
}

-- ---- ends of a life

-- each number of commands that may be left, in terms of the history before
for_each : (from : World) (rows : List Row) (w : World) (h : List Command) (released : List Call) → w.history ≡ h
    → ((p : ℕ) → MayStop p (machine h released) → LeadsTo from rows w (machine (take p h) released))
    → (p : ℕ) → MayStop p (machine w.history released) → LeadsTo from rows w (machine (take p w.history) released)
for_each from rows w h released same each =
    subst (λ (x : List Command). (p : ℕ) → MayStop p (machine x released) → LeadsTo from rows w (machine (take p x) released)) (sym same) each

within_history : (w w' : World) (least : ℕ) → w'.history ≡ w.history → least ≤ length w.history → least ≤ length w'.history
within_history w w' least same l = subst (λ (x : List Command). least ≤ length x) (sym same) l

pub ends_inside : EndsInside
ends_inside from rows w durable released row w' least sound happens stays is same l reached =
    let within = released_further durable least released l sound.within in
    record {
      leads = for_each from (row ∷ rows) w' w.history released same (λ p may.
          led from rows w (machine w.history released) row w' sound.leads happens (Some (Stops p))
          (stays_kept w durable row w' least w.history (take p w.history) released released sound.within within stays) (is p) may);
      within = within;
      reached = within_history w w' least same reached;
    }

-- a stop that leaves p of the first p commands leaves all of them
left_as_many : (h : List Command) (released : List Call) (p : ℕ) → MayStop p (machine h released) → MayStop p (machine (take p h) released)
left_as_many h released p may = record { released = may.released; within = omega (arith, length-take-le p h may.within) }

pub stops_outside : StopsOutside
stops_outside from rows w least released row w' sound happens stays is same = record {
  leads = for_each from (row ∷ rows) w' w.history released same (λ p may.
      subst (λ (x : List Command). LeadsTo from (row ∷ rows) w' (machine x released)) (take-take p p w.history (omega arith))
      (led from rows w (machine (take p w.history) released) row w' (sound.leads p may) happens (Some (Stops p))
      (stays_kept w least row w' least (take p w.history) (take p (take p w.history)) released released sound.within sound.within stays) (is p) (left_as_many w.history released p may)));
  within = sound.within;
  reached = within_history w w' least same sound.reached;
}

-- ---- between lives

pub quiet_outside : QuietOutside
quiet_outside from rows w least released row w' sound happens stays is same = record {
  leads = for_each from (row ∷ rows) w' w.history released same (λ p may.
      led from rows w (machine (take p w.history) released) row w' (sound.leads p may) happens None
      (stays_kept w least row w' least (take p w.history) (take p w.history) released released sound.within sound.within stays) is tt);
  within = sound.within;
  reached = within_history w w' least same sound.reached;
}

pub opens_outside : OpensOutside
opens_outside from rows w least released row w' p m sound happens stays is same l within map_is =
    let may : MayStop p (machine w.history released) = record { released = released_further least p released l sound.within; within = within } in
    record {
      leads = at_history from (row ∷ rows) w' (take p w.history) released same
          (led from rows w (machine (take p w.history) released) row w' (sound.leads p may) happens (Some (Opens p m))
          (stays_kept w least row w' p (take p w.history) (take p w.history) released released sound.within may.released stays) is (sym (length-take-le p w.history within), map_is));
      within = may.released;
    }

pub sound_at : (files : Files) → SoundAt (record { files = files; history = []; life = None })
unfolding begun LeadsTo
sound_at files = record {
  leads = λ p may. (refl, ap (λ (x : List Command). machine x []) (take_all p [] (omega arith)));
  within = tt;
  reached = omega arith;
}

pub sound_at_start : SoundAt start
unfolding start
sound_at_start = sound_at (new_files 16)

pub sound_at_old_start : SoundAt old_start
unfolding old_start
sound_at_old_start = sound_at (old_files 16)

-- ---- whole runs

pub sound_is_run : SoundIsRun
sound_is_run from events outcomes w durable released one_each sound opens = record {
  one_each = one_each;
  world = w;
  machine = machine w.history released;
  leads = sound.leads;
  opens = opens;
}

pub sound_between_is_run : SoundBetweenIsRun
sound_between_is_run from events outcomes w least released one_each sound opens = record {
  one_each = one_each;
  world = w;
  machine = machine (take least w.history) released;
  leads = sound.leads least (record { released = sound.within; within = sound.reached });
  opens = opens;
}

pub runs_begin : RunsBegin
runs_begin [] outcomes run = inl run
runs_begin (event.Old ∷ events) (outcome.Old ∷ outcomes) run = inr (events, outcomes, refl, refl, run)
runs_begin (event.Old ∷ events) outcomes run = absurd run
runs_begin (e ∷ events) outcomes run = inl run

pub new_is_run : NewIsRun
new_is_run [] outcomes new run = run
new_is_run (event.Old ∷ events) outcomes new run = absurd (let no : true ≡ false = new in cc)
new_is_run (e ∷ events) outcomes new run = run

pub old_is_run : OldIsRun
old_is_run [] outcomes old run = absurd (let no : false ≡ true = old in cc)
old_is_run (event.Old ∷ events) outcomes old run = run
old_is_run (e ∷ events) outcomes old run = absurd (let no : false ≡ true = old in cc)

MovesTo : Machine → Type 0
MovesTo a = (moves : List Move) × AreAllowed moves × (machine_after moves ≡ a)

moved_on : (a b : Machine) (move : Option Move) → MayMove a move → b ≡ moved_by a move → MovesTo a → MovesTo b
unfolding MovesTo
moved_on a b None may is (moves, allowed, after) = (moves, allowed, after ∙ sym is)
moved_on a b (Some move) may is (moves, allowed, after) =
    (move ∷ moves, (subst (λ (x : Machine). IsAllowed x move) (sym after) may, allowed), ap (λ (x : Machine). moved x move) after ∙ sym is)

moves_of : (from : World) (rows : List Row) (w : World) (a : Machine) → LeadsTo from rows w a → MovesTo a
unfolding LeadsTo MovesTo
moves_of from [] w a (world, machine) = ([], tt, sym machine)
moves_of from (row ∷ rows) w a (w0, a0, leads, happens, moves, keeps) = moved_on a0 a moves.move moves.allowed moves.machine (moves_of from rows w0 a0 leads)

pub outcomes_are_moves : OutcomesAreMoves
unfolding MovesTo
outcomes_are_moves = moves_of

answer_as_one_thread : (from : World) (rows : List Row) (w : World) (a : Machine) → LeadsTo from rows w a → AllByRecursion (IsLegalCall (whole a.history)) a.released
unfolding MovesTo
answer_as_one_thread from rows w a leads =
    let found : MovesTo a = moves_of from rows w a leads in
    subst (λ (x : Machine). AllByRecursion (IsLegalCall (whole x.history)) x.released) found.2 (released_stay_legal found.0 found.1)

pub runs_answer_as_one_thread : RunsAnswerAsOneThread
runs_answer_as_one_thread from events outcomes run = answer_as_one_thread from (rows_of events outcomes) run.world run.machine run.leads

-- ---- rows

rows_onto_more : (rows : List Row) (events : List Event) (outcomes : List Outcome) (e : Event) (x : Outcome) → length outcomes ≡ length events
    → rows_onto rows (events ++ e ∷ []) (outcomes ++ x ∷ []) ≡ (e, x) ∷ rows_onto rows events outcomes
unfolding rows_onto
rows_onto_more rows [] [] e x same = refl
rows_onto_more rows [] (y ∷ outcomes) e x same = absurd (omega (arith, same))
rows_onto_more rows (f ∷ events) [] e x same = absurd (omega (arith, same))
rows_onto_more rows (f ∷ events) (y ∷ outcomes) e x same = rows_onto_more ((f, y) ∷ rows) events outcomes e x (omega (arith, same))

pub rows_go_on : RowsGoOn
rows_go_on events outcomes e x same = rows_onto_more [] events outcomes e x same
