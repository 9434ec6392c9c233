-- Which step of a call was made, and what it left.
use Rattle.std.proofs.Common.{ℕ, ◌≡◌, ◌+◌, ◌<◌, ◌≤◌, List, [], ◌∷◌, ◌++◌, true, false, length, refl, arith, sym, ◌∙◌, ap, subst, length-append}
use Rattle.java_hash.specs.Stripes.{stripe_of}
use Rattle.map_types.specs.declared.commands.Command.{Command}
use Rattle.map_types.specs.declared.commands.Read as read_type
use Rattle.map_types.specs.declared.refusals.Refusal.{Refusal}
use Rattle.map_types.specs.declared.refusals.Refusal.TheVariants as refusal
use Rattle.ticket_order.specs.declared.held.Held.{Held}
use Rattle.ticket_order.specs.declared.record.Asked.{Asked}
use Rattle.ticket_order.specs.declared.record.Asked.TheVariants.{Changing, Reading}
use Rattle.ticket_order.specs.declared.record.Call.{Call}
use Rattle.ticket_order.specs.declared.record.Purpose.TheVariants.{Nothing}
use Rattle.ticket_order.specs.declared.record.StepMade.{StepMade}
use Rattle.ticket_order.specs.declared.record.StepMade.TheVariants.{FoundHeld, Gave, Drew, Looked, FoundAlive}
use Rattle.ticket_order.specs.declared.record.Record.{Record}
use Rattle.ticket_order.specs.declared.walk.Walk.{Walk}
use Rattle.ticket_order.specs.declared.walk.Stepped.{Stepped}
use Rattle.ticket_order.specs.declared.walk.Stepped.TheVariants as stepped
use Rattle.ticket_order.specs.Records.{ticket_limit, call, reach, taking, living, giving, missing}
use Rattle.ticket_order.specs.Calls.{walked, FindsFailure, FindsNoFailure, GivesBack, LooksAround, MakesCall, MakesRead, RefusesChange, RefusesRead}
use Rattle.ticket_order.specs.Walks.{Next}
use Rattle.sim_rules.specs.declared.outcome.End.{End}
use Rattle.sim_rules.specs.declared.outcome.End.TheVariants as ends
use Rattle.sim_rules.specs.declared.outcome.Made.{Made}
use Rattle.sim_rules.specs.declared.outcome.Made.TheVariants as told
use Rattle.sim_rules.specs.World.{stripe_asked}
use Rattle.sim_workers.specs.Doings.{Doing, CallLeaves, task_of}
use Rattle.sim_workers.proofs.Lists.{ends_same, never_empty, onto, same_rest}
use Rattle.sim_workers.proofs.Ways.{Found, found_in, take_of, Way, Starts, HasStripe, Lives, FindsNone, Sees, Draws, GoesBy, HasDrawnFor, IsChange, Knows, alive_steps, call_goes, drawn_steps, steps_on, walked_steps}

-- A step of a call: from where it was made, what it was, and how the walk went on or ended.
pub data Turn : Type 0 where
  Takes : Found → Turn
  Misses : Turn
  FindsAlive : Found → Turn
  FindsDead : Found → Turn
  GivesUp : Found → Turn
  Looks : Found → ℕ → Turn
  GivesSpent : Found → ℕ → Turn
  GivesStarved : Found → ℕ → Turn
  DrawsTicket : Found → ℕ → ℕ → Turn
  GivesUnread : Found → Turn
  GivesRead : Found → ℕ → Turn
  GivesChange : Found → ℕ → ℕ → Turn

abbrev pub before : Turn → Way
before (Takes found) = Starts
before Misses = Starts
before (FindsAlive found) = HasStripe found
before (FindsDead found) = HasStripe found
before (GivesUp found) = FindsNone found
before (Looks found q) = Lives found
before (GivesSpent found q) = Sees found q
before (GivesStarved found q) = Sees found q
before (DrawsTicket found q t) = Sees found q
before (GivesUnread found) = Lives found
before (GivesRead found q) = Lives found
before (GivesChange found q t) = Draws found q t

abbrev pub step_of : ℕ → Turn → StepMade
step_of i (Takes found) = take_of i found
step_of i Misses = FoundHeld i
step_of i (FindsAlive found) = FoundAlive true
step_of i (FindsDead found) = FoundAlive false
step_of i (GivesUp found) = Gave i
step_of i (Looks found q) = Looked q
step_of i (GivesSpent found q) = Gave i
step_of i (GivesStarved found q) = Gave i
step_of i (DrawsTicket found q t) = Drew t
step_of i (GivesUnread found) = Gave i
step_of i (GivesRead found q) = Gave i
step_of i (GivesChange found q t) = Gave i

abbrev pub told_by : ℕ → Turn → Made
told_by i (Takes found) = told.Took i
told_by i Misses = told.FoundHeld i
told_by i (FindsAlive found) = told.FoundAlive true
told_by i (FindsDead found) = told.FoundAlive false
told_by i (GivesUp found) = told.Gave i
told_by i (Looks found q) = told.Looked q
told_by i (GivesSpent found q) = told.Gave i
told_by i (GivesStarved found q) = told.Gave i
told_by i (DrawsTicket found q t) = told.Drew t
told_by i (GivesUnread found) = told.Gave i
told_by i (GivesRead found q) = told.Gave i
told_by i (GivesChange found q t) = told.Gave i

abbrev pub end_of : ℕ → Turn → End
end_of i (Takes found) = ends.Goes
end_of i Misses = ends.Refused (refusal.Busy i)
end_of i (FindsAlive found) = ends.Goes
end_of i (FindsDead found) = ends.Goes
end_of i (GivesUp found) = ends.Refused refusal.Failed
end_of i (Looks found q) = ends.Goes
end_of i (GivesSpent found q) = ends.Refused refusal.TicketsSpent
end_of i (GivesStarved found q) = ends.Refused refusal.NoMemory
end_of i (DrawsTicket found q t) = ends.Goes
end_of i (GivesUnread found) = ends.Refused refusal.NoMemory
end_of i (GivesRead found q) = ends.Held q
end_of i (GivesChange found q t) = ends.Held (t + 1)

-- the call is a read
abbrev pub IsRead : Asked → Type 0
IsRead (Changing c) = ⊥
IsRead (Reading r) = Unit {0}

-- the read was made at the greatest position that the pass has seen, by this one call
pub record HasRead (b : Record) (asked : Asked) (q : ℕ) (p : Record) : Type 0 where
  pub asks : IsRead asked
  pub reached : q ≡ reach p
  pub read : Call
  pub calls : p.calls ≡ b.calls ++ read ∷ []

-- what the turn says of its walk, which began at b, and of the record p that it left
abbrev pub Tells : Record → Asked → Turn → Record → Type 0
Tells b asked (GivesUp found) p = p.calls ≡ b.calls
Tells b asked (Looks found q) p = IsChange asked
Tells b asked (DrawsTicket found q t) p = HasDrawnFor asked q t p
Tells b asked (GivesSpent found q) p = IsChange asked × (ticket_limit ≤ q) × (p.calls ≡ b.calls)
Tells b asked (GivesStarved found q) p = IsChange asked × (q < ticket_limit) × (p.calls ≡ b.calls)
Tells b asked (GivesUnread found) p = IsRead asked × (p.calls ≡ b.calls)
Tells b asked (GivesRead found q) p = HasRead b asked q p
Tells b asked (GivesChange found q t) p = IsChange asked × (t + 1 ≡ reach p)
Tells b asked turn p = Unit {0}

-- The step was made after these, since the walk began at b, and it left the record p.
pub record IsTurn (i : ℕ) (b : Record) (asked : Asked) (made : List StepMade) (step : StepMade) (end : End) (p : Record) : Type 0 where
  pub turn : Turn
  pub made_is : made ≡ steps_on i (before turn)
  pub step_is : step ≡ step_of i turn
  pub end_is : end ≡ end_of i turn
  pub tells : Tells b asked turn p

module _ (i : ℕ) (b : Record) (asked : Asked) (made : List StepMade) (step : StepMade) (end : End) (p : Record) where
  turns : (turn : Turn) → made ++ step ∷ [] ≡ steps_on i (before turn) ++ step_of i turn ∷ [] → end ≡ end_of i turn → Tells b asked turn p → IsTurn i b asked made step end p
  turns turn is end_is tells =
      let both : (made ≡ steps_on i (before turn)) × (step ≡ step_of i turn) = ends_same made (steps_on i (before turn)) step (step_of i turn) is in
      record { turn = turn; made_is = both.0; step_is = both.1; end_is = end_is; tells = tells }

  -- the walk goes on
  goes_on : (way : Way) → Knows b asked way p → steps_on i way ≡ made ++ step ∷ [] → end ≡ ends.Goes → IsTurn i b asked made step end p
  goes_on Starts knows is end_is = absurd (never_empty made step is)
  goes_on (HasStripe found) knows is end_is = turns (Takes found) (sym is) end_is tt
  goes_on (Lives found) knows is end_is = turns (FindsAlive found) (sym is) end_is tt
  goes_on (FindsNone found) knows is end_is = turns (FindsDead found) (sym is) end_is tt
  goes_on (Sees found q) knows is end_is = turns (Looks found q) (sym is) end_is knows.0
  goes_on (Draws found q t) knows is end_is = turns (DrawsTicket found q t) (sym is) end_is knows

-- the record after the step, of which the walk began at b
module _ (n : ℕ) (b : Record) (made : List StepMade) (step : StepMade) (end : End) (p p' : Record) (since : p.steps ≡ b.steps ++ made) (steps : p'.steps ≡ p.steps ++ step ∷ []) where
  -- these are all steps since the walk began
  rest : (more : List StepMade) → p'.steps ≡ b.steps ++ more → made ++ step ∷ [] ≡ more
  rest more is = sym (same_rest b.steps made more p.steps step since (sym steps ∙ is))

  more_turn : (asked : Asked) (walk : Walk) → Next n b (task_of asked) (stepped.More walk) p' → end ≡ ends.Goes → IsTurn (stripe_asked n asked) b asked made step end p'
  more_turn asked walk next end_is =
      let by : GoesBy n b asked p' = call_goes n b asked walk.stage p' next in
      goes_on (stripe_asked n asked) b asked made step end p' by.way by.knows (sym (rest (steps_on (stripe_asked n asked) by.way) by.steps)) end_is

  -- a change was made
  change_turn : (c : Command) (h : Held) → MakesCall n b c h.position h.reply p' → end ≡ ends.Held h.position → IsTurn (stripe_of n c.key) b (Changing c) made step end p'
  change_turn c h is end_is =
      let i : ℕ = stripe_of n c.key in
      let q : ℕ = reach (walked b i is.part is.outbox is.last is.taken is.looked) in
      let t : ℕ = b.opening.first + length (((b.seen ++ is.taken) ++ is.looked) ++ is.drawn) in
      let position : h.position ≡ t + 1 = is.position_is ∙ (ap reach is.is ∙ omega (arith, length-append (((b.seen ++ is.taken) ++ is.looked) ++ is.drawn) (c ∷ []))) in
      turns i b (Changing c) made step end p' (GivesChange (found_in is.outbox is.last) q t)
      (rest (steps_on i (Draws (found_in is.outbox is.last) q t) ++ Gave i ∷ [])
      (ap (λ (r : Record). r.steps) is.is ∙ onto b.steps (steps_on i (Draws (found_in is.outbox is.last) q t)) _ (Gave i) (drawn_steps b i is.part is.outbox is.last is.taken is.looked is.drawn c)))
      (end_is ∙ ap (λ k. ends.Held k) position) (tt, sym position ∙ is.position_is)

  -- a read was made
  read_turn : (r : read_type.Read) (h : Held) → MakesRead n b r h.position h.reply p' → end ≡ ends.Held h.position → IsTurn (stripe_of n r.key) b (Reading r) made step end p'
  read_turn r h is end_is =
      let i : ℕ = stripe_of n r.key in
      turns i b (Reading r) made step end p' (GivesRead (found_in is.outbox is.last) h.position)
      (rest (steps_on i (Lives (found_in is.outbox is.last)) ++ Gave i ∷ [])
      (ap (λ (v : Record). v.steps) is.is ∙ onto b.steps (steps_on i (Lives (found_in is.outbox is.last))) _ (Gave i) (alive_steps b i is.part is.outbox is.last is.taken)))
      end_is (record { asks = tt; reached = is.reached; read = call h.position (Reading r) h.reply; calls = is.grew })

  -- it was refused
  busy_turn : (asked : Asked) (j : ℕ) → j ≡ stripe_asked n asked → p' ≡ missing b (stripe_asked n asked) → end ≡ ends.Refused (refusal.Busy j) → IsTurn (stripe_asked n asked) b asked made step end p'
  busy_turn asked j same is end_is =
      turns (stripe_asked n asked) b asked made step end p' Misses (rest (FoundHeld (stripe_asked n asked) ∷ []) (ap (λ (r : Record). r.steps) is)) (end_is ∙ ap (λ k. ends.Refused (refusal.Busy k)) same) tt

  failed_turn : (asked : Asked) → GivesBack b (FindsFailure b (stripe_asked n asked)) p' → end ≡ ends.Refused refusal.Failed → IsTurn (stripe_asked n asked) b asked made step end p'
  failed_turn asked back end_is =
      let i : ℕ = stripe_asked n asked in
      let dead : FindsFailure b i back.holder = back.before in
      let is : p' ≡ giving Nothing (living (taking b i dead.part dead.outbox dead.last dead.taken) false) = back.is ∙ ap (giving Nothing) dead.is in
      turns i b asked made step end p' (GivesUp (found_in dead.outbox dead.last))
      (rest (steps_on i (FindsNone (found_in dead.outbox dead.last)) ++ Gave i ∷ [])
      (ap (λ (r : Record). r.steps) is ∙ onto b.steps (steps_on i (FindsNone (found_in dead.outbox dead.last))) _ (Gave i) (onto b.steps (steps_on i (HasStripe (found_in dead.outbox dead.last))) _ (FoundAlive false) refl)))
      end_is back.same_calls

  unread_turn : (r : read_type.Read) → GivesBack b (FindsNoFailure b (stripe_of n r.key)) p' → end ≡ ends.Refused refusal.NoMemory → IsTurn (stripe_of n r.key) b (Reading r) made step end p'
  unread_turn r back end_is =
      let i : ℕ = stripe_of n r.key in
      let alive : FindsNoFailure b i back.holder = back.before in
      let is : p' ≡ giving Nothing (living (taking b i alive.part alive.outbox alive.last alive.taken) true) = back.is ∙ ap (giving Nothing) alive.is in
      turns i b (Reading r) made step end p' (GivesUnread (found_in alive.outbox alive.last))
      (rest (steps_on i (Lives (found_in alive.outbox alive.last)) ++ Gave i ∷ [])
      (ap (λ (v : Record). v.steps) is ∙ onto b.steps (steps_on i (Lives (found_in alive.outbox alive.last))) _ (Gave i) (alive_steps b i alive.part alive.outbox alive.last alive.taken)))
      end_is (tt, back.same_calls)

  module _ (i : ℕ) (holder : Record) (look : LooksAround b i holder) (is : p' ≡ giving Nothing holder) where
    abbrev looked_at : ℕ
    looked_at = reach (walked b i look.part look.outbox look.last look.taken look.looked)

    spent_steps : p'.steps ≡ b.steps ++ (steps_on i (Sees (found_in look.outbox look.last) looked_at) ++ Gave i ∷ [])
    spent_steps =
        ap (λ (r : Record). r.steps) (is ∙ ap (giving Nothing) look.is)
        ∙ onto b.steps (steps_on i (Sees (found_in look.outbox look.last) looked_at)) _ (Gave i) (walked_steps b i look.part look.outbox look.last look.taken look.looked)

    spent_reach : reach p' ≡ looked_at
    spent_reach = ap reach (is ∙ ap (giving Nothing) look.is)

  spent_turn : (c : Command) → GivesBack b (LooksAround b (stripe_of n c.key)) p' → ticket_limit ≤ reach p' → end ≡ ends.Refused refusal.TicketsSpent → IsTurn (stripe_of n c.key) b (Changing c) made step end p'
  spent_turn c back far end_is =
      let i : ℕ = stripe_of n c.key in
      let look : LooksAround b i back.holder = back.before in
      let q : ℕ = looked_at i back.holder look back.is in
      turns i b (Changing c) made step end p' (GivesSpent (found_in look.outbox look.last) q) (rest (steps_on i (Sees (found_in look.outbox look.last) q) ++ Gave i ∷ []) (spent_steps i back.holder look back.is)) end_is
      (tt, subst (λ k. ticket_limit ≤ k) (spent_reach i back.holder look back.is) far, back.same_calls)

  starved_turn : (c : Command) → GivesBack b (LooksAround b (stripe_of n c.key)) p' → reach p' < ticket_limit → end ≡ ends.Refused refusal.NoMemory → IsTurn (stripe_of n c.key) b (Changing c) made step end p'
  starved_turn c back low end_is =
      let i : ℕ = stripe_of n c.key in
      let look : LooksAround b i back.holder = back.before in
      let q : ℕ = looked_at i back.holder look back.is in
      turns i b (Changing c) made step end p' (GivesStarved (found_in look.outbox look.last) q) (rest (steps_on i (Sees (found_in look.outbox look.last) q) ++ Gave i ∷ []) (spent_steps i back.holder look back.is)) end_is
      (tt, subst (λ k. k < ticket_limit) (spent_reach i back.holder look back.is) low, back.same_calls)

  change_refused : (c : Command) (e : Refusal) → RefusesChange b (stripe_of n c.key) e p' → end ≡ ends.Refused e → IsTurn (stripe_of n c.key) b (Changing c) made step end p'
  change_refused c (refusal.Busy j) is end_is = busy_turn (Changing c) j is.0 is.1 end_is
  change_refused c refusal.Failed is end_is = failed_turn (Changing c) is end_is
  change_refused c refusal.TicketsSpent is end_is = spent_turn c is.0 is.1 end_is
  change_refused c refusal.NoMemory is end_is = starved_turn c is.0 is.1 end_is
  change_refused c other is end_is = absurd is

  read_refused : (r : read_type.Read) (e : Refusal) → RefusesRead b (stripe_of n r.key) e p' → end ≡ ends.Refused e → IsTurn (stripe_of n r.key) b (Reading r) made step end p'
  read_refused r (refusal.Busy j) is end_is = busy_turn (Reading r) j is.0 is.1 end_is
  read_refused r refusal.Failed is end_is = failed_turn (Reading r) is end_is
  read_refused r refusal.NoMemory is end_is = unread_turn r is end_is
  read_refused r other is end_is = absurd is

  -- The step of a call is one of these turns.
  pub turn_of : (asked : Asked) (s : Stepped) (doing : Doing) → Next n b (task_of asked) s p' → CallLeaves s doing end → IsTurn (stripe_asked n asked) b asked made step end p'
  turn_of (Changing c) (stepped.More walk) doing next leaves = more_turn (Changing c) walk next leaves.1
  turn_of (Changing c) (stepped.Held h) doing next leaves = change_turn c h next leaves.1
  turn_of (Changing c) (stepped.Refused e) doing next leaves = change_refused c e next leaves.1
  turn_of (Changing c) s doing next leaves = absurd leaves
  turn_of (Reading r) (stepped.More walk) doing next leaves = more_turn (Reading r) walk next leaves.1
  turn_of (Reading r) (stepped.Held h) doing next leaves = read_turn r h next leaves.1
  turn_of (Reading r) (stepped.Refused e) doing next leaves = read_refused r e next leaves.1
  turn_of (Reading r) s doing next leaves = absurd leaves
