-- A step of the keeper's pass, as the world has it.
use Rattle.std.proofs.Common.{◌≡◌, ℕ, ◌+◌, Option, None, Some, List, length, arith, refl, sym, ◌∙◌, ap, subst}
use Rattle.std.proofs.lemmas.List.{length-append}
use Rattle.map_types.specs.declared.commands.Command.{Command}
use Rattle.ticket_order.specs.declared.record.Holding.{Holding}
use Rattle.ticket_order.specs.declared.record.Record.{Record}
use Rattle.ticket_order.specs.declared.record.StepMade.{StepMade}
use Rattle.ticket_order.specs.declared.record.StepMade.TheVariants.{Took, FoundHeld, Gave, Drew, Looked, Published, Saw, Failed, FoundAlive}
use Rattle.ticket_order.specs.Walks.{Kind, Ticket, kind_of}
use Rattle.one_history.specs.declared.book.Book.{Book}
use Rattle.one_history.specs.Moves.{WordsMove}
use Rattle.one_history.specs.OneHistory.{HoldApart, IsOneHistory, Knows, stripe_in}
use Rattle.one_history.specs.Turns.{record_of}
use Rattle.flusher.specs.declared.keeper.Keeper.{Keeper}
use Rattle.checkpoint_walk.specs.Walking.{FitsWalking}
use Rattle.sim_rules.specs.declared.outcome.Made.{Made}
use Rattle.sim_rules.specs.World.{World, Life}
use Rattle.sim_rules.specs.Told.{told_of}
use Rattle.sim_workers.specs.Doings.{Doing}
use Rattle.sim_workers.specs.Laws.{FreeIsTold, HeldIsTold}
use Rattle.sim_workers.specs.WordsInWorld.{WordsStand}
use Rattle.sim_workers.specs.Workers.{DrawsNone, KeeperMoves, WorkersStand}
use Rattle.sim_workers.proofs.Sweeping.{same_history}
use Rattle.sim_keeper.specs.Laws.{CountsAreTold, FrontIsSeen, PassHolds, StripeIsTold}
use Rattle.sim_keeper.specs.KeeperInWorld.{KeeperStands, SeesHistory}
use Rattle.sim_keeper.specs.Telling as telling
use Rattle.schedule_sim.specs.declared.traced.Traced.{Traced}
use Rattle.schedule_sim.specs.Tracing.{traced_states, traced_honest}
use Rattle.schedule_sim.specs.Watching.{MakesStep}

-- ---- a step that draws no ticket

-- no step of this kind draws one
abbrev pub DrawsNoTicket : Kind → Type 0
DrawsNoTicket Ticket = ⊥
DrawsNoTicket kind = Unit {0}

undrawn_step : (s : StepMade) → DrawsNoTicket (kind_of s) → DrawsNone s
undrawn_step (Drew t) is = absurd is
undrawn_step (Took i outbox last) is = tt
undrawn_step (FoundHeld i) is = tt
undrawn_step (Gave i) is = tt
undrawn_step (Looked q) is = tt
undrawn_step (Published x) is = tt
undrawn_step (Saw d) is = tt
undrawn_step Failed is = tt
undrawn_step (FoundAlive is_alive) is = tt

pub undrawn : (s : StepMade) (kind : Kind) → kind_of s ≡ kind → DrawsNoTicket kind → DrawsNone s
undrawn s kind e is = undrawn_step s (subst DrawsNoTicket (sym e) is)

-- ---- as it is told

some_same : {A : Type 0} {a b : A} → Some a ≡ Some b → a ≡ b
some_same e = cc

-- ---- what the words gave it

-- the ticket count
count_told : (b : Book) (w : World) (l : Life) → WordsStand b w l → b.opening.first + length b.history ≡ length w.history
count_told b w l words = sym (ap length words.history ∙ length-append words.before b.history ∙ ap (λ k. k + length b.history) words.count)

pub agrees : FreeIsTold → HeldIsTold → (b b' : Book) (w : World) (l : Life) (doings : ℕ → Doing) (s : StepMade) (m : Made) → WorkersStand b w l doings → WordsMove 64 s b b' → told_of s ≡ Some m
    → telling.AgreesWith w l m
agrees free held b b' w l doings (Took i outbox last) m stand moved e = subst (telling.AgreesWith w l) (some_same e) (free b w l doings i stand moved.1)
agrees free held b b' w l doings (FoundHeld i) m stand moved e =
    subst (telling.AgreesWith w l) (some_same e) (held b w l doings moved.1.holder i stand moved.1.holds)
agrees free held b b' w l doings (Gave i) m stand moved e = subst (telling.AgreesWith w l) (some_same e) tt
agrees free held b b' w l doings (Drew t) m stand moved e = subst (telling.AgreesWith w l) (some_same e) tt
agrees free held b b' w l doings (Looked q) m stand moved e =
    subst (telling.AgreesWith w l) (some_same e) (moved.1 ∙ count_told b w l stand.words)
agrees free held b b' w l doings (Published x) m stand moved e = absurd cc
agrees free held b b' w l doings (Saw d) m stand moved e = subst (telling.AgreesWith w l) (some_same e) tt
agrees free held b b' w l doings Failed m stand moved e = absurd cc
agrees free held b b' w l doings (FoundAlive is_alive) m stand moved e = subst (telling.AgreesWith w l) (some_same e) tt

-- what the keeper's pass has seen after it
pub sees_after : FrontIsSeen → (b b' : Book) (w : World) (l : Life) (doings : ℕ → Doing) (kind : Kind) (m : Made) → WorkersStand b w l doings → MakesStep 64 kind b b' m → DrawsNoTicket kind → IsOneHistory b'
    → SeesHistory (record_of 64 b') w l
sees_after sees b b' w l doings kind m stand made none one =
    let words = stand.words in
    let knows : Knows b'.opening b'.stripes b'.history b'.authors b'.effects 64 (record_of 64 b') = one.passes 64 (omega (arith, stand.passes, made.moved.passes)) in
    let kept : b'.history ≡ b.history = same_history made.step b b' (undrawn made.step kind made.kind_is none) made.moved.words in
    sees (record_of 64 b') w l words.before b.history knows.front.rest words.history (words.count ∙ sym words.first)
    (ap (λ o. o.first) (knows.opening ∙ made.moved.opening) ∙ sym words.first) (ap (λ o. o.map) (knows.opening ∙ made.moved.opening) ∙ words.map)
    (sym kept ∙ knows.front.is)

-- the step in the words of the keeper's laws
pub step_told : FreeIsTold → HeldIsTold → FrontIsSeen → (b b' : Book) (w : World) (l : Life) (doings : ℕ → Doing) (kind : Kind) (m : Made) → WorkersStand b w l doings → MakesStep 64 kind b b' m
    → DrawsNoTicket kind → IsOneHistory b' → telling.MakesStep w l (record_of 64 b) (record_of 64 b') kind m
step_told free held sees b b' w l doings kind m stand made none one = record {
  step = made.step;
  steps = made.steps;
  kind_is = made.kind_is;
  told_is = made.told_is;
  agrees = agrees free held b b' w l doings made.step m stand made.moved.words made.told_is;
  history = sees_after sees b b' w l doings kind m stand made none one;
}

-- ---- what it leaves of the workers

-- another life of the same workers
pub record SameWorkers (l l' : Life) : Type 0 where
  pub stripes : l'.stripes ≡ l.stripes
  pub first : l'.first ≡ l.first
  pub key_limit : l'.key_limit ≡ l.key_limit
  pub jobs : l'.jobs ≡ l.jobs
  pub seen : l'.seen ≡ l.seen

pass_holds : (p : Record) (i : ℕ) (o : Option Holding) → p.holding ≡ o → stripe_in o ≡ Some i → PassHolds p i
pass_holds p i None is has = absurd cc
pass_holds p i (Some d) is has = record { held = d; holding = is; stripe_is = some_same has }

pub keeper_moves : StripeIsTold traced_states traced_honest → CountsAreTold traced_states traced_honest → (b b' : Book) (w w' : World) (l l' : Life) (doings : ℕ → Doing) (kind : Kind) (m : Made)
    (done : List Command) (keeper : Keeper Traced) → WorkersStand b w l doings → MakesStep 64 kind b b' m → DrawsNoTicket kind → IsOneHistory b' → HoldApart b'
    → FitsWalking traced_states traced_honest b'.stripes done keeper (record_of 64 b') → KeeperStands traced_states keeper (record_of 64 b') w' l' → w'.history ≡ w.history → SameWorkers l l'
    → KeeperMoves b b' w w' l l'
keeper_moves stripe counts b b' w w' l l' doings kind m done keeper stand made none one apart fits stands history same =
    let told = counts b'.stripes done keeper (record_of 64 b') w' l' fits stands in
    record {
      step = made.step;
      undrawn = undrawn made.step kind made.kind_is none;
      moved = made.moved;
      one = one;
      apart = apart;
      history = history;
      stripes = same.stripes;
      first = same.first;
      key_limit = same.key_limit;
      jobs = same.jobs;
      seen = same.seen;
      durable = told.0;
      has_failed = told.1;
      held = λ i.
          let holds = stripe b'.stripes done keeper (record_of 64 b') w' l' i fits stands in (
            λ is. (let k : PassHolds (record_of 64 b') i = holds.0 is in record {
              within = omega (arith, stand.passes, made.moved.passes);
              has = ap stripe_in k.holding ∙ ap (λ s. Some s) k.stripe_is;
            }),
            λ is. holds.1 (pass_holds (record_of 64 b') i (record_of 64 b').holding refl is.has),
          );
    }
