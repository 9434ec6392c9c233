-- A worker that has drawn a ticket holds the stripe of its change.
use Rattle.std.proofs.Common.{ℕ, ◌≡◌, ◌+◌, ◌-◌, ◌<◌, Some, None, true, refl, arith, sym, ◌∙◌, ap, subst, inl, inr}
use Rattle.std.specs.Prelude.{slice_index_or}
use Rattle.std.specs.List.{Contains}
use Rattle.std.proofs.Math.ListN.{get_or-eq_default}
use Rattle.std.proofs.lemmas.Bool.{cases_lt, eqb-true}
use Rattle.std.proofs.lemmas.List.Elements.{Contains-push}
use Rattle.std.proofs.lemmas.Option.{get_or_from_slice_get}
use Rattle.java_hash.specs.Stripes.{stripe_of}
use Rattle.map_types.specs.declared.commands.Command.{Command}
use Rattle.map_types.specs.declared.commands.Reply.{Reply}
use Rattle.map_model.specs.Parts.{is_in_stripe}
use Rattle.map_model.specs.Histories.{IsLegalChange}
use Rattle.ticket_order.proofs.Entries.{IsAt}
use Rattle.ticket_order.specs.declared.stripe.Entry.{Entry}
use Rattle.ticket_order.specs.declared.record.Asked.{Asked}
use Rattle.ticket_order.specs.declared.record.Asked.TheVariants.{Changing}
use Rattle.ticket_order.specs.declared.record.Record.{Record}
use Rattle.ticket_order.specs.Records.{call}
use Rattle.ticket_order.specs.Legality.{history_from}
use Rattle.one_history.specs.declared.book.Book.{Book}
use Rattle.one_history.specs.Turns.{record_of}
use Rattle.one_history.specs.OneHistory.{HoldsStripe, stripe_in}
use Rattle.sim_rules.specs.World.{World, Life, Job, Idle, Walks, Keeps, Releasing, job_of, stripe_asked}
use Rattle.sim_workers.specs.Doings.{Doing, Rests, Calls, Waits, Releases, JobStands, stage_from, stage_of}
use Rattle.sim_workers.specs.WordsInWorld.{IsDrawn, drawn_at, drawn_by}
use Rattle.sim_workers.specs.Workers.{WorkersStand}
use Rattle.sim_workers.proofs.Ways.{Way, Starts, HasStripe, Lives, FindsNone, Sees, Draws, GoesBy, Knows as KnowsWay, steps_on, stripe_on}
use Rattle.sim_workers.proofs.Holding.{stage_by, way_of}
use Rattle.sim_workers.proofs.Legal.{legal_in_book}

-- the pass holds the stripe of the change with this ticket
record HoldsTicket (n t : ℕ) (p : Record) : Type 0 where
  command : Command
  reply : Reply
  holds : stripe_in p.holding ≡ Some (stripe_of n command.key)
  call_is : Contains p.calls (call (t + 1) (Changing command) reply)

drawn_way : (n i t : ℕ) (begun p : Record) (asked : Asked) (way : Way) → i ≡ stripe_asked n asked → stripe_in p.holding ≡ stripe_on i way → KnowsWay begun asked way p → drawn_at (stage_of (steps_on i way)) ≡ Some t → HoldsTicket n t p
unfolding stage_from
drawn_way n i t begun p asked Starts own holds knows drawn = absurd cc
drawn_way n i t begun p asked (HasStripe found) own holds knows drawn = absurd cc
drawn_way n i t begun p asked (Lives found) own holds knows drawn = absurd cc
drawn_way n i t begun p asked (FindsNone found) own holds knows drawn = absurd cc
drawn_way n i t begun p asked (Sees found q) own holds knows drawn = absurd cc
drawn_way n i t begun p asked (Draws found q u) own holds knows drawn =
    let same : u ≡ t = (let e : Some u ≡ Some t = drawn in cc) in
    record {
      command = knows.command;
      reply = knows.reply;
      holds = holds ∙ ap (λ k. Some k) (own ∙ ap (stripe_asked n) knows.asked_is);
      call_is =
          subst (λ k. Contains p.calls (call k (Changing knows.command) knows.reply)) (knows.position_is ∙ ap (λ k. k + 1) same)
          (subst (λ cs. Contains cs (call knows.position (Changing knows.command) knows.reply)) (sym knows.calls) (Contains-push knows.before (call knows.position (Changing knows.command) knows.reply)));
    }

drawn_job : (n t : ℕ) (p : Record) (doing : Doing) (job : Job) → JobStands n p doing job → drawn_by job ≡ Some t → HoldsTicket n t p
drawn_job n t p Rests Idle stands drawn = absurd cc
drawn_job n t p (Calls walk) (Walks asked stage) stands drawn =
    let by : GoesBy n stands.begun asked p = way_of n p walk asked stage stands in
    drawn_way n (stripe_asked n asked) t stands.begun p asked by.way refl by.holds by.knows (sym (ap drawn_at (stage_by n p walk asked stage stands)) ∙ drawn)
drawn_job n t p (Waits held) (Keeps asked position) stands drawn = absurd cc
drawn_job n t p (Releases walk) (Releasing asked position asking) stands drawn = absurd cc
drawn_job n t p doing job stands drawn = absurd stands

-- it is an entry of this stripe
pub drawn_holder : (b : Book) (w : World) (l : Life) (doings : ℕ → Doing) (i : ℕ) (e : Entry) → WorkersStand b w l doings → IsAt b.opening.first b.history e
    → is_in_stripe b.stripes i e.command.key ≡ true → IsDrawn l e.ticket → (j : ℕ) × (j < 64) × HoldsStripe b j i
drawn_holder b w l doings i e stand is own drawn = elim (cases_lt drawn.0 64) [
  | inr far ↦ (let none : None ≡ Some e.ticket = sym (ap drawn_by (get_or-eq_default l.jobs Idle {n = drawn.0} (omega (arith, far, stand.jobs)))) ∙ drawn.1 in absurd cc)
  | inl lt ↦
      let by : HoldsTicket b.stripes e.ticket (record_of drawn.0 b) = drawn_job b.stripes e.ticket (record_of drawn.0 b) (doings drawn.0) (job_of l drawn.0) (stand.each drawn.0 lt) drawn.1 in
      let legal : IsLegalChange (history_from b.opening b.history) (e.ticket + 1) by.command by.reply =
      legal_in_book b w l drawn.0 (call (e.ticket + 1) (Changing by.command) by.reply) stand.words (omega (arith, lt, stand.passes)) by.call_is in
      let at : slice_index_or b.history (legal.ticket - b.opening.first) e.command ≡ by.command = get_or_from_slice_get b.history (legal.ticket - b.opening.first) by.command e.command legal.command in
      let ticket : e.ticket ≡ legal.ticket = (let p : e.ticket + 1 ≡ legal.ticket + 1 = legal.position_is in omega (arith, p)) in
      let same : by.command ≡ e.command = sym at ∙ (ap (λ k. slice_index_or b.history (k - b.opening.first) e.command) (sym ticket) ∙ is.there) in
      let stripe : stripe_of b.stripes by.command.key ≡ i = ap (λ (c : Command). stripe_of b.stripes c.key) same ∙ eqb-true (stripe_of b.stripes e.command.key) i own in
      (drawn.0, lt, record { within = omega (arith, lt, stand.passes); has = by.holds ∙ ap (λ k. Some k) stripe })
]
