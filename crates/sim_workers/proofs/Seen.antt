-- What a worker's pass has seen after a step is what the rules say.
use Rattle.std.proofs.Common.{ℕ, ◌≡◌, ◌+◌, ◌<◌, ◌≤◌, List, [], ◌∷◌, ◌++◌, None, max, length, drop, inl, inr, refl, arith, sym, ◌∙◌, ap, length-append}
use Rattle.ticket_order.specs.declared.record.Asked.{Asked}
use Rattle.ticket_order.specs.declared.record.Call.{Call}
use Rattle.ticket_order.specs.declared.record.Opening.{Opening}
use Rattle.ticket_order.specs.declared.record.StepMade.TheVariants.{Gave}
use Rattle.ticket_order.specs.declared.record.Record.{Record}
use Rattle.ticket_order.specs.Records.{past, reach}
use Rattle.ticket_order.specs.Legality.{last_of}
use Rattle.ticket_order.specs.StepRules.{Rises}
use Rattle.one_history.specs.declared.book.Book.{Book}
use Rattle.one_history.specs.Turns.{record_of}
use Rattle.one_history.specs.OneHistory.{Knows}
use Rattle.one_history.specs.Moves.{Raises, WordsMove}
use Rattle.sim_rules.specs.World.{World, Life, last_on, seen_by}
use Rattle.sim_rules.specs.After.{seen_after}
use Rattle.sim_workers.specs.Doings.{Doing, stage_from, stage_of}
use Rattle.sim_workers.specs.WordsInWorld.{drawn_at}
use Rattle.sim_workers.specs.Workers.{WorkersStand}
use Rattle.sim_workers.proofs.Ways.{steps_on}
use Rattle.sim_workers.proofs.Turns.{Turn, Takes, Misses, FindsAlive, FindsDead, GivesUp, Looks, GivesSpent, GivesStarved, DrawsTicket, GivesUnread, GivesRead, GivesChange, HasRead, Tells, before, end_of, step_of, told_by}
use Rattle.sim_workers.proofs.Moving.{all_commands}
use Rattle.sim_workers.proofs.Outboxes.{past_outbox_is}

-- ---- how a record rises

pub risen : (v w : Record) (n : ℕ) → Rises v n w → max (reach v) n ≡ reach w
risen v w n rises = elim rises [ inl h ↦ omega (arith, h.0, h.1) | inr h ↦ omega (arith, h.0, h.1) ]

no_longer : (cs ds : List Call) (x : Call) → cs ≡ ds → cs ≡ ds ++ x ∷ [] → ⊥
no_longer cs ds x same more = omega (arith, ap length same, ap length more, length-append ds (x ∷ []))

module _ (b b' : Book) (w : World) (l : Life) (doings : ℕ → Doing) (stand : WorkersStand b w l doings) (j : ℕ) (worker : j < 64) where
  abbrev old : Record
  old = record_of j b

  abbrev new : Record
  new = record_of j b'

  was : seen_by l j ≡ reach old
  was = stand.seen j worker

  -- a pass has seen no more than there is
  reach_within : reach old ≤ b.opening.first + length b.history
  reach_within =
      let knows : Knows b.opening b.stripes b.history b.authors b.effects j old = stand.words.one.passes j (omega (arith, worker, stand.passes)) in
      omega (arith, ap (λ (o : Opening). o.first) knows.opening, ap length knows.front.is, length-append old.seen knows.front.rest)

  last_is : (i : ℕ) → last_on w l i ≡ last_of b.stripes i b.opening.first b.history
  last_is i =
      ap (λ n. last_of n i l.first (drop l.first w.history)) stand.words.stripes
      ∙ (ap (λ h. last_of b.stripes i l.first h) (all_commands b w l stand.words) ∙ ap (λ k. last_of b.stripes i k b.history) stand.words.first)

  -- a GIVE lowers nothing,
  gave_more : (i : ℕ) → Raises j (Gave i) b b' → reach old ≤ reach new
  gave_more i raises = elim raises [
    | inl same ↦ omega (arith, same.reach)
    | inr read ↦ omega (arith, risen old new (last_of b.stripes i b.opening.first b.history) read.rises)
  ]

  -- raises nothing if it makes no call,
  gave_none : (i : ℕ) → Raises j (Gave i) b b' → new.calls ≡ old.calls → reach new ≡ reach old
  gave_none i raises calls = elim raises [
    | inl same ↦ same.reach
    | inr read ↦ absurd (no_longer new.calls old.calls read.read calls read.calls)
  ]

  -- and raises it to the last ticket of the stripe if it makes a read
  gave_read : (i : ℕ) (x : Call) → Raises j (Gave i) b b' → new.calls ≡ old.calls ++ x ∷ [] → reach new ≡ max (reach old) (last_of b.stripes i b.opening.first b.history)
  gave_read i x raises calls = elim raises [
    | inl same ↦ absurd (no_longer new.calls old.calls x same.calls calls)
    | inr read ↦ sym (risen old new (last_of b.stripes i b.opening.first b.history) read.rises)
  ]

  -- ---- the steps of a call, whose walk began at a record

  module _ (begun : Record) (asked : Asked) (i : ℕ) where
    -- the pass has made no call since then, as long as it has drawn no ticket
    abbrev pub IsCallless : Turn → Type 0
    IsCallless turn = drawn_at (stage_of (steps_on i (before turn))) ≡ None → old.calls ≡ begun.calls

    -- the position of a read
    pub read_position : (q : ℕ) → Raises j (Gave i) b b' → old.calls ≡ begun.calls → HasRead begun asked q new → q ≡ max (seen_by l j) (last_on w l i)
    read_position q raises since read =
        let calls : new.calls ≡ old.calls ++ read.read ∷ [] = read.calls ∙ ap (λ cs. cs ++ read.read ∷ []) (sym since) in
        read.reached ∙ (gave_read i read.read raises calls
        ∙ (ap (λ k. max k (last_of b.stripes i b.opening.first b.history)) (sym was) ∙ ap (λ k. max (seen_by l j) k) (sym (last_is i))))

    refused : Raises j (Gave i) b b' → old.calls ≡ begun.calls → new.calls ≡ begun.calls → seen_by l j ≡ reach new
    refused raises since calls = was ∙ sym (gave_none i raises (calls ∙ sym since))

    -- a position that it has reached is the greatest that it has seen
    given : (q : ℕ) → Raises j (Gave i) b b' → q ≡ reach new → max (seen_by l j) q ≡ reach new
    given q raises reached = omega (arith, was, gave_more i raises, reached)

    pub call_seen : (turn : Turn) → WordsMove j (step_of i turn) b b' → Raises j (step_of i turn) b b' → IsCallless turn → Tells begun asked turn new
        → seen_after w l (seen_by l j) (told_by i turn) (end_of i turn) ≡ reach new
    unfolding stage_from
    call_seen (Takes found) words raises since tells =
        ap (λ k. max (seen_by l j) k) (past_outbox_is b w l doings stand i found.outbox raises.1 words.1) ∙ (ap (λ k. max k (past found.outbox)) was ∙ risen old new (past found.outbox) raises.0)
    call_seen Misses words raises since tells = was ∙ sym raises
    call_seen (FindsAlive found) words raises since tells = was ∙ sym raises
    call_seen (FindsDead found) words raises since tells = was ∙ sym raises
    call_seen (GivesUp found) words raises since tells = refused raises (since refl) tells
    call_seen (Looks found q) words raises since tells = omega (arith, was, raises, reach_within, words.1)
    call_seen (GivesSpent found q) words raises since tells = refused raises (since refl) tells.2
    call_seen (GivesStarved found q) words raises since tells = refused raises (since refl) tells.2
    call_seen (DrawsTicket found q t) words raises since tells = omega (arith, was, raises, reach_within, words.ticket_is)
    call_seen (GivesUnread found) words raises since tells = refused raises (since refl) tells.1
    call_seen (GivesRead found q) words raises since tells = given q raises tells.reached
    call_seen (GivesChange found q t) words raises since tells = given (t + 1) raises tells.1

  -- ---- the steps of a release

  pub saw_seen : (d : ℕ) → Rises old d new → max (seen_by l j) d ≡ reach new
  saw_seen d rises = ap (λ k. max k d) was ∙ risen old new d rises

  pub same_seen : reach new ≡ reach old → seen_by l j ≡ reach new
  same_seen same = was ∙ sym same
