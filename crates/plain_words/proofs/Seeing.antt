-- What the passes have seen, after a step of one and at the start.
use Rattle.std.proofs.Common.{ℕ, ◌≡◌, ◌+◌, ◌<◌, List, Bool, None, not, [], ◌∷◌, ◌++◌, length, get_or, set, replicate, max, arith, sym, ◌∙◌, ap, subst, inl, inr, length-append}
use Rattle.std.proofs.lemmas.List.{get_or-set_same, get_or-set_other, get_or-replicate, length-replicate}
use Rattle.std.proofs.lemmas.List.Elements.{All-push, All-replicate, All-get_or}
use Rattle.std.proofs.Math.ListN.{length-set}
use Rattle.std.proofs.lemmas.Bool.{cases_eq}
use Rattle.map_types.specs.declared.commands.Command.{Command}
use Rattle.atomic_methods.specs.PartState.{PartState}
use Rattle.ticket_order.specs.declared.stripe.Stripe.{Stripe}
use Rattle.ticket_order.specs.declared.record.Purpose.{Purpose}
use Rattle.ticket_order.specs.declared.record.Purpose.TheVariants.{Nothing, Answer, Sweep, Capture}
use Rattle.ticket_order.specs.declared.record.StepMade.{StepMade}
use Rattle.ticket_order.specs.declared.record.StepMade.TheVariants as made
use Rattle.ticket_order.specs.declared.record.Opening.{Opening}
use Rattle.ticket_order.specs.declared.record.Record.{Record}
use Rattle.ticket_order.specs.Records.{reach, newcomer, past, last_held}
use Rattle.ticket_order.specs.StepRules.{Rises, MayDraw, MayGive, GivesStripe, Answers, MayPublish}
use Rattle.one_history.specs.declared.book.Book.{Book}
use Rattle.one_history.specs.declared.slot.Slot.{Slot}
use Rattle.one_history.specs.declared.slot.Slot.TheVariants.{Home, HeldBy}
use Rattle.one_history.specs.Turns.{record_of, opening_of, at_start, took, found_held, gave, drew, looked, published, saw, failed, found_alive}
use Rattle.one_history.specs.Moves.{BookMoves}
use Rattle.one_history.specs.SharedWords.{slot_of, IsKept}
use Rattle.one_history.proofs.Starts.{keeper, count_at_start}
use Rattle.one_history.proofs.Watching.{looks, moves_looked, sees, moves_saw, lives, moves_found_alive, misses, moves_found_held, publishes, moves_published, fails, moves_failed}
use Rattle.one_history.proofs.Taking.{takes_stripe, moves_took}
use Rattle.one_history.proofs.Drawing.{draws, moves_drew}
use Rattle.one_history.proofs.Giving.{gives, moves_gave}
use Rattle.plain_words.specs.Seen.{HaveSeen, raised, raised_by}

-- the pass of a step has then seen up to q
pub seen_to : (seen : List ℕ) (b b' : Book) (j q : ℕ) (m : StepMade) → HaveSeen seen b → j < length b.passes → BookMoves j m b b' → q ≡ reach (record_of j b') → HaveSeen (set seen j q) b'
seen_to seen b b' j q m have within moved at = record {
  count = length-set seen j q ∙ (have.count ∙ sym moved.passes);
  each = λ l lt.
      let was : l < length b.passes = (let same : length b'.passes ≡ length b.passes = moved.passes in omega arith) in
      elim (cases_eq l j) [
        | inl e ↦
            let in_seen : j < length seen = (let n : length seen ≡ length b.passes = have.count in omega arith) in
            let own : get_or (set seen j q) j 0 ≡ reach (record_of j b') = get_or-set_same seen j q 0 in_seen ∙ at in
            subst (λ i. get_or (set seen j q) i 0 ≡ reach (record_of i b')) (sym e) own
        | inr ne ↦ get_or-set_other seen j l q 0 ne ∙ (have.each l was ∙ ap reach (sym (moved.others l ne)))
      ];
}

-- it has seen no more
pub seen_still : (seen : List ℕ) (b b' : Book) (j : ℕ) (m : StepMade) → HaveSeen seen b → BookMoves j m b b' → reach (record_of j b') ≡ reach (record_of j b) → HaveSeen seen b'
seen_still seen b b' j m have moved still = record {
  count = have.count ∙ sym moved.passes;
  each = λ l lt.
      let was : l < length b.passes = (let same : length b'.passes ≡ length b.passes = moved.passes in omega arith) in
      elim (cases_eq l j) [
        | inl e ↦ have.each l was ∙ subst (λ i. reach (record_of i b) ≡ reach (record_of i b')) (sym e) (sym still)
        | inr ne ↦ have.each l was ∙ ap reach (sym (moved.others l ne))
      ];
}

-- it has seen up to n, or further
pub seen_raised : (seen : List ℕ) (b b' : Book) (j n : ℕ) (m : StepMade) → HaveSeen seen b → j < length b.passes → BookMoves j m b b' → Rises (record_of j b) n (record_of j b') → HaveSeen (raised j n seen) b'
seen_raised seen b b' j n m have within moved rises =
    let own : get_or seen j 0 ≡ reach (record_of j b) = have.each j within in
    seen_to seen b b' j (max (get_or seen j 0) n) m have within moved (elim rises [
      | inl low ↦ omega (arith, own, low.0, low.1)
      | inr high ↦ omega (arith, own, high.0, high.1)
    ])

-- at the start
pub seen_at_start : (first limit workers : ℕ) (parts : List PartState) → HaveSeen (replicate (workers + 1) first) (at_start first parts limit workers)
seen_at_start first limit workers parts =
    let o : Opening = opening_of first parts limit in
    let b : Book = at_start first parts limit workers in
    let none : (v : Record) → Type 0 = λ v. reach v ≡ first in
    let count : length b.passes ≡ workers + 1 = count_at_start o (length parts) workers in
    record {
      count = length-replicate (workers + 1) first ∙ sym count;
      each = λ j lt. get_or-replicate (workers + 1) j first 0 (omega arith) ∙ sym (All-get_or none b.passes j (newcomer o) lt (All-push none (replicate workers _) (keeper o (workers + 1)) (All-replicate none workers _ (omega arith)) (omega arith)));
    }

-- each step on the words
module _ (n t durable : ℕ) (has_failed : Bool) (slots : List Slot) (b : Book) (j : ℕ) (kept : IsKept n t durable has_failed slots b) (within : j < length b.passes) (seen : List ℕ) (have : HaveSeen seen b) where
  pub seen_looked : HaveSeen (set seen j t) (looked j b)
  seen_looked = seen_to seen b (looked j b) j t (made.Looked t) have within (moves_looked n t durable has_failed slots b j kept within) (looks n t durable has_failed slots b j kept within).count_is

  pub seen_saw : HaveSeen (raised j durable seen) (saw j b)
  seen_saw = seen_raised seen b (saw j b) j durable (made.Saw durable) have within (moves_saw n t durable has_failed slots b j kept within) (sees n t durable has_failed slots b j kept within).rises

  pub seen_found_alive : HaveSeen seen (found_alive j b)
  seen_found_alive = seen_still seen b (found_alive j b) j (made.FoundAlive (not has_failed)) have (moves_found_alive n t durable has_failed slots b j kept within) (ap reach (lives n t durable has_failed slots b j kept within).is)

  pub seen_published : (x : ℕ) → MayPublish (record_of j b) x → HaveSeen seen (published j x b)
  seen_published x may = seen_still seen b (published j x b) j (made.Published x) have (moves_published n t durable has_failed slots b j kept within x) (ap reach (publishes n t durable has_failed slots b j kept within x))

  pub seen_failed : HaveSeen seen (failed j b)
  seen_failed = seen_still seen b (failed j b) j made.Failed have (moves_failed n t durable has_failed slots b j kept within) (ap reach (fails n t durable has_failed slots b j kept within))

  pub seen_found_held : (i l : ℕ) → i < b.stripes → (record_of j b).holding ≡ None → slot_of i slots ≡ HeldBy l → HaveSeen seen (found_held j i b)
  seen_found_held i l lt empty is = seen_still seen b (found_held j i b) j (made.FoundHeld i) have (moves_found_held n t durable has_failed slots b j kept within i l lt empty is) (ap reach (misses n t durable has_failed slots b j kept within i))

  pub seen_took : (i : ℕ) (content : Stripe) → i < b.stripes → (record_of j b).holding ≡ None → slot_of i slots ≡ Home content → HaveSeen (raised j (past content.outbox.items) seen) (took j i content b)
  seen_took i content lt empty home =
      seen_raised seen b (took j i content b) j (past content.outbox.items) (made.Took i content.outbox.items content.last) have within (moves_took n t durable has_failed slots b j kept within i content lt empty home)
      (takes_stripe n t durable has_failed slots b j kept within i content lt empty home).rises

  pub seen_drew : (c : Command) → MayDraw b.stripes (record_of j b) c → HaveSeen (set seen j (t + 1)) (drew j c b)
  seen_drew c may =
      let step = draws n t durable has_failed slots b j kept within c may in
      let before : Record = record_of j b in
      let one_more : t + 1 ≡ before.opening.first + length ((before.seen ++ step.between) ++ c ∷ []) = omega (arith, step.ticket_is, length-append (before.seen ++ step.between) (c ∷ [])) in
      seen_to seen b (drew j c b) j (t + 1) (made.Drew t) have within (moves_drew n t durable has_failed slots b j kept within c may) (one_more ∙ sym (ap reach step.is))

  -- a GIVE that makes no read
  seen_given : (i : ℕ) (content : Stripe) (p : Purpose) → MayGive b.stripes (record_of j b) i content p → GivesStripe b.stripes p (record_of j b) (record_of j (gave j p b)) → HaveSeen seen (gave j p b)
  seen_given i content p may step = seen_still seen b (gave j p b) j (made.Gave i) have (moves_gave n t durable has_failed slots b j kept within i content p may) (ap reach step.is)

  pub seen_gave : (i : ℕ) (content : Stripe) (p : Purpose) → MayGive b.stripes (record_of j b) i content p → HaveSeen (raised_by p j content.last seen) (gave j p b)
  seen_gave i content Nothing may = seen_given i content Nothing may (gives n t durable has_failed slots b j kept within i content Nothing may)
  seen_gave i content (Answer r) may =
      let step : Answers r (record_of j b) (record_of j (gave j (Answer r) b)) = gives n t durable has_failed slots b j kept within i content (Answer r) may in
      let last_is : last_held (record_of j b).holding ≡ content.last = ap last_held may.holding ∙ sym may.last_is in
      seen_raised seen b (gave j (Answer r) b) j content.last (made.Gave i) have within (moves_gave n t durable has_failed slots b j kept within i content (Answer r) may)
      (subst (λ last. Rises (record_of j b) last (record_of j (gave j (Answer r) b))) last_is step.rises)
  seen_gave i content Sweep may = seen_given i content Sweep may (gives n t durable has_failed slots b j kept within i content Sweep may)
  seen_gave i content Capture may = seen_given i content Capture may (gives n t durable has_failed slots b j kept within i content Capture may)
