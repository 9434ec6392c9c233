-- What the keeper does, and a sweep's GIVE.
use Rattle.std.proofs.Common.{ℕ, zero, suc, ◌≡◌, ◌-◌, ◌<◌, ◌⊎◌, List, [], ◌∷◌, ◌++◌, Option, Some, None, Bool, true, false, length, drop, refl, arith, sym, ◌∙◌, ap, subst, inl, inr}
use Rattle.std.specs.Prelude.{if◌then◌else◌, slice_index_or}
use Rattle.std.specs.List.{Contains}
use Rattle.std.proofs.lemmas.Bool.{eq-eqb}
use Rattle.std.proofs.lemmas.List.Elements.{Contains-append_cases, Contains-append_left, Contains-append_right}
use Rattle.map_types.specs.declared.commands.Command.{Command}
use Rattle.map_model.specs.Parts.{is_in_stripe}
use Rattle.ticket_order.proofs.Entries.{IsAt, at_ticket, found}
use Rattle.ticket_order.specs.declared.stripe.Entry.{Entry}
use Rattle.ticket_order.specs.declared.record.StepMade.{StepMade}
use Rattle.ticket_order.specs.declared.record.StepMade.TheVariants.{Took, FoundHeld, Gave, Drew, Looked, Published, Saw, Failed, FoundAlive}
use Rattle.ticket_order.specs.Records.{entry, reach}
use Rattle.ticket_order.specs.Legality.{entries_from, entries_of}
use Rattle.one_history.specs.declared.book.Book.{Book}
use Rattle.one_history.specs.declared.book.KeeperEffects.{KeeperEffects}
use Rattle.one_history.specs.Turns.{record_of}
use Rattle.one_history.specs.OneHistory.{HasDone, Holds, HoldsStripe, IsOneHistory, Knows, stripe_in}
use Rattle.one_history.specs.Moves.{IsOutbox, WordsMove}
use Rattle.one_history.proofs.Undrawn.{history_stays}
use Rattle.sim_rules.specs.World.{World, Life, Idle, Place, WithWorker, InOutbox, InHand, job_of, place_of}
use Rattle.sim_rules.specs.After.{swept_places}
use Rattle.sim_workers.specs.Doings.{Doing}
use Rattle.sim_workers.specs.WordsInWorld.{IsDrawn, IsOfLife, IsTaken, PlacesStand, WordsStand, drawn_by}
use Rattle.sim_workers.specs.Workers.{DrawsNone, Gathers, KeeperMoves, Swept, WorkersStand}
use Rattle.sim_workers.specs.Laws.{KeeperRests, KeeperSteps}
use Rattle.sim_workers.proofs.Drawn.{drawn_holder}
use Rattle.sim_workers.proofs.Moving.{all_commands}
use Rattle.sim_workers.proofs.Outboxes.{at_of_outbox, boxed_or_taken, of_outbox, own_of_outbox}
use Rattle.sim_workers.proofs.WorkersInWorld.{places_kept}

-- ---- places

swept_place : Bool → Place → Place
swept_place own InOutbox = if own then InHand else InOutbox
swept_place own place = place

swept_with : (own : Bool) (place : Place) → swept_place own place ≡ WithWorker → place ≡ WithWorker
unfolding swept_place
swept_with own WithWorker is = refl
swept_with true InOutbox is = absurd cc
swept_with false InOutbox is = absurd cc
swept_with own InHand is = absurd cc

with_swept : (own : Bool) (place : Place) → place ≡ WithWorker → swept_place own place ≡ WithWorker
unfolding swept_place
with_swept own WithWorker is = refl
with_swept own InOutbox is = absurd cc
with_swept own InHand is = absurd cc

swept_hand : (own : Bool) (place : Place) → swept_place own place ≡ InHand → (place ≡ InHand) ⊎ ((place ≡ InOutbox) × (own ≡ true))
unfolding swept_place
swept_hand own WithWorker is = absurd cc
swept_hand true InOutbox is = inr (refl, refl)
swept_hand false InOutbox is = absurd cc
swept_hand own InHand is = inl refl

hand_swept : (own : Bool) (place : Place) → place ≡ InHand → swept_place own place ≡ InHand
unfolding swept_place
hand_swept own WithWorker is = absurd cc
hand_swept own InOutbox is = absurd cc
hand_swept own InHand is = refl

own_swept : (own : Bool) (place : Place) → own ≡ true → (place ≡ WithWorker → ⊥) → swept_place own place ≡ InHand
unfolding swept_place
own_swept own WithWorker is not = absurd (not refl)
own_swept true InOutbox is not = refl
own_swept false InOutbox is not = absurd cc
own_swept own InHand is not = refl

swept_get : (n i : ℕ) (cs : List Command) (places : List Place) (k : ℕ) (c : Command) → length places ≡ length cs → k < length cs
    → slice_index_or (swept_places n i cs places) k WithWorker ≡ swept_place (is_in_stripe n i (slice_index_or cs k c).key) (slice_index_or places k WithWorker)
unfolding swept_place
swept_get n i [] places k c same lt = absurd (omega (arith, lt))
swept_get n i (x ∷ cs) [] k c same lt = absurd (omega (arith, same))
swept_get n i (x ∷ cs) (InOutbox ∷ places) zero c same lt = refl
swept_get n i (x ∷ cs) (WithWorker ∷ places) zero c same lt = refl
swept_get n i (x ∷ cs) (InHand ∷ places) zero c same lt = refl
swept_get n i (x ∷ cs) (InOutbox ∷ places) (suc k) c same lt = swept_get n i cs places k c (omega (arith, same)) (omega (arith, lt))
swept_get n i (x ∷ cs) (WithWorker ∷ places) (suc k) c same lt = swept_get n i cs places k c (omega (arith, same)) (omega (arith, lt))
swept_get n i (x ∷ cs) (InHand ∷ places) (suc k) c same lt = swept_get n i cs places k c (omega (arith, same)) (omega (arith, lt))

swept_length : (n i : ℕ) (cs : List Command) (places : List Place) → length (swept_places n i cs places) ≡ length places
swept_length n i [] places = refl
swept_length n i (x ∷ cs) [] = refl
swept_length n i (x ∷ cs) (InOutbox ∷ places) = ap (λ k. suc k) (swept_length n i cs places)
swept_length n i (x ∷ cs) (WithWorker ∷ places) = ap (λ k. suc k) (swept_length n i cs places)
swept_length n i (x ∷ cs) (InHand ∷ places) = ap (λ k. suc k) (swept_length n i cs places)

-- ---- the words

pub same_history : (step : StepMade) (b b' : Book) → DrawsNone step → WordsMove 64 step b b' → b'.history ≡ b.history
same_history step b b' none words = history_stays 64 step b b' (λ t e. subst DrawsNone e none) words

same_keeper : (step : StepMade) (b b' : Book) → DrawsNone step → WordsMove 64 step b b' → b'.effects.keeper ≡ b.effects.keeper
same_keeper (Took i es last) b b' none words = ap (λ (k : KeeperEffects). k.keeper) words.0.effects
same_keeper (FoundHeld i) b b' none words = ap (λ (k : KeeperEffects). k.keeper) words.0.effects
same_keeper (Gave i) b b' none words = ap (λ (k : KeeperEffects). k.keeper) words.1.effects
same_keeper (Drew t) b b' none words = absurd none
same_keeper (Looked q) b b' none words = ap (λ (k : KeeperEffects). k.keeper) words.0.effects
same_keeper (Published x) b b' none words = ap (λ (k : KeeperEffects). k.keeper) words.1
same_keeper (Saw d) b b' none words = ap (λ (k : KeeperEffects). k.keeper) words.0.effects
same_keeper Failed b b' none words = ap (λ (k : KeeperEffects). k.keeper) words.1
same_keeper (FoundAlive is_alive) b b' none words = ap (λ (k : KeeperEffects). k.keeper) words.0.effects

-- the record of the keeper's pass says what the keeper did
knows_keeper : (b : Book) → IsOneHistory b → length b.passes ≡ 65 → Knows b.opening b.stripes b.history b.authors b.effects 64 (record_of 64 b)
knows_keeper b one passes = one.passes 64 (omega (arith, passes))

keeper_done : (b : Book) → IsOneHistory b → length b.passes ≡ 65 → b.effects.keeper ≡ 64 → HasDone b.opening b.effects (record_of 64 b) true
keeper_done b one passes keeper =
    let knows : Knows b.opening b.stripes b.history b.authors b.effects 64 (record_of 64 b) = knows_keeper b one passes in
    subst (HasDone b.opening b.effects (record_of 64 b)) (knows.keeper ∙ eq-eqb 64 b.effects.keeper (sym keeper)) knows.done

other_place : InOutbox ≡ InHand → ⊥
other_place e = cc

-- ---- the places after a sweep's GIVE

module _ (b b' : Book) (w : World) (l l' : Life) (doings : ℕ → Doing) (stand : WorkersStand b w l doings) (i : ℕ) (swept : Swept b b' w l l' i) (history : b'.history ≡ b.history) (opening : b'.opening.first ≡ b.opening.first)
    (taken : b'.effects.taken ≡ b.effects.taken ++ swept.held.outbox) (begins : l'.first ≡ l.first) (jobs : l'.jobs ≡ l.jobs) where
  places_are : l'.places ≡ swept_places b.stripes i b.history l.places
  places_are = swept.places ∙ (ap (λ n. swept_places n i (drop l.first w.history) l.places) stand.words.stripes ∙ ap (λ cs. swept_places b.stripes i cs l.places) (all_commands b w l stand.words))

  holds_content : Holds b.opening b.stripes b.history b.authors b.effects (record_of 64 b) swept.held
  holds_content = (knows_keeper b stand.words.one stand.passes).held swept.held swept.holding

  all_is : IsOutbox b i swept.held.outbox
  all_is = subst (λ k. entries_of b.stripes k (entries_from b.opening.first b.history) ≡ entries_of b.stripes k b.effects.taken ++ swept.held.outbox) swept.stripe_is holds_content.content.outbox_is

  keeper_holds_it : HoldsStripe b 64 i
  keeper_holds_it = record { within = omega (arith, stand.passes); has = ap stripe_in swept.holding ∙ ap (λ k. Some k) swept.stripe_is }

  place_at : (e : Entry) → IsAt b.opening.first b.history e → place_of l' e.ticket ≡ swept_place (is_in_stripe b.stripes i e.command.key) (place_of l e.ticket)
  place_at e is =
      let o : ℕ = b.opening.first in
      ap (λ ps. slice_index_or ps (e.ticket - l'.first) WithWorker) places_are
      ∙ (ap (λ k. slice_index_or (swept_places b.stripes i b.history l.places) (e.ticket - k) WithWorker) (begins ∙ stand.words.first)
      ∙ (swept_get b.stripes i b.history l.places (e.ticket - o) e.command stand.places.count (omega (arith, is.low, is.high))
      ∙ (ap (λ (c : Command). swept_place (is_in_stripe b.stripes i c.key) (slice_index_or l.places (e.ticket - o) WithWorker)) is.there
      ∙ ap (λ k. swept_place (is_in_stripe b.stripes i e.command.key) (slice_index_or l.places (e.ticket - k) WithWorker)) (sym stand.words.first))))

  -- the entry of a ticket of this life
  FoundAt : ℕ → Type 0
  FoundAt t = (c : Command) × Contains (entries_from b.opening.first b.history) (entry t c)

  entry_at : (t : ℕ) → IsOfLife b t → FoundAt t
  unfolding FoundAt
  entry_at t is = at_ticket b.opening.first b.history t is.0 is.1

  -- no worker has drawn the ticket of an entry of the outbox
  never_drawn : (e : Entry) → Contains swept.held.outbox e → IsDrawn l e.ticket → ⊥
  never_drawn e has drawn =
      let by : (j : ℕ) × (j < 64) × HoldsStripe b j i =
      drawn_holder b w l doings i e stand (at_of_outbox b i swept.held.outbox all_is e has) (own_of_outbox b i swept.held.outbox all_is e has) drawn in
      omega (arith, stand.words.apart i by.0 64 by.2 keeper_holds_it, by.1)

  taken_still : (t : ℕ) → IsTaken b t → IsTaken b' t
  taken_still t is = (is.0, subst (λ es. Contains es is.0) (sym taken) (Contains-append_left b.effects.taken swept.held.outbox is.0 is.1), is.2)

  taken_now : (e : Entry) → Contains swept.held.outbox e → IsTaken b' e.ticket
  taken_now e has = (e, subst (λ es. Contains es e) (sym taken) (Contains-append_right b.effects.taken swept.held.outbox e has), refl)

  -- what is taken was taken before, or lay in the outbox
  TakenFrom : ℕ → Type 0
  TakenFrom t = (e : Entry) × Contains swept.held.outbox e × (e.ticket ≡ t)

  taken_or : (t : ℕ) → IsTaken b' t → IsTaken b t ⊎ TakenFrom t
  unfolding TakenFrom
  taken_or t is = elim (Contains-append_cases b.effects.taken swept.held.outbox is.0 (subst (λ es. Contains es is.0) taken is.1)) [
    | inl old ↦ inl (is.0, old, is.2)
    | inr new ↦ inr (is.0, new, is.2)
  ]

  still_of_life : (t : ℕ) → IsOfLife b t → IsOfLife b' t
  still_of_life t is = (omega (arith, is.0, opening), omega (arith, is.1, opening, ap length history))

  was_of_life : (t : ℕ) → IsOfLife b' t → IsOfLife b t
  was_of_life t is = (omega (arith, is.0, opening), omega (arith, is.1, opening, ap length history))

  life_of_outbox : (t : ℕ) → TakenFrom t → IsOfLife b t
  unfolding TakenFrom
  life_of_outbox t from = (let is : IsAt b.opening.first b.history from.0 = at_of_outbox b i swept.held.outbox all_is from.0 from.1 in (omega (arith, is.low, from.2), omega (arith, is.high, from.2)))

  same_drawn : (k : ℕ) → drawn_by (job_of l' k) ≡ drawn_by (job_of l k)
  same_drawn k = ap (λ js. drawn_by (slice_index_or js k Idle)) jobs

  -- where it came into hand
  hand_from : (t : ℕ) → IsOfLife b t → place_of l' t ≡ InHand → IsTaken b' t
  unfolding FoundAt
  hand_from t is at =
      let e : FoundAt t = entry_at t is in
      let own : Bool = is_in_stripe b.stripes i e.0.key in
      elim (swept_hand own (place_of l t) (sym (place_at (entry t e.0) (found b.opening.first b.history (entry t e.0) e.1)) ∙ at)) [
        | inl old ↦ taken_still t ((stand.places.in_hand t is).0 old)
        | inr new ↦ elim (boxed_or_taken b i swept.held.outbox all_is (entry t e.0) e.1 new.1) [
          | inl k ↦ absurd (other_place (sym new.0 ∙ (stand.places.in_hand t is).1 (entry t e.0, k, refl)))
          | inr k ↦ taken_now (entry t e.0) k
        ]
      ]

  to_hand : (t : ℕ) → IsOfLife b t → IsTaken b' t → place_of l' t ≡ InHand
  unfolding FoundAt TakenFrom
  to_hand t is has = elim (taken_or t has) [
    | inl old ↦
        let e : FoundAt t = entry_at t is in
        place_at (entry t e.0) (found b.opening.first b.history (entry t e.0) e.1) ∙ hand_swept (is_in_stripe b.stripes i e.0.key) (place_of l t) ((stand.places.in_hand t is).1 old)
    | inr from ↦
        let not : place_of l from.0.ticket ≡ WithWorker → ⊥ = λ at. never_drawn from.0 from.1 ((stand.places.with_worker from.0.ticket (subst (IsOfLife b) (sym from.2) is)).0 at) in
        subst (λ k. place_of l' k ≡ InHand) from.2
        (place_at from.0 (at_of_outbox b i swept.held.outbox all_is from.0 from.1)
        ∙ own_swept (is_in_stripe b.stripes i from.0.command.key) (place_of l from.0.ticket) (own_of_outbox b i swept.held.outbox all_is from.0 from.1) not)
  ]

  with_from : (t : ℕ) → IsOfLife b t → place_of l' t ≡ WithWorker → place_of l t ≡ WithWorker
  unfolding FoundAt
  with_from t is at =
      let e : FoundAt t = entry_at t is in
      swept_with (is_in_stripe b.stripes i e.0.key) (place_of l t) (sym (place_at (entry t e.0) (found b.opening.first b.history (entry t e.0) e.1)) ∙ at)

  to_with : (t : ℕ) → IsOfLife b t → place_of l t ≡ WithWorker → place_of l' t ≡ WithWorker
  unfolding FoundAt
  to_with t is at =
      let e : FoundAt t = entry_at t is in
      place_at (entry t e.0) (found b.opening.first b.history (entry t e.0) e.1) ∙ with_swept (is_in_stripe b.stripes i e.0.key) (place_of l t) at

  entries_taken : (e : Entry) → Contains b'.effects.taken e → Contains (entries_from b.opening.first b.history) e
  entries_taken e has = elim (Contains-append_cases b.effects.taken swept.held.outbox e (subst (λ es. Contains es e) taken has)) [
    | inl old ↦ stand.places.entries e old
    | inr new ↦ of_outbox b i swept.held.outbox all_is e new
  ]

  places_gathered : PlacesStand b' l'
  places_gathered = record {
    count = ap length places_are ∙ (swept_length b.stripes i b.history l.places ∙ (stand.places.count ∙ sym (ap length history)));
    drawn = λ t is. still_of_life t (stand.places.drawn t (is.0, sym (same_drawn is.0) ∙ is.1));
    drawn_once = λ j k t x y. stand.places.drawn_once j k t (sym (same_drawn j) ∙ x) (sym (same_drawn k) ∙ y);
    taken = λ t is. elim (taken_or t is) [ inl old ↦ still_of_life t (stand.places.taken t old) | inr from ↦ still_of_life t (life_of_outbox t from) ];
    entries = λ e has. rw (opening, history) (entries_taken e has);
    with_worker = λ t is. (
      λ at. (let was : IsDrawn l t = (stand.places.with_worker t (was_of_life t is)).0 (with_from t (was_of_life t is) at) in (was.0, same_drawn was.0 ∙ was.1)),
      λ x. to_with t (was_of_life t is) ((stand.places.with_worker t (was_of_life t is)).1 (x.0, sym (same_drawn x.0) ∙ x.1)),
    );
    in_hand = λ t is. (hand_from t (was_of_life t is), to_hand t (was_of_life t is));
  }

-- ---- the step

module _ (b b' : Book) (w w' : World) (l l' : Life) (doings : ℕ → Doing) (stand : WorkersStand b w l doings) (moves : KeeperMoves b b' w w' l l') where
  history_same : b'.history ≡ b.history
  history_same = same_history moves.step b b' moves.undrawn moves.moved.words

  keeper_same : b'.effects.keeper ≡ 64
  keeper_same = same_keeper moves.step b b' moves.undrawn moves.moved.words ∙ stand.keeper

  done_before : HasDone b.opening b.effects (record_of 64 b) true
  done_before = keeper_done b stand.words.one stand.passes stand.keeper

  done_after : HasDone b'.opening b'.effects (record_of 64 b') true
  done_after = keeper_done b' moves.one (moves.moved.passes ∙ stand.passes) keeper_same

  words_after : WordsStand b' w' l'
  words_after = record {
    one = moves.one;
    apart = moves.apart;
    stripes = moves.stripes ∙ (stand.words.stripes ∙ sym moves.moved.stripes);
    first = moves.first ∙ (stand.words.first ∙ ap (λ o. o.first) (sym moves.moved.opening));
    key_limit = ap (λ o. o.key_limit) moves.moved.opening ∙ (stand.words.key_limit ∙ sym moves.key_limit);
    before = stand.words.before;
    count = stand.words.count ∙ ap (λ o. o.first) (sym moves.moved.opening);
    map = ap (λ o. o.map) moves.moved.opening ∙ stand.words.map;
    history = moves.history ∙ (stand.words.history ∙ ap (λ h. stand.words.before ++ h) (sym history_same));
    durable = moves.durable ∙ done_after.1;
    has_failed = moves.has_failed ∙ done_after.2;
  }

  placed_after : (swept : Option ℕ) → Gathers b b' w l l' swept → PlacesStand b' l'
  placed_after None gathers =
      places_kept b b' l l' (ap (λ o. o.first) moves.moved.opening) history_same (sym done_after.0 ∙ (gathers.0 ∙ done_before.0)) gathers.1 moves.first
      (λ k. ap (λ js. drawn_by (slice_index_or js k Idle)) moves.jobs) stand.places
  placed_after (Some i) gathers =
      places_gathered b b' w l l' doings stand i gathers history_same (ap (λ o. o.first) moves.moved.opening)
      (sym done_after.0 ∙ (gathers.taken ∙ ap (λ es. es ++ gathers.held.outbox) done_before.0)) moves.first moves.jobs

  keeper_moves_on : (swept : Option ℕ) → Gathers b b' w l l' swept → WorkersStand b' w' l' doings
  keeper_moves_on swept gathers = record {
    words = words_after;
    passes = moves.moved.passes ∙ stand.passes;
    keeper = keeper_same;
    jobs = ap length moves.jobs ∙ stand.jobs;
    each = λ j lt. rw (moves.moved.stripes, moves.moved.others j (λ e. omega (arith, e, lt)), moves.jobs) (stand.each j lt);
    seen_count = ap length moves.seen ∙ stand.seen_count;
    seen = λ j lt. ap (λ ns. slice_index_or ns j 0) moves.seen ∙ (stand.seen j lt ∙ sym (ap reach (moves.moved.others j (λ e. omega (arith, e, lt)))));
    places = placed_after swept gathers;
    held = moves.held;
  }

pub keeper_steps : KeeperSteps
keeper_steps b b' w w' l l' doings swept stand moves gathers = keeper_moves_on b b' w w' l l' doings stand moves swept gathers

-- no step was made
pub keeper_rests : KeeperRests
keeper_rests b w w' l l' doings stand same = record {
  words = record {
    one = stand.words.one;
    apart = stand.words.apart;
    stripes = same.stripes ∙ stand.words.stripes;
    first = same.first ∙ stand.words.first;
    key_limit = stand.words.key_limit ∙ sym same.key_limit;
    before = stand.words.before;
    count = stand.words.count;
    map = stand.words.map;
    history = same.history ∙ stand.words.history;
    durable = same.durable ∙ stand.words.durable;
    has_failed = same.has_failed ∙ stand.words.has_failed;
  };
  passes = stand.passes;
  keeper = stand.keeper;
  jobs = ap length same.jobs ∙ stand.jobs;
  each = λ j lt. rw same.jobs (stand.each j lt);
  seen_count = ap length same.seen ∙ stand.seen_count;
  seen = λ j lt. ap (λ ns. slice_index_or ns j 0) same.seen ∙ stand.seen j lt;
  places = places_kept b b l l' refl refl refl same.places same.first (λ k. ap (λ js. drawn_by (slice_index_or js k Idle)) same.jobs) stand.places;
  held = λ i. (λ h. (stand.held i).0 (sym (same.held i) ∙ h), λ h. same.held i ∙ (stand.held i).1 h);
}
