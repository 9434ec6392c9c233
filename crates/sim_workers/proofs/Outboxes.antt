-- What lies in the outbox of a free stripe lies there in the world.
use Rattle.std.proofs.Common.{ℕ, zero, suc, ◌≡◌, ◌+◌, ◌-◌, ◌<◌, ◌≤◌, ◌⊎◌, List, [], ◌∷◌, Bool, true, false, max, length, drop, refl, arith, sym, ◌∙◌, ap, subst, inl, inr}
use Rattle.std.specs.Prelude.{if◌then◌else◌, slice_index_or}
use Rattle.std.specs.List.{Contains}
use Rattle.std.proofs.lemmas.List.{get_or_default}
use Rattle.std.proofs.lemmas.List.Elements.{All-contains, Contains-append_cases, Contains-append_right, filter_passes}
use Rattle.map_types.specs.declared.commands.Command.{Command}
use Rattle.map_model.specs.Parts.{is_in_stripe}
use Rattle.ticket_order.proofs.Entries.{IsAt, below_past, filtered, found, passes, same_command, there_is}
use Rattle.ticket_order.specs.declared.stripe.Entry.{Entry}
use Rattle.ticket_order.specs.Records.{entry, past}
use Rattle.ticket_order.specs.Legality.{entries_from, entries_of}
use Rattle.one_history.specs.declared.book.Book.{Book}
use Rattle.one_history.specs.Moves.{IsFree, IsOutbox}
use Rattle.one_history.specs.OneHistory.{HoldsStripe}
use Rattle.sim_rules.specs.World.{World, Life, Place, WithWorker, InOutbox, InHand, past_boxed, past_outbox, place_of}
use Rattle.sim_workers.specs.Doings.{Doing}
use Rattle.sim_workers.specs.WordsInWorld.{IsTaken}
use Rattle.sim_workers.specs.Workers.{WorkersStand}
use Rattle.sim_workers.proofs.Drawn.{drawn_holder}
use Rattle.sim_workers.proofs.Moving.{all_commands}
use Rattle.sim_workers.proofs.Rising.{apart, past_within}

-- ---- the entries of an outbox

module _ (b : Book) (i : ℕ) (es : List Entry) (is : IsOutbox b i es) where
  abbrev own : Entry → Bool
  own e = is_in_stripe b.stripes i e.command.key

  abbrev all_entries : List Entry
  all_entries = entries_from b.opening.first b.history

  of_stripe : (e : Entry) → Contains es e → Contains (entries_of b.stripes i all_entries) e
  of_stripe e has = subst (λ xs. Contains xs e) (sym is) (Contains-append_right (entries_of b.stripes i b.effects.taken) es e has)

  -- they are entries of the history, and of the stripe
  pub of_outbox : (e : Entry) → Contains es e → Contains all_entries e
  of_outbox e has = filtered own all_entries e (of_stripe e has)

  pub at_of_outbox : (e : Entry) → Contains es e → IsAt b.opening.first b.history e
  at_of_outbox e has = found b.opening.first b.history e (of_outbox e has)

  pub own_of_outbox : (e : Entry) → Contains es e → is_in_stripe b.stripes i e.command.key ≡ true
  own_of_outbox e has = All-contains (λ (x : Entry). own x ≡ true) (entries_of b.stripes i all_entries) e (filter_passes own all_entries) (of_stripe e has)

  -- each entry of the stripe lies there, or a sweep took it
  pub boxed_or_taken : (e : Entry) → Contains all_entries e → is_in_stripe b.stripes i e.command.key ≡ true → Contains b.effects.taken e ⊎ Contains es e
  boxed_or_taken e has mine =
      elim (Contains-append_cases (entries_of b.stripes i b.effects.taken) es e (subst (λ xs. Contains xs e) is (passes own all_entries e has mine))) [
        | inl k ↦ inl (filtered own b.effects.taken e k)
        | inr k ↦ inr k
      ]

  -- and not both
  never_taken : (e f : Entry) → Contains es e → Contains b.effects.taken f → Contains all_entries f → f.ticket ≡ e.ticket → ⊥
  never_taken e f has taken among same =
      let command : f.command ≡ e.command = same_command b.opening.first b.history f e among (of_outbox e has) same in
      let mine : own f ≡ true = subst (λ (c : Command). is_in_stripe b.stripes i c.key ≡ true) (sym command) (own_of_outbox e has) in
      omega (arith, same, apart b.stripes i b.opening.first b.history (entries_of b.stripes i b.effects.taken) es f e is (passes own b.effects.taken f taken mine) has)

-- ---- the greatest ticket in a list of places

-- if each ticket in the outbox is below p
within_head : (own : Bool) (t p r : ℕ) → (own ≡ true → t < p) → r ≤ p → (if own then max (t + 1) r else r) ≤ p
within_head true t p r here rest = omega (arith, here refl, rest)
within_head false t p r here rest = rest

boxed_within : (n i t : ℕ) (cs : List Command) (places : List Place) (p : ℕ)
    → ((k : ℕ) (c : Command) → k < length cs → slice_index_or places k WithWorker ≡ InOutbox → is_in_stripe n i (slice_index_or cs k c).key ≡ true → t + k < p)
    → past_boxed n i t cs places ≤ p
unfolding past_boxed
boxed_within n i t [] places p below = omega arith
boxed_within n i t (x ∷ cs) [] p below = omega arith
boxed_within n i t (x ∷ cs) (InOutbox ∷ places) p below =
    within_head (is_in_stripe n i x.key) t p (past_boxed n i (t + 1) cs places) (λ mine. (let k : t + 0 < p = below 0 x (omega arith) refl mine in omega (arith, k)))
    (boxed_within n i (t + 1) cs places p (λ k c lt at mine. (let m : t + suc k < p = below (suc k) c (omega (arith, lt)) at mine in omega (arith, m))))
boxed_within n i t (x ∷ cs) (WithWorker ∷ places) p below =
    boxed_within n i (t + 1) cs places p (λ k c lt at mine. (let m : t + suc k < p = below (suc k) c (omega (arith, lt)) at mine in omega (arith, m)))
boxed_within n i t (x ∷ cs) (InHand ∷ places) p below =
    boxed_within n i (t + 1) cs places p (λ k c lt at mine. (let m : t + suc k < p = below (suc k) c (omega (arith, lt)) at mine in omega (arith, m)))

-- each ticket in the outbox is below that
reached_head : (own : Bool) (t r : ℕ) → own ≡ true → t < (if own then max (t + 1) r else r)
reached_head true t r mine = omega arith
reached_head false t r mine = absurd cc

reached_tail : (own : Bool) (t u r : ℕ) → u < r → u < (if own then max (t + 1) r else r)
reached_tail true t u r lt = omega (arith, lt)
reached_tail false t u r lt = lt

boxed_reached : (n i t : ℕ) (cs : List Command) (places : List Place) (k : ℕ) (c : Command) → k < length cs → slice_index_or places k WithWorker ≡ InOutbox
    → is_in_stripe n i (slice_index_or cs k c).key ≡ true → t + k < past_boxed n i t cs places
unfolding past_boxed
boxed_reached n i t [] places k c lt at mine = absurd (omega (arith, lt))
boxed_reached n i t (x ∷ cs) [] k c lt at mine = absurd cc
boxed_reached n i t (x ∷ cs) (InOutbox ∷ places) zero c lt at mine =
    (let h : t < past_boxed n i t (x ∷ cs) (InOutbox ∷ places) = reached_head (is_in_stripe n i x.key) t (past_boxed n i (t + 1) cs places) mine in omega (arith, h))
boxed_reached n i t (x ∷ cs) (WithWorker ∷ places) zero c lt at mine = absurd cc
boxed_reached n i t (x ∷ cs) (InHand ∷ places) zero c lt at mine = absurd cc
boxed_reached n i t (x ∷ cs) (InOutbox ∷ places) (suc k) c lt at mine =
    (let h : (t + 1) + k < past_boxed n i (t + 1) cs places = boxed_reached n i (t + 1) cs places k c (omega (arith, lt)) at mine in
    reached_tail (is_in_stripe n i x.key) t (t + suc k) (past_boxed n i (t + 1) cs places) (omega (arith, h)))
boxed_reached n i t (x ∷ cs) (WithWorker ∷ places) (suc k) c lt at mine =
    (let h : (t + 1) + k < past_boxed n i (t + 1) cs places = boxed_reached n i (t + 1) cs places k c (omega (arith, lt)) at mine in omega (arith, h))
boxed_reached n i t (x ∷ cs) (InHand ∷ places) (suc k) c lt at mine =
    (let h : (t + 1) + k < past_boxed n i (t + 1) cs places = boxed_reached n i (t + 1) cs places k c (omega (arith, lt)) at mine in omega (arith, h))

-- ---- the outbox of a free stripe

only_boxed : (place : Place) → (place ≡ WithWorker → ⊥) → (place ≡ InHand → ⊥) → place ≡ InOutbox
only_boxed WithWorker with_worker in_hand = absurd (with_worker refl)
only_boxed InOutbox with_worker in_hand = refl
only_boxed InHand with_worker in_hand = absurd (in_hand refl)

boxed_not_in_hand : (place : Place) → place ≡ InOutbox → place ≡ InHand → ⊥
boxed_not_in_hand WithWorker boxed in_hand = cc
boxed_not_in_hand InOutbox boxed in_hand = cc
boxed_not_in_hand InHand boxed in_hand = cc

module _ (b : Book) (w : World) (l : Life) (doings : ℕ → Doing) (stand : WorkersStand b w l doings) (i : ℕ) (es : List Entry) (is : IsOutbox b i es) (free : IsFree i b) where
  abbrev first : ℕ
  first = b.opening.first

  abbrev boxed : ℕ
  boxed = past_boxed b.stripes i first b.history l.places

  place_from : (t : ℕ) → place_of l t ≡ slice_index_or l.places (t - first) WithWorker
  place_from t = ap (λ k. slice_index_or l.places (t - k) WithWorker) stand.words.first

  -- a ticket in the outbox is that of one of the entries
  below_past_of : (k : ℕ) (c : Command) → k < length b.history → slice_index_or l.places k WithWorker ≡ InOutbox → is_in_stripe b.stripes i (slice_index_or b.history k c).key ≡ true → first + k < past es
  below_past_of k c lt at mine =
      let e : Entry = entry (first + k) (slice_index_or b.history k c) in
      let back : first + k - first ≡ k = omega arith in
      let there : slice_index_or b.history (first + k - first) e.command ≡ e.command =
      ap (λ x. slice_index_or b.history x e.command) back ∙ get_or_default b.history k e.command c lt in
      let among : Contains (entries_from first b.history) e = there_is first b.history e (record { low = omega arith; high = omega (arith, lt); there = there }) in
      let place : place_of l (first + k) ≡ InOutbox = place_from (first + k) ∙ (ap (λ x. slice_index_or l.places x WithWorker) back ∙ at) in
      elim (boxed_or_taken b i es is e among mine) [
        | inl taken ↦ absurd (boxed_not_in_hand (place_of l (first + k)) place ((stand.places.in_hand (first + k) (omega arith, omega (arith, lt))).1 (e, taken, refl)))
        | inr has ↦ below_past es e has
      ]

  -- the place of an entry is the outbox
  boxed_place : (e : Entry) → Contains es e → place_of l e.ticket ≡ InOutbox
  boxed_place e has =
      let at : IsAt first b.history e = at_of_outbox b i es is e has in
      only_boxed (place_of l e.ticket)
      (λ with_worker.
      let by : (j : ℕ) × (j < 64) × HoldsStripe b j i = drawn_holder b w l doings i e stand at (own_of_outbox b i es is e has) ((stand.places.with_worker e.ticket (at.low, at.high)).0 with_worker) in
      free by.0 by.2)
      (λ in_hand.
      let taken : IsTaken b e.ticket = (stand.places.in_hand e.ticket (at.low, at.high)).0 in_hand in
      never_taken b i es is e taken.0 has taken.1 (stand.places.entries taken.0 taken.1) taken.2)

  below_boxed : (e : Entry) → Contains es e → e.ticket < boxed
  below_boxed e has =
      let at : IsAt first b.history e = at_of_outbox b i es is e has in
      let mine : is_in_stripe b.stripes i (slice_index_or b.history (e.ticket - first) e.command).key ≡ true =
      subst (λ (c : Command). is_in_stripe b.stripes i c.key ≡ true) (sym at.there) (own_of_outbox b i es is e has) in
      let lt : first + (e.ticket - first) < boxed =
      boxed_reached b.stripes i first b.history l.places (e.ticket - first) e.command (omega (arith, at.low, at.high)) (sym (place_from e.ticket) ∙ boxed_place e has) mine in
      omega (arith, lt, at.low)

  boxed_is : boxed ≡ past es
  boxed_is = omega (arith, boxed_within b.stripes i first b.history l.places (past es) below_past_of, past_within es boxed below_boxed)

  -- one past the greatest ticket in the outbox
  pub past_outbox_is : past_outbox w l i ≡ past es
  past_outbox_is =
      ap (λ n. past_boxed n i l.first (drop l.first w.history) l.places) stand.words.stripes
      ∙ (ap (λ h. past_boxed b.stripes i l.first h l.places) (all_commands b w l stand.words)
      ∙ (ap (λ k. past_boxed b.stripes i k b.history l.places) stand.words.first ∙ boxed_is))
