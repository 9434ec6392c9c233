-- Laws: the steps that a pass records stand last in the one order, and find what the words hold when they are made.
-- So none of them is put into the past.
use Rattle.std.proofs.Common.{ℕ, ◌≡◌, ◌≢◌, eqb, ◌+◌, ◌*◌, ◌-◌, ◌<◌, ◌≤◌, ◌^◌, ◌++◌, List, [], ◌∷◌, map, true, Bool, not, Option, None, Some, inl, inr, length, get_or, max, refl, arith, sym, ◌∙◌, ap, subst, append-nil}
use Rattle.std.specs.List.{Contains}
use Rattle.std.proofs.lemmas.List.{get_or_past}
use Rattle.std.proofs.lemmas.Bool.{cases_eq, cases_lt}
use mathlib.Core.Option.{some, some-injective}
use lib.ListN.{get_elem?}
use prog.Atomic.{either}
use Rattle.atomic_table.specs.Table.{Act, stepped, Allows}
use Rattle.atomic_table.proofs.Lists.{set_here, set_else}
use Rattle.ticket_order.specs.declared.stripe.Stripe.{Stripe}
use Rattle.ticket_order.specs.declared.record.Opening.{Opening}
use Rattle.ticket_order.specs.declared.record.StepMade.{StepMade}
use Rattle.ticket_order.specs.declared.record.StepMade.TheVariants as made
use Rattle.ticket_order.specs.declared.record.Record.{Record}
use Rattle.ticket_order.specs.Records.{newcomer, missing, reach}
use Rattle.ticket_order.specs.Legality.{last_of}
use Rattle.ticket_order.specs.StepRules.{TakesStripe, Looks, Sees, Lives}
use Rattle.one_history.specs.declared.slot.Slot.{Slot}
use Rattle.one_history.specs.declared.slot.Slot.TheVariants.{Home, HeldBy}
use Rattle.one_history.specs.Interleaving.{Finds, words_at, AreFound, steps_by}
use Rattle.one_history.specs.Turns.{record_of, pass_step, words_of}
use Rattle.one_history.specs.SharedWords.{slot_of, holder_in}
use Rattle.one_history.proofs.Ends.{IsFixed, fixed_none, stands_last, found_behind}
use Rattle.stripe_locks.specs.declared.view.SeatView.{SeatView}
use Rattle.stripe_locks.specs.Rule.{Stands, IsSeated, HasSeat, Kept}
use Rattle.stripe_locks.specs.OneOrder.{StandLast, IsDetermined}
use Rattle.stripe_locks.proofs.Listing.{there_is, one_alone, Knows, knows}
use Rattle.stripe_locks.proofs.Turning.{St, M, Homes, seated}

-- no step is that of a pass that didn't join
no_pass : (o : Opening) (s : St) (k : Kept o s) (l : ℕ) → get_or s.words 24 0 ≤ l → steps_by l k.book.interleaving ≡ []
no_pass o s k l past =
    let many : length k.book.passes ≡ max 1 (get_or s.words 24 0) = k.joined in
    let unmade : (record_of l k.book).steps ≡ [] = elim (cases_lt l 1) [
      | inl first ↦
          let zero_is : l ≡ 0 = omega arith in
          ap (λ (m : ℕ). (record_of m k.book).steps) zero_is ∙ ap (λ (r : Record). r.steps) (k.unjoined (omega arith))
      | inr behind ↦ ap (λ (r : Record). r.steps) (get_or_past k.book.passes l (newcomer k.book.opening) (omega arith))
    ] in
    sym (k.kept.one.steps l) ∙ unmade

-- the steps of a pass that sits are those of its record
recorded_steps : (o : Opening) (s : St) (k : Kept o s) (id : ℕ) (v : SeatView) (q : IsSeated k.seats k.book (get_or s.words 24 0) id v) → steps_by q.place k.book.interleaving ≡ v.pass.steps
recorded_steps o s k id v q = sym (k.kept.one.steps q.place) ∙ ap (λ (r : Record). r.steps) q.view_is

-- the steps of a pass that a seat lists stand in the order that it knows
listed_steps : (o : Opening) (s : St) (k : Kept o s) (id : ℕ) (v : SeatView) (l : ℕ) (x : Knows k.seats k.book (get_or s.words 24 0) id v l) → steps_by l v.order ≡ steps_by l k.book.interleaving
listed_steps o s k id v l x = x.listed.made ∙ k.kept.one.steps l

-- in two books the steps of a pass stand alike that one seat lists, with one view
fixed_by : (o : Opening) (s t : St) (k : Kept o s) (k' : Kept o t) (id : ℕ) (v : SeatView) (l : ℕ) → get_elem? s.views id ≡ some v → get_elem? t.views id ≡ some v → Contains v.places l → IsFixed l k.book.interleaving k'.book.interleaving
fixed_by o s t k k' id v l at at' here =
    let x = knows o s k id v l at here in let x' = knows o t k' id v l at' here in
    record { order = v.order; in_one = x.goes_on; in_other = x'.goes_on; all_one = listed_steps o s k id v l x; all_other = listed_steps o t k' id v l x' }

module _ (o : Opening) (s : St) (k : Kept o s) (id : ℕ) (me : M) (at : get_elem? s.views id ≡ some me.0) (is_pass : me.0.pass.enrolled ≡ true)
    (i x : ℕ) (w : SeatView) (a : Act (Option Stripe)) (kept : Kept o (stepped s i x id me.1 w a)) (still : w.pass.enrolled ≡ true) where
  abbrev t : St
  t = stepped s i x id me.1 w a

  abbrev before : IsSeated k.seats k.book (get_or s.words 24 0) id me.0
  before = seated o s k id me.0 at is_pass

  at_after : get_elem? t.views id ≡ some w
  at_after = set_here s.views id w (there_is s.views id me.0 at)

  abbrev after : IsSeated kept.seats kept.book (get_or t.words 24 0) id w
  after = seated o t kept id w at_after still

  pub place_is : me.0.pass.passes - 1 ≡ before.place
  place_is = (let n : me.0.pass.passes ≡ before.place + 1 = before.number_is in omega arith)

  -- the seat lists its own pass alone, before the step and after it
  mine_alone : (l : ℕ) (v : SeatView) → get_elem? s.views id ≡ some v → Contains v.places l → before.place ≡ l
  mine_alone l v there here =
      let same : v ≡ me.0 = some-injective v me.0 (sym there ∙ at) in
      one_alone before.place l (subst (λ ps. Contains ps l) (ap (λ (u : SeatView). u.places) same ∙ before.lists) here)

  mine_alone_after : (l : ℕ) (v : SeatView) → get_elem? t.views id ≡ some v → Contains v.places l → after.place ≡ l
  mine_alone_after l v there here =
      let same : v ≡ w = some-injective v w (sym there ∙ at_after) in
      one_alone after.place l (subst (λ ps. Contains ps l) (ap (λ (u : SeatView). u.places) same ∙ after.lists) here)

  -- the seat of each other pass after the step lists it before the step too
  listed_before : (l : ℕ) → l ≢ after.place → (lt : l < get_or t.words 24 0) → (kept.seats l ≢ id) × Knows k.seats k.book (get_or s.words 24 0) (kept.seats l) (kept.each_pass l lt).view l
  listed_before l ne lt =
      let h : HasSeat kept.seats t.views l = kept.each_pass l lt in
      let apart : kept.seats l ≢ id = λ e. ne (sym (mine_alone_after l h.view (ap (get_elem? t.views) (sym e) ∙ h.at) h.lists)) in
      (apart, knows o s k (kept.seats l) h.view l (sym (set_else s.views id (kept.seats l) w apart) ∙ h.at) h.lists)

  -- the seat of each other pass before the step lists it after the step too
  listed_after : (l : ℕ) → l ≢ before.place → (lt : l < get_or s.words 24 0) → (k.seats l ≢ id) × Knows kept.seats kept.book (get_or t.words 24 0) (k.seats l) (k.each_pass l lt).view l
  listed_after l ne lt =
      let h : HasSeat k.seats s.views l = k.each_pass l lt in
      let apart : k.seats l ≢ id = λ e. ne (sym (mine_alone l h.view (ap (get_elem? s.views) (sym e) ∙ h.at) h.lists)) in
      (apart, knows o t kept (k.seats l) h.view l (set_else s.views id (k.seats l) w apart ∙ h.at) h.lists)

  -- the seat stays that of its pass
  same_place : after.place ≡ before.place
  same_place = elim (cases_eq after.place before.place) [
    | inl same ↦ same
    | inr ne ↦ elim (cases_lt before.place (get_or t.words 24 0)) [
      | inl lt ↦
          let h = listed_before before.place (λ e. ne (sym e)) lt in
          absurd (h.0 (sym h.1.listed.seat_is ∙ before.seat_is))
      | inr past ↦
          let low : after.place < get_or t.words 24 0 = after.within in
          let high : before.place < get_or s.words 24 0 = before.within in
          let h = listed_after after.place ne (omega (arith, low, high, past)) in
          absurd (h.0 (sym h.1.listed.seat_is ∙ after.seat_is))
    ]
  ]

  -- no other pass joins by the step
  none_joins : (l : ℕ) → l ≢ before.place → get_or s.words 24 0 ≤ l → get_or t.words 24 0 ≤ l
  none_joins l ne past = elim (cases_lt l (get_or t.words 24 0)) [
    | inl lt ↦
        let h = listed_before l (λ e. ne (e ∙ same_place)) lt in
        let joined : l < get_or s.words 24 0 = h.1.listed.within in
        absurd (omega (arith, joined, past))
    | inr past' ↦ past'
  ]

  -- the steps of each other pass stand alike in the one order before the step and after it
  fixed : (l : ℕ) → l ≢ before.place → IsFixed l k.book.interleaving kept.book.interleaving
  fixed l ne = elim (cases_lt l (get_or s.words 24 0)) [
    | inl lt ↦
        let h : HasSeat k.seats s.views l = k.each_pass l lt in
        fixed_by o s t k kept (k.seats l) h.view l h.at (set_else s.views id (k.seats l) w (listed_after l ne lt).0 ∙ h.at) h.lists
    | inr past ↦ fixed_none l k.book.interleaving kept.book.interleaving (no_pass o s k l past) (no_pass o t kept l (none_joins l ne past))
  ]

  -- the new steps stand last
  pub grows_at_its_end : (new : List StepMade) → w.pass.steps ≡ me.0.pass.steps ++ new → kept.book.interleaving ≡ k.book.interleaving ++ map (pass_step before.place) new
  grows_at_its_end new is =
      let was : steps_by before.place k.book.interleaving ≡ me.0.pass.steps = recorded_steps o s k id me.0 before in
      let now : steps_by before.place kept.book.interleaving ≡ w.pass.steps = subst (λ (p : ℕ). steps_by p kept.book.interleaving ≡ w.pass.steps) same_place (recorded_steps o (stepped s i x id me.1 w a) kept id w after) in
      stands_last before.place new k.book.interleaving kept.book.interleaving fixed (now ∙ (is ∙ ap (λ xs. xs ++ new) (sym was)))

  -- they find what the words hold when they are made
  pub found_now : (new : List StepMade) → w.pass.steps ≡ me.0.pass.steps ++ new → AreFound (words_of k.book) (map (pass_step before.place) new)
  found_now new is =
      let opening : kept.book.opening ≡ k.book.opening = kept.opening ∙ sym k.opening in
      let found : AreFound (words_at k.book.opening) (k.book.interleaving ++ map (pass_step before.place) new) =
      subst (AreFound (words_at k.book.opening)) (grows_at_its_end new is) (subst (λ (p : Opening). AreFound (words_at p) kept.book.interleaving) opening kept.kept.one.found) in
      found_behind (words_at k.book.opening) k.book.interleaving (map (pass_step before.place) new) found

  -- one new step finds them so
  pub finds_now : (new : StepMade) → w.pass.steps ≡ me.0.pass.steps ++ new ∷ [] → Finds before.place new (words_of k.book)
  unfolding AreFound
  finds_now new is = (found_now (new ∷ []) is).0

-- in two books of one table the steps of each pass stand alike
fixed_alike : (o : Opening) (s : St) (one other : Kept o s) (l : ℕ) → IsFixed l one.book.interleaving other.book.interleaving
fixed_alike o s one other l = elim (cases_lt l (get_or s.words 24 0)) [
  | inl lt ↦ (let h : HasSeat one.seats s.views l = one.each_pass l lt in fixed_by o s s one other (one.seats l) h.view l h.at h.at h.lists)
  | inr past ↦ fixed_none l one.book.interleaving other.book.interleaving (no_pass o s one l past) (no_pass o s other l past)
]

pub determined : IsDetermined
determined o s one other =
    let first = fixed_alike o s one other 0 in
    let alike : steps_by 0 other.book.interleaving ≡ steps_by 0 one.book.interleaving ++ [] = sym first.all_other ∙ (first.all_one ∙ sym (append-nil (steps_by 0 one.book.interleaving))) in
    stands_last 0 [] one.book.interleaving other.book.interleaving (λ l ne. fixed_alike o s one other l) alike ∙ append-nil one.book.interleaving

pub stand_last : StandLast
stand_last o s k id me at is_pass i x w a kept still new is =
    let same : (seated o s k id me.0 at is_pass).place ≡ me.0.pass.passes - 1 = sym (place_is o s k id me at is_pass i x w a kept still) in (
      subst (λ (j : ℕ). kept.book.interleaving ≡ k.book.interleaving ++ map (pass_step j) new) same (grows_at_its_end o s k id me at is_pass i x w a kept still new is),
      subst (λ (j : ℕ). AreFound (words_of k.book) (map (pass_step j) new)) same (found_now o s k id me at is_pass i x w a kept still new is),
    )

-- what the book says of a stripe's holder and its last, as its word and its content say
no_holder : (words : List ℕ) (homes : Homes) (i : ℕ) (slot : Slot) → Stands words homes i slot → get_or words (i * 8 + 32) 0 ≡ 0 → holder_in slot ≡ None
no_holder words homes i (Home content) z free = refl
no_holder words homes i (HeldBy j) z free = absurd (let n : j + 1 ≡ 0 = sym z ∙ free in omega arith)

some_holder : (words : List ℕ) (homes : Homes) (i : ℕ) (slot : Slot) → Stands words homes i slot → get_or words (i * 8 + 32) 0 ≢ 0 → holder_in slot ≡ None → ⊥
some_holder words homes i (Home content) z held nobody = held z.0
some_holder words homes i (HeldBy j) z held nobody = let no : Some j ≡ None = nobody in cc

-- What no pass is allowed: a step of the past, whatever word the body works on, and however.
module _ (o : Opening) (n id : ℕ) (me : M) (s : St) (k : Kept o s) (wide : length s.homes ≡ n) (at : get_elem? s.views id ≡ some me.0) (is_pass : me.0.pass.enrolled ≡ true)
    (i : ℕ) (f : ℕ → ℕ) (range : get_or s.words i 0 < 2 ^ 64) where
  -- a TAKE that finds a stripe held which is free, if the body says so of what it finds here
  pub no_miss_of_the_past : (stripe : ℕ) → stripe < n → get_or s.words (stripe * 8 + 32) 0 ≡ 0 → Allows (Kept o) n id me i f (λ r m'. r ≡ get_or s.words i 0 → m'.0.pass ≡ missing me.0.pass stripe) → ⊥
  no_miss_of_the_past stripe lt free allows =
      let did = allows s k wide at range in
      let told : did.0.pass ≡ missing me.0.pass stripe = did.4 refl in
      let found : Finds (seated o s k id me.0 at is_pass).place (made.FoundHeld stripe) (words_of k.book) =
      finds_now o s k id me at is_pass i (f (get_or s.words i 0)) did.0 did.1 did.3 (ap (λ (r : Record). r.enrolled) told ∙ is_pass) (made.FoundHeld stripe) (ap (λ (r : Record). r.steps) told) in
      let within : stripe < length s.homes = omega (arith, lt) in
      let free_now : (words_of k.book).holders stripe ≡ None = k.kept.holders stripe (omega (arith, k.kept.stripes_are)) ∙ no_holder s.words s.homes stripe (slot_of stripe k.slots) (k.each_stripe stripe within) free in
      let no : None ≡ Some found.other = sym free_now ∙ found.is in
      cc

  -- a TAKE that finds a stripe free which is held
  pub no_take_of_the_past : (stripe : ℕ) (content : Stripe) → stripe < n → get_or s.words (stripe * 8 + 32) 0 ≢ 0 → Allows (Kept o) n id me i f (λ r m'. TakesStripe n me.0.pass stripe content m'.0.pass) → ⊥
  no_take_of_the_past stripe content lt held allows =
      let did = allows s k wide at range in
      let told : TakesStripe n me.0.pass stripe content did.0.pass = did.4 in
      let found : Finds (seated o s k id me.0 at is_pass).place (made.Took stripe content.outbox.items content.last) (words_of k.book) =
      finds_now o s k id me at is_pass i (f (get_or s.words i 0)) did.0 did.1 did.3 (ap (λ (r : Record). r.enrolled) told.is ∙ is_pass) (made.Took stripe content.outbox.items content.last) (ap (λ (r : Record). r.steps) told.is) in
      let within : stripe < length s.homes = omega (arith, lt) in
      let holder : (words_of k.book).holders stripe ≡ holder_in (slot_of stripe k.slots) = k.kept.holders stripe (omega (arith, k.kept.stripes_are)) in
      some_holder s.words s.homes stripe (slot_of stripe k.slots) (k.each_stripe stripe within) held (sym holder ∙ found.0)

  -- a TAKE that finds another `last` than the greatest ticket of its stripe says: so no read goes below it
  pub no_take_of_an_old_last : (stripe : ℕ) (content : Stripe) → stripe < n → content.last ≢ last_of k.book.stripes stripe k.book.opening.first k.book.history → Allows (Kept o) n id me i f (λ r m'. TakesStripe n me.0.pass stripe content m'.0.pass) → ⊥
  no_take_of_an_old_last stripe content lt old allows =
      let did = allows s k wide at range in
      let told : TakesStripe n me.0.pass stripe content did.0.pass = did.4 in
      let found : Finds (seated o s k id me.0 at is_pass).place (made.Took stripe content.outbox.items content.last) (words_of k.book) =
      finds_now o s k id me at is_pass i (f (get_or s.words i 0)) did.0 did.1 did.3 (ap (λ (r : Record). r.enrolled) told.is ∙ is_pass) (made.Took stripe content.outbox.items content.last) (ap (λ (r : Record). r.steps) told.is) in
      old (found.1 ∙ k.kept.one.words.lasts stripe (omega (arith, lt, k.kept.stripes_are)))

  -- a LOOK at another count of tickets than the word's
  pub no_look_of_the_past : (q : ℕ) → q ≢ get_or s.words 0 0 → Allows (Kept o) n id me i f (λ r m'. Looks me.0.pass q m'.0.pass) → ⊥
  no_look_of_the_past q old allows =
      let did = allows s k wide at range in
      let told : Looks me.0.pass q did.0.pass = did.4 in
      let steps : did.0.pass.steps ≡ me.0.pass.steps ++ made.Looked q ∷ [] = ap (λ (r : Record). r.steps) told.is ∙ ap (λ (c : ℕ). me.0.pass.steps ++ made.Looked c ∷ []) (ap reach (sym told.is) ∙ sym told.count_is) in
      let found : Finds (seated o s k id me.0 at is_pass).place (made.Looked q) (words_of k.book) =
      finds_now o s k id me at is_pass i (f (get_or s.words i 0)) did.0 did.1 did.3 (ap (λ (r : Record). r.enrolled) told.is ∙ is_pass) (made.Looked q) steps in
      old (found ∙ (k.kept.one.words.tickets ∙ sym k.kept.counted))

  -- a SEE of another durable count than the word's
  pub no_see_of_the_past : (d : ℕ) → d ≢ get_or s.words 8 0 → Allows (Kept o) n id me i f (λ r m'. Sees me.0.pass d m'.0.pass) → ⊥
  no_see_of_the_past d old allows =
      let did = allows s k wide at range in
      let told : Sees me.0.pass d did.0.pass = did.4 in
      let found : Finds (seated o s k id me.0 at is_pass).place (made.Saw d) (words_of k.book) =
      finds_now o s k id me at is_pass i (f (get_or s.words i 0)) did.0 did.1 did.3 (ap (λ (r : Record). r.enrolled) told.is ∙ is_pass) (made.Saw d) (ap (λ (r : Record). r.steps) told.is) in
      old (found ∙ (k.kept.one.words.durable ∙ sym k.kept.durable_is))

  -- an ALIVE that says what the failure word doesn't
  pub no_alive_of_the_past : (is_alive : Bool) → is_alive ≢ not k.book.effects.failed → Allows (Kept o) n id me i f (λ r m'. Lives me.0.pass is_alive m'.0.pass) → ⊥
  no_alive_of_the_past is_alive old allows =
      let did = allows s k wide at range in
      let told : Lives me.0.pass is_alive did.0.pass = did.4 in
      let found : Finds (seated o s k id me.0 at is_pass).place (made.FoundAlive is_alive) (words_of k.book) =
      finds_now o s k id me at is_pass i (f (get_or s.words i 0)) did.0 did.1 did.3 (ap (λ (r : Record). r.enrolled) told.is ∙ is_pass) (made.FoundAlive is_alive) (ap (λ (r : Record). r.steps) told.is) in
      old (found ∙ ap not k.kept.one.words.failed)

-- No TAKE is allowed that makes a compare-exchange of the count of passes, and if it comes off says that a stripe is held which is free.
pub no_take_at_the_pass_count : (o : Opening) (n id : ℕ) (me : M) (s : St) (old number stripe : ℕ) → Kept o s → length s.homes ≡ n → get_elem? s.views id ≡ some me.0 → get_or s.words 24 0 < 2 ^ 64 → me.0.pass.enrolled ≡ true → get_or s.words 24 0 ≡ old → stripe < n → get_or s.words (stripe * 8 + 32) 0 ≡ 0
    → Allows (Kept o) n id me 24 (λ x. either (eqb x old) number x) (λ r m'. (m'.1 ≡ me.1) × (r ≡ old → m'.0.pass ≡ missing me.0.pass stripe) × (r ≢ old → m'.0 ≡ me.0)) → ⊥
no_take_at_the_pass_count o n id me s old number stripe k wide at range is_pass hit lt free allows =
    no_miss_of_the_past o n id me s k wide at is_pass 24 (λ x. either (eqb x old) number x) range stripe lt free
    (λ s' k' wide' at' range'. let did = allows s' k' wide' at' range' in (did.0, did.1, did.2, did.3, λ same. did.4.1 (same ∙ hit)))
