-- Laws: what can't be. Steps that the rule of the shared words allows no pass: of each there is a table that the rule holds of, so that it isn't allowed there.
-- A read below one past the last ticket of its stripe. And a release over other stripes than those on which the call was made.
use Rattle.std.proofs.Common.{ℕ, ◌≡◌, ◌≢◌, ◌<◌, ◌≤◌, ◌^◌, ◌==◌, ◌++◌, List, [], ◌∷◌, zero, suc, eqb, Bool, true, false, Option, length, get_or, set, max, refl, arith, sym, ◌∙◌, ap, subst}
use Rattle.std.specs.Prelude.{if◌then◌else◌}
use Rattle.std.specs.List.{All}
use Rattle.std.proofs.lemmas.List.{set-get_or, get_or_past, same_from_push}
use Rattle.std.proofs.lemmas.List.Elements.{All-head, All-tail}
use Rattle.std.proofs.lemmas.Bool.{eq-eqb, ne_eqb}
use mathlib.Core.Option.{some, none}
use lib.ListN.{get_elem?}
use Rattle.atomic_table.specs.Table.{step, Allows, stepped, Act}
use Rattle.atomic_table.proofs.Lists.{set_here}
use Rattle.java_hash.specs.Stripes.{stripe_of}
use Rattle.map_types.specs.declared.commands.Read.{Read}
use Rattle.map_types.specs.declared.commands.Reply.{Reply}
use Rattle.ticket_order.specs.declared.stripe.Entry.{Entry}
use Rattle.ticket_order.specs.declared.stripe.Stripe.{Stripe}
use Rattle.ticket_order.specs.declared.record.Opening.{Opening}
use Rattle.ticket_order.specs.declared.record.StepMade.{StepMade}
use Rattle.ticket_order.specs.declared.record.StepMade.TheVariants as made
use Rattle.ticket_order.specs.declared.record.Record.{Record}
use Rattle.ticket_order.specs.Records.{newcomer, missing}
use Rattle.ticket_order.specs.StepRules.{TakesStripe, Sees, Lives}
use Rattle.ticket_order.specs.Calls.{MakesRead}
use Rattle.one_history.specs.declared.book.PassStep.{PassStep}
use Rattle.one_history.specs.Interleaving.{steps_by}
use Rattle.one_history.specs.Turns.{record_of, pass_step}
use Rattle.one_history.specs.OneHistory.{IsTakenByAnother, StaysSo}
use Rattle.one_history.proofs.Staying.{steps_stay}
use Rattle.stripe_locks.specs.declared.held.Held.{Held}
use Rattle.stripe_locks.specs.declared.stripes.Stripes.{Stripes}
use Rattle.stripe_locks.specs.Holding.{IsHeldOf}
use Rattle.stripe_locks.specs.declared.view.SeatView.{SeatView}
use Rattle.stripe_locks.specs.Rule.{bit, IsSeated, Kept}
use Rattle.stripe_locks.specs.Plays.{saw, lived}
use Rattle.stripe_locks.proofs.Listing.{there_is}
use Rattle.stripe_locks.proofs.Turning.{St, M, seated}

last_of : {X : Type 0} → (P : X → Type 0) → (xs : List X) (y : X) → All P (xs ++ y ∷ []) → P y
last_of P [] y all = All-head P y [] all
last_of P (x ∷ xs) y all = last_of P xs y (All-tail P x (xs ++ y ∷ []) all)

-- a pass whose step is in the interleaving made one
made_by : (l : ℕ) (x : StepMade) (xs : List PassStep) (i : ℕ) → i < length xs → get_or xs i (pass_step l x) ≡ pass_step l x → steps_by l xs ≡ [] → ⊥
unfolding steps_by
made_by l x [] i within is empty = absurd (omega arith)
made_by l x (y ∷ ys) zero within is empty =
    let own : (y.pass == l) ≡ true = eq-eqb y.pass l (ap (λ (p : PassStep). p.pass) is) in
    let own_step : y.step ∷ steps_by l ys ≡ [] = sym (ap (λ t. if t then y.step ∷ steps_by l ys else steps_by l ys) own) ∙ empty in
    cc
made_by l x (y ∷ ys) (suc i) within is empty =
    let by : (t : Bool) → (if t then y.step ∷ steps_by l ys else steps_by l ys) ≡ [] → ⊥ = elim [
      | true ↦ λ (e : y.step ∷ steps_by l ys ≡ []). cc
      | false ↦ λ (e : steps_by l ys ≡ []). made_by l x ys i (omega arith) is e
    ] in
    by (y.pass == l) empty

-- what a step that changes no word leaves of the rule, and the place of its pass
module _ (o : Opening) (s : St) (k : Kept o s) (id : ℕ) (me : M) (at : get_elem? s.views id ≡ some me.0) (i : ℕ) (w : SeatView) (a : Act (Option Stripe)) (kept : Kept o (stepped s i (get_or s.words i 0) id me.1 w a)) (is_pass : w.pass.enrolled ≡ true) where
  place : IsSeated kept.seats kept.book (get_or (set s.words i (get_or s.words i 0)) 24 0) id w
  place = seated o (stepped s i (get_or s.words i 0) id me.1 w a) kept id w (set_here s.views id w (there_is s.views id me.0 at)) is_pass

  words_are : set s.words i (get_or s.words i 0) ≡ s.words
  words_are = set-get_or s.words i 0

  -- what the new step found stays so
  stays : (before : List StepMade) (x : StepMade) → w.pass.steps ≡ before ++ x ∷ [] → StaysSo kept.book place.place x
  stays before x is =
      let all : All (StaysSo kept.book place.place) w.pass.steps = subst (λ (r : Record). All (StaysSo kept.book place.place) r.steps) place.view_is (steps_stay kept.book kept.kept.one place.place) in
      last_of (StaysSo kept.book place.place) before x (subst (All (StaysSo kept.book place.place)) is all)

  pub sees_no_more : (before : List StepMade) (d : ℕ) → w.pass.steps ≡ before ++ made.Saw d ∷ [] → get_or s.words 8 0 < d → ⊥
  sees_no_more before d is low =
      let at_most : d ≤ kept.book.effects.durable = stays before (made.Saw d) is in
      let durable : get_or s.words 8 0 ≡ kept.book.effects.durable = ap (λ (ws : List ℕ). get_or ws 8 0) (sym words_are) ∙ kept.kept.durable_is in
      omega arith

  pub says_no_only_after_fail : (before : List StepMade) → w.pass.steps ≡ before ++ made.FoundAlive false ∷ [] → get_or s.words 16 0 ≡ 0 → ⊥
  says_no_only_after_fail before is unfailed =
      let failed : kept.book.effects.failed ≡ true = stays before (made.FoundAlive false) is refl in
      let word : get_or s.words 16 0 ≡ bit kept.book.effects.failed = ap (λ (ws : List ℕ). get_or ws 16 0) (sym words_are) ∙ kept.failure in
      let one : get_or s.words 16 0 ≡ 1 = word ∙ ap bit failed in
      omega (arith, one, unfailed)

  -- the one pass that there is finds no stripe held
  pub finds_none_held : (before : List StepMade) (stripe : ℕ) → w.pass.steps ≡ before ++ made.FoundHeld stripe ∷ [] → get_or s.words 24 0 ≡ 1 → ⊥
  finds_none_held before stripe is alone =
      let taken : IsTakenByAnother kept.book place.place stripe = stays before (made.FoundHeld stripe) is in
      let three : get_or (set s.words i (get_or s.words i 0)) 24 0 ≡ 1 = ap (λ (ws : List ℕ). get_or ws 24 0) words_are ∙ alone in
      let within : place.place < get_or (set s.words i (get_or s.words i 0)) 24 0 = place.within in
      let first : place.place ≡ 0 = omega arith in
      let many : length kept.book.passes ≡ max 1 (get_or (set s.words i (get_or s.words i 0)) 24 0) = kept.joined in
      let beyond : length kept.book.passes ≤ taken.taker = (let apart : taken.taker ≢ place.place = taken.apart in omega (arith, apart)) in
      let nobody : record_of taken.taker kept.book ≡ newcomer kept.book.opening = get_or_past kept.book.passes taken.taker (newcomer kept.book.opening) beyond in
      let none_made : steps_by taken.taker kept.book.interleaving ≡ [] = sym (kept.kept.one.steps taken.taker) ∙ ap (λ (r : Record). r.steps) nobody in
      made_by taken.taker (made.Took stripe taken.outbox taken.last) kept.book.interleaving taken.took.0 taken.took.1 taken.took.2 none_made

-- No SEE of the ticket count is allowed, where a ticket isn't durable.
pub no_see_of_the_ticket_count : (o : Opening) (n id : ℕ) (me : M) (s : St) → Kept o s → length s.homes ≡ n → get_elem? s.views id ≡ some me.0 → get_or s.words 0 0 < 2 ^ 64 → me.0.pass.enrolled ≡ true
    → get_or s.words 8 0 < get_or s.words 0 0 → Allows (Kept o) n id me 0 (λ x. x) (saw (step n 0 0 0 none) me) → ⊥
no_see_of_the_ticket_count o n id me s k wide at range is_pass low allows =
    let did = allows s k wide at range in
    let told : Sees me.0.pass (get_or s.words 0 0) did.0.pass = did.4.1 in
    sees_no_more o s k id me at 0 did.0 did.1 did.3 (ap (λ (r : Record). r.enrolled) told.is ∙ is_pass) me.0.pass.steps (get_or s.words 0 0) (ap (λ (r : Record). r.steps) told.is) low

-- No ALIVE that looks at the count of passes, and so says no, is allowed before a FAIL.
pub no_alive_of_the_pass_count : (o : Opening) (n id : ℕ) (me : M) (s : St) → Kept o s → length s.homes ≡ n → get_elem? s.views id ≡ some me.0 → get_or s.words 24 0 < 2 ^ 64 → me.0.pass.enrolled ≡ true
    → get_or s.words 24 0 ≢ 0 → get_or s.words 16 0 ≡ 0 → Allows (Kept o) n id me 24 (λ x. x) (lived (step n 24 0 0 none) me) → ⊥
no_alive_of_the_pass_count o n id me s k wide at range is_pass counted unfailed allows =
    let did = allows s k wide at range in
    let told : Lives me.0.pass (eqb (get_or s.words 24 0) 0) did.0.pass = did.4.1 in
    let no : eqb (get_or s.words 24 0) 0 ≡ false = ne_eqb (get_or s.words 24 0) 0 counted in
    says_no_only_after_fail o s k id me at 24 did.0 did.1 did.3 (ap (λ (r : Record). r.enrolled) told.is ∙ is_pass) me.0.pass.steps
    (ap (λ (r : Record). r.steps) told.is ∙ ap (λ (b : Bool). me.0.pass.steps ++ made.FoundAlive b ∷ []) no) unfailed

-- No TAKE that looks at no stripe's word, and says that its stripe is held, is allowed to the only pass.
pub no_take_without_a_look : (o : Opening) (n id : ℕ) (me : M) (s : St) (stripe : ℕ) → Kept o s → length s.homes ≡ n → get_elem? s.views id ≡ some me.0 → get_or s.words 0 0 < 2 ^ 64 → me.0.pass.enrolled ≡ true
    → get_or s.words 24 0 ≡ 1 → Allows (Kept o) n id me 0 (λ x. x) (λ r m'. (m'.1 ≡ me.1) × (m'.0.pass ≡ missing me.0.pass stripe)) → ⊥
no_take_without_a_look o n id me s stripe k wide at range is_pass alone allows =
    let did = allows s k wide at range in
    let told : did.0.pass ≡ missing me.0.pass stripe = did.4.1 in
    finds_none_held o s k id me at 0 did.0 did.1 did.3 (ap (λ (r : Record). r.enrolled) told ∙ is_pass) me.0.pass.steps stripe (ap (λ (r : Record). r.steps) told) alone

-- equal TAKEs found the same last
same_last : (i j : ℕ) (es fs : List Entry) (l m : ℕ) → made.Took i es l ≡ made.Took j fs m → l ≡ m
same_last i j es fs l m e = cc

-- No read is made below one past the last ticket that its TAKE found, whoever records it.
pub no_read_behind_its_last : (n : ℕ) (v t w : Record) (i position : ℕ) (content : Stripe) (r : Read) (reply : Reply) → TakesStripe n v i content t
    → w.steps ≡ (t.steps ++ made.FoundAlive true ∷ []) ++ made.Gave i ∷ [] → position < content.last → MakesRead n v r position reply w → ⊥
no_read_behind_its_last n v t w i position content r reply took steps low read =
    let stripe : ℕ = stripe_of n r.key in
    let theirs : List StepMade = v.steps ++ made.Took stripe read.outbox read.last ∷ [] in
    let recorded : w.steps ≡ (theirs ++ made.FoundAlive true ∷ []) ++ made.Gave stripe ∷ [] = ap (λ (x : Record). x.steps) read.is in
    let alive = (same_from_push (t.steps ++ made.FoundAlive true ∷ []) (theirs ++ made.FoundAlive true ∷ []) (made.Gave i) (made.Gave stripe) (sym steps ∙ recorded)).0 in
    let taken : t.steps ≡ theirs = (same_from_push t.steps theirs (made.FoundAlive true) (made.FoundAlive true) alive).0 in
    let found : t.steps ≡ v.steps ++ made.Took i content.outbox.items content.last ∷ [] = ap (λ (x : Record). x.steps) took.is in
    let both = (same_from_push v.steps v.steps (made.Took i content.outbox.items content.last) (made.Took stripe read.outbox read.last) (sym found ∙ taken)).1 in
    omega (arith, read.position_is, low, same_last i stripe content.outbox.items read.outbox content.last read.last both)

-- A reply that is held over other stripes isn't one of these, as a release over these asks for.
pub none_held_elsewhere : (s t : Stripes) (h : Held) → t.table.shared.table_id ≢ s.table.shared.table_id → IsHeldOf t h → IsHeldOf s h → ⊥
none_held_elsewhere s t h apart there here = apart (sym there.own ∙ here.own)
