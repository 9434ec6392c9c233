-- Two fronts of one history.
use Rattle.std.proofs.Common.{ℕ, ◌≡◌, ◌≢◌, ◌+◌, ◌<◌, ◌++◌, List, [], ◌∷◌, length, Bool, true, false, get_or, set, refl, arith, sym, ◌∙◌, ap, subst, inl, inr, ⊎_elim}
use Rattle.std.specs.List.{All, Contains}
use Rattle.std.specs.Prelude.{if◌then◌else◌, nat_lt}
use Rattle.std.proofs.lemmas.List.Elements.{All-nil, All-cons, All-append, All-weaker, Contains-append_left, Contains-append_right}
use Rattle.std.proofs.lemmas.Bool.{cases_eq}
use Rattle.std.proofs.lemmas.List.{set-get_or}
use mathlib.Core.Option.{some, none, some-injective}
use lib.ListN.{get_elem?}
use Rattle.atomic_table.specs.Table.{step, keeps, Allows, Joins}
use Rattle.atomic_table.proofs.Lists.{set_here, set_else, set_again}
use Rattle.map_types.specs.declared.commands.Command.{Command}
use Rattle.ticket_order.specs.declared.record.Opening.{Opening}
use Rattle.ticket_order.specs.declared.record.StepMade.{StepMade}
use Rattle.ticket_order.specs.declared.record.StepMade.TheVariants.{Took, FoundHeld, Gave, Drew, Looked, Published, Saw, Failed, FoundAlive}
use Rattle.ticket_order.specs.declared.record.Record.{Record}
use Rattle.ticket_order.specs.Legality.{entries_from}
use Rattle.one_history.specs.declared.book.Book.{Book}
use Rattle.one_history.specs.declared.book.PassStep.{PassStep}
use Rattle.one_history.specs.Interleaving.{GoesOn, steps_by}
use Rattle.one_history.specs.Turns.{record_of}
use Rattle.one_history.specs.OneHistory.{IsFront, HasDone, Knows, StaysSo}
use Rattle.one_history.proofs.Slots.{hold_apart}
use Rattle.one_history.proofs.Staying.{steps_stay}
use Rattle.stripe_locks.specs.declared.view.SeatView.{SeatView}
use Rattle.stripe_locks.specs.Rule.{BearsOut, IsListed, IsSeated, IsUnseated, Sits, HasSeat, Kept, commands_of}
use Rattle.stripe_locks.specs.Fronts.{AreComparable, later_of, both_fronts, no_front, compared, attested}
use Rattle.stripe_locks.proofs.Listing.{there_is, put, put_here, put_else, one_alone, one_there, still_listed, all_of_one, all_of_other}
use Rattle.stripe_locks.proofs.Turning.{St, M, seated, in_book, seats_set}

one_longer : (x : Command) (xs ys : List Command) → AreComparable xs ys → AreComparable (x ∷ xs) (x ∷ ys)
one_longer x xs ys c = ⊎_elim (λ f. inl (record { rest = f.rest; is = ap (λ l. x ∷ l) f.is })) (λ f. inr (record { rest = f.rest; is = ap (λ l. x ∷ l) f.is })) c

comparable : (xs ys p q : List Command) → xs ++ p ≡ ys ++ q → AreComparable xs ys
comparable [] ys p q e = inl (record { rest = ys; is = refl })
comparable (x ∷ xs) [] p q e = inr (record { rest = x ∷ xs; is = refl })
comparable (x ∷ xs) (y ∷ ys) p q e =
    let same : x ≡ y = (let f : x ∷ (xs ++ p) ≡ y ∷ (ys ++ q) = e in cc) in
    let tails : xs ++ p ≡ ys ++ q = (let f : x ∷ (xs ++ p) ≡ y ∷ (ys ++ q) = e in cc) in
    subst (λ z. AreComparable (x ∷ xs) (z ∷ ys)) same (one_longer x xs ys (comparable xs ys p q tails))

pub commands_are : (t : ℕ) (cs : List Command) → commands_of (entries_from t cs) ≡ cs
commands_are t [] = refl
commands_are t (c ∷ cs) = ap (λ l. c ∷ l) (commands_are (t + 1) cs)

borne_out : (b : Book) (j : ℕ) (w : Record) (s : StepMade) → w.published ≡ b.effects.durable → w.failed ≡ b.effects.failed → StaysSo b j s → BearsOut w.published w.failed s
borne_out b j w (Took i outbox last) durable failed x = tt
borne_out b j w (FoundHeld i) durable failed x = tt
borne_out b j w (Gave i) durable failed x = tt
borne_out b j w (Drew t) durable failed x = tt
borne_out b j w (Looked q) durable failed x = tt
borne_out b j w (Published q) durable failed x = tt
borne_out b j w (Saw d) durable failed x = omega (arith, durable)
borne_out b j w Failed durable failed x = tt
borne_out b j w (FoundAlive is_alive) durable failed x = λ no. failed ∙ x no

-- what the keeper did bears out each pass's steps
borne_out_by : (b : Book) (j : ℕ) (v w : Record) (keeper : Bool) → HasDone b.opening b.effects w keeper → All (StaysSo b j) v.steps → All (BearsOut w.published w.failed) (if keeper then v.steps else [])
borne_out_by b j v w true done stays = All-weaker (StaysSo b j) (BearsOut w.published w.failed) (λ s x. borne_out b j w s done.1 done.2 x) v.steps stays
borne_out_by b j v w false done stays = All-nil _

later_goes_on : (xs ys order : List PassStep) → GoesOn xs order → GoesOn ys order → GoesOn (later_of xs ys) order
later_goes_on xs ys order p q = elim (nat_lt (length xs) (length ys)) as (λ t. GoesOn (if t then ys else xs) order) [ true ↦ q | false ↦ p ]

-- Two seats of passes. One becomes a seat that lists both.
module _ (o : Opening) (s : St) (k : Kept o s) (id : ℕ) (v : SeatView) (other : ℕ) (w : SeatView) (is_pass : v.pass.enrolled ≡ true) (is_pass' : w.pass.enrolled ≡ true) (at : get_elem? s.views id ≡ some v) (apart : other ≢ id) (there : get_elem? s.views other ≡ some w) where
  abbrev n : ℕ
  n = get_or s.words 24 0

  abbrev q : IsSeated k.seats k.book n id v
  q = seated o s k id v at is_pass

  abbrev q' : IsSeated k.seats k.book n other w
  q' = seated o s k other w there is_pass'

  -- the one seat lists the pass of the other from now on
  abbrev seats' : ℕ → ℕ
  seats' = put k.seats q'.place id

  -- it is that of no other seat's pass
  listed_elsewhere : (l j : ℕ) → l ≢ other → k.seats j ≡ l → seats' j ≡ l
  listed_elsewhere l j ne is = put_else k.seats q'.place id j (λ e. ne (sym is ∙ (ap k.seats e ∙ q'.seat_is))) ∙ is

  other_sits : (l : ℕ) (u : SeatView) (e : Bool) → l ≢ other → Sits k.seats k.book n l u e → Sits seats' k.book n l u e
  other_sits l u true ne x = record { place = x.place; number_is = x.number_is; within = x.within; seat_is = listed_elsewhere l x.place ne x.seat_is; lists = x.lists; view_is = x.view_is; goes_on = x.goes_on; made = x.made }
  other_sits l u false ne x = record {
    few = x.few;
    front = x.front;
    other_front = x.other_front;
    borne_out = x.borne_out;
    goes_on = x.goes_on;
    listed = All-weaker (IsListed k.seats k.book n l u.order) (IsListed seats' k.book n l u.order) (λ j y. record { within = y.within; seat_is = listed_elsewhere l j ne y.seat_is; made = y.made }) u.places x.listed;
  }

  abbrev both : SeatView
  both = both_fronts v w

  steps_are : (j : ℕ) → steps_by j k.book.interleaving ≡ (record_of j k.book).steps
  steps_are j = sym (k.kept.one.steps j)

  both_listed : All (IsListed seats' k.book n id (later_of v.order w.order)) (v.places ++ w.places)
  both_listed =
      let here : v.places ≡ q.place ∷ [] = q.lists in let here' : w.places ≡ q'.place ∷ [] = q'.lists in
      let all : steps_by q.place v.order ≡ steps_by q.place k.book.interleaving = q.made ∙ (ap (λ (r : Record). r.steps) (sym q.view_is) ∙ sym (steps_are q.place)) in
      let all' : steps_by q'.place w.order ≡ steps_by q'.place k.book.interleaving = q'.made ∙ (ap (λ (r : Record). r.steps) (sym q'.view_is) ∙ sym (steps_are q'.place)) in
      let P : ℕ → Type 0 = IsListed seats' k.book n id (later_of v.order w.order) in
      let one : P q.place = record { within = q.within; seat_is = listed_elsewhere id q.place (λ e. apart (sym e)) q.seat_is; made = all_of_one q.place v.order w.order k.book.interleaving q.goes_on q'.goes_on all ∙ steps_are q.place } in
      let two : P q'.place = record { within = q'.within; seat_is = put_here k.seats q'.place id; made = all_of_other q'.place v.order w.order k.book.interleaving q.goes_on q'.goes_on all' ∙ steps_are q'.place } in
      All-append P v.places w.places (subst (All P) (sym here) (All-cons P q.place [] one (All-nil P))) (subst (All P) (sym here') (All-cons P q'.place [] two (All-nil P)))

  still : (j : ℕ) → j < n → HasSeat seats' (set (set s.views id both) other no_front) j
  still j lt = elim (cases_eq j q'.place) [
    | inl e ↦
        let here : seats' j ≡ id = ap seats' e ∙ put_here k.seats q'.place id in
        let there_it_is : get_elem? (set (set s.views id both) other no_front) id ≡ some both = set_else (set s.views id both) other id no_front (λ h. apart (sym h)) ∙ set_here s.views id both (there_is s.views id v at) in
        record {
          view = both;
          at = ap (get_elem? (set (set s.views id both) other no_front)) here ∙ there_it_is;
          lists = subst (Contains (v.places ++ w.places)) (sym e) (Contains-append_right v.places w.places q'.place (subst (λ ps. Contains ps q'.place) (sym q'.lists) (one_there q'.place)));
        }
    | inr ne ↦
        let h : HasSeat k.seats s.views j = k.each_pass j lt in
        let elsewhere : k.seats j ≢ other = λ e.
        let mine : h.view ≡ w = some-injective h.view w (sym h.at ∙ (ap (get_elem? s.views) e ∙ there)) in
        ne (sym (one_alone q'.place j (subst (λ ps. Contains ps j) (ap (λ (r : SeatView). r.places) mine ∙ q'.lists) h.lists))) in
        let h' : HasSeat k.seats (set s.views id both) j = still_listed k.seats s.views id v both j at (Contains-append_left v.places w.places j) h in
        let same : seats' j ≡ k.seats j = put_else k.seats q'.place id j ne in
        record { view = h'.view; at = ap (get_elem? (set (set s.views id both) other no_front)) same ∙ (set_else (set s.views id both) other (k.seats j) no_front elsewhere ∙ h'.at); lists = h'.lists }
  ]

  joined : Kept o record { words = s.words; homes = s.homes; views = set (set s.views id both) other no_front }
  joined =
      let front : IsFront v.pass.seen k.book.history = subst (λ (r : Record). IsFront r.seen k.book.history) q.view_is (k.kept.one.passes q.place (in_book o s k id v at is_pass)).front in
      let front' : IsFront w.pass.seen k.book.history = subst (λ (r : Record). IsFront r.seen k.book.history) q'.view_is (k.kept.one.passes q'.place (in_book o s k other w there is_pass')).front in
      let knows : Knows k.book.opening k.book.stripes k.book.history k.book.authors k.book.effects q'.place w.pass =
      subst (Knows k.book.opening k.book.stripes k.book.history k.book.authors k.book.effects q'.place) q'.view_is (k.kept.one.passes q'.place (in_book o s k other w there is_pass')) in
      let stays : All (StaysSo k.book q.place) v.pass.steps = subst (λ (r : Record). All (StaysSo k.book q.place) r.steps) q.view_is (steps_stay k.book k.kept.one q.place) in
      let borne_by : All (BearsOut w.pass.published w.pass.failed) (if w.pass.keeper then v.pass.steps else []) = borne_out_by k.book q.place v.pass w.pass w.pass.keeper knows.done stays in
      record {
        book = k.book;
        slots = k.slots;
        seats = seats';
        opening = k.opening;
        wide = k.wide;
        kept = k.kept;
        failure = k.failure;
        few = k.few;
        joined = k.joined;
        keeper = k.keeper;
        unjoined = k.unjoined;
        each_stripe = k.each_stripe;
        each_seat = seats_set (λ l u. Sits seats' k.book n l u u.pass.enrolled) (set s.views id both) other no_front
            (record { few = omega arith; front = record { rest = k.book.history; is = refl }; other_front = record { rest = k.book.history; is = refl }; borne_out = All-nil _; goes_on = record { later = k.book.interleaving; is = refl }; listed = All-nil _ })
            (λ l u ne e. seats_set (λ l u. l ≢ other → Sits seats' k.book n l u u.pass.enrolled) s.views id both
            (λ _. record { few = omega arith; front = front; other_front = subst (λ cs. IsFront cs k.book.history) (sym (commands_are 0 w.pass.seen)) front'; borne_out = borne_by; goes_on = later_goes_on v.order w.order k.book.interleaving q.goes_on q'.goes_on; listed = both_listed })
            (λ m z nm h nother. other_sits m z z.pass.enrolled nother (k.each_seat m z h)) l u e ne);
        each_pass = still;
      }

pub joins : (o : Opening) (id : ℕ) (v : SeatView) (other : ℕ) (w : SeatView) → v.pass.enrolled ≡ true → w.pass.enrolled ≡ true → Joins (Kept o) id v other w (both_fronts v w) no_front
joins o id v other w is_pass is_pass' s k at apart at' = joined o s k id v other w is_pass is_pass' at apart (sym (set_else s.views id other (both_fronts v w) apart) ∙ at')

pub allows_compare : (o : Opening) (n id : ℕ) (me : M) → me.0.pass.enrolled ≡ false → Allows (Kept o) n id me 0 (λ x. x) (compared (step n 0 0 0 none) me)
allows_compare o n id me no_pass s k wide at range =
    let u : IsUnseated k.seats k.book (get_or s.words 24 0) id me.0 = subst (Sits k.seats k.book (get_or s.words 24 0) id me.0) no_pass (k.each_seat id me.0 at) in (
      me.0,
      keeps,
      tt,
      subst (λ (vs : List SeatView). Kept o record { words = set s.words 0 (get_or s.words 0 0); homes = s.homes; views = vs }) (sym (set_again s.views id me.0 at)) (subst (λ (ws : List ℕ). Kept o record { words = ws; homes = s.homes; views = s.views }) (sym (set-get_or s.words 0 0)) k),
      (comparable me.0.pass.seen (commands_of me.0.pass.taken) u.front.rest u.other_front.rest (sym u.front.is ∙ u.other_front.is), u.borne_out),
    )

pub allows_attest : (o : Opening) (n id : ℕ) (me : M) → me.0.pass.enrolled ≡ true → Allows (Kept o) n id me 0 (λ x. x) (attested (step n 0 0 0 none) me)
allows_attest o n id me is_pass s k wide at range =
    let q = seated o s k id me.0 at is_pass in let in_it = in_book o s k id me.0 at is_pass in (
      me.0,
      keeps,
      tt,
      subst (λ (vs : List SeatView). Kept o record { words = set s.words 0 (get_or s.words 0 0); homes = s.homes; views = vs }) (sym (set_again s.views id me.0 at)) (subst (λ (ws : List ℕ). Kept o record { words = ws; homes = s.homes; views = s.views }) (sym (set-get_or s.words 0 0)) k),
      (
        refl,
        refl,
        record {
          book = k.book;
          place = q.place;
          within = in_it;
          is = q.view_is;
          begins = sym (ap (λ (r : Record). r.opening) (sym q.view_is) ∙ (k.kept.one.passes q.place in_it).opening);
          one = k.kept.one;
          apart = hold_apart _ _ _ _ _ k.book k.kept;
          stays = subst (λ (r : Record). All (StaysSo k.book q.place) r.steps) q.view_is (steps_stay k.book k.kept.one q.place);
        },
      ),
    )
