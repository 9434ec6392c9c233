-- One step of a pass keeps the rule.
use Rattle.std.proofs.Common.{ℕ, ◌≡◌, ◌≢◌, ◌+◌, ◌*◌, ◌<◌, ◌≤◌, Bool, true, false, List, length, get_or, set, max, Option, [], ◌∷◌, append-nil, refl, arith, sym, ◌∙◌, ap, subst, ⊎_elim}
use Rattle.std.specs.List.{Contains}
use Rattle.std.proofs.lemmas.List.{set-get_or}
use Rattle.std.proofs.lemmas.List.Elements.{All-weaker}
use mathlib.Core.Option.{some}
use mathlib.Core.Option as maybe
use lib.ListN.{get_elem?}
use Rattle.atomic_table.specs.Table.{State, Me, stepped, keeps}
use Rattle.atomic_table.proofs.Lists.{at_set}
use Rattle.ticket_order.specs.declared.stripe.Stripe.{Stripe}
use Rattle.ticket_order.specs.declared.record.Opening.{Opening}
use Rattle.ticket_order.specs.declared.record.StepMade.{StepMade}
use Rattle.ticket_order.specs.declared.record.Record.{Record}
use Rattle.one_history.specs.declared.book.Book.{Book}
use Rattle.one_history.specs.declared.slot.Slot.{Slot}
use Rattle.one_history.specs.Turns.{record_of, pass_step}
use Rattle.one_history.specs.OneHistory.{IsFront}
use Rattle.one_history.specs.Moves.{BookMoves}
use Rattle.one_history.specs.SharedWords.{slot_of, IsKept}
use Rattle.one_history.proofs.Fronts.{front_trans}
use Rattle.one_history.proofs.Interleavings.{goes_on_itself, goes_on_by}
use Rattle.stripe_locks.specs.declared.view.SeatView.{SeatView}
use Rattle.stripe_locks.specs.Rule.{bit, Stands, IsSeated, IsListed, Sits, Kept}
use Rattle.stripe_locks.specs.Plays.{IsSameOne}
use Rattle.stripe_locks.proofs.Listing.{still_listed}

abbrev pub St : Type 0
St = State (Option Stripe) SeatView

abbrev pub M : Type 0
M = Me (Option Stripe) SeatView

abbrev pub Homes : Type 0
Homes = List (maybe.Option (Option Stripe))

-- what the seat of the pass j knows after its step
abbrev pub view_of : ℕ → Book → SeatView
view_of j b = record { pass = record_of j b; order = b.interleaving; places = j ∷ [] }

-- what holds of each seat, after one has another view
pub seats_set : (P : ℕ → SeatView → Type 0) (vs : List SeatView) (id : ℕ) (w : SeatView) → P id w → ((l : ℕ) (u : SeatView) → l ≢ id → get_elem? vs l ≡ some u → P l u) → (l : ℕ) (u : SeatView) → get_elem? (set vs id w) l ≡ some u → P l u
seats_set P vs id w mine others l u e = ⊎_elim (λ (x : (l ≡ id) × (w ≡ u)). subst (λ (y : ℕ × SeatView). P y.0 y.1) (λ i. (sym x.0 i, x.1 i)) mine) (λ (x : (l ≢ id) × (get_elem? vs l ≡ some u)). others l u x.0 x.1) (at_set vs id l w u e)

module _ (o : Opening) (s : St) (k : Kept o s) (id : ℕ) (v : SeatView) (at : get_elem? s.views id ≡ some v) (is_pass : v.pass.enrolled ≡ true) where
  pub seated : IsSeated k.seats k.book (get_or s.words 24 0) id v
  seated = subst (Sits k.seats k.book (get_or s.words 24 0) id v) is_pass (k.each_seat id v at)

  pub in_book : seated.place < length k.book.passes
  in_book = (let lt : seated.place < get_or s.words 24 0 = seated.within in let n : length k.book.passes ≡ max 1 (get_or s.words 24 0) = k.joined in omega arith)

  -- another seat stays as it is
  other_sits : (made : StepMade) (b' : Book) (joined : ℕ) → BookMoves seated.place made k.book b' → IsFront k.book.history b'.history → joined ≡ get_or s.words 24 0
      → (l : ℕ) (u : SeatView) (e : Bool) → l ≢ id → Sits k.seats k.book (get_or s.words 24 0) l u e → Sits k.seats b' joined l u e
  other_sits made b' joined moves grows same l u true ne x = record {
    place = x.place;
    number_is = x.number_is;
    within = (let lt : x.place < get_or s.words 24 0 = x.within in omega arith);
    seat_is = x.seat_is;
    lists = x.lists;
    view_is = moves.others x.place (λ e. ne (sym x.seat_is ∙ (ap k.seats e ∙ seated.seat_is))) ∙ x.view_is;
    goes_on = goes_on_by u.order k.book.interleaving b'.interleaving (pass_step seated.place made) moves.order x.goes_on;
    made = x.made;
  }
  other_sits made b' joined moves grows same l u false ne x = record {
    few = (let le : u.pass.passes ≤ get_or s.words 24 0 = x.few in omega arith);
    front = front_trans _ _ _ x.front grows;
    other_front = front_trans _ _ _ x.other_front grows;
    borne_out = x.borne_out;
    goes_on = goes_on_by u.order k.book.interleaving b'.interleaving (pass_step seated.place made) moves.order x.goes_on;
    listed = All-weaker (IsListed k.seats k.book (get_or s.words 24 0) l u.order) (IsListed k.seats b' joined l u.order)
        (λ j y. record {
          within = (let lt : j < get_or s.words 24 0 = y.within in omega arith);
          seat_is = y.seat_is;
          made = y.made ∙ ap (λ (r : Record). r.steps) (sym (moves.others j (λ e. ne (sym y.seat_is ∙ (ap k.seats e ∙ seated.seat_is)))));
        })
        u.places x.listed;
  }

  pub turned : (made : StepMade) (b' : Book) (slots' : List Slot) (words' : List ℕ) (homes' : Homes) → BookMoves seated.place made k.book b' → b'.effects.keeper ≡ k.book.effects.keeper → IsFront k.book.history b'.history → IsSameOne v.pass (record_of seated.place b')
      → IsKept (length s.homes) (get_or words' 0 0) (get_or words' 8 0) b'.effects.failed slots' b' → length words' ≡ length s.words → length homes' ≡ length s.homes → get_or words' 16 0 ≡ bit b'.effects.failed → get_or words' 24 0 ≡ get_or s.words 24 0
      → ((i : ℕ) → i < length s.homes → Stands words' homes' i (slot_of i slots'))
      → Kept o record { words = words'; homes = homes'; views = set s.views id (view_of seated.place b') }
  turned made b' slots' words' homes' moves keeper grows same kept long as_long failure three stands = record {
    book = b';
    slots = slots';
    seats = k.seats;
    opening = moves.opening ∙ k.opening;
    wide = long ∙ (k.wide ∙ ap (λ (n : ℕ). n * 8 + 32) (sym as_long));
    kept = subst (λ (n : ℕ). IsKept n (get_or words' 0 0) (get_or words' 8 0) b'.effects.failed slots' b') (sym as_long) kept;
    failure = failure;
    few = (let le : get_or s.words 24 0 ≤ 4096 = k.few in omega arith);
    joined = moves.passes ∙ (k.joined ∙ ap (max 1) (sym three));
    keeper = keeper ∙ k.keeper;
    unjoined = λ z. absurd (let lt : seated.place < get_or s.words 24 0 = seated.within in omega arith);
    each_stripe = λ i lt. stands i (omega arith);
    each_seat = seats_set (λ l u. Sits k.seats b' (get_or words' 24 0) l u u.pass.enrolled) s.views id (view_of seated.place b')
        (subst (Sits k.seats b' (get_or words' 24 0) id (view_of seated.place b')) (sym (same.enrolled ∙ is_pass)) (record {
          place = seated.place;
          number_is = same.passes ∙ seated.number_is;
          within = (let lt : seated.place < get_or s.words 24 0 = seated.within in omega arith);
          seat_is = seated.seat_is;
          lists = refl;
          view_is = refl;
          goes_on = goes_on_itself b'.interleaving;
          made = sym (kept.one.steps seated.place);
        }))
        (λ l u ne there. other_sits made b' (get_or words' 24 0) moves grows three l u u.pass.enrolled ne (k.each_seat l u there));
    each_pass = λ j lt. still_listed k.seats s.views id v (view_of seated.place b') j at (subst (λ ps. Contains ps j) seated.lists) (k.each_pass j (omega arith));
  }

  -- a step that changes no word
  pub reread : (made : StepMade) (b' : Book) (i : ℕ) (cs : List (ℕ × Option Stripe)) → BookMoves seated.place made k.book b' → b'.effects ≡ k.book.effects → b'.history ≡ k.book.history → IsSameOne v.pass (record_of seated.place b')
      → IsKept (length s.homes) (get_or s.words 0 0) (get_or s.words 8 0) b'.effects.failed k.slots b'
      → Kept o (stepped s i (get_or s.words i 0) id cs (view_of seated.place b') keeps)
  reread made b' i cs moves effects history same kept = subst (λ (ws : List ℕ). Kept o record { words = ws; homes = s.homes; views = set s.views id (view_of seated.place b') }) (sym (set-get_or s.words i 0))
      (turned made b' k.slots s.words s.homes moves (ap (λ d. d.keeper) effects) (record { rest = []; is = history ∙ sym (append-nil k.book.history) }) same kept refl refl (k.failure ∙ ap (λ d. bit d.failed) (sym effects)) refl k.each_stripe)
