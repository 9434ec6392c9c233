-- A new seat, and a seat that becomes a pass's.
use Rattle.std.proofs.Common.{ℕ, ◌≡◌, ◌≢◌, ◌+◌, ◌*◌, ◌<◌, ◌≤◌, eqb, ne_eqb, List, [], ◌∷◌, Bool, true, false, length, max, get_or, set, refl, arith, sym, ◌∙◌, ap, subst, ⊎_elim, inl, inr, length-set}
use Rattle.std.proofs.lemmas.List.{get_or-set_same, get_or-set_other, set-get_or}
use Rattle.std.specs.List.{Contains}
use Rattle.std.proofs.lemmas.List.Elements.{All-nil, All-weaker}
use Rattle.std.proofs.lemmas.Bool.{cases_eq}
use mathlib.Core.Option.{some, none, some-injective}
use lib.ListN.{get_elem?}
use prog.Atomic.{either}
use Rattle.atomic_table.specs.Table.{step, keeps, stepped, Allows, Enters}
use Rattle.atomic_table.proofs.Lists.{at_snoc, at_longer, set_here, set_else, exchanged}
use Rattle.ticket_order.specs.declared.record.Opening.{Opening}
use Rattle.ticket_order.specs.declared.record.Record.{Record}
use Rattle.ticket_order.specs.Records.{newcomer, enrolling, meeting}
use Rattle.one_history.specs.declared.book.Book.{Book}
use Rattle.one_history.specs.Interleaving.{GoesOn, steps_by}
use Rattle.one_history.specs.Turns.{record_of, joined}
use Rattle.one_history.specs.SharedWords.{slot_of, IsKept}
use Rattle.one_history.proofs.Joining.{joined_count, joined_before, joined_last, kept_joined}
use Rattle.stripe_locks.specs.declared.view.SeatView.{SeatView}
use Rattle.stripe_locks.specs.Rule.{bit, IsListed, IsUnseated, Sits, HasSeat, Kept}
use Rattle.stripe_locks.specs.Plays.{sat, enrolled, joining, stepless, seated_at}
use Rattle.stripe_locks.proofs.Listing.{there_is, put, put_here, put_else, one_there, none_there, still_listed}
use Rattle.stripe_locks.proofs.Turning.{St, M, seats_set}
use Rattle.stripe_locks.proofs.Stepping.{stands_on}
use Rattle.stripe_locks.proofs.Moving.{Goes}

no_steps : (j : ℕ) → steps_by j [] ≡ []
unfolding steps_by
no_steps j = refl

pub enters : (o : Opening) (n : ℕ) → Enters (Kept o) n 24 (λ x w. sat (step n 24 0 0 none) (stepless (newcomer o), []) x (w, []))
enters o n s k wide range =
    let w : SeatView = stepless (meeting (newcomer o) (get_or s.words 24 0)) in (
      w,
      record {
        book = k.book;
        slots = k.slots;
        seats = k.seats;
        opening = k.opening;
        wide = k.wide;
        kept = k.kept;
        failure = k.failure;
        few = k.few;
        joined = k.joined;
        keeper = k.keeper;
        unjoined = k.unjoined;
        each_stripe = k.each_stripe;
        each_seat = λ l u e. ⊎_elim (k.each_seat l u) (λ new. subst (λ v. Sits k.seats k.book (get_or s.words 24 0) l v v.pass.enrolled) new (record { few = omega arith; front = record { rest = k.book.history; is = refl }; other_front = record { rest = k.book.history; is = refl }; borne_out = All-nil _; goes_on = record { later = k.book.interleaving; is = refl }; listed = All-nil _ })) (at_snoc s.views w u l e);
        each_pass = λ j lt. let h : HasSeat k.seats s.views j = k.each_pass j lt in record { view = h.view; at = at_longer s.views (w ∷ []) (k.seats j) h.view h.at; lists = h.lists };
      },
      (refl, k.few),
    )

module _ (o : Opening) (n id : ℕ) (me : M) (old number : ℕ) (few : old < 4096) (next : number ≡ old + 1) (blank : me.0 ≡ stepless (meeting (newcomer o) old)) (s : St) (k : Kept o s) (at : get_elem? s.views id ≡ some me.0) where
  abbrev told : ℕ → M → Type 0
  told = enrolled (step n 24 old number none) me

  no_pass : me.0.pass.enrolled ≡ false
  no_pass = ap (λ (r : SeatView). r.pass.enrolled) blank

  mine_before : IsUnseated k.seats k.book (get_or s.words 24 0) id me.0
  mine_before = subst (Sits k.seats k.book (get_or s.words 24 0) id me.0) no_pass (k.each_seat id me.0 at)

  lists_none : me.0.places ≡ []
  lists_none = ap (λ (r : SeatView). r.places) blank

  -- each pass has its seat, where this seat gets the next one
  each_listed : (w : SeatView) → w.places ≡ old ∷ [] → (j : ℕ) → j < old + 1 → get_or s.words 24 0 ≡ old → HasSeat (put k.seats old id) (set s.views id w) j
  each_listed w lists j lt hit = elim (cases_eq j old) [
    | inl e ↦
        let here : put k.seats old id j ≡ id = ap (put k.seats old id) e ∙ put_here k.seats old id in
        record { view = w; at = ap (get_elem? (set s.views id w)) here ∙ set_here s.views id w (there_is s.views id me.0 at); lists = subst (λ ps. Contains ps j) (sym lists) (subst (λ p. Contains (p ∷ []) j) e (one_there j)) }
    | inr ne ↦
        let h : HasSeat k.seats s.views j = k.each_pass j (omega (arith, ne)) in
        let same : put k.seats old id j ≡ k.seats j = put_else k.seats old id j ne in
        let apart : k.seats j ≢ id = λ e.
        let mine : h.view ≡ me.0 = some-injective h.view me.0 (sym h.at ∙ (ap (get_elem? s.views) e ∙ at)) in
        none_there j (subst (λ ps. Contains ps j) (ap (λ (r : SeatView). r.places) mine ∙ lists_none) h.lists) in
        record { view = h.view; at = ap (get_elem? (set s.views id w)) same ∙ (set_else s.views id (k.seats j) w apart ∙ h.at); lists = h.lists }
  ]

  -- the book b' has the pass at its end, at the place `old`
  sits_down : (b' : Book) (w : SeatView) → get_or s.words 24 0 ≡ old → w ≡ seated_at old (joining o old) → b'.opening ≡ k.book.opening → b'.history ≡ k.book.history → b'.interleaving ≡ k.book.interleaving → b'.effects ≡ k.book.effects → length b'.passes ≡ old + 1 → record_of old b' ≡ w.pass
      → ((l : ℕ) → l < old → record_of l b' ≡ record_of l k.book) → IsKept (length s.homes) (get_or s.words 0 0) (get_or s.words 8 0) k.book.effects.failed k.slots b' → Kept o (stepped s 24 number id me.1 w keeps)
  sits_down b' w hit w_is opening history order effects count last before kept' =
      let words' : List ℕ = set s.words 24 number in
      let seats' : ℕ → ℕ = put k.seats old id in
      let none_yet : steps_by old (seated_at old (joining o old)).order ≡ (joining o old).steps = no_steps old in
      let n4 : length s.words ≡ length s.homes * 8 + 32 = k.wide in
      let three : get_or words' 24 0 ≡ old + 1 = get_or-set_same s.words 24 number 0 (omega arith) ∙ next in
      let zero_on : get_or words' 0 0 ≡ get_or s.words 0 0 = get_or-set_other s.words 24 0 number 0 (λ e. omega arith) in
      let one_on : get_or words' 8 0 ≡ get_or s.words 8 0 = get_or-set_other s.words 24 8 number 0 (λ e. omega arith) in
      let low : IsKept (length s.homes) (get_or words' 0 0) (get_or words' 8 0) k.book.effects.failed k.slots b' = rw (zero_on, one_on) kept' in
      let other : (l : ℕ) (u : SeatView) (e : Bool) → l ≢ id → Sits k.seats k.book (get_or s.words 24 0) l u e → Sits seats' b' (get_or words' 24 0) l u e =
      λ l u. elim [
        | true ↦ λ ne x.
            let lt : x.place < get_or s.words 24 0 = x.within in
            record { place = x.place; number_is = x.number_is; within = omega arith; seat_is = put_else k.seats old id x.place (λ e. omega arith) ∙ x.seat_is; lists = x.lists; view_is = before x.place (omega arith) ∙ x.view_is; goes_on = record { later = x.goes_on.later; is = order ∙ x.goes_on.is }; made = x.made }
        | false ↦ λ ne x.
            let le : u.pass.passes ≤ get_or s.words 24 0 = x.few in
            record {
              few = omega arith;
              front = record { rest = x.front.rest; is = history ∙ x.front.is };
              other_front = record { rest = x.other_front.rest; is = history ∙ x.other_front.is };
              borne_out = x.borne_out;
              goes_on = record { later = x.goes_on.later; is = order ∙ x.goes_on.is };
              listed = All-weaker (IsListed k.seats k.book (get_or s.words 24 0) l u.order) (IsListed seats' b' (get_or words' 24 0) l u.order)
                  (λ j y. let lt : j < get_or s.words 24 0 = y.within in record { within = omega arith; seat_is = put_else k.seats old id j (λ e. omega arith) ∙ y.seat_is; made = y.made ∙ ap (λ (r : Record). r.steps) (sym (before j (omega arith))) })
                  u.places x.listed;
            }
      ] in
      record {
        book = b';
        slots = k.slots;
        seats = seats';
        opening = opening ∙ k.opening;
        wide = length-set s.words 24 number ∙ k.wide;
        kept = subst (λ x. IsKept (length s.homes) (get_or words' 0 0) (get_or words' 8 0) x k.slots b') (sym (ap (λ d. d.failed) effects)) low;
        failure = get_or-set_other s.words 24 16 number 0 (λ e. omega arith) ∙ (k.failure ∙ ap (λ d. bit d.failed) (sym effects));
        few = omega arith;
        joined = omega arith;
        keeper = ap (λ d. d.keeper) effects ∙ k.keeper;
        unjoined = λ e. absurd (omega arith);
        each_stripe = λ i lt. stands_on s.words s.homes 24 i number (omega arith) (slot_of i k.slots) (k.each_stripe i lt);
        each_seat = seats_set (λ l u. Sits seats' b' (get_or words' 24 0) l u u.pass.enrolled) s.views id w
            (subst (Sits seats' b' (get_or words' 24 0) id w) (sym (ap (λ (r : SeatView). r.pass.enrolled) w_is)) (record { place = old; number_is = ap (λ (r : SeatView). r.pass.passes) w_is; within = omega arith; seat_is = put_here k.seats old id; lists = ap (λ (r : SeatView). r.places) w_is; view_is = last; goes_on = subst (λ (r : SeatView). GoesOn r.order b'.interleaving) (sym w_is) (record { later = b'.interleaving; is = refl }); made = subst (λ (r : SeatView). steps_by old r.order ≡ r.pass.steps) (sym w_is) none_yet }))
            (λ l u ne there. other l u u.pass.enrolled ne (k.each_seat l u there));
        each_pass = λ j lt. each_listed w (ap (λ (r : SeatView). r.places) w_is) j (omega arith) hit;
      }

  found_it : get_or s.words 24 0 ≡ old → Goes o s 24 id me told number
  found_it hit =
      let opening_is : me.0.pass.opening ≡ o = ap (λ (r : SeatView). r.pass.opening) blank in
      let count : length k.book.passes ≡ max 1 (get_or s.words 24 0) = k.joined in
      elim (cases_eq old 0) [
        | inl z ↦
            let first : record_of old k.book ≡ joining o old = ap (λ l. record_of l k.book) z ∙ (k.unjoined (hit ∙ z) ∙ ap (joining o) (sym z)) in
            (seated_at old (joining o old), keeps, tt, sits_down k.book (seated_at old (joining o old)) hit refl refl refl refl refl (omega arith) first (λ l lt. refl) k.kept, (refl, (λ e. rw (opening_is, hit) refl), λ ne. absurd (ne hit)))
        | inr nz ↦
            let all : length k.book.passes ≡ old = omega arith in
            let last : record_of old (joined k.book) ≡ joining o old =
            ap (λ l. record_of l (joined k.book)) (sym all) ∙ (joined_last _ _ _ _ _ k.book k.kept ∙ (ap (λ (p : Opening). enrolling (newcomer p) (length k.book.passes + 1)) k.opening ∙ (ap (λ (m : ℕ). enrolling (newcomer o) (m + 1)) all ∙ ap (λ b. record (enrolling (newcomer o) (old + 1)) { keeper = b }) (sym (ne_eqb old 0 nz))))) in (
              seated_at old (joining o old),
              keeps,
              tt,
              sits_down (joined k.book) (seated_at old (joining o old)) hit refl refl refl refl refl (joined_count _ _ _ _ _ k.book k.kept ∙ ap (λ (m : ℕ). m + 1) all) last (λ l lt. joined_before _ _ _ _ _ k.book k.kept l (omega arith)) (kept_joined _ _ _ _ _ k.book k.kept (omega arith)),
              (refl, (λ e. rw (opening_is, hit) refl), λ ne. absurd (ne hit)),
            )
      ]

  found_more : get_or s.words 24 0 ≢ old → Goes o s 24 id me told (get_or s.words 24 0)
  found_more miss =
      let w : SeatView = stepless (meeting me.0.pass (get_or s.words 24 0)) in
      let before : IsUnseated k.seats k.book (get_or s.words 24 0) id me.0 = mine_before in
      let was : me.0.pass.passes ≤ get_or s.words 24 0 = before.few in (
        w,
        keeps,
        tt,
        subst (λ (ws : List ℕ). Kept o record { words = ws; homes = s.homes; views = set s.views id w }) (sym (set-get_or s.words 24 0)) (record {
          book = k.book;
          slots = k.slots;
          seats = k.seats;
          opening = k.opening;
          wide = k.wide;
          kept = k.kept;
          failure = k.failure;
          few = k.few;
          joined = k.joined;
          keeper = k.keeper;
          unjoined = k.unjoined;
          each_stripe = k.each_stripe;
          each_seat = seats_set (λ l u. Sits k.seats k.book (get_or s.words 24 0) l u u.pass.enrolled) s.views id w
              (subst (Sits k.seats k.book (get_or s.words 24 0) id w) (sym no_pass) (record { few = omega arith; front = before.front; other_front = before.other_front; borne_out = before.borne_out; goes_on = record { later = k.book.interleaving; is = refl }; listed = All-nil _ }))
              (λ l u ne there. k.each_seat l u there);
          each_pass = λ j lt. still_listed k.seats s.views id me.0 w j at (subst (λ ps. Contains ps j) lists_none) (k.each_pass j lt);
        }),
        (refl, (λ hit. absurd (miss hit)), λ ne. (refl, was, k.few)),
      )

pub enrolls : (o : Opening) (n id : ℕ) (me : M) (old number : ℕ) → old < 4096 → number ≡ old + 1 → me.0 ≡ stepless (meeting (newcomer o) old) → Allows (Kept o) n id me 24 (λ x. either (eqb x old) number x) (enrolled (step n 24 old number none) me)
enrolls o n id me old number few next blank s k wide at range =
    exchanged (get_or s.words 24 0) old number (Goes o s 24 id me (enrolled (step n 24 old number none) me)) (found_it o n id me old number few next blank s k at) (found_more o n id me old number few next blank s k at)
