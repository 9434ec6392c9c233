-- The seats that list the passes.
use Rattle.std.proofs.Common.{ℕ, ◌≡◌, ◌≢◌, ◌<◌, ◌≤◌, ◌++◌, cond, eqb, eq-eqb, ne_eqb, ◌==◌, List, [], ◌∷◌, zero, suc, Bool, true, false, Option, append-nil, inl, inr, length, get_or, set, refl, arith, sym, ◌∙◌, ap, subst}
use Rattle.std.specs.Prelude.{if◌then◌else◌}
use Rattle.std.specs.List.{Contains}
use Rattle.std.proofs.lemmas.List.Elements.{All-contains}
use Rattle.std.proofs.lemmas.Bool.{cases_eq, cases_lt, lt-ltb, le-ltb}
use mathlib.Core.Option.{some, some-injective, some-ne-none}
use lib.ListN.{get_elem?}
use Rattle.atomic_table.specs.Table.{State}
use Rattle.atomic_table.proofs.Lists.{set_here, set_else}
use Rattle.ticket_order.specs.declared.stripe.Stripe.{Stripe}
use Rattle.ticket_order.specs.declared.record.Opening.{Opening}
use Rattle.ticket_order.specs.declared.record.StepMade.{StepMade}
use Rattle.ticket_order.specs.declared.record.Record.{Record}
use Rattle.one_history.specs.declared.book.Book.{Book}
use Rattle.one_history.specs.declared.book.PassStep.{PassStep}
use Rattle.one_history.specs.Interleaving.{GoesOn, steps_by}
use Rattle.stripe_locks.specs.declared.view.SeatView.{SeatView}
use Rattle.stripe_locks.specs.Rule.{IsListed, Sits, HasSeat, Kept}
use Rattle.stripe_locks.specs.Fronts.{later_of}

pub there_is : {X : Type 0} → (xs : List X) (i : ℕ) (x : X) → get_elem? xs i ≡ some x → i < length xs
there_is [] i x e = absurd (some-ne-none x (sym e))
there_is (y ∷ ys) zero x e = omega arith
there_is (y ∷ ys) (suc i) x e = omega (arith, there_is ys i x e)

-- the seat of the pass at this place is id
pub put : (ℕ → ℕ) → ℕ → ℕ → ℕ → ℕ
put seats place id l = cond (eqb l place) id (seats l)

pub put_here : (seats : ℕ → ℕ) (place id : ℕ) → put seats place id place ≡ id
unfolding put
put_here seats place id = ap (λ b. cond b id (seats place)) (eq-eqb place place refl)

pub put_else : (seats : ℕ → ℕ) (place id l : ℕ) → l ≢ place → put seats place id l ≡ seats l
unfolding put
put_else seats place id l ne = ap (λ b. cond b id (seats l)) (ne_eqb l place ne)

pub one_alone : (p j : ℕ) → Contains (p ∷ []) j → p ≡ j
one_alone p j (zero, lt, e) = e
one_alone p j (suc k, lt, e) = absurd (omega arith)

pub one_there : (p : ℕ) → Contains (p ∷ []) p
one_there p = (0, omega arith, refl)

pub none_there : (j : ℕ) → Contains [] j → ⊥
none_there j (k, lt, e) = omega arith

-- the pass at the place j still has its seat, where a seat has another view that lists it if the one before did
pub still_listed : (seats : ℕ → ℕ) (vs : List SeatView) (id : ℕ) (v w : SeatView) (j : ℕ) → get_elem? vs id ≡ some v → (Contains v.places j → Contains w.places j) → HasSeat seats vs j → HasSeat seats (set vs id w) j
still_listed seats vs id v w j at more h = elim (cases_eq (seats j) id) [
  | inl e ↦
      let same : h.view ≡ v = some-injective h.view v (sym h.at ∙ (ap (get_elem? vs) e ∙ at)) in
      record { view = w; at = ap (get_elem? (set vs id w)) e ∙ set_here vs id w (there_is vs id v at); lists = more (subst (λ (u : SeatView). Contains u.places j) same h.lists) }
  | inr ne ↦ record { view = h.view; at = set_else vs id (seats j) w ne ∙ h.at; lists = h.lists }
]

by_append : (j : ℕ) (xs ys : List PassStep) → steps_by j (xs ++ ys) ≡ steps_by j xs ++ steps_by j ys
unfolding steps_by
by_append j [] ys = refl
by_append j (x ∷ xs) ys =
    elim (x.pass == j) as (λ t. (if t then x.step ∷ steps_by j (xs ++ ys) else steps_by j (xs ++ ys)) ≡ (if t then x.step ∷ steps_by j xs else steps_by j xs) ++ steps_by j ys) [
      | true ↦ ap (λ r. x.step ∷ r) (by_append j xs ys)
      | false ↦ by_append j xs ys
    ]

no_more : (xs ys : List StepMade) → xs ++ ys ≡ [] → xs ≡ []
no_more [] ys e = refl
no_more (x ∷ xs) ys e = absurd (let no : x ∷ (xs ++ ys) ≡ [] = e in cc)

-- the longer of two fronts of one order has all that the shorter has
front_of_front : (xs ys order : List PassStep) → GoesOn xs order → GoesOn ys order → length xs ≤ length ys → GoesOn xs ys
front_of_front [] ys order p q le = record { later = ys; is = refl }
front_of_front (x ∷ xs) [] order p q le = absurd (omega arith)
front_of_front (x ∷ xs) (y ∷ ys) [] p q le = absurd (let no : [] ≡ x ∷ (xs ++ p.later) = p.is in cc)
front_of_front (x ∷ xs) (y ∷ ys) (z ∷ zs) p q le =
    let one : z ∷ zs ≡ x ∷ (xs ++ p.later) = p.is in let other : z ∷ zs ≡ y ∷ (ys ++ q.later) = q.is in
    let first : y ≡ x = cc in
    let more : zs ≡ xs ++ p.later = cc in let more' : zs ≡ ys ++ q.later = cc in
    let rest = front_of_front xs ys zs (record { later = p.later; is = more }) (record { later = q.later; is = more' }) (omega arith) in
    record { later = rest.later; is = λ i. first i ∷ rest.is i }

same_rest : (xs ys zs : List StepMade) → xs ≡ (xs ++ ys) ++ zs → ys ≡ []
same_rest [] ys zs e = no_more ys zs (sym e)
same_rest (x ∷ xs) ys zs e = same_rest xs ys zs (let f : x ∷ xs ≡ x ∷ ((xs ++ ys) ++ zs) = e in cc)

-- all steps of a pass that stand in a front of the order stand in a longer front of it
all_in_longer : (j : ℕ) (xs ys order : List PassStep) → GoesOn xs order → GoesOn ys order → length xs ≤ length ys → steps_by j xs ≡ steps_by j order → steps_by j ys ≡ steps_by j order
all_in_longer j xs ys order p q le all =
    let f = front_of_front xs ys order p q le in
    let longer : steps_by j ys ≡ steps_by j xs ++ steps_by j f.later = ap (steps_by j) f.is ∙ by_append j xs f.later in
    let whole : steps_by j order ≡ (steps_by j xs ++ steps_by j f.later) ++ steps_by j q.later = ap (steps_by j) q.is ∙ (by_append j ys q.later ∙ ap (λ s. s ++ steps_by j q.later) longer) in
    let none : steps_by j f.later ≡ [] = same_rest (steps_by j xs) (steps_by j f.later) (steps_by j q.later) (all ∙ whole) in
    longer ∙ (ap (λ s. steps_by j xs ++ s) none ∙ (append-nil (steps_by j xs) ∙ all))

-- the later of two fronts has the steps that either has all of
module _ (j : ℕ) (xs ys order : List PassStep) (p : GoesOn xs order) (q : GoesOn ys order) where
  later_is_other : length xs < length ys → later_of xs ys ≡ ys
  later_is_other lt = ap (λ t. if t then ys else xs) (lt-ltb (length xs) (length ys) lt)

  later_is_one : length ys ≤ length xs → later_of xs ys ≡ xs
  later_is_one le = ap (λ t. if t then ys else xs) (le-ltb (length xs) (length ys) le)

  pub all_of_one : steps_by j xs ≡ steps_by j order → steps_by j (later_of xs ys) ≡ steps_by j order
  all_of_one all = elim (cases_lt (length xs) (length ys)) [
    | inl lt ↦ ap (steps_by j) (later_is_other lt) ∙ all_in_longer j xs ys order p q (omega arith) all
    | inr le ↦ ap (steps_by j) (later_is_one le) ∙ all
  ]

  pub all_of_other : steps_by j ys ≡ steps_by j order → steps_by j (later_of xs ys) ≡ steps_by j order
  all_of_other all = elim (cases_lt (length xs) (length ys)) [
    | inl lt ↦ ap (steps_by j) (later_is_other lt) ∙ all
    | inr le ↦ ap (steps_by j) (later_is_one le) ∙ all_in_longer j ys xs order q p le all
  ]

-- what a seat knows of a pass that it lists
pub record Knows (seats : ℕ → ℕ) (b : Book) (joined : ℕ) (id : ℕ) (v : SeatView) (j : ℕ) : Type 0 where
  pub goes_on : GoesOn v.order b.interleaving
  pub listed : IsListed seats b joined id v.order j

seat_knows : (seats : ℕ → ℕ) (b : Book) (joined id : ℕ) (v : SeatView) (j : ℕ) (e : Bool) → Contains v.places j → Sits seats b joined id v e → Knows seats b joined id v j
seat_knows seats b joined id v j true here x =
    let at : x.place ≡ j = one_alone x.place j (subst (λ ps. Contains ps j) x.lists here) in
    let own : IsListed seats b joined id v.order x.place = record { within = x.within; seat_is = x.seat_is; made = x.made ∙ ap (λ (r : Record). r.steps) (sym x.view_is) } in
    record { goes_on = x.goes_on; listed = subst (IsListed seats b joined id v.order) at own }
seat_knows seats b joined id v j false here x = record { goes_on = x.goes_on; listed = All-contains (IsListed seats b joined id v.order) v.places j x.listed here }

pub knows : (o : Opening) (s : State (Option Stripe) SeatView) (k : Kept o s) (id : ℕ) (v : SeatView) (j : ℕ) → get_elem? s.views id ≡ some v → Contains v.places j → Knows k.seats k.book (get_or s.words 24 0) id v j
knows o s k id v j at here = seat_knows k.seats k.book (get_or s.words 24 0) id v j v.pass.enrolled here (k.each_seat id v at)
