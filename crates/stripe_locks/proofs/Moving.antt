-- TAKE and GIVE.
use Rattle.std.proofs.Common.{ℕ, ◌≡◌, ◌≢◌, ◌+◌, ◌-◌, ◌*◌, ◌/◌, ◌<◌, true, eqb, List, ◌∷◌, Option, Some, None, length, get_or, set, refl, arith, sym, ◌∙◌, ap, subst, inl, inr, length-set}
use Rattle.std.proofs.lemmas.List.{get_or-set_same, get_or-set_other}
use Rattle.std.proofs.Math.Nat.{mul-div_cancel}
use Rattle.std.proofs.lemmas.Bool.{cases_eq}
use mathlib.Core.Option.{some, none}
use mathlib.Core.Option as maybe
use lib.ListN.{get_elem?}
use prog.Atomic.{either}
use Rattle.atomic_table.specs.Table.{step, Act, keeps, takes, gives, Valid, stepped, carried_after, Allows}
use Rattle.atomic_table.proofs.Lists.{set_here, set_else, exchanged}
use Rattle.ticket_order.specs.declared.stripe.Stripe.{Stripe}
use Rattle.ticket_order.specs.declared.record.Opening.{Opening}
use Rattle.ticket_order.specs.declared.record.Purpose.{Purpose}
use Rattle.ticket_order.specs.declared.record.Purpose.TheVariants.{Nothing, Answer, Sweep, Capture}
use Rattle.ticket_order.specs.declared.record.StepMade.TheVariants as made
use Rattle.ticket_order.specs.declared.record.Record.{Record}
use Rattle.ticket_order.specs.Records.{missing, giving}
use Rattle.ticket_order.specs.StepRules.{TakesStripe, MayGive, Gives}
use Rattle.one_history.specs.declared.book.Book.{Book}
use Rattle.one_history.specs.declared.slot.Slot.{Slot}
use Rattle.one_history.specs.declared.slot.Slot.TheVariants.{Home, HeldBy}
use Rattle.one_history.specs.Turns.{record_of}
use Rattle.one_history.specs.Turns as turns
use Rattle.one_history.specs.SharedWords.{slot_of}
use Rattle.one_history.proofs.Fronts.{front_refl}
use Rattle.one_history.proofs.Watching.{kept_found_held, misses, moves_found_held}
use Rattle.one_history.proofs.Taking.{kept_took, takes_stripe, moves_took}
use Rattle.one_history.proofs.Giving.{kept_gave, moves_gave, in_slots}
use Rattle.one_history.proofs.Giving as giving
use Rattle.stripe_locks.specs.declared.view.SeatView.{SeatView}
use Rattle.stripe_locks.specs.Rule.{Stands, IsSeated, Kept}
use Rattle.stripe_locks.specs.Plays.{IsSameOne, TakesHome, stripe_at, took, gave}
use Rattle.stripe_locks.proofs.Turning.{St, M, Homes, view_of, seated, in_book, turned, reread}

-- the word of a stripe is that of no other
pub word_of_stripe : (i : ℕ) → stripe_at (i * 8 + 32) ≡ i
word_of_stripe i = ap (λ (x : ℕ). x / 8) (let at : i * 8 + 32 - 32 ≡ i * 8 = omega arith in at) ∙ mul-div_cancel i (omega arith)

-- the places of the stripes, where one changes
others_stand : (words : List ℕ) (homes : Homes) (i x : ℕ) (h : maybe.Option (Option Stripe)) (l : ℕ) → l ≢ i → (slot : Slot) → Stands words homes l slot → Stands (set words (i * 8 + 32) x) (set homes i h) l slot
others_stand words homes i x h l ne (Home content) z = (get_or-set_other words (i * 8 + 32) (l * 8 + 32) x 0 (λ e. ne (omega arith)) ∙ z.0, set_else homes i l h ne ∙ z.1)
others_stand words homes i x h l ne (HeldBy j) z = get_or-set_other words (i * 8 + 32) (l * 8 + 32) x 0 (λ e. ne (omega arith)) ∙ z

all_stand : (words : List ℕ) (homes : Homes) (slots : List Slot) (i x : ℕ) (h : maybe.Option (Option Stripe)) (slot : Slot) → i < length slots → ((l : ℕ) → l < length homes → Stands words homes l (slot_of l slots)) → Stands (set words (i * 8 + 32) x) (set homes i h) i slot
    → (l : ℕ) → l < length homes → Stands (set words (i * 8 + 32) x) (set homes i h) l (slot_of l (set slots i slot))
all_stand words homes slots i x h slot lt there here l less = elim (cases_eq l i) [
  | inl e ↦ subst (λ m. Stands (set words (i * 8 + 32) x) (set homes i h) m (slot_of m (set slots i slot))) (sym e) (subst (Stands (set words (i * 8 + 32) x) (set homes i h) i) (sym (get_or-set_same slots i slot (HeldBy 0) lt)) here)
  | inr ne ↦ subst (Stands (set words (i * 8 + 32) x) (set homes i h) l) (sym (get_or-set_other slots i l slot (HeldBy 0) ne)) (others_stand words homes i x h l ne (slot_of l slots) (there l less))
]

-- what a stripe's word says of its place
record IsFreeAt (homes : Homes) (i : ℕ) (slot : Slot) : Type 0 where
  content : Stripe
  slot_is : slot ≡ Home content
  home_is : get_elem? homes i ≡ some (some (Some content))

free_at : (words : List ℕ) (homes : Homes) (i : ℕ) (slot : Slot) → Stands words homes i slot → get_or words (i * 8 + 32) 0 ≡ 0 → IsFreeAt homes i slot
free_at words homes i (Home content) z e = record { content = content; slot_is = refl; home_is = z.1 }
free_at words homes i (HeldBy j) z e = absurd (let n : j + 1 ≡ 0 = sym z ∙ e in omega arith)

record IsHeldAt (slot : Slot) : Type 0 where
  holder : ℕ
  slot_is : slot ≡ HeldBy holder

held_at : (words : List ℕ) (homes : Homes) (i : ℕ) (slot : Slot) → Stands words homes i slot → get_or words (i * 8 + 32) 0 ≢ 0 → IsHeldAt slot
held_at words homes i (Home content) z e = absurd (e z.0)
held_at words homes i (HeldBy j) z e = record { holder = j; slot_is = refl }

-- what the pass has to show for a word that was found
abbrev pub Goes : Opening → St → ℕ → ℕ → M → (ℕ → M → Type 0) → ℕ → Type 0
Goes o s word id me then x = (w : SeatView) × (a : Act (Option Stripe)) × Valid s.homes me.1 a × Kept o (stepped s word x id me.1 w a) × then (get_or s.words word 0) (w, carried_after me.1 a)

module _ (o : Opening) (n id : ℕ) (me : M) (i number : ℕ) (is_pass : me.0.pass.enrolled ≡ true) (empty : me.0.pass.holding ≡ None) (lt : i < n) (numbered : me.0.pass.passes ≡ number) (s : St) (k : Kept o s) (wide : length s.homes ≡ n) (at : get_elem? s.views id ≡ some me.0) where
  q : IsSeated k.seats k.book (get_or s.words 24 0) id me.0
  q = seated o s k id me.0 at is_pass

  in_it : q.place < length k.book.passes
  unfolding q
  in_it = in_book o s k id me.0 at is_pass

  abbrev told : ℕ → M → Type 0
  told = took (step n (i * 8 + 32) 0 number none) me

  within : i < length s.homes
  within = subst (λ (m : ℕ). i < m) (sym wide) lt

  of_book : i < k.book.stripes
  of_book = subst (λ (m : ℕ). i < m) (sym (k.kept.stripes_are)) within

  no_stripe : (record_of q.place k.book).holding ≡ None
  no_stripe = ap (λ (r : Record). r.holding) q.view_is ∙ empty

  minus : stripe_at (i * 8 + 32) ≡ i
  minus = word_of_stripe i

  found_free : get_or s.words (i * 8 + 32) 0 ≡ 0 → Goes o s (i * 8 + 32) id me told number
  unfolding q
  found_free zero =
      let f = free_at s.words s.homes i (slot_of i k.slots) (k.each_stripe i within) zero in
      let b' : Book = turns.took q.place i f.content k.book in
      let w : Record = record_of q.place b' in
      let law : TakesStripe k.book.stripes (record_of q.place k.book) i f.content w = takes_stripe _ _ _ _ _ k.book q.place k.kept in_it i f.content of_book no_stripe f.slot_is in
      let told' : TakesStripe n me.0.pass i f.content w = subst (λ v. TakesStripe n v i f.content w) q.view_is (subst (λ (m : ℕ). TakesStripe m (record_of q.place k.book) i f.content w) (k.kept.stripes_are ∙ wide) law) in
      let same : IsSameOne me.0.pass w = record { enrolled = ap (λ (r : Record). r.enrolled) told'.is; passes = ap (λ (r : Record). r.passes) told'.is; keeper = ap (λ (r : Record). r.keeper) told'.is; opening = ap (λ (r : Record). r.opening) told'.is } in
      let words' : List ℕ = set s.words (i * 8 + 32) number in
      let n4 : length s.words ≡ length s.homes * 8 + 32 = k.wide in
      let kept' = kept_took _ _ _ _ _ k.book q.place k.kept in_it i f.content of_book no_stripe f.slot_is in
      let zero_on : get_or words' 0 0 ≡ get_or s.words 0 0 = get_or-set_other s.words (i * 8 + 32) 0 number 0 (λ e. omega arith) in
      let one_on : get_or words' 8 0 ≡ get_or s.words 8 0 = get_or-set_other s.words (i * 8 + 32) 8 number 0 (λ e. omega arith) in
      let holds : get_or words' (i * 8 + 32) 0 ≡ q.place + 1 = get_or-set_same s.words (i * 8 + 32) number 0 (omega arith) ∙ (sym numbered ∙ q.number_is) in
      let sized : i < length k.slots = (let l : length k.slots ≡ length s.homes = k.kept.sized in omega arith) in (
        view_of q.place b',
        takes i (Some f.content),
        f.home_is,
        turned o s k id me.0 at is_pass (made.Took i f.content.outbox.items f.content.last) b' (set k.slots i (HeldBy q.place)) words' (set s.homes i none) (moves_took _ _ _ _ _ k.book q.place k.kept in_it i f.content of_book no_stripe f.slot_is) refl (front_refl k.book.history) same
            (rw (zero_on, one_on) kept') (length-set s.words (i * 8 + 32) number) (length-set s.homes i none) (get_or-set_other s.words (i * 8 + 32) 16 number 0 (λ e. omega arith) ∙ k.failure) (get_or-set_other s.words (i * 8 + 32) 24 number 0 (λ e. omega arith))
            (all_stand s.words s.homes k.slots i number none (HeldBy q.place) sized k.each_stripe holds),
        ((λ _. subst (λ (m : ℕ). TakesHome n m me (view_of q.place b', (i, Some f.content) ∷ me.1)) (sym minus) (record { content = f.content; has = refl; takes = told'; same = same })), λ held. absurd (held zero)),
      )

  found_held : get_or s.words (i * 8 + 32) 0 ≢ 0 → Goes o s (i * 8 + 32) id me told (get_or s.words (i * 8 + 32) 0)
  unfolding q
  found_held ne =
      let f = held_at s.words s.homes i (slot_of i k.slots) (k.each_stripe i within) ne in
      let b' : Book = turns.found_held q.place i k.book in
      let w : Record = record_of q.place b' in
      let law : w ≡ missing me.0.pass i = misses _ _ _ _ _ k.book q.place k.kept in_it i ∙ ap (λ (v : Record). missing v i) q.view_is in
      let same : IsSameOne me.0.pass w = record { enrolled = ap (λ (r : Record). r.enrolled) law; passes = ap (λ (r : Record). r.passes) law; keeper = ap (λ (r : Record). r.keeper) law; opening = ap (λ (r : Record). r.opening) law } in (
        view_of q.place b',
        keeps,
        tt,
        reread o s k id me.0 at is_pass (made.FoundHeld i) b' (i * 8 + 32) me.1 (moves_found_held _ _ _ _ _ k.book q.place k.kept in_it i f.holder of_book no_stripe f.slot_is) refl refl same (kept_found_held _ _ _ _ _ k.book q.place k.kept in_it i f.holder of_book no_stripe f.slot_is),
        ((λ free. absurd (ne free)), λ _. (refl, law ∙ ap (missing me.0.pass) (sym minus))),
      )

pub allows_take : (o : Opening) (n id : ℕ) (me : M) (i number : ℕ) → me.0.pass.enrolled ≡ true → me.0.pass.holding ≡ None → i < n → me.0.pass.passes ≡ number → Allows (Kept o) n id me (i * 8 + 32) (λ x. either (eqb x 0) number x) (took (step n (i * 8 + 32) 0 number none) me)
allows_take o n id me i number is_pass empty lt numbered s k wide at range =
    exchanged (get_or s.words (i * 8 + 32) 0) 0 number (Goes o s (i * 8 + 32) id me (took (step n (i * 8 + 32) 0 number none) me))
    (found_free o n id me i number is_pass empty lt numbered s k wide at)
    (found_held o n id me i number is_pass empty lt numbered s k wide at)

given_same : (p : Purpose) (v w : Record) → w ≡ giving p v → IsSameOne v w
given_same p v w is = record { enrolled = ap (λ (r : Record). r.enrolled) is; passes = ap (λ (r : Record). r.passes) is; keeper = ap (λ (r : Record). r.keeper) is; opening = ap (λ (r : Record). r.opening) is }

gives_same : (n : ℕ) (p : Purpose) (v w : Record) → Gives n p v w → IsSameOne v w
gives_same n Nothing v w g = given_same Nothing v w g.is
gives_same n (Answer read) v w g = record { enrolled = ap (λ (r : Record). r.enrolled) g.is; passes = ap (λ (r : Record). r.passes) g.is; keeper = ap (λ (r : Record). r.keeper) g.is; opening = ap (λ (r : Record). r.opening) g.is }
gives_same n Sweep v w g = given_same Sweep v w g.is
gives_same n Capture v w g = given_same Capture v w g.is

-- GIVE of the content that the seat has
pub allows_give : (o : Opening) (n id : ℕ) (me : M) (i : ℕ) (content : Stripe) (p : Purpose) (more : List (ℕ × Option Stripe)) → me.0.pass.enrolled ≡ true → me.1 ≡ (i, Some content) ∷ more → MayGive n me.0.pass i content p → Allows (Kept o) n id me (i * 8 + 32) (λ _. 0) (λ _. gave p (step n (i * 8 + 32) 0 0 none) me 0)
allows_give o n id me i content p more is_pass has may s k wide at range =
    let q = seated o s k id me.0 at is_pass in let in_it = in_book o s k id me.0 at is_pass in
    let stripes : k.book.stripes ≡ n = k.kept.stripes_are ∙ wide in
    let may' : MayGive k.book.stripes (record_of q.place k.book) i content p = subst (λ v. MayGive k.book.stripes v i content p) (sym q.view_is) (subst (λ (m : ℕ). MayGive m me.0.pass i content p) (sym stripes) may) in
    let sized : i < length k.slots = in_slots _ _ _ _ _ k.book q.place k.kept in_it i content p may' in
    let within : i < length s.homes = (let l : length k.slots ≡ length s.homes = k.kept.sized in omega arith) in
    let b' : Book = turns.gave q.place p k.book in
    let w : Record = record_of q.place b' in
    let law : Gives k.book.stripes p (record_of q.place k.book) w = giving.gives _ _ _ _ _ k.book q.place k.kept in_it i content p may' in
    let told : Gives n p me.0.pass w = subst (λ v. Gives n p v w) q.view_is (subst (λ (m : ℕ). Gives m p (record_of q.place k.book) w) stripes law) in
    let same : IsSameOne me.0.pass w = gives_same n p me.0.pass w told in
    let words' : List ℕ = set s.words (i * 8 + 32) 0 in let homes' : Homes = set s.homes i (some (Some content)) in
    let n4 : length s.words ≡ length s.homes * 8 + 32 = k.wide in
    let kept' = kept_gave _ _ _ _ _ k.book q.place k.kept in_it i content p may' in
    let zero_on : get_or words' 0 0 ≡ get_or s.words 0 0 = get_or-set_other s.words (i * 8 + 32) 0 0 0 (λ e. omega arith) in
    let one_on : get_or words' 8 0 ≡ get_or s.words 8 0 = get_or-set_other s.words (i * 8 + 32) 8 0 0 (λ e. omega arith) in
    let free : get_or words' (i * 8 + 32) 0 ≡ 0 = get_or-set_same s.words (i * 8 + 32) 0 0 (omega arith) in
    subst (λ (cs : List (ℕ × Option Stripe)). Goes o s (i * 8 + 32) id (me.0, cs) (λ _. gave p (step n (i * 8 + 32) 0 0 none) (me.0, cs) 0) 0) (sym has) (
      view_of q.place b',
      gives,
      tt,
      turned o s k id me.0 at is_pass (made.Gave i) b' (set k.slots i (Home content)) words' homes' (moves_gave _ _ _ _ _ k.book q.place k.kept in_it i content p may') refl (front_refl k.book.history) same
          (rw (zero_on, one_on) kept') (length-set s.words (i * 8 + 32) 0) (length-set s.homes i (some (Some content))) (get_or-set_other s.words (i * 8 + 32) 16 0 0 (λ e. omega arith) ∙ k.failure) (get_or-set_other s.words (i * 8 + 32) 24 0 0 (λ e. omega arith))
          (all_stand s.words s.homes k.slots i 0 (some (Some content)) (Home content) sized k.each_stripe (free, set_here s.homes i (some (Some content)) within)),
      (refl, told),
    )
