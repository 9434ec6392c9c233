-- Where the sweep stands after each step.
use Rattle.std.proofs.Common.{◌≡◌, ◌⊎◌, inl, inr, ℕ, ◌+◌, ◌<◌, ◌≤◌, List, [], Some, None, Ok, refl, sym, ◌∙◌, ap, subst, arith, true, false, Bool}
use Rattle.std.proofs.lemmas.Bool.{cases_lt}
use Rattle.map_types.specs.declared.commands.Command.{Command}
use Rattle.map_types.specs.declared.refusals.Refusal.{Refusal}
use Rattle.map_types.specs.declared.refusals.Refusal.TheVariants.{NoMemory}
use Rattle.ticket_order.specs.declared.walk.Walk.{Walk}
use Rattle.ticket_order.specs.declared.record.Record.{Record}
use Rattle.ticket_order.specs.Records.{outbox_held}
use Rattle.ticket_order.specs.Calls.{SweepsStripe, RefusesSweep}
use Rattle.ticket_order.specs.Walks.{Task, ToSweep, Fits, entries_of_walk}
use Rattle.flusher.specs.declared.sweeper.Sweep.{Sweep}
use Rattle.flusher.specs.declared.sweeper.Walking.TheVariants.{Rests, SweepTakes, SweepGives}
use Rattle.flusher.specs.declared.sweeper.Swept.{Swept}
use Rattle.flusher.specs.declared.sweeper.Swept.TheVariants.{More, Done}
use Rattle.flusher.specs.declared.sweeper.Sweeper.{Sweeper}
use Rattle.store_layout.specs.Hands.{Hand}
use Rattle.flusher.specs.Gathering.{Collects}
use Rattle.flusher.specs.Sweeping.{IsBetween, IsHolding, IsSwept, HasNone, StandsBy, Stands, DrainsStripe, AfterGive, IsDone, HasGathered}
use Rattle.ticket_order.specs.Walks.{steps_left, is_holding, refusal_of_walk}
use Rattle.ticket_order.proofs.Left.{none_to_hand_out, refusing_left}
use Rattle.flusher.specs.HandSteps.{MakesRoom, Gains}
use Rattle.flusher.specs.Sweeping.{IsReady}
use Rattle.flusher.proofs.Gathered.{collected, only_room, collects_none, gains_nothing, HasDrained, drained, put_back, moved, all_gathered}

pub holding_stands : (n : ℕ) (s : Sweeper) (sweep : Sweep) (walk : Walk) (gone : List Command) (w : Record) → s.sweep ≡ Some sweep → s.walking ≡ SweepGives walk → IsHolding n sweep walk s.in_hand gone w → Stands n s gone w
holding_stands n s sweep walk gone w a b k = subst (λ o. StandsBy n o s.walking s.in_hand gone w) (sym a) (subst (λ v. StandsBy n (Some sweep) v s.in_hand gone w) (sym b) k)

pub taking_stands : (n : ℕ) (s : Sweeper) (sweep : Sweep) (gone : List Command) (w : Record) → s.sweep ≡ Some sweep → s.walking ≡ SweepTakes → IsBetween n sweep s.in_hand gone w → Stands n s gone w
taking_stands n s sweep gone w a b k = subst (λ o. StandsBy n o s.walking s.in_hand gone w) (sym a) (subst (λ v. StandsBy n (Some sweep) v s.in_hand gone w) (sym b) k)

pub resting_stands : (n : ℕ) (s : Sweeper) (sweep : Sweep) (gone : List Command) (w : Record) → s.sweep ≡ Some sweep → s.walking ≡ Rests → IsBetween n sweep s.in_hand gone w → Stands n s gone w
resting_stands n s sweep gone w a b k = subst (λ o. StandsBy n o s.walking s.in_hand gone w) (sym a) (subst (λ v. StandsBy n (Some sweep) v s.in_hand gone w) (sym b) k)

pub none_stands : (n : ℕ) (s : Sweeper) (gone : List Command) (w : Record) → s.sweep ≡ None → s.walking ≡ Rests → HasNone s.in_hand gone w → Stands n s gone w
none_stands n s gone w a b k = subst (λ o. StandsBy n o s.walking s.in_hand gone w) (sym a) (subst (λ v. StandsBy n None v s.in_hand gone w) (sym b) k)

-- What is left of the sweeper once the entries are in hand: the next stripe, or none.
pub record IsNext (n : ℕ) (sweep : Sweep) (hand : Hand) (new : Sweeper) (swept : Swept) : Type 0 where
  pub hand_is : new.in_hand ≡ hand
  pub way : ((sweep.stripe + 1 < n) × (swept ≡ More) × (new.sweep ≡ Some (record sweep { stripe = sweep.stripe + 1 })) × (new.walking ≡ SweepTakes))
      ⊎ ((n ≤ sweep.stripe + 1) × (swept ≡ Done sweep.count) × (new.sweep ≡ None) × (new.walking ≡ Rests))

pub after_drain : (n : ℕ) (sweep : Sweep) (walk : Walk) (hand : Hand) (old : Hand) (new : Sweeper) (p w : Record) (swept : Swept) → IsNext n sweep hand new swept → sweep.stripe < n
    → ((b : Record) → IsSwept n b sweep.stripe walk p → SweepsStripe n b sweep.stripe (entries_of_walk walk) w)
    → ((b : Record) → IsSwept n b sweep.stripe walk p → entries_of_walk walk ≡ outbox_held p.holding) → Collects old (entries_of_walk walk) hand
    → AfterGive n sweep walk old new p w (Ok swept)
after_drain n sweep walk hand old new p w swept k within s o g =
    let d : DrainsStripe n sweep walk old new p w = record { swept = s; outbox = o; collects = subst (Collects old (entries_of_walk walk)) (sym k.hand_is) g } in
    elim k.way as (λ _. AfterGive n sweep walk old new p w (Ok swept)) [
      | inl x ↦ subst (λ r. AfterGive n sweep walk old new p w (Ok r)) (sym x.1) (record { drains = d; more = x.0; sweep_is = x.2; walking = x.3 })
      | inr x ↦ subst (λ r. AfterGive n sweep walk old new p w (Ok r)) (sym x.1) (record { drains = d; last = omega (arith, x.0, within); count_is = refl; sweep_is = x.2; walking = x.3 })
    ]

drained_here : (n : ℕ) (sweep : Sweep) (walk : Walk) (hand : Hand) (old : Hand) (p w : Record) (gone : List Command) → IsHolding n sweep walk old gone p
    → ((b : Record) → IsSwept n b sweep.stripe walk p → SweepsStripe n b sweep.stripe (entries_of_walk walk) w) → Collects old (entries_of_walk walk) hand → HasDrained n sweep.count sweep.stripe hand gone w
drained_here n sweep walk hand old p w gone h s g = drained n sweep old hand gone h.begun w (entries_of_walk walk) h.between (s h.begun h.taken) g

pub stands_drained : (n : ℕ) (sweep : Sweep) (walk : Walk) (hand : Hand) (old : Hand) (new : Sweeper) (p w : Record) (swept : Swept) (gone : List Command) → IsNext n sweep hand new swept → IsHolding n sweep walk old gone p
    → ((b : Record) → IsSwept n b sweep.stripe walk p → SweepsStripe n b sweep.stripe (entries_of_walk walk) w) → Collects old (entries_of_walk walk) hand → Stands n new gone w
stands_drained n sweep walk hand old new p w swept gone k h s g =
    let d = drained_here n sweep walk hand old p w gone h s g in
    elim k.way as (λ _. Stands n new gone w) [
      | inl x ↦ taking_stands n new (record sweep { stripe = sweep.stripe + 1 }) gone w x.2 x.3
          (subst (λ z. IsBetween n (record sweep { stripe = sweep.stripe + 1 }) z gone w) (sym k.hand_is) (record { free = d.free; within = x.0; below = d.below; gathers = d.gathers }))
      | inr x ↦ none_stands n new gone w x.2 x.3 (subst (λ z. HasNone z gone w) (sym k.hand_is) (record { free = d.free; gathers = d.gathers }))
    ]

pub done_drained : (n : ℕ) (sweep : Sweep) (walk : Walk) (hand : Hand) (old : Hand) (new : Sweeper) (p w : Record) (swept : Swept) (gone : List Command) → IsNext n sweep hand new swept → IsHolding n sweep walk old gone p
    → ((b : Record) → IsSwept n b sweep.stripe walk p → SweepsStripe n b sweep.stripe (entries_of_walk walk) w) → Collects old (entries_of_walk walk) hand → IsDone new gone w swept
done_drained n sweep walk hand old new p w swept gone k h s g =
    let d = drained_here n sweep walk hand old p w gone h s g in
    elim k.way as (λ _. IsDone new gone w swept) [
      | inl x ↦ subst (IsDone new gone w) (sym x.1) tt
      | inr x ↦ subst (IsDone new gone w) (sym x.1) (subst (λ z. HasGathered (record new { in_hand = z }) gone sweep.count w) (sym k.hand_is) (record {
        looked = d.below.looked;
        all = all_gathered n sweep.count sweep.stripe hand gone w d (omega (arith, x.0, h.between.within));
      }))
    ]

pub stands_put_back : (n : ℕ) (sweep : Sweep) (walk : Walk) (hand : Hand) (old : Hand) (new : Sweeper) (p w : Record) (gone : List Command) → new.in_hand ≡ hand → new.sweep ≡ Some sweep → new.walking ≡ Rests → IsHolding n sweep walk old gone p
    → ((b : Record) → IsSwept n b sweep.stripe walk p → RefusesSweep b sweep.stripe NoMemory w) → Collects old [] hand → Stands n new gone w
stands_put_back n sweep walk hand old new p w gone a b v h r g =
    resting_stands n new sweep gone w b v (subst (λ z. IsBetween n sweep z gone w) (sym a) (moved n sweep old hand gone w g (put_back n sweep old gone h.begun w sweep.stripe h.between (r h.begun h.taken))))

pub go_on_next : (n m : ℕ) (sweep : Sweep) (mid new : Sweeper) (swept : Swept) → m ≡ n
    → (sweep.stripe + 1 < m → (swept ≡ More) × (new ≡ record mid { sweep = Some (record sweep { stripe = sweep.stripe + 1 }); walking = SweepTakes }))
    → (m ≤ sweep.stripe + 1 → (swept ≡ Done sweep.count) × (new ≡ record mid { sweep = None; walking = Rests })) → IsNext n sweep mid.in_hand new swept
go_on_next n m sweep mid new swept same more last = elim (cases_lt (sweep.stripe + 1) m) [
  | inl low ↦ (let k = more low in record {
    hand_is = ap (λ (s : Sweeper). s.in_hand) k.1;
    way = inl (subst (λ z. sweep.stripe + 1 < z) same low, k.0, ap (λ (s : Sweeper). s.sweep) k.1, ap (λ (s : Sweeper). s.walking) k.1);
  })
  | inr high ↦ (let k = last high in record {
    hand_is = ap (λ (s : Sweeper). s.in_hand) k.1;
    way = inr (subst (λ z. z ≤ sweep.stripe + 1) same high, k.0, ap (λ (s : Sweeper). s.sweep) k.1, ap (λ (s : Sweeper). s.walking) k.1);
  })
]

-- ---- room for the entries, or none

pub ready : (old new : Hand) (walk : Walk) → MakesRoom old (entries_of_walk walk) new → IsReady old new walk walk
ready old new walk r = record {
  swept = λ n begun i p k. k;
  entries = λ h. refl;
  room = λ h hand g. collected old new hand (entries_of_walk walk) r g;
  same = only_room old new (entries_of_walk walk) r;
}

not_true : (b : Bool) → b ≡ true ⊎ b ≡ false
not_true true = inl refl
not_true false = inr refl

pub not_ready : (hand : Hand) (walk back : Walk) → ((n : ℕ) (b : Record) (task : Task) (p : Record) → Fits n b task walk p → Fits n b task back p) → (is_holding walk ≡ true → refusal_of_walk back ≡ Some NoMemory)
    → (is_holding walk ≡ false → back ≡ walk) → IsReady hand hand walk back
not_ready hand walk back fits refuses same = record {
  swept = λ n begun i p k. record {
    fits = fits n begun (ToSweep i) p k.fits;
    one_left = elim (not_true (is_holding walk)) [ inl h ↦ omega (arith, refusing_left back NoMemory (refuses h)) | inr h ↦ subst (λ (z : Walk). steps_left z ≤ 1) (sym (same h)) k.one_left ];
    one_made = k.one_made;
  };
  entries = λ none_. elim (not_true (is_holding walk)) [ inl h ↦ absurd (never NoMemory (sym none_ ∙ refuses h)) | inr h ↦ ap entries_of_walk (same h) ];
  room = λ none_ new g. elim (not_true (is_holding walk)) [
    | inl h ↦ absurd (never NoMemory (sym none_ ∙ refuses h))
    | inr h ↦ (let empty : entries_of_walk walk ≡ [] = none_to_hand_out walk h in
        subst (λ es. Collects hand es new) (sym empty) (gains_nothing hand new (subst (λ es. Gains hand es new) empty g)))
  ];
  same = collects_none hand;
}
  where
    never : (e : Refusal) → None ≡ Some e → ⊥
    never e h = cc
