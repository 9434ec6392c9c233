-- How the entries in hand follow the record of the keeper's pass.
use Rattle.std.proofs.Common.{◌≡◌, inl, inr, ℕ, ◌+◌, ◌-◌, ◌<◌, ◌≤◌, Bool, true, List, [], ◌∷◌, ◌++◌, length, get_or, replicate, Option, Some, None, append-nil, refl, sym, ◌∙◌, ap, subst, arith}
use Rattle.std.specs.List.{All, Contains}
use Rattle.std.proofs.lemmas.List.{length-append, get_or_append_left, get_or-append_right, get_or-replicate, get_or_past, length-replicate}
use Rattle.std.proofs.lemmas.List.Elements.{All-contains, Contains-append_left, Contains-append_right, Contains-append_cases, Contains-push}
use Rattle.std.proofs.lemmas.Bool.{cases_eq, cases_lt, eq-eqb}
use Rattle.java_hash.specs.Stripes.{stripe_of}
use Rattle.map_model.specs.Parts.{is_in_stripe}
use Rattle.map_types.specs.declared.commands.Command.{Command}
use Rattle.ticket_order.specs.declared.stripe.Entry.{Entry}
use Rattle.ticket_order.specs.declared.record.StepMade.TheVariants.{Looked, Took, Gave, FoundHeld}
use Rattle.ticket_order.specs.declared.record.Record.{Record}
use Rattle.ticket_order.specs.Records.{IsWithin, entry, reach, past, missing, taking, looking, looking_at, giving}
use Rattle.ticket_order.specs.Legality.{entries_from, entries_of}
use Rattle.ticket_order.specs.StepRules.{Looks, Rises}
use Rattle.ticket_order.specs.StepRules as rules_of
use Rattle.ticket_order.specs.Calls.{SweepsStripe, RefusesSweep}
use Rattle.ticket_order.specs.declared.record.Purpose.TheVariants.{Nothing, Sweep as ToKeep}
use Rattle.map_types.specs.declared.refusals.Refusal.TheVariants.{NoMemory}
use Rattle.java_hash.proofs.StripeLaws.{stripe_of_within}
use Rattle.store_layout.specs.Hands.{Hand, Holds}
use Rattle.flusher.specs.HandSteps.{MakesRoom, Gains}
use Rattle.flusher.specs.Gathering.{Accounts, Gathers, AreTaken, AreWithin, HasSweptBelow, AreGathered, Collects}
use Rattle.flusher.specs.declared.sweeper.Sweep.{Sweep}
use Rattle.flusher.specs.Sweeping.{HasNone, IsBetween}
use Rattle.ticket_order.proofs.Entries.{found, same_command, grown, shrunk, at_ticket, below_past, filtered, passes}

-- the test by which a stripe's entries are known
abbrev is_of : ℕ → ℕ → Entry → Bool
is_of n i e = is_in_stripe n i e.command.key

-- ---- room, and then entries in their places

nones : (more k : ℕ) → get_or (replicate {A = Option Command} more None) k None ≡ None
nones more k = elim (cases_lt k more) [
  | inl low ↦ get_or-replicate more k None None low
  | inr high ↦ get_or_past (replicate {A = Option Command} more None) k None (subst (λ z. z ≤ k) (sym (length-replicate {A = Option Command} more None)) high)
]

get_more : (slots : List (Option Command)) (more i : ℕ) → get_or (slots ++ replicate more None) i None ≡ get_or slots i None
get_more slots more i = elim (cases_lt i (length slots)) [
  | inl low ↦ get_or_append_left slots (replicate more None) None i low
  | inr high ↦ get_or-append_right slots (replicate more None) (length slots) i None refl high ∙ nones more (i - length slots) ∙ sym (get_or_past slots i None high)
]

room_holds : (old new : Hand) (es : List Entry) (t : ℕ) (c : Command) → MakesRoom old es new → Holds old t c → Holds new t c
room_holds old new es t c r k = record {
  reached = omega (arith, r.next, k.reached);
  there = subst (λ n. get_or new.slots (t - n) None ≡ Some c) (sym r.next) (ap (λ z. get_or z (t - old.next) None) r.slots ∙ get_more old.slots r.more (t - old.next) ∙ k.there);
}

room_held : (old new : Hand) (es : List Entry) (t : ℕ) (c : Command) → MakesRoom old es new → Holds new t c → Holds old t c
room_held old new es t c r k = record {
  reached = omega (arith, r.next, k.reached);
  there = sym (get_more old.slots r.more (t - old.next)) ∙ sym (ap (λ z. get_or z (t - old.next) None) r.slots) ∙ subst (λ n. get_or new.slots (t - n) None ≡ Some c) r.next k.there;
}

pub collected : (old mid new : Hand) (es : List Entry) → MakesRoom old es mid → Gains mid es new → Collects old es new
collected old mid new es r g = record {
  next = g.next ∙ r.next;
  all = λ e has low. g.all e has (r.places e has low);
  kept = λ t c k. g.kept t c (room_holds old mid es t c r k);
  only = λ t c k. elim (g.only t c k) [ inl before ↦ inl (room_held old mid es t c r before) | inr is ↦ inr is ];
}

pub only_room : (old mid : Hand) (es : List Entry) → MakesRoom old es mid → Collects old [] mid
only_room old mid es r = record {
  next = r.next;
  all = λ e has low. absurd (omega (arith, has.1));
  kept = λ t c k. (c, room_holds old mid es t c r k);
  only = λ t c k. inl (room_held old mid es t c r k);
}

pub collects_none : (hand : Hand) → Collects hand [] hand
collects_none hand = record {
  next = refl;
  all = λ e has low. absurd (omega (arith, has.1));
  kept = λ t c k. (c, k);
  only = λ t c k. inl k;
}

-- ---- the accounts after a GIVE

pub accounts_more : (old new : Hand) (gone : List Command) (first : ℕ) (taken es : List Entry) (seen seen' : List Command) → Accounts old gone first taken seen → Collects old es new
    → ((e : Entry) → Contains (entries_from first seen) e → Contains (entries_from first seen') e) → ((e : Entry) → Contains es e → Contains (entries_from first seen') e)
    → Accounts new gone first (taken ++ es) seen'
accounts_more old new gone first taken es seen seen' a g later fresh =
    let known : (e : Entry) → Contains (taken ++ es) e → Contains (entries_from first seen') e = λ e has. elim (Contains-append_cases taken es e has) [ inl k ↦ later e (a.known e k) | inr k ↦ fresh e k ] in
    let held : (t : ℕ) (c : Command) → Holds new t c → Contains (taken ++ es) (entry t c) = λ t c k. elim (g.only t c k) [ inl j ↦ Contains-append_left taken es (entry t c) (a.held t c j) | inr j ↦ Contains-append_right taken es (entry t c) j ] in
    let same : (e : Entry) (c : Command) → Contains (taken ++ es) e → Holds new e.ticket c → Holds new e.ticket e.command =
    λ e c has k. subst (λ x. Holds new e.ticket x) (same_command first seen' (entry e.ticket c) e (known _ (held e.ticket c k)) (known e has) refl) k in
    record {
      low = omega (arith, a.low, g.next);
      reached = omega (arith, a.reached, g.next);
      each = λ e has. elim (Contains-append_cases taken es e has) [
        | inl k ↦ elim (a.each e k) [ inl j ↦ inl j | inr j ↦ (let h = g.kept e.ticket e.command j in inr (same e h.0 has h.1)) ]
        | inr k ↦ elim (cases_lt e.ticket old.next) [
          | inl low ↦ (
              let x = found first seen' e (fresh e k) in
              let there = at_ticket first gone e.ticket x.low (omega (arith, a.reached)) in
              let is : there.0 ≡ e.command = same_command first seen' (entry e.ticket there.0) e (later _ (a.known _ (a.was_taken _ there.1))) (fresh e k) refl in
              inl (subst (λ c. Contains (entries_from first gone) (entry e.ticket c)) is there.1)
              )
          | inr high ↦ (let h = g.all e k high in inr (same e h.0 has h.1))
        ]
      ];
      was_taken = λ e k. Contains-append_left taken es e (a.was_taken e k);
      held = held;
      known = known;
    }

-- ---- what a TAKE of the keeper tells of the entries that it took

pub taken_of_history : (n i first : ℕ) (taken es : List Entry) (seen more : List Command) → entries_of n i taken ++ es ≡ entries_of n i (entries_from first (seen ++ more)) → past es ≤ first + length seen
    → (e : Entry) → Contains es e → Contains (entries_from first seen) e
taken_of_history n i first taken es seen more is low e has =
    let all : Contains (entries_of n i (entries_from first (seen ++ more))) e = subst (λ z. Contains z e) is (Contains-append_right (entries_of n i taken) es e has) in
    shrunk first seen more e (filtered (is_of n i) (entries_from first (seen ++ more)) e all) (omega (arith, below_past es e has))

pub stripe_taken : (n i first : ℕ) (taken es : List Entry) (seen more : List Command) → entries_of n i taken ++ es ≡ entries_of n i (entries_from first (seen ++ more))
    → (e : Entry) → Contains (entries_from first seen) e → stripe_of n e.command.key ≡ i → Contains (taken ++ es) e
stripe_taken n i first taken es seen more is e has stripe =
    let mine : is_of n i e ≡ true = eq-eqb (stripe_of n e.command.key) i stripe in
    let all : Contains (entries_of n i taken ++ es) e = subst (λ z. Contains z e) (sym is) (passes (is_of n i) (entries_from first (seen ++ more)) e (grown first seen more e has) mine) in
    elim (Contains-append_cases (entries_of n i taken) es e all) [
      | inl k ↦ Contains-append_left taken es e (filtered (is_of n i) taken e k)
      | inr k ↦ Contains-append_right taken es e k
    ]

-- the commands that a TAKE of the keeper tells of have keys within the limit, and so have the entries that it took
pub taken_within : (n i first limit : ℕ) (taken es : List Entry) (commands : List Command) → entries_of n i taken ++ es ≡ entries_of n i (entries_from first commands) → All (IsWithin limit) commands → AreWithin limit es
taken_within n i first limit taken es commands is within e has =
    let all : Contains (entries_of n i (entries_from first commands)) e = subst (λ z. Contains z e) is (Contains-append_right (entries_of n i taken) es e has) in
    let x = found first commands e (filtered (is_of n i) (entries_from first commands) e all) in
    All-contains (IsWithin limit) commands e.command within (e.ticket - first, omega (arith, x.low, x.high), x.there)

pub within_more : (limit : ℕ) (taken es : List Entry) → AreWithin limit taken → AreWithin limit es → AreWithin limit (taken ++ es)
within_more limit taken es a b e has = elim (Contains-append_cases taken es e has) [ inl k ↦ a e k | inr k ↦ b e k ]

-- ---- the records of the pass after each step of a sweep

pub accounts_later : (hand : Hand) (gone : List Command) (first : ℕ) (taken : List Entry) (seen more : List Command) → Accounts hand gone first taken seen → Accounts hand gone first taken (seen ++ more)
accounts_later hand gone first taken seen more a = record {
  low = a.low;
  reached = a.reached;
  each = a.each;
  was_taken = a.was_taken;
  held = a.held;
  known = λ e has. grown first seen more e (a.known e has);
}

pub taken_later : (n count stripe first : ℕ) (taken taken' : List Entry) (seen more : List Command) → AreTaken n count stripe first taken seen → count ≤ first + length seen → ((e : Entry) → Contains taken e → Contains taken' e)
    → AreTaken n count stripe first taken' (seen ++ more)
taken_later n count stripe first taken taken' seen more all reached kept = λ e has low before. kept e (all e (shrunk first seen more e has (omega (arith, low, reached))) low before)

-- LOOK
pub begun : (n : ℕ) (hand : Hand) (gone : List Command) (p w : Record) (count : ℕ) → HasNone hand gone p → Looks p count w → 0 < n → IsBetween n (record { count = count; stripe = 0 }) hand gone w
begun n hand gone p w count k l some =
    let at : Record = looking p l.between in
    let number : count ≡ reach at = l.count_is ∙ ap reach l.is in
    subst (IsBetween n (record { count = count; stripe = 0 }) hand gone) (sym l.is) (record {
      free = ap (looking_at (p.opening.first + length (p.seen ++ l.between))) k.free;
      within = some;
      below = record {
        looked = subst (λ q. Contains at.steps (Looked q)) (sym number) (Contains-push p.steps (Looked (p.opening.first + length (p.seen ++ l.between))));
        reached = omega (arith, number);
        all = λ e has low before. absurd (omega (arith, before));
      };
      gathers = record { keeper = k.gathers.keeper; accounts = accounts_later hand gone p.opening.first p.taken p.seen l.between k.gathers.accounts; within = k.gathers.within };
    })

-- TAKE of a stripe that another holds
pub missed : (n : ℕ) (sweep : Sweep) (hand : Hand) (gone : List Command) (p w : Record) (i : ℕ) → IsBetween n sweep hand gone p → w ≡ missing p i → IsBetween n sweep hand gone w
missed n sweep hand gone p w i k is = subst (IsBetween n sweep hand gone) (sym is) (record {
  free = k.free;
  within = k.within;
  below = record { looked = Contains-append_left p.steps (FoundHeld i ∷ []) (Looked sweep.count) k.below.looked; reached = k.below.reached; all = k.below.all };
  gathers = record { keeper = k.gathers.keeper; accounts = k.gathers.accounts; within = k.gathers.within };
})

-- GIVE of the stripe as it was taken
pub put_back : (n : ℕ) (sweep : Sweep) (hand : Hand) (gone : List Command) (p w : Record) (i : ℕ) → IsBetween n sweep hand gone p → RefusesSweep p i NoMemory w → IsBetween n sweep hand gone w
put_back n sweep hand gone p w i k r =
    let x = r.before in
    let is : w ≡ giving Nothing (taking p i x.part x.outbox x.last x.taken) = r.is ∙ ap (giving Nothing) x.is in
    let nothing : p.taken ≡ p.taken ++ [] = sym (append-nil p.taken) in
    subst (IsBetween n sweep hand gone) (sym is) (record {
      free = refl;
      within = k.within;
      below = record {
        looked = Contains-append_left (p.steps ++ Took i x.outbox x.last ∷ []) (Gave i ∷ []) (Looked sweep.count) (Contains-append_left p.steps (Took i x.outbox x.last ∷ []) (Looked sweep.count) k.below.looked);
        reached = omega (arith, k.below.reached, length-append p.seen x.taken);
        all = taken_later n sweep.count sweep.stripe p.opening.first p.taken (p.taken ++ []) p.seen x.taken k.below.all k.below.reached (λ e has. Contains-append_left p.taken [] e has);
      };
      gathers = record {
        keeper = k.gathers.keeper;
        accounts = subst (λ z. Accounts hand gone p.opening.first z (p.seen ++ x.taken)) nothing (accounts_later hand gone p.opening.first p.taken p.seen x.taken k.gathers.accounts);
        within = subst (AreWithin p.opening.key_limit) nothing k.gathers.within;
      };
    })

-- What a sweep of one stripe leaves, whatever stripe comes next.
pub record HasDrained (n count stripe : ℕ) (hand : Hand) (gone : List Command) (w : Record) : Type 0 where
  pub free : w.holding ≡ None
  pub below : HasSweptBelow n count (stripe + 1) w
  pub gathers : Gathers hand gone w

pub low_enough : (p w : Record) (k : ℕ) → Rises p k w → k ≤ reach w
low_enough p w k (inl x) = omega (arith, x.0, x.1)
low_enough p w k (inr x) = omega (arith, x.1)

-- GIVE that keeps the outbox
pub drained : (n : ℕ) (sweep : Sweep) (old new : Hand) (gone : List Command) (p w : Record) (es : List Entry) → IsBetween n sweep old gone p → SweepsStripe n p sweep.stripe es w → Collects old es new
    → HasDrained n sweep.count sweep.stripe new gone w
drained n sweep old new gone p w es k s g =
    let first = p.opening.first in
    let seen = p.seen ++ s.between in
    let at : Record = giving ToKeep (taking p sweep.stripe s.part es s.last s.between) in
    let x : rules_of.Collects n sweep.stripe p es w = s.collects in
    let high : past es ≤ first + length seen = subst (λ (z : Record). past es ≤ reach z) s.is (low_enough p w (past es) s.rises) in
    let is : entries_of n sweep.stripe p.taken ++ es ≡ entries_of n sweep.stripe (entries_from first (seen ++ x.more)) = x.is ∙ ap (λ (z : Record). entries_of n sweep.stripe (entries_from first (z.seen ++ x.more))) s.is in
    subst (HasDrained n sweep.count sweep.stripe new gone) (sym s.is) (record {
      free = refl;
      below = record {
        looked = Contains-append_left (p.steps ++ Took sweep.stripe es s.last ∷ []) (Gave sweep.stripe ∷ []) (Looked sweep.count) (Contains-append_left p.steps (Took sweep.stripe es s.last ∷ []) (Looked sweep.count) k.below.looked);
        reached = omega (arith, k.below.reached, length-append p.seen s.between);
        all = λ e has low before. elim (cases_eq (stripe_of n e.command.key) sweep.stripe) [
          | inl same ↦ stripe_taken n sweep.stripe first p.taken es seen x.more is e has same
          | inr other ↦ taken_later n sweep.count sweep.stripe first p.taken (p.taken ++ es) p.seen s.between k.below.all k.below.reached (λ f in_. Contains-append_left p.taken es f in_) e has low (omega (arith, before, other))
        ];
      };
      gathers = record {
        keeper = k.gathers.keeper;
        accounts = accounts_more old new gone first p.taken es p.seen seen k.gathers.accounts g (λ e has. grown first p.seen s.between e has) (taken_of_history n sweep.stripe first p.taken es seen x.more is high);
        within = within_more p.opening.key_limit p.taken es k.gathers.within (taken_within n sweep.stripe first p.opening.key_limit p.taken es (w.seen ++ x.more) x.is x.within);
      };
    })

-- the sweep of the last stripe gathers all
pub all_gathered : (n count stripe : ℕ) (hand : Hand) (gone : List Command) (w : Record) → HasDrained n count stripe hand gone w → stripe + 1 ≡ n → AreGathered hand gone w count
all_gathered n count stripe hand gone w d last t low high =
    let first = w.opening.first in
    let there = at_ticket first w.seen t low (omega (arith, high, d.below.reached)) in
    let within : stripe_of n there.0.key < stripe + 1 = subst (λ z. stripe_of n there.0.key < z) (sym last) (stripe_of_within n there.0.key (omega arith)) in
    (there.0, d.gathers.accounts.each (entry t there.0) (d.below.all (entry t there.0) there.1 high within))

-- the same entries are in hand, in more places
pub moved : (n : ℕ) (sweep : Sweep) (old new : Hand) (gone : List Command) (w : Record) → Collects old [] new → IsBetween n sweep old gone w → IsBetween n sweep new gone w
moved n sweep old new gone w g k = record {
  free = k.free;
  within = k.within;
  below = k.below;
  gathers = record {
    keeper = k.gathers.keeper;
    accounts = subst (λ z. Accounts new gone w.opening.first z w.seen) (append-nil w.taken) (accounts_more old new gone w.opening.first w.taken [] w.seen w.seen k.gathers.accounts g (λ e has. has) (λ e has. absurd (omega (arith, has.1))));
    within = k.gathers.within;
  };
}

pub gains_nothing : (old new : Hand) → Gains old [] new → Collects old [] new
gains_nothing old new g = record {
  next = g.next;
  all = λ e has low. absurd (omega (arith, has.1));
  kept = g.kept;
  only = λ t c k. g.only t c k;
}
