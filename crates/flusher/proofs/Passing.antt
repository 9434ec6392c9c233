-- The accounts of the sweeps, once a batch is staged, put back, or committed.
use Rattle.std.proofs.Common.{◌≡◌, inl, inr, ℕ, suc, ◌+◌, ◌-◌, ◌<◌, ◌≤◌, List, [], ◌∷◌, ◌++◌, length, get_or, Some, None, refl, sym, ◌∙◌, ap, subst, arith}
use Rattle.std.specs.List.{Contains}
use Rattle.std.proofs.lemmas.Bool.{cases_lt}
use Rattle.std.proofs.lemmas.List.{get_or-drop}
use Rattle.std.proofs.lemmas.List.Elements.{Contains-append_right}
use Rattle.map_types.specs.declared.commands.Command.{Command}
use Rattle.ticket_order.specs.declared.stripe.Entry.{Entry}
use Rattle.ticket_order.specs.declared.record.Record.{Record}
use Rattle.ticket_order.specs.Records.{entry, reach}
use Rattle.ticket_order.specs.Legality.{entries_from}
use Rattle.store_layout.specs.Hands.{Hand, Holds}
use Rattle.flusher.specs.HandSteps.{SameEntries}
use Rattle.flusher.specs.Gathering.{Accounts, Gathers, Collects}
use Rattle.flusher.specs.KeeperSteps.{passed}
use Rattle.ticket_order.proofs.Entries.{IsAt, found, there_is, same_command, at_ticket}

pub accounts_same : (old new : Hand) (gone : List Command) (first : ℕ) (taken : List Entry) (seen : List Command) → SameEntries old new → Accounts old gone first taken seen → Accounts new gone first taken seen
accounts_same old new gone first taken seen s a = record {
  low = omega (arith, a.low, s.next);
  reached = omega (arith, a.reached, s.next);
  each = λ e has. elim (a.each e has) [ inl k ↦ inl k | inr k ↦ inr (s.kept e.ticket e.command k) ];
  was_taken = a.was_taken;
  held = λ t c k. a.held t c (s.only t c k);
  known = a.known;
}

holds_on : (hand : Hand) (count t : ℕ) (c : Command) → hand.next + count ≤ t → Holds hand t c → Holds (passed count hand) t c
holds_on hand count t c high k = record {
  reached = high;
  there = get_or-drop count hand.slots (t - (hand.next + count)) None ∙ ap (λ i. get_or hand.slots i None) (omega (arith, high)) ∙ k.there;
}

held_before : (hand : Hand) (count t : ℕ) (c : Command) → Holds (passed count hand) t c → Holds hand t c
held_before hand count t c k =
    let high : hand.next + count ≤ t = k.reached in
    record {
      reached = omega (arith, high);
      there = ap (λ i. get_or hand.slots i None) (omega (arith, high)) ∙ sym (get_or-drop count hand.slots (t - (hand.next + count)) None) ∙ k.there;
    }

-- what is gone is no longer in hand
pub accounts_passed : (hand : Hand) (count : ℕ) (gone : List Command) (first : ℕ) (taken : List Entry) (seen : List Command) → hand.next + count ≡ first + length gone → Accounts hand gone first taken seen
    → Accounts (passed count hand) gone first taken seen
accounts_passed hand count gone first taken seen at a = record {
  low = omega (arith, a.low);
  reached = omega (arith, at);
  each = λ e has. elim (a.each e has) [
    | inl k ↦ inl k
    | inr k ↦ elim (cases_lt e.ticket (hand.next + count)) [
      | inl low ↦ (
          let there = at_ticket first gone e.ticket (omega (arith, a.low, k.reached)) (omega (arith, low, at)) in
          let is : there.0 ≡ e.command = same_command first seen (entry e.ticket there.0) e (a.known _ (a.was_taken _ there.1)) (a.known e has) refl in
          inl (subst (λ c. Contains (entries_from first gone) (entry e.ticket c)) is there.1)
          )
      | inr high ↦ inr (holds_on hand count e.ticket e.command high k)
    ]
  ];
  was_taken = a.was_taken;
  held = λ t c k. a.held t c (held_before hand count t c k);
  known = a.known;
}

-- the pass has seen what is gone
pub reached_by : (hand : Hand) (gone : List Command) (p : Record) → Gathers hand gone p → p.opening.first + length gone ≤ reach p
reached_by hand gone p k = elim (cases_lt 0 (length gone)) [
  | inl some ↦ (
      let there = at_ticket p.opening.first gone (p.opening.first + length gone - 1) (omega (arith, some)) (omega (arith, some)) in
      let x : IsAt p.opening.first p.seen (entry (p.opening.first + length gone - 1) there.0) = found p.opening.first p.seen _ (k.accounts.known _ (k.accounts.was_taken _ there.1)) in
      let high : p.opening.first + length gone - 1 < p.opening.first + length p.seen = x.high in
      omega (arith, high, some)
      )
  | inr none_ ↦ omega (arith, none_)
]

tail_in : (t : ℕ) (y : Command) (ys : List Command) (e : Entry) → Contains (entries_from t (y ∷ ys)) e → t + 1 ≤ e.ticket → Contains (entries_from (t + 1) ys) e
tail_in t y ys e has high =
    let x : IsAt t (y ∷ ys) e = found t (y ∷ ys) e has in
    let at : e.ticket - t ≡ suc (e.ticket - (t + 1)) = omega (arith, high) in
    let there : get_or (y ∷ ys) (suc (e.ticket - (t + 1))) e.command ≡ e.command = subst (λ k. get_or (y ∷ ys) k e.command ≡ e.command) at x.there in
    let top : e.ticket < t + length (y ∷ ys) = x.high in
    there_is (t + 1) ys e (record { low = high; high = omega (arith, top); there = there })

-- a list all of whose entries are of another, from the same ticket on, is its front
pub front_of_all : (t : ℕ) (xs ys : List Command) → ((e : Entry) → Contains (entries_from t xs) e → Contains (entries_from t ys) e) → (rest : List Command) × (ys ≡ xs ++ rest)
front_of_all t [] ys f = (ys, refl)
front_of_all t (x ∷ xs) [] f = absurd (omega (arith, (f (entry t x) (0, omega arith, refl)).1))
front_of_all t (x ∷ xs) (y ∷ ys) f =
    let same : x ≡ y = same_command t (y ∷ ys) (entry t x) (entry t y) (f (entry t x) (0, omega arith, refl)) (0, omega arith, refl) refl in
    let tails = front_of_all (t + 1) xs ys (λ e has. (
    let low : t + 1 ≤ e.ticket = (found (t + 1) xs e has).low in
    let all : Contains (entries_from t (x ∷ xs)) e = Contains-append_right (entry t x ∷ []) (entries_from (t + 1) xs) e has in
    tail_in t y ys e (f e all) low
    )) in
    (tails.0, ap (λ z. y ∷ z) tails.1 ∙ ap (λ z. z ∷ (xs ++ tails.0)) (sym same))

some_same : (c d : Command) → Some c ≡ Some d → c ≡ d
some_same c d e = cc

-- nothing was brought
pub collects_same : (old new : Hand) → Collects old [] new → SameEntries old new
collects_same old new g = record {
  next = g.next;
  kept = λ t c k. (let h = g.kept t c k in elim (g.only t h.0 h.1) [
    | inl j ↦ subst (λ x. Holds new t x) (some_same h.0 c (sym j.there ∙ k.there)) h.1
    | inr has ↦ absurd (omega (arith, has.1))
  ]);
  only = λ t c k. elim (g.only t c k) [ inl j ↦ j | inr has ↦ absurd (omega (arith, has.1)) ];
}
