-- Entries that are put into their places.
use Rattle.std.proofs.Common.{◌≡◌, inl, inr, ℕ, ◌+◌, ◌-◌, ◌<◌, ◌≤◌, List, [], ◌∷◌, ◌++◌, length, get_or, set, take, Some, None, refl, sym, ◌∙◌, ap, subst, arith}
use Rattle.std.proofs.lemmas.Bool.{cases_eq}
use Rattle.std.specs.List.{All, Contains}
use Rattle.std.proofs.lemmas.List.{length-set, get_or-set_same, get_or-set_other}
use Rattle.std.proofs.lemmas.List.Elements.{All-more, All-weaker, Contains-append_left, Contains-append_right, Contains-append_cases}
use Rattle.map_types.specs.declared.commands.Command.{Command}
use Rattle.ticket_order.specs.declared.stripe.Entry.{Entry}
use Rattle.ticket_order.specs.Records.{entry}
use Rattle.store_layout.specs.Hands.{Hand}
use Rattle.flusher.specs.HandSteps.{HasPlace, Gains}

pub places_more : (next len more : ℕ) (entries : List Entry) (i : ℕ) (e : Entry) → len ≤ more → i < length entries → e ≡ get_or entries i e → (next ≤ e.ticket → e.ticket < next + more)
    → All (λ e. next ≤ e.ticket → e.ticket < next + len) (take i entries) → All (λ e. next ≤ e.ticket → e.ticket < next + more) (take (i + 1) entries)
places_more next len more entries i e h within is here before =
    let P : Entry → Type 0 = λ e. next ≤ e.ticket → e.ticket < next + more in
    All-more P entries i e within (All-weaker (λ e. next ≤ e.ticket → e.ticket < next + len) P (λ x f g. let k : x.ticket < next + len = f g in omega arith) (take i entries) before) (subst P is here)

pub gains_none : (h : Hand) → Gains h [] h
gains_none h = record { next = refl; long = refl; all = λ e has. absurd (omega (arith, has.1)); kept = λ t c k. (c, k); only = λ t c k. inl k }

only_one : (x e : Entry) → Contains (x ∷ []) e → x ≡ e
only_one x e has =
    let first : has.0 ≡ 0 = omega (arith, has.1) in
    subst (λ k. get_or (x ∷ []) k e ≡ e) first has.2

abbrev pub in_place : Hand → Entry → Hand
in_place h e = record h { slots = set h.slots (e.ticket - h.next) (Some e.command) }

some_same : (c d : Command) → Some c ≡ Some d → c ≡ d
some_same c d is = cc

contains_one : (e : Entry) (t : ℕ) (c : Command) → t ≡ e.ticket → Some c ≡ Some e.command → Contains (e ∷ []) (entry t c)
contains_one e t c same is =
    let there : e ≡ entry t c = sym (ap (entry t) (some_same c e.command is) ∙ ap (λ k. entry k e.command) same) in
    (0, omega arith, there)

pub same_hand : (a b : Hand) → a.next ≡ b.next → a.slots ≡ b.slots → a ≡ b
same_hand a b n s = ap (λ k. record { next = k; slots = a.slots }) n ∙ ap (λ z. record { next = b.next; slots = z }) s

pub gains_in : (h : Hand) (e : Entry) → HasPlace h e → Gains h (e ∷ []) (in_place h e)
gains_in h e place =
    let i = e.ticket - h.next in
    let within : i < length h.slots = omega (arith, place.0, place.1) in
    let put : get_or (set h.slots i (Some e.command)) i None ≡ Some e.command = get_or-set_same h.slots i (Some e.command) None within in
    record {
      next = refl;
      long = length-set h.slots i (Some e.command);
      all = λ x has there. (e.command, record { reached = there.0; there = subst (λ (y : Entry). get_or (set h.slots i (Some e.command)) (y.ticket - h.next) None ≡ Some e.command) (only_one e x has) put });
      kept = λ t c k. elim (cases_eq (t - h.next) i) [
        | inl same ↦ (e.command, record { reached = k.reached; there = subst (λ j. get_or (set h.slots i (Some e.command)) j None ≡ Some e.command) (sym same) put })
        | inr other ↦ (c, record { reached = k.reached; there = get_or-set_other h.slots i (t - h.next) (Some e.command) None other ∙ k.there })
      ];
      only = λ t c k. elim (cases_eq (t - h.next) i) [
        | inl same ↦
            let at : t ≡ e.ticket = omega (arith, k.reached, place.0, same) in
            let is : Some c ≡ Some e.command = sym k.there ∙ subst (λ j. get_or (set h.slots i (Some e.command)) j None ≡ Some e.command) (sym same) put in
            inr (contains_one e t c at is)
        | inr other ↦ inl (record { reached = k.reached; there = sym (get_or-set_other h.slots i (t - h.next) (Some e.command) None other) ∙ k.there })
      ];
    }

pub gains_more : (a b d : Hand) (xs : List Entry) (e : Entry) → Gains a xs b → Gains b (e ∷ []) d → Gains a (xs ++ e ∷ []) d
gains_more a b d xs e f g = record {
  next = g.next ∙ f.next;
  long = g.long ∙ f.long;
  all = λ x has place. elim (Contains-append_cases xs (e ∷ []) x has) [
    | inl before ↦ (let k = f.all x before place in g.kept x.ticket k.0 k.1)
    | inr now ↦ g.all x now (omega (arith, f.next, place.0), omega (arith, f.next, f.long, place.1))
  ];
  kept = λ t c k. let j = f.kept t c k in g.kept t j.0 j.1;
  only = λ t c k. elim (g.only t c k) [
    | inl before ↦ elim (f.only t c before) [ inl first ↦ inl first | inr has ↦ inr (Contains-append_left xs (e ∷ []) (entry t c) has) ]
    | inr now ↦ inr (Contains-append_right xs (e ∷ []) (entry t c) now)
  ];
}

pub gains_put : (h new : Hand) (e : Entry) → new.next ≡ h.next → new.slots ≡ set h.slots (e.ticket - h.next) (Some e.command) → HasPlace h e → Gains h (e ∷ []) new
gains_put h new e next slots place = subst (Gains h (e ∷ [])) (sym (same_hand new (in_place h e) next slots)) (gains_in h e place)
