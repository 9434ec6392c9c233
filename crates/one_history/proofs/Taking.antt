-- TAKE of a free stripe.
use Rattle.std.specs.List.{All}
use Rattle.std.proofs.Common.{ℕ, ◌≡◌, ◌≢◌, ◌<◌, ◌≤◌, ◌++◌, List, Bool, true, false, Some, None, length, set, refl, arith, sym, ◌∙◌, ap, subst, inl, inr}
use Rattle.std.proofs.lemmas.List.{get_or-set_same, get_or-set_other}
use Rattle.std.proofs.Math.ListN.{length-set}
use Rattle.std.specs.Prelude.{if◌then◌else◌}
use Rattle.std.proofs.lemmas.Bool.{cases_eq, eq-eqb, ne_eqb}
use Rattle.map_types.specs.declared.commands.Command.{Command}
use Rattle.ticket_order.specs.declared.stripe.Entry.{Entry}
use Rattle.ticket_order.specs.declared.stripe.Stripe.{Stripe}
use Rattle.ticket_order.specs.declared.record.StepMade.{StepMade}
use Rattle.ticket_order.specs.declared.record.StepMade.TheVariants as made
use Rattle.map_model.specs.Maps.{Map}
use Rattle.ticket_order.specs.declared.record.Opening.{Opening}
use Rattle.ticket_order.specs.declared.record.Holding.{Holding}
use Rattle.ticket_order.specs.declared.record.Record.{Record}
use Rattle.ticket_order.specs.Records.{IsWithin, past, taking}
use Rattle.ticket_order.specs.Legality.{IsContent, entries_of, entries_from, last_of}
use Rattle.ticket_order.specs.StepRules.{Rises, Collects, EndsAt, IsLast, TakesStripe}
use Rattle.one_history.specs.declared.book.Book.{Book}
use Rattle.one_history.specs.declared.slot.Slot.{Slot}
use Rattle.one_history.specs.declared.slot.Slot.TheVariants.{Home, HeldBy}
use Rattle.one_history.specs.Interleaving.{Words, with_holder}
use Rattle.one_history.specs.Turns.{record_of, words_of, unseen_to, took}
use Rattle.one_history.specs.OneHistory.{HasDone, Holds, Knows, AreOf, IsOneHistory, HoldsStripe, stripe_in}
use Rattle.one_history.specs.Moves.{BookMoves, IsFree}
use Rattle.one_history.specs.SharedWords.{slot_of, holder_in, Lies, IsKept}
use Rattle.one_history.proofs.Fronts.{SeesTo, sees_to}
use Rattle.one_history.proofs.Contents.{past_within, outbox_ends}
use Rattle.one_history.proofs.Knowing.{SeesMore, watches, done_same}
use Rattle.one_history.proofs.Slots.{words_turned, one_turned, same_record, other_records, other_holds, other_held, room_turned}

module _ (n t durable : ℕ) (has_failed : Bool) (slots : List Slot) (b : Book) (j : ℕ) (kept : IsKept n t durable has_failed slots b) (within : j < length b.passes) (i : ℕ) (content : Stripe) (lt : i < b.stripes) (empty : (record_of j b).holding ≡ None) (home : slot_of i slots ≡ Home content) where
  abbrev m : Map
  m = content.part.map

  abbrev es : List Entry
  es = content.outbox.items

  abbrev between : List Command
  between = unseen_to (past content.outbox.items) (record_of j b) b.history

  abbrev w : Record
  w = taking (record_of j b) i m es content.last between

  here : Knows b.opening b.stripes b.history b.authors b.effects j (record_of j b)
  here = kept.one.passes j within

  at_home : IsContent b.opening b.stripes b.history b.effects.taken i m es content.last
  at_home = subst (λ x. Lies b i x) home (kept.each_slot i lt)

  sees_outbox : SeesTo (record_of j b).opening.first (past es) (record_of j b).seen between b.history
  unfolding here
  sees_outbox = sees_to (record_of j b).opening.first (past es) (record_of j b).seen b.history here.front (omega (arith, ap (λ (o : Opening). o.first) here.opening, past_within b.opening b.stripes b.history b.effects.taken i m es content.last at_home))

  abbrev s : StepMade
  s = made.Took i content.outbox.items content.last

  in_slots : i < length slots
  in_slots = (let s : b.stripes ≡ n = kept.stripes_are in let l : length slots ≡ n = kept.sized in omega arith)

  set_here : slot_of i (set slots i (HeldBy j)) ≡ HeldBy j
  set_here = get_or-set_same slots i (HeldBy j) (HeldBy 0) in_slots

  set_there : (l : ℕ) → l ≢ i → slot_of l (set slots i (HeldBy j)) ≡ slot_of l slots
  set_there l ne = get_or-set_other slots i l (HeldBy j) (HeldBy 0) ne

  -- it was free
  pub free_before : IsFree i b
  free_before l x = let e : HeldBy l ≡ Home content = sym (kept.carried i l x) ∙ home in cc

  ends : EndsAt es content.last
  ends = outbox_ends b.opening b.stripes b.history b.effects.taken i m es content.last at_home

  one_took : IsOneHistory (took j i content b)
  unfolding here
  one_took =
      let r : Record = record_of j b in let sees : SeesMore r w between = record { opening = refl; seen = refl; calls = refl } in
      let words : AreOf b (words_of b) = kept.one.words in
      one_turned b j s w b.history b.authors b.effects kept.one within kept.one.authors kept.one.by_passes refl kept.one.begun kept.one.reached kept.one.within
      (watches b.opening b.stripes b.history b.authors b.effects b.effects j r w between here sees sees_outbox.front refl refl refl (done_same b.opening b.effects r w refl refl refl refl here.done)
      (λ d e.
      let new : Holding = record { stripe = i; part = m; outbox = es; last = content.last; has_drawn = false; looked = None } in
      let is : new ≡ d = (let f : Some new ≡ Some d = e in cc) in
      subst (Holds b.opening b.stripes b.history b.authors b.effects w) is (record { within = lt; content = at_home; looked = λ q f. absurd (let no : None ≡ Some q = f in cc) })))
      (λ l ll ne. kept.one.passes l ll)
      (record { recorded = refl; finds = (kept.holders i lt ∙ ap holder_in home, at_home.last_is ∙ sym (words.lasts i lt), ends); words = record { tickets = words.tickets; durable = words.durable; failed = words.failed; lasts = words.lasts } })

  -- another pass holds another stripe
  apart : (l k : ℕ) → HoldsStripe b l k → l ≢ j
  apart l k x e = let has : stripe_in (record_of j b).holding ≡ Some k = subst (λ u. stripe_in (record_of u b).holding ≡ Some k) e x.has in let none : None ≡ Some k = sym (ap stripe_in empty) ∙ has in cc

  lies : (l : ℕ) (x : Slot) → Lies b l x → Lies (took j i content b) l x
  lies l (Home c) k = record { part_is = k.part_is; outbox_is = k.outbox_is; last_is = k.last_is }
  lies l (HeldBy u) k = other_holds b l j u s w b.history b.authors b.effects (apart u l k) k

  holds_now : HoldsStripe (took j i content b) j i
  holds_now = record { within = omega (arith, length-set b.passes j w); has = ap (λ (r : Record). stripe_in r.holding) (same_record b j s w b.history b.authors b.effects within) }

  carried_now : (k l : ℕ) → HoldsStripe (took j i content b) l k → slot_of k (set slots i (HeldBy j)) ≡ HeldBy l
  carried_now k l x = elim (cases_eq l j) [
    | inl e ↦
        let has : stripe_in (record_of j (took j i content b)).holding ≡ Some k = subst (λ u. stripe_in (record_of u (took j i content b)).holding ≡ Some k) e x.has in
        let both : Some i ≡ Some k = sym holds_now.has ∙ has in
        let is : k ≡ i = (cc) in
        rw (is, e) set_here
    | inr ne ↦
        let was : slot_of k slots ≡ HeldBy l = kept.carried k l (other_held b k j l s w b.history b.authors b.effects ne x) in
        let other : k ≢ i = λ e. (let f : Home content ≡ HeldBy l = sym home ∙ subst (λ u. slot_of u slots ≡ HeldBy l) e was in cc) in
        set_there k other ∙ was
  ]

  holders_now : (k : ℕ) → k < b.stripes → (words_of (took j i content b)).holders k ≡ holder_in (slot_of k (set slots i (HeldBy j)))
  holders_now k ll =
      let after : (words_of (took j i content b)).holders k ≡ with_holder i (Some j) (words_of b).holders k = ap (λ (x : Words). x.holders k) (words_turned b j s w b.history b.authors b.effects) in
      elim (cases_eq k i) [
        | inl e ↦ after ∙ (ap (λ t. if t then Some j else (words_of b).holders k) (eq-eqb k i e) ∙ sym (ap holder_in (ap (λ u. slot_of u (set slots i (HeldBy j))) e ∙ set_here)))
        | inr ne ↦ after ∙ (ap (λ t. if t then Some j else (words_of b).holders k) (ne_eqb k i ne) ∙ (kept.holders k ll ∙ sym (ap holder_in (set_there k ne))))
      ]

  pub kept_took : IsKept n t durable has_failed (set slots i (HeldBy j)) (took j i content b)
  kept_took = record {
    stripes_are = kept.stripes_are;
    sized = length-set slots i (HeldBy j) ∙ kept.sized;
    counted = kept.counted;
    durable_is = kept.durable_is;
    failed_is = kept.failed_is;
    few = (let was : length b.passes ≤ 65536 = kept.few in omega (arith, length-set b.passes j w));
    room = room_turned b j s w b.effects within (omega arith) kept.room;
    one = one_took;
    each_slot = λ l ll. elim (cases_eq l i) [
      | inl e ↦ subst (λ u. Lies (took j i content b) u (slot_of u (set slots i (HeldBy j)))) (sym e) (subst (λ x. Lies (took j i content b) i x) (sym set_here) holds_now)
      | inr ne ↦ subst (λ x. Lies (took j i content b) l x) (sym (set_there l ne)) (lies l (slot_of l slots) (kept.each_slot l ll))
    ];
    carried = carried_now;
    holders = holders_now;
  }

  keeper_done : (x : Bool) → HasDone b.opening b.effects (record_of j b) x → x ≡ true → (record_of j b).taken ≡ b.effects.taken
  keeper_done true d e = d.0
  keeper_done false d e = absurd (let no : false ≡ true = e in cc)

  collects : (record_of j b).keeper ≡ true → Collects b.stripes i (record_of j b) es w
  unfolding here
  collects keeper =
      let r : Record = record_of j b in
      let f = sees_outbox.front in
      let all : b.history ≡ w.seen ++ f.rest = f.is in
      record {
        more = f.rest;
        is = ap (λ x. entries_of b.stripes i x ++ es) (keeper_done r.keeper here.done keeper)
            ∙ (sym at_home.outbox_is ∙ (ap (λ (o : Opening). entries_of b.stripes i (entries_from o.first b.history)) (sym here.opening) ∙ ap (λ h. entries_of b.stripes i (entries_from r.opening.first h)) all));
        within = subst (All (IsWithin r.opening.key_limit)) all (subst (λ (o : Opening). All (IsWithin o.key_limit) b.history) (sym here.opening) kept.one.within);
      }

  last_seen : IsLast b.stripes i content.last w
  unfolding here
  last_seen =
      let r : Record = record_of j b in
      let f = sees_outbox.front in
      let all : b.history ≡ w.seen ++ f.rest = f.is in
      record {
        more = f.rest;
        is = at_home.last_is ∙ (ap (λ (o : Opening). last_of b.stripes i o.first b.history) (sym here.opening) ∙ ap (last_of b.stripes i r.opening.first) all);
      }

  pub takes_stripe : TakesStripe b.stripes (record_of j b) i content (record_of j (took j i content b))
  takes_stripe = rw (same_record b j s w b.history b.authors b.effects within) (record { between = between; is = refl; rises = sees_outbox.rises; collects = collects; last = last_seen; ends = ends })

  same_now : record_of j (took j i content b) ≡ w
  same_now = same_record b j s w b.history b.authors b.effects within

  pub moves_took : BookMoves j (made.Took i es content.last) b (took j i content b)
  moves_took = record {
    opening = refl;
    stripes = refl;
    passes = length-set b.passes j w;
    others = λ l ne. other_records b j l s w b.history b.authors b.effects ne;
    order = refl;
    words = (record { same = record { history = refl; authors = refl }; effects = refl }, free_before);
    raises = (subst (λ (y : Record). Rises (record_of j b) (past es) y) (sym same_now) sees_outbox.rises, at_home.outbox_is, at_home.last_is);
  }
