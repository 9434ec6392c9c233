-- A pass joins.
use Rattle.std.proofs.Common.{ℕ, ◌≡◌, ◌≢◌, ◌+◌, ◌<◌, List, [], ◌∷◌, Bool, Some, None, length, refl, arith, sym, ◌∙◌, ap, subst, inl, inr, length-append}
use Rattle.std.specs.Prelude.{if◌then◌else◌}
use Rattle.std.specs.List.{All}
use Rattle.std.proofs.lemmas.List.{get_or_append_left}
use Rattle.std.proofs.lemmas.List.Elements.{All-nil, All-head, All-tail, All-weaker}
use Rattle.std.proofs.lemmas.List.Sums.{sum_by-append}
use Rattle.std.proofs.Math.Seq.{get_or-append_seam}
use Rattle.std.proofs.lemmas.Bool.{cases_lt, ne_eqb}
use Rattle.map_types.specs.declared.commands.Command.{Command}
use Rattle.ticket_order.specs.declared.record.Record.{Record}
use Rattle.ticket_order.specs.Records.{newcomer, enrolling}
use Rattle.one_history.specs.declared.book.Book.{Book}
use Rattle.one_history.specs.declared.slot.Slot.{Slot}
use Rattle.one_history.specs.declared.slot.Slot.TheVariants.{Home, HeldBy}
use Rattle.one_history.specs.Turns.{record_of, joined}
use Rattle.one_history.specs.OneHistory.{Knows, IsOneHistory, HoldsStripe, changes_by, changes_in, stripe_in}
use Rattle.one_history.specs.SharedWords.{slot_of, Lies, draws_left, HasRoom, IsKept}
use Rattle.one_history.proofs.Interleavings.{none_more}

-- a pass that comes after all authors made no change of the history
none_by : (j q : ℕ) (authors : List ℕ) (h : List Command) → All (λ i. i < j) authors → changes_by j q authors h ≡ []
unfolding changes_by
none_by j q [] h all = refl
none_by j q (a ∷ authors) [] all = refl
none_by j q (a ∷ authors) (c ∷ h) all =
    let lt : a < j = All-head (λ i. i < j) a authors all in
    let ne : a ≢ j = λ e. omega arith in
    ap (λ t. if t then (q, c) ∷ changes_by j (q + 1) authors h else changes_by j (q + 1) authors h) (ne_eqb a j ne) ∙ none_by j (q + 1) authors h (All-tail (λ i. i < j) a authors all)

module _ (n t durable : ℕ) (has_failed : Bool) (slots : List Slot) (b : Book) (kept : IsKept n t durable has_failed slots b) where
  abbrev w : Record
  w = enrolling (newcomer b.opening) (length b.passes + 1)

  pub joined_count : length (joined b).passes ≡ length b.passes + 1
  joined_count = omega (arith, length-append b.passes (w ∷ []))

  pub joined_before : (l : ℕ) → l < length b.passes → record_of l (joined b) ≡ record_of l b
  joined_before l lt = get_or_append_left b.passes (w ∷ []) (newcomer b.opening) l lt

  pub joined_last : record_of (length b.passes) (joined b) ≡ w
  joined_last = get_or-append_seam b.passes w [] (newcomer b.opening)

  knows_last : Knows b.opening b.stripes b.history b.authors b.effects (length b.passes) w
  unfolding changes_in
  knows_last = record {
    opening = refl;
    front = record { rest = b.history; is = refl };
    changes = sym (none_by (length b.passes) (b.opening.first + 1) b.authors b.history kept.one.by_passes);
    calls = tt;
    order = tt;
    seen = All-nil _;
    sections = tt;
    keeper = (let lt : b.effects.keeper < length b.passes = kept.one.keeper in sym (ne_eqb (length b.passes) b.effects.keeper (λ e. omega arith)));
    done = (refl, refl, refl);
    held = λ d e. absurd (let no : None ≡ Some d = e in cc);
  }

  one_joined : IsOneHistory (joined b)
  one_joined = record {
    authors = kept.one.authors;
    by_passes = All-weaker (λ j. j < length b.passes) (λ j. j < length (joined b).passes) (λ j lt. omega (arith, joined_count)) b.authors kept.one.by_passes;
    keeper = (let lt : b.effects.keeper < length b.passes = kept.one.keeper in omega (arith, joined_count));
    begun = kept.one.begun;
    reached = kept.one.reached;
    passes = λ j lt. elim (cases_lt j (length b.passes)) [
      | inl l ↦ subst (Knows b.opening b.stripes b.history b.authors b.effects j) (sym (joined_before j l)) (kept.one.passes j l)
      | inr l ↦
          let e : length b.passes ≡ j = omega (arith, joined_count) in
          subst (λ i. Knows b.opening b.stripes b.history b.authors b.effects i (record_of i (joined b))) e (subst (Knows b.opening b.stripes b.history b.authors b.effects (length b.passes)) (sym joined_last) knows_last)
    ];
    steps = λ j. none_more b.passes w (newcomer b.opening) j refl ∙ kept.one.steps j;
    found = kept.one.found;
    words = record { tickets = kept.one.words.tickets; durable = kept.one.words.durable; failed = kept.one.words.failed; lasts = kept.one.words.lasts };
    within = kept.one.within;
  }

  holds_on : (l i : ℕ) → HoldsStripe b l i → HoldsStripe (joined b) l i
  holds_on l i x = record { within = (let lt : l < length b.passes = x.within in omega (arith, joined_count)); has = ap (λ (r : Record). stripe_in r.holding) (joined_before l x.within) ∙ x.has }

  held_before : (l i : ℕ) → HoldsStripe (joined b) l i → HoldsStripe b l i
  held_before l i x = elim (cases_lt l (length b.passes)) [
    | inl lt ↦ record { within = lt; has = ap (λ (r : Record). stripe_in r.holding) (sym (joined_before l lt)) ∙ x.has }
    | inr ge ↦
        let lt : l < length (joined b).passes = x.within in
        let e : l ≡ length b.passes = omega (arith, joined_count) in
        let last : record_of l (joined b) ≡ w = ap (λ m. record_of m (joined b)) e ∙ joined_last in
        absurd (let no : None ≡ Some i = ap (λ (r : Record). stripe_in r.holding) (sym last) ∙ x.has in cc)
  ]

  lies : (i : ℕ) (x : Slot) → Lies b i x → Lies (joined b) i x
  lies i (Home content) c = record { part_is = c.part_is; outbox_is = c.outbox_is; last_is = c.last_is }
  lies i (HeldBy l) c = holds_on l i c

  room_joined : HasRoom (joined b)
  room_joined = elim kept.room [
    | inl z ↦ inl (omega (arith, sum_by-append draws_left b.passes (w ∷ [])))
    | inr r ↦ inr (omega (arith, joined_count, sum_by-append draws_left b.passes (w ∷ [])))
  ]

  pub kept_joined : length b.passes < 65536 → IsKept n t durable has_failed slots (joined b)
  kept_joined few = record {
    stripes_are = kept.stripes_are;
    sized = kept.sized;
    counted = kept.counted;
    durable_is = kept.durable_is;
    failed_is = kept.failed_is;
    few = omega (arith, joined_count);
    room = room_joined;
    one = one_joined;
    each_slot = λ i lt. lies i (slot_of i slots) (kept.each_slot i lt);
    carried = λ i j x. kept.carried i j (held_before j i x);
    holders = kept.holders;
  }
