-- GIVE.
use Rattle.std.proofs.Common.{ℕ, ◌≡◌, ◌≢◌, ◌⊎◌, ◌<◌, ◌≤◌, ◌++◌, ◌==◌, List, [], ◌∷◌, Bool, true, false, Option, Some, None, length, set, refl, arith, sym, ◌∙◌, ap, subst, inl, inr, append-nil}
use Rattle.std.proofs.lemmas.List.{get_or-set_same, get_or-set_other}
use Rattle.std.proofs.Math.ListN.{length-set}
use Rattle.std.specs.Prelude.{if◌then◌else◌}
use Rattle.std.proofs.lemmas.Bool.{cases_eq, eq-eqb, ne_eqb}
use Rattle.map_types.specs.declared.commands.Command.{Command}
use Rattle.map_model.specs.Maps.{Map}
use Rattle.ticket_order.specs.declared.stripe.Entry.{Entry}
use Rattle.ticket_order.specs.declared.stripe.Stripe.{Stripe}
use Rattle.ticket_order.specs.declared.record.Opening.{Opening}
use Rattle.ticket_order.specs.declared.record.Purpose.{Purpose}
use Rattle.ticket_order.specs.declared.record.Purpose.TheVariants.{Nothing, Answer, Sweep, Capture}
use Rattle.ticket_order.specs.declared.record.StepMade.{StepMade}
use Rattle.ticket_order.specs.declared.record.StepMade.TheVariants as made
use Rattle.ticket_order.specs.declared.record.Holding.{Holding}
use Rattle.ticket_order.specs.declared.record.Record.{Record}
use Rattle.ticket_order.specs.Records.{stripe_held, last_held, swept_by, outbox_for}
use Rattle.ticket_order.specs.Legality.{IsContent, last_of}
use Rattle.ticket_order.specs.StepRules.{MayGive, Suits, Gives}
use Rattle.one_history.specs.declared.book.Book.{Book}
use Rattle.one_history.specs.declared.book.KeeperEffects.{KeeperEffects}
use Rattle.one_history.specs.declared.slot.Slot.{Slot}
use Rattle.one_history.specs.declared.slot.Slot.TheVariants.{Home, HeldBy}
use Rattle.one_history.specs.Interleaving.{Words, with_holder}
use Rattle.one_history.specs.Turns.{record_of, pass_step, words_of, given, gave}
use Rattle.one_history.specs.OneHistory.{HasDone, Holds, Knows, AreOf, IsOneHistory, HoldsStripe, stripe_in}
use Rattle.one_history.specs.Moves.{BookMoves, SeesNoMore, SeesRead}
use Rattle.one_history.specs.SharedWords.{slot_of, holder_in, Lies, draws_left, IsKept}
use Rattle.one_history.proofs.Contents.{content_swept, content_unswept}
use Rattle.one_history.proofs.Knowing.{nothing_more, watches, only_keeper, done_by_none}
use Rattle.one_history.proofs.AfterGive.{IsGiven, is_given}
use Rattle.one_history.proofs.Slots.{words_turned, one_turned, same_record, other_records, other_holds, other_held, room_turned}

-- the content that goes back is that of the stripe, less what a sweep keeps
content_back : (o : Opening) (n : ℕ) (h : List Command) (taken : List Entry) (d : Holding) (p : Purpose) → IsContent o n h taken d.stripe d.part d.outbox d.last → IsContent o n h (taken ++ swept_by p (Some d)) d.stripe d.part (outbox_for p d) d.last
content_back o n h taken d Nothing k = subst (λ es. IsContent o n h es d.stripe d.part d.outbox d.last) (sym (append-nil taken)) k
content_back o n h taken d (Answer r) k = subst (λ es. IsContent o n h es d.stripe d.part d.outbox d.last) (sym (append-nil taken)) k
content_back o n h taken d Sweep k = content_swept o n h taken d.stripe d.part d.outbox d.last k
content_back o n h taken d Capture k = subst (λ es. IsContent o n h es d.stripe d.part d.outbox d.last) (sym (append-nil taken)) k

-- another stripe keeps its own
content_kept : (o : Opening) (n : ℕ) (h : List Command) (taken : List Entry) (d : Holding) (p : Purpose) (l : ℕ) (m : Map) (es : List Entry) (last : ℕ) → l ≢ d.stripe → IsContent o n h taken d.stripe d.part d.outbox d.last → IsContent o n h taken l m es last → IsContent o n h (taken ++ swept_by p (Some d)) l m es last
content_kept o n h taken d Nothing l m es last apart own k = subst (λ ts. IsContent o n h ts l m es last) (sym (append-nil taken)) k
content_kept o n h taken d (Answer r) l m es last apart own k = subst (λ ts. IsContent o n h ts l m es last) (sym (append-nil taken)) k
content_kept o n h taken d Sweep l m es last apart own k = content_unswept o n h taken d.stripe l d.part m d.outbox es d.last last (λ e. apart (sym e)) own k
content_kept o n h taken d Capture l m es last apart own k = subst (λ ts. IsContent o n h ts l m es last) (sym (append-nil taken)) k

-- the effects of another pass
done_other : (o : Opening) (n : ℕ) (k : KeeperEffects) (v r : Record) (d : Holding) (p : Purpose) (j l : ℕ) → v.keeper ≡ (j == k.keeper) → r.keeper ≡ (l == k.keeper) → l ≢ j → Suits n v d p → HasDone o k r r.keeper → HasDone o (record k { taken = k.taken ++ swept_by p (Some d) }) r r.keeper
done_other o n k v r d Nothing j l vk rk ne suits done = subst (λ es. HasDone o (record k { taken = es }) r r.keeper) (sym (append-nil k.taken)) done
done_other o n k v r d (Answer q) j l vk rk ne suits done = subst (λ es. HasDone o (record k { taken = es }) r r.keeper) (sym (append-nil k.taken)) done
done_other o n k v r d Sweep j l vk rk ne suits done = done_by_none o k (record k { taken = k.taken ++ d.outbox }) r (only_keeper j l k v r vk rk suits.0 ne) done
done_other o n k v r d Capture j l vk rk ne suits done = subst (λ es. HasDone o (record k { taken = es }) r r.keeper) (sym (append-nil k.taken)) done

-- the effects of this pass
done_true : (o : Opening) (k : KeeperEffects) (v w : Record) (es : List Entry) (x : Bool) → x ≡ true → w.taken ≡ v.taken ++ es → w.published ≡ v.published → w.failed ≡ v.failed → HasDone o k v x → HasDone o (record k { taken = k.taken ++ es }) w x
done_true o k v w es true e wt wp wf d = (wt ∙ ap (λ ts. ts ++ es) d.0, wp ∙ d.1, wf ∙ d.2)
done_true o k v w es false e wt wp wf d = absurd (let no : false ≡ true = e in cc)

done_nil : (o : Opening) (k : KeeperEffects) (v w : Record) (x : Bool) → w.taken ≡ v.taken ++ [] → w.published ≡ v.published → w.failed ≡ v.failed → HasDone o k v x → HasDone o (record k { taken = k.taken ++ [] }) w x
done_nil o k v w true wt wp wf d = (wt ∙ ap (λ ts. ts ++ []) d.0, wp ∙ d.1, wf ∙ d.2)
done_nil o k v w false wt wp wf d = (wt ∙ ap (λ ts. ts ++ []) d.0, wp ∙ d.1, wf ∙ d.2)

done_own : (o : Opening) (n : ℕ) (k : KeeperEffects) (v w : Record) (d : Holding) (p : Purpose) → Suits n v d p → w.keeper ≡ v.keeper → w.taken ≡ v.taken ++ swept_by p (Some d) → w.published ≡ v.published → w.failed ≡ v.failed → HasDone o k v v.keeper → HasDone o (record k { taken = k.taken ++ swept_by p (Some d) }) w w.keeper
done_own o n k v w d Nothing suits wk wt wp wf done = subst (HasDone o (record k { taken = k.taken ++ [] }) w) (sym wk) (done_nil o k v w v.keeper wt wp wf done)
done_own o n k v w d (Answer q) suits wk wt wp wf done = subst (HasDone o (record k { taken = k.taken ++ [] }) w) (sym wk) (done_nil o k v w v.keeper wt wp wf done)
done_own o n k v w d Sweep suits wk wt wp wf done = subst (HasDone o (record k { taken = k.taken ++ d.outbox }) w) (sym wk) (done_true o k v w d.outbox v.keeper suits.0 wt wp wf done)
done_own o n k v w d Capture suits wk wt wp wf done = subst (HasDone o (record k { taken = k.taken ++ [] }) w) (sym wk) (done_nil o k v w v.keeper wt wp wf done)

module _ (n t durable : ℕ) (has_failed : Bool) (slots : List Slot) (b : Book) (j : ℕ) (kept : IsKept n t durable has_failed slots b) (within : j < length b.passes) (i : ℕ) (content : Stripe) (p : Purpose) (may : MayGive b.stripes (record_of j b) i content p) where
  abbrev r : Record
  r = record_of j b

  abbrev d : Holding
  d = may.held

  abbrev w : Record
  w = given p (record_of j b) b.history

  abbrev s : StepMade
  s = made.Gave (stripe_held (record_of j b).holding)

  abbrev k' : KeeperEffects
  k' = record b.effects { taken = b.effects.taken ++ swept_by p (record_of j b).holding }

  -- the effects, said by the holding
  abbrev k'' : KeeperEffects
  k'' = record b.effects { taken = b.effects.taken ++ swept_by p (Some may.held) }

  effects_are : k'' ≡ k'
  effects_are = ap (λ (x : Option Holding). record b.effects { taken = b.effects.taken ++ swept_by p x }) (sym may.holding)

  here : Knows b.opening b.stripes b.history b.authors b.effects j (record_of j b)
  here = kept.one.passes j within

  holds_it : Holds b.opening b.stripes b.history b.authors b.effects (record_of j b) may.held
  unfolding here
  holds_it = here.held may.held may.holding

  after : IsGiven b.stripes b.history p (record_of j b) w
  unfolding here
  after = is_given b.opening b.stripes b.history b.authors b.effects j r here d may.holding p may.suits

  knows_gave : Knows b.opening b.stripes b.history b.authors k' j w
  unfolding here
  knows_gave = record {
    opening = after.opening ∙ here.opening;
    front = after.front;
    changes = after.changes ∙ here.changes;
    calls = after.calls;
    order = after.order;
    seen = after.seen;
    sections = after.sections;
    keeper = after.keeper ∙ here.keeper;
    done = subst (λ k. HasDone b.opening k w w.keeper) effects_are (done_own b.opening b.stripes b.effects r w d p may.suits after.keeper (after.taken ∙ ap (λ (x : Option Holding). r.taken ++ swept_by p x) may.holding) after.published after.failed here.done);
    held = λ e f. absurd (let no : None ≡ Some e = sym after.holding ∙ f in cc);
  }

  -- the stripe is this pass's
  slot_here : slot_of d.stripe slots ≡ HeldBy j
  slot_here = kept.carried d.stripe j (record { within = within; has = ap stripe_in may.holding })

  stripe_here : stripe_held (record_of j b).holding ≡ d.stripe
  stripe_here = ap stripe_held may.holding

  knows_other : (l : ℕ) → l < length b.passes → l ≢ j → Knows b.opening b.stripes b.history b.authors k' l (record_of l b)
  unfolding here
  knows_other l lt ne =
      let x = kept.one.passes l lt in let u : Record = record_of l b in
      watches b.opening b.stripes b.history b.authors b.effects k' l u u [] x (nothing_more u u refl refl refl) x.front refl refl refl
      (subst (λ k. HasDone b.opening k u u.keeper) effects_are (done_other b.opening b.stripes b.effects r u d p j l here.keeper x.keeper ne may.suits x.done))
      (λ e f.
      let was = x.held e f in
      let theirs : slot_of e.stripe slots ≡ HeldBy l = kept.carried e.stripe l (record { within = lt; has = ap stripe_in f }) in
      let apart : e.stripe ≢ d.stripe = λ s. (let g : HeldBy l ≡ HeldBy j = sym theirs ∙ (ap (λ y. slot_of y slots) s ∙ slot_here) in ne (cc)) in
      record {
        within = was.within;
        content = subst (λ k. IsContent b.opening b.stripes b.history k.taken e.stripe e.part e.outbox e.last) effects_are (content_kept b.opening b.stripes b.history b.effects.taken d p e.stripe e.part e.outbox e.last apart holds_it.content was.content);
        looked = was.looked;
      })

  one_gave : IsOneHistory (gave j p b)
  one_gave =
      let words : AreOf b (words_of b) = kept.one.words in
      one_turned b j s w b.history b.authors k' kept.one within kept.one.authors kept.one.by_passes refl kept.one.begun kept.one.reached kept.one.within knows_gave knows_other
      (record {
        recorded = after.steps;
        finds = subst (λ u. (words_of b).holders u ≡ Some j) (sym stripe_here) (kept.holders d.stripe holds_it.within ∙ ap holder_in slot_here);
        words = record { tickets = words.tickets; durable = words.durable; failed = words.failed; lasts = words.lasts };
      })

  pub in_slots : i < length slots
  in_slots = (let s : b.stripes ≡ n = kept.stripes_are in let l : length slots ≡ n = kept.sized in let at : may.held.stripe ≡ i = may.stripe_is in let lt : may.held.stripe < b.stripes = holds_it.within in omega arith)

  set_here : slot_of i (set slots i (Home content)) ≡ Home content
  set_here = get_or-set_same slots i (Home content) (HeldBy 0) in_slots

  set_there : (l : ℕ) → l ≢ i → slot_of l (set slots i (Home content)) ≡ slot_of l slots
  set_there l ne = get_or-set_other slots i l (Home content) (HeldBy 0) ne

  here_was : slot_of i slots ≡ HeldBy j
  here_was = ap (λ u. slot_of u slots) (sym may.stripe_is) ∙ slot_here

  back : IsContent b.opening b.stripes b.history k'.taken i content.part.map content.outbox.items content.last
  back =
      let k : IsContent b.opening b.stripes b.history k''.taken d.stripe d.part (outbox_for p d) d.last = content_back b.opening b.stripes b.history b.effects.taken d p holds_it.content in
      let k1 : IsContent b.opening b.stripes b.history k'.taken d.stripe d.part (outbox_for p d) d.last = subst (λ x. IsContent b.opening b.stripes b.history x.taken d.stripe d.part (outbox_for p d) d.last) effects_are k in
      let k2 : IsContent b.opening b.stripes b.history k'.taken i d.part (outbox_for p d) d.last = subst (λ u. IsContent b.opening b.stripes b.history k'.taken u d.part (outbox_for p d) d.last) may.stripe_is k1 in
      let k3 : IsContent b.opening b.stripes b.history k'.taken i content.part.map (outbox_for p d) d.last = subst (λ m. IsContent b.opening b.stripes b.history k'.taken i m (outbox_for p d) d.last) (sym may.part_is) k2 in
      let k4 : IsContent b.opening b.stripes b.history k'.taken i content.part.map content.outbox.items d.last = subst (λ es. IsContent b.opening b.stripes b.history k'.taken i content.part.map es d.last) (sym may.outbox_is) k3 in
      subst (λ last. IsContent b.opening b.stripes b.history k'.taken i content.part.map content.outbox.items last) (sym may.last_is) k4

  lies : (l : ℕ) (x : Slot) → l ≢ i → slot_of l slots ≡ x → Lies b l x → Lies (gave j p b) l x
  lies l (Home c) apart is k =
      subst (λ y. IsContent b.opening b.stripes b.history y.taken l c.part.map c.outbox.items c.last) effects_are
      (content_kept b.opening b.stripes b.history b.effects.taken d p l c.part.map c.outbox.items c.last (λ e. apart (e ∙ may.stripe_is)) holds_it.content k)
  lies l (HeldBy u) apart is k =
      let other : u ≢ j = λ e. (let has : stripe_in r.holding ≡ Some l = subst (λ y. stripe_in (record_of y b).holding ≡ Some l) e k.has in let own : Some d.stripe ≡ Some l = sym (ap stripe_in may.holding) ∙ has in let same : l ≡ d.stripe = (cc) in apart (same ∙ may.stripe_is)) in
      other_holds b l j u s w b.history b.authors k' other k

  carried_now : (k l : ℕ) → HoldsStripe (gave j p b) l k → slot_of k (set slots i (Home content)) ≡ HeldBy l
  carried_now k l x = elim (cases_eq l j) [
    | inl e ↦
        let has : stripe_in (record_of j (gave j p b)).holding ≡ Some k = subst (λ u. stripe_in (record_of u (gave j p b)).holding ≡ Some k) e x.has in
        let none : None ≡ Some k = sym (ap stripe_in after.holding) ∙ (sym (ap (λ (y : Record). stripe_in y.holding) (same_record b j s w b.history b.authors k' within)) ∙ has) in
        absurd (cc)
    | inr ne ↦
        let was : slot_of k slots ≡ HeldBy l = kept.carried k l (other_held b k j l s w b.history b.authors k' ne x) in
        let other : k ≢ i = λ e. (let f : HeldBy j ≡ HeldBy l = sym here_was ∙ subst (λ u. slot_of u slots ≡ HeldBy l) e was in ne (cc)) in
        set_there k other ∙ was
  ]

  holders_now : (k : ℕ) → k < b.stripes → (words_of (gave j p b)).holders k ≡ holder_in (slot_of k (set slots i (Home content)))
  holders_now k ll =
      let at : stripe_held r.holding ≡ i = stripe_here ∙ may.stripe_is in
      let turn : (words_of (gave j p b)).holders k ≡ with_holder i None (words_of b).holders k =
      ap (λ (x : Words). x.holders k) (words_turned b j s w b.history b.authors k') ∙ ap (λ u. with_holder u None (words_of b).holders k) at in
      elim (cases_eq k i) [
        | inl e ↦ turn ∙ (ap (λ t. if t then None else (words_of b).holders k) (eq-eqb k i e) ∙ sym (ap holder_in (ap (λ u. slot_of u (set slots i (Home content))) e ∙ set_here)))
        | inr ne ↦ turn ∙ (ap (λ t. if t then None else (words_of b).holders k) (ne_eqb k i ne) ∙ (kept.holders k ll ∙ sym (ap holder_in (set_there k ne))))
      ]

  pub kept_gave : IsKept n t durable has_failed (set slots i (Home content)) (gave j p b)
  kept_gave = record {
    stripes_are = kept.stripes_are;
    sized = length-set slots i (Home content) ∙ kept.sized;
    counted = kept.counted;
    durable_is = kept.durable_is;
    failed_is = kept.failed_is;
    few = (let was : length b.passes ≤ 65536 = kept.few in omega (arith, length-set b.passes j w));
    room = room_turned b j s w k' within (let same : draws_left w ≡ draws_left r = ap (λ x. if x then 1 else 0) after.fresh in omega arith) kept.room;
    one = one_gave;
    each_slot = λ l lt. elim (cases_eq l i) [
      | inl e ↦ subst (λ u. Lies (gave j p b) u (slot_of u (set slots i (Home content)))) (sym e) (subst (λ x. Lies (gave j p b) i x) (sym set_here) back)
      | inr ne ↦ subst (λ x. Lies (gave j p b) l x) (sym (set_there l ne)) (lies l (slot_of l slots) ne refl (kept.each_slot l lt))
    ];
    carried = carried_now;
    holders = holders_now;
  }

  same_now : record_of j (gave j p b) ≡ w
  same_now = same_record b j s w b.history b.authors k' within

  pub gives : Gives b.stripes p (record_of j b) (record_of j (gave j p b))
  gives = subst (λ (y : Record). Gives b.stripes p r y) (sym same_now) after.gives

  raised : SeesNoMore r w ⊎ SeesRead r (last_of b.stripes i b.opening.first b.history) w
  raised =
      let last : last_held r.holding ≡ last_of b.stripes i b.opening.first b.history = ap last_held may.holding ∙ (holds_it.content.last_is ∙ ap (λ u. last_of b.stripes u b.opening.first b.history) may.stripe_is) in
      subst (λ x. SeesNoMore r w ⊎ SeesRead r x w) last after.raises

  pub moves_gave : BookMoves j (made.Gave i) b (gave j p b)
  moves_gave = record {
    opening = refl;
    stripes = refl;
    passes = length-set b.passes j w;
    others = λ l ne. other_records b j l s w b.history b.authors k' ne;
    order = ap (λ m. b.interleaving ++ pass_step j (made.Gave m) ∷ []) (stripe_here ∙ may.stripe_is);
    words = (record { history = refl; authors = refl }, record { entries = swept_by p r.holding; effects = refl; taken = ap (λ (y : Record). y.taken) same_now ∙ after.taken });
    raises = subst (λ (y : Record). SeesNoMore r y ⊎ SeesRead r (last_of b.stripes i b.opening.first b.history) y) (sym same_now) raised;
  }
