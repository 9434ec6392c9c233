-- TICKET.
use Rattle.std.proofs.Common.{ℕ, ◌≡◌, ◌≢◌, ◌+◌, ◌<◌, ◌≤◌, ◌^◌, ◌++◌, List, [], ◌∷◌, Bool, true, false, Option, Some, None, length, refl, arith, sym, ◌∙◌, ap, subst, inl, inr, append_assoc, length-append}
use Rattle.std.specs.Prelude.{if◌then◌else◌}
use Rattle.std.proofs.Math.ListN.{length-set}
use Rattle.std.proofs.lemmas.Bool.{cases_eq, eq-eqb, ne_eqb}
use Rattle.std.proofs.lemmas.List.Elements.{All-push, All-weaker}
use Rattle.map_types.specs.declared.commands.Command.{Command}
use Rattle.map_model.specs.Parts.{is_in_stripe}
use Rattle.map_model.specs.Steps.{step, map_after}
use Rattle.map_model.specs.Histories.{IsLegalChange}
use Rattle.map_model.proofs.HistoryLaws.{legal_change}
use Rattle.ticket_order.specs.declared.record.Opening.{Opening}
use Rattle.ticket_order.specs.declared.record.Asked.TheVariants.{Changing}
use Rattle.ticket_order.specs.declared.record.Call.{Call}
use Rattle.ticket_order.specs.declared.record.StepMade.{StepMade}
use Rattle.ticket_order.specs.declared.record.StepMade.TheVariants as made
use Rattle.ticket_order.specs.declared.record.Holding.{Holding}
use Rattle.ticket_order.specs.declared.record.Record.{Record}
use Rattle.ticket_order.specs.Records.{IsWithin, reach, call, entry, drawing, drawing_at, part_held}
use Rattle.ticket_order.specs.Legality.{IsContent, history_of, last_of}
use Rattle.ticket_order.specs.StepRules.{MayDraw, Draws}
use Rattle.ticket_order.proofs.Longer.{sections_longer}
use Rattle.one_history.specs.declared.book.Book.{Book}
use Rattle.one_history.specs.declared.slot.Slot.{Slot}
use Rattle.one_history.specs.declared.slot.Slot.TheVariants.{Home, HeldBy}
use Rattle.one_history.specs.Interleaving.{is_held_by, with_last}
use Rattle.one_history.specs.Turns.{record_of, pass_step, words_of, unseen, drew}
use Rattle.one_history.specs.OneHistory.{IsFront, IsUpTo, Holds, Knows, AreOf, IsOneHistory, changes_by, stripe_in}
use Rattle.one_history.specs.Moves.{BookMoves}
use Rattle.one_history.specs.SharedWords.{slot_of, holder_in, Lies, draws_left, IsKept}
use Rattle.one_history.proofs.Fronts.{front_refl, front_trans, front_one}
use Rattle.one_history.proofs.Legal.{calls_longer, calls_both}
use Rattle.one_history.proofs.Contents.{last_drawn, last_other, content_drawn, content_other, own_reply}
use Rattle.one_history.proofs.Orders.{order_push, push_change, own_more, other_more}
use Rattle.one_history.proofs.Knowing.{up_to_more, done_same}
use Rattle.one_history.proofs.Slots.{holders_turned, one_turned, same_record, other_records, holds_still, held_before, room_drawn, count_small}
use Rattle.one_history.proofs.Watching.{whole}

stripe_drawn : (q : ℕ) (c : Command) (x : Option Holding) → stripe_in (drawing_at q c x) ≡ stripe_in x
stripe_drawn q c None = refl
stripe_drawn q c (Some d) = refl

held_drawn : (t : ℕ) (c : Command) (x : Option Holding) (d d' : Holding) → x ≡ Some d → drawing_at t c x ≡ Some d' → record d { part = (step d.part c).map; outbox = d.outbox ++ entry t c ∷ []; last = t + 1; has_drawn = true; looked = None } ≡ d'
held_drawn t c None d d' e f = absurd (let no : None ≡ Some d = e in cc)
held_drawn t c (Some x) d d' e f =
    let same : x ≡ d = (let g : Some x ≡ Some d = e in cc) in
    let is : record x { part = (step x.part c).map; outbox = x.outbox ++ entry t c ∷ []; last = t + 1; has_drawn = true; looked = None } ≡ d' = (let g : Some (record x { part = (step x.part c).map; outbox = x.outbox ++ entry t c ∷ []; last = t + 1; has_drawn = true; looked = None }) ≡ Some d' = f in cc) in
    ap (λ (y : Holding). record y { part = (step y.part c).map; outbox = y.outbox ++ entry t c ∷ []; last = t + 1; has_drawn = true; looked = None }) (sym same) ∙ is

module _ (n t durable : ℕ) (has_failed : Bool) (slots : List Slot) (b : Book) (j : ℕ) (kept : IsKept n t durable has_failed slots b) (within : j < length b.passes) (c : Command) (may : MayDraw b.stripes (record_of j b) c) where
  abbrev r : Record
  r = record_of j b

  abbrev between : List Command
  between = unseen (record_of j b) b.history

  abbrev w : Record
  w = drawing (record_of j b) (unseen (record_of j b) b.history) c

  abbrev s : StepMade
  s = made.Drew ((record_of j b).opening.first + length ((record_of j b).seen ++ unseen (record_of j b) b.history))

  abbrev h' : List Command
  h' = b.history ++ c ∷ []

  here : Knows b.opening b.stripes b.history b.authors b.effects j (record_of j b)
  here = kept.one.passes j within

  holds_it : Holds b.opening b.stripes b.history b.authors b.effects (record_of j b) may.held
  unfolding here
  holds_it = here.held may.held may.holding

  own : is_in_stripe b.stripes may.held.stripe c.key ≡ true
  own = eq-eqb _ _ may.stripe_is

  seen_all : (r.seen ++ between) ≡ b.history
  seen_all = whole n t durable has_failed slots b j kept within

  opening_is : r.opening ≡ b.opening
  unfolding here
  opening_is = here.opening

  ticket_is : r.opening.first + length (r.seen ++ between) ≡ b.opening.first + length b.history
  ticket_is = ap (λ (o : Opening). o.first + length (r.seen ++ between)) opening_is ∙ ap (λ (cs : List Command). b.opening.first + length cs) seen_all

  part_is : part_held r.holding ≡ may.held.part
  part_is = ap part_held may.holding

  reply_is : (step (part_held r.holding) c).reply ≡ (step (map_after r.opening.map (r.seen ++ between)) c).reply
  reply_is =
      ap (λ m. (step m c).reply) part_is
      ∙ (own_reply b.opening b.stripes b.history b.effects.taken may.held.stripe may.held.part may.held.outbox may.held.last c own holds_it.content
      ∙ sym (ap (λ (o : Opening). (step (map_after o.map (r.seen ++ between)) c).reply) opening_is ∙ ap (λ (cs : List Command). (step (map_after b.opening.map cs) c).reply) seen_all))

  legal_here : IsLegalChange (history_of w) (r.opening.first + length (r.seen ++ between) + 1) c (step (part_held r.holding) c).reply
  legal_here = subst (λ x. IsLegalChange (history_of w) (r.opening.first + length (r.seen ++ between) + 1) c x) (sym reply_is) (legal_change (history_of w) (r.seen ++ between) [] c refl)

  one_left : draws_left (record_of j b) ≡ 1
  one_left = ap (λ x. if x then 1 else 0) may.fresh

  pub small : t < 2 ^ 63
  small = let l : b.opening.first + length b.history < 2 ^ 63 = count_small b j within kept.few one_left kept.room in let c' : t ≡ b.opening.first + length b.history = kept.counted in omega arith

  seen_is : w.seen ≡ h'
  seen_is = ap (λ x. x ++ c ∷ []) seen_all

  reach_is : reach w ≡ r.opening.first + length (r.seen ++ between) + 1
  reach_is = omega (arith, length-append (r.seen ++ between) (c ∷ []))

  longer_is : w.seen ≡ r.seen ++ (between ++ c ∷ [])
  longer_is = append_assoc r.seen between (c ∷ [])

  knows_drawn : Knows b.opening b.stripes h' (b.authors ++ j ∷ []) b.effects j w
  unfolding here
  knows_drawn =
      let q : ℕ = r.opening.first + length (r.seen ++ between) + 1 in
      let new : Call = call q (Changing c) (step (part_held r.holding) c).reply in
      let reached : reach r ≤ r.opening.first + length (r.seen ++ between) = omega (arith, length-append r.seen between) in
      let at : q ≡ b.opening.first + 1 + length b.history = omega (arith, ticket_is) in
      record {
        opening = here.opening;
        front = subst (λ x. IsFront x h') (sym seen_is) (front_refl h');
        changes = push_change r.calls q c (step (part_held r.holding) c).reply
            ∙ (ap (λ x. x ++ (q, c) ∷ []) here.changes
            ∙ (ap (λ p. changes_by j (b.opening.first + 1) b.authors b.history ++ (p, c) ∷ []) at
            ∙ sym (own_more j (b.opening.first + 1) b.authors b.history c kept.one.authors)));
        calls = calls_both w r.calls (new ∷ []) (calls_longer r w (between ++ c ∷ []) refl longer_is r.calls here.calls) (legal_here, tt);
        order = order_push r.calls new here.order (All-weaker (IsUpTo (reach r)) (λ (x : Call). x.position < q) (λ x l. omega arith) r.calls here.seen);
        seen = All-push (IsUpTo (reach w)) r.calls new (up_to_more (reach r) (reach w) r.calls (omega (arith, reach_is)) here.seen) (omega (arith, reach_is));
        sections = sections_longer b.stripes r w (between ++ c ∷ []) refl longer_is r.sections here.sections;
        keeper = here.keeper;
        done = done_same b.opening b.effects r w refl refl refl refl here.done;
        held = λ d e.
            let t' : ℕ = r.opening.first + length (r.seen ++ between) in
            let is = held_drawn t' c r.holding may.held d may.holding e in
            subst (Holds b.opening b.stripes h' (b.authors ++ j ∷ []) b.effects w) is (record {
              within = holds_it.within;
              content = subst (λ p. IsContent b.opening b.stripes h' b.effects.taken may.held.stripe (step may.held.part c).map (may.held.outbox ++ entry p c ∷ []) (p + 1)) (sym ticket_is) (content_drawn b.opening b.stripes b.history b.effects.taken may.held.stripe may.held.part may.held.outbox may.held.last c own holds_it.content);
              looked = λ q f. absurd (let no : None ≡ Some q = f in cc);
            });
      }

  -- the stripe is this pass's
  slot_here : slot_of may.held.stripe slots ≡ HeldBy j
  slot_here = kept.carried may.held.stripe j (record { within = within; has = ap stripe_in may.holding })

  other_stripe : (l : ℕ) → l ≢ may.held.stripe → is_in_stripe b.stripes l c.key ≡ false
  other_stripe l ne = ne_eqb _ l (λ e. ne (sym e ∙ may.stripe_is))

  knows_other : (l : ℕ) → l < length b.passes → l ≢ j → Knows b.opening b.stripes h' (b.authors ++ j ∷ []) b.effects l (record_of l b)
  knows_other l lt ne =
      let x = kept.one.passes l lt in
      record {
        opening = x.opening;
        front = front_trans (record_of l b).seen b.history h' x.front (front_one b.history c);
        changes = x.changes ∙ sym (other_more l j (b.opening.first + 1) b.authors b.history c (λ e. ne (sym e)) kept.one.authors);
        calls = x.calls;
        order = x.order;
        seen = x.seen;
        sections = x.sections;
        keeper = x.keeper;
        done = x.done;
        held = λ d e.
            let was = x.held d e in
            let theirs : slot_of d.stripe slots ≡ HeldBy l = kept.carried d.stripe l (record { within = lt; has = ap stripe_in e }) in
            let apart : d.stripe ≢ may.held.stripe = λ s. (let f : HeldBy l ≡ HeldBy j = sym theirs ∙ (ap (λ u. slot_of u slots) s ∙ slot_here) in ne (cc)) in
            record {
              within = was.within;
              content = content_other b.opening b.stripes b.history b.effects.taken d.stripe d.part d.outbox d.last c (other_stripe d.stripe apart) was.content;
              looked = was.looked;
            };
      }

  more_by_one : length (b.history ++ c ∷ []) ≡ length b.history + 1
  more_by_one = length-append b.history (c ∷ [])

  -- whom the words have for the holder of the stripe l: this pass, if the stripe is the change's, and no or another pass,
  -- if it isn't
  holder_here : is_held_by j ((words_of b).holders may.held.stripe) ≡ true
  holder_here = ap (is_held_by j) (kept.holders may.held.stripe holds_it.within ∙ ap holder_in slot_here) ∙ eq-eqb j j refl

  holder_there : (l : ℕ) → l ≢ may.held.stripe → (x : Slot) → Lies b l x → is_held_by j (holder_in x) ≡ false
  holder_there l ne (Home content) lies = refl
  holder_there l ne (HeldBy u) lies =
      ne_eqb u j (λ e.
      let has : stripe_in (record_of j b).holding ≡ Some l = subst (λ v. stripe_in (record_of v b).holding ≡ Some l) e lies.has in
      let both : Some may.held.stripe ≡ Some l = sym (ap stripe_in may.holding) ∙ has in
      ne (cc))

  -- one past the last ticket of the stripe l is what it was, but for the stripe of the change
  lasts_drawn : (l : ℕ) → l < b.stripes → with_last j (r.opening.first + length (r.seen ++ between) + 1) (words_of b).holders (words_of b).lasts l ≡ last_of b.stripes l b.opening.first h'
  lasts_drawn l lt =
      let new : ℕ = r.opening.first + length (r.seen ++ between) + 1 in
      let was : (words_of b).lasts l ≡ last_of b.stripes l b.opening.first b.history = kept.one.words.lasts l lt in
      elim (cases_eq l may.held.stripe) [
        | inl e ↦
            ap (λ t. if t then new else (words_of b).lasts l) (ap (λ u. is_held_by j ((words_of b).holders u)) e ∙ holder_here)
            ∙ (ap (λ p. p + 1) ticket_is ∙ sym (last_drawn b.stripes l b.opening b.history c (subst (λ u. is_in_stripe b.stripes u c.key ≡ true) (sym e) own)))
        | inr ne ↦
            ap (λ t. if t then new else (words_of b).lasts l) (ap (is_held_by j) (kept.holders l lt) ∙ holder_there l ne (slot_of l slots) (kept.each_slot l lt))
            ∙ (was ∙ sym (last_other b.stripes l b.opening b.history c (other_stripe l ne)))
      ]

  one_drew : IsOneHistory (drew j c b)
  one_drew =
      let words : AreOf b (words_of b) = kept.one.words in
      let counted : (words_of b).tickets ≡ b.opening.first + length b.history = words.tickets in
      one_turned b j s w h' (b.authors ++ j ∷ []) b.effects kept.one within
      (let was : length b.authors ≡ length b.history = kept.one.authors in omega (arith, more_by_one, length-append b.authors (j ∷ [])))
      (All-push (λ u. u < length b.passes) b.authors j kept.one.by_passes within) refl kept.one.begun
      (let was : b.effects.durable ≤ b.opening.first + length b.history = kept.one.reached in omega (arith, more_by_one))
      (All-push (IsWithin b.opening.key_limit) b.history c kept.one.within (subst (λ (o : Opening). IsWithin o.key_limit c) (kept.one.passes j within).opening may.within))
      knows_drawn knows_other
      (record {
        recorded = refl;
        finds = ticket_is ∙ sym counted;
        words = record { tickets = omega (arith, more_by_one); durable = words.durable; failed = words.failed; lasts = lasts_drawn };
      })

  same : stripe_in w.holding ≡ stripe_in (record_of j b).holding
  same = stripe_drawn (r.opening.first + length (r.seen ++ between)) c r.holding

  lies : (l : ℕ) (x : Slot) → slot_of l slots ≡ x → Lies b l x → Lies (drew j c b) l x
  lies l (Home content) is k =
      let apart : l ≢ may.held.stripe = λ s. (let f : Home content ≡ HeldBy j = sym is ∙ (ap (λ u. slot_of u slots) s ∙ slot_here) in cc) in
      content_other b.opening b.stripes b.history b.effects.taken l content.part.map content.outbox.items content.last c (other_stripe l apart) k
  lies l (HeldBy u) is k = holds_still b l j u s w h' (b.authors ++ j ∷ []) b.effects within same k

  pub kept_drew : IsKept n (t + 1) durable has_failed slots (drew j c b)
  kept_drew = record {
    stripes_are = kept.stripes_are;
    sized = kept.sized;
    counted = (let was : t ≡ b.opening.first + length b.history = kept.counted in omega (arith, more_by_one));
    durable_is = kept.durable_is;
    failed_is = kept.failed_is;
    few = (let was : length b.passes ≤ 65536 = kept.few in omega (arith, length-set b.passes j w));
    room = room_drawn b j s w c (b.authors ++ j ∷ []) b.effects within one_left refl more_by_one kept.room;
    one = one_drew;
    each_slot = λ l lt. lies l (slot_of l slots) refl (kept.each_slot l lt);
    carried = λ i l x. kept.carried i l (held_before b i j l s w h' (b.authors ++ j ∷ []) b.effects within same x);
    holders = holders_turned b j s w h' (b.authors ++ j ∷ []) b.effects slots refl kept.holders;
  }

  same_now : record_of j (drew j c b) ≡ w
  same_now = same_record b j s w h' (b.authors ++ j ∷ []) b.effects within

  t_is : t ≡ r.opening.first + length (r.seen ++ between)
  t_is = kept.counted ∙ sym ticket_is

  pub draws : Draws (record_of j b) c t (record_of j (drew j c b))
  draws = rw same_now (record { between = between; is = refl; ticket_is = t_is; legal = subst (λ p. IsLegalChange (history_of w) (p + 1) c (step (part_held r.holding) c).reply) (sym t_is) legal_here; small = small })

  pub moves_drew : BookMoves j (made.Drew t) b (drew j c b)
  moves_drew = record {
    opening = refl;
    stripes = refl;
    passes = length-set b.passes j w;
    others = λ l ne. other_records b j l s w h' (b.authors ++ j ∷ []) b.effects ne;
    order = ap (λ m. b.interleaving ++ pass_step j (made.Drew m) ∷ []) (sym t_is);
    words = record {
      command = c;
      reply = (step (part_held r.holding) c).reply;
      history = refl;
      authors = refl;
      effects = refl;
      ticket_is = kept.counted;
      calls = rw same_now (ap (λ p. r.calls ++ call (p + 1) (Changing c) (step (part_held r.holding) c).reply ∷ []) (sym t_is));
    };
    raises = ap reach same_now ∙ (reach_is ∙ ap (λ p. p + 1) (sym t_is));
  }
