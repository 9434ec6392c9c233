-- What a record knows stays known, as the history grows and the pass makes steps.
use Rattle.std.proofs.Common.{ℕ, ◌≡◌, ◌≢◌, ◌+◌, ◌≤◌, ◌++◌, ◌==◌, List, [], Bool, true, false, Option, Some, length, refl, arith, sym, ◌∙◌, ap, subst, append-nil, length-append}
use Rattle.std.specs.List.{All}
use Rattle.std.proofs.lemmas.List.Elements.{All-weaker}
use Rattle.std.proofs.lemmas.Bool.{ne_eqb, eqb-true}
use Rattle.map_types.specs.declared.commands.Command.{Command}
use Rattle.ticket_order.specs.declared.record.Opening.{Opening}
use Rattle.ticket_order.specs.declared.record.Call.{Call}
use Rattle.ticket_order.specs.declared.record.Holding.{Holding}
use Rattle.ticket_order.specs.declared.record.Record.{Record}
use Rattle.ticket_order.specs.Records.{reach}
use Rattle.ticket_order.specs.Legality.{history_from, IsLegalSection, IsContent}
use Rattle.ticket_order.specs.StepRules.{AllLegalCalls, AllLegalSections}
use Rattle.ticket_order.proofs.Longer.{section_longer, sections_longer}
use Rattle.one_history.specs.declared.book.KeeperEffects.{KeeperEffects}
use Rattle.one_history.specs.OneHistory.{IsFront, changes_in, IsUpTo, AreInOrder, HasDone, Holds, Knows}
use Rattle.one_history.proofs.Fronts.{front_refl}
use Rattle.one_history.proofs.Legal.{calls_longer}
use Rattle.one_history.proofs.Contents.{last_within, section_seen}

-- the record w has seen more than v, and made no other call
pub record SeesMore (v w : Record) (more : List Command) : Type 0 where
  pub opening : w.opening ≡ v.opening
  pub seen : w.seen ≡ v.seen ++ more
  pub calls : w.calls ≡ v.calls

-- it has seen what it had
pub nothing_more : (v w : Record) → w.opening ≡ v.opening → w.seen ≡ v.seen → w.calls ≡ v.calls → SeesMore v w []
nothing_more v w o s c = record { opening = o; seen = s ∙ sym (append-nil v.seen); calls = c }

pub up_to_more : (p q : ℕ) (xs : List Call) → p ≤ q → All (IsUpTo p) xs → All (IsUpTo q) xs
up_to_more p q xs l a = All-weaker (IsUpTo p) (IsUpTo q) (λ x h. omega arith) xs a

reach_more : (v w : Record) (more : List Command) → SeesMore v w more → reach v ≤ reach w
reach_more v w more s = rw (s.opening, s.seen) (omega (arith, length-append v.seen more))

module _ (o : Opening) (n : ℕ) (h : List Command) (authors : List ℕ) (k : KeeperEffects) where
  -- what is held stays as it was
  pub holds_longer : (v w : Record) (more : List Command) (d : Holding) → SeesMore v w more → Holds o n h authors k v d → Holds o n h authors k w d
  holds_longer v w more d s x = record {
    within = x.within;
    content = x.content;
    looked = λ q e. rw (s.opening, s.seen) (section_longer v.opening n v.seen more (record { stripe = d.stripe; mark = q; part = d.part }) (x.looked q e));
  }

  -- a LOOK that sees all finds the part as it is
  pub holds_looked : (v w : Record) (d : Holding) (looked : Option ℕ) → w.opening ≡ o → w.seen ≡ h → ((q : ℕ) → looked ≡ Some q → q ≡ reach w) → Holds o n h authors k v d → Holds o n h authors k w (record d { looked = looked })
  holds_looked v w d looked wo ws at x =
      let c : IsContent o n h k.taken d.stripe d.part d.outbox d.last = x.content in
      let now : IsLegalSection n (history_from o h) (record { stripe = d.stripe; mark = o.first + length h; part = d.part }) = section_seen o n h k.taken d.stripe d.part d.outbox d.last h c (front_refl h) (last_within o n h k.taken d.stripe d.part d.outbox d.last c) in
      record {
        within = x.within;
        content = record { part_is = c.part_is; outbox_is = c.outbox_is; last_is = c.last_is };
        looked = λ q e.
            let is : q ≡ o.first + length h = at q e ∙ (ap (λ (p : Opening). p.first + length w.seen) wo ∙ ap (λ (cs : List Command). o.first + length cs) ws) in
            rw (wo, ws, is) now;
      }

  -- a record that has seen more of the history, with the effects as they are now
  pub watches : (k' : KeeperEffects) (j : ℕ) (v w : Record) (more : List Command) → Knows o n h authors k j v → SeesMore v w more → IsFront w.seen h → w.sections ≡ v.sections → w.keeper ≡ v.keeper → k'.keeper ≡ k.keeper
      → HasDone o k' w w.keeper → ((d : Holding) → w.holding ≡ Some d → Holds o n h authors k' w d) → Knows o n h authors k' j w
  watches k' j v w more x s front sections keeper same done held = record {
    opening = s.opening ∙ x.opening;
    front = front;
    changes = ap changes_in s.calls ∙ x.changes;
    calls = subst (AllLegalCalls w) (sym s.calls) (calls_longer v w more s.opening s.seen v.calls x.calls);
    order = subst AreInOrder (sym s.calls) x.order;
    seen = subst (All (IsUpTo (reach w))) (sym s.calls) (up_to_more (reach v) (reach w) v.calls (reach_more v w more s) x.seen);
    sections = subst (AllLegalSections n w) (sym sections) (sections_longer n v w more s.opening s.seen v.sections x.sections);
    keeper = keeper ∙ (x.keeper ∙ ap (λ i. j == i) (sym same));
    done = done;
    held = held;
  }

-- the record's effects are as before
pub done_same : (o : Opening) (k : KeeperEffects) (v w : Record) → w.keeper ≡ v.keeper → w.taken ≡ v.taken → w.published ≡ v.published → w.failed ≡ v.failed → HasDone o k v v.keeper → HasDone o k w w.keeper
done_same o k v w wk wt wp wf d =
    let by : (x : Bool) → HasDone o k v x → HasDone o k w x = elim [ true ↦ λ e. (wt ∙ e.0, wp ∙ e.1, wf ∙ e.2) | false ↦ λ e. (wt ∙ e.0, wp ∙ e.1, wf ∙ e.2) ] in
    subst (HasDone o k w) (sym wk) (by v.keeper d)

-- what was not done by the keeper's pass stays so
pub done_by_none : (o : Opening) (k k' : KeeperEffects) (v : Record) → v.keeper ≡ false → HasDone o k v v.keeper → HasDone o k' v v.keeper
done_by_none o k k' v not d = subst (HasDone o k' v) (sym not) (subst (HasDone o k v) not d)

-- only one pass is the keeper's
pub only_keeper : (j l : ℕ) (k : KeeperEffects) (v w : Record) → v.keeper ≡ (j == k.keeper) → w.keeper ≡ (l == k.keeper) → v.keeper ≡ true → l ≢ j → w.keeper ≡ false
only_keeper j l k v w vk wk is apart = wk ∙ ne_eqb l k.keeper (λ e. apart (e ∙ sym (eqb-true j k.keeper (sym vk ∙ is))))

-- the record of another pass than the keeper's, when the keeper published or failed
pub stands_by : (o : Opening) (n : ℕ) (h : List Command) (authors : List ℕ) (k k' : KeeperEffects) (l : ℕ) (v : Record) → Knows o n h authors k l v → k'.keeper ≡ k.keeper → k'.taken ≡ k.taken → v.keeper ≡ false → Knows o n h authors k' l v
stands_by o n h authors k k' l v x same taken not =
    watches o n h authors k k' l v v [] x (nothing_more v v refl refl refl) x.front refl refl same
    (done_by_none o k k' v not x.done)
    (λ d e. let was : Holds o n h authors k v d = x.held d e in record {
      within = was.within;
      content = subst (λ es. IsContent o n h es d.stripe d.part d.outbox d.last) (sym taken) was.content;
      looked = was.looked;
    })
