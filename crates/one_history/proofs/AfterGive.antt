-- The record of a pass after its GIVE.
use Rattle.std.proofs.Common.{ℕ, ◌≡◌, ◌⊎◌, inl, inr, ◌+◌, ◌≤◌, ◌++◌, List, [], ◌∷◌, Option, Some, None, length, refl, arith, sym, ap, subst, append-nil, length-append}
use Rattle.std.specs.List.{All}
use Rattle.std.proofs.lemmas.Bool.{eq-eqb}
use Rattle.std.proofs.lemmas.List.Elements.{All-push}
use Rattle.java_hash.specs.Stripes.{stripe_of}
use Rattle.map_types.specs.declared.commands.Command.{Command}
use Rattle.map_types.specs.declared.commands.Read.{Read}
use Rattle.map_model.specs.Steps.{answer}
use Rattle.map_model.specs.Histories.{IsLegalRead}
use Rattle.ticket_order.specs.declared.record.Asked.TheVariants.{Reading}
use Rattle.ticket_order.specs.declared.record.Call.{Call}
use Rattle.ticket_order.specs.declared.record.Opening.{Opening}
use Rattle.ticket_order.specs.declared.record.Purpose.{Purpose}
use Rattle.ticket_order.specs.declared.record.Purpose.TheVariants.{Nothing, Answer, Sweep, Capture}
use Rattle.ticket_order.specs.declared.record.StepMade.TheVariants as made
use Rattle.ticket_order.specs.declared.record.Holding.{Holding}
use Rattle.ticket_order.specs.declared.record.Record.{Record}
use Rattle.ticket_order.specs.Records.{reach, call, stripe_held, part_held, last_held, giving, answering, sections_for, captured, swept_by}
use Rattle.ticket_order.specs.Legality.{history_from, history_of, IsLegalSection, IsContent}
use Rattle.ticket_order.specs.StepRules.{Suits, Gives, AllLegalCalls, AllLegalSections}
use Rattle.ticket_order.proofs.Longer.{sections_longer, sections_both}
use Rattle.one_history.specs.declared.book.KeeperEffects.{KeeperEffects}
use Rattle.one_history.specs.Turns.{unseen_to, given}
use Rattle.one_history.specs.OneHistory.{IsFront, IsUpTo, Holds, Knows, AreInOrder, changes_in}
use Rattle.one_history.specs.Moves.{SeesNoMore, SeesRead}
use Rattle.one_history.proofs.Fronts.{SeesTo, sees_to}
use Rattle.one_history.proofs.Legal.{calls_longer, calls_both, read_of_section}
use Rattle.one_history.proofs.Contents.{last_within, section_seen}
use Rattle.one_history.proofs.Orders.{order_push, push_read}
use Rattle.one_history.proofs.Knowing.{up_to_more}

-- a GIVE of the stripe leaves the record w, which agrees with the history as the record v before it did
pub record IsGiven (n : ℕ) (h : List Command) (p : Purpose) (v w : Record) : Type 0 where
  pub opening : w.opening ≡ v.opening
  pub front : IsFront w.seen h
  pub changes : changes_in w.calls ≡ changes_in v.calls
  pub calls : AllLegalCalls w w.calls
  pub order : AreInOrder w.calls
  pub seen : All (IsUpTo (reach w)) w.calls
  pub sections : AllLegalSections n w w.sections
  pub steps : w.steps ≡ v.steps ++ made.Gave (stripe_held v.holding) ∷ []
  pub taken : w.taken ≡ v.taken ++ swept_by p v.holding
  pub holding : w.holding ≡ None
  pub keeper : w.keeper ≡ v.keeper
  pub published : w.published ≡ v.published
  pub failed : w.failed ≡ v.failed
  pub fresh : w.fresh ≡ v.fresh
  pub gives : Gives n p v w
  pub raises : SeesNoMore v w ⊎ SeesRead v (last_held v.holding) w

module _ (o : Opening) (n : ℕ) (h : List Command) (authors : List ℕ) (k : KeeperEffects) (j : ℕ) (v : Record) (here : Knows o n h authors k j v) (d : Holding) (is : v.holding ≡ Some d) where
  held : Holds o n h authors k v d
  held = here.held d is

  section_kept : (looked : Option ℕ) → ((q : ℕ) → looked ≡ Some q → IsLegalSection n (history_of v) (record { stripe = d.stripe; mark = q; part = d.part })) → AllLegalSections n v (captured d looked)
  section_kept None legal = tt
  section_kept (Some q) legal = (legal q refl, tt)

  sections_kept : (p : Purpose) → AllLegalSections n v (sections_for p (Some d))
  sections_kept Nothing = tt
  sections_kept (Answer r) = tt
  sections_kept Sweep = tt
  sections_kept Capture = section_kept d.looked held.looked

  kept : (p : Purpose) → AllLegalSections n v (sections_for p v.holding)
  kept p = subst (λ (x : Option Holding). AllLegalSections n v (sections_for p x)) (sym is) (sections_kept p)

  -- it makes no read
  unread : (p : Purpose) → Gives n p v (giving p v) → IsGiven n h p v (giving p v)
  unread p gives =
      let w : Record = giving p v in
      record {
        opening = refl;
        front = here.front;
        changes = refl;
        calls = calls_longer v w [] refl (sym (append-nil v.seen)) v.calls here.calls;
        order = here.order;
        seen = here.seen;
        sections = sections_longer n v w [] refl (sym (append-nil v.seen)) (v.sections ++ sections_for p v.holding) (sections_both n v v.sections (sections_for p v.holding) here.sections (kept p));
        steps = refl;
        taken = refl;
        holding = refl;
        keeper = refl;
        published = refl;
        failed = refl;
        fresh = refl;
        gives = gives;
        raises = inl (record { calls = refl; reach = refl });
      }

  -- it makes this read, of a key of the stripe
  module _ (r : Read) (own : stripe_of n r.key ≡ d.stripe) where
    abbrev between : List Command
    between = unseen_to (last_held v.holding) v h

    abbrev w : Record
    w = answering r v (unseen_to (last_held v.holding) v h)

    content : IsContent o n h k.taken d.stripe d.part d.outbox d.last
    content = held.content

    sees : SeesTo v.opening.first (last_held v.holding) v.seen between h
    sees = sees_to v.opening.first (last_held v.holding) v.seen h here.front (omega (arith, ap last_held is, ap (λ (x : Opening). x.first) here.opening, last_within o n h k.taken d.stripe d.part d.outbox d.last content))

    -- the pass has then seen each change of the stripe
    reached : d.last ≤ o.first + length w.seen
    reached =
        let last : last_held v.holding ≡ d.last = ap last_held is in
        let first : v.opening.first ≡ o.first = ap (λ (x : Opening). x.first) here.opening in
        elim sees.rises [ inl x ↦ omega (arith, x.0, x.1) | inr x ↦ omega (arith, x.0, x.1) ]

    section : IsLegalSection n (history_of w) (record { stripe = d.stripe; mark = reach w; part = d.part })
    section =
        subst (λ (x : Opening). IsLegalSection n (history_from x w.seen) (record { stripe = d.stripe; mark = x.first + length w.seen; part = d.part })) (sym here.opening)
        (section_seen o n h k.taken d.stripe d.part d.outbox d.last w.seen content sees.front reached)

    legal : IsLegalRead (history_of w) (reach w) r (answer (part_held v.holding) r)
    legal =
        subst (λ (x : Option Holding). IsLegalRead (history_of w) (reach w) r (answer (part_held x) r)) (sym is)
        (read_of_section n (history_of w) (record { stripe = d.stripe; mark = reach w; part = d.part }) r (eq-eqb _ _ own) section)

    answered : IsGiven n h (Answer r) v w
    answered =
        let new : Call = call (reach w) (Reading r) (answer (part_held v.holding) r) in
        let before : All (IsUpTo (reach w)) v.calls = up_to_more (reach v) (reach w) v.calls (omega (arith, length-append v.seen between)) here.seen in
        record {
          opening = refl;
          front = sees.front;
          changes = push_read v.calls (reach w) r (answer (part_held v.holding) r);
          calls = calls_both w v.calls (new ∷ []) (calls_longer v w between refl refl v.calls here.calls) (legal, tt);
          order = order_push v.calls new here.order before;
          seen = All-push (IsUpTo (reach w)) v.calls new before (omega arith);
          sections = sections_longer n v w between refl refl v.sections here.sections;
          steps = refl;
          taken = sym (append-nil v.taken);
          holding = refl;
          keeper = refl;
          published = refl;
          failed = refl;
          fresh = refl;
          gives = record { between = between; is = refl; rises = sees.rises; legal = legal };
          raises = inr (record { read = new; calls = refl; rises = sees.rises });
        }

  pub is_given : (p : Purpose) → Suits n v d p → IsGiven n h p v (given p v h)
  is_given Nothing suits = unread Nothing (record { is = refl; sections = kept Nothing })
  is_given (Answer r) suits = answered r suits
  is_given Sweep suits = unread Sweep (record { is = refl; sections = kept Sweep })
  is_given Capture suits = unread Capture (record { is = refl; sections = kept Capture })
