-- How each step of a sweep and of a capture leads from one standing to the next.
use Rattle.std.proofs.Common.{◌≡◌, ℕ, ◌+◌, ◌-◌, ◌^◌, ◌<◌, ◌≤◌, min, arith, false, List, [], ◌∷◌, ◌++◌, Some, None, length, refl, sym, ap, ◌∙◌, subst}
use Rattle.std.specs.FinMap as finite
use Rattle.atomic_methods.specs.PartState.{PartState}
use Rattle.map_types.specs.declared.commands.Command.{Command}
use Rattle.map_types.specs.declared.refusals.Refusal.{Refusal}
use Rattle.map_types.specs.declared.refusals.Refusal.TheVariants as refusal
use Rattle.map_model.specs.Maps.{Map}
use Rattle.ticket_order.specs.declared.stripe.Entry.{Entry}
use Rattle.ticket_order.specs.declared.stripe.Stripe.{Stripe}
use Rattle.ticket_order.specs.declared.walk.Taken.{Taken}
use Rattle.ticket_order.specs.declared.capture_walk.Captured.{Captured}
use Rattle.ticket_order.specs.declared.record.Purpose.TheVariants.{Nothing, Sweep, Capture}
use Rattle.ticket_order.specs.declared.record.Section.{Section}
use Rattle.ticket_order.specs.declared.record.Record.{Record}
use Rattle.ticket_order.specs.Records.{past, reach, taking, looking, giving, sections_for}
use Rattle.ticket_order.specs.Legality.{history_of, IsLegalSection}
use Rattle.ticket_order.specs.StepRules.{Collects, Looks, Gives, MayGive, AllLegalSections, Rises}
use Rattle.ticket_order.specs.Calls.{CapturesStripe, HasLookedAt, HasTooMany, SweepsStripe}
use Rattle.ticket_order.specs.Walks.{Task, ToCapture, Refuses, HasContent, TookContent, HasSwept, HasMarked, IsRefusing, entries_captured}
use Rattle.ticket_order.proofs.Apart.{not_full_by_memory}

pub may_sweep : (n : ℕ) (b p : Record) (task : Task) (t : Taken) (x : Stripe) → HasSwept n b task t p → x.part.map ≡ t.content.part.map → x.outbox.items ≡ [] → x.last ≡ t.content.last → MayGive n p t.stripe x Sweep
may_sweep n b p task t x k part outbox last = record {
  held = record { stripe = t.stripe; part = t.content.part.map; outbox = t.content.outbox.items; last = t.content.last; has_drawn = false; looked = None };
  holding = ap (λ (z : Record). z.holding) k.took.is;
  stripe_is = refl;
  part_is = part;
  outbox_is = outbox;
  last_is = last;
  suits = (ap (λ (z : Record). z.keeper) k.took.is ∙ k.keeper, refl);
}

pub swept : (n : ℕ) (b p w : Record) (task : Task) (t : Taken) (es : List Entry) → HasSwept n b task t p → Gives n Sweep p w → es ≡ t.content.outbox.items → SweepsStripe n b t.stripe es w
swept n b p w task t es k g same =
    let kept : Collects n t.stripe b t.content.outbox.items p = k.took.collects k.keeper in
    subst (λ xs. SweepsStripe n b t.stripe xs w) (sym same) (record {
      part = t.content.part.map;
      last = t.content.last;
      between = k.took.between;
      is = g.is ∙ ap (giving Sweep) k.took.is;
      rises = subst (λ (z : Record). Rises b (past t.content.outbox.items) z) (sym g.is) k.took.rises;
      collects = subst (λ (z : Record). Collects n t.stripe b t.content.outbox.items z) (sym g.is) (record { more = kept.more; is = kept.is; within = kept.within });
    })

-- which stripe a capture is of
abbrev captured_stripe_of : Task → ℕ
captured_stripe_of (ToCapture i) = i
captured_stripe_of task = 0

pub swept_back : (n : ℕ) (b p : Record) (task : Task) (t : Taken) → HasSwept n b task t p → IsRefusing n b task t refusal.NoMemory p
swept_back n b p task t k = record {
  content = record {
    held = record { stripe = t.stripe; part = t.content.part.map; outbox = t.content.outbox.items; last = t.content.last; has_drawn = false; looked = None };
    holding = ap (λ (z : Record). z.holding) k.took.is;
    stripe_is = refl;
    part_is = refl;
    outbox_is = refl;
    last_is = refl;
  };
  refused = subst (λ z. Refuses n b z refusal.NoMemory (giving Nothing p)) (sym k.task_is) (record {
    holder = p;
    before = record { part = t.content.part.map; outbox = t.content.outbox.items; last = t.content.last; taken = k.took.between; rises = subst (Rises b (past t.content.outbox.items)) k.took.is k.took.rises; is = k.took.is };
    is = refl;
    same_calls = ap (λ (z : Record). z.calls) k.took.is;
  });
  too_many = λ full. absurd (not_full_by_memory full);
}

-- since b: TAKE of this stripe, which had this content, and LOOK
pub record Viewed (b : Record) (t : Taken) (p : Record) : Type 0 where
  pub taken : List Command
  pub looked : List Command
  pub is : p ≡ looking (taking b t.stripe t.content.part.map t.content.outbox.items t.content.last taken) looked

pub viewed : (b p w : Record) (q : ℕ) (t : Taken) → TookContent b t p → Looks p q w → Viewed b t w
viewed b p w q t k l = record { taken = k.taken; looked = l.between; is = l.is ∙ ap (λ (z : Record). looking z l.between) k.is }

content_viewed : (b p : Record) (t : Taken) → Viewed b t p → HasContent p t
content_viewed b p t k = record {
  held = record { stripe = t.stripe; part = t.content.part.map; outbox = t.content.outbox.items; last = t.content.last; has_drawn = false; looked = Some (b.opening.first + length ((b.seen ++ k.taken) ++ k.looked)) };
  holding = ap (λ (z : Record). z.holding) k.is;
  stripe_is = refl;
  part_is = refl;
  outbox_is = refl;
  last_is = refl;
}

looked_at : (b p : Record) (t : Taken) → Viewed b t p → HasLookedAt b t.stripe p
looked_at b p t k = record { part = t.content.part.map; outbox = t.content.outbox.items; last = t.content.last; taken = k.taken; looked = k.looked; is = k.is }

same_calls : (b p : Record) (t : Taken) → Viewed b t p → (giving Nothing p).calls ≡ b.calls
same_calls b p t k = ap (λ (z : Record). z.calls) k.is

pub capture_starved : (n : ℕ) (b p : Record) (task : Task) (t : Taken) (e : Refusal) → task ≡ ToCapture t.stripe → Viewed b t p → e ≡ refusal.NoMemory → IsRefusing n b task t e p
capture_starved n b p task t e j k starved = record {
  content = content_viewed b p t k;
  refused = subst (λ z. Refuses n b task z (giving Nothing p)) (sym starved) (subst (λ z. Refuses n b z refusal.NoMemory (giving Nothing p)) (sym j) (record { holder = p; before = looked_at b p t k; is = refl; same_calls = same_calls b p t k }));
  too_many = λ full. absurd (not_full_by_memory (sym starved ∙ full));
}

pub capture_full : (n : ℕ) (b p : Record) (task : Task) (t : Taken) → task ≡ ToCapture t.stripe → Viewed b t p → 2 ^ 32 ≤ length (finite.entries t.content.part.map) → IsRefusing n b task t refusal.LogFull p
unfolding looked_at
capture_full n b p task t j k many = record {
  content = content_viewed b p t k;
  refused = subst (λ z. Refuses n b z refusal.LogFull (giving Nothing p)) (sym j) (record { holder = p; before = record { at = looked_at b p t k; many = many }; is = refl; same_calls = same_calls b p t k });
  too_many = λ full i is. subst (λ z. HasTooMany b z p) (ap captured_stripe_of (sym j ∙ is)) (record { at = looked_at b p t k; many = many });
}

-- how many entries a part has, told by its number
pub few_entries : (m : Map) (n : ℕ) → n ≡ min (finite.len m) (2 ^ 64 - 1) → n ≤ 2 ^ 32 - 1 → length (finite.entries m) < 2 ^ 32
few_entries m n is few = (let same = finite.len-entries m in omega (arith, same, is, few))

pub many_entries : (m : Map) (n : ℕ) → n ≡ min (finite.len m) (2 ^ 64 - 1) → 2 ^ 32 - 1 < n → 2 ^ 32 ≤ length (finite.entries m)
many_entries m n is many = (let same = finite.len-entries m in omega (arith, same, is, many))

pub may_capture : (n : ℕ) (b p : Record) (t : Taken) (z : Captured) → HasMarked b t z p → MayGive n p t.stripe t.content Capture
may_capture n b p t z k =
    let q : ℕ = b.opening.first + length ((b.seen ++ k.taken) ++ k.looked) in
    record {
      held = record { stripe = t.stripe; part = t.content.part.map; outbox = t.content.outbox.items; last = t.content.last; has_drawn = false; looked = Some q };
      holding = ap (λ (y : Record). y.holding) k.is;
      stripe_is = refl;
      part_is = refl;
      outbox_is = refl;
      last_is = refl;
      suits = (q, refl);
    }

unfoldable pub section_at : ℕ → ℕ → Map → Section
section_at i q m = record { stripe = i; mark = q; part = m }

pub captured_stripe : (n : ℕ) (b p w : Record) (t : Taken) (z : Captured) → HasMarked b t z p → Gives n Capture p w → CapturesStripe n b t.stripe z.mark (entries_captured z) w
unfolding section_at
captured_stripe n b p w t z k g =
    let number : ℕ = b.opening.first + length ((b.seen ++ k.taken) ++ k.looked) in
    let mark : z.mark ≡ number = k.mark_is ∙ ap reach k.is in
    let kept : AllLegalSections n p (section_at t.stripe number t.content.part.map ∷ []) = subst (λ held. AllLegalSections n p (sections_for Capture held)) (ap (λ (y : Record). y.holding) k.is) g.sections in
    let there : IsLegalSection n (history_of p) (section_at t.stripe z.mark t.content.part.map) = subst (λ q. IsLegalSection n (history_of p) (section_at t.stripe q t.content.part.map)) (sym mark) kept.0 in
    record {
      part = t.content.part.map;
      outbox = t.content.outbox.items;
      last = t.content.last;
      taken = k.taken;
      looked = k.looked;
      is = g.is ∙ ap (giving Capture) k.is;
      mark_is = k.mark_is ∙ sym (ap reach g.is);
      entries_are = ap (λ (part : PartState). finite.entries part.map) k.part_is;
      few = k.few;
      legal = subst (λ (y : Record). IsLegalSection n (history_of y) (section_at t.stripe z.mark t.content.part.map)) (sym g.is) there;
    }
