-- How each step of a change and of a read leads from one standing to the next.
use Rattle.std.proofs.Common.{◌≡◌, ℕ, ◌+◌, ◌<◌, ◌≤◌, max, Bool, true, false, List, [], ◌∷◌, ◌++◌, Some, None, length, length-append, lt-ltb, refl, sym, ap, ◌∙◌, subst, arith, inl, inr}
use Rattle.java_hash.specs.Stripes.{stripe_of}
use Rattle.map_types.specs.declared.commands.Command.{Command}
use Rattle.map_types.specs.declared.commands.Read as read_type
use Rattle.map_types.specs.declared.refusals.Refusal.{Refusal}
use Rattle.map_types.specs.declared.refusals.Refusal.TheVariants as refusal
use Rattle.map_model.specs.Steps.{step, answer}
use Rattle.map_model.specs.Histories.{IsLegalChange, IsLegalRead}
use Rattle.ticket_order.specs.declared.stripe.Entry.{Entry}
use Rattle.ticket_order.specs.declared.stripe.Stripe.{Stripe}
use Rattle.ticket_order.specs.declared.held.Held.{Held}
use Rattle.ticket_order.specs.declared.walk.Taken.{Taken}
use Rattle.ticket_order.specs.declared.record.Asked.TheVariants.{Changing, Reading}
use Rattle.ticket_order.specs.declared.record.Purpose.TheVariants.{Nothing, Answer}
use Rattle.ticket_order.specs.declared.record.Record.{Record}
use Rattle.ticket_order.specs.Records.{IsWithin, ticket_limit, entry, call, past, reach, taking, living, looking, drawing, giving, answering, part_held, last_held}
use Rattle.ticket_order.specs.Legality.{history_of}
use Rattle.ticket_order.specs.StepRules.{Rises, IsLast, EndsAt, TakesStripe, Looks, Draws, Answers, Lives, MayDraw, MayGive}
use Rattle.ticket_order.specs.Calls.{walked, HasFound, FindsFailure, FindsNoFailure, FindsAlive, LooksAround, GivesBack, MakesCall, MakesRead, ReadsAt}
use Rattle.ticket_order.specs.Walks.{Task, ToChange, ToRead, Refuses, HasContent, TookContent, TookAlive, TookLooked, OfTask, HasChanged, HasMade, HasAnswer, IsRefusing}
use Rattle.ticket_order.proofs.Apart.{not_full_by_memory, not_full_by_failure, not_full_by_tickets}

-- what is held may be given back
pub may_give_back : (n : ℕ) (p : Record) (t : Taken) → HasContent p t → MayGive n p t.stripe t.content Nothing
may_give_back n p t h = record { held = h.held; holding = h.holding; stripe_is = h.stripe_is; part_is = h.part_is; outbox_is = h.outbox_is; last_is = h.last_is; suits = tt }

pub found_content : (b p : Record) (t : Taken) → HasFound b t.stripe t.content p → TookContent b t p
found_content b p t f = record { taken = f.between; is = f.is }

pub taken_content : (n : ℕ) (b p : Record) (t : Taken) → TakesStripe n b t.stripe t.content p → TookContent b t p
taken_content n b p t k = record { taken = k.between; is = k.is }

-- since b: TAKE, and ALIVE that said this
lived : (b p w : Record) (t : Taken) (x : Bool) (k : TookContent b t p) → Lives p x w → w ≡ living (taking b t.stripe t.content.part.map t.content.outbox.items t.content.last k.taken) x
lived b p w t x k l = l.is ∙ ap (λ (y : Record). living y x) k.is

pub took_alive : (b p w : Record) (t : Taken) → TookContent b t p → Lives p true w → TookAlive b t w
took_alive b p w t k l = record { taken = k.taken; is = lived b p w t true k l }

pub content_lived : (b p w : Record) (t : Taken) (x : Bool) → TookContent b t p → Lives p x w → HasContent w t
content_lived b p w t x k l = record {
  held = record { stripe = t.stripe; part = t.content.part.map; outbox = t.content.outbox.items; last = t.content.last; has_drawn = false; looked = None };
  holding = ap (λ (y : Record). y.holding) (lived b p w t x k l);
  stripe_is = refl;
  part_is = refl;
  outbox_is = refl;
  last_is = refl;
}

-- the stripe is given back after an ALIVE that said this
pub given_back_alive : (b p w u : Record) (t : Taken) (j : ℕ) (x : Bool) → TookContent b t p → Lives p x w → u ≡ giving Nothing w → t.stripe ≡ j → GivesBack b (FindsAlive b j x) u
given_back_alive b p w u t j x k l given e =
    let is = lived b p w t x k l in
    subst (λ z. GivesBack b (FindsAlive b z x) u) e (record {
      holder = w;
      before = record { part = t.content.part.map; outbox = t.content.outbox.items; last = t.content.last; taken = k.taken; is = is };
      is = given;
      same_calls = ap (λ (y : Record). y.calls) given ∙ ap (λ (y : Record). y.calls) is;
    })

failed : (b p w : Record) (t : Taken) (j : ℕ) → TookContent b t p → Rises b (past t.content.outbox.items) p → Lives p false w → t.stripe ≡ j → GivesBack b (FindsFailure b j) (giving Nothing w)
failed b p w t j k r l e =
    let is = lived b p w t false k l in
    subst (λ z. GivesBack b (FindsFailure b z) (giving Nothing w)) e (record {
      holder = w;
      before = record { part = t.content.part.map; outbox = t.content.outbox.items; last = t.content.last; taken = k.taken; rises = subst (Rises b (past t.content.outbox.items)) k.is r; is = is };
      is = refl;
      same_calls = ap (λ (y : Record). y.calls) is;
    })

unfailed : (b p w : Record) (t : Taken) (j : ℕ) → TookContent b t p → Rises b (past t.content.outbox.items) p → Lives p true w → t.stripe ≡ j → GivesBack b (FindsNoFailure b j) (giving Nothing w)
unfailed b p w t j k r l e =
    let is = lived b p w t true k l in
    subst (λ z. GivesBack b (FindsNoFailure b z) (giving Nothing w)) e (record {
      holder = w;
      before = record { part = t.content.part.map; outbox = t.content.outbox.items; last = t.content.last; taken = k.taken; rises = subst (Rises b (past t.content.outbox.items)) k.is r; is = is };
      is = refl;
      same_calls = ap (λ (y : Record). y.calls) is;
    })

pub content_looked : (b p : Record) (t u : Taken) → TookLooked b t p → u.stripe ≡ t.stripe → u.content.part.map ≡ t.content.part.map → u.content.outbox.items ≡ t.content.outbox.items → u.content.last ≡ t.content.last → HasContent p u
content_looked b p t u k stripe part outbox last = record {
  held = record { stripe = t.stripe; part = t.content.part.map; outbox = t.content.outbox.items; last = t.content.last; has_drawn = false; looked = Some (b.opening.first + length ((b.seen ++ k.taken) ++ k.looked)) };
  holding = ap (λ (z : Record). z.holding) k.is;
  stripe_is = sym stripe;
  part_is = part;
  outbox_is = outbox;
  last_is = last;
}

pub took_looked : (b p w : Record) (q : ℕ) (t : Taken) → TookAlive b t p → Looks p q w → TookLooked b t w
took_looked b p w q t k l = record { taken = k.taken; looked = l.between; is = l.is ∙ ap (λ (y : Record). looking y l.between) k.is }

-- what was taken stays, in another shape
pub same_looked : (b w : Record) (t u : Taken) → TookLooked b t w → u.stripe ≡ t.stripe → u.content.part.map ≡ t.content.part.map → u.content.outbox.items ≡ t.content.outbox.items → u.content.last ≡ t.content.last → TookLooked b u w
same_looked b w t u k stripe part outbox last = record {
  taken = k.taken;
  looked = k.looked;
  is = k.is ∙ sym (λ i. walked b (stripe i) (part i) (outbox i) (last i) k.taken k.looked);
}

looked_around : (b w : Record) (t : Taken) (j : ℕ) → TookLooked b t w → t.stripe ≡ j → GivesBack b (LooksAround b j) (giving Nothing w)
looked_around b w t j k e =
    subst (λ z. GivesBack b (LooksAround b z) (giving Nothing w)) e (record {
      holder = w;
      before = record { part = t.content.part.map; outbox = t.content.outbox.items; last = t.content.last; taken = k.taken; looked = k.looked; is = k.is };
      is = refl;
      same_calls = ap (λ (y : Record). y.calls) k.is;
    })

pub change_failed : (n : ℕ) (b p w : Record) (task : Task) (c : Command) (t : Taken) → OfTask n task (ToChange c) t.stripe (stripe_of n c.key) → TookContent b t p → Rises b (past t.content.outbox.items) p → Lives p false w → IsRefusing n b task t refusal.Failed w
change_failed n b p w task c t o k rises l = record {
  content = content_lived b p w t false k l;
  refused = subst (λ z. Refuses n b z refusal.Failed (giving Nothing w)) (sym o.task_is) (failed b p w t _ k rises l o.stripe_is);
  too_many = λ full. absurd (not_full_by_failure full);
}

pub change_spent : (n : ℕ) (b p w : Record) (task : Task) (c : Command) (q : ℕ) (t : Taken) → OfTask n task (ToChange c) t.stripe (stripe_of n c.key) → TookAlive b t p → Looks p q w → ticket_limit ≤ q → IsRefusing n b task t refusal.TicketsSpent w
change_spent n b p w task c q t o k l big =
    let k' : TookLooked b t w = took_looked b p w q t k l in
    let far : ticket_limit ≤ reach w = subst (λ z. ticket_limit ≤ z) l.count_is big in
    record {
      content = content_looked b w t t k' refl refl refl refl;
      refused = subst (λ z. Refuses n b z refusal.TicketsSpent (giving Nothing w)) (sym o.task_is) (looked_around b w t _ k' o.stripe_is, far);
      too_many = λ full. absurd (not_full_by_tickets full);
    }

pub change_starved : (n : ℕ) (b p w : Record) (task : Task) (c : Command) (q : ℕ) (t u : Taken) (e : Refusal) → OfTask n task (ToChange c) t.stripe (stripe_of n c.key) → TookAlive b t p → Looks p q w → q < ticket_limit
    → u.stripe ≡ t.stripe → u.content.part.map ≡ t.content.part.map → u.content.outbox.items ≡ t.content.outbox.items → u.content.last ≡ t.content.last → e ≡ refusal.NoMemory → IsRefusing n b task u e w
change_starved n b p w task c q t u e o k l small stripe part outbox last starved =
    let k' : TookLooked b t w = took_looked b p w q t k l in
    let near : reach w < ticket_limit = subst (λ z. z < ticket_limit) l.count_is small in
    record {
      content = content_looked b w t u k' stripe part outbox last;
      refused = subst (λ z. Refuses n b task z (giving Nothing w)) (sym starved) (subst (λ z. Refuses n b z refusal.NoMemory (giving Nothing w)) (sym o.task_is) (looked_around b w t _ k' o.stripe_is, near));
      too_many = λ full. absurd (not_full_by_memory (sym starved ∙ full));
    }

-- a TAKE leaves the limit as it is
pub within_since : (b p : Record) (c : Command) (i : ℕ) (content : Stripe) → HasFound b i content p → IsWithin p.opening.key_limit c → IsWithin b.opening.key_limit c
within_since b p c i content f within = subst (λ (r : Record). IsWithin r.opening.key_limit c) f.is within

pub may_draw : (n : ℕ) (b p : Record) (c : Command) (t : Taken) → t.stripe ≡ stripe_of n c.key → TookLooked b t p → reach p < ticket_limit → IsWithin b.opening.key_limit c → MayDraw n p c
may_draw n b p c t key k small within =
    let q : ℕ = b.opening.first + length ((b.seen ++ k.taken) ++ k.looked) in
    let below : q < ticket_limit = subst (λ z. z < ticket_limit) (ap reach k.is) small in
    record {
      within = subst (λ (r : Record). IsWithin r.opening.key_limit c) (sym k.is) within;
      held = record { stripe = t.stripe; part = t.content.part.map; outbox = t.content.outbox.items; last = t.content.last; has_drawn = false; looked = Some q };
      holding = ap (λ (y : Record). y.holding) k.is;
      stripe_is = sym key;
      undrawn = refl;
      fresh = ap (λ (y : Record). y.fresh) k.is ∙ lt-ltb q ticket_limit below;
    }

-- the ticket was drawn, and the history has the change
all_drawn : (b p w : Record) (c : Command) (ticket : ℕ) (t : Taken) (k : TookLooked b t p) (d : Draws p c ticket w) → w ≡ drawing (walked b t.stripe t.content.part.map t.content.outbox.items t.content.last k.taken k.looked) d.between c
all_drawn b p w c ticket t k d = d.is ∙ ap (λ (z : Record). drawing z d.between c) k.is

number_drawn : (b p w : Record) (c : Command) (ticket : ℕ) (t : Taken) (k : TookLooked b t p) (d : Draws p c ticket w) → ticket ≡ b.opening.first + length (((b.seen ++ k.taken) ++ k.looked) ++ d.between)
number_drawn b p w c ticket t k d = d.ticket_is ∙ ap (λ (z : Record). z.opening.first + length (z.seen ++ d.between)) k.is

pub content_drawn : (b p w : Record) (c : Command) (ticket : ℕ) (t u : Taken) (h : Held) → TookLooked b t p → Draws p c ticket w → HasChanged c t ticket u h → HasContent w u
content_drawn b p w c ticket t u h k d m =
    let number : ℕ = b.opening.first + length (((b.seen ++ k.taken) ++ k.looked) ++ d.between) in
    record {
      held = record { stripe = t.stripe; part = (step t.content.part.map c).map; outbox = t.content.outbox.items ++ entry number c ∷ []; last = number + 1; has_drawn = true; looked = None };
      holding = ap (λ (z : Record). z.holding) (all_drawn b p w c ticket t k d);
      stripe_is = sym m.stripe;
      part_is = m.part;
      outbox_is = m.outbox ∙ ap (λ z. t.content.outbox.items ++ entry z c ∷ []) (number_drawn b p w c ticket t k d);
      last_is = m.last ∙ ap (λ z. z + 1) (number_drawn b p w c ticket t k d);
    }

pub made_change : (n : ℕ) (b p w : Record) (c : Command) (ticket : ℕ) (t u : Taken) (h : Held) → t.stripe ≡ stripe_of n c.key → TookLooked b t p → reach p < ticket_limit → Draws p c ticket w
    → HasChanged c t ticket u h → IsWithin b.opening.key_limit c → MakesCall n b c h.position h.reply (giving Nothing w)
made_change n b p w c ticket t u h key k small d m within =
    let before : List Command = ((b.seen ++ k.taken) ++ k.looked) ++ d.between in
    let number : ℕ = b.opening.first + length before in
    let all = all_drawn b p w c ticket t k d in
    let own : (step (part_held p.holding) c).reply ≡ h.reply = ap (λ (z : Record). (step (part_held z.holding) c).reply) k.is ∙ sym m.reply in
    let rose : reach w ≡ b.opening.first + length (before ++ c ∷ []) = ap reach all in
    let at : h.position ≡ number + 1 = m.position ∙ ap (λ z. z + 1) (number_drawn b p w c ticket t k d) in
    record {
      part = t.content.part.map;
      outbox = t.content.outbox.items;
      last = t.content.last;
      taken = k.taken;
      looked = k.looked;
      drawn = d.between;
      within = within;
      below = subst (λ z. z < ticket_limit) (ap reach k.is) small;
      is = ap (giving Nothing) (all ∙ ap (λ j. drawing (walked b j t.content.part.map t.content.outbox.items t.content.last k.taken k.looked) d.between c) key);
      position_is = omega (arith, length-append before (c ∷ []));
      grew = ap (λ (z : Record). z.calls) all ∙ (λ k. b.calls ++ call (sym at k) (Changing c) (sym m.reply k) ∷ []);
      later = omega (arith, length-append (b.seen ++ k.taken ++ k.looked) d.between, length-append (b.seen ++ k.taken) k.looked, length-append b.seen k.taken);
      legal = subst (λ z. IsLegalChange (history_of w) z c h.reply) (sym m.position) (subst (λ r. IsLegalChange (history_of w) (ticket + 1) c r) own d.legal);
    }

pub drawn : (n : ℕ) (b p w : Record) (task : Task) (c : Command) (ticket : ℕ) (t u : Taken) (h : Held) → OfTask n task (ToChange c) t.stripe (stripe_of n c.key) → TookLooked b t p → reach p < ticket_limit → Draws p c ticket w
    → HasChanged c t ticket u h → IsWithin b.opening.key_limit c → HasMade n b task u h w
drawn n b p w task c ticket t u h o k small d m within = record {
  command = c;
  task_is = o.task_is;
  content = content_drawn b p w c ticket t u h k d m;
  made = made_change n b p w c ticket t u h o.stripe_is k small d m within;
}

pub read_failed : (n : ℕ) (b p w : Record) (task : Task) (r : read_type.Read) (t : Taken) → OfTask n task (ToRead r) t.stripe (stripe_of n r.key) → TookContent b t p → Rises b (past t.content.outbox.items) p → Lives p false w → IsRefusing n b task t refusal.Failed w
read_failed n b p w task r t o k rises l = record {
  content = content_lived b p w t false k l;
  refused = subst (λ z. Refuses n b z refusal.Failed (giving Nothing w)) (sym o.task_is) (failed b p w t _ k rises l o.stripe_is);
  too_many = λ full. absurd (not_full_by_failure full);
}

pub read_starved : (n : ℕ) (b p w : Record) (task : Task) (r : read_type.Read) (t : Taken) (e : Refusal) → OfTask n task (ToRead r) t.stripe (stripe_of n r.key) → TookContent b t p → Rises b (past t.content.outbox.items) p → Lives p true w
    → e ≡ refusal.NoMemory → IsRefusing n b task t e w
read_starved n b p w task r t e o k rises l starved = record {
  content = content_lived b p w t true k l;
  refused = subst (λ z. Refuses n b task z (giving Nothing w)) (sym starved) (subst (λ z. Refuses n b z refusal.NoMemory (giving Nothing w)) (sym o.task_is) (unfailed b p w t _ k rises l o.stripe_is));
  too_many = λ full. absurd (not_full_by_memory (sym starved ∙ full));
}

pub may_answer : (n : ℕ) (b p : Record) (r : read_type.Read) (t : Taken) → t.stripe ≡ stripe_of n r.key → TookAlive b t p → MayGive n p t.stripe t.content (Answer r)
may_answer n b p r t key k = record {
  held = record { stripe = t.stripe; part = t.content.part.map; outbox = t.content.outbox.items; last = t.content.last; has_drawn = false; looked = None };
  holding = ap (λ (y : Record). y.holding) k.is;
  stripe_is = refl;
  part_is = refl;
  outbox_is = refl;
  last_is = refl;
  suits = sym key;
}

pub answered_alive : (n : ℕ) (b p : Record) (r : read_type.Read) (t : Taken) (h : Held) → HasAnswer n b r t h p → TookAlive b t p
answered_alive n b p r t h a = record { taken = a.took.between; is = a.is ∙ ap (λ (y : Record). living y true) a.took.is }

-- the greater of both numbers is reached
risen : (v w : Record) (x : ℕ) → Rises v x w → reach w ≡ max (reach v) x
risen v w x r = elim r [ inl stays ↦ omega (arith, stays.0, stays.1) | inr rises ↦ omega (arith, rises.0, rises.1) ]

-- the outbox shows no ticket past the last one of its stripe
seen_or_last : (v w : Record) (es : List Entry) (last : ℕ) → Rises v (past es) w → EndsAt es last → max (reach w) last ≡ max (reach v) last
seen_or_last v w es last r ends = elim ends [
  | inl none ↦ omega (arith, risen v w (past es) r, ap past none)
  | inr same ↦ omega (arith, risen v w (past es) r, same)
]

-- the GIVE of a read makes it, at the greater of what the pass has seen and of one past the last ticket of the stripe
pub read_at : (n : ℕ) (b p w : Record) (r : read_type.Read) (t : Taken) (h : Held) → t.stripe ≡ stripe_of n r.key → TookAlive b t p → h.position ≡ max (reach p) t.content.last → h.reply ≡ answer t.content.part.map r
    → Answers r p w → ReadsAt n b r h.position h.reply w
read_at n b p w r t h at k position_is reply_is g =
    let last : ℕ = t.content.last in
    let own : last_held p.holding ≡ last = ap (λ (y : Record). last_held y.holding) k.is in
    let reply : answer (part_held p.holding) r ≡ h.reply = ap (λ (y : Record). answer (part_held y.holding) r) k.is ∙ sym reply_is in
    let reached : h.position ≡ reach w = position_is ∙ sym (risen p w last (subst (λ x. Rises p x w) own g.rises)) in
    let number : h.position ≡ p.opening.first + length (p.seen ++ g.between) = reached ∙ ap reach g.is in
    let before : reach p ≡ b.opening.first + length (b.seen ++ k.taken) = ap reach k.is in
    let same : p.calls ≡ b.calls = ap (λ (y : Record). y.calls) k.is in
    record {
      part = t.content.part.map;
      outbox = t.content.outbox.items;
      last = last;
      taken = k.taken;
      between = g.between;
      is = g.is ∙ (ap (λ (y : Record). answering r y g.between) k.is ∙ ap (λ j. answering r (living (taking b j t.content.part.map t.content.outbox.items last k.taken) true) g.between) at);
      reached = reached;
      grew = ap (λ (z : Record). z.calls) g.is ∙ (λ i. same i ++ call (sym number i) (Reading r) (reply i) ∷ []);
      later = omega (arith, position_is, before, length-append b.seen k.taken);
      legal = subst (λ q. IsLegalRead (history_of w) q r h.reply) (sym reached) (subst (λ y. IsLegalRead (history_of w) (reach w) r y) reply g.legal);
    }

pub made_read : (n : ℕ) (b p w : Record) (task : Task) (r : read_type.Read) (t : Taken) (h : Held) → OfTask n task (ToRead r) t.stripe (stripe_of n r.key) → HasAnswer n b r t h p → Answers r p w
    → MakesRead n b r h.position h.reply w
unfolding answered_alive read_at
made_read n b p w task r t h o a g =
    let k : TookAlive b t p = answered_alive n b p r t h a in
    let last : ℕ = t.content.last in
    let made : ReadsAt n b r h.position h.reply w = read_at n b p w r t h o.stripe_is k a.position_is a.reply_is g in
    let position : h.position ≡ max (reach b) last = a.position_is ∙ (ap (λ (y : Record). max (reach y) last) a.is ∙ seen_or_last b a.found t.content.outbox.items last a.took.rises a.took.ends) in
    record {
      part = t.content.part.map;
      outbox = t.content.outbox.items;
      last = last;
      taken = k.taken;
      between = g.between;
      is = made.is;
      last_is = subst (λ j. IsLast n j last (taking b j t.content.part.map t.content.outbox.items last k.taken)) o.stripe_is (subst (λ (y : Record). IsLast n t.stripe last y) a.took.is a.took.last);
      position_is = position;
      reached = made.reached;
      grew = made.grew;
      later = omega (arith, position);
      legal = made.legal;
    }
