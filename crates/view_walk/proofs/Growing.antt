-- What each step of a walk over the parts adds to the record.
use Rattle.std.proofs.Common.{ℕ, ◌≡◌, ◌+◌, ◌≤◌, ◌<◌, ◌++◌, max, fold, List, [], ◌∷◌, length, Some, None, Bool, true, false, arith, refl, sym, ap, subst, ◌∙◌, length-append, append-nil, append_assoc}
use Rattle.map_types.specs.declared.commands.Command.{Command}
use Rattle.map_model.specs.Maps.{Map}
use Rattle.ticket_order.specs.declared.stripe.Entry.{Entry}
use Rattle.ticket_order.specs.declared.stripe.Stripe.{Stripe}
use Rattle.ticket_order.specs.declared.record.Opening.{Opening}
use Rattle.ticket_order.specs.declared.record.Purpose.TheVariants.{Nothing, Capture}
use Rattle.ticket_order.specs.declared.record.StepMade.{StepMade}
use Rattle.ticket_order.specs.declared.record.StepMade.TheVariants.{Took, FoundHeld, Gave, Looked, Saw, FoundAlive}
use Rattle.ticket_order.specs.declared.record.Section.{Section}
use Rattle.ticket_order.specs.declared.record.Holding.{Holding}
use Rattle.ticket_order.specs.declared.record.Record.{Record}
use Rattle.ticket_order.specs.Records.{reach, missing, taking, looking, giving, seeing, living, sections_for, stripe_held}
use Rattle.ticket_order.specs.StepRules.{AllLegalSections, TakesStripe, Looks, Gives, MayGive, Sees, Lives}
use Rattle.ticket_order.specs.Calls.{Misses, MissesAlive}
use Rattle.ticket_order.proofs.Taking.{section_at}
use Rattle.ticket_order.proofs.Longer.{sections_longer, sections_both}
use Rattle.view_walk.specs.Walking.{greatest_mark, AreInTurn, Rising, Gains, GainsAll, After, Holds, HoldsNext, IsDone, IsStarved, IsFailed}

-- one step, which adds nothing but itself and what is seen
record Goes (p w : Record) : Type 0 where
  made : StepMade
  between : List Command
  steps_are : w.steps ≡ p.steps ++ made ∷ []
  seen_is : w.seen ≡ p.seen ++ between
  opening : w.opening ≡ p.opening
  sections : w.sections ≡ p.sections
  calls : w.calls ≡ p.calls
  keeper : w.keeper ≡ p.keeper
  taken : w.taken ≡ p.taken
  published : w.published ≡ p.published
  failed : w.failed ≡ p.failed
  enrolled : w.enrolled ≡ p.enrolled
  passes : w.passes ≡ p.passes

-- ---- sections

rising_up : (low : ℕ) (xs : List Section) (high higher : ℕ) → high ≤ higher → Rising low xs high → Rising low xs higher
rising_up low [] high higher up r = omega arith
rising_up low (x ∷ xs) high higher up r = (r.0, rising_up x.mark xs high higher up r.1)

rising_more : (low : ℕ) (xs : List Section) (high higher : ℕ) (x : Section) → high ≤ x.mark → x.mark ≤ higher → Rising low xs high → Rising low (xs ++ x ∷ []) higher
rising_more low [] high higher x at up r = (omega arith, up)
rising_more low (y ∷ xs) high higher x at up r = (r.0, rising_more y.mark xs high higher x at up r.1)

in_turn_more : (i : ℕ) (xs : List Section) (x : Section) → x.stripe ≡ i + length xs → AreInTurn i xs → AreInTurn i (xs ++ x ∷ [])
in_turn_more i [] x at s = (omega arith, tt)
in_turn_more i (y ∷ xs) x at s = (s.0, in_turn_more (i + 1) xs x (omega arith) s.1)

greatest_from : (a : ℕ) (xs : List Section) (x : Section) → fold (λ (q : ℕ) (y : Section). max q y.mark) a (xs ++ x ∷ []) ≡ max (fold (λ (q : ℕ) (y : Section). max q y.mark) a xs) x.mark
greatest_from a [] x = refl
greatest_from a (y ∷ xs) x = greatest_from (max a y.mark) xs x

-- one more section
pub greatest_more : (xs : List Section) (x : Section) → greatest_mark (xs ++ x ∷ []) ≡ max (greatest_mark xs) x.mark
greatest_more xs x = greatest_from 0 xs x

pub longer : (xs : List Section) (x : Section) → length (xs ++ x ∷ []) ≡ length xs + 1
longer xs x = length-append xs (x ∷ [])

-- ---- steps that keep no section

reach_up : (p w : Record) → Goes p w → reach p ≤ reach w
reach_up p w g =
    let o : w.opening.first ≡ p.opening.first = ap (λ (x : Opening). x.first) g.opening in
    let s : length w.seen ≡ length (p.seen ++ g.between) = ap length g.seen_is in
    omega (arith, length-append p.seen g.between)

gains_on : (n : ℕ) (b p w : Record) (xs : List Section) → Goes p w → Gains n b xs p → Gains n b xs w
gains_on n b p w xs g v = record {
  made = v.made ++ g.made ∷ [];
  more = v.more ++ g.between;
  steps_are = g.steps_are ∙ ap (λ l. l ++ g.made ∷ []) v.steps_are ∙ append_assoc b.steps v.made (g.made ∷ []);
  seen_is = g.seen_is ∙ ap (λ l. l ++ g.between) v.seen_is ∙ append_assoc b.seen v.more g.between;
  sections_are = g.sections ∙ v.sections_are;
  in_turn = v.in_turn;
  legal = sections_longer n p w g.between g.opening g.seen_is xs v.legal;
  rising = rising_up (reach b) xs (reach p) (reach w) (reach_up p w g) v.rising;
  opening = g.opening ∙ v.opening;
  calls = g.calls ∙ v.calls;
  keeper = g.keeper ∙ v.keeper;
  taken = g.taken ∙ v.taken;
  published = g.published ∙ v.published;
  failed = g.failed ∙ v.failed;
  enrolled = g.enrolled ∙ v.enrolled;
  passes = g.passes ∙ v.passes;
}

pub gains_begin : (n : ℕ) (b : Record) → Gains n b [] b
gains_begin n b = record {
  made = [];
  more = [];
  steps_are = sym (append-nil b.steps);
  seen_is = sym (append-nil b.seen);
  sections_are = sym (append-nil b.sections);
  in_turn = tt;
  legal = tt;
  rising = omega arith;
  opening = refl;
  calls = refl;
  keeper = refl;
  taken = refl;
  published = refl;
  failed = refl;
  enrolled = refl;
  passes = refl;
}

found_held : (p : Record) (i : ℕ) → Goes p (missing p i)
found_held p i = record { made = FoundHeld i; between = []; steps_are = refl; seen_is = sym (append-nil p.seen); opening = refl; sections = refl; calls = refl; keeper = refl; taken = refl; published = refl; failed = refl; enrolled = refl; passes = refl }

took : (p : Record) (i : ℕ) (m : Map) (es : List Entry) (last : ℕ) (between : List Command) → Goes p (taking p i m es last between)
took p i m es last between = record { made = Took i es last; between = between; steps_are = refl; seen_is = refl; opening = refl; sections = refl; calls = refl; keeper = refl; taken = refl; published = refl; failed = refl; enrolled = refl; passes = refl }

looked : (p : Record) (between : List Command) → Goes p (looking p between)
looked p between = record { made = Looked (p.opening.first + length (p.seen ++ between)); between = between; steps_are = refl; seen_is = refl; opening = refl; sections = refl; calls = refl; keeper = refl; taken = refl; published = refl; failed = refl; enrolled = refl; passes = refl }

saw : (p : Record) (d : ℕ) (between : List Command) → Goes p (seeing p d between)
saw p d between = record { made = Saw d; between = between; steps_are = refl; seen_is = refl; opening = refl; sections = refl; calls = refl; keeper = refl; taken = refl; published = refl; failed = refl; enrolled = refl; passes = refl }

lived : (p : Record) (is_alive : Bool) → Goes p (living p is_alive)
lived p is_alive = record { made = FoundAlive is_alive; between = []; steps_are = refl; seen_is = sym (append-nil p.seen); opening = refl; sections = refl; calls = refl; keeper = refl; taken = refl; published = refl; failed = refl; enrolled = refl; passes = refl }

gone_to : (p w x : Record) → w ≡ x → Goes p x → Goes p w
gone_to p w x is g = subst (λ (y : Record). Goes p y) (sym is) g

-- TAKE that found the stripe held
pub gains_missed : (n : ℕ) (b p w : Record) (xs : List Section) (i : ℕ) → Gains n b xs p → w ≡ missing p i → Gains n b xs w
gains_missed n b p w xs i v is = gains_on n b p w xs (gone_to p w _ is (found_held p i)) v

pub still_empty : (p w : Record) (i : ℕ) → p.holding ≡ None → w ≡ missing p i → w.holding ≡ None
still_empty p w i none is = ap (λ (x : Record). x.holding) is ∙ none

-- TAKE
pub holds_taken : (n : ℕ) (b p w : Record) (xs : List Section) (i : ℕ) (content : Stripe) → i ≡ length xs → Gains n b xs p → length xs < n → TakesStripe n p i content w → HoldsNext n b xs content None w
holds_taken n b p w xs i content same v within t = record {
  gains = gains_on n b p w xs (gone_to p w _ t.is (took p i content.part.map content.outbox.items content.last t.between)) v;
  holds = subst (λ k. Holds k content None w) same (ap (λ (x : Record). x.holding) t.is);
  within = within;
}

-- LOOK
looking_held : (p : Record) (between : List Command) (d : Holding) → d.has_drawn ≡ false → p.holding ≡ Some d → (looking p between).holding ≡ Some (record d { looked = Some (reach (looking p between)) })
looking_held p between d drawn is = rw (is, drawn) refl

pub holds_looked : (n : ℕ) (b p w : Record) (xs : List Section) (q : ℕ) (content : Stripe) → HoldsNext n b xs content None p → Looks p q w → HoldsNext n b xs content (Some (reach w)) w
holds_looked n b p w xs q content h l =
    let d : Holding = record { stripe = length xs; part = content.part.map; outbox = content.outbox.items; last = content.last; has_drawn = false; looked = None } in record {
      gains = gains_on n b p w xs (gone_to p w _ l.is (looked p l.between)) h.gains;
      holds = subst (λ (x : Record). Holds (length xs) content (Some (reach x)) x) (sym l.is) (looking_held p l.between d refl h.holds);
      within = h.within;
    }

-- ---- GIVE of a stripe that was looked at

pub may_capture : (n : ℕ) (b p : Record) (xs : List Section) (j : ℕ) (content : Stripe) → j ≡ length xs → HoldsNext n b xs content (Some (reach p)) p → MayGive n p j content Capture
may_capture n b p xs j content same h = record {
  held = record { stripe = length xs; part = content.part.map; outbox = content.outbox.items; last = content.last; has_drawn = false; looked = Some (reach p) };
  holding = h.holds;
  stripe_is = sym same;
  part_is = refl;
  outbox_is = refl;
  last_is = refl;
  suits = (reach p, refl);
}

pub may_give_back : (n : ℕ) (b p : Record) (xs : List Section) (j : ℕ) (content : Stripe) → j ≡ length xs → HoldsNext n b xs content (Some (reach p)) p → MayGive n p j content Nothing
may_give_back n b p xs j content same h = record {
  held = record { stripe = length xs; part = content.part.map; outbox = content.outbox.items; last = content.last; has_drawn = false; looked = Some (reach p) };
  holding = h.holds;
  stripe_is = sym same;
  part_is = refl;
  outbox_is = refl;
  last_is = refl;
  suits = tt;
}

stripe_given : (p w : Record) (i : ℕ) (content : Stripe) → Holds i content (Some (reach p)) p → w ≡ giving Capture p → w.steps ≡ p.steps ++ Gave i ∷ []
stripe_given p w i content h is = ap (λ (y : Record). y.steps) is ∙ ap (λ held. p.steps ++ Gave (stripe_held held) ∷ []) h

-- the section of the stripe that is held
abbrev pub kept : List Section → ℕ → Stripe → Section
kept xs mark content = record { stripe = length xs; mark = mark; part = content.part.map }

pub gains_given : (n : ℕ) (b p w : Record) (xs : List Section) (content : Stripe) → HoldsNext n b xs content (Some (reach p)) p → Gives n Capture p w → Gains n b (xs ++ kept xs (reach p) content ∷ []) w
unfolding section_at
gains_given n b p w xs content k g =
    let v = k.gains in
    let x : Section = section_at (length xs) (reach p) content.part.map in
    let legal : AllLegalSections n p (x ∷ []) = subst (λ held. AllLegalSections n p (sections_for Capture held)) k.holds g.sections in
    let opening : w.opening ≡ p.opening = ap (λ (y : Record). y.opening) g.is in
    let seen : w.seen ≡ p.seen = ap (λ (y : Record). y.seen) g.is in
    let same : reach w ≡ reach p = ap reach g.is in
    let there : AllLegalSections n w (x ∷ []) = sections_longer n p w [] opening (seen ∙ sym (append-nil p.seen)) (x ∷ []) legal in
    let added : w.sections ≡ p.sections ++ x ∷ [] = ap (λ (y : Record). y.sections) g.is ∙ ap (λ held. p.sections ++ sections_for Capture held) k.holds in
    record {
      made = v.made ++ Gave (length xs) ∷ [];
      more = v.more;
      steps_are = stripe_given p w (length xs) content k.holds g.is ∙ ap (λ l. l ++ Gave (length xs) ∷ []) v.steps_are ∙ append_assoc b.steps v.made (Gave (length xs) ∷ []);
      seen_is = seen ∙ v.seen_is;
      sections_are = added ∙ ap (λ l. l ++ x ∷ []) v.sections_are ∙ append_assoc b.sections xs (x ∷ []);
      in_turn = in_turn_more 0 xs x (omega arith) v.in_turn;
      legal = sections_both n w xs (x ∷ []) (sections_longer n p w [] opening (seen ∙ sym (append-nil p.seen)) xs v.legal) there;
      rising = rising_more (reach b) xs (reach p) (reach w) x (omega arith) (omega arith) v.rising;
      opening = opening ∙ v.opening;
      calls = ap (λ (y : Record). y.calls) g.is ∙ v.calls;
      keeper = ap (λ (y : Record). y.keeper) g.is ∙ v.keeper;
      taken = ap (λ (y : Record). y.taken) g.is ∙ append-nil p.taken ∙ v.taken;
      published = ap (λ (y : Record). y.published) g.is ∙ v.published;
      failed = ap (λ (y : Record). y.failed) g.is ∙ v.failed;
      enrolled = ap (λ (y : Record). y.enrolled) g.is ∙ v.enrolled;
      passes = ap (λ (y : Record). y.passes) g.is ∙ v.passes;
    }

pub given_empty : (n : ℕ) (p w : Record) → Gives n Capture p w → w.holding ≡ None
given_empty n p w g = ap (λ (y : Record). y.holding) g.is

pub starved : (n : ℕ) (b p w : Record) (xs : List Section) (content : Stripe) → HoldsNext n b xs content (Some (reach p)) p → Gives n Nothing p w → IsStarved n b xs w
starved n b p w xs content h g = record {
  within = h.within;
  gains = gains_on n b p w xs (record {
    made = Gave (length xs);
    between = [];
    steps_are = ap (λ (y : Record). y.steps) g.is ∙ ap (λ held. p.steps ++ Gave (stripe_held held) ∷ []) h.holds;
    seen_is = ap (λ (y : Record). y.seen) g.is ∙ sym (append-nil p.seen);
    opening = ap (λ (y : Record). y.opening) g.is;
    sections = ap (λ (y : Record). y.sections) g.is ∙ append-nil p.sections;
    calls = ap (λ (y : Record). y.calls) g.is;
    keeper = ap (λ (y : Record). y.keeper) g.is;
    taken = ap (λ (y : Record). y.taken) g.is ∙ append-nil p.taken;
    published = ap (λ (y : Record). y.published) g.is;
    failed = ap (λ (y : Record). y.failed) g.is;
    enrolled = ap (λ (y : Record). y.enrolled) g.is;
    passes = ap (λ (y : Record). y.passes) g.is;
  }) h.gains;
  empty_handed = ap (λ (y : Record). y.holding) g.is;
  given = (p.steps, ap (λ (y : Record). y.steps) g.is ∙ ap (λ held. p.steps ++ Gave (stripe_held held) ∷ []) h.holds);
}

-- ---- the wait

-- SEE
all_saw : (n : ℕ) (b p w : Record) (xs : List Section) (d : ℕ) → GainsAll n b xs p → Sees p d w → GainsAll n b xs w
all_saw n b p w xs d a s = record {
  gains = gains_on n b p w xs (gone_to p w _ s.is (saw p d s.between)) a.gains;
  empty_handed = ap (λ (y : Record). y.holding) s.is ∙ a.empty_handed;
  whole = a.whole;
}

-- ALIVE
all_lived : (n : ℕ) (b p w : Record) (xs : List Section) (is_alive : Bool) → GainsAll n b xs p → Lives p is_alive w → GainsAll n b xs w
all_lived n b p w xs is_alive a l = record {
  gains = gains_on n b p w xs (gone_to p w _ l.is (lived p is_alive)) a.gains;
  empty_handed = ap (λ (y : Record). y.holding) l.is ∙ a.empty_handed;
  whole = a.whole;
}

pub reached : (n : ℕ) (b p w : Record) (xs : List Section) (d : ℕ) → GainsAll n b xs p → Sees p d w → greatest_mark xs ≤ d → IsDone n b xs w
reached n b p w xs d a s le = record { all = all_saw n b p w xs d a s; durable = record { between = p; all = a; since = record { durable = d; sees = s; reached = le } } }

pub missed : (n : ℕ) (b p w : Record) (xs : List Section) (d : ℕ) → GainsAll n b xs p → Sees p d w → d < greatest_mark xs → After n b xs (Misses (greatest_mark xs)) w
missed n b p w xs d a s lt = record { between = p; all = a; since = record { durable = d; sees = s; missed = lt } }

-- what was missed was seen since, and the walk goes on from there
pub all_missed : (n : ℕ) (b p : Record) (xs : List Section) (q : ℕ) → After n b xs (Misses q) p → GainsAll n b xs p
all_missed n b p xs q k = all_saw n b k.between p xs k.since.durable k.all k.since.sees

pub goes_on : (n : ℕ) (b p w : Record) (xs : List Section) → After n b xs (Misses (greatest_mark xs)) p → Lives p true w → GainsAll n b xs w
goes_on n b p w xs k l = all_lived n b p w xs true (all_missed n b p xs (greatest_mark xs) k) l

pub found_failure : (n : ℕ) (b p w : Record) (xs : List Section) → After n b xs (Misses (greatest_mark xs)) p → Lives p false w → After n b xs (MissesAlive (greatest_mark xs) false) w
found_failure n b p w xs k l = record { between = k.between; all = k.all; since = record { between = p; misses = k.since; lives = l } }

-- SEE, and ALIVE that said no
pub all_missed_dead : (n : ℕ) (b p : Record) (xs : List Section) (q : ℕ) → After n b xs (MissesAlive q false) p → GainsAll n b xs p
all_missed_dead n b p xs q k =
    let m = k.since in
    let before : GainsAll n b xs m.between = all_saw n b k.between m.between xs m.misses.durable k.all m.misses.sees in
    all_lived n b m.between p xs false before m.lives

pub reached_after : (n : ℕ) (b p w : Record) (xs : List Section) (d : ℕ) → After n b xs (MissesAlive (greatest_mark xs) false) p → Sees p d w → greatest_mark xs ≤ d → IsDone n b xs w
reached_after n b p w xs d k s le = reached n b p w xs d (all_missed_dead n b p xs (greatest_mark xs) k) s le

pub failed : (n : ℕ) (b p w : Record) (xs : List Section) (d : ℕ) → After n b xs (MissesAlive (greatest_mark xs) false) p → Sees p d w → d < greatest_mark xs → IsFailed n b xs w
failed n b p w xs d k s lt = record {
  all = all_saw n b p w xs d (all_missed_dead n b p xs (greatest_mark xs) k) s;
  failed = record { between = k.between; all = k.all; since = record { between = p; first = k.since; second = record { durable = d; sees = s; missed = lt } } };
}
