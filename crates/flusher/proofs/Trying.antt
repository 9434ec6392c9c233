-- What a sweep of one stripe leaves of the keeper.
use Rattle.std.proofs.Common.{◌≡◌, ℕ, ◌+◌, ◌<◌, ◌≤◌, List, [], ◌∷◌, ◌++◌, length, Option, Some, None, false, Result, Ok, Err, OnOk, OnErr, IfErr, append-nil, refl, sym, ◌∙◌, ap, subst, arith}
use Rattle.std.specs.List.{Contains}
use Rattle.std.proofs.lemmas.List.{length-append, append_assoc}
use Rattle.std.proofs.lemmas.List.Elements.{Contains-append_left}
use Rattle.disk_model.specs.Files.{Files}
use Rattle.java_hash.specs.Stripes.{stripe_of}
use Rattle.map_types.specs.declared.commands.Command.{Command}
use Rattle.map_types.specs.declared.refusals.Refusal.{Refusal}
use Rattle.map_types.specs.declared.refusals.Refusal.TheVariants as refusal
use Rattle.ticket_order.specs.declared.stripe.Entry.{Entry}
use Rattle.ticket_order.specs.declared.record.Opening.{Opening}
use Rattle.ticket_order.specs.declared.record.Purpose.TheVariants.{Nothing}
use Rattle.ticket_order.specs.declared.record.StepMade.{StepMade}
use Rattle.ticket_order.specs.declared.record.StepMade.TheVariants.{Looked, Took, Gave, FoundHeld}
use Rattle.ticket_order.specs.declared.record.Record.{Record}
use Rattle.ticket_order.specs.Records.{reach, past, giving}
use Rattle.ticket_order.specs.Legality.{entries_from, entries_of}
use Rattle.ticket_order.specs.StepRules as rules_of
use Rattle.ticket_order.specs.Calls.{RefusesSweep}
use Rattle.store_layout.specs.OpeningLaws.{FrontStays}
use Rattle.gate_log.specs.States.{commands_of}
use Rattle.store_invariant.specs.Laws.{StandingStays}
use Rattle.flusher.specs.declared.keeper.Keeper.{Keeper}
use Rattle.flusher.specs.declared.sweeper.Sweep.{Sweep}
use Rattle.flusher.specs.declared.sweeper.Walking.{Walking}
use Rattle.flusher.specs.declared.sweeper.Walking.TheVariants.{Rests, SweepTakes, SweepGives}
use Rattle.flusher.specs.declared.sweeper.Swept.{Swept}
use Rattle.flusher.specs.declared.sweeper.Swept.TheVariants.{More}
use Rattle.flusher.specs.declared.sweeper.Sweeper.{Sweeper}
use Rattle.store_layout.specs.Hands.{Hand}
use Rattle.flusher.specs.HandSteps.{SameEntries}
use Rattle.flusher.specs.Gathering.{Accounts, AreWithin, Gathers, HasSweptBelow, Collects}
use Rattle.flusher.specs.Sweeping.{Stands, StandsBy, StepsOn}
use Rattle.flusher.specs.KeeperSteps.{SweepsOnce, StaysAt, is_walking}
use Rattle.flusher.specs.Fitting.{Fits}
use Rattle.ticket_order.proofs.Entries.{grown}
use Rattle.flusher.proofs.Gathered.{accounts_more, accounts_later, taken_later, taken_of_history, taken_within, within_more, low_enough}
use Rattle.flusher.proofs.Passing.{collects_same}
use Rattle.flusher.proofs.Quiet.{sweeps_quiet, refuses_quiet}
use Rattle.flusher.proofs.FittingKeepers.{fits_swept}

-- What a sweep of one stripe leaves of what the pass's sweeps took.
pub record Brings (n : ℕ) (old new : Hand) (gone : List Command) (p w : Record) : Type 0 where
  pub free : w.holding ≡ None
  pub gathers : Gathers old gone p → Gathers new gone w
  pub below : (count stripe : ℕ) → HasSweptBelow n count stripe p → HasSweptBelow n count stripe w

pub brought : (n i : ℕ) (old new : Hand) (gone : List Command) (p w : Record) → SweepsOnce n i old new p w → Brings n old new gone p w
brought n i old new gone p w o =
    let s = o.sweeps in
    let es = o.entries in
    let first = p.opening.first in
    let seen = p.seen ++ s.between in
    let x : rules_of.Collects n i p es w = s.collects in
    let high : past es ≤ first + length seen = subst (λ (z : Record). past es ≤ reach z) s.is (low_enough p w (past es) s.rises) in
    let is : entries_of n i p.taken ++ es ≡ entries_of n i (entries_from first (seen ++ x.more)) = x.is ∙ ap (λ (z : Record). entries_of n i (entries_from first (z.seen ++ x.more))) s.is in
    subst (Brings n old new gone p) (sym s.is) (record {
      free = refl;
      gathers = λ k. record {
        keeper = k.keeper;
        accounts = accounts_more old new gone first p.taken es p.seen seen k.accounts o.collects (λ e has. grown first p.seen s.between e has) (taken_of_history n i first p.taken es seen x.more is high);
        within = within_more p.opening.key_limit p.taken es k.within (taken_within n i first p.opening.key_limit p.taken es (w.seen ++ x.more) x.is x.within);
      };
      below = λ count stripe k. record {
        looked = Contains-append_left (p.steps ++ Took i es s.last ∷ []) (Gave i ∷ []) (Looked count) (Contains-append_left p.steps (Took i es s.last ∷ []) (Looked count) k.looked);
        reached = omega (arith, k.reached, length-append p.seen s.between);
        all = taken_later n count stripe first p.taken (p.taken ++ es) p.seen s.between k.all k.reached (λ f in_. Contains-append_left p.taken es f in_);
      };
    })

-- What a sweep that took nothing leaves of the record.
pub record IsLeft (b w : Record) : Type 0 where
  pub free : w.holding ≡ None
  pub keeper : w.keeper ≡ b.keeper
  pub opening : w.opening ≡ b.opening
  pub taken : w.taken ≡ b.taken
  pub more : List Command
  pub seen : w.seen ≡ b.seen ++ more
  pub made : List StepMade
  pub steps : w.steps ≡ b.steps ++ made

left_by : (b : Record) (i : ℕ) (e : Refusal) (w : Record) → b.holding ≡ None → RefusesSweep b i e w → IsLeft b w
left_by b i (refusal.Busy j) w free r = subst (IsLeft b) (sym r.1) (record { free = free; keeper = refl; opening = refl; taken = refl; more = []; seen = sym (append-nil b.seen); made = FoundHeld i ∷ []; steps = refl })
left_by b i refusal.NoMemory w free r =
    let x = r.before in
    subst (IsLeft b) (sym (r.is ∙ ap (giving Nothing) x.is)) (record {
      free = refl;
      keeper = refl;
      opening = refl;
      taken = append-nil b.taken;
      more = x.taken;
      seen = refl;
      made = Took i x.outbox x.last ∷ [] ++ Gave i ∷ [];
      steps = append_assoc b.steps (Took i x.outbox x.last ∷ []) (Gave i ∷ []);
    })
left_by b i refusal.NullValue w free r = absurd r
left_by b i refusal.KeyTooLong w free r = absurd r
left_by b i refusal.ValueTooLong w free r = absurd r
left_by b i refusal.UnknownMethod w free r = absurd r
left_by b i refusal.UnknownFunction w free r = absurd r
left_by b i refusal.BadFrame w free r = absurd r
left_by b i refusal.Failed w free r = absurd r
left_by b i refusal.TicketsSpent w free r = absurd r
left_by b i refusal.NotFormatted w free r = absurd r
left_by b i (refusal.Damaged file offset) w free r = absurd r
left_by b i refusal.WrongVersion w free r = absurd r
left_by b i refusal.LogFull w free r = absurd r
left_by b i refusal.AlreadyFormatted w free r = absurd r
left_by b i refusal.WrongPhase w free r = absurd r
left_by b i refusal.TooEarly w free r = absurd r
left_by b i refusal.NotText w free r = absurd r
left_by b i refusal.SeatsSpent w free r = absurd r

seen_on : (hand : Hand) (gone : List Command) (p w : Record) → IsLeft p w → Gathers hand gone p → Gathers hand gone w
seen_on hand gone p w l k = record {
  keeper = l.keeper ∙ k.keeper;
  accounts = subst (λ (o : Opening). Accounts hand gone o.first w.taken w.seen) (sym l.opening) (subst (λ (es : List Entry). Accounts hand gone p.opening.first es w.seen) (sym l.taken)
      (subst (λ (s : List Command). Accounts hand gone p.opening.first p.taken s) (sym l.seen) (accounts_later hand gone p.opening.first p.taken p.seen l.more k.accounts)));
  within = subst (λ (o : Opening). AreWithin o.key_limit w.taken) (sym l.opening) (subst (AreWithin p.opening.key_limit) (sym l.taken) k.within);
}

none_more : (old new : Hand) (gone : List Command) (p : Record) → Collects old [] new → Gathers old gone p → Gathers new gone p
none_more old new gone p g k = record {
  keeper = k.keeper;
  accounts = subst (λ z. Accounts new gone p.opening.first z p.seen) (append-nil p.taken) (accounts_more old new gone p.opening.first p.taken [] p.seen p.seen k.accounts g (λ e has. has) (λ e has. absurd (omega (arith, has.1))));
  within = k.within;
}

pub left_alone : (n i : ℕ) (e : Refusal) (old new : Hand) (gone : List Command) (p w : Record) → p.holding ≡ None → RefusesSweep p i e w → Collects old [] new → Brings n old new gone p w
left_alone n i e old new gone p w free r g =
    let l : IsLeft p w = left_by p i e w free r in
    record {
      free = l.free;
      gathers = λ k. seen_on new gone p w l (none_more old new gone p g k);
      below = λ count stripe k. record {
        looked = subst (λ s. Contains s (Looked count)) (sym l.steps) (Contains-append_left p.steps l.made (Looked count) k.looked);
        reached = omega (arith, k.reached, ap (λ (o : Opening). o.first) l.opening, ap (λ (s : List Command). length s) l.seen, length-append p.seen l.more);
        all = subst (λ (o : Opening). (f : Entry) → Contains (entries_from o.first w.seen) f → f.ticket < count → stripe_of n f.command.key < stripe → Contains w.taken f) (sym l.opening)
            (subst (λ (s : List Command). (f : Entry) → Contains (entries_from p.opening.first s) f → f.ticket < count → stripe_of n f.command.key < stripe → Contains w.taken f) (sym l.seen)
            (taken_later n count stripe p.opening.first p.taken w.taken p.seen l.more k.all k.reached (λ f in_. subst (λ es. Contains es f) (sym l.taken) in_)));
      };
    }

brings_by : (n : ℕ) (o : Option Sweep) (v : Walking) (old new : Hand) (gone : List Command) (p w : Record) → is_walking v ≡ false → Brings n old new gone p w → StandsBy n o v old gone p → StandsBy n o v new gone w
brings_by n None Rests old new gone p w rests b h = record { free = b.free; gathers = b.gathers h.gathers }
brings_by n None SweepTakes old new gone p w rests b h = absurd h
brings_by n None (SweepGives walk) old new gone p w rests b h = absurd h
brings_by n (Some sweep) Rests old new gone p w rests b h = record { free = b.free; within = h.within; below = b.below sweep.count sweep.stripe h.below; gathers = b.gathers h.gathers }
brings_by n (Some sweep) SweepTakes old new gone p w rests b h = cc
brings_by n (Some sweep) (SweepGives walk) old new gone p w rests b h = cc

pub fits_tried : {D : Type 0} {X : Type 0} (states : D → List Files) (honest : D → Type 0) (n i : ℕ) (done : List Command) (keeper : Keeper D) (hand : Hand) (p w : Record) (result : Result X Refusal) → StandingStays → FrontStays → Fits states honest n done keeper p
    → is_walking keeper.sweeper.walking ≡ false → p.holding ≡ None → OnOk result (SweepsOnce n i keeper.sweeper.in_hand hand p w) → IfErr result (λ e. RefusesSweep p i e w) → OnErr result (Collects keeper.sweeper.in_hand [] hand)
    → Fits states honest n done (record keeper { sweeper = record keeper.sweeper { in_hand = hand } }) w
fits_tried {D} {X} states honest n i done keeper hand p w (Ok x) stay front f rests free ok err kept =
    fits_swept states honest n done keeper (record keeper.sweeper { in_hand = hand }) p w stay front f
    (brings_by n keeper.sweeper.sweep keeper.sweeper.walking keeper.sweeper.in_hand hand (done ++ commands_of keeper.staged.items) p w rests (brought n i keeper.sweeper.in_hand hand (done ++ commands_of keeper.staged.items) p w ok) f.stands)
    (sweeps_quiet n p i ok.entries w ok.sweeps) (record { more = ok.sweeps.between; is = ap (λ (r : Record). r.seen) ok.sweeps.is }) ok.collects.next
fits_tried {D} {X} states honest n i done keeper hand p w (Err e) stay front f rests free ok err kept =
    let l : IsLeft p w = left_by p i e w free err in
    fits_swept states honest n done keeper (record keeper.sweeper { in_hand = hand }) p w stay front f
    (brings_by n keeper.sweeper.sweep keeper.sweeper.walking keeper.sweeper.in_hand hand (done ++ commands_of keeper.staged.items) p w rests (left_alone n i e keeper.sweeper.in_hand hand (done ++ commands_of keeper.staged.items) p w free err kept) f.stands)
    (refuses_quiet p i e w err) (record { more = l.more; is = l.seen }) kept.next

-- ---- how a sweep ends

-- a step that was refused
pub record IsPutBack (new : Sweeper) (e : Refusal) : Type 0 where
  pub refused : e ≡ refusal.NoMemory
  pub sweep : Sweep
  pub sweep_is : new.sweep ≡ Some sweep
  pub walking : new.walking ≡ Rests

pub put_back_at : (n : ℕ) (o : Option Sweep) (v : Walking) (old : Hand) (new : Sweeper) (p w : Record) (e : Refusal) → StepsOn n o v old new p w (Err e) → IsPutBack new e
put_back_at n None v old new p w e k = absurd (never e k.answer)
  where
    never : (x : Refusal) → (let y : Result Swept Refusal = Err x in let z : Result Swept Refusal = Ok More in y ≡ z) → ⊥
    never x h = cc
put_back_at n (Some sweep) Rests old new p w e k = absurd k
put_back_at n (Some sweep) SweepTakes old new p w e k = absurd k
put_back_at n (Some sweep) (SweepGives walk) old new p w e k = record { refused = k.refused; sweep = sweep; sweep_is = k.sweep_is; walking = k.walking }

pub stays_at : (n : ℕ) (s : Sweeper) (gone : List Command) (p : Record) (sweep : Sweep) → Stands n s gone p → s.sweep ≡ Some sweep → s.walking ≡ Rests → StaysAt n s p
stays_at n s gone p sweep k a b =
    let h = subst (λ v. StandsBy n (Some sweep) v s.in_hand gone p) b (subst (λ o. StandsBy n o s.walking s.in_hand gone p) a k) in
    record { sweep = sweep; sweep_is = a; below = h.below }

pub same_if_refused : {X : Type 0} (old new : Hand) (result : Result X Refusal) → OnErr result (Collects old [] new) → OnErr result (SameEntries old new)
same_if_refused {X} old new (Ok x) k = k
same_if_refused {X} old new (Err e) k = collects_same old new k
