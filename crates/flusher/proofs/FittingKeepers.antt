-- What holds of a keeper after each of its calls.
use Rattle.std.proofs.Common.{◌≡◌, ℕ, ◌+◌, ◌<◌, ◌^◌, max, List, [], ◌∷◌, ◌++◌, length, get_or, Option, Some, None, IfSome, Bool, true, false, refl, sym, ◌∙◌, ap, subst, arith}
use Rattle.std.specs.List.{All, Contains}
use Rattle.std.proofs.lemmas.List.{get_or_default, length-append, append_assoc}
use Rattle.std.proofs.lemmas.List.Elements.{Contains-append_left}
use Rattle.disk_model.specs.Files.{Files, now}
use Rattle.map_types.specs.declared.commands.Command.{Command}
use Rattle.ticket_order.specs.declared.stripe.Entry.{Entry}
use Rattle.ticket_order.specs.declared.record.StepMade.{StepMade}
use Rattle.ticket_order.specs.declared.record.StepMade.TheVariants.{Published, Failed, Looked}
use Rattle.ticket_order.specs.declared.record.Opening.{Opening}
use Rattle.ticket_order.specs.declared.record.Record.{Record}
use Rattle.ticket_order.specs.declared.walk.Walk.{Walk}
use Rattle.ticket_order.specs.Records.{IsWithin, entry, publishing, failing}
use Rattle.ticket_order.specs.StepRules.{MayPublish}
use Rattle.ticket_order.specs.Legality.{entries_from, history_of}
use Rattle.log_records.specs.Layout.{layout_of}
use Rattle.store_layout.specs.OpeningLaws.{FrontStays}
use Rattle.checkpoint_file.specs.States.{CheckpointState}
use Rattle.gate_log.specs.States.{LogState, commands_of, resumed}
use Rattle.store_invariant.specs.States.{StoreState}
use Rattle.store_invariant.specs.Laws.{OpenedStands, StandingStays}
use Rattle.flusher.specs.declared.keeper.Keeper.{Keeper}
use Rattle.flusher.specs.declared.sweeper.Sweep.{Sweep}
use Rattle.flusher.specs.declared.sweeper.Walking.{Walking}
use Rattle.flusher.specs.declared.sweeper.Walking.TheVariants.{Rests, SweepTakes, SweepGives}
use Rattle.flusher.specs.declared.sweeper.Sweeper.{Sweeper}
use Rattle.store_layout.specs.Hands.{Hand, IsRun}
use Rattle.flusher.specs.Gathering.{Accounts, AreWithin, Gathers}
use Rattle.flusher.specs.Sweeping.{Stands, StandsBy, HasNone, IsSwept}
use Rattle.flusher.specs.KeeperSteps.{is_walking}
use Rattle.flusher.specs.Rotating.{MayRotate}
use Rattle.flusher.specs.Fitting.{Fits, HasSeenMore, HoldsFront, IsEmptyIn, IsFoundFor, IsQuiet, IsUnbroken, IsUnused, IsTakenFront, Stores, WereTaken, store_of}
use Rattle.flusher.proofs.Keys.{keys_beside, keys_kept}
use Rattle.flusher.proofs.Storing.{holds_found, stores_seen}
use Rattle.flusher.proofs.Staging.{taken_in_hand}
use Rattle.ticket_order.proofs.Entries.{grown, shrunk, there_is}
use Rattle.flusher.proofs.Passing.{reached_by, front_of_all}
use Rattle.flusher.proofs.Quiet.{IsGrown, swept_grown}

-- ---- at first

-- what a keeper is at first
pub record IsOpened {D : Type 0} (stripes first : ℕ) (sealed : ℕ) (log : LogState) (must_close : Bool) (keeper : Keeper D) : Type 0 where
  pub store : store_of keeper ≡ record { sealed = sealed; log = log; next = None; writer = None }
  pub hand : keeper.sweeper.in_hand ≡ record { next = first; slots = [] }
  pub sweep : keeper.sweeper.sweep ≡ None
  pub walking : keeper.sweeper.walking ≡ Rests
  pub staged : keeper.staged.items ≡ []
  pub must_close_is : keeper.must_close ≡ must_close
  pub works : keeper.is_broken ≡ false
  pub failed : keeper.has_failed ≡ false
  pub published : keeper.published ≡ first
  pub stripes_are : keeper.stripes.count ≡ stripes

pub fits_opened : {D : Type 0} (states : D → List Files) (honest : D → Type 0) (n sealed : ℕ) (log : LogState) (must_close : Bool) (keeper : Keeper D) (p : Record) → OpenedStands → log.committed < 2 ^ 64
    → IsOpened n log.committed sealed log must_close keeper → log ≡ resumed log.version log.generation log.low log.gate log.committed → IsUnused log.committed (layout_of log.version).key_limit p
    → (honest keeper.disk → IsFoundFor p sealed log must_close (now (states keeper.disk))) → Fits states honest n [] keeper p
fits_opened {D} states honest n sealed log must_close keeper p law small k is u found =
    let first : ℕ = log.committed in
    let l : keeper.log ≡ log = ap (λ (x : StoreState). x.log) k.store in
    let g : keeper.staged.items ≡ [] = k.staged in
    let count : keeper.log.committed ≡ first = ap (λ (x : LogState). x.committed) l in
    let none_ : Accounts (record { next = first; slots = [] }) [] p.opening.first [] p.seen = record {
      low = omega (arith, u.opening);
      reached = omega (arith, u.opening);
      each = λ e has. absurd (omega (arith, has.1));
      was_taken = λ e has. absurd (omega (arith, has.1));
      held = λ t c k. absurd (no_place c (k.there));
      known = λ e has. absurd (omega (arith, has.1));
    } in
    let gathers : Gathers keeper.sweeper.in_hand [] p = record { keeper = u.keeper; accounts = subst (λ x. Accounts x [] p.opening.first p.taken p.seen) (sym k.hand) (subst (λ x. Accounts (record { next = first; slots = [] }) [] p.opening.first x p.seen) (sym u.none_taken) none_); within = subst (AreWithin p.opening.key_limit) (sym u.none_taken) (λ e has. absurd (omega (arith, has.1))) } in
    let has_none : HasNone keeper.sweeper.in_hand [] p = record { free = u.free; gathers = gathers } in
    let at : Stands n keeper.sweeper [] p = subst (λ o. StandsBy n o keeper.sweeper.walking keeper.sweeper.in_hand [] p) (sym k.sweep) (subst (λ v. StandsBy n None v keeper.sweeper.in_hand [] p) (sym k.walking) has_none) in
    record {
      stands = subst (λ (xs : List Entry). Stands n keeper.sweeper (commands_of xs) p) (sym g) at;
      counts = record {
        committed = omega (arith, u.opening, count);
        next = ap (λ (x : Hand). x.next) k.hand ∙ sym count;
        count = ap (λ (x : LogState). x.count) (l ∙ is) ∙ sym (ap (λ (xs : List Entry). length xs) g);
        tickets = subst (λ (xs : List Entry). xs ≡ entries_from keeper.log.committed (commands_of xs)) (sym g) refl;
        fits = omega (arith, small, count, ap (λ (xs : List Entry). length xs) g);
        empty = subst (λ (x : LogState). IsEmptyIn x.phase keeper.staged.items) (sym (l ∙ is)) g;
      };
      tells = record { published = k.published ∙ sym u.published; durable = omega (arith, k.published, count); failed = k.failed ∙ sym u.works };
      stripes = record {
        count = k.stripes_are;
        writer = subst (λ (x : StoreState). IfSome x.writer (λ (w : CheckpointState). w.stripes ≡ n)) (sym k.store) tt;
      };
      rotation = subst (λ (x : StoreState). MayRotate x.next x.log keeper.staged.items) (sym k.store) (ap (λ (x : LogState). x.ending) is);
      keys = keys_kept log keeper.log p (ap (λ (x : LogState). x.version) l) (omega (arith, u.limit));
      stores = record {
        unbroken = λ _. subst IsUnbroken (sym k.store) (record { log = ap (λ (x : LogState). x.is_broken) is; next = tt; writer = tt });
        works = λ _ h. subst (λ (x : StoreState). HoldsFront (history_of p) x keeper.staged.items keeper.must_close (now (states keeper.disk))) (sym k.store)
            (subst (λ (xs : List Entry). HoldsFront (history_of p) (record { sealed = sealed; log = log; next = None; writer = None }) xs keeper.must_close (now (states keeper.disk))) (sym g)
            (subst (λ (b : Bool). HoldsFront (history_of p) (record { sealed = sealed; log = log; next = None; writer = None }) [] b (now (states keeper.disk))) (sym k.must_close_is)
            (holds_found p sealed log must_close (now (states keeper.disk)) law is (found h))));
        stopped = λ broken. absurd (two_ways keeper.is_broken broken k.works);
      };
    }
  where
    no_place : (c : Command) → None ≡ Some c → ⊥
    no_place c e = cc

    two_ways : (x : Bool) → x ≡ true → x ≡ false → ⊥
    two_ways x a b = cc

-- ---- after a step of the sweep

-- the sweeper and the record have changed, and the store stands so
pub fits_moved : {D : Type 0} (states : D → List Files) (honest : D → Type 0) (n : ℕ) (done : List Command) (keeper : Keeper D) (new : Sweeper) (p w : Record) → Fits states honest n done keeper p
    → Stands n new (done ++ commands_of keeper.staged.items) w → IsQuiet p w → new.in_hand.next ≡ keeper.sweeper.in_hand.next → Stores states honest keeper w → Fits states honest n done (record keeper { sweeper = new }) w
fits_moved {D} states honest n done keeper new p w f stands q next stores = record {
  stands = stands;
  counts = record {
    committed = subst (λ o. o.first + length done ≡ keeper.log.committed) (sym q.opening) f.counts.committed;
    next = next ∙ f.counts.next;
    count = f.counts.count;
    tickets = f.counts.tickets;
    fits = f.counts.fits;
    empty = f.counts.empty;
  };
  tells = record { published = f.tells.published ∙ sym q.published; durable = f.tells.durable; failed = f.tells.failed ∙ sym q.failed };
  stripes = record { count = f.stripes.count; writer = f.stripes.writer };
  rotation = f.rotation;
  keys = keys_beside keeper.log p w q.opening f.keys;
  stores = record { unbroken = stores.unbroken; works = stores.works; stopped = stores.stopped };
}

-- the sweep has gone on, and has perhaps seen more
pub fits_swept : {D : Type 0} (states : D → List Files) (honest : D → Type 0) (n : ℕ) (done : List Command) (keeper : Keeper D) (new : Sweeper) (p w : Record) → StandingStays → FrontStays → Fits states honest n done keeper p
    → Stands n new (done ++ commands_of keeper.staged.items) w → IsQuiet p w → HasSeenMore p w → new.in_hand.next ≡ keeper.sweeper.in_hand.next → Fits states honest n done (record keeper { sweeper = new }) w
fits_swept {D} states honest n done keeper new p w stay front f stands q m next =
    fits_moved states honest n done keeper new p w f stands q next (stores_seen states honest keeper p w stay front q.opening m f.stores)

-- ---- after DURABLE and FAIL

noted_by : (n : ℕ) (o : Option Sweep) (v : Walking) (hand : Hand) (gone : List Command) (p : Record) (made : StepMade) (published : ℕ) (failed : Bool) → is_walking v ≡ false → StandsBy n o v hand gone p
    → StandsBy n o v hand gone (record p { steps = p.steps ++ made ∷ []; published = published; failed = failed })
noted_by n None Rests hand gone p made published failed r h = record { free = h.free; gathers = record { keeper = h.gathers.keeper; accounts = h.gathers.accounts; within = h.gathers.within } }
noted_by n None SweepTakes hand gone p made published failed r h = absurd h
noted_by n None (SweepGives walk) hand gone p made published failed r h = absurd h
noted_by n (Some sweep) Rests hand gone p made published failed r h = record {
  free = h.free;
  within = h.within;
  below = record { looked = Contains-append_left p.steps (made ∷ []) (Looked sweep.count) h.below.looked; reached = h.below.reached; all = h.below.all };
  gathers = record { keeper = h.gathers.keeper; accounts = h.gathers.accounts; within = h.gathers.within };
}
noted_by n (Some sweep) SweepTakes hand gone p made published failed r h = cc
noted_by n (Some sweep) (SweepGives walk) hand gone p made published failed r h = cc

-- what is known of the pass between the walks
pub record IsFree (hand : Hand) (gone : List Command) (p : Record) : Type 0 where
  pub free : p.holding ≡ None
  pub gathers : Gathers hand gone p

free_by : (n : ℕ) (o : Option Sweep) (v : Walking) (hand : Hand) (gone : List Command) (p : Record) → is_walking v ≡ false → StandsBy n o v hand gone p → IsFree hand gone p
free_by n None Rests hand gone p r h = record { free = h.free; gathers = h.gathers }
free_by n None SweepTakes hand gone p r h = absurd h
free_by n None (SweepGives walk) hand gone p r h = absurd h
free_by n (Some sweep) Rests hand gone p r h = record { free = h.free; gathers = h.gathers }
free_by n (Some sweep) SweepTakes hand gone p r h = cc
free_by n (Some sweep) (SweepGives walk) hand gone p r h = cc

pub is_free : {D : Type 0} (states : D → List Files) (honest : D → Type 0) (n : ℕ) (done : List Command) (keeper : Keeper D) (p : Record) → Fits states honest n done keeper p → is_walking keeper.sweeper.walking ≡ false
    → IsFree keeper.sweeper.in_hand (done ++ commands_of keeper.staged.items) p
is_free {D} states honest n done keeper p f r = free_by n keeper.sweeper.sweep keeper.sweeper.walking keeper.sweeper.in_hand _ p r f.stands

pub may_publish : {D : Type 0} (states : D → List Files) (honest : D → Type 0) (n : ℕ) (done : List Command) (keeper : Keeper D) (p : Record) → Fits states honest n done keeper p → is_walking keeper.sweeper.walking ≡ false
    → keeper.has_failed ≡ false → MayPublish p keeper.log.committed
may_publish {D} states honest n done keeper p f r works =
    let k = is_free states honest n done keeper p f r in
    record {
      keeper = k.gathers.keeper;
      seen = omega (arith, reached_by keeper.sweeper.in_hand (done ++ commands_of keeper.staged.items) p k.gathers, f.counts.committed, length-append done (commands_of keeper.staged.items));
      unfailed = sym f.tells.failed ∙ works;
    }

pub fits_published : {D : Type 0} (states : D → List Files) (honest : D → Type 0) (n : ℕ) (done : List Command) (keeper : Keeper D) (p : Record) → Fits states honest n done keeper p → is_walking keeper.sweeper.walking ≡ false
    → Fits states honest n done (record keeper { published = keeper.log.committed }) (publishing p keeper.log.committed)
fits_published {D} states honest n done keeper p f r = record {
  stands = noted_by n keeper.sweeper.sweep keeper.sweeper.walking keeper.sweeper.in_hand (done ++ commands_of keeper.staged.items) p (Published keeper.log.committed) (max p.published keeper.log.committed) p.failed r f.stands;
  counts = record { committed = f.counts.committed; next = f.counts.next; count = f.counts.count; tickets = f.counts.tickets; fits = f.counts.fits; empty = f.counts.empty };
  tells = record { published = omega (arith, f.tells.published, f.tells.durable); durable = omega arith; failed = f.tells.failed };
  stripes = record { count = f.stripes.count; writer = f.stripes.writer };
  rotation = f.rotation;
  keys = f.keys;
  stores = record { unbroken = f.stores.unbroken; works = f.stores.works; stopped = f.stores.stopped };
}

pub fits_failed : {D : Type 0} (states : D → List Files) (honest : D → Type 0) (n : ℕ) (done : List Command) (keeper : Keeper D) (p : Record) → Fits states honest n done keeper p → is_walking keeper.sweeper.walking ≡ false
    → Fits states honest n done (record keeper { has_failed = true }) (failing p)
fits_failed {D} states honest n done keeper p f r = record {
  stands = noted_by n keeper.sweeper.sweep keeper.sweeper.walking keeper.sweeper.in_hand (done ++ commands_of keeper.staged.items) p Failed p.published true r f.stands;
  counts = record { committed = f.counts.committed; next = f.counts.next; count = f.counts.count; tickets = f.counts.tickets; fits = f.counts.fits; empty = f.counts.empty };
  tells = record { published = f.tells.published; durable = f.tells.durable; failed = refl };
  stripes = record { count = f.stripes.count; writer = f.stripes.writer };
  rotation = f.rotation;
  keys = f.keys;
  stores = record { unbroken = f.stores.unbroken; works = f.stores.works; stopped = f.stores.stopped };
}

-- ---- what is committed was taken

-- in each standing of the sweep the hand gathers, by a record with the pass's opening whose entries and history the pass's go on
pub record Knows (hand : Hand) (gone : List Command) (p : Record) : Type 0 where
  pub front : (rest : List Command) × (p.seen ≡ gone ++ rest)
  pub taken : (e : Entry) → Contains (entries_from p.opening.first gone) e → Contains p.taken e

knows : (hand : Hand) (gone : List Command) (p : Record) → Gathers hand gone p → Knows hand gone p
knows hand gone p k = record {
  front = front_of_all p.opening.first gone p.seen (λ e has. k.accounts.known e (k.accounts.was_taken e has));
  taken = k.accounts.was_taken;
}

knows_on : (n : ℕ) (hand : Hand) (gone : List Command) (b p : Record) (i : ℕ) (walk : Walk) → Knows hand gone b → IsSwept n b i walk p → Knows hand gone p
knows_on n hand gone b p i walk k s =
    let m : IsGrown b p = swept_grown n b i walk p s in
    record {
      front = (k.front.0 ++ m.more, m.seen ∙ ap (λ z. z ++ m.more) k.front.1 ∙ append_assoc gone k.front.0 m.more);
      taken = λ e has. subst (λ es. Contains es e) (sym m.taken) (k.taken e (subst (λ (o : Opening). Contains (entries_from o.first gone) e) m.opening has));
    }

pub knows_by : (n : ℕ) (o : Option Sweep) (v : Walking) (hand : Hand) (gone : List Command) (p : Record) → StandsBy n o v hand gone p → Knows hand gone p
knows_by n None Rests hand gone p h = knows hand gone p h.gathers
knows_by n None SweepTakes hand gone p h = absurd h
knows_by n None (SweepGives walk) hand gone p h = absurd h
knows_by n (Some sweep) Rests hand gone p h = knows hand gone p h.gathers
knows_by n (Some sweep) SweepTakes hand gone p h = knows hand gone p h.gathers
knows_by n (Some sweep) (SweepGives walk) hand gone p h = knows_on n hand gone h.begun p sweep.stripe walk (knows hand gone h.begun h.between.gathers) h.taken

pub taken_front : {D : Type 0} (states : D → List Files) (honest : D → Type 0) (n : ℕ) (done : List Command) (keeper : Keeper D) (p : Record) → Fits states honest n done keeper p → IsTakenFront done keeper.log.committed p
taken_front {D} states honest n done keeper p f =
    let staged : List Command = commands_of keeper.staged.items in
    let k = knows_by n keeper.sweeper.sweep keeper.sweeper.walking keeper.sweeper.in_hand (done ++ staged) p f.stands in
    record {
      rest = staged ++ k.front.0;
      front = k.front.1 ∙ append_assoc done staged k.front.0;
      reached = f.counts.committed;
      taken = λ e has. k.taken e (grown p.opening.first done staged e has);
    }

pub each_taken : {D : Type 0} (states : D → List Files) (honest : D → Type 0) (n : ℕ) (done : List Command) (keeper : Keeper D) (p : Record) → Fits states honest n done keeper p → (e : Entry) → Contains (entries_from p.opening.first p.seen) e → e.ticket < keeper.log.committed → Contains p.taken e
each_taken {D} states honest n done keeper p f e has low =
    let k = taken_front states honest n done keeper p f in
    k.taken e (shrunk p.opening.first done k.rest e (subst (λ (xs : List Command). Contains (entries_from p.opening.first xs) e) k.front has) (omega (arith, low, k.reached)))

run_taken_by : (n : ℕ) (o : Option Sweep) (v : Walking) (hand : Hand) (gone commands : List Command) (p : Record) → StandsBy n o v hand gone p → IsRun hand commands → WereTaken hand.next commands p
run_taken_by n None Rests hand gone commands p h run = taken_in_hand hand gone commands p.opening.first p.taken p.seen h.gathers.accounts run
run_taken_by n None SweepTakes hand gone commands p h run = absurd h
run_taken_by n None (SweepGives walk) hand gone commands p h run = absurd h
run_taken_by n (Some sweep) Rests hand gone commands p h run = taken_in_hand hand gone commands p.opening.first p.taken p.seen h.gathers.accounts run
run_taken_by n (Some sweep) SweepTakes hand gone commands p h run = taken_in_hand hand gone commands p.opening.first p.taken p.seen h.gathers.accounts run
run_taken_by n (Some sweep) (SweepGives walk) hand gone commands p h run = λ e has.
    let b = h.begun in
    subst (λ es. Contains es e) (sym (swept_grown n b sweep.stripe walk p h.taken).taken) (taken_in_hand hand gone commands b.opening.first b.taken b.seen h.between.gathers.accounts run e has)

pub run_taken : {D : Type 0} (states : D → List Files) (honest : D → Type 0) (n : ℕ) (done : List Command) (keeper : Keeper D) (p : Record) → Fits states honest n done keeper p → (commands : List Command) → IsRun keeper.sweeper.in_hand commands → WereTaken keeper.log.committed commands p
run_taken {D} states honest n done keeper p f commands run =
    subst (λ t. WereTaken t commands p) f.counts.next (run_taken_by n keeper.sweeper.sweep keeper.sweeper.walking keeper.sweeper.in_hand (done ++ commands_of keeper.staged.items) commands p f.stands run)

-- ---- the keys of what was taken

within_by : (n : ℕ) (o : Option Sweep) (v : Walking) (hand : Hand) (gone : List Command) (p : Record) → StandsBy n o v hand gone p → AreWithin p.opening.key_limit p.taken
within_by n None Rests hand gone p h = h.gathers.within
within_by n None SweepTakes hand gone p h = absurd h
within_by n None (SweepGives walk) hand gone p h = absurd h
within_by n (Some sweep) Rests hand gone p h = h.gathers.within
within_by n (Some sweep) SweepTakes hand gone p h = h.gathers.within
within_by n (Some sweep) (SweepGives walk) hand gone p h =
    let m : IsGrown h.begun p = swept_grown n h.begun sweep.stripe walk p h.taken in
    subst (λ (o : Opening). AreWithin o.key_limit p.taken) (sym m.opening) (subst (AreWithin h.begun.opening.key_limit) (sym m.taken) h.between.gathers.within)

-- a record of the log may have each key of a run in hand
pub run_allowed : {D : Type 0} (states : D → List Files) (honest : D → Type 0) (n : ℕ) (done : List Command) (keeper : Keeper D) (p : Record) → Fits states honest n done keeper p → (commands : List Command) → IsRun keeper.sweeper.in_hand commands
    → All (IsWithin (layout_of keeper.log.version).key_limit) commands
run_allowed {D} states honest n done keeper p f commands run k d low =
    let first : ℕ = keeper.log.committed in
    let e : Entry = entry (first + k) (get_or commands k d) in
    let has : Contains (entries_from first commands) e = there_is first commands e (record {
      low = omega arith;
      high = omega (arith, low);
      there = ap (λ i. get_or commands i e.command) (omega arith) ∙ get_or_default commands k e.command d low;
    }) in
    let within : IsWithin p.opening.key_limit e.command =
    within_by n keeper.sweeper.sweep keeper.sweeper.walking keeper.sweeper.in_hand (done ++ commands_of keeper.staged.items) p f.stands e (run_taken states honest n done keeper p f commands run e has) in
    omega (arith, within, f.keys)
