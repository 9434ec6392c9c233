-- What an event leaves of a store, from what it leaves of the life, and where it is skipped.
use Rattle.std.proofs.Common.{◌≡◌, ℕ, [], Bool, Option, None, Some, Result, Ok, Err, IfOk, MatchBool, Vec, Global, false, true, refl, sym, ◌∙◌, ap, subst}
use Rattle.store_layout.specs.Opening.{Opened}
use Rattle.java_hash.specs.declared.stripe_count.StripeCount.{StripeCount}
use Rattle.disk_model.specs.declared.fill.Fill.{Fill}
use Rattle.one_history.specs.declared.book.Book.{Book}
use Rattle.sim_rules.specs.declared.event.Side.{Side}
use Rattle.sim_rules.specs.declared.event.Side.TheVariants as side
use Rattle.sim_rules.specs.declared.event.Ending.TheVariants as ending
use Rattle.sim_rules.specs.declared.outcome.MapEntry.{MapEntry}
use Rattle.sim_workers.specs.Doings.{Doing}
use Rattle.sim_workers.specs.Workers.{StandWith}
use Rattle.schedule_sim.specs.Workers.{doings_of}
use Rattle.schedule_sim.proofs.LivesParts.{life_there}
use Rattle.sim_rules.specs.declared.event.Event.{Event}
use Rattle.sim_rules.specs.declared.event.Event.TheVariants as event
use Rattle.sim_rules.specs.declared.outcome.Outcome.{Outcome}
use Rattle.sim_rules.specs.declared.outcome.Outcome.TheVariants as outcome
use Rattle.sim_rules.specs.World.{World, Life}
use Rattle.sim_rules.specs.After.{after}
use Rattle.sim_rules.specs.Cases.{HappensInside, HappensWith, Meets}
use Rattle.sim_rules.specs.Fitting.{fits, fits_with}
use Rattle.sim_rules.specs.Runs.{OpensWell}
use Rattle.sim_rules.specs.Sound.{OpensFront}
use Rattle.schedule_sim.specs.declared.life.Life as sim
use Rattle.schedule_sim.specs.declared.store.Store.{Store}
use Rattle.schedule_sim.specs.declared.store.Store.TheVariants.{Closed, Open}
use Rattle.schedule_sim.specs.declared.traced.Traced.{Traced}
use Rattle.schedule_sim.specs.Living.{Did, IsLife, is_of_life}
use Rattle.schedule_sim.specs.Storing.{DidStore, IsClosed, IsDurable, IsNext, IsStore, StopsWithin}

-- what an opening found where none was made
pub nothing : Opened
nothing = record { checkpoint = record { generation = 0; low = 0; stripes = 0; sections = [] }; first = []; second = None }

-- ---- an event that doesn't fit

next_same : (least : ℕ) (o : Option Life) → IsNext least least o
next_same least None = refl
next_same least (Some l) = tt

opens_well : (e : Event) → OpensWell (e, outcome.Skipped)
opens_well (event.Open stripes fails_at) = tt
opens_well e = tt

within_none : (w : World) (least : ℕ) (e : Event) → StopsWithin w least e outcome.Skipped
within_none w least (event.Stop within fill) = tt
within_none w least e = tt

pub skipped : (w : World) (least : ℕ) (e : Event) (store : Store) → fits w e ≡ false → IsStore w least store → DidStore w least e outcome.Skipped store
unfolding after
skipped w least e store unfit stands = record {
  found = nothing;
  meets = subst (λ b. MatchBool b (HappensWith w w.life nothing e outcome.Skipped) (outcome.Skipped ≡ outcome.Skipped)) (sym unfit) refl;
  answers = tt;
  front = tt;
  opens = opens_well e;
  within = within_none w least e;
  next = least;
  next_is = next_same least w.life;
  stands = stands;
}

-- between lives an event of a life is skipped
unfit_outside : (w : World) (e : Event) → w.life ≡ None → is_of_life e ≡ true → fits w e ≡ false
unfit_outside w (event.Open stripes fails_at) none is = absurd (let never : false ≡ true = is in cc)
unfit_outside w (event.Stop within fill) none is = absurd (let never : false ≡ true = is in cc)
unfit_outside w event.Leave none is = absurd (let never : false ≡ true = is in cc)
unfit_outside w event.Old none is = absurd (let never : false ≡ true = is in cc)
unfit_outside w e none is = rw none refl

pub skipped_outside : (w : World) (least : ℕ) (e : Event) (disk : Traced) → is_of_life e ≡ true → IsClosed w least disk → DidStore w least e outcome.Skipped (Closed disk)
skipped_outside w least e disk is stands = skipped w least e (Closed disk) (unfit_outside w e stands.life is) stands

-- no life is there to be left, or to be stopped within a call
pub skipped_leave : (w : World) (least : ℕ) (disk : Traced) → IsClosed w least disk → DidStore w least event.Leave outcome.Skipped (Closed disk)
skipped_leave w least disk stands = skipped w least event.Leave (Closed disk) (rw stands.life refl) stands

-- an Old fits in no world
old_unfit : (o : Option Life) → fits_with o event.Old ≡ false
old_unfit None = refl
old_unfit (Some l) = refl

pub skipped_old : (w : World) (least : ℕ) (store : Store) → IsStore w least store → DidStore w least event.Old outcome.Skipped store
skipped_old w least store stands = skipped w least event.Old store (old_unfit w.life) stands

-- ---- an event of a life

-- the durable count of the life after it
durable_of : (o : Option Life) (w : World) (b : Book) (doings : ℕ → Doing) → StandWith b w o doings → (n : ℕ) × IsDurable n o
durable_of None w b doings stands = absurd stands
durable_of (Some l) w b doings stands = (l.durable, refl)

next_of : (least next : ℕ) (o : Option Life) → IsDurable next o → IsNext least next o
next_of least next None is = absurd is
next_of least next (Some l) is = tt

opens_none : (e : Event) (x : Outcome) → is_of_life e ≡ true → OpensWell (e, x)
opens_none (event.Open stripes fails_at) x is = absurd (let never : false ≡ true = is in cc)
opens_none e x is = tt

-- none of them is a stop
within_life : (w : World) (least : ℕ) (e : Event) (x : Outcome) → is_of_life e ≡ true → StopsWithin w least e x
within_life w least (event.Stop within fill) x is = absurd (let never : false ≡ true = is in cc)
within_life w least e x is = tt

-- no event of a life opens a store
opened_inside : (w : World) (l : Life) (e : Event) (calls prefix : ℕ) (entries : Vec MapEntry Global) → is_of_life e ≡ true → HappensInside w l e (outcome.Opened calls prefix entries) → ⊥
opened_inside w l (event.Open stripes fails_at) calls prefix entries is happened = happened
opened_inside w l (event.Stop within fill) calls prefix entries is happened = let e : false ≡ true = is in cc
opened_inside w l event.Leave calls prefix entries is happened = let e : false ≡ true = is in cc
opened_inside w l event.Old calls prefix entries is happened = happened
opened_inside w l (event.Change worker c) calls prefix entries is happened = happened
opened_inside w l (event.Read worker r) calls prefix entries is happened = cc
opened_inside w l (event.Release worker) calls prefix entries is happened = cc
opened_inside w l (event.Step worker) calls prefix entries is happened = happened
opened_inside w l event.Sweep calls prefix entries is happened = happened
opened_inside w l event.KeeperStep calls prefix entries is happened = happened
opened_inside w l (event.Stage most) calls prefix entries is happened = happened
opened_inside w l (event.Device side.Log ending.Done) calls prefix entries is happened = happened
opened_inside w l (event.Device side.Log (ending.Fails fill)) calls prefix entries is happened = happened
opened_inside w l (event.Device side.Checkpoint ending.Done) calls prefix entries is happened = happened
opened_inside w l (event.Device side.Checkpoint (ending.Fails fill)) calls prefix entries is happened = happened
opened_inside w l event.Publish calls prefix entries is happened = happened
opened_inside w l event.Fail calls prefix entries is happened = cc
opened_inside w l event.Begin calls prefix entries is happened = happened
opened_inside w l (event.Capture stripe) calls prefix entries is happened = happened
opened_inside w l event.Seal calls prefix entries is happened = happened

opened_by : (b : Bool) (w : World) (l : Life) (e : Event) (x : Outcome) (calls prefix : ℕ) (entries : Vec MapEntry Global) → is_of_life e ≡ true → x ≡ outcome.Opened calls prefix entries
    → MatchBool b (HappensInside w l e x) (x ≡ outcome.Skipped) → ⊥
opened_by true w l e x calls prefix entries is was meets = opened_inside w l e calls prefix entries is (subst (λ y. HappensInside w l e y) was meets)
opened_by false w l e x calls prefix entries is was meets = let never : outcome.Opened calls prefix entries ≡ outcome.Skipped = sym was ∙ meets in cc

front_by : (w : World) (least : ℕ) (x : Outcome) → ((calls prefix : ℕ) (entries : Vec MapEntry Global) → x ≡ outcome.Opened calls prefix entries → ⊥) → OpensFront w least nothing x
front_by w least (outcome.Opened calls prefix entries) none = absurd (none calls prefix entries refl)
front_by w least x none = tt

front_none : (w : World) (least : ℕ) (l : Life) (e : Event) (x : Outcome) → w.life ≡ Some l → is_of_life e ≡ true → Meets w nothing e x → OpensFront w least nothing x
front_none w least l e x life is meets = front_by w least x (λ calls prefix entries was. opened_by (fits w e) w l e x calls prefix entries is was (subst (λ o. MatchBool (fits w e) (HappensWith w o nothing e x) (x ≡ outcome.Skipped)) life meets))

pub life_did : (w : World) (least : ℕ) (e : Event) (x : Outcome) (old life : sim.Life) → IsLife w old → is_of_life e ≡ true → Did w e x life → DidStore w least e x (Open life)
life_did w least e x old life was is did =
    let there = life_there w old.keeper old.words old.jobs.items was in
    let stands = did.stands nothing in
    let next = durable_of (after w nothing e x).life (after w nothing e x) life.words (doings_of life.jobs.items) stands.workers_stand in
    record {
      found = nothing;
      meets = did.meets nothing;
      answers = did.answers;
      front = front_none w least there.0 e x there.1.life is (did.meets nothing);
      opens = opens_none e x is;
      within = within_life w least e x is;
      next = next.0;
      next_is = next_of least next.0 (after w nothing e x).life next.1;
      stands = (stands, next.1);
    }

-- in a life no store is opened
pub skipped_open : (w : World) (least : ℕ) (stripes : StripeCount) (fails_at : Option ℕ) (life : sim.Life) → IsStore w least (Open life) → DidStore w least (event.Open stripes fails_at) outcome.Skipped (Open life)
skipped_open w least stripes fails_at life stands =
    let there = life_there w life.keeper life.words life.jobs.items stands.0 in
    skipped w least (event.Open stripes fails_at) (Open life) (ap (λ o. fits_with o (event.Open stripes fails_at)) there.1.life) stands

pub skipped_stop : (w : World) (least : ℕ) (s : Side) (fill : Fill) (disk : Traced) → IsClosed w least disk → DidStore w least (event.Stop (Some s) fill) outcome.Skipped (Closed disk)
skipped_stop w least s fill disk stands = skipped w least (event.Stop (Some s) fill) (Closed disk) (rw stands.life refl) stands

-- ---- any other event

-- what neither begins a run or a life nor ends one is an event of a life
pub of_life : (e : Event) → (e ≡ event.Old → ⊥) → ((stripes : StripeCount) (fails_at : Option ℕ) → e ≡ event.Open stripes fails_at → ⊥)
    → ((within : Option Side) (fill : Fill) → e ≡ event.Stop within fill → ⊥) → (e ≡ event.Leave → ⊥) → is_of_life e ≡ true
of_life event.Old no_old no_open no_stop no_leave = absurd (no_old refl)
of_life (event.Open stripes fails_at) no_old no_open no_stop no_leave = absurd (no_open stripes fails_at refl)
of_life (event.Stop within fill) no_old no_open no_stop no_leave = absurd (no_stop within fill refl)
of_life event.Leave no_old no_open no_stop no_leave = absurd (no_leave refl)
of_life e no_old no_open no_stop no_leave = refl

-- what it did, if it is one
pub if_did : {E : Type 0} (r : Result (Store × Outcome) E) (old : Store) (e : Event) → is_of_life e ≡ true
    → IfOk r (λ x. (w : World) (least : ℕ) → IsStore w least old → is_of_life e ≡ true → DidStore w least e x.1 x.0)
    → IfOk r (λ x. (w : World) (least : ℕ) → IsStore w least old → DidStore w least e x.1 x.0)
if_did (Ok x) old e is did = λ w least stands. did w least stands is
if_did (Err e) old f is did = did
