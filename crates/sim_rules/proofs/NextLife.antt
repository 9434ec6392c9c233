-- Between lives each event keeps what the loop of a run keeps; and what an opening finds.
use Rattle.std.proofs.Common.{◌≡◌, ◌⊎◌, inl, inr, ◌-◌, ℕ, Bool, true, false, List, ◌∷◌, take, Option, None, Some, MatchBool}
use Rattle.std.proofs.Common.{refl, sym, ap, ◌∙◌, subst, arith}
use Rattle.std.specs.FinMap as finite
use Rattle.map_types.specs.declared.commands.Command.{Command}
use Rattle.map_types.specs.declared.refusals.Refusal.{Refusal}
use Rattle.map_types.specs.declared.refusals.Refusal.TheVariants as refusal
use Rattle.map_model.specs.Maps.{Map}
use Rattle.map_model.specs.Histories.{fold_to}
use Rattle.map_model.specs.Steps.{fold_of, map_after}
use Rattle.java_hash.specs.declared.stripe_count.StripeCount.{StripeCount}
use Rattle.ticket_order.specs.declared.record.Call.{Call}
use Rattle.disk_model.specs.Files.{Files}
use Rattle.disk_model.specs.declared.fill.Fill.{Fill}
use Rattle.store_layout.specs.Opening.{Opened, Refuses, StandsFor, map_of, prefix_of}
use Rattle.store_layout.specs.OpeningLaws.{NeverBoth, OneStanding}
use Rattle.sim_rules.specs.declared.event.Event.{Event}
use Rattle.sim_rules.specs.declared.event.Event.TheVariants as event
use Rattle.sim_rules.specs.declared.event.Side.{Side}
use Rattle.sim_rules.specs.declared.outcome.Outcome.{Outcome}
use Rattle.sim_rules.specs.declared.outcome.Outcome.TheVariants as outcome
use Rattle.sim_rules.specs.Laws.{FrontIsFound, NextLifeBegins, StandingFilesOpen}
use Rattle.sim_rules.specs.Machine.{Opens, whole}
use Rattle.sim_rules.specs.World.{World, Life, begun_by, seen_of}
use Rattle.sim_rules.specs.Fitting.{fits, fits_with}
use Rattle.sim_rules.specs.After.{after}
use Rattle.sim_rules.specs.Cases.{HappensOutside, HappensWith, Meets, OpensFiles, StopsOutside}
use Rattle.sim_rules.specs.Runs.{Row, Happens, IsMove, OpensWell}
use Rattle.sim_rules.specs.Sound.{IsFront, IsSound, IsSoundInside, IsSoundOutside, OpensFront, Stays, durable_or}
use Rattle.sim_rules.proofs.RunLaws.{opens_outside, quiet_outside, stops_outside}

-- ---- between lives

abbrev lifeless : Files → List Command → World
lifeless files history = record { files = files; history = history; life = None }

-- it happens, and the files stand for what they have to
abbrev Occurs : Files → List Command → ℕ → Opened → Event → Outcome → Type 0
Occurs files history least found e x =
    Happens (lifeless files history) (e, x) (after (lifeless files history) found e x)
    × Stays (lifeless files history) least (e, x) (after (lifeless files history) found e x) (durable_or (after (lifeless files history) found e x).life least)

abbrev Goes : World → List Row → Files → List Command → List Call → ℕ → Opened → Event → Outcome → Type 0
Goes from rows files history released least found e x = IsSound from ((e, x) ∷ rows) (after (lifeless files history) found e x) least released

module _ (from : World) (rows : List Row) (files : Files) (history : List Command) (released : List Call) (least : ℕ) (found : Opened) (sound : IsSoundOutside from rows (lifeless files history) least released) where
  quiet : (e : Event) (x : Outcome) (w' : World) → Happens (lifeless files history) (e, x) w' × Stays (lifeless files history) least (e, x) w' least → IsMove (lifeless files history) e x None
      → w'.history ≡ history → IsSoundOutside from ((e, x) ∷ rows) w' least released
  quiet e x w' occurs none same = quiet_outside from rows (lifeless files history) least released (e, x) w' sound occurs.0 occurs.1 none same

  skipped_goes : (e : Event) → Occurs files history least found e outcome.Skipped → Goes from rows files history released least found e outcome.Skipped
  unfolding after
  skipped_goes e occurs = quiet e outcome.Skipped _ occurs refl refl

  by_outcome : (e : Event) (x y : Outcome) → x ≡ y → (Occurs files history least found e y → Goes from rows files history released least found e y) → Occurs files history least found e x
      → Goes from rows files history released least found e x
  by_outcome e x y is goes = subst (λ (z : Outcome). Occurs files history least found e z → Goes from rows files history released least found e z) (sym is) goes

  -- an opening that finds a front
  found_goes : (stripes : StripeCount) (fails_at : Option ℕ) (prefix : ℕ) (w' : World) (x : Outcome) → Happens (lifeless files history) (event.Open stripes fails_at, x) w'
      → Stays (lifeless files history) least (event.Open stripes fails_at, x) w' (prefix_of found)
      → ((m : Map) → m ≡ map_of found → IsMove (lifeless files history) (event.Open stripes fails_at) x (Some (Opens prefix m)))
      → w'.history ≡ take prefix history → prefix ≡ prefix_of found → IsFront (lifeless files history) least found
      → IsSoundInside from ((event.Open stripes fails_at, x) ∷ rows) w' (prefix_of found) released
  found_goes stripes fails_at prefix w' x happens stays move same prefix_is front =
      subst (λ (p : ℕ). IsSoundInside from ((event.Open stripes fails_at, x) ∷ rows) w' p released) prefix_is
      (opens_outside from rows (lifeless files history) least released (event.Open stripes fails_at, x) w' prefix (map_of found) sound happens
      (subst (λ (p : ℕ). Stays (lifeless files history) least (event.Open stripes fails_at, x) w' p) (sym prefix_is) stays) (move (map_of found) refl) same
      (omega (arith, front.from_least, prefix_is)) (omega (arith, front.within, prefix_is)) (front.map ∙ ap (λ (p : ℕ). fold_of (take p history)) (sym prefix_is)))

  open_goes : (stripes : StripeCount) (fails_at : Option ℕ) (x : Outcome) → Occurs files history least found (event.Open stripes fails_at) x → OpensFiles (lifeless files history) found fails_at x
      → OpensFront (lifeless files history) least found x → Goes from rows files history released least found (event.Open stripes fails_at) x
  unfolding after begun_by
  open_goes stripes fails_at (outcome.Opened calls prefix entries) occurs case front =
      found_goes stripes fails_at prefix _ (outcome.Opened calls prefix entries) occurs.0 occurs.1 (λ m is. (m, case.2.entries_are ∙ ap (λ (n : Map). finite.entries n) (sym is), refl)) refl case.2.prefix_is front
  open_goes stripes fails_at (outcome.NotOpened calls reason) occurs case front = quiet (event.Open stripes fails_at) (outcome.NotOpened calls reason) _ occurs refl refl
  open_goes stripes fails_at x occurs case front = absurd case

  stop_goes : (within : Option Side) (fill : Fill) (x : Outcome) → Occurs files history least found (event.Stop within fill) x → StopsOutside x
      → Goes from rows files history released least found (event.Stop within fill) x
  unfolding after
  stop_goes within fill (outcome.Stopped None) occurs case =
      stops_outside from rows (lifeless files history) least released (event.Stop within fill, outcome.Stopped None) _ sound occurs.0 occurs.1 (λ p. (p, refl)) refl
  stop_goes within fill x occurs case = absurd case

  fitting_goes : (e : Event) (x : Outcome) → Occurs files history least found e x → HappensOutside (lifeless files history) found e x → OpensFront (lifeless files history) least found x
      → Goes from rows files history released least found e x
  fitting_goes (event.Open stripes fails_at) x occurs case front = open_goes stripes fails_at x occurs case front
  fitting_goes (event.Stop within fill) x occurs case front = stop_goes within fill x occurs case
  fitting_goes e x occurs case front = absurd case

  event_goes : (b : Bool) (e : Event) (x : Outcome) → fits (lifeless files history) e ≡ b → Meets (lifeless files history) found e x → Occurs files history least found e x
      → OpensFront (lifeless files history) least found x → Goes from rows files history released least found e x
  event_goes true e x is meets occurs front =
      fitting_goes e x occurs (subst (λ (b : Bool). MatchBool b (HappensOutside (lifeless files history) found e x) (x ≡ outcome.Skipped)) is meets) front
  event_goes false e x is meets occurs front =
      by_outcome e x outcome.Skipped (subst (λ (b : Bool). MatchBool b (HappensOutside (lifeless files history) found e x) (x ≡ outcome.Skipped)) is meets) (skipped_goes e) occurs

pub next_life_begins : NextLifeBegins
next_life_begins from rows w released least e x w' none sound happens stays front =
    subst (λ (y : Option Life). IsSoundOutside from rows (record { files = w.files; history = w.history; life = y }) least released
    → (h : Happens (record { files = w.files; history = w.history; life = y }) (e, x) w') → Stays (record { files = w.files; history = w.history; life = y }) least (e, x) w' (durable_or w'.life least)
    → OpensFront (record { files = w.files; history = w.history; life = y }) least h.found x → IsSound from ((e, x) ∷ rows) w' least released)
    (sym none)
    (λ sound happens stays front.
    let v : World = lifeless w.files w.history in
    subst (λ (next : World). IsSound from ((e, x) ∷ rows) next least released) (sym happens.world)
    (event_goes from rows w.files w.history released least happens.found sound (fits v e) e x refl happens.meets
    (subst (λ (next : World). Happens v (e, x) next × Stays v least (e, x) next (durable_or next.life least)) happens.world (happens, stays)) front))
    sound happens stays front

-- ---- what an opening finds

pub front_is_found : OneStanding → FrontIsFound
front_is_found one w least most found holds front =
    let standing : StandsFor (seen_of w.files) (prefix_of found) (map_of found) = record { found = found; holds = holds; prefix = refl; map = refl } in
    let same = one (seen_of w.files) (prefix_of found) front.count (map_of found) (fold_to (whole w.history) front.count) standing front.stands in
    record {
      from_least = omega (arith, same.0, front.from_least);
      within = omega (arith, same.0, front.within);
      map = same.1 ∙ ap (λ (p : ℕ). map_after finite.empty (take p w.history)) (let all : front.count - 0 ≡ prefix_of found = omega (arith, same.0) in all);
    }

IsOther : Outcome → Type 0
IsOther outcome.Skipped = ⊥
IsOther x = Unit {0}

module _ (never_both : NeverBoth) (w : World) (p : ℕ) (m : Map) (stands : StandsFor (seen_of w.files) p m) where
  wanting : (fails_at : Option ℕ) (calls : ℕ) (reason : Refusal) → (reason ≡ refusal.NoMemory) ⊎ Refuses (seen_of w.files) reason → (reason ≡ refusal.NoMemory) ⊎ ((reason ≡ refusal.Failed) × (fails_at ≡ Some calls))
  wanting fails_at calls reason (inl is) = inl is
  wanting fails_at calls reason (inr refuses) = absurd (never_both (seen_of w.files) p m reason stands refuses)

  refused_well : (found : Opened) (fails_at : Option ℕ) (calls : ℕ) (reason : Refusal) → OpensFiles w found fails_at (outcome.NotOpened calls reason) → (reason ≡ refusal.NoMemory) ⊎ ((reason ≡ refusal.Failed) × (fails_at ≡ Some calls))
  refused_well found fails_at calls refusal.Failed case = inr (refl, case.1)
  refused_well found fails_at calls reason case = wanting fails_at calls reason case.2

  refused_by : (life : Option Life) (found : Opened) (stripes : StripeCount) (fails_at : Option ℕ) (calls : ℕ) (reason : Refusal)
      → MatchBool (fits_with life (event.Open stripes fails_at)) (HappensWith w life found (event.Open stripes fails_at) (outcome.NotOpened calls reason)) (outcome.NotOpened calls reason ≡ outcome.Skipped)
      → (reason ≡ refusal.NoMemory) ⊎ ((reason ≡ refusal.Failed) × (fails_at ≡ Some calls))
  unfolding IsOther
  refused_by None found stripes fails_at calls reason meets = refused_well found fails_at calls reason meets
  refused_by (Some l) found stripes fails_at calls reason meets = absurd (subst IsOther meets tt)

  opens_well : (found : Opened) (e : Event) (x : Outcome) → Meets w found e x → OpensWell (e, x)
  opens_well found (event.Open stripes fails_at) (outcome.NotOpened calls reason) meets = refused_by w.life found stripes fails_at calls reason meets
  opens_well found e x meets = tt

pub standing_files_open : NeverBoth → StandingFilesOpen
standing_files_open never_both w p m e x w' stands happens = opens_well never_both w p m stands happens.found e x happens.meets
