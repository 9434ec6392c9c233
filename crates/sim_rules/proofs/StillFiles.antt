-- Rows that leave the files as they are.
use Rattle.std.proofs.Common.{◌≡◌, Bool, true, false, Option, Some, None, refl}
use Rattle.store_layout.specs.Opening.{Opened}
use Rattle.sim_rules.specs.declared.event.Event.{Event}
use Rattle.sim_rules.specs.declared.event.Event.TheVariants as event
use Rattle.sim_rules.specs.declared.outcome.End.{End}
use Rattle.sim_rules.specs.declared.outcome.Made.{Made}
use Rattle.sim_rules.specs.declared.outcome.Outcome.{Outcome}
use Rattle.sim_rules.specs.declared.outcome.Outcome.TheVariants as outcome
use Rattle.sim_rules.specs.World.{World, Life}
use Rattle.sim_rules.specs.After.{after, after_inside, after_with, begun_or, published_or, sealing_or, staged_or, started_or, stepped_or}

-- the event makes no device call, and neither begins a life nor ends one
unfoldable pub is_still : Event → Bool
is_still (event.Open stripes fails_at) = false
is_still (event.Device side e) = false
is_still (event.Stop within fill) = false
is_still e = true

started_still : (x : Outcome) (w next : World) → next.files ≡ w.files → (started_or x w next).files ≡ w.files
started_still outcome.Started w next same = same
started_still x w next same = refl

stepped_still : (x : Outcome) (w : World) (next : Made → End → World) → ((m : Made) (end : End) → (next m end).files ≡ w.files) → (stepped_or x w next).files ≡ w.files
stepped_still (outcome.Stepped m end) w next same = same m end
stepped_still x w next same = refl

staged_still : (x : Outcome) (w : World) (l : Life) → (staged_or x w l).files ≡ w.files
staged_still (outcome.Staged n) w l = refl
staged_still x w l = refl

published_still : (x : Outcome) (w : World) (l : Life) → (published_or x w l).files ≡ w.files
published_still (outcome.Published n) w l = refl
published_still x w l = refl

begun_still : (x : Outcome) (w : World) (l : Life) → (begun_or x w l).files ≡ w.files
begun_still outcome.Begun w l = refl
begun_still x w l = refl

sealing_still : (x : Outcome) (w : World) (l : Life) → (sealing_or x w l).files ≡ w.files
sealing_still outcome.Sealing w l = refl
sealing_still x w l = refl

not_still : false ≡ true → ⊥
not_still e = cc

inside_still : (w : World) (l : Life) (e : Event) (x : Outcome) → is_still e ≡ true → (after_inside w l e x).files ≡ w.files
unfolding is_still
inside_still w l (event.Change worker c) x is = started_still x w _ refl
inside_still w l (event.Read worker r) x is = started_still x w _ refl
inside_still w l (event.Release worker) x is = started_still x w _ refl
inside_still w l (event.Step worker) x is = stepped_still x w _ (λ m end. refl)
inside_still w l event.Sweep x is = stepped_still x w _ (λ m end. refl)
inside_still w l event.KeeperStep x is = stepped_still x w _ (λ m end. refl)
inside_still w l (event.Stage most) x is = staged_still x w l
inside_still w l event.Publish x is = published_still x w l
inside_still w l event.Fail x is = refl
inside_still w l event.Begin x is = begun_still x w l
inside_still w l (event.Capture stripe) x is = stepped_still x w _ (λ m end. refl)
inside_still w l event.Seal x is = sealing_still x w l
inside_still w l event.Leave x is = refl
inside_still w l event.Old x is = refl
inside_still w l (event.Open stripes fails_at) x is = absurd (not_still is)
inside_still w l (event.Device side e) x is = absurd (not_still is)
inside_still w l (event.Stop within fill) x is = absurd (not_still is)

life_still : (w : World) (life : Option Life) (found : Opened) (e : Event) (x : Outcome) → is_still e ≡ true → (after_with w life found e x).files ≡ w.files
unfolding is_still
life_still w (Some l) found e x is = inside_still w l e x is
life_still w None found (event.Open stripes fails_at) x is = absurd (not_still is)
life_still w None found (event.Stop within fill) x is = absurd (not_still is)
life_still w None found e x is = refl

pub row_still : (w : World) (found : Opened) (e : Event) (x : Outcome) → is_still e ≡ true → (after w found e x).files ≡ w.files
unfolding after
row_still w found e outcome.Skipped is = refl
row_still w found e x is = life_still w w.life found e x is
