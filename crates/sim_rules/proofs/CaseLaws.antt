-- An event is skipped exactly where it doesn't fit.
use Rattle.std.proofs.Common.{◌≡◌, Bool, true, false, Option, Some, None, MatchBool, refl, sym, ap, subst}
use Rattle.store_layout.specs.Opening.{Opened}
use Rattle.sim_rules.specs.declared.event.Ending.{Ending}
use Rattle.sim_rules.specs.declared.event.Ending.TheVariants as ending
use Rattle.sim_rules.specs.declared.event.Event.{Event}
use Rattle.sim_rules.specs.declared.event.Event.TheVariants as event
use Rattle.sim_rules.specs.declared.event.Side.{Side}
use Rattle.sim_rules.specs.declared.event.Side.TheVariants as side
use Rattle.sim_rules.specs.declared.outcome.Outcome.{Outcome}
use Rattle.sim_rules.specs.declared.outcome.Outcome.TheVariants as outcome
use Rattle.sim_rules.specs.World.{World, Life}
use Rattle.sim_rules.specs.Fitting.{fits, fits_with}
use Rattle.sim_rules.specs.After.{after}
use Rattle.sim_rules.specs.Cases.{HappensInside, HappensOutside, HappensWith, MakesCall, StopsInside}
use Rattle.sim_rules.specs.Laws.{OldIsSkipped, SkippedWhereUnfit}

IsOther : Outcome → Type 0
IsOther outcome.Skipped = ⊥
IsOther x = Unit {0}

other : (x : Outcome) → IsOther x → outcome.Skipped ≡ x → ⊥
unfolding IsOther
other x is same = subst IsOther (sym same) is

no_call : (w : World) (l : Life) (s : Side) (e : Ending) → MakesCall w l s e outcome.Skipped → ⊥
no_call w l side.Log ending.Done h = h
no_call w l side.Log (ending.Fails fill) h = h
no_call w l side.Checkpoint ending.Done h = h
no_call w l side.Checkpoint (ending.Fails fill) h = h

no_stop : (w : World) (l : Life) (within : Option Side) → StopsInside w l within outcome.Skipped → ⊥
no_stop w l None h = h
no_stop w l (Some s) h = h

never_inside : (w : World) (l : Life) (e : Event) → HappensInside w l e outcome.Skipped → ⊥
unfolding IsOther
never_inside w l event.Old h = h
never_inside w l (event.Open stripes fails_at) h = h
never_inside w l (event.Change worker c) h = h
never_inside w l (event.Read worker r) h = other outcome.Started tt h
never_inside w l (event.Step worker) h = h
never_inside w l (event.Release worker) h = other outcome.Started tt h
never_inside w l event.Sweep h = h
never_inside w l event.KeeperStep h = h
never_inside w l (event.Stage most) h = h
never_inside w l (event.Device s e) h = no_call w l s e h
never_inside w l event.Publish h = h
never_inside w l event.Fail h = other outcome.FailMade tt h
never_inside w l event.Begin h = h
never_inside w l (event.Capture stripe) h = h
never_inside w l event.Seal h = h
never_inside w l (event.Stop within fill) h = no_stop w l within h
never_inside w l event.Leave h = other outcome.Left tt h

never_outside : (w : World) (found : Opened) (e : Event) → HappensOutside w found e outcome.Skipped → ⊥
never_outside w found event.Old h = h
never_outside w found (event.Open stripes fails_at) h = h
never_outside w found (event.Change worker c) h = h
never_outside w found (event.Read worker r) h = h
never_outside w found (event.Step worker) h = h
never_outside w found (event.Release worker) h = h
never_outside w found event.Sweep h = h
never_outside w found event.KeeperStep h = h
never_outside w found (event.Stage most) h = h
never_outside w found (event.Device s e) h = h
never_outside w found event.Publish h = h
never_outside w found event.Fail h = h
never_outside w found event.Begin h = h
never_outside w found (event.Capture stripe) h = h
never_outside w found event.Seal h = h
never_outside w found (event.Stop within fill) h = h
never_outside w found event.Leave h = h

never : (w : World) (life : Option Life) (found : Opened) (e : Event) → HappensWith w life found e outcome.Skipped → ⊥
never w None found e h = never_outside w found e h
never w (Some l) found e h = never_inside w l e h

unfit : (b : Bool) (A : Type 0) → (A → ⊥) → MatchBool b A (outcome.Skipped ≡ outcome.Skipped) → b ≡ false
unfit true A none h = absurd (none h)
unfit false A none h = refl

only_skipped : (b : Bool) (A B : Type 0) → b ≡ false → MatchBool b A B → B
only_skipped b A B is h = subst (λ x. MatchBool x A B) is h

pub skipped_where_unfit : SkippedWhereUnfit
skipped_where_unfit w found e = (
  (
    unfit (fits w e) (HappensWith w w.life found e outcome.Skipped) (never w w.life found e),
    λ is. subst (λ x. MatchBool x (HappensWith w w.life found e outcome.Skipped) (outcome.Skipped ≡ outcome.Skipped)) (sym is) refl,
  ),
  λ x is h. only_skipped (fits w e) (HappensWith w w.life found e x) (x ≡ outcome.Skipped) is h,
)

never_old : (w : World) (life : Option Life) (found : Opened) (x : Outcome) → MatchBool (fits_with life event.Old) (HappensWith w life found event.Old x) (x ≡ outcome.Skipped) → x ≡ outcome.Skipped
never_old w None found x h = h
never_old w (Some l) found x h = h

pub old_is_skipped : OldIsSkipped
unfolding after
old_is_skipped w found x meets =
    let is = never_old w w.life found x meets in
    (is, ap (λ (y : Outcome). after w found event.Old y) is)
