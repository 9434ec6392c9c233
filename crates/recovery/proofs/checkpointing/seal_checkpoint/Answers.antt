use Rattle.std.proofs.Common.{◌≡◌, ◌+◌, inl, [], ℕ, ap, ◌∙◌, arith}
use Rattle.std.proofs.lemmas.Result.{err_from_is_err_and}
use Rattle.map_types.specs.declared.refusals.Refusal.TheVariants.{Failed}
use Rattle.java_hash.specs.declared.stripe_count.StripeCount.{StripeCount}
use Rattle.one_history.specs.Turns.{record_of}
use Rattle.flusher.specs.declared.keeper.Keeper.{Keeper}
use Rattle.checkpoint_walk.specs.Checkpointing.{MayBegin}
use Rattle.recovery.proofs.GateClosing.{on_ok, on_ok2}
use Rattle.recovery.proofs.OpeningLemmas.{if_err}
use Rattle.recovery.proofs.Sections.{all_given, opens, opens_sealed, published_all, seals, unmoved_with}
use Rattle.recovery.proofs.Unmoved.{through}
use Rattle.recovery.proofs.StaysUnmoved.{begun, called, captured, left, sealed, stood}
use Rattle.recovery.proofs.RefusedBehind.{begin_refused, checkpoint_refused, not_broken, not_rotated, not_sealed}
use Rattle.recovery.proofs.checkpointing.seal_checkpoint.Goals as goal

pub returns-in_err-begin-clause-err : goal.returns-in_err-begin-clause-err
returns-in_err-begin-clause-err g c =
    let q = err_from_is_err_and c.from_residual.result c.from_residual.ensures.1 in
    let k = c.args.keeper.now in
    let F : Type 0 = g.D.Disk.failures c.begin.new.keeper.disk ≡ g.D.Disk.failures k.disk + 1 in
    let e = c.in_err-begin.field-0.0 in
    rw (q.1, q.2) (λ o is.
    begin_refused F (MayBegin k) k.stripes.count o.map k.sealed e (λ below. record { none_runs = c.requires.none_runs.1; no_rotation = c.requires.none_runs.0; fits = below; rests = λ same. absurd (c.requires.goes_with same) })
    (not_rotated F (MayBegin k) c.begin.result e c.in_err-begin.was c.in_err-begin.ensures.no_other (λ failed. not_broken k.is_broken is.unmoved.works (c.begin.ensures.failed.0 failed)) (λ wrong. (c.begin.ensures.wrong_phase.0 wrong).1)))

pub advance-requires-clause-unmoved : goal.advance-requires-clause-unmoved
advance-requires-clause-unmoved g c =
    let a = c.args.steps.now in
    let far = begun g.D.Disk.states g.D.Disk.honest c.args.keeper.now a c.begin.new.keeper c.begin.ensures.same c.begin.ensures.fits c.stops_of_a_keeper.ensures in
    let first = c.requires.unmoved in
    (a.words.now.stripes, first.0, record_of a.pass a.words.now, (far.unmoved first.0 first.1).unmoved)

pub returns-in_err-advance-clause-stands : goal.returns-in_err-advance-clause-stands
returns-in_err-advance-clause-stands g c =
    let states = g.D.Disk.states in
    let honest = g.D.Disk.honest in
    let k = c.args.keeper.now in
    let a = c.args.steps.now in
    let b = a.words.now in
    let k1 = c.begin.new.keeper in
    let far = begun states honest k a k1 c.begin.ensures.same c.begin.ensures.fits c.stops_of_a_keeper.ensures in
    stood states honest k a k1 a far c.advance.new.keeper (λ o. c.advance.ensures.stands b.stripes o (record_of a.pass b))

pub returns-in_err-advance-clause-err : goal.returns-in_err-advance-clause-err
returns-in_err-advance-clause-err g c =
    let q = err_from_is_err_and c.from_residual-in_err-advance.result c.from_residual-in_err-advance.ensures.1 in
    let failed = c.in_err-advance.ensures.err in
    rw (q.1, q.2) (λ o is. inl (inl (failed.0, failed.1 ∙ ap (λ (x : Keeper _). g.D.Disk.failures x.disk + 1) c.begin.ensures.same)))

pub capture_all-requires-clause-begun : goal.capture_all-requires-clause-begun
capture_all-requires-clause-begun g c =
    let states = g.D.Disk.states in
    let honest = g.D.Disk.honest in
    let k = c.args.keeper.now in
    let a = c.args.steps.now in
    let b = a.words.now in
    let k1 = c.begin.new.keeper in
    let k2 = c.advance.new.keeper in
    let far1 = begun states honest k a k1 c.begin.ensures.same c.begin.ensures.fits c.stops_of_a_keeper.ensures in
    let far2 = called states honest k a k1 a far1 k2 (λ o. c.advance.ensures.stands b.stripes o (record_of a.pass b)) (λ o. c.in_ok-advance.ensures.unmoved b.stripes o (record_of a.pass b)) in
    let first = c.requires.unmoved in (
      first.0,
      k.sealed + 1,
      far2.unmoved first.0 first.1,
      opens k1 k2 (k.sealed + 1) k.log.low k.stripes.count first.0.first k.must_close (c.in_ok-begin.ensures.ok.goes_with c.requires.goes_with).1 c.in_ok-advance.ensures.checkpoints,
    )

pub returns-in_err-capture_all-clause-stands : goal.returns-in_err-capture_all-clause-stands
returns-in_err-capture_all-clause-stands g c =
    let states = g.D.Disk.states in
    let honest = g.D.Disk.honest in
    let k = c.args.keeper.now in
    let a = c.args.steps.now in
    let b = a.words.now in
    let k1 = c.begin.new.keeper in
    let k2 = c.advance.new.keeper in
    let far1 = begun states honest k a k1 c.begin.ensures.same c.begin.ensures.fits c.stops_of_a_keeper.ensures in
    let far2 = called states honest k a k1 a far1 k2 (λ o. c.advance.ensures.stands b.stripes o (record_of a.pass b)) (λ o. c.in_ok-advance.ensures.unmoved b.stripes o (record_of a.pass b)) in
    λ o is. through states honest o.first o.map k.disk k2.disk c.capture_all.new.keeper.disk (far2.stands o is) (c.capture_all.ensures.stands o (far2.unmoved o is))

pub returns-in_err-capture_all-clause-err : goal.returns-in_err-capture_all-clause-err
returns-in_err-capture_all-clause-err g c =
    let states = g.D.Disk.states in
    let failures = g.D.Disk.failures in
    let honest = g.D.Disk.honest in
    let k = c.args.keeper.now in
    let a = c.args.steps.now in
    let b = a.words.now in
    let k1 = c.begin.new.keeper in
    let k2 = c.advance.new.keeper in
    let k3 = c.capture_all.new.keeper in
    let far1 = begun states honest k a k1 c.begin.ensures.same c.begin.ensures.fits c.stops_of_a_keeper.ensures in
    let far2 = called states honest k a k1 a far1 k2 (λ o. c.advance.ensures.stands b.stripes o (record_of a.pass b)) (λ o. c.in_ok-advance.ensures.unmoved b.stripes o (record_of a.pass b)) in
    let counted : failures k2.disk ≡ failures k.disk = c.in_ok-advance.ensures.counted ∙ ap (λ (x : Keeper _). failures x.disk) c.begin.ensures.same in
    let count : k2.stripes.count ≡ k.stripes.count = ap (λ (s : StripeCount). s.count) (c.advance.ensures.stripes ∙ ap (λ (x : Keeper _). x.stripes) c.begin.ensures.same) in
    let q = err_from_is_err_and c.from_residual-in_err-capture_all.result c.from_residual-in_err-capture_all.ensures.1 in
    rw (q.1, q.2) (λ o is. inl (
    checkpoint_refused (failures k3.disk ≡ failures k2.disk + 1) (failures k3.disk ≡ failures k.disk + 1) k2.stripes.count k.stripes.count o.map c.in_err-capture_all.field-0.0 (λ failing. failing ∙ ap (λ (n : ℕ). n + 1) counted) count
    (c.in_err-capture_all.ensures.err o (far2.unmoved o is))))

pub seal-requires : goal.seal-requires
seal-requires g c =
    let states = g.D.Disk.states in
    let honest = g.D.Disk.honest in
    let k = c.args.keeper.now in
    let a = c.args.steps.now in
    let b = a.words.now in
    let k1 = c.begin.new.keeper in
    let k2 = c.advance.new.keeper in
    let a3 = c.capture_all.new.steps in
    let far1 = begun states honest k a k1 c.begin.ensures.same c.begin.ensures.fits c.stops_of_a_keeper.ensures in
    let far2 = called states honest k a k1 a far1 k2 (λ o. c.advance.ensures.stands b.stripes o (record_of a.pass b)) (λ o. c.in_ok-advance.ensures.unmoved b.stripes o (record_of a.pass b)) in
    let far3 = captured states honest k a k2 a far2 c.capture_all.new.keeper a3 c.capture_all.ensures.stands c.in_ok-capture_all.ensures.unmoved in
    let first = c.requires.unmoved in
    (a3.words.now.stripes, [], record_of a3.pass a3.words.now, (far3.unmoved first.0 first.1).unmoved.fits)

pub returns-in_err-seal-clause-stands : goal.returns-in_err-seal-clause-stands
returns-in_err-seal-clause-stands g c =
    let states = g.D.Disk.states in
    let honest = g.D.Disk.honest in
    let k = c.args.keeper.now in
    let a = c.args.steps.now in
    let b = a.words.now in
    let k1 = c.begin.new.keeper in
    let k2 = c.advance.new.keeper in
    let k3 = c.capture_all.new.keeper in
    let a3 = c.capture_all.new.steps in
    let far1 = begun states honest k a k1 c.begin.ensures.same c.begin.ensures.fits c.stops_of_a_keeper.ensures in
    let far2 = called states honest k a k1 a far1 k2 (λ o. c.advance.ensures.stands b.stripes o (record_of a.pass b)) (λ o. c.in_ok-advance.ensures.unmoved b.stripes o (record_of a.pass b)) in
    let far3 = captured states honest k a k2 a far2 k3 a3 c.capture_all.ensures.stands c.in_ok-capture_all.ensures.unmoved in
    left states honest k a k3 a3 far3 c.seal.new.keeper c.in_err-seal.ensures.err

pub returns-in_err-seal-clause-err : goal.returns-in_err-seal-clause-err
returns-in_err-seal-clause-err g c =
    let states = g.D.Disk.states in
    let honest = g.D.Disk.honest in
    let k = c.args.keeper.now in
    let a = c.args.steps.now in
    let b = a.words.now in
    let k1 = c.begin.new.keeper in
    let k2 = c.advance.new.keeper in
    let k3 = c.capture_all.new.keeper in
    let a3 = c.capture_all.new.steps in
    let far1 = begun states honest k a k1 c.begin.ensures.same c.begin.ensures.fits c.stops_of_a_keeper.ensures in
    let far2 = called states honest k a k1 a far1 k2 (λ o. c.advance.ensures.stands b.stripes o (record_of a.pass b)) (λ o. c.in_ok-advance.ensures.unmoved b.stripes o (record_of a.pass b)) in
    let far3 = captured states honest k a k2 a far2 k3 a3 c.capture_all.ensures.stands c.in_ok-capture_all.ensures.unmoved in
    let q = err_from_is_err_and c.from_residual-in_err-seal.result c.from_residual-in_err-seal.ensures.1 in
    rw (q.1, q.2) (λ o is.
    let un3 = far3.unmoved o is in
    let has = opens k1 k2 (k.sealed + 1) k.log.low k.stripes.count o.first k.must_close (c.in_ok-begin.ensures.ok.goes_with c.requires.goes_with).1 c.in_ok-advance.ensures.checkpoints in
    let given = c.in_ok-capture_all.ensures.given o (k.sealed + 1) (far2.unmoved o is) has in
    absurd (not_sealed c.seal.result c.in_err-seal.field-0.0 c.in_err-seal.was c.in_err-seal.ensures.no_other (λ failed. not_broken k3.is_broken un3.unmoved.works (c.seal.ensures.failed.0 failed))
    (λ wrong. (c.seal.ensures.wrong_phase.0 wrong).1 (all_given states honest o k3 a3.pass a3.words.now un3 (k.sealed + 1) given))
    (λ early. published_all states honest o k3 a3.pass a3.words.now un3 (k.sealed + 1) k3.stripes.count given (c.seal.ensures.early.0 early).2)))

pub advance-requires-2-clause-unmoved : goal.advance-requires-2-clause-unmoved
advance-requires-2-clause-unmoved g c =
    let states = g.D.Disk.states in
    let honest = g.D.Disk.honest in
    let k = c.args.keeper.now in
    let a = c.args.steps.now in
    let b = a.words.now in
    let k1 = c.begin.new.keeper in
    let k2 = c.advance.new.keeper in
    let k3 = c.capture_all.new.keeper in
    let a3 = c.capture_all.new.steps in
    let far1 = begun states honest k a k1 c.begin.ensures.same c.begin.ensures.fits c.stops_of_a_keeper.ensures in
    let far2 = called states honest k a k1 a far1 k2 (λ o. c.advance.ensures.stands b.stripes o (record_of a.pass b)) (λ o. c.in_ok-advance.ensures.unmoved b.stripes o (record_of a.pass b)) in
    let far3 = captured states honest k a k2 a far2 k3 a3 c.capture_all.ensures.stands c.in_ok-capture_all.ensures.unmoved in
    let far4 = sealed states honest k a k3 a3 far3 c.seal.new.keeper c.in_ok-seal.ensures.ok c.seal.ensures.fits in
    let first = c.requires.unmoved in
    (a3.words.now.stripes, first.0, record_of a3.pass a3.words.now, (far4.unmoved first.0 first.1).unmoved)

pub returns-clause-stands : goal.returns-clause-stands
returns-clause-stands g c =
    let states = g.D.Disk.states in
    let honest = g.D.Disk.honest in
    let k = c.args.keeper.now in
    let a = c.args.steps.now in
    let b = a.words.now in
    let k1 = c.begin.new.keeper in
    let k2 = c.advance.new.keeper in
    let k3 = c.capture_all.new.keeper in
    let a3 = c.capture_all.new.steps in
    let k4 = c.seal.new.keeper in
    let far1 = begun states honest k a k1 c.begin.ensures.same c.begin.ensures.fits c.stops_of_a_keeper.ensures in
    let far2 = called states honest k a k1 a far1 k2 (λ o. c.advance.ensures.stands b.stripes o (record_of a.pass b)) (λ o. c.in_ok-advance.ensures.unmoved b.stripes o (record_of a.pass b)) in
    let far3 = captured states honest k a k2 a far2 k3 a3 c.capture_all.ensures.stands c.in_ok-capture_all.ensures.unmoved in
    let far4 = sealed states honest k a k3 a3 far3 k4 c.in_ok-seal.ensures.ok c.seal.ensures.fits in
    stood states honest k a k4 a3 far4 c.advance-2.new.keeper (λ o. c.advance-2.ensures.stands a3.words.now.stripes o (record_of a3.pass a3.words.now))

pub returns-clause-unmoved : goal.returns-clause-unmoved
returns-clause-unmoved g c =
    let states = g.D.Disk.states in
    let honest = g.D.Disk.honest in
    let k = c.args.keeper.now in
    let a = c.args.steps.now in
    let b = a.words.now in
    let k1 = c.begin.new.keeper in
    let k2 = c.advance.new.keeper in
    let k3 = c.capture_all.new.keeper in
    let a3 = c.capture_all.new.steps in
    let k4 = c.seal.new.keeper in
    let far1 = begun states honest k a k1 c.begin.ensures.same c.begin.ensures.fits c.stops_of_a_keeper.ensures in
    let far2 = called states honest k a k1 a far1 k2 (λ o. c.advance.ensures.stands b.stripes o (record_of a.pass b)) (λ o. c.in_ok-advance.ensures.unmoved b.stripes o (record_of a.pass b)) in
    let far3 = captured states honest k a k2 a far2 k3 a3 c.capture_all.ensures.stands c.in_ok-capture_all.ensures.unmoved in
    let far4 = sealed states honest k a k3 a3 far3 k4 c.in_ok-seal.ensures.ok c.seal.ensures.fits in
    let at = record_of a3.pass a3.words.now in
    on_ok _ _ c.advance-2.result (λ kept o is. let was = far4.unmoved o is in unmoved_with states honest o k4 c.advance-2.new.keeper a3.pass a3.words.now was (kept a3.words.now.stripes o at was.unmoved)) c.advance-2.ensures.unmoved

pub returns-clause-sealed : goal.returns-clause-sealed
returns-clause-sealed g c =
    let states = g.D.Disk.states in
    let honest = g.D.Disk.honest in
    let k = c.args.keeper.now in
    let a = c.args.steps.now in
    let b = a.words.now in
    let k1 = c.begin.new.keeper in
    let k2 = c.advance.new.keeper in
    let k3 = c.capture_all.new.keeper in
    let far1 = begun states honest k a k1 c.begin.ensures.same c.begin.ensures.fits c.stops_of_a_keeper.ensures in
    let far2 = called states honest k a k1 a far1 k2 (λ o. c.advance.ensures.stands b.stripes o (record_of a.pass b)) (λ o. c.in_ok-advance.ensures.unmoved b.stripes o (record_of a.pass b)) in
    let first = c.requires.unmoved in
    let has = opens k1 k2 (k.sealed + 1) k.log.low k.stripes.count first.0.first k.must_close (c.in_ok-begin.ensures.ok.goes_with c.requires.goes_with).1 c.in_ok-advance.ensures.checkpoints in
    let given = c.in_ok-capture_all.ensures.given first.0 (k.sealed + 1) (far2.unmoved first.0 first.1) has in
    on_ok _ _ c.advance-2.result (λ all. seals k3 c.seal.new.keeper c.advance-2.new.keeper (k.sealed + 1) k3.stripes.count first.0.first given (ap (λ (x : Keeper _). x.checkpoint) c.in_ok-seal.ensures.ok) all) c.advance-2.ensures.checkpoints

pub returns-clause-counted : goal.returns-clause-counted
returns-clause-counted g c =
    let failures = g.D.Disk.failures in
    let counted : failures c.seal.new.keeper.disk ≡ failures c.args.keeper.now.disk =
    ap (λ (x : Keeper _). failures x.disk) c.in_ok-seal.ensures.ok ∙ c.in_ok-capture_all.ensures.counted ∙ c.in_ok-advance.ensures.counted ∙ ap (λ (x : Keeper _). failures x.disk) c.begin.ensures.same in
    on_ok _ _ c.advance-2.result (λ none. none ∙ counted) c.advance-2.ensures.counted

pub returns-clause-err : goal.returns-clause-err
returns-clause-err g c =
    let failures = g.D.Disk.failures in
    let counted : failures c.seal.new.keeper.disk ≡ failures c.args.keeper.now.disk =
    ap (λ (x : Keeper _). failures x.disk) c.in_ok-seal.ensures.ok ∙ c.in_ok-capture_all.ensures.counted ∙ c.in_ok-advance.ensures.counted ∙ ap (λ (x : Keeper _). failures x.disk) c.begin.ensures.same in
    if_err (λ e. (e ≡ Failed) × (failures c.advance-2.new.keeper.disk ≡ failures c.seal.new.keeper.disk + 1)) _ c.advance-2.result (λ e failed o is. inl (inl (failed.0, failed.1 ∙ ap (λ (n : ℕ). n + 1) counted))) c.advance-2.ensures.err

pub returns-in_err-begin-clause-unfailing : goal.returns-in_err-begin-clause-unfailing
returns-in_err-begin-clause-unfailing g c =
    let q = err_from_is_err_and c.from_residual.result c.from_residual.ensures.1 in
    rw (q.1, q.2) (λ other. ap (λ (x : Keeper _). g.D.Disk.failures x.disk) c.begin.ensures.same)

pub returns-in_err-advance-clause-unfailing : goal.returns-in_err-advance-clause-unfailing
returns-in_err-advance-clause-unfailing g c =
    let q = err_from_is_err_and c.from_residual-in_err-advance.result c.from_residual-in_err-advance.ensures.1 in
    rw (q.1, q.2) (λ other. absurd (other c.in_err-advance.ensures.err.0))

pub returns-in_err-capture_all-clause-unfailing : goal.returns-in_err-capture_all-clause-unfailing
returns-in_err-capture_all-clause-unfailing g c =
    let q = err_from_is_err_and c.from_residual-in_err-capture_all.result c.from_residual-in_err-capture_all.ensures.1 in
    rw (q.1, q.2) (λ other. c.in_err-capture_all.ensures.unfailing other ∙ c.in_ok-advance.ensures.counted ∙ ap (λ (x : Keeper _). g.D.Disk.failures x.disk) c.begin.ensures.same)

pub returns-clause-unfailing : goal.returns-clause-unfailing
returns-clause-unfailing g c =
    let failures = g.D.Disk.failures in
    if_err (λ e. (e ≡ Failed) × (failures c.advance-2.new.keeper.disk ≡ failures c.seal.new.keeper.disk + 1)) _ c.advance-2.result (λ e failed other. absurd (other failed.0)) c.advance-2.ensures.err

pub returns-clause-stripes : goal.returns-clause-stripes
returns-clause-stripes g c =
    let states = g.D.Disk.states in
    let honest = g.D.Disk.honest in
    let k = c.args.keeper.now in
    let a = c.args.steps.now in
    let b = a.words.now in
    let k1 = c.begin.new.keeper in
    let k2 = c.advance.new.keeper in
    let k3 = c.capture_all.new.keeper in
    let k4 = c.seal.new.keeper in
    let k5 = c.advance-2.new.keeper in
    let far1 = begun states honest k a k1 c.begin.ensures.same c.begin.ensures.fits c.stops_of_a_keeper.ensures in
    let far2 = called states honest k a k1 a far1 k2 (λ o. c.advance.ensures.stands b.stripes o (record_of a.pass b)) (λ o. c.in_ok-advance.ensures.unmoved b.stripes o (record_of a.pass b)) in
    let first = c.requires.unmoved in
    let begins = (c.in_ok-begin.ensures.ok.goes_with c.requires.goes_with).1 in
    let has = opens k1 k2 (k.sealed + 1) k.log.low k.stripes.count first.0.first k.must_close begins c.in_ok-advance.ensures.checkpoints in
    let given = c.in_ok-capture_all.ensures.given first.0 (k.sealed + 1) (far2.unmoved first.0 first.1) has in
    let before : k4.sealed ≡ k.sealed = ap (λ (x : Keeper _). x.sealed) c.in_ok-seal.ensures.ok ∙ c.in_ok-capture_all.ensures.sealed
    ∙ opens_sealed k1 k2 (k.sealed + 1) k.log.low k.stripes.count k.must_close begins c.in_ok-advance.ensures.checkpoints ∙ ap (λ (x : Keeper _). x.sealed) c.begin.ensures.same in
    let count : k4.stripes.count ≡ k.stripes.count = ap (λ (x : Keeper _). x.stripes.count) c.in_ok-seal.ensures.ok
    ∙ ap (λ (s : StripeCount). s.count) (c.capture_all.ensures.stripes ∙ c.advance.ensures.stripes ∙ ap (λ (x : Keeper _). x.stripes) c.begin.ensures.same) in
    on_ok2 _ _ _ c.advance-2.result
    (λ all seals_for h.
    let after : k5.sealed ≡ k.sealed + 1 = (seals k3 k4 k5 (k.sealed + 1) k3.stripes.count first.0.first given (ap (λ (x : Keeper _). x.checkpoint) c.in_ok-seal.ensures.ok) all).0 in
    seals_for h (λ e. absurd (omega (arith, e, before, after))) ∙ count)
    c.advance-2.ensures.checkpoints c.advance-2.ensures.seals
