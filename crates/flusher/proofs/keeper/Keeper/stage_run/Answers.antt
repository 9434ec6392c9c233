use Rattle.std.proofs.Common.{◌≡◌, ◌≤◌, ◌<◌, ◌^◌, ◌+◌, inl, inr, Err, ◌++◌, length, drop, replicate, None, subst, sym, ap, ◌∙◌, arith, refl, ℕ, List}
use Rattle.std.specs.List.{All}
use Rattle.map_types.specs.declared.commands.Command.{Command}
use Rattle.ticket_order.specs.declared.stripe.Entry.{Entry}
use Rattle.ticket_order.specs.Records.{IsWithin}
use Rattle.ticket_order.specs.Legality.{entries_from}
use Rattle.log_records.specs.Layout.{layout_of}
use Rattle.store_layout.specs.Logs.{frame}
use Rattle.gate_log.specs.States.{AreFrom, commands_of}
use Rattle.store_layout.specs.Hands.{Hand}
use Rattle.flusher.specs.HandSteps.{Gains}
use Rattle.ticket_order.proofs.Entries.{length-entries}
use Rattle.flusher.proofs.Staging.{from_there, commands_there, put_back_run}
use Rattle.flusher.proofs.keeper.Keeper.stage_run.Goals as goal

pub stage-requires : goal.stage-requires
stage-requires g c =
    let run = c.requires.run in
    let commands = run.0 in
    let committed = c.args.self.now.log.committed in
    let took = c.in-Ok.ensures.ok commands run.1 run.2 in
    let is : c.deref.result.now ≡ entries_from committed commands = c.deref.ensures.value ∙ took.0 ∙ ap (λ (t : ℕ). entries_from t commands) c.requires.next in
    let long : length c.deref.result.now ≡ length commands = ap length is ∙ length-entries committed commands in
    let theirs : commands_of c.deref.result.now ≡ commands = ap commands_of is ∙ commands_there committed commands in
    record {
      in_order = subst (AreFrom committed) (sym is) (from_there committed commands);
      fits = omega (arith, long, run.3.fits);
      some = omega (arith, long, run.2, c.requires.some);
      few = omega (arith, long, run.3.within);
      short = subst (λ (z : List Command). length (frame (layout_of c.args.self.now.log.version) (record { first = committed; commands = z })) ≤ 1048576) (sym theirs) run.3.short;
      within = subst (All (IsWithin (layout_of c.args.self.now.log.version).key_limit)) (sym theirs) (c.requires.keys commands run.1);
    }

pub returns-in-Err-stage-clause-no_other : goal.returns-in-Err-stage-clause-no_other
returns-in-Err-stage-clause-no_other g c =
    let run = c.requires.run in
    let commands = run.0 in
    let committed = c.args.self.now.log.committed in
    let took = c.in-Ok.ensures.ok commands run.1 run.2 in
    let is : c.deref.result.now ≡ entries_from committed commands = c.deref.ensures.value ∙ took.0 ∙ ap (λ (t : ℕ). entries_from t commands) c.requires.next in
    let theirs : commands_of c.deref.result.now ≡ commands = ap commands_of is ∙ commands_there committed commands in
    elim c.in-Err-stage.ensures.no_other [
      | inl e ↦ absurd (c.in-Err-stage.ensures.wrong_phase.0 (ap Err e) c.requires.resting)
      | inr k ↦ elim k [
        | inl e ↦ absurd (run.4 (subst (λ (z : List Command). 2 ^ 40 < c.args.self.now.log.gate + 1 + length (frame (layout_of c.args.self.now.log.version) (record { first = committed; commands = z })) + 1) theirs (c.in-Err-stage.ensures.full.0 (ap Err e)).1))
        | inr e ↦ e
      ]
    ]

pub returns-in-Err-stage-clause-err : goal.returns-in-Err-stage-clause-err
returns-in-Err-stage-clause-err g c =
    let run = c.requires.run in
    let commands = run.0 in
    let hand = c.args.self.now.sweeper.in_hand in
    let took = c.in-Ok.ensures.ok commands run.1 run.2 in
    let mid : c.take_run.new.self ≡ record hand { slots = replicate (length commands) None ++ drop (length commands) hand.slots } =
    took.1 ∙ ap (λ (n : ℕ). record hand { slots = replicate n None ++ drop n hand.slots }) (sym run.2) in (
      c.in-Err-stage.ensures.err,
      refl,
      put_back_run hand c.insert.new.self commands run.1
          (subst (λ (h : Hand). Gains h (entries_from hand.next commands) c.insert.new.self) mid (subst (λ (es : List Entry). Gains c.take_run.new.self es c.insert.new.self) took.0 c.insert.ensures)),
    )
