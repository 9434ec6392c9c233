use Rattle.std.proofs.Common.{sym, ◌∙◌}
use Rattle.one_history.specs.Turns.{record_of}
use Rattle.schedule_sim.proofs.Devices.{may_call_so, told_fits}
use Rattle.schedule_sim.proofs.Interrupts.{interrupted_sync}
use Rattle.schedule_sim.proofs.life.Life.interrupt.Goals as goal

pub returns-then-is_sync_due : goal.returns-then-is_sync_due
returns-then-is_sync_due c = λ w a.
    let life = c.args.self.now in
    let told = c.laws_of_telling.ensures in
    let may = may_call_so c.args.side life.keeper (sym (told_fits told.walk told.log told.checkpoint c.args.side c.requires.life.1 c.requires.life.0 life.keeper life.words life.jobs.items c.requires.life.2) ∙ c.requires.life.3) in
    interrupted_sync c.laws_of_known_histories.ensures.stands told.staged told.files told.calls c.args.side w life.keeper life.words life.jobs.items c.number_due-file.result a may
    (sym c.is_sync_due.ensures ∙ c.if-is_sync_due.true) (c.stops_while_capturing.ensures life.words.stripes a.done (record_of 64 life.words) a.fits tt) c.number_due-file.ensures

pub write-requires : goal.write-requires
write-requires c =
    let life = c.args.self.now in
    let told = c.laws_of_telling.ensures in
    record {
      life = (c.requires.life.0, c.requires.life.2);
      may = may_call_so c.args.side life.keeper
          (sym (told_fits told.walk told.log told.checkpoint c.args.side c.requires.life.1 c.requires.life.0 life.keeper life.words life.jobs.items c.requires.life.2) ∙ c.requires.life.3);
      writes = sym c.is_sync_due.ensures ∙ c.if-is_sync_due.false;
    }
