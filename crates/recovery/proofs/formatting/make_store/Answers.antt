use Rattle.log_records.specs.Layout.{layout_of}
use Rattle.recovery.proofs.GateClosing.{on_ok}
use Rattle.recovery.proofs.Sealing.{shut_place}
use Rattle.recovery.proofs.NewFiles.{made_new}
use Rattle.recovery.proofs.Making.{beginning_moments, closing_moments, new_in_the_end, sealing_moments, shut_on, written_in_the_end}
use Rattle.recovery.proofs.formatting.make_store.Goals as goal

pub returns-in_err-close_gate-clause-moments : goal.returns-in_err-close_gate-clause-moments
returns-in_err-close_gate-clause-moments g c = λ honest stripes whole are clear.
    closing_moments g.D.Disk.states stripes c.args.disk.now c.close_gate.new.disk clear (c.close_gate.ensures.moments honest clear.first clear.settled clear.unsealed)

pub returns-in_err-begin_log-clause-moments : goal.returns-in_err-begin_log-clause-moments
returns-in_err-begin_log-clause-moments g c = λ honest stripes whole are clear.
    let before = c.begin_log.ensures.was_honest honest in
    beginning_moments g.D.Disk.states stripes c.args.disk.now c.close_gate.new.disk clear (c.close_gate.ensures.moments before clear.first clear.settled clear.unsealed) c.begin_log.new.disk (c.in_ok-close_gate.ensures.ok before) c.begin_log.ensures.others

pub seal-requires : goal.seal-requires
seal-requires g c = λ honest.
    shut_place _ (shut_on g.D.Disk.states c.close_gate.new.disk c.begin_log.new.disk (c.in_ok-close_gate.ensures.ok (c.in_ok-begin_log.ensures.was_honest honest)) c.in_ok-begin_log.ensures.others)

pub returns-clause-moments : goal.returns-clause-moments
returns-clause-moments g c = λ honest stripes whole are clear.
    let at_two = c.seal.ensures.was_honest honest in
    let at_one = c.in_ok-begin_log.ensures.was_honest at_two in
    let shut = c.in_ok-close_gate.ensures.ok at_one in
    let others = c.in_ok-begin_log.ensures.others in
    sealing_moments g.D.Disk.states stripes c.args.disk.now c.close_gate.new.disk clear (c.in_ok-close_gate.ensures.moments at_one clear.first clear.settled clear.unsealed) c.begin_log.new.disk shut others c.args.version c.in_ok-begin_log.ensures.ok
    whole c.args.bytes.now are c.seal.new.disk (c.seal.ensures.moments (shut_on g.D.Disk.states c.close_gate.new.disk c.begin_log.new.disk shut others))

pub returns-clause-ok : goal.returns-clause-ok
returns-clause-ok g c =
    on_ok _ _ c.seal.result (λ sealed honest stripes whole are clear.
    let at_two = c.seal.ensures.was_honest honest in
    let at_one = c.in_ok-begin_log.ensures.was_honest at_two in
    let shut = c.in_ok-close_gate.ensures.ok at_one in
    let others = c.in_ok-begin_log.ensures.others in
    let shut_then = shut_on g.D.Disk.states c.close_gate.new.disk c.begin_log.new.disk shut others in
    new_in_the_end g.D.Disk.states stripes c.args.disk.now c.close_gate.new.disk clear (c.in_ok-close_gate.ensures.moments at_one clear.first clear.settled clear.unsealed) c.begin_log.new.disk shut others c.args.version c.in_ok-begin_log.ensures.ok
    whole c.args.bytes.now are c.seal.new.disk (c.seal.ensures.moments shut_then) (sealed shut_then)) c.seal.ensures.ok

pub returns-clause-written : goal.returns-clause-written
returns-clause-written g c =
    on_ok _ _ c.seal.result (λ sealed honest stripes whole are clear.
    let at_two = c.seal.ensures.was_honest honest in
    let at_one = c.in_ok-begin_log.ensures.was_honest at_two in
    let shut = c.in_ok-close_gate.ensures.ok at_one in
    let others = c.in_ok-begin_log.ensures.others in
    let shut_then = shut_on g.D.Disk.states c.close_gate.new.disk c.begin_log.new.disk shut others in
    written_in_the_end g.D.Disk.states stripes c.args.disk.now c.close_gate.new.disk clear (c.in_ok-close_gate.ensures.moments at_one clear.first clear.settled clear.unsealed) c.begin_log.new.disk shut others c.args.version c.in_ok-begin_log.ensures.ok
    whole c.args.bytes.now are c.seal.new.disk (c.seal.ensures.moments shut_then) (sealed shut_then)) c.seal.ensures.ok

pub returns-clause-files : goal.returns-clause-files
returns-clause-files g c =
    on_ok _ _ c.seal.result (λ sealed honest stripes are empty.
    let at_one = c.in_ok-begin_log.ensures.was_honest (c.seal.ensures.was_honest honest) in
    made_new (layout_of c.args.version) c.args.bytes.now stripes _ _ _ _ are empty (c.in_ok-close_gate.ensures.left at_one) c.in_ok-begin_log.ensures.left sealed) c.seal.ensures.left
