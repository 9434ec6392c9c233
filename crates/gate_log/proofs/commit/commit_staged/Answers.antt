use Rattle.store_layout.specs.declared.log_phase.Phase.TheVariants.{Staged, Written, Synced, Opened}
use Rattle.gate_log.proofs.CommitLemmas.{begins, works_at, due_at, any_moment, reaches}
use Rattle.gate_log.proofs.commit.commit_staged.Goals as goal

pub returns-in_err-_synced-clause-any_moment : goal.returns-in_err-_synced-clause-any_moment
returns-in_err-_synced-clause-any_moment g c = λ batches staged stands.
    let states = g.D.Disk.states in
    let failures = g.D.Disk.failures in
    let honest = g.D.Disk.honest in
    let log = c.args.log.now in
    let disk = c.args.disk.now in
    let is = c.requires.phase in
    let works = c.requires.works in
    let r0 = begins log batches staged states failures honest disk is stands in
    let r1 = reaches log batches staged states failures honest disk is Staged log c.advance.new.self disk c.advance.new.disk c.in_ok-_written._written tt r0 (c.in_ok-_written.ensures.advances (works_at log batches staged states failures honest disk is Staged log disk r0 works) (due_at log batches staged states failures honest disk is Staged log disk r0 tt)) in
    any_moment log batches staged states failures honest disk is Written c.advance.new.self c.advance-2.new.self c.advance.new.disk c.advance-2.new.disk _ tt r1 (c.advance-2.ensures.advances (works_at log batches staged states failures honest disk is Written c.advance.new.self c.advance.new.disk r1 works) (due_at log batches staged states failures honest disk is Written c.advance.new.self c.advance.new.disk r1 tt))

pub returns-in_err-_opened-clause-any_moment : goal.returns-in_err-_opened-clause-any_moment
returns-in_err-_opened-clause-any_moment g c = λ batches staged stands.
    let states = g.D.Disk.states in
    let failures = g.D.Disk.failures in
    let honest = g.D.Disk.honest in
    let log = c.args.log.now in
    let disk = c.args.disk.now in
    let is = c.requires.phase in
    let works = c.requires.works in
    let r0 = begins log batches staged states failures honest disk is stands in
    let r1 = reaches log batches staged states failures honest disk is Staged log c.advance.new.self disk c.advance.new.disk c.in_ok-_written._written tt r0 (c.in_ok-_written.ensures.advances (works_at log batches staged states failures honest disk is Staged log disk r0 works) (due_at log batches staged states failures honest disk is Staged log disk r0 tt)) in
    let r2 = reaches log batches staged states failures honest disk is Written c.advance.new.self c.advance-2.new.self c.advance.new.disk c.advance-2.new.disk c.in_ok-_synced._synced tt r1 (c.in_ok-_synced.ensures.advances (works_at log batches staged states failures honest disk is Written c.advance.new.self c.advance.new.disk r1 works) (due_at log batches staged states failures honest disk is Written c.advance.new.self c.advance.new.disk r1 tt)) in
    any_moment log batches staged states failures honest disk is Synced c.advance-2.new.self c.advance-3.new.self c.advance-2.new.disk c.advance-3.new.disk _ tt r2 (c.advance-3.ensures.advances (works_at log batches staged states failures honest disk is Synced c.advance-2.new.self c.advance-2.new.disk r2 works) (due_at log batches staged states failures honest disk is Synced c.advance-2.new.self c.advance-2.new.disk r2 tt))

pub returns-in_err-_idle-clause-any_moment : goal.returns-in_err-_idle-clause-any_moment
returns-in_err-_idle-clause-any_moment g c = λ batches staged stands.
    let states = g.D.Disk.states in
    let failures = g.D.Disk.failures in
    let honest = g.D.Disk.honest in
    let log = c.args.log.now in
    let disk = c.args.disk.now in
    let is = c.requires.phase in
    let works = c.requires.works in
    let r0 = begins log batches staged states failures honest disk is stands in
    let r1 = reaches log batches staged states failures honest disk is Staged log c.advance.new.self disk c.advance.new.disk c.in_ok-_written._written tt r0 (c.in_ok-_written.ensures.advances (works_at log batches staged states failures honest disk is Staged log disk r0 works) (due_at log batches staged states failures honest disk is Staged log disk r0 tt)) in
    let r2 = reaches log batches staged states failures honest disk is Written c.advance.new.self c.advance-2.new.self c.advance.new.disk c.advance-2.new.disk c.in_ok-_synced._synced tt r1 (c.in_ok-_synced.ensures.advances (works_at log batches staged states failures honest disk is Written c.advance.new.self c.advance.new.disk r1 works) (due_at log batches staged states failures honest disk is Written c.advance.new.self c.advance.new.disk r1 tt)) in
    let r3 = reaches log batches staged states failures honest disk is Synced c.advance-2.new.self c.advance-3.new.self c.advance-2.new.disk c.advance-3.new.disk c.in_ok-_opened._opened tt r2 (c.in_ok-_opened.ensures.advances (works_at log batches staged states failures honest disk is Synced c.advance-2.new.self c.advance-2.new.disk r2 works) (due_at log batches staged states failures honest disk is Synced c.advance-2.new.self c.advance-2.new.disk r2 tt)) in
    any_moment log batches staged states failures honest disk is Opened c.advance-3.new.self c.advance-4.new.self c.advance-3.new.disk c.advance-4.new.disk _ tt r3 (c.advance-4.ensures.advances (works_at log batches staged states failures honest disk is Opened c.advance-3.new.self c.advance-3.new.disk r3 works) (due_at log batches staged states failures honest disk is Opened c.advance-3.new.self c.advance-3.new.disk r3 tt))

pub returns-clause-any_moment : goal.returns-clause-any_moment
returns-clause-any_moment g c = λ batches staged stands.
    let states = g.D.Disk.states in
    let failures = g.D.Disk.failures in
    let honest = g.D.Disk.honest in
    let log = c.args.log.now in
    let disk = c.args.disk.now in
    let is = c.requires.phase in
    let works = c.requires.works in
    let r0 = begins log batches staged states failures honest disk is stands in
    let r1 = reaches log batches staged states failures honest disk is Staged log c.advance.new.self disk c.advance.new.disk c.in_ok-_written._written tt r0 (c.in_ok-_written.ensures.advances (works_at log batches staged states failures honest disk is Staged log disk r0 works) (due_at log batches staged states failures honest disk is Staged log disk r0 tt)) in
    let r2 = reaches log batches staged states failures honest disk is Written c.advance.new.self c.advance-2.new.self c.advance.new.disk c.advance-2.new.disk c.in_ok-_synced._synced tt r1 (c.in_ok-_synced.ensures.advances (works_at log batches staged states failures honest disk is Written c.advance.new.self c.advance.new.disk r1 works) (due_at log batches staged states failures honest disk is Written c.advance.new.self c.advance.new.disk r1 tt)) in
    let r3 = reaches log batches staged states failures honest disk is Synced c.advance-2.new.self c.advance-3.new.self c.advance-2.new.disk c.advance-3.new.disk c.in_ok-_opened._opened tt r2 (c.in_ok-_opened.ensures.advances (works_at log batches staged states failures honest disk is Synced c.advance-2.new.self c.advance-2.new.disk r2 works) (due_at log batches staged states failures honest disk is Synced c.advance-2.new.self c.advance-2.new.disk r2 tt)) in
    any_moment log batches staged states failures honest disk is Opened c.advance-3.new.self c.advance-4.new.self c.advance-3.new.disk c.advance-4.new.disk _ tt r3 (c.advance-4.ensures.advances (works_at log batches staged states failures honest disk is Opened c.advance-3.new.self c.advance-3.new.disk r3 works) (due_at log batches staged states failures honest disk is Opened c.advance-3.new.self c.advance-3.new.disk r3 tt))
