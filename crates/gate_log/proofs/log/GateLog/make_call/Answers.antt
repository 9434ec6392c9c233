use Rattle.std.proofs.Common.{◌≡◌, ◌⊎◌, ◌+◌, ◌≤◌, length, sym, ap, subst, ◌∙◌}
use Rattle.disk_model.specs.Files.{now}
use Rattle.disk_model.proofs.CallLemmas.{sync_fails}
use Rattle.store_layout.specs.Logs.{log_file}
use Rattle.gate_log.specs.States.{LogState, call_in}
use Rattle.store_layout.specs.declared.log_phase.Phase.TheVariants.{HeaderWritten, Staged, Written, Synced, Opened}
use Rattle.gate_log.proofs.CallLemmas.{sync_due}
use Rattle.gate_log.proofs.log.GateLog.make_call.Goals as goal

pub write_at-requires-in-Some-clause-place : goal.write_at-requires-in-Some-clause-place
write_at-requires-in-Some-clause-place g c =
    let log = c.args.self.now in
    let is : log.phase ≡ Staged = ap (λ (l : LogState). l.phase) (sym c.self.view_is) ∙ c.in-Staged.is in
    λ honest. subst (λ n. c.self.inside.gate + 1 ≤ length (now (g.D.Disk.states c.args.disk.now) n).seen) (sym c.log_file-file.ensures)
    (subst (λ (l : LogState). l.gate + 1 ≤ length (now (g.D.Disk.states c.args.disk.now) (log_file l.generation)).seen) (sym c.self.view_is)
    (c.requires.place honest _ (ap (λ p. call_in p log) is)))

pub write_at-requires-in-None-clause-place : goal.write_at-requires-in-None-clause-place
write_at-requires-in-None-clause-place g c =
    let log = c.args.self.now in
    let is : log.phase ≡ Staged = ap (λ (l : LogState). l.phase) (sym c.self.view_is) ∙ c.in-Staged.is in
    λ honest. subst (λ n. c.self.inside.gate + 1 ≤ length (now (g.D.Disk.states c.args.disk.now) n).seen) (sym c.log_file-file.ensures)
    (subst (λ (l : LogState). l.gate + 1 ≤ length (now (g.D.Disk.states c.args.disk.now) (log_file l.generation)).seen) (sym c.self.view_is)
    (c.requires.place honest _ (ap (λ p. call_in p log) is)))

pub write_at-requires-in-Synced-clause-place : goal.write_at-requires-in-Synced-clause-place
write_at-requires-in-Synced-clause-place g c =
    let log = c.args.self.now in
    let is : log.phase ≡ Synced = ap (λ (l : LogState). l.phase) (sym c.self.view_is) ∙ c.in-Synced.is in
    λ honest. subst (λ n. c.self.inside.gate ≤ length (now (g.D.Disk.states c.args.disk.now) n).seen) (sym c.log_file-file.ensures)
    (subst (λ (l : LogState). l.gate ≤ length (now (g.D.Disk.states c.args.disk.now) (log_file l.generation)).seen) (sym c.self.view_is)
    (c.requires.place honest _ (ap (λ p. call_in p log) is)))

pub returns-in-HeaderWritten-clause-err : goal.returns-in-HeaderWritten-clause-err
returns-in-HeaderWritten-clause-err g c =
    let log = c.args.self.now in
    let phase = subst (λ (l : LogState). (l.phase ≡ HeaderWritten) ⊎ ((l.phase ≡ Written) ⊎ (l.phase ≡ Opened))) c.self.view_is c.in-HeaderWritten.is in
    sync_fails g.D.Disk.states g.D.Disk.failures (log_file log.generation) c.args.disk.now c.sync.new.self c.sync.result (call_in log.phase log) (sync_due log phase) c.sync.ensures.same c.sync.ensures.err
