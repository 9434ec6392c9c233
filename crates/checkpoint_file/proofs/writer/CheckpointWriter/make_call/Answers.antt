use Rattle.std.proofs.Common.{◌≡◌, ◌⊎◌, ◌≤◌, ◌+◌, length, sym, ap, subst, ◌∙◌}
use Rattle.disk_model.specs.Files.{now}
use Rattle.disk_model.proofs.CallLemmas.{sync_fails}
use Rattle.store_layout.specs.Checkpoints.{checkpoint_file}
use Rattle.checkpoint_file.specs.States.{CheckpointState, call_in}
use Rattle.store_layout.specs.declared.checkpoint_phase.CheckpointPhase.TheVariants.{GateWritten, GateSynced, Staged, Header, HeaderWritten, Opened}
use Rattle.checkpoint_file.proofs.CallLemmas.{sync_due}
use Rattle.checkpoint_file.proofs.writer.CheckpointWriter.make_call.Goals as goal

pub write_at-requires-in-GateSynced-clause-place : goal.write_at-requires-in-GateSynced-clause-place
write_at-requires-in-GateSynced-clause-place g c =
    let w = c.args.self.now in
    let is : w.phase ≡ GateSynced = ap (λ (v : CheckpointState). v.phase) (sym c.self.view_is) ∙ c.in-GateSynced.is in
    λ honest. subst (λ n. 1 ≤ length (now (g.D.Disk.states c.args.disk.now) n).seen) (sym c.checkpoint_file-file.ensures)
    (subst (λ (v : CheckpointState). 1 ≤ length (now (g.D.Disk.states c.args.disk.now) (checkpoint_file v.generation)).seen) (sym c.self.view_is)
    (c.requires.place honest _ (ap (λ p. call_in p w) is)))

pub write_at-requires-in-Staged-clause-place : goal.write_at-requires-in-Staged-clause-place
write_at-requires-in-Staged-clause-place g c =
    let w = c.args.self.now in
    let is : w.phase ≡ Staged = ap (λ (v : CheckpointState). v.phase) (sym c.self.view_is) ∙ c.in-Staged.is in
    λ honest. subst (λ n. 36 + c.self.inside.body ≤ length (now (g.D.Disk.states c.args.disk.now) n).seen) (sym c.checkpoint_file-file.ensures)
    (subst (λ (v : CheckpointState). 36 + v.body ≤ length (now (g.D.Disk.states c.args.disk.now) (checkpoint_file v.generation)).seen) (sym c.self.view_is)
    (c.requires.place honest _ (ap (λ p. call_in p w) is)))

pub write_header-requires : goal.write_header-requires
write_header-requires g c =
    let w = c.args.self.now in
    let is : w.phase ≡ Header = ap (λ (v : CheckpointState). v.phase) (sym c.self.view_is) ∙ c.in-Header.is in
    record { place = λ honest. c.requires.place honest _ (ap (λ p. call_in p w) is) }

pub returns-in-GateWritten-clause-err : goal.returns-in-GateWritten-clause-err
returns-in-GateWritten-clause-err g c =
    let w = c.args.self.now in
    let phase = subst (λ (v : CheckpointState). (v.phase ≡ GateWritten) ⊎ ((v.phase ≡ HeaderWritten) ⊎ (v.phase ≡ Opened))) c.self.view_is c.in-GateWritten.is in
    sync_fails g.D.Disk.states g.D.Disk.failures (checkpoint_file w.generation) c.args.disk.now c.sync.new.self c.sync.result (call_in w.phase w) (sync_due w phase) c.sync.ensures.same c.sync.ensures.err
