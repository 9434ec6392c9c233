use Rattle.std.proofs.Common.{◌≡◌, ℕ, subst, arith}
use Rattle.recovery.specs.Syncing.{AfterSyncs}
use Rattle.recovery.proofs.syncing.sync_files.Goals as goal

pub returns-clause-ok : goal.returns-clause-ok
returns-clause-ok g c =
    let all : c.loop-file.file ≡ c.args.count = (let over = c.loop-file-test.false in let end = c.loop-file.auto.file-end in omega (arith, over, end)) in
    subst (λ (n : ℕ). AfterSyncs g.D.Disk.states g.D.Disk.failures n c.args.disk.now c.loop-file.disk) all c.loop-file.invariant.synced
