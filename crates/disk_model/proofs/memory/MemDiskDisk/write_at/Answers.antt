use Rattle.std.proofs.Common.{◌≡◌, ◌≤◌, ◌∷◌, ⊎_elim, inl, inr, length}
use Rattle.disk_model.specs.Files.{File, now, reached, with_file, IsTorn}
use Rattle.disk_model.specs.Fills.{torn}
use Rattle.disk_model.specs.Memory.{memory_states}
use Rattle.disk_model.proofs.FileLemmas.{lost_is_torn}
use Rattle.disk_model.proofs.FillLemmas.{torn_is_torn}
use Rattle.disk_model.proofs.memory.MemDiskDisk.write_at.Goals as goal

pub returns-in-Some-clause-torn : goal.returns-in-Some-clause-torn
returns-in-Some-clause-torn c =
    let files = now (memory_states c.args.self.now) in
    let file = files c.args.file in
    ⊎_elim {C = (left : File) × (c.args.at ≤ length file.seen → IsTorn c.args.at c.args.bytes.now file left) × (memory_states c.tear.new.self ≡ with_file c.args.file left files ∷ memory_states c.args.self.now)}
    (λ lost. (reached c.args.at c.args.bytes.now file.seen file, (λ inside. lost_is_torn c.args.at c.args.bytes.now file), lost.state))
    (λ made. (torn c.in-Some.fill c.args.file c.args.at c.args.bytes.now file, torn_is_torn c.in-Some.fill c.args.file c.args.at c.args.bytes.now file, made.1))
    c.tear.ensures.torn

pub returns-in-Some-clause-failed : goal.returns-in-Some-clause-failed
returns-in-Some-clause-failed c =
    rw (← c.in-Some.ensures.due) (⊎_elim (λ lost. inl (record { short = lost.short; state = lost.state })) (λ made. inr (made.0, made.1)) c.tear.ensures.torn)
