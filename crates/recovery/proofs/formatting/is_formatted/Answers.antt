use Rattle.std.proofs.Common.{◌||◌, Bool, ap, sym, ◌∙◌}
use Rattle.std.proofs.lemmas.Result.{err_from_is_err_and}
use Rattle.disk_model.specs.Files.{Files}
use Rattle.disk_model.proofs.LookLemmas.{looks_on, same_now}
use Rattle.store_layout.specs.Checkpoints.{is_sealed}
use Rattle.recovery.specs.LogReading.{contents_of}
use Rattle.recovery.proofs.formatting.is_formatted.Goals as goal

pub returns-in_err-second-clause-looks : goal.returns-in_err-second-clause-looks
returns-in_err-second-clause-looks g c =
    let q = err_from_is_err_and c.from_residual-in_err-second.result c.from_residual-in_err-second.ensures.1 in
    rw (q.1, q.2)
    (looks_on g.D.Disk.states g.D.Disk.failures g.D.Disk.honest _ c.args.disk.now c.has_seal.new.disk c.has_seal-2.new.disk c.in_ok-first.ensures.looks c.in_err-second.ensures.looks)

pub returns-then-first-clause-looks : goal.returns-then-first-clause-looks
returns-then-first-clause-looks g c =
    looks_on g.D.Disk.states g.D.Disk.failures g.D.Disk.honest 0 c.args.disk.now c.has_seal.new.disk c.has_seal-2.new.disk c.in_ok-first.ensures.looks c.in_ok-second.ensures.looks

pub returns-else-first-clause-looks : goal.returns-else-first-clause-looks
returns-else-first-clause-looks g c =
    looks_on g.D.Disk.states g.D.Disk.failures g.D.Disk.honest 0 c.args.disk.now c.has_seal.new.disk c.has_seal-2.new.disk c.in_ok-first.ensures.looks c.in_ok-second.ensures.looks

pub returns-else-first-clause-value : goal.returns-else-first-clause-value
returns-else-first-clause-value g c = λ honest.
    let same = ap (λ (files : Files). is_sealed (files 1).seen) (same_now g.D.Disk.states g.D.Disk.failures g.D.Disk.honest 0 c.args.disk.now c.has_seal.new.disk c.in_ok-first.ensures.looks) in
    let first = sym (c.in_ok-first.ensures.value (c.in_ok-second.ensures.looks.was_honest honest)) ∙ c.if-first.false in
    c.in_ok-second.ensures.value honest ∙ same ∙ ap (λ (b : Bool). b || is_sealed (contents_of g.D.Disk.states c.args.disk.now 1)) (sym first)
