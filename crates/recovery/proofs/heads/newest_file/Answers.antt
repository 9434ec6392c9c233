use Rattle.std.proofs.Common.{◌≡◌, inr, ℕ, List, true, false, ap, subst, arith}
use Rattle.std.proofs.lemmas.Result.{err_from_is_err_and}
use Rattle.disk_model.specs.Files.{Files}
use Rattle.disk_model.proofs.LookLemmas.{looks_on, same_now}
use Rattle.store_layout.specs.Checkpoints.{is_sealed}
use Rattle.store_layout.specs.Opening.{Contents}
use Rattle.store_layout.proofs.Refused.{at_fault, of_files}
use Rattle.checkpoint_file.specs.Heads.{IsHead}
use Rattle.recovery.specs.LogReading.{contents_of}
use Rattle.recovery.proofs.HeadsLemmas.{both_sealed, first_alone, is_older, is_younger, none_sealed, second_after, second_alone}
use Rattle.recovery.proofs.heads.newest_file.Goals as goal

pub returns-in_err-second-clause-looks : goal.returns-in_err-second-clause-looks
returns-in_err-second-clause-looks g c =
    let q = err_from_is_err_and c.from_residual-in_err-second.result c.from_residual-in_err-second.ensures.1 in
    rw (q.1, q.2)
    (looks_on g.D.Disk.states g.D.Disk.failures g.D.Disk.honest _ c.args.disk.now c.read_head.new.disk c.read_head-2.new.disk c.in_ok-first.ensures.looks c.in_err-second.ensures.looks)

pub returns-in_err-second-clause-err : goal.returns-in_err-second-clause-err
returns-in_err-second-clause-err g c =
    let q = err_from_is_err_and c.from_residual-in_err-second.result c.from_residual-in_err-second.ensures.1 in
    let contents : Contents = contents_of g.D.Disk.states c.args.disk.now in
    let same = ap (λ (files : Files). (files 1).seen) (same_now g.D.Disk.states g.D.Disk.failures g.D.Disk.honest 0 c.args.disk.now c.read_head.new.disk c.in_ok-first.ensures.looks) in
    rw (q.1, q.2)
    (second_after contents _ _ (g.D.Disk.honest c.read_head-2.new.disk) (g.D.Disk.honest c.read_head.new.disk) c.in_err-second.ensures.looks.was_honest c.in_ok-first.first c.in_ok-first.ensures.some c.in_ok-first.ensures.none
    same c.in_err-second.ensures.err)

pub returns-in-None-None-clause-looks : goal.returns-in-None-None-clause-looks
returns-in-None-None-clause-looks g c =
    looks_on g.D.Disk.states g.D.Disk.failures g.D.Disk.honest 0 c.args.disk.now c.read_head.new.disk c.read_head-2.new.disk c.in_ok-first.ensures.looks c.in_ok-second.ensures.looks

pub returns-in-None-None-clause-err : goal.returns-in-None-None-clause-err
returns-in-None-None-clause-err g c = inr (λ honest.
    let contents : Contents = contents_of g.D.Disk.states c.args.disk.now in
    let same = ap (λ (files : Files). (files 1).seen) (same_now g.D.Disk.states g.D.Disk.failures g.D.Disk.honest 0 c.args.disk.now c.read_head.new.disk c.in_ok-first.ensures.looks) in
    let one = c.in_ok-second.ensures.looks.was_honest honest in
    none_sealed contents (rw c.in-None-None.is-0 at (c.in_ok-first.ensures.none one)) (subst (λ (content : List ℕ). is_sealed content ≡ false) same (rw c.in-None-None.is-1 at (c.in_ok-second.ensures.none honest))))

pub returns-in-None-Some-clause-looks : goal.returns-in-None-Some-clause-looks
returns-in-None-Some-clause-looks g c =
    looks_on g.D.Disk.states g.D.Disk.failures g.D.Disk.honest 0 c.args.disk.now c.read_head.new.disk c.read_head-2.new.disk c.in_ok-first.ensures.looks c.in_ok-second.ensures.looks

pub returns-in-None-Some-clause-ok : goal.returns-in-None-Some-clause-ok
returns-in-None-Some-clause-ok g c = λ honest.
    let contents : Contents = contents_of g.D.Disk.states c.args.disk.now in
    let same = ap (λ (files : Files). (files 1).seen) (same_now g.D.Disk.states g.D.Disk.failures g.D.Disk.honest 0 c.args.disk.now c.read_head.new.disk c.in_ok-first.ensures.looks) in
    let one = c.in_ok-second.ensures.looks.was_honest honest in
    let head = subst (λ (content : List ℕ). IsHead c.in-None-Some.field-0-1 1 content) same (rw c.in-None-Some.is-1 at (c.in_ok-second.ensures.some honest)) in
    second_alone contents (rw c.in-None-Some.is-0 at (c.in_ok-first.ensures.none one)) head.opened head.faultless

pub returns-in-Some-None-clause-looks : goal.returns-in-Some-None-clause-looks
returns-in-Some-None-clause-looks g c =
    looks_on g.D.Disk.states g.D.Disk.failures g.D.Disk.honest 0 c.args.disk.now c.read_head.new.disk c.read_head-2.new.disk c.in_ok-first.ensures.looks c.in_ok-second.ensures.looks

pub returns-in-Some-None-clause-ok : goal.returns-in-Some-None-clause-ok
returns-in-Some-None-clause-ok g c = λ honest.
    let contents : Contents = contents_of g.D.Disk.states c.args.disk.now in
    let same = ap (λ (files : Files). (files 1).seen) (same_now g.D.Disk.states g.D.Disk.failures g.D.Disk.honest 0 c.args.disk.now c.read_head.new.disk c.in_ok-first.ensures.looks) in
    let one = c.in_ok-second.ensures.looks.was_honest honest in
    let head = rw c.in-Some-None.is-0 at (c.in_ok-first.ensures.some one) in
    first_alone contents head.opened head.faultless (subst (λ (content : List ℕ). is_sealed content ≡ false) same (rw c.in-Some-None.is-1 at (c.in_ok-second.ensures.none honest)))

pub returns-in-Some-Some-clause-looks : goal.returns-in-Some-Some-clause-looks
returns-in-Some-Some-clause-looks g c =
    looks_on g.D.Disk.states g.D.Disk.failures g.D.Disk.honest 0 c.args.disk.now c.read_head.new.disk c.read_head-2.new.disk c.in_ok-first.ensures.looks c.in_ok-second.ensures.looks

pub returns-in-Some-Some-clause-ok : goal.returns-in-Some-Some-clause-ok
returns-in-Some-Some-clause-ok g c = λ honest.
    let contents : Contents = contents_of g.D.Disk.states c.args.disk.now in
    let same = ap (λ (files : Files). (files 1).seen) (same_now g.D.Disk.states g.D.Disk.failures g.D.Disk.honest 0 c.args.disk.now c.read_head.new.disk c.in_ok-first.ensures.looks) in
    let one = c.in_ok-second.ensures.looks.was_honest honest in
    let first = rw c.in-Some-Some.is-0 at (c.in_ok-first.ensures.some one) in
    let second = subst (λ (content : List ℕ). IsHead c.in-Some-Some.second 1 content) same (rw c.in-Some-Some.is-1 at (c.in_ok-second.ensures.some honest)) in
    both_sealed contents first.opened first.faultless second.opened second.faultless true
    (is_younger contents c.in-Some-Some.first.generation c.in-Some-Some.second.generation first.fields.generation second.fields.generation c.if-second-first.true)

pub returns-in-Some-Some-2-clause-looks : goal.returns-in-Some-Some-2-clause-looks
returns-in-Some-Some-2-clause-looks g c =
    looks_on g.D.Disk.states g.D.Disk.failures g.D.Disk.honest 0 c.args.disk.now c.read_head.new.disk c.read_head-2.new.disk c.in_ok-first.ensures.looks c.in_ok-second.ensures.looks

pub returns-in-Some-Some-2-clause-ok : goal.returns-in-Some-Some-2-clause-ok
returns-in-Some-Some-2-clause-ok g c = λ honest.
    let contents : Contents = contents_of g.D.Disk.states c.args.disk.now in
    let same = ap (λ (files : Files). (files 1).seen) (same_now g.D.Disk.states g.D.Disk.failures g.D.Disk.honest 0 c.args.disk.now c.read_head.new.disk c.in_ok-first.ensures.looks) in
    let one = c.in_ok-second.ensures.looks.was_honest honest in
    let first = rw c.in-Some-Some.is-0 at (c.in_ok-first.ensures.some one) in
    let second = subst (λ (content : List ℕ). IsHead c.in-Some-Some.second 1 content) same (rw c.in-Some-Some.is-1 at (c.in_ok-second.ensures.some honest)) in
    both_sealed contents first.opened first.faultless second.opened second.faultless false
    (is_older contents c.in-Some-Some.first.generation c.in-Some-Some.second.generation first.fields.generation second.fields.generation (let no = c.if-second-first.false in omega (arith, no)))

pub returns-in_err-first-clause-listed : goal.returns-in_err-first-clause-listed
returns-in_err-first-clause-listed g c =
    let q = err_from_is_err_and c.from_residual.result c.from_residual.ensures.1 in
    rw (q.1, q.2) (of_files 0 c.in_err-first.field-0.0 (omega arith) (at_fault 0 c.in_err-first.field-0.0 c.in_err-first.ensures.listed))

pub returns-in_err-second-clause-listed : goal.returns-in_err-second-clause-listed
returns-in_err-second-clause-listed g c =
    let q = err_from_is_err_and c.from_residual-in_err-second.result c.from_residual-in_err-second.ensures.1 in
    rw (q.1, q.2) (of_files 1 c.in_err-second.field-0.0 (omega arith) (at_fault 1 c.in_err-second.field-0.0 c.in_err-second.ensures.listed))
