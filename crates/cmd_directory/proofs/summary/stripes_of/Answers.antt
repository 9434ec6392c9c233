use Rattle.std.proofs.Common.{inl, inr, ◌%◌, ◌∙◌, arith}
use Rattle.std.proofs.lemmas.Result.{err_from_is_err_and}
use Rattle.store_layout.proofs.Refused.{of_files}
use Rattle.recovery.specs.LogReading.{contents_of}
use Rattle.cmd_directory.proofs.Summaries.{has_no_fault, is_there, same_stripes}
use Rattle.cmd_directory.proofs.summary.stripes_of.Goals as goal

pub returns-in_err-head-clause-err : goal.returns-in_err-head-clause-err
returns-in_err-head-clause-err g c = λ honest found same holds.
    let q = err_from_is_err_and c.from_residual.result c.from_residual.ensures.1 in
    let none = has_no_fault (contents_of g.D.Disk.states c.args.disk.now) found c.args.generation same holds in
    rw (q.1, q.2) (elim c.in_err-head.ensures.err [ inl failed ↦ inl failed | inr bad ↦ let fault = bad honest in absurd (cc) ])

pub returns-in-Some-clause-ok : goal.returns-in-Some-clause-ok
returns-in-Some-clause-ok g c = λ honest found same holds.
    let some = rw c.in-Some.is at (c.in_ok-head.ensures.some honest) in
    c.from.ensures ∙ same_stripes (contents_of g.D.Disk.states c.args.disk.now) found c.args.generation same holds c.in-Some.head some.fields

pub returns-in-None-clause-err : goal.returns-in-None-clause-err
returns-in-None-clause-err g c = λ honest found same holds.
    let none = rw c.in-None.is at (c.in_ok-head.ensures.none honest) in
    let there = is_there (contents_of g.D.Disk.states c.args.disk.now) found c.args.generation same holds in
    absurd (cc)

pub returns-in_err-head-clause-listed : goal.returns-in_err-head-clause-listed
returns-in_err-head-clause-listed g c =
    let q = err_from_is_err_and c.from_residual.result c.from_residual.ensures.1 in
    rw (q.1, q.2) (of_files (c.args.generation % 2) c.in_err-head.field-0.0 (omega arith) (elim c.in_err-head.ensures.listed [ inl failed ↦ inl failed | inr fault ↦ inr (inr fault) ]))
