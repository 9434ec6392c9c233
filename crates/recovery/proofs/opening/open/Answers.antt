use Rattle.std.proofs.Common.{inl, inr, ◌∙◌, ap, arith}
use Rattle.java_hash.proofs.StripeLaws.{some_stripe}
use Rattle.store_layout.specs.Opening.{Contents}
use Rattle.store_layout.proofs.Refused.{of_files}
use Rattle.ticket_order.specs.declared.record.Opening.{Opening}
use Rattle.stripe_locks.specs.Passes.{begun_with}
use Rattle.recovery.specs.LogReading.{contents_of}
use Rattle.recovery.proofs.Finding.{opens_with, stands_for}
use Rattle.recovery.proofs.opening.open.Goals as goal

pub returns-in-Ok-clause-ok : goal.returns-in-Ok-clause-ok
returns-in-Ok-clause-ok g c = λ honest.
    let contents : Contents = contents_of g.D.Disk.states c.args.disk in
    let some = some_stripe c.args.stripes.count c.args.stripes.allowed in
    let found = c.in_ok-keeper.ensures.ok honest in (
      found.0,
      stands_for contents (begun_with c.in-Ok.shared) (opens_with c.laws_of_parts.ensures.union contents c.args.stripes.count some c.in_ok-keeper.keeper c.in_ok-keeper.parts.items c.in_ok-keeper.first
          c.in_ok-keeper.limit (begun_with c.in-Ok.shared) found.1 c.in-Ok.ensures.opening),
    )

pub returns-in-Ok-clause-begins : goal.returns-in-Ok-clause-begins
returns-in-Ok-clause-begins g c = λ honest.
    let contents : Contents = contents_of g.D.Disk.states c.args.disk in
    let some = some_stripe c.args.stripes.count c.args.stripes.allowed in
    let found = c.in_ok-keeper.ensures.ok honest in
    opens_with c.laws_of_parts.ensures.union contents c.args.stripes.count some c.in_ok-keeper.keeper c.in_ok-keeper.parts.items c.in_ok-keeper.first c.in_ok-keeper.limit (begun_with c.in-Ok.shared) found.1
    c.in-Ok.ensures.opening

pub returns-in-Ok-clause-limit : goal.returns-in-Ok-clause-limit
returns-in-Ok-clause-limit g c = ap (λ (o : Opening). o.key_limit) c.in-Ok.ensures.opening ∙ c.in_ok-keeper.ensures.limit

pub returns-in-Ok-clause-fits : goal.returns-in-Ok-clause-fits
returns-in-Ok-clause-fits g c = λ p opening unused.
    c.in_ok-keeper.ensures.fits p (opening ∙ c.in-Ok.ensures.opening) (rw c.in-Ok.ensures.opening at unused)

pub returns-in-Err-clause-listed : goal.returns-in-Err-clause-listed
returns-in-Err-clause-listed g c = of_files 0 c.in-Err.refusal (omega arith) (inr (inl c.in-Err.ensures.err))
