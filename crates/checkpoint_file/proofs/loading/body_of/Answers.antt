use Rattle.std.proofs.Common.{◌≡◌, inr, ◌+◌, ◌<◌, ℕ, length, true, refl, subst, ◌∙◌, arith}
use Rattle.java_hash.specs.Stripes.{is_stripe_count}
use Rattle.store_layout.specs.Faults.{body_length_in, stripes_in}
use Rattle.checkpoint_file.proofs.WholeFiles.{body_past}
use Rattle.checkpoint_file.proofs.loading.body_of.Goals.{then-len-lt-BODY_OFFSET-via-then-len-lt-BODY_OFFSET, then-len-lt-BODY_OFFSET-via-else-len-lt-BODY_OFFSET+then-head-len}
use Rattle.checkpoint_file.proofs.loading.body_of.Goals as goal

pub returns-then-len-lt-BODY_OFFSET-clause-err : goal.returns-then-len-lt-BODY_OFFSET-clause-err
returns-then-len-lt-BODY_OFFSET-clause-err c = λ content len fields.
    let count : c.in-Some.stripes.count ≡ stripes_in content = c.in-Some.ensures.value ∙ fields.stripes in
    let same = fields.body in
    let past : length content < 36 + body_length_in content = elim c.then-len-lt-BODY_OFFSET.branch [
      | then-len-lt-BODY_OFFSET-via-then-len-lt-BODY_OFFSET w ↦ omega (arith, len)
      | then-len-lt-BODY_OFFSET-via-else-len-lt-BODY_OFFSET+then-head-len w ↦ omega (arith, len, same)
    ] in
    body_past c.args.file content (subst (λ (n : ℕ). is_stripe_count n ≡ true) count c.in-Some.stripes.allowed) past

pub returns-in_default-clause-listed : goal.returns-in_default-clause-listed
returns-in_default-clause-listed c = inr (26, refl)

pub returns-then-len-lt-BODY_OFFSET-clause-listed : goal.returns-then-len-lt-BODY_OFFSET-clause-listed
returns-then-len-lt-BODY_OFFSET-clause-listed c = inr (28, refl)
