use Rattle.std.proofs.Common.{length, ap, arith, inl, inr}
use Rattle.wire_frames.proofs.Answered.{spelled_whole, one_value, none_behind, not_refused}
use Rattle.wire_frames.proofs.answers.value_of.Goals as goal

pub returns-in-Ok-default-empty-clause-fits : goal.returns-in-Ok-default-empty-clause-fits
returns-in-Ok-default-empty-clause-fits c =
    let found = c.in-Ok-default-empty in
    (spelled_whole c.fields_agree.ensures.value c.args.bytes.now found.value found.field-0-1.now (λ i. omega (arith, c.type_inv.bytes i)) found.len_below found.ensures).0

pub returns-in-Ok-default-empty-clause-found : goal.returns-in-Ok-default-empty-clause-found
returns-in-Ok-default-empty-clause-found c =
    let found = c.in-Ok-default-empty in
    (spelled_whole c.fields_agree.ensures.value c.args.bytes.now found.value found.field-0-1.now (λ i. omega (arith, c.type_inv.bytes i)) found.len_below found.ensures).1

pub returns-in-Ok-default-empty-clause-only : goal.returns-in-Ok-default-empty-clause-only
returns-in-Ok-default-empty-clause-only c value fits spelled =
    let found = c.in-Ok-default-empty in
    one_value c.fields_agree.ensures.value c.args.bytes.now found.value value found.field-0-1.now found.ensures fits spelled

pub returns-in-Ok-clause-only : goal.returns-in-Ok-clause-only
returns-in-Ok-clause-only c value fits spelled =
    let found = c.in-Ok.field-0 in
    let none = none_behind c.fields_agree.ensures.value c.args.bytes.now found.0 value found.1.now c.in-Ok.ensures fits spelled in
    absurd (omega (arith, c.in-Ok.len_at_least, ap length none))

pub returns-in-Err : goal.returns-in-Err
returns-in-Err c = record {
  fits = tt;
  found = tt;
  only = λ value fits spelled. elim c.in-Err.ensures [
    | inl memory ↦ c.unread.ensures.memory memory
    | inr refused ↦ absurd (not_refused c.fields_agree.ensures.value c.args.bytes.now c.in-Err.refusal value refused fits spelled)
  ];
}
