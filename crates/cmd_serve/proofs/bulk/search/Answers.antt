use Rattle.std.proofs.Common.{◌≤◌, List, ℕ, length, Option, Some, arith, sym, ap, ◌∙◌}
use Rattle.std.proofs.lemmas.Result.{err_from_is_err_and}
use Rattle.std.specs.Option.{option_map}
use Rattle.map_types.specs.declared.commands.Reply.TheVariants.{Now}
use Rattle.map_types.specs.declared.texts.Value.TheVariants.{Text}
use Rattle.bulk_tasks.specs.Bulk.{key_of_value}
use Rattle.wire_frames.specs.declared.requests.Bulk.TheVariants.{Search}
use Rattle.cmd_serve.proofs.Whole.{finds, refused, unfinished}
use Rattle.cmd_serve.proofs.bulk.search.Goals as goal

pub returns-in_err-key-clause-completes : goal.returns-in_err-key-clause-completes
returns-in_err-key-clause-completes g c =
    let q = err_from_is_err_and c.from_residual.result c.from_residual.ensures.1 in
    rw (q.1, q.2) (refused _ _ _ (key_of_value c.args.sought.now) _ (Search c.args.threshold c.args.sought.now) c.in_err-key.ensures.answers)

pub returns-in_err-text-in-Some-clause-completes : goal.returns-in_err-text-in-Some-clause-completes
returns-in_err-text-in-Some-clause-completes g c =
    let q = err_from_is_err_and c.from_residual-in_err-text-in-Some.result c.from_residual-in_err-text-in-Some.ensures.1 in
    let short : length c.as_str.result.now ≤ 4096 = omega (arith, c.as_str.ensures.bound, ap length c.as_str.ensures.text) in
    rw (q.1, q.2, c.in_err-text-in-Some.ensures.no_other short) (unfinished _ _ _ c.args.threshold c.args.sought.now _ c.in_ok-key.ensures.answers)

pub returns-in-None-clause-completes : goal.returns-in-None-clause-completes
returns-in-None-clause-completes g c = finds _ _ _ c.args.threshold c.args.sought.now _ _ (ap (λ (o : Option (List ℕ)). Now (option_map (λ key. Text key) o)) c.in-None.is) c.in_ok-key.ensures.answers

pub returns-in_ok-text-in-Some-clause-completes : goal.returns-in_ok-text-in-Some-clause-completes
returns-in_ok-text-in-Some-clause-completes g c =
    finds _ _ _ c.args.threshold c.args.sought.now _ _
    (ap (λ (o : Option (List ℕ)). Now (option_map (λ key. Text key) o)) c.in-Some.is ∙ ap (λ value. Now (Some value)) (ap (λ (key : List ℕ). Text key) (sym c.as_str.ensures.text) ∙ sym c.in_ok-text-in-Some.ensures.ok))
    c.in_ok-key.ensures.answers
