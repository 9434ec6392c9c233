use Rattle.std.proofs.Common.{◌≡◌, subst}
use Rattle.std.specs.Prelude.{IfOk}
use Rattle.map_types.specs.Limits.{most_key_bytes}
use Rattle.map_model.specs.Maps.{Map}
use Rattle.one_history.proofs.Starts.{empty_are_parts, empty_union}
use Rattle.stripe_locks.specs.Passes.{begun_with}
use Rattle.stripe_locks.proofs.stripes.Stripes.empty.Goals as goal

pub new-requires-clause-parts : goal.new-requires-clause-parts
new-requires-clause-parts c = empty_are_parts _ _ c.in_ok-parts.ensures.count c.in_ok-parts.ensures.empty

pub returns-clause-opening : goal.returns-clause-opening
returns-clause-opening c = subst (λ (m : Map). IfOk c.new.result (λ stripes. begun_with stripes ≡ record { first = 0; map = m; key_limit = most_key_bytes })) (empty_union _ c.in_ok-parts.ensures.empty) c.new.ensures.opening
