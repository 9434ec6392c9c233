use Rattle.std.proofs.Common.{rules}
use Rattle.std.proofs.lemmas.Int.{wraps}
use Rattle.named_functions.proofs.functions.wrapping_sum.Goals as goal

pub returns : goal.returns
returns c = search (rules, wraps)
