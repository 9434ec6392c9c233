use Rattle.std.proofs.Common.{refl}
use Rattle.log_records.specs.Reading.{numbered_at}
use Rattle.log_records.proofs.Numbered.{method_known, method_unknown}
use Rattle.log_records.proofs.reading.method_at.Goals as goal

pub returns-in-None : goal.returns-in-None
unfolding numbered_at
returns-in-None c = rw (c.in-Some.ensures.cases.0, method_unknown _ c.in-None.ensures.unknown) refl

pub returns-in-Some-with_number : goal.returns-in-Some-with_number
unfolding numbered_at
returns-in-Some-with_number c = rw (c.in-Some.ensures.cases.0, ← c.in-Some-with_number.ensures.found, method_known _) refl
