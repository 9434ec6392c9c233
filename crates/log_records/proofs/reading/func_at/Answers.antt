use Rattle.std.proofs.Common.{refl}
use Rattle.log_records.specs.Reading.{numbered_at}
use Rattle.log_records.proofs.Numbered.{func_known, func_unknown}
use Rattle.log_records.proofs.reading.func_at.Goals as goal

pub returns-in-None : goal.returns-in-None
unfolding numbered_at
returns-in-None c = rw (c.in-Some.ensures.cases.0, func_unknown _ c.in-None.ensures.unknown) refl

pub returns-in-Some-of : goal.returns-in-Some-of
unfolding numbered_at
returns-in-Some-of c = rw (c.in-Some.ensures.cases.0, ← c.in-Some-of.ensures.found, func_known _) refl
