use Rattle.std.proofs.Common.{false, arith}
use Rattle.store_layout.specs.Logs.{new_version}
use Rattle.gate_log.proofs.StandingLemmas.{begun_stands}
use Rattle.gate_log.proofs.log.GateLog.new.Goals as goal

pub returns-clause-stands : goal.returns-clause-stands
returns-clause-stands c = begun_stands new_version c.args.generation c.args.low c.new.result.items false c.new.ensures.items (omega arith) (omega arith)
