use Rattle.std.proofs.Common.{arith}
use Rattle.store_layout.specs.Logs.{new_version}
use Rattle.gate_log.proofs.StandingLemmas.{begun_stands}
use Rattle.gate_log.proofs.log.GateLog.begin.Goals as goal

pub returns-clause-stands : goal.returns-clause-stands
returns-clause-stands c = begun_stands new_version c.args.generation c.args.low c.clear.new.self.items c.self.inside.is_broken c.clear.ensures.items (omega arith) (omega arith)
