use Rattle.std.proofs.Common.{codes, refl}
use Rattle.std.proofs.lemmas.Result.{IfOk-weaker}
use Rattle.map_server.specs.CommandLine.{option_rule}
use Rattle.map_server.proofs.Lines.{stays_local, with_argument}
use Rattle.map_server.proofs.grammar.with_places.Goals as goal

pub returns-clause-app : goal.returns-clause-app
returns-clause-app c =
    let one = with_argument _ _ _ _ (option_rule (codes "port")) c.in_ok-arg.ensures c.option-port.ensures.local c.option-port.ensures.rule refl in
    let two = with_argument _ _ _ _ (option_rule (codes "socket")) c.in_ok-arg-2.ensures c.option-socket.ensures.local c.option-socket.ensures.rule one in
    IfOk-weaker c.arg-3.result _ _ (λ command h. with_argument _ _ _ _ (option_rule (codes "socket-mode")) h c.option-mode.ensures.local c.option-mode.ensures.rule two) c.arg-3.ensures

pub returns-clause-local : goal.returns-clause-local
returns-clause-local c =
    IfOk-weaker c.arg-3.result _ _ (λ command h is.
    let one = stays_local _ _ _ c.in_ok-arg.ensures c.option-port.ensures.local is in
    let two = stays_local _ _ _ c.in_ok-arg-2.ensures c.option-socket.ensures.local one in
    stays_local _ _ _ h c.option-mode.ensures.local two) c.arg-3.ensures
