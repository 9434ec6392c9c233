use Rattle.std.proofs.Common.{◌≡◌, ◌∙◌, false, codes, ap}
use Rattle.std.proofs.lemmas.Result.{IfOk-weaker}
use Rattle.clap.specs.Words.{app_of, new_app}
use Rattle.clap.specs.declared.builder.command.Command.TheViews.{out-Command as fields_of}
use Rattle.map_server.specs.CommandLine.{directory_rule, flag_rule, option_rule, with_places}
use Rattle.map_server.proofs.Lines.{stays_local, with_argument}
use Rattle.map_server.proofs.grammar.serve_line.Goals as goal

pub returns-clause-app : goal.returns-clause-app
returns-clause-app c =
    let bare : app_of c.about.result ≡ new_app (codes "serve") = rw c.about.ensures c.new.ensures.app in
    let one = with_argument _ _ _ _ directory_rule c.in_ok-line.ensures c.directory.ensures.local c.directory.ensures.rule bare in
    let four = c.in_ok-with_places.ensures.app ∙ ap with_places one in
    let five = with_argument _ _ _ _ (option_rule (codes "stripes")) c.in_ok-arg.ensures c.stripes.ensures.local c.stripes.ensures.rule four in
    let six = with_argument _ _ _ _ (option_rule (codes "workers")) c.in_ok-arg-2.ensures c.option-workers.ensures.local c.option-workers.ensures.rule five in
    let seven = with_argument _ _ _ _ (option_rule (codes "connections")) c.in_ok-arg-3.ensures c.option-connections.ensures.local c.option-connections.ensures.rule six in
    let eight = with_argument _ _ _ _ (option_rule (codes "checkpoint-bytes")) c.in_ok-arg-4.ensures c.option-bytes.ensures.local c.option-bytes.ensures.rule seven in
    let nine = with_argument _ _ _ _ (option_rule (codes "idle-seconds")) c.in_ok-arg-5.ensures c.option-idle.ensures.local c.option-idle.ensures.rule eight in
    let ten = with_argument _ _ _ _ (option_rule (codes "log-ahead")) c.in_ok-arg-6.ensures c.option-ahead.ensures.local c.option-ahead.ensures.rule nine in
    let eleven = with_argument _ _ _ _ (option_rule (codes "report-seconds")) c.in_ok-arg-7.ensures c.option-report.ensures.local c.option-report.ensures.rule ten in
    IfOk-weaker c.arg-9.result _ _ (λ command h. with_argument _ _ _ _ (flag_rule (codes "standby")) h c.flag-standby.ensures.local c.flag-standby.ensures.rule eleven) c.arg-9.ensures

pub returns-clause-local : goal.returns-clause-local
returns-clause-local c =
    let bare : (fields_of c.about.result).has_globals ≡ false = rw c.about.ensures c.new.ensures.local in
    let one = stays_local _ _ _ c.in_ok-line.ensures c.directory.ensures.local bare in
    let four = c.in_ok-with_places.ensures.local one in
    let five = stays_local _ _ _ c.in_ok-arg.ensures c.stripes.ensures.local four in
    let six = stays_local _ _ _ c.in_ok-arg-2.ensures c.option-workers.ensures.local five in
    let seven = stays_local _ _ _ c.in_ok-arg-3.ensures c.option-connections.ensures.local six in
    let eight = stays_local _ _ _ c.in_ok-arg-4.ensures c.option-bytes.ensures.local seven in
    let nine = stays_local _ _ _ c.in_ok-arg-5.ensures c.option-idle.ensures.local eight in
    let ten = stays_local _ _ _ c.in_ok-arg-6.ensures c.option-ahead.ensures.local nine in
    let eleven = stays_local _ _ _ c.in_ok-arg-7.ensures c.option-report.ensures.local ten in
    IfOk-weaker c.arg-9.result _ _ (λ command h. stays_local _ _ _ h c.flag-standby.ensures.local eleven) c.arg-9.ensures
