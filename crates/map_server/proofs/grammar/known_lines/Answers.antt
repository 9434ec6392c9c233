use Rattle.std.proofs.Common.{◌≡◌, ap, true}
use Rattle.std.proofs.lemmas.Result.{IfOk-weaker}
use Rattle.clap.specs.Words.{Shape, app_of}
use Rattle.clap.specs.Simple.{on_top}
use Rattle.map_server.specs.CommandLine.{bare_line, call_line, check_line, init_line, mem_line, serve_line, sim_line}
use Rattle.map_server.proofs.Lines.{with_line}
use Rattle.map_server.proofs.grammar.known_lines.Goals as goal

pub returns : goal.returns
returns c =
    let bare : app_of c.subcommand_required.result ≡ bare_line =
    rw (c.subcommand_required.ensures, c.version.ensures, c.about.ensures) (ap (on_top (λ (s : Shape). record s { subcommand_required = true; has_version = true })) c.new.ensures.app) in
    let one = with_line _ _ _ _ mem_line c.in_ok-subcommand.ensures c.mem_line.ensures.local c.mem_line.ensures.app bare in
    let two = with_line _ _ _ _ init_line c.in_ok-subcommand-2.ensures c.in_ok-init_line.ensures.local c.in_ok-init_line.ensures.app one in
    let three = with_line _ _ _ _ check_line c.in_ok-subcommand-3.ensures c.in_ok-check_line.ensures.local c.in_ok-check_line.ensures.app two in
    let four = with_line _ _ _ _ serve_line c.in_ok-subcommand-4.ensures c.in_ok-serve_line.ensures.local c.in_ok-serve_line.ensures.app three in
    let five = with_line _ _ _ _ call_line c.in_ok-subcommand-5.ensures c.in_ok-call_line.ensures.local c.in_ok-call_line.ensures.app four in
    IfOk-weaker c.subcommand-6.result _ _ (λ command h. with_line _ _ _ _ sim_line h c.in_ok-sim_line.ensures.local c.in_ok-sim_line.ensures.app five) c.subcommand-6.ensures
