use Rattle.std.proofs.Common.{◌≡◌, ◌∙◌, ap, refl, subst, sym, string_bytes, map, true, List, Option}
use Rattle.std.proofs.lemmas.Result.{err_from_is_err_and}
use Rattle.clap.specs.Words.{App, Text, Row, app_of, fault_of, is_simple, is_simple_and_free, subcommand_of, subcommand_rows_of, HasKind}
use Rattle.clap.proofs.OnLiterals.{clap_on_literals}
use Rattle.map_server.specs.CommandLine.{command_line, named_by, Asks}
use Rattle.map_server.proofs.order.order_of.Goals as goal

is_plain : is_simple_and_free command_line ≡ true
unfolding clap_on_literals
is_plain = refl

is_read : is_simple command_line ≡ true
unfolding clap_on_literals
is_read = refl

pub returns-clause-known : goal.returns-clause-known
returns-clause-known c =
    let is : app_of c.in_ok-command.command ≡ command_line = c.in_ok-command.ensures in
    let none = c.in_ok-matches.ensures.kinds (ap is_simple_and_free is ∙ is_plain) in
    sym (ap (λ (a : App). fault_of a (map (λ s. string_bytes s) c.args.words.now)) is) ∙ none

pub returns-in_err-matches-clause-known : goal.returns-in_err-matches-clause-known
returns-in_err-matches-clause-known c =
    let is : app_of c.in_ok-command.command ≡ command_line = c.in_ok-command.ensures in
    let words : List Text = map (λ s. string_bytes s) c.args.words.now in
    let kinds = c.in_err-matches.ensures.kinds (ap is_simple_and_free is ∙ is_plain) in
    let has = subst (λ (a : App). HasKind (fault_of a words) c.in_err-matches.field-0.0) is kinds in
    let q = err_from_is_err_and c.from_residual-in_err-matches.result c.from_residual-in_err-matches.ensures.1 in
    rw (q.1, q.2) has

pub returns-clause-asks : goal.returns-clause-asks
returns-clause-asks c =
    let is : app_of c.in_ok-command.command ≡ command_line = c.in_ok-command.ensures in
    let words : List Text = map (λ s. string_bytes s) c.args.words.now in
    let rows = (c.in_ok-matches.ensures.matches (ap is_simple is ∙ is_read)).1 in
    let named : subcommand_rows_of c.in_ok-matches.matches ≡ named_by words = rows ∙ ap (λ (a : App). subcommand_of a words) is in
    subst (λ (line : Option (Text × List Row)). Asks line c.in_ok-order_in.field-0) named c.in_ok-order_in.ensures
