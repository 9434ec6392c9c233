-- What a command line is once an argument or a subcommand was added to it.
use Rattle.std.proofs.Common.{◌≡◌, ◌∙◌, false, ap, ap₂, refl}
use Rattle.clap.specs.Words.{App, Rule, AddsArg, AddsSubcommand, app_of, rule_of, with_rule, with_subcommand}
use Rattle.clap.specs.declared.builder.arg.Arg.{Arg}
use Rattle.clap.specs.declared.builder.command.Command.{Command}
use Rattle.clap.specs.declared.builder.command.Command.TheViews.{out-Command as fields_of}

pub with_argument : (old new : Command) (argument : Arg) (line : App) (rule : Rule) → AddsArg old argument new → argument.global ≡ false → rule_of argument ≡ rule
    → app_of old ≡ line → app_of new ≡ with_rule line rule
with_argument old new argument line rule adds local rule_is line_is = adds.shape local ∙ ap₂ with_rule line_is rule_is

pub stays_local : (old new : Command) (argument : Arg) → AddsArg old argument new → argument.global ≡ false → (fields_of old).has_globals ≡ false
    → (fields_of new).has_globals ≡ false
stays_local old new argument adds local is = adds.globals ∙ rw (is, local) refl

pub with_line : (old new sub : Command) (line sub_line : App) → AddsSubcommand old sub new → (fields_of sub).has_globals ≡ false → app_of sub ≡ sub_line
    → app_of old ≡ line → app_of new ≡ with_subcommand line sub_line.top
with_line old new sub line sub_line adds local sub_is line_is = adds.shape local ∙ ap₂ with_subcommand line_is (ap (λ (a : App). a.top) sub_is)
