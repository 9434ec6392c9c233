use Rattle.std.proofs.Common.{◌∙◌}
use Rattle.clap.specs.Words.{found_of}
use Rattle.clap.proofs.WalkLemmas.{one_text-rows}
use Rattle.map_server.proofs.order.is_given.Goals as goal

pub returns : goal.returns
returns c =
    let is = one_text-rows (found_of c.args.matches.now) c.args.id.now in
    record {
      absent = λ e. c.get_flag.ensures.none (is ∙ e);
      default = λ e. c.get_flag.ensures.other (is ∙ e);
      given = λ e. c.get_flag.ensures.value (is ∙ e);
    }
