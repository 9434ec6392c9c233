use Rattle.std.proofs.Common.{◌∙◌, ap}
use Rattle.std.specs.Borrow.{Bor}
use Rattle.clap.specs.Words.{Text, found_of}
use Rattle.map_server.proofs.Getters.{word_is}
use Rattle.map_server.proofs.order.word_or.Goals as goal

pub returns : goal.returns
returns c =
    ap (λ (word : Bor Text). word.now) c.unwrap_or.ensures ∙ word_is (found_of c.args.matches.now) c.args.id.now c.get_str.result c.args.other c.get_str.ensures
