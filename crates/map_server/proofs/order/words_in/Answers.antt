use Rattle.std.proofs.Common.{◌≡◌, ◌∙◌, ◌++◌, List, ap, codes, map, refl}
use Rattle.std.specs.Borrow.{Bor}
use Rattle.clap.specs.Words.{Text, found_of}
use Rattle.map_server.proofs.Getters.{words_are}
use Rattle.map_server.proofs.order.words_in.Goals as goal

pub returns : goal.returns
returns c =
    let items : c.extend_from_slice.new.self.items ≡ c.unwrap_or.result.now =
    c.in_ok-extend_from_slice.ensures.items ∙ ap (λ (words : List (Bor Text)). words ++ c.unwrap_or.result.now) c.new-words.ensures.items in
    ap (λ (words : List (Bor Text)). map (λ (word : Bor Text). word.now) words) (items ∙ ap (λ (words : Bor (List (Bor Text))). words.now) c.unwrap_or.ensures)
    ∙ words_are (found_of c.args.matches.now) (codes "METHOD") c.get_strs.result _ refl c.get_strs.ensures
