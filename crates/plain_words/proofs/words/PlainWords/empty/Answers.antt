use Rattle.std.proofs.Common.{◌≡◌, subst}
use Rattle.std.specs.Prelude.{IfOk}
use Rattle.one_history.specs.declared.book.Book.{Book}
use Rattle.one_history.proofs.Starts.{empty_are_parts, empty_start}
use Rattle.plain_words.proofs.words.PlainWords.empty.Goals as goal

pub new-requires-clause-parts : goal.new-requires-clause-parts
new-requires-clause-parts c = empty_are_parts _ _ c.in_ok-parts.ensures.count c.in_ok-parts.ensures.empty

pub returns-clause-ok : goal.returns-clause-ok
returns-clause-ok c = subst (λ (b : Book). IfOk c.new.result (λ words. words ≡ b)) (empty_start _ _ _ _ c.in_ok-parts.ensures.count c.in_ok-parts.ensures.empty) c.new.ensures.ok
