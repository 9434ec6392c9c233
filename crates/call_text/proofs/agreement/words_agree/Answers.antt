use Rattle.call_text.proofs.CallWords.{has_words, printed}
use Rattle.call_text.proofs.WholeWords.{each_call_has_words, keyed_is_called}
use Rattle.call_text.proofs.agreement.words_agree.Goals as goal

pub returns-clause-printed : goal.returns-clause-printed
returns-clause-printed c = printed

pub returns-clause-calls : goal.returns-clause-calls
returns-clause-calls c = has_words

pub returns-clause-all : goal.returns-clause-all
returns-clause-all c = each_call_has_words

pub returns-clause-keyed : goal.returns-clause-keyed
returns-clause-keyed c = keyed_is_called
