use Rattle.log_records.proofs.Fields.{number_agrees, key_agrees, value_agrees, some_value_agrees, func_agrees}
use Rattle.log_records.proofs.laws.fields_agree.Goals as goal

pub returns : goal.returns
returns c = record { number = number_agrees; key = key_agrees; value = value_agrees; some_value = some_value_agrees; func = func_agrees }
