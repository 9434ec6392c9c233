use Rattle.std.proofs.Common.{◌≡◌, ap, Ok, Err, OnOk, ◌++◌}
use Rattle.bin_table.specs.BinsState.{BinsState}
use Rattle.bin_table.specs.Tables.{all_entries, IsCopied}
use Rattle.bin_table.proofs.TableLaws.{distinct-all}
use Rattle.bin_table.proofs.bins.Bins.lend_entries.Goals as goal

pub returns : goal.returns
returns c =
    let cs = c.self.inside.chains.items in
    elim c.lend_all.result as (λ r. (OnOk r (c.lend_all.new.entries.items ≡ c.args.entries.now.items ++ all_entries cs)) → OnOk r (IsCopied c.args.self.now.map c.args.entries.now.items c.lend_all.new.entries.items)) [
      | Ok u ↦ λ added. record { entries = all_entries cs; added = added; distinct = distinct-all _ cs c.self.invariant.keys; map = ap (λ (st : BinsState). st.map) c.self.view_is }
      | Err e ↦ λ never. tt
    ] c.lend_all.ensures
