use Rattle.std.proofs.Common.{is_some, ap, ◌∙◌}
use Rattle.std.specs.FinMap as finite
use Rattle.bin_table.specs.BinsState.{BinsState}
use Rattle.bin_table.specs.Chains.{chain_entries}
use Rattle.bin_table.proofs.TableLaws.{updated_inserted}
use Rattle.bin_table.proofs.BinLaws.{bin_is, twice_set, found_in_bin, written_in, IsWith}
use Rattle.bin_table.proofs.bins.Bins.replace.Goals as goal

pub write_value-after-requires-clause-mapped : goal.write_value-after-requires-clause-mapped
write_value-after-requires-clause-mapped c =
    let s = c.self.inside.stripes.count in
    let key = c.args.key.now in
    let at = bin_is s _ c.args.spread c.bin_in-bin.result key c.bin_in-bin.ensures.value c.requires.spread in
    ap is_some (found_in_bin s c.self.inside.len c.bin_in-bin.result c.self.inside.chains.items c.exchange-before.result key c.self.invariant at c.exchange-before.ensures.old)
    ∙ ap (λ (st : BinsState). finite.contains_key st.map key) c.self.view_is ∙ c.requires.mapped

is_with : (c : goal.Joined-exchange) → IsWith c.self.inside.stripes.count c.self.inside.chains.items c.exchange.new.chains.items c.self.inside.len c.args.key.now c.args.value
is_with c =
    let s = c.self.inside.stripes.count in
    let cs = c.self.inside.chains.items in
    let key = c.args.key.now in
    let before = c.exchange-before.result in
    let after = c.write_value-after.result in
    let at = bin_is s _ c.args.spread c.bin_in-bin.result key c.bin_in-bin.ensures.value c.requires.spread in
    written_in s c.self.inside.len c.bin_in-bin.result cs c.exchange.new.chains.items before after key c.args.value
    c.self.invariant at c.bin_in-bin.ensures.within c.exchange-before.ensures.old
    (twice_set cs _ _ c.bin_in-bin.result _ _ c.exchange-before.ensures.new c.exchange.ensures.new)
    c.write_value-after.ensures.distinct (updated_inserted key c.args.value (chain_entries before) (chain_entries after) c.write_value-after.ensures.map)
    (ap (λ (st : BinsState). finite.contains_key st.map key) c.self.view_is ∙ c.requires.mapped)

pub invariant_of-self : goal.invariant_of-self
invariant_of-self c = (is_with c).table

pub returns-clause-map : goal.returns-clause-map
returns-clause-map c = (is_with c).map ∙ ap (λ (st : BinsState). finite.insert st.map c.args.key.now c.args.value) c.self.view_is
