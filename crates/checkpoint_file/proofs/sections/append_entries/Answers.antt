use Rattle.std.proofs.Common.{List, ℕ, Some, ◌++◌, arith, ap, subst, ◌∙◌}
use Rattle.map_types.specs.declared.texts.Value.{Value}
use Rattle.log_records.specs.Spelling.{IsText, IsValue, key_bytes, value_bytes}
use Rattle.store_layout.specs.Logs.{new_layout}
use Rattle.checkpoint_file.proofs.EntryLemmas.{bytes_more, fits_more}
use Rattle.checkpoint_file.proofs.sections.append_entries.Goals as goal

pub loop-entry-preserved : goal.loop-entry-preserved
loop-entry-preserved c =
    let entries = c.args.entries.now in
    let i = c.loop-entry.entry-index in
    let before = c.loop-entry.out.items in
    let between = c.put_key.new.out.items in
    let entry : List ℕ × Value = c.entry-item.result in (
      bytes_more new_layout c.args.out.now.items before between c.put_value.new.out.items entries i entry (omega arith) c.entry-item.is c.loop-entry.invariant.0
          (c.in_ok-put_key.ensures.ok ∙ ap (λ (key : List ℕ). before ++ key_bytes new_layout key) c.key-key.ensures)
          (c.in_ok-put_value.ensures.ok ∙ ap (λ (value : Value). between ++ value_bytes (Some value)) c.value.ensures),
      fits_more new_layout entries i entry (omega arith) c.entry-item.is c.loop-entry.invariant.1
          (subst (λ (key : List ℕ). IsText new_layout.key_limit key) c.key-key.ensures c.in_ok-put_key.ensures.fits)
          (subst (λ (value : Value). IsValue value) c.value.ensures c.in_ok-put_value.ensures.fits),
    )
