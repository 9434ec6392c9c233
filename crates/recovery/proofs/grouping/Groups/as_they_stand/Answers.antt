use Rattle.std.proofs.Common.{rules, ◌≡◌, List, ℕ, [], ◌∷◌, ◌++◌, length, map, ap, sym, ◌∙◌, append_assoc, arith}
use Rattle.std.proofs.lemmas.Grind.{common_steps}
use Rattle.std.proofs.lemmas.List.{map-append, length-map}
use Rattle.std.specs.Global.{Vec}
use Rattle.std.specs.Vec.Iter.{into_iter_items}
use Rattle.map_types.specs.declared.texts.Value.{Value}
use Rattle.bin_table.specs.Chains.{Entries}
use Rattle.checkpoint_file.specs.declared.loading.LoadedSection.{LoadedSection}
use Rattle.recovery.proofs.grouping.Groups.as_they_stand.Goals as goal

abbrev entries_of : Vec (List ℕ × Value) → Entries
entries_of list = list.items

abbrev entries_read : LoadedSection → Entries
entries_read section = section.entries.items

pub loop-section-preserved : goal.loop-section-preserved
loop-section-preserved c =
    let inv = c.loop-section.invariant in
    let section = c.in-Some.section in
    let left = into_iter_items c.next.new.self in
    let front : into_iter_items c.loop-section.section-iterator ≡ section ∷ left = search rules in
    let whole : c.loop-section.yielded ++ section ∷ left ≡ c.args.sections.items = ap (λ r. c.loop-section.yielded ++ r) (sym front) ∙ inv.rest in
    record {
      can = tt;
      ends = tt;
      rest = append_assoc c.loop-section.yielded (section ∷ []) left ∙ whole;
      lists = ap (map entries_of) c.in_ok-push.ensures.items ∙ map-append entries_of c.loop-section.lists.items (section.entries ∷ [])
          ∙ ap (λ (l : List Entries). l ++ section.entries.items ∷ []) inv.lists ∙ sym (map-append entries_read c.loop-section.yielded (section ∷ []));
    }

pub returns-clause-ok : goal.returns-clause-ok
returns-clause-ok c =
    let inv = c.loop-section.invariant in
    let all : c.loop-section.yielded ≡ c.args.sections.items = grind (arith, common_steps) in
    inv.lists ∙ ap (map entries_read) all

pub invariant_of-result : goal.invariant_of-result
invariant_of-result c =
    let inv = c.loop-section.invariant in
    let all : c.loop-section.yielded ≡ c.args.sections.items = grind (arith, common_steps) in
    record { one_each = sym (length-map c.loop-section.lists.items entries_of) ∙ ap length (inv.lists ∙ ap (map entries_read) all) ∙ length-map c.args.sections.items entries_read ∙ c.requires }
