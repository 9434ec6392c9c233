use Rattle.std.proofs.Common.{◌≡◌, List, map, sym, ap, ◌∙◌, rules}
use Rattle.std.specs.List.{flat_map}
use Rattle.std.specs.List.Sorted.{IsPermutation, IsSortedByKey}
use Rattle.std.specs.Ordering.{nat_cmp, is_lt}
use Rattle.std.specs.Cmp.Lexicographic.{slice_cmp, nat_list_cmp_total}
use Rattle.std.specs.FinMap as finite
use Rattle.std.proofs.lemmas.List.{take_all}
use Rattle.std.proofs.lemmas.List.MinMax.{ranks_by}
use Rattle.std.proofs.lemmas.List.Sorted.{answers_always}
use Rattle.map_model.specs.Maps.{Map}
use Rattle.map_model.specs.Parts.{union_of, parts_of}
use Rattle.atomic_methods.specs.PartState.{PartState}
use Rattle.one_history.specs.Turns.{maps_of}
use Rattle.sim_rules.specs.declared.outcome.MapEntry.{MapEntry}
use Rattle.sim_rules.specs.Cases.{entry_of}
use Rattle.schedule_sim.proofs.EntriesOfParts.{sorted_is_union}
use Rattle.schedule_sim.proofs.entries.entries_of.Goals as goal

pub returns : goal.returns
returns c =
    let parts = c.args.parts.now in
    let n = c.requires.0 in
    let whole = union_of (maps_of parts) in
    let own : maps_of parts ≡ parts_of n whole = c.requires.1.own.own in
    let all : map entry_of c.loop-part.entries.items ≡ flat_map finite.entries (maps_of parts) =
    c.loop-part.invariant ∙ ap (λ (ps : List PartState). flat_map finite.entries (maps_of ps)) (take_all c.loop-part.part-index parts c.loop-part-test.false) in
    let moved : IsPermutation c.loop-part.entries.items c.sort_unstable_by.new.self.items = c.sort_unstable_by.ensures.permutation in
    let sorted : IsSortedByKey (λ (e : MapEntry). e.key) (slice_cmp nat_cmp) c.sort_unstable_by.new.self.items =
    c.sort_unstable_by.ensures.sorted _ (ranks_by nat_list_cmp_total (λ (e : MapEntry). e.key)) (answers_always _ _ _ (λ f a r f' called. ap is_lt (search rules))) in
    sorted_is_union n whole c.loop-part.entries.items c.sort_unstable_by.new.self.items (all ∙ ap (λ (ms : List Map). flat_map finite.entries ms) own) moved sorted
    ∙ ap (λ (ms : List Map). finite.entries (union_of ms)) (sym own)
