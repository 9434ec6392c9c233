use Rattle.std.proofs.Common.{◌≡◌, ℕ, None, List, ap, ◌∙◌}
use Rattle.std.specs.Global.{Vec}
use Rattle.std.specs.Cmp.Lexicographic.{nat_list_cmp_total}
use Rattle.std.specs.FinMap as finite
use Rattle.java_hash.specs.Stripes.{stripe_of}
use Rattle.map_types.specs.declared.texts.Value.{Value}
use Rattle.recovery.proofs.GroupingLemmas.{pushed}
use Rattle.recovery.proofs.grouping.Groups.add.Goals as goal

pub returns-clause-ok : goal.returns-clause-ok
returns-clause-ok c = λ behind one are.
    let n = c.args.self.now.stripes.count in
    let absent : finite.get (finite.from_entries behind) c.args.entry.0 ≡ None = finite.get-from_entries nat_list_cmp_total behind c.args.entry.0 ∙ one.0 in
    pushed n (finite.from_entries behind) c.args.entry.0 c.args.entry.1 absent (λ (list : Vec (List ℕ × Value)). list.items) c.args.self.now.lists.items c.stripe_of-stripe.result _
    c.index_mut.result.now c.push.new.self (c.stripe_of-stripe.ensures.value ∙ ap (λ k. stripe_of n k) c.as_str.ensures.text) c.stripe_of-stripe.ensures.within c.args.self.now.one_each
    c.index_mut.ensures.value c.in_ok-push.ensures.items are
