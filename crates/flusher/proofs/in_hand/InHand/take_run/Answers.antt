use Rattle.std.proofs.Common.{◌≡◌, ◌+◌, ◌<◌, ◌≤◌, arith, sym, ◌∙◌, subst, ap, None, Some, set, get_or, length, ◌++◌, ◌∷◌, []}
use Rattle.ticket_order.specs.Records.{entry}
use Rattle.std.specs.Vec.{vec_len, vec_capacity}
use Rattle.flusher.proofs.Runs.{none_is_some, command_in_run, emptied_more, there_still, taken_more, run_within}
use Rattle.flusher.proofs.in_hand.InHand.take_run.Goals.{in-Some, in_default}
use Rattle.flusher.proofs.in_hand.InHand.take_run.Goals as goal

pub loop-index-preserved : goal.loop-index-preserved
loop-index-preserved c =
    let before = c.loop-index.invariant in
    let test : c.loop-index.index < c.args.count = c.loop-index-test.true in
    let run = c.requires.run in
    let within : c.loop-index.index < length c.args.self.now.slots = omega (arith, run_within c.args.self.now run.0 run.1, run.2) in
    let found : c.index_mut.result.now ≡ get_or c.args.self.now.slots c.loop-index.index None = c.index_mut.ensures.value ∙ there_still _ _ _ _ before.slots within in
    let taken : c.replace.result ≡ get_or c.args.self.now.slots c.loop-index.index None = c.replace.ensures.value ∙ found in
    let slots = ap (λ z. set c.loop-index.self-inside.slots.items c.loop-index.index z) c.replace.ensures.after ∙ emptied_more _ _ _ before.slots within in
    elim c.match-replace.branch [
      | in-Some w ↦
          let there : get_or c.args.self.now.slots c.loop-index.index None ≡ Some w.in-Some.command = sym taken ∙ w.in-Some.is in
          let ticket : w.new-ticket.result ≡ c.args.self.now.next + c.loop-index.index = w.new-ticket.ensures ∙ ap (λ z. z + c.loop-index.index) before.next in
          let items : c.match-replace.entries.items ≡ c.loop-index.entries.items ++ entry (c.args.self.now.next + c.loop-index.index) w.in-Some.command ∷ [] =
          ap (λ v. v.items) w.entries-is ∙ w.push_reserved.ensures.items ∙ ap (λ z. c.loop-index.entries.items ++ entry z w.in-Some.command ∷ []) ticket in
          record {
            next = before.next;
            slots = slots;
            entries = λ commands is long. taken_more c.args.self.now commands c.loop-index.index _ _ w.in-Some.command is (omega arith) there (before.entries commands is long) items;
            len = subst (λ v. vec_len v ≤ c.loop-index.index + 1) (sym w.entries-is) (omega (arith, w.push_reserved.ensures.len, before.len));
            room = ap vec_capacity w.entries-is ∙ w.push_reserved.ensures.capacity ∙ before.room;
          }
      | in_default w ↦
          let k = command_in_run c.args.self.now run.0 c.loop-index.index run.1 (omega (arith, run.2)) in
          absurd (none_is_some k.0 (sym w.in_default.is ∙ taken ∙ k.1))
    ]
