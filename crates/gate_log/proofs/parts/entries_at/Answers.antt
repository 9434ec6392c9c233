use Rattle.std.proofs.Common.{◌≡◌, ◌<◌, List, ◌++◌, ◌∷◌, [], length, arith, ap, sym, subst, ◌∙◌}
use Rattle.std.proofs.lemmas.List.{length-append}
use Rattle.std.specs.List.{AllByRecursion}
use Rattle.log_records.specs.Layout.{layout_of}
use Rattle.log_records.specs.Spelling.{IsCommand}
use Rattle.ticket_order.specs.declared.stripe.Entry.{Entry}
use Rattle.store_layout.specs.Logs.{records_bytes}
use Rattle.gate_log.specs.States.{AreFrom}
use Rattle.gate_log.specs.ScanParts.{commands_of}
use Rattle.log_records.proofs.Layouts.{layout_room}
use Rattle.gate_log.proofs.Entries.{commands_length, from_more, all_more, commands_more, records_more, no_more, no_rest}
use Rattle.gate_log.proofs.parts.entries_at.Goals as goal

pub returns-in_default-clause-none : goal.returns-in_default-clause-none
returns-in_default-clause-none c = λ commands len all whole.
    let entries : List Entry = c.loop-ticket.entries.items in
    let inv = c.loop-ticket.invariant in
    let none = rw c.in_default.is at c.in_ok-command.ensures.none in
    let so_far = commands_length entries in
    let few : length (commands_of entries) < length commands = omega arith in
    no_more (layout_of c.args.version) (layout_room c.args.version) (commands_of entries) commands c.args.bytes.now c.loop-ticket.rest.now inv.well_formed all inv.spelled few none whole

pub loop-ticket-preserved : goal.loop-ticket-preserved
loop-ticket-preserved c =
    let entries : List Entry = c.loop-ticket.entries.items in
    let entry : Entry = record { ticket = c.new-ticket.result; command = c.in-Some.command } in
    let inv = c.loop-ticket.invariant in
    let one = rw c.in-Some.is at c.in_ok-command.ensures.some in
    let items : c.push.new.self.items ≡ entries ++ entry ∷ [] = c.in_ok-push.ensures.items in
    let back = sym items in
    let tickets = subst (AreFrom c.args.first) back (from_more c.args.first entries entry inv.tickets (c.new-ticket.ensures ∙ inv.so_far)) in
    let all = subst (AllByRecursion (IsCommand (layout_of c.args.version))) (sym (commands_more entries entry)) (all_more (layout_of c.args.version) (commands_of entries) c.in-Some.command inv.well_formed one.0) in
    let spelled = records_more (layout_of c.args.version) entries entry c.args.bytes.now c.loop-ticket.rest.now c.in-Some.behind.now inv.spelled one.1 in
    let longer = length-append entries (entry ∷ []) in
    let len = ap (λ (l : List Entry). length l) items in
    record {
      tickets = tickets;
      so_far = omega arith;
      well_formed = subst (λ (l : List Entry). AllByRecursion (IsCommand (layout_of c.args.version)) (commands_of l)) back all;
      spelled = subst (λ (l : List Entry). c.args.bytes.now ≡ records_bytes (layout_of c.args.version) (commands_of l) ++ c.in-Some.behind.now) back spelled;
    }

pub returns-then-not-is_empty-clause-none : goal.returns-then-not-is_empty-clause-none
returns-then-not-is_empty-clause-none c = λ commands len all whole.
    let entries : List Entry = c.loop-ticket.entries.items in
    let inv = c.loop-ticket.invariant in
    let so_far = commands_length entries in
    let many = c.loop-ticket-test.false in
    let same : length (commands_of entries) ≡ length commands = omega (arith, c.loop-ticket.auto.ticket-end (omega arith)) in
    let empty : c.loop-ticket.rest.now ≡ [] = no_rest (layout_of c.args.version) (layout_room c.args.version) (commands_of entries) commands c.args.bytes.now c.loop-ticket.rest.now inv.well_formed all inv.spelled same whole in
    let test = rw empty at c.if-not-is_empty.ensures in
    absurd (cc)
