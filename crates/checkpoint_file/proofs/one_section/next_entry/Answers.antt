use Rattle.std.proofs.Common.{ℕ, List, length, min, inr, refl, sym, ap, ◌∙◌, arith}
use Rattle.std.proofs.lemmas.List.{length-append}
use Rattle.std.proofs.lemmas.Result.{err_from_is_err_and}
use Rattle.map_types.specs.declared.texts.Value.{Value}
use Rattle.log_records.specs.Layout.{layout_of}
use Rattle.log_records.proofs.Layouts.{layout_room}
use Rattle.store_layout.specs.Checkpoints.{entry_bytes}
use Rattle.checkpoint_file.specs.Front.{most_entry_bytes}
use Rattle.checkpoint_file.specs.Loads.{seen_in}
use Rattle.checkpoint_file.proofs.Bounds.{version_short}
use Rattle.checkpoint_file.proofs.EntryReading.{none_in_window, none_follows, entries_next, behind_front}
use Rattle.checkpoint_file.proofs.LookLemmas.{held_before}
use Rattle.checkpoint_file.proofs.PlaceLemmas.{refuses_more}
use Rattle.checkpoint_file.proofs.one_section.next_entry.Goals as goal

pub returns-in_err-fetch-clause-err : goal.returns-in_err-fetch-clause-err
returns-in_err-fetch-clause-err g c =
    let q = err_from_is_err_and c.from_residual.result c.from_residual.ensures.1 in
    rw (q.1, q.2) (refuses_more c.args.unread.file c.args.unread.file _ _ _ refl (λ offset never honest rest is size. absurd (never honest rest is size)) c.in_err-fetch.ensures.err)

pub returns-in_default-clause-err : goal.returns-in_default-clause-err
returns-in_default-clause-err g c =
    let bytes : List ℕ = c.front-bytes.result.now in
    let none = rw c.in_default.is at c.in_ok-entry.ensures.none in
    inr (inr (
      c.args.unread.at,
      c.damaged.ensures,
      λ honest rest is size. (
        refl,
        (let held = held_before g.D.Disk.states g.D.Disk.failures g.D.Disk.honest c.args.disk.now c.fetch.new.disk c.args.unread.file c.fetch.new.reader c.in_ok-fetch.ensures.looks (c.in_ok-fetch.ensures.held honest) in
            none_in_window (layout_of c.args.unread.version) c.args.stripe.of.count c.args.stripe.number (version_short c.args.unread.version) c.args.before.now bytes rest
            (c.front-bytes.ensures.same (seen_in g.D.Disk.states c.args.disk.now c.args.unread.file) rest held is size)
            (c.front-bytes.ensures.size ∙ ap (λ n. min n most_entry_bytes) (sym size))
            none),
      ),
    ))

pub returns-then-not-may_follow-clause-err : goal.returns-then-not-may_follow-clause-err
returns-then-not-may_follow-clause-err g c =
    let bytes : List ℕ = c.front-bytes.result.now in
    let some = rw c.in-Some.is at c.in_ok-entry.ensures.some in
    let found : List ℕ × Value = c.in-Some.entry in
    inr (inr (
      c.args.unread.at,
      c.damaged-then-not-may_follow.ensures,
      λ honest rest is size. (
        refl,
        (let held = held_before g.D.Disk.states g.D.Disk.failures g.D.Disk.honest c.args.disk.now c.fetch.new.disk c.args.unread.file c.fetch.new.reader c.in_ok-fetch.ensures.looks (c.in_ok-fetch.ensures.held honest) in
            none_follows (layout_of c.args.unread.version) c.args.stripe.of.count c.args.stripe.number (layout_room c.args.unread.version) c.args.before.now found _ rest some.0 some.1
            (behind_front bytes rest (entry_bytes (layout_of c.args.unread.version) found) c.in-Some.others.now
            (c.front-bytes.ensures.same (seen_in g.D.Disk.states c.args.disk.now c.args.unread.file) rest held is size) some.2)
            (λ may. absurd (let yes = c.may_follow.ensures.1 may in let no = c.if-not-may_follow.true in cc))),
      ),
    ))

pub returns-clause-follows : goal.returns-clause-follows
returns-clause-follows g c =
    let some = rw c.in-Some.is at c.in_ok-entry.ensures.some in
    let may = c.may_follow.ensures.0 c.if-not-may_follow.false in
    entries_next (layout_of c.args.unread.version) c.args.stripe.of.count c.args.stripe.number c.args.before.now c.in-Some.entry some.0 some.1 may.0 may.1

pub returns-clause-ok : goal.returns-clause-ok
returns-clause-ok g c = λ honest rest is size.
    let bytes : List ℕ = c.front-bytes.result.now in
    let some = rw c.in-Some.is at c.in_ok-entry.ensures.some in
    let found : List ℕ × Value = c.in-Some.entry in
    let held = held_before g.D.Disk.states g.D.Disk.failures g.D.Disk.honest c.args.disk.now c.fetch.new.disk c.args.unread.file c.fetch.new.reader c.in_ok-fetch.ensures.looks (c.in_ok-fetch.ensures.held honest) in
    let same = c.front-bytes.ensures.same (seen_in g.D.Disk.states c.args.disk.now c.args.unread.file) rest held is size in
    record {
      others = _;
      spelled = behind_front bytes rest (entry_bytes (layout_of c.args.unread.version) found) c.in-Some.others.now same some.2;
      size = omega (arith, ap (λ (l : List ℕ). length l) some.2, length-append (entry_bytes (layout_of c.args.unread.version) found) c.in-Some.others.now);
    }
