use Rattle.std.proofs.Common.{◌≡◌, ◌++◌, ◌∷◌, [], ℕ, List, length, refl, sym, ap, subst, arith, ◌∙◌}
use Rattle.std.proofs.lemmas.List.{length-append}
use Rattle.std.proofs.lemmas.Result.{err_from_is_err_and}
use Rattle.map_types.specs.declared.texts.Value.{Value}
use Rattle.log_records.specs.Layout.{layout_of}
use Rattle.store_layout.specs.Checkpoints.{entries_bytes}
use Rattle.checkpoint_file.specs.Loads.{seen_in, HasNoNext, IsNext, MayFollow}
use Rattle.file_pieces.specs.Pieces.{Holds}
use Rattle.disk_model.proofs.LookLemmas.{no_look, looks_on}
use Rattle.checkpoint_file.proofs.FrontLemmas.{goes_to}
use Rattle.checkpoint_file.proofs.PlaceLemmas.{at_rest_of, refuses_more}
use Rattle.checkpoint_file.proofs.SectionReading.{no_entries, no_entry_bytes, entries_push_one, entry_bytes_more, fewer_entries}
use Rattle.checkpoint_file.proofs.one_section.entries.Goals as goal

pub loop-init : goal.loop-init
loop-init g c = record {
  looks = no_look g.D.Disk.states g.D.Disk.failures g.D.Disk.honest c.args.disk.now;
  behind = record { file = refl; version = refl; end = refl };
  so_many = let none = ap (λ (l : List (List ℕ × Value)). length l) c.new-entries.ensures.items in omega (arith, none);
  are = no_entries (layout_of c.args.unread.version) c.args.stripe.of.count c.args.stripe.number c.new-entries.result.items c.new-entries.ensures.items;
  at = c.requires.at;
  called = refl;
  held = c.requires.held;
  read = λ honest rest is size. no_entry_bytes (layout_of c.args.unread.version) c.new-entries.result.items c.new-entries.ensures.items _ rest c.args.unread is size;
}

pub returns-in_err-entry-clause-looks : goal.returns-in_err-entry-clause-looks
returns-in_err-entry-clause-looks g c =
    let q = err_from_is_err_and c.from_residual.result c.from_residual.ensures.1 in
    rw (q.1, q.2)
    (looks_on g.D.Disk.states g.D.Disk.failures g.D.Disk.honest _ c.args.disk.now c.loop.disk c.next_entry.new.disk c.loop.invariant.looks c.in_err-entry.ensures.looks)

pub returns-in_err-entry-clause-err : goal.returns-in_err-entry-clause-err
returns-in_err-entry-clause-err g c =
    let q = err_from_is_err_and c.from_residual.result c.from_residual.ensures.1 in
    let es : List (List ℕ × Value) = c.loop.entries.items in
    let inv = c.loop.invariant in
    let counted = inv.so_many in
    rw (q.1, q.2)
    (refuses_more c.args.unread.file c.loop.rest.file _ _ _ inv.behind.file
    (λ offset why honest rest is size.
    let so_far = inv.read (c.in_err-entry.ensures.looks.was_honest honest) rest is size in
    fewer_entries (layout_of c.args.unread.version) c.args.stripe.of.count c.args.stripe.number c.args.count offset es _ rest c.args.unread c.loop.rest inv.behind size inv.are so_far (omega (arith, counted))
    (subst (λ v. (offset ≡ c.loop.rest.at) × HasNoNext (layout_of v) c.args.stripe.of.count c.args.stripe.number es so_far.left) inv.behind.version
    (subst (λ (l : List (List ℕ × Value)). (offset ≡ c.loop.rest.at) × HasNoNext (layout_of c.loop.rest.version) c.args.stripe.of.count c.args.stripe.number l so_far.left) c.deref.ensures.value
    (at_rest_of g.D.Disk.states g.D.Disk.failures g.D.Disk.honest c.args.disk.now c.loop.disk c.args.unread c.loop.rest (entries_bytes (layout_of c.args.unread.version) es) rest _ inv.looks inv.behind.file so_far (why honest)))))
    c.in_err-entry.ensures.err)

pub returns-in_err-push-clause-looks : goal.returns-in_err-push-clause-looks
returns-in_err-push-clause-looks g c =
    let q = err_from_is_err_and c.from_residual-in_err-push.result c.from_residual-in_err-push.ensures.1 in
    rw (q.1, q.2)
    (looks_on g.D.Disk.states g.D.Disk.failures g.D.Disk.honest 0 c.args.disk.now c.loop.disk c.next_entry.new.disk c.loop.invariant.looks c.in_ok-entry.ensures.looks)

pub loop-preserved : goal.loop-preserved
loop-preserved g c =
    let inv = c.loop.invariant in
    let counted = inv.so_many in
    let es : List (List ℕ × Value) = c.loop.entries.items in
    let entry : List ℕ × Value = c.in_ok-entry.entry in
    let items : c.push.new.self.items ≡ es ++ entry ∷ [] = c.in_ok-push.ensures.items in
    let end_before = inv.behind.end in
    let end_after = c.behind-rest.ensures.same.end in
    let layout = layout_of c.args.unread.version in
    record {
      looks = looks_on g.D.Disk.states g.D.Disk.failures g.D.Disk.honest 0 c.args.disk.now c.loop.disk c.next_entry.new.disk inv.looks c.in_ok-entry.ensures.looks;
      behind = record { file = c.behind-rest.ensures.same.file ∙ inv.behind.file; version = c.behind-rest.ensures.same.version ∙ inv.behind.version; end = omega (arith, end_before, end_after) };
      so_many = omega (arith, counted, length-append es (entry ∷ []), ap (λ (l : List (List ℕ × Value)). length l) items);
      are = entries_push_one layout c.args.stripe.of.count c.args.stripe.number es entry c.push.new.self.items items inv.are
          (subst (λ v. MayFollow (layout_of v) c.args.stripe.of.count c.args.stripe.number es entry) inv.behind.version
          (subst (λ (l : List (List ℕ × Value)). MayFollow (layout_of c.loop.rest.version) c.args.stripe.of.count c.args.stripe.number l entry) c.deref.ensures.value c.in_ok-entry.ensures.follows));
      at = goes_to c.next_entry.new.reader c.loop.rest c.behind-rest.result c.in_ok-entry.ensures.at c.behind-rest.ensures.same (omega (arith, c.behind-rest.ensures.place)) (omega (arith, c.behind-rest.ensures.place, c.in_ok-entry.ensures.reached));
      called = let so_far = inv.called in let more = c.in_ok-entry.ensures.called in omega (arith, so_far, more);
      held = λ honest. subst (λ (n : ℕ). Holds (seen_in g.D.Disk.states c.next_entry.new.disk n) c.next_entry.new.reader) (sym c.behind-rest.ensures.same.file) (c.in_ok-entry.ensures.held honest);
      read = λ honest rest is size.
          let so_far = inv.read (c.in_ok-entry.ensures.looks.was_honest honest) rest is size in
          entry_bytes_more layout es entry c.in_ok-entry.used _ rest c.loop.rest c.behind-rest.result so_far
          (subst (λ v. IsNext (layout_of v) entry c.in_ok-entry.used so_far.left) inv.behind.version
          (at_rest_of g.D.Disk.states g.D.Disk.failures g.D.Disk.honest c.args.disk.now c.loop.disk c.args.unread c.loop.rest (entries_bytes layout es) rest _ inv.looks inv.behind.file so_far
          (c.in_ok-entry.ensures.ok honest)))
          c.behind-rest.ensures.place c.behind-rest.ensures.left c.push.new.self.items items;
    }
