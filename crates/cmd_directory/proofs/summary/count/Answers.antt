use Rattle.std.proofs.Common.{◌-◌, ◌^◌, ◌∙◌, ℕ, List, ap, min, sum_by}
use Rattle.std.specs.FinMap as finite
use Rattle.atomic_methods.specs.PartState.{PartState}
use Rattle.store_layout.specs.Opening.{map_of}
use Rattle.cmd_directory.proofs.Summaries.{entries_are}
use Rattle.cmd_directory.proofs.summary.count.Goals as goal

pub returns-in-Ok-clause-ok : goal.returns-in-Ok-clause-ok
returns-in-Ok-clause-ok g c = rw c.into_disk-disk.ensures (record {
  looks = c.in-Ok.ensures.calls;
  counted = λ honest.
      let opened = c.in-Ok.ensures.ok honest in
      let is = opened.1 in (
        opened.0,
        (
          is.found,
          record {
            holds = is.holds;
            generation = is.sealed;
            prefix = is.first_is;
            entries = c.count_entries.ensures ∙ ap (λ (parts : List PartState). min (sum_by (λ (part : PartState). finite.len part.map) parts) (2 ^ 64 - 1)) c.deref.ensures.value
                ∙ ap (λ (n : ℕ). min n (2 ^ 64 - 1)) (entries_are _ c.sixteen.ensures (map_of is.found) c.in-Ok.parts.items is.divided);
          },
        ),
      );
})
