-- What is legal in a history is legal in each longer one.
use Rattle.std.proofs.Common.{ℕ, ◌≡◌, ◌+◌, ◌-◌, ◌≤◌, ◌++◌, List, [], ◌∷◌, length, arith, ◌∙◌, ap, length-append}
use Rattle.std.proofs.lemmas.List.{take-append-le}
use Rattle.map_types.specs.declared.commands.Command.{Command}
use Rattle.map_model.specs.Parts.{part_of}
use Rattle.map_model.specs.Steps.{map_after}
use Rattle.map_model.specs.Histories.{fold_to}
use Rattle.ticket_order.specs.declared.record.Opening.{Opening}
use Rattle.ticket_order.specs.declared.record.Section.{Section}
use Rattle.ticket_order.specs.declared.record.Record.{Record}
use Rattle.ticket_order.specs.Legality.{history_from, IsLegalSection}
use Rattle.ticket_order.specs.StepRules.{AllLegalSections}

pub fold_longer : (o : Opening) (h more : List Command) (q : ℕ) → q ≤ o.first + length h → fold_to (history_from o (h ++ more)) q ≡ fold_to (history_from o h) q
fold_longer o h more q l = ap (map_after o.map) (take-append-le (q - o.first) h more (omega arith))

pub section_longer : (o : Opening) (n : ℕ) (h more : List Command) (x : Section) → IsLegalSection n (history_from o h) x → IsLegalSection n (history_from o (h ++ more)) x
section_longer o n h more x l = record {
  from_first = l.from_first;
  within = omega (arith, l.within, length-append h more);
  part_is = ap (part_of n x.stripe) (fold_longer o h more x.mark l.within) ∙ l.part_is;
}

pub sections_longer : (n : ℕ) (v w : Record) (more : List Command) → w.opening ≡ v.opening → w.seen ≡ v.seen ++ more → (xs : List Section) → AllLegalSections n v xs → AllLegalSections n w xs
sections_longer n v w more o s [] l = tt
sections_longer n v w more o s (x ∷ xs) l = (rw (o, s) (section_longer v.opening n v.seen more x l.0), sections_longer n v w more o s xs l.1)

pub sections_both : (n : ℕ) (v : Record) (xs ys : List Section) → AllLegalSections n v xs → AllLegalSections n v ys → AllLegalSections n v (xs ++ ys)
sections_both n v [] ys l k = k
sections_both n v (x ∷ xs) ys l k = (l.0, sections_both n v xs ys l.1 k)
