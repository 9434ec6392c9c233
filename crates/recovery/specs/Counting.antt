-- What the sections of a checkpoint hold, and the changes behind them that are in none.
use Rattle.std.specs.Prelude.{ℕ, ◌++◌, max, nat_le, if◌then◌else◌, List, [], ◌∷◌, map, slice_index_or}
use Rattle.java_hash.specs.Stripes.{stripe_of}
use Rattle.map_types.specs.declared.commands.Command.{Command}
use Rattle.map_types.specs.declared.texts.Value.{Value}
use Rattle.ticket_order.specs.declared.stripe.Entry.{Entry}
use Rattle.checkpoint_file.specs.declared.loading.LoadedSection.{LoadedSection}

-- the entries of the sections, in order
abbrev pub entries_in : List LoadedSection → List (List ℕ × Value)
entries_in [] = []
entries_in (read ∷ reads) = read.entries.items ++ entries_in reads

abbrev pub marks_in : List LoadedSection → List ℕ
marks_in reads = map (λ (read : LoadedSection). read.mark) reads

-- the greatest of them
abbrev pub greatest_of : List ℕ → ℕ
greatest_of [] = 0
greatest_of (mark ∷ marks) = max mark (greatest_of marks)

-- of these changes, the commands that are in no section of `stripes` stripes with these marks
abbrev pub counted_of : ℕ → List ℕ → List Entry → List Command
counted_of stripes marks [] = []
counted_of stripes marks (entry ∷ entries) =
    if nat_le
    (slice_index_or marks
    (stripe_of stripes entry.command.key) 0) entry.ticket then entry.command ∷ counted_of stripes marks entries
    else counted_of stripes marks entries
