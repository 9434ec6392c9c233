-- Laws of what sections and logs give.
use Rattle.std.specs.Prelude.{◌≡◌, ℕ, ◌+◌, ◌≤◌, ◌<◌, max, List, [], ◌∷◌, ◌++◌, length}
use Rattle.map_types.specs.declared.commands.Command.{Command}
use Rattle.map_model.specs.Parts.{part_of}
use Rattle.map_model.specs.Histories.{History, fold_to}
use Rattle.store_layout.specs.Checkpoints.{Section}
use Rattle.store_layout.specs.SectionsAndLog.{restored, reach, grown, AreParts, AreMarks, IsLogOf, IsNextOf, Restores}

-- Sections that are parts of the history at their marks, and a log of the same history that reaches the marks, give the
-- map where the log ends.
abbrev pub PartsAndLogRestore : Type 0
PartsAndLogRestore = (h : History) (stripes low : ℕ) (sections : List Section) (log : List Command) →
    AreParts h stripes 0 sections → AreMarks (max h.first low) (low + length log) sections → length sections ≡ stripes
    → 0 < stripes →
    IsLogOf h low log → Restores h stripes sections low log

-- it stays so when the history's next commands are logged
abbrev pub RestoringGoesOn : Type 0
RestoringGoesOn = (h : History) (stripes low : ℕ) (sections : List Section) (log new : List Command) →
    Restores h stripes sections low log → IsNextOf h (low + length log) new
    → Restores h stripes sections low (log ++ new)

-- and when the history grows
abbrev pub RestoringStays : Type 0
RestoringStays = (h : History) (stripes low : ℕ) (sections : List Section) (log more : List Command) →
    Restores h stripes sections low log → Restores (grown h more) stripes sections low log

-- What an opening finds is a history of which nothing but the map is known.
abbrev pub OpeningRestores : Type 0
OpeningRestores = (stripes low : ℕ) (sections : List Section) (log : List Command)
    → AreMarks low (low + length log) sections → length sections ≡ stripes → 0 < stripes →
    Restores (record { first = low + length log; opening = restored stripes sections low log; commands = [] })
    stripes sections low log

-- a log that is begun where the history is known
abbrev pub LogsBegin : Type 0
LogsBegin = (h : History) (low : ℕ) → h.first ≤ low → low ≤ reach h → IsLogOf h low []

-- a log of which no command is known by itself
abbrev pub LogsAreOpened : Type 0
LogsAreOpened = (h : History) (low : ℕ) (log : List Command) → low + length log ≡ h.first → IsLogOf h low log

-- the history's next commands are logged
abbrev pub LogsGoOn : Type 0
LogsGoOn = (h : History) (low : ℕ) (log new : List Command) → IsLogOf h low log → IsNextOf h (low + length log) new
    → IsLogOf h low (log ++ new)

-- a log stays one of the history that has grown
abbrev pub LogsStay : Type 0
LogsStay = (h : History) (low : ℕ) (log more : List Command) → IsLogOf h low log → IsLogOf (grown h more) low log

-- next commands stay the next ones of the history that has grown
abbrev pub NextStays : Type 0
NextStays =
    (h : History) (ticket : ℕ) (new more : List Command) → IsNextOf h ticket new → IsNextOf (grown h more) ticket new

-- parts whose marks the history reaches stay parts when it grows
abbrev pub PartsStay : Type 0
PartsStay = (h : History) (stripes from : ℕ) (sections : List Section) (more : List Command)
    → AreMarks h.first (reach h) sections → AreParts h stripes from sections →
    AreParts (grown h more) stripes from sections

-- one part more, and its mark
abbrev pub PartsGoOn : Type 0
PartsGoOn =
    (h : History) (stripes from : ℕ) (sections : List Section) (next : Section) → AreParts h stripes from sections →
    next.map ≡ part_of stripes (from + length sections) (fold_to h next.mark)
    → AreParts h stripes from (sections ++ next ∷ [])

abbrev pub MarksGoOn : Type 0
MarksGoOn = (low high : ℕ) (sections : List Section) (next : Section) → AreMarks low high sections → low ≤ next.mark
    → next.mark ≤ high → AreMarks low high (sections ++ next ∷ [])

-- marks between two numbers are between any wider ones
abbrev pub MarksWiden : Type 0
MarksWiden = (low high lower higher : ℕ) (sections : List Section) → lower ≤ low → high ≤ higher
    → AreMarks low high sections → AreMarks lower higher sections
