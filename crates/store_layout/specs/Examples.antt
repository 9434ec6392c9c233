-- Files byte by byte, and what they stand for.
use Rattle.std.specs.Prelude.{◌≢◌, ℕ, zero, suc, pos, List, [], ◌∷◌, ◌++◌}
use Rattle.std.specs.FinMap as finite
use Rattle.map_types.specs.declared.texts.Value.{Value}
use Rattle.map_types.specs.declared.texts.Value.TheVariants.{Int}
use Rattle.map_types.specs.declared.refusals.Refusal.TheVariants.{Damaged, NotFormatted, WrongVersion}
use Rattle.map_model.specs.Maps.{Map}
use Rattle.store_layout.specs.Opening.{Contents, StandsFor, Refuses}

-- the four files, in the order of their numbers
abbrev pub files : List ℕ → List ℕ → List ℕ → List ℕ → Contents
files a b c d zero = a
files a b c d (suc zero) = b
files a b c d (suc (suc zero)) = c
files a b c d (suc (suc (suc n))) = d

-- four bytes, and eight, that spell a small number
abbrev pub four : ℕ → List ℕ
four n = 0 ∷ 0 ∷ 0 ∷ n ∷ []

abbrev pub eight : ℕ → List ℕ
eight n = 0 ∷ 0 ∷ 0 ∷ 0 ∷ 0 ∷ 0 ∷ 0 ∷ n ∷ []

abbrev pub a : List ℕ
a = 97 ∷ []

abbrev pub b : List ℕ
b = 98 ∷ []

abbrev pub number : ℕ → Value
number n = Int (pos n)

-- a key of one byte and a number, as they stand in a section, and in the record of a Put
abbrev pub mapped : ℕ → ℕ → List ℕ
mapped key n = 1 ∷ key ∷ 1 ∷ eight n

abbrev pub put : ℕ → ℕ → List ℕ
put key n = 16 ∷ mapped key n

-- ---- a new store of one stripe

abbrev pub new_checkpoint : List ℕ
new_checkpoint = 165 ∷ 1 ∷ (eight 0 ++ (eight 0 ++ (eight 0 ++ (0 ∷ 1 ∷ (eight 12 ++ (eight 0 ++ four 0))))))

abbrev pub new_log : List ℕ
new_log = 1 ∷ (eight 0 ++ (eight 0 ++ 0 ∷ []))

-- it stands for the empty map
abbrev pub NewStore : Type 0
NewStore = StandsFor (files new_checkpoint [] new_log []) 0 finite.empty

-- ---- its first change: a becomes 5

abbrev pub log_with_five : ℕ → List ℕ
log_with_five gate = 1 ∷ (eight 0 ++ (eight 0 ++ gate ∷ 1 ∷ (four 24 ++ (eight 0 ++ (four 1 ++ (put 97 5 ++ 0 ∷ []))))))

abbrev pub FirstChange : Type 0
FirstChange = StandsFor (files new_checkpoint [] (log_with_five 165) []) 1 (finite.from_entries ((a, number 5) ∷ []))

-- the same change in a log of version 02, in which the key's length has two bytes
abbrev pub second_log : List ℕ
second_log = 2 ∷ (eight 0 ++ (eight 0 ++ 165 ∷ 1 ∷
    (four 25 ++ (eight 0 ++ (four 1 ++ (16 ∷ 0 ∷ 1 ∷ 97 ∷ 1 ∷ (eight 5 ++ 0 ∷ [])))))))

-- a checkpoint and its log may have different versions
abbrev pub SecondVersion : Type 0
SecondVersion = StandsFor (files new_checkpoint [] second_log []) 1 (finite.from_entries ((a, number 5) ∷ []))

-- behind a gate that is not open the change doesn't count
abbrev pub UncommittedChange : Type 0
UncommittedChange = (gate : ℕ) → gate ≢ 165 → StandsFor (files new_checkpoint [] (log_with_five gate) []) 0 finite.empty

-- ---- two stripes: a checkpoint that was taken while a and b changed

-- the checkpoint before it
abbrev pub old_checkpoint : List ℕ
old_checkpoint = 165 ∷ 1 ∷ (eight 0 ++ (eight 0 ++
    (eight 0 ++ (0 ∷ 2 ∷ (eight 24 ++ (eight 0 ++ (four 0 ++ (eight 0 ++ four 0))))))))

-- the first log has ended
abbrev pub ended_log : List ℕ
ended_log = 1 ∷ (eight 0 ++ (eight 0 ++ 165 ∷ 2 ∷ (four 8 ++ (eight 1 ++ 0 ∷ []))))

-- b was 2 after two commands, and a was 4 after four
abbrev pub next_checkpoint : List ℕ
next_checkpoint =
    165 ∷ 1 ∷ (eight 1 ++ (eight 0 ++ (eight 4 ++
    (0 ∷ 2 ∷ (eight 46 ++ (eight 2 ++ (four 1 ++ (mapped 98 2 ++ (eight 4 ++ (four 1 ++ mapped 97 4))))))))))

-- a becomes 1, b becomes 2, b becomes 3, a becomes 4
abbrev pub four_puts : List ℕ
four_puts = 1 ∷ (eight 1 ++ (eight 0 ++ 165 ∷ 1 ∷
    (four 60 ++ (eight 0 ++ (four 4 ++ (put 97 1 ++ (put 98 2 ++ (put 98 3 ++ put 97 4))))))))

abbrev pub next_log : List ℕ
next_log = four_puts ++ 0 ∷ []

-- of the four commands the third alone is in no section
abbrev pub four_and_three : Map
four_and_three = finite.from_entries ((a, number 4) ∷ (b, number 3) ∷ [])

abbrev pub SealedWhileChanging : Type 0
SealedWhileChanging = StandsFor (files old_checkpoint next_checkpoint ended_log next_log) 4 four_and_three

-- before it is sealed the same commands count all
abbrev pub NotYetSealed : Type 0
NotYetSealed = (gate : ℕ) → gate ≢ 165 → (rest : List ℕ)
    → StandsFor (files old_checkpoint (gate ∷ rest) ended_log next_log) 4 four_and_three

-- ---- the checkpoint of the generation after that is half written, behind a closed gate

abbrev pub next_ended_log : List ℕ
next_ended_log = four_puts ++ 165 ∷ 2 ∷ (four 8 ++ (eight 2 ++ 0 ∷ []))

abbrev pub third_log : List ℕ
third_log = 1 ∷ (eight 2 ++ (eight 4 ++ 0 ∷ []))

abbrev pub HalfWritten : Type 0
HalfWritten = (gate : ℕ) → gate ≢ 165 → (rest : List ℕ)
    → StandsFor (files (gate ∷ rest) next_checkpoint third_log next_ended_log) 4 four_and_three

-- ---- refusals

abbrev pub NoStore : Type 0
NoStore = Refuses (files [] [] [] []) NotFormatted

-- 35 bytes behind an open gate make a sealed checkpoint, 34 don't
abbrev pub TooFewBytes : Type 0
TooFewBytes =
    Refuses (files (165 ∷ (eight 0 ++ (eight 0 ++ (eight 0 ++ (eight 0 ++ (0 ∷ 0 ∷ [])))))) [] new_log []) NotFormatted

abbrev pub OtherVersion : Type 0
OtherVersion = Refuses (files (165 ∷ 7 ∷
    (eight 0 ++ (eight 0 ++ (eight 0 ++ (0 ∷ 1 ∷ (eight 12 ++ (eight 0 ++ four 0))))))) [] new_log []) WrongVersion

abbrev pub OtherFile : Type 0
OtherFile = Refuses (files new_checkpoint new_checkpoint new_log []) (Damaged 1 2)

abbrev pub ThreeStripes : Type 0
ThreeStripes = Refuses (files (165 ∷ 1 ∷
    (eight 0 ++ (eight 0 ++ (eight 0 ++ (0 ∷ 3 ∷ (eight 12 ++ (eight 0 ++ four 0))))))) [] new_log []) (Damaged 0 26)

abbrev pub LongBody : Type 0
LongBody = Refuses (files (165 ∷ 1 ∷ (eight 0 ++
    (eight 0 ++ (eight 0 ++ (0 ∷ 1 ∷ (eight 13 ++ (eight 0 ++ four 0))))))) [] new_log []) (Damaged 0 28)

-- one entry is announced, and none stands there
abbrev pub MissingEntry : Type 0
MissingEntry = Refuses (files (165 ∷ 1 ∷
    (eight 0 ++ (eight 0 ++ (eight 0 ++ (0 ∷ 1 ∷ (eight 12 ++ (eight 0 ++ four 1))))))) [] new_log []) (Damaged 0 48)

abbrev pub ByteLeftOver : Type 0
ByteLeftOver = Refuses (files (165 ∷ 1 ∷
    (eight 0 ++ (eight 0 ++ (eight 0 ++ (0 ∷ 1 ∷ (eight 13 ++ (eight 0 ++ (four 0 ++ 0 ∷ [])))))))) [] new_log [])
    (Damaged 0 48)

abbrev pub OtherGreatestMark : Type 0
OtherGreatestMark = Refuses (files (165 ∷ 1 ∷
    (eight 0 ++ (eight 0 ++ (eight 1 ++ (0 ∷ 1 ∷ (eight 12 ++ (eight 0 ++ four 0))))))) [] new_log []) (Damaged 0 18)

abbrev pub NoLog : Type 0
NoLog = Refuses (files new_checkpoint [] [] []) (Damaged 2 0)

abbrev pub OtherLog : Type 0
OtherLog = Refuses (files new_checkpoint [] third_log []) (Damaged 2 1)

-- an open gate, and nothing behind it
abbrev pub NoFrame : Type 0
NoFrame = Refuses (files new_checkpoint [] (1 ∷ (eight 0 ++ (eight 0 ++ 165 ∷ []))) []) (Damaged 2 17)

-- the log stops before the greatest mark
abbrev pub BelowMark : Type 0
BelowMark =
    Refuses (files old_checkpoint next_checkpoint ended_log (1 ∷ (eight 1 ++ (eight 0 ++ 0 ∷ [])))) (Damaged 3 17)
