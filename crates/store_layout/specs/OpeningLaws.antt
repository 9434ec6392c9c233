-- Laws of sealed checkpoints, and of what opening gives.
use Rattle.std.specs.Prelude.{◌≡◌, ◌≢◌, ℕ, ◌+◌, ◌*◌, ◌<◌, ◌≤◌, true, false, None, List, [], ◌∷◌, length, Result}
use Rattle.std.specs.FinMap as finite
use Rattle.disk_model.specs.Gates.{open_gate}
use Rattle.java_hash.specs.Stripes.{is_stripe_count}
use Rattle.map_types.specs.declared.commands.Command.{Command}
use Rattle.map_types.specs.declared.refusals.Refusal.{Refusal}
use Rattle.map_model.specs.Maps.{Map}
use Rattle.map_model.specs.Histories.{History}
use Rattle.log_records.specs.Layout.{Layout, IsLayout}
use Rattle.log_records.specs.Agreement.{IsBytes}
use Rattle.store_layout.specs.Logs.{is_read}
use Rattle.store_layout.specs.Checkpoints.{Section, Checkpoint, AreSections, AreMarkedFrom, IsWhole, IsCheckpoint}
use Rattle.store_layout.specs.Checkpoints.{checkpoint_bytes, checkpoint_header_bytes, sections_bytes, checkpoint_file}
use Rattle.store_layout.specs.Checkpoints.{greatest_mark, is_sealed, section_head_bytes}
use Rattle.store_layout.specs.SectionsAndLog.{grown, Restores}
use Rattle.store_layout.specs.Faults.{version_in, generation_in, low_in, greatest_in, stripes_in, body_in}
use Rattle.store_layout.specs.Faults.{checkpoint_in, head_fault, size_fault, IsBadCheckpoint}
use Rattle.store_layout.specs.Opening.{Contents, IsCheckpointIn, IsClosedIn, Opened, log_of, prefix_of, history_of}
use Rattle.store_layout.specs.Opening.{IsOlder, AreLogs, Holds, StandsFor, StandsForFront, first_checkpoint}
use Rattle.store_layout.specs.Opening.{heads_fault, newest_file, Refuses, Opens}

-- ---- one checkpoint file

-- a content has one checkpoint, or one fault
abbrev pub OneCheckpoint : Type 0
OneCheckpoint = (layout : Layout) (k j : Checkpoint) (content : List ℕ) → IsLayout layout
    → IsCheckpoint layout k content → IsCheckpoint layout j content → k ≡ j

abbrev pub OneFault : Type 0
OneFault = (layout : Layout) (file : ℕ) (content : List ℕ) (a b : Refusal) → IsLayout layout
    → IsBadCheckpoint layout file content a → IsBadCheckpoint layout file content b → a ≡ b

abbrev pub NoFault : Type 0
NoFault = (layout : Layout) (file : ℕ) (k : Checkpoint) (content : List ℕ) (refusal : Refusal) → IsLayout layout
    → IsCheckpoint layout k content → IsBadCheckpoint layout file content refusal → ⊥

-- the head of a sealed checkpoint, if its version is read
abbrev pub SealedHead : Type 0
SealedHead = (layout : Layout) (k : Checkpoint) (content : List ℕ) → is_read layout.version ≡ true
    → IsCheckpoint layout k content →
    (is_sealed content ≡ true) × (generation_in content ≡ k.generation)
    × (head_fault (checkpoint_file k.generation) content ≡ None)

-- A file of the layout's version in which none of the faults is found holds the checkpoint that its fields name.
abbrev pub FieldsMakeCheckpoint : Type 0
FieldsMakeCheckpoint = (layout : Layout) (file : ℕ) (content : List ℕ) (sections : List Section) → IsBytes content
    → is_sealed content ≡ true →
    head_fault file content ≡ None → version_in content ≡ layout.version → size_fault file content ≡ None →
    body_in content ≡ sections_bytes layout sections → length sections ≡ stripes_in content
    → AreSections layout (stripes_in content) 0 sections →
    greatest_mark sections ≡ greatest_in content → AreMarkedFrom (low_in content) sections
    → IsCheckpoint layout (checkpoint_in content sections) content

-- a checkpoint whose version is read is older than any of a greater generation
abbrev pub OlderCheckpoint : Type 0
OlderCheckpoint = (layout : Layout) (k : Checkpoint) (generation : ℕ) (content : List ℕ) → is_read layout.version ≡ true
    → IsCheckpoint layout k content → k.generation < generation →
    IsOlder generation (checkpoint_file k.generation) content

-- behind a closed gate nothing is sealed, nor in an empty file
abbrev pub ShutIsUnsealed : Type 0
ShutIsUnsealed = (gate : ℕ) (rest : List ℕ) → gate ≢ open_gate → is_sealed (gate ∷ rest) ≡ false

abbrev pub EmptyIsUnsealed : Type 0
EmptyIsUnsealed = is_sealed [] ≡ false

-- ---- four files

-- the checkpoint that is held is the one that is used
abbrev pub HeldIsUsed : Type 0
HeldIsUsed = (contents : Contents) (found : Opened) → Holds contents found →
    (heads_fault contents ≡ None) × (newest_file contents ≡ checkpoint_file found.checkpoint.generation)

-- if the heads have no fault, the checkpoint that is used and its logs are held
abbrev pub UsedIsHeld : Type 0
UsedIsHeld = (contents : Contents) (found : Opened) → heads_fault contents ≡ None
    → IsCheckpointIn found.checkpoint (contents (newest_file contents)) →
    AreLogs contents found.checkpoint found.first found.second
    → greatest_mark found.checkpoint.sections ≤ prefix_of found → Holds contents found

-- opening files gives one thing: what they hold, or a refusal
abbrev pub OpensOneWay : Type 0
OpensOneWay = (contents : Contents) (a b : Result Opened Refusal) → Opens contents a → Opens contents b → a ≡ b

-- and it gives one
abbrev pub OpensSomehow : Type 0
OpensSomehow = (contents : Contents) → ((file : ℕ) → file < 4 → IsBytes (contents file))
    → (x : Result Opened Refusal) × Opens contents x

abbrev pub OneStanding : Type 0
OneStanding =
    (contents : Contents) (p q : ℕ) (m n : Map) → StandsFor contents p m → StandsFor contents q n → (p ≡ q) × (m ≡ n)

abbrev pub NeverBoth : Type 0
NeverBoth =
    (contents : Contents) (p : ℕ) (m : Map) (refusal : Refusal) → StandsFor contents p m → Refuses contents refusal → ⊥

-- What is found restores its own map, of which it is the history.
abbrev pub FoundRestores : Type 0
FoundRestores = (contents : Contents) (found : Opened) → Holds contents found →
    Restores (history_of found) found.checkpoint.stripes found.checkpoint.sections found.checkpoint.low (log_of found)

-- Files whose sections and logs restore a history stand for a front of it.
abbrev pub RestoredStands : Type 0
RestoredStands = (h : History) (contents : Contents) (found : Opened) → Holds contents found →
    Restores h found.checkpoint.stripes found.checkpoint.sections found.checkpoint.low (log_of found)
    → StandsForFront h (prefix_of found) (prefix_of found) contents

-- a front of a history stays one of the history that has grown
abbrev pub FrontStays : Type 0
FrontStays = (h : History) (least most : ℕ) (contents : Contents) (more : List Command)
    → StandsForFront h least most contents → StandsForFront (grown h more) least most contents

-- ---- a new store

-- it may stand in a file, with a mark and a count for each stripe
abbrev pub FirstIsWhole : Type 0
FirstIsWhole = (layout : Layout) (stripes : ℕ) → is_stripe_count stripes ≡ true →
    IsWhole layout (first_checkpoint stripes) × (length (checkpoint_bytes layout (first_checkpoint stripes))
    ≡ checkpoint_header_bytes + section_head_bytes * stripes)

-- A new store stands for no command and the empty map.
abbrev pub FirstStands : Type 0
FirstStands = (contents : Contents) (stripes : ℕ) → IsCheckpointIn (first_checkpoint stripes) (contents 0)
    → is_sealed (contents 1) ≡ false →
    IsClosedIn 0 0 [] (contents 2) → StandsFor contents 0 finite.empty
