-- What a run of the program leaves of its streams.
use Rattle.std.specs.Prelude.{◌≡◌, ◌≢◌, ◌⊎◌, ℕ, List, [], ◌∷◌, map, Option, Result, MatchResult, codes}
use Rattle.std.specs.declared.io.Error.{Error}
use Rattle.clap.specs.Words.{Row, Text}
use Rattle.connections.specs.declared.connection.ConnectionError.{ConnectionError}
use Rattle.connections.specs.Connection.{Connection}
use Rattle.cmd_mem.specs.Maps.{Began, Finished, GaveUp, IsEmpty, MapState}
use Rattle.disk_model.specs.Files.{Files}
use Rattle.map_server.specs.CommandLine.{faults, named_by, Asks, FindsNoMemory, Misuses}
use Rattle.map_server.specs.declared.order.Order.{Order}
use Rattle.map_server.specs.declared.order.Order.TheVariants.{Mem, Init, Check, Serve, Call, Sim}
use Rattle.wire_frames.specs.declared.receiving.ReplyError.{ReplyError}
use Rattle.cmd_directory.specs.Directory.{Inits, Inspects}
use Rattle.cmd_call.specs.declared.servers.Server.{Server}
use Rattle.cmd_call.specs.Calling.{MakesCalls}
use Rattle.cmd_serve.specs.Serving.{ServesOn}
use Rattle.map_server.specs.Simulation.{Simulates}

-- What was written is the dialogue of what was read, each request answered by the map, which was empty at first. The
-- status is 0 if the connection ended by itself, and 1 if it broke off.
pub record Dialogues (r0 r1 w0 w1 : Option (List ℕ)) (status : ℕ) : Type 0 where
  pub before : MapState
  pub after : MapState
  pub empty : IsEmpty before
  pub result : Result (Unit {0}) ConnectionError
  pub connection : Connection Began Finished GaveUp r0 r1 w0 w1 before after result
  pub status_is : MatchResult result (λ done. status ≡ 0) (λ error. status ≡ 1)

-- the map was served, or it could not be begun and nothing was read or written
abbrev pub Serves : Option (List ℕ) → Option (List ℕ) → Option (List ℕ) → Option (List ℕ) → ℕ → Type 0
Serves r0 r1 w0 w1 status = Dialogues r0 r1 w0 w1 status ⊎ ((r1 ≡ r0) × (w1 ≡ w0) × (status ≡ 1))

-- Of the disks and the connections that the program is given it is told what the clauses of their types tell. IsOpened
-- says that a disk has the files of a directory, as they were when it was opened. IsCreated says the same if those that
-- were absent were made. IsRefused says that a directory couldn't be opened, for an error. IsConnected says that a
-- reader and a writer are the ends of a new connection to a server. IsUnreachable says that a connection to a server
-- was tried, and there was none, for an error. Fails says that reading a reply ended with an error. IsListener says
-- that a listener was bound at a path, and its file has these rights.
module _ {D R W L : Type 0} (states : D → List Files) (failures : D → ℕ) (honest : D → Type 0)
    (IsOpened IsCreated : Text → D → Type 0)
    (IsRefused : Text → Error → Type 0) (Fails : Option (List ℕ) → Option (List ℕ) → ReplyError → Type 0) (remaining : R
    → Option (List ℕ)) (contents : W → Option (List ℕ)) (IsConnected : Server → R → W → Type 0)
    (IsUnreachable : Server → Error → Type 0) (IsListener : Text → ℕ → L → Type 0) where
  -- what was asked for was done; but for `mem`, and the lines of calls, nothing was read
  abbrev pub Does : Order → Option (List ℕ) → Option (List ℕ) → Option (List ℕ) → Option (List ℕ) → ℕ → Type 0
  Does Mem r0 r1 w0 w1 status = Serves r0 r1 w0 w1 status
  Does (Init directory stripes) r0 r1 w0 w1 status =
      (r1 ≡ r0) × Inits states failures honest IsCreated IsRefused directory.now stripes.now w0 w1 status
  Does (Check directory) r0 r1 w0 w1 status =
      (r1 ≡ r0) × Inspects states failures honest IsOpened IsRefused directory.now w0 w1 status
  Does (Serve words) r0 r1 w0 w1 status =
      (r1 ≡ r0) × ServesOn states failures honest IsCreated IsRefused IsListener words w0 w1 status
  Does (Call at words) r0 r1 w0 w1 status = MakesCalls Fails remaining contents IsConnected IsUnreachable at
      (map (λ word. word.now) words.items) r0 r1 w0 w1 status
  Does (Sim file) r0 r1 w0 w1 status = (r1 ≡ r0) × Simulates w0 w1 status

  -- what the subcommand that is named asks for was done
  pub record Obeys (named : Option (Text × List Row)) (r0 r1 w0 w1 : Option (List ℕ)) (status : ℕ) : Type 0 where
    pub order : Order
    pub asked : Asks named order
    pub done : Does order r0 r1 w0 w1 status

  -- For words that are known it is done what they name, and for those of `dchm mem` the map is served; or no memory was
  -- found to read them. For other words nothing is read.
  pub record Ran (words : List Text) (r0 r1 w0 w1 : Option (List ℕ)) (status : ℕ) : Type 0 where
    pub mem : (name : Text) → words ≡ name ∷ codes "mem" ∷ [] → Serves r0 r1 w0 w1 status
    pub known : faults words ≡ [] → Obeys (named_by words) r0 r1 w0 w1 status ⊎ ((r1 ≡ r0) × FindsNoMemory w0 w1 status)
    pub unknown : faults words ≢ [] → (r1 ≡ r0) × Misuses (faults words) w0 w1 status
