-- Where the words of a call say that a server is, and for how long it is waited for.
use Rattle.std.specs.Prelude.{◌≡◌, ℕ, ◌≤◌, List, Option, None, Some}
use Rattle.std.specs.Borrow.{Bor}
use Rattle.call_text.specs.Naming.{IsNamed, IsPort}
use Rattle.socket_file.specs.Names.{IsSocketPath}
use Rattle.cmd_call.specs.declared.places.PlaceWords.{PlaceWords}
use Rattle.cmd_call.specs.declared.servers.Place.{Place}
use Rattle.cmd_call.specs.declared.servers.Place.TheVariants.{Port, Socket}
use Rattle.cmd_call.specs.declared.servers.Server.{Server}

-- a word for the port alone, or one for the path alone, names this place
abbrev pub IsPlaceOf : Option (Bor (List ℕ)) → Option (Bor (List ℕ)) → Place → Type 0
IsPlaceOf (Some word) None (Port port) = IsNamed IsPort word.now (Some port)
IsPlaceOf None (Some word) (Socket path) = (path.now ≡ word.now) × IsSocketPath word.now
IsPlaceOf port socket place = ⊥

abbrev pub NamesPlace : PlaceWords → Place → Type 0
NamesPlace words place = IsPlaceOf words.port words.socket place

-- a server can be waited for this many milliseconds
abbrev pub IsTimeout : ℕ → Type 0
IsTimeout number = (1 ≤ number) × (number ≤ 2147483648)

-- the words name the server's place, and the time for which it is waited for
pub record NamesServer (words : PlaceWords) (server : Server) : Type 0 where
  pub place : NamesPlace words server.place
  pub timeout : IsNamed IsTimeout words.timeout_ms.now (Some server.timeout_ms)

abbrev pub NamesNoServer : PlaceWords → Type 0
NamesNoServer words = (server : Server) → NamesServer words server → ⊥
