-- What the words of a server's command line name.
use Rattle.std.specs.Prelude.{◌≡◌, ℕ, ◌<◌, ◌≤◌, ◌^◌, List, Option, None, Some}
use Rattle.std.specs.Borrow.{Bor}
use Rattle.socket_file.specs.Names.{SpellsOctal, IsMode, IsSocketPath}
use Rattle.call_text.specs.Naming.{Spells, IsNamed, IsPort}
use Rattle.cmd_serve.specs.declared.settings.ServerWords.{ServerWords}
use Rattle.cmd_serve.specs.declared.settings.Settings.{Settings}
use Rattle.cmd_serve.specs.declared.listening.Places.{Places}
use Rattle.cmd_serve.specs.declared.listening.Places.TheVariants.{Port, Socket, Both}

-- there can be `number` workers
abbrev pub IsWorkerCount : ℕ → Type 0
IsWorkerCount number = (1 ≤ number) × (number ≤ 64)

-- so many connections can be served at a time
abbrev pub IsConnectionCount : ℕ → Type 0
IsConnectionCount number = (1 ≤ number) × (number < 2 ^ 32)

-- The word for a port, the word for the path of a socket, or both name these places. There can be no socket at a path
-- that is too long.
abbrev pub ArePlacesOf : Option (Bor (List ℕ)) → Option (Bor (List ℕ)) → Places → Type 0
ArePlacesOf (Some word) None (Port port) = IsNamed IsPort word.now (Some port)
ArePlacesOf None (Some path) (Socket named) = (named.now ≡ path.now) × IsSocketPath named.now
ArePlacesOf (Some word) (Some path) (Both port named) =
    IsNamed IsPort word.now (Some port) × ((named.now ≡ path.now) × IsSocketPath named.now)
ArePlacesOf port socket places = ⊥

-- there can be `number` seconds between two records
abbrev pub IsReportInterval : ℕ → Type 0
IsReportInterval number = (1 ≤ number) × (number < 2 ^ 32)

-- the word names these seconds between two records; without a word there are no records
abbrev pub IsReportOf : Option (Bor (List ℕ)) → Option ℕ → Type 0
IsReportOf None None = Unit {0}
IsReportOf (Some word) (Some seconds) = IsNamed IsReportInterval word.now (Some seconds)
IsReportOf word report = ⊥

-- the words name these settings, which are allowed
pub record AreNamed (words : ServerWords) (settings : Settings) : Type 0 where
  pub stands_by : settings.stands_by ≡ words.standby
  pub places : ArePlacesOf words.port words.socket settings.places
  pub mode : SpellsOctal words.mode.now settings.mode
  pub mode_allowed : IsMode settings.mode
  pub stripes : Spells words.stripes.now settings.stripes.count
  pub workers : Spells words.workers.now settings.workers
  pub workers_allowed : IsWorkerCount settings.workers
  pub connections : Spells words.connections.now settings.connections
  pub connections_allowed : IsConnectionCount settings.connections
  pub bytes : Spells words.checkpoint_bytes.now settings.checkpoint_bytes
  pub bytes_fit : settings.checkpoint_bytes < 2 ^ 64
  pub idle : Spells words.idle_seconds.now settings.idle_seconds
  pub idle_fits : settings.idle_seconds < 2 ^ 32
  pub ahead : Spells words.log_ahead.now settings.log_ahead
  pub ahead_fits : settings.log_ahead < 2 ^ 32
  pub report : IsReportOf words.report_seconds settings.report_seconds
