-- Where a server listens, and what it prints of it.
use Rattle.std.specs.Prelude.{ℕ, List, ◌++◌, codes, decimal}
use Rattle.socket_file.specs.Names.{IsSocketPath}
use Rattle.cmd_serve.specs.declared.listening.Places.{Places}
use Rattle.cmd_serve.specs.declared.listening.Places.TheVariants.{Port, Socket, Both}

-- the address of a Unix socket has room for their path, if they have one
abbrev pub HaveSocketPath : Places → Type 0
HaveSocketPath (Port port) = Unit {0}
HaveSocketPath (Socket path) = IsSocketPath path.now
HaveSocketPath (Both port path) = IsSocketPath path.now

-- the line of a server that listens at a port, or at a path
abbrev pub listening_line : List ℕ → List ℕ
listening_line place = codes "listening " ++ (place ++ codes "\n")

-- its lines, that of the port first
abbrev pub listening_lines : Places → List ℕ
listening_lines (Port port) = listening_line (decimal port)
listening_lines (Socket path) = listening_line path.now
listening_lines (Both port path) = listening_line (decimal port) ++ listening_line path.now

-- IsListener says that a listener was bound at a path, and its file has these rights.
module _ {L : Type 0} (IsListener : List ℕ → ℕ → L → Type 0) where
  -- a listener was bound at their path, if they have one, with these rights
  abbrev pub HaveListener : Places → ℕ → Type 0
  HaveListener (Port port) mode = Unit {0}
  HaveListener (Socket path) mode = (listener : L) × IsListener path.now mode listener
  HaveListener (Both port path) mode = (listener : L) × IsListener path.now mode listener
