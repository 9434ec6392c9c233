-- How a socket comes to listen at a path.
use Rattle.std.specs.Prelude.{ℕ}
use Rattle.socket_file.specs.Names.{Text, inner_of, room_of}

-- IsPrivate says that a directory that only its user can enter was made at a path, and is held by this. WasFree says
-- that while it was held nothing was found at a path, or a socket at which nobody listened. IsBound says that a
-- listener's file was made at a path. HasMode says that the file there was given these rights. IsRenamed says that the
-- file at the first path was renamed to the second.
module _ {L Room : Type 0} (WasFree : Room → Text → Type 0) (IsPrivate : Text → Room → Type 0)
    (IsBound : Text → L → Type 0) (HasMode : Text → ℕ → Type 0) (IsRenamed : Text → Text → Type 0) where
  -- The listener's file was made in such a directory beside the path, given these rights there, and renamed to the
  -- path. The path was free while the directory was held.
  pub record Binds (path : Text) (mode : ℕ) (listener : L) : Type 0 where
    pub held : Room
    pub private : IsPrivate (room_of path) held
    pub free : WasFree held path
    pub bound : IsBound (inner_of path) listener
    pub rights : HasMode (inner_of path) mode
    pub renamed : IsRenamed (inner_of path) path
