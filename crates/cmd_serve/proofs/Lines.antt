-- The lines of a server that listens at two places.
use Rattle.std.proofs.Common.{◌≡◌, ◌∙◌, ◌++◌, List, ℕ, ap, codes, decimal, sym}
use Rattle.std.proofs.lemmas.List.{append_assoc}
use Rattle.cmd_serve.specs.Listening.{listening_line}

-- as one text
pub are_one : (port : ℕ) (path : List ℕ)
    → codes "listening " ++ (decimal port ++ (codes "\nlistening " ++ (path ++ codes "\n"))) ≡ listening_line (decimal port) ++ listening_line path
are_one port path =
    let end = path ++ codes "\n" in
    let line = codes "listening " ++ end in
    sym (append_assoc (codes "listening ") (decimal port ++ codes "\n") line
    ∙ ap (λ (t : List ℕ). codes "listening " ++ t) (append_assoc (decimal port) (codes "\n") line))
