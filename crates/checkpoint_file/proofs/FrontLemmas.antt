-- The reader of a checkpoint's file goes from one place of the body to another.
use Rattle.std.proofs.Common.{◌≤◌, ℕ, sym, subst, ◌∙◌, arith}
use Rattle.file_pieces.specs.Pieces.{ReaderState, end_of, pieces_in}
use Rattle.checkpoint_file.specs.declared.unread.Unread.{Unread}
use Rattle.checkpoint_file.specs.Front.{IsAt}
use Rattle.checkpoint_file.specs.Loads.{IsBehind}

pub goes_to : (r : ReaderState) (u v : Unread) → IsAt r u → IsBehind u v → u.at ≤ v.at → v.at ≤ end_of r → IsAt r v
goes_to r u v is behind forward reached =
    let before = is.before in
    let file = behind.file in
    let end = behind.end in
    let some = before.some in
    let held = before.held in
    let inside = before.inside in
    let fits = before.fits in
    record {
      before = record {
        file = before.file ∙ sym file;
        some = omega (arith, file, some);
        held = omega (arith, held, forward);
        inside = omega (arith, inside, end);
        fits = omega (arith, fits, end);
        no_more = subst (λ (n : ℕ). pieces_in (end_of r) ≤ pieces_in n) (sym end) before.no_more;
      };
      reached = reached;
    }
