-- Facts of every moment of a call.
use Rattle.std.proofs.Common.{List, [], ◌∷◌, ◌++◌, sym, subst}
use Rattle.std.specs.List.{AllByRecursion}
use Rattle.disk_model.specs.Files.{Files, now}
use Rattle.disk_model.specs.Moments.{AtEachMoment}

all_so : (P Q : Files → Type 0) → ((files : Files) → P files → Q files) → (xs : List Files) → AllByRecursion P xs → AllByRecursion Q xs
all_so P Q f [] k = tt
all_so P Q f (x ∷ xs) k = (f x k.0, all_so P Q f xs k.1)

pub moments_so : {D : Type 0} (states : D → List Files) (old new : D) (P Q : Files → Type 0) → ((files : Files) → P files → Q files) → AtEachMoment states old new P → AtEachMoment states old new Q
moments_so states old new P Q f m = record { added = m.added; longer = m.longer; first = f _ m.first; each = all_so P Q f m.added m.each }

last_so : (P : Files → Type 0) (added old : List Files) → P (now old) → AllByRecursion P added → P (now (added ++ old))
last_so P [] old first each = first
last_so P (x ∷ xs) old first each = each.0

-- what is so at each moment is so at the end
pub at_end : {D : Type 0} (states : D → List Files) (old new : D) (P : Files → Type 0) → AtEachMoment states old new P → P (now (states new))
at_end states old new P m = subst (λ (s : List Files). P (now s)) (sym m.longer) (last_so P m.added (states old) m.first m.each)
