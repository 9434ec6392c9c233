-- How a run of device calls goes on.
use Rattle.std.proofs.Common.{◌≡◌, List, [], ◌∷◌, ◌++◌, sym, ◌∙◌, ap, subst, append_assoc}
use Rattle.std.specs.List.{AllByRecursion}
use Rattle.disk_model.specs.Files.{Files, now}
use Rattle.disk_model.specs.Moments.{AtEachMoment}

all_append : {X : Type 0} (P : X → Type 0) (xs ys : List X) → AllByRecursion P xs → AllByRecursion P ys → AllByRecursion P (xs ++ ys)
all_append P [] ys all rest = rest
all_append P (x ∷ xs) ys all rest = (all.0, all_append P xs ys all.1 rest)

module _ {D : Type 0} (states : D → List Files) where
  -- a call that makes no device call
  pub no_call : (old new : D) (P : Files → Type 0) → states new ≡ states old → P (now (states old)) → AtEachMoment states old new P
  no_call old new P same here = record { added = []; longer = same; first = here; each = tt }

  -- one device call
  pub one_call : (old new : D) (files : Files) (P : Files → Type 0) → states new ≡ files ∷ states old → P (now (states old)) → P files → AtEachMoment states old new P
  one_call old new files P is before after = record { added = files ∷ []; longer = is; first = before; each = (after, tt) }

  -- one call after another
  pub goes_on : (old mid new : D) (P : Files → Type 0) → AtEachMoment states old mid P → AtEachMoment states mid new P → AtEachMoment states old new P
  goes_on old mid new P so_far more = record {
    added = more.added ++ so_far.added;
    longer = more.longer ∙ ap (λ (l : List Files). more.added ++ l) so_far.longer ∙ sym (append_assoc more.added so_far.added (states old));
    first = so_far.first;
    each = all_append P more.added so_far.added more.each so_far.each;
  }

  all_weaker : (P Q : Files → Type 0) → ((files : Files) → P files → Q files) → (all : List Files) → AllByRecursion P all → AllByRecursion Q all
  all_weaker P Q h [] each = tt
  all_weaker P Q h (files ∷ all) each = (h files each.0, all_weaker P Q h all each.1)

  -- what follows from it is so at each moment too
  pub weaker : (old new : D) (P Q : Files → Type 0) → ((files : Files) → P files → Q files) → AtEachMoment states old new P → AtEachMoment states old new Q
  weaker old new P Q h so_far = record {
    added = so_far.added;
    longer = so_far.longer;
    first = h (now (states old)) so_far.first;
    each = all_weaker P Q h so_far.added so_far.each;
  }

  -- so it is in the end
  pub in_the_end : (old new : D) (P : Files → Type 0) → AtEachMoment states old new P → P (now (states new))
  in_the_end old new P so_far = subst (λ (all : List Files). P (now all)) (sym so_far.longer) (last so_far.added so_far.each)
    where
      last : (added : List Files) → AllByRecursion P added → P (now (added ++ states old))
      last [] each = so_far.first
      last (files ∷ added) each = each.0
