-- Bytes that stand at a place of a file, and what is behind them.
use Rattle.std.proofs.Common.{◌≡◌, inl, inr, ℕ, ◌+◌, ◌-◌, List, ◌++◌, length, sym, ap, subst, ◌∙◌, append_assoc, arith}
use Rattle.std.proofs.lemmas.List.{length-append}
use Rattle.disk_model.specs.Calls.{Looks}
use Rattle.disk_model.specs.Files.{Files}
use Rattle.map_types.specs.declared.refusals.Refusal.{Refusal}
use Rattle.map_types.specs.declared.refusals.Refusal.TheVariants.{Damaged}
use Rattle.checkpoint_file.specs.declared.unread.Unread.{Unread}
use Rattle.checkpoint_file.specs.Loads.{StandsAt, ForRest, GoesOn, RefusesIn, seen_in}
use Rattle.checkpoint_file.proofs.LookLemmas.{same_seen}

module _ (content : List ℕ) (at : ℕ) (rest : List ℕ) (is : StandsAt content at rest) where
  -- what is behind the first bytes
  pub stands_behind : (bytes others : List ℕ) (place : ℕ) → rest ≡ bytes ++ others → place ≡ at + length bytes → StandsAt content place others
  stands_behind bytes others place spelled place_is =
      let before = is.offset in
      record {
        front = is.front ++ bytes;
        behind = is.behind;
        bytes = is.bytes ∙ ap (λ (l : List ℕ). is.front ++ (l ++ is.behind)) spelled ∙ ap (λ (l : List ℕ). is.front ++ l) (append_assoc bytes others is.behind) ∙ sym (append_assoc is.front bytes (others ++ is.behind));
        offset = omega (arith, length-append is.front bytes, before, place_is);
      }

-- the first bytes are read
pub goes_first : (content rest bytes others : List ℕ) (old new : Unread) → StandsAt content old.at rest → length rest ≡ old.left → rest ≡ bytes ++ others
    → new.at ≡ old.at + length bytes → new.left + length bytes ≡ old.left → GoesOn content bytes rest new
goes_first content rest bytes others old new is size spelled at left = record {
  left = others;
  spelled = spelled;
  stands = stands_behind content old.at rest is bytes others new.at spelled at;
  size = let whole = ap (λ (l : List ℕ). length l) spelled in omega (arith, whole, length-append bytes others, size, left);
}

-- and then more
pub goes_further : (content there bytes more rest : List ℕ) (old new : Unread) → there ≡ content → (g : GoesOn content bytes rest old) → GoesOn there more g.left new → GoesOn content (bytes ++ more) rest new
goes_further content there bytes more rest old new same g h = record {
  left = h.left;
  spelled = g.spelled ∙ ap (λ (l : List ℕ). bytes ++ l) h.spelled ∙ sym (append_assoc bytes more h.left);
  stands = subst (λ (c : List ℕ). StandsAt c new.at h.left) same h.stands;
  size = h.size;
}

module _ {D : Type 0} (states : D → List Files) (failures : D → ℕ) (honest : D → Type 0) where
  -- what holds of the rest holds where the reading has come to
  pub at_rest_of : (old mid : D) (u v : Unread) (bytes rest : List ℕ) (P : List ℕ → Type 0) → Looks states failures honest 0 old mid → v.file ≡ u.file
      → (g : GoesOn (seen_in states old u.file) bytes rest v) → ForRest states mid v P → P g.left
  at_rest_of old mid u v bytes rest P look same g f =
      f g.left (subst (λ (c : List ℕ). StandsAt c v.at g.left) (sym (same_seen states failures honest old mid u.file v.file same look)) g.stands) g.size

-- the same refusal, for another reason
pub refuses_more : (file number : ℕ) (P Q : ℕ → Type 0) (refusal : Refusal) → number ≡ file → ((offset : ℕ) → P offset → Q offset) → RefusesIn number P refusal → RefusesIn file Q refusal
refuses_more file number P Q refusal is f (inl h) = inl h
refuses_more file number P Q refusal is f (inr (inl h)) = inr (inl h)
refuses_more file number P Q refusal is f (inr (inr h)) = inr (inr (h.0, subst (λ (n : ℕ). refusal ≡ Damaged n h.0) is h.1, f h.0 h.2))
