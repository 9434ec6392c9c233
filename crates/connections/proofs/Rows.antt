-- The answers to messages, all of which were answered.
use Rattle.std.proofs.Common.{◌≡◌, suc, List, [], ◌∷◌, length, Ok, Err, refl, sym, ap, ◌∙◌, inr}
use Rattle.std.proofs.lemmas.List.{append-nil}
use Rattle.wire_frames.specs.declared.requests.Request.{Request}
use Rattle.wire_frames.specs.Messages.{Message}
use Rattle.connections.specs.Dialogue.{Call, row, replies, requests, asked, Dialogue}
use Rattle.connections.specs.Connection.{GoesOn}
use Rattle.connections.specs.Progress.{IsFull}

length-row : (ms : List Message) (made : List Call) → IsFull ms made → length (row ms made) ≡ length ms
unfolding row
length-row [] [] f = refl
length-row [] (c ∷ made) f = absurd f
length-row (Err r ∷ ms) made f = rw f.0 (ap suc (length-row ms made f.1))
length-row (Ok q ∷ ms) [] f = absurd f
length-row (Ok q ∷ ms) (c ∷ made) f = rw (f.1, f.2) (ap suc (length-row ms made f.3))

pub full_goes_on : (ms : List Message) (made : List Call) → IsFull ms made → GoesOn (row ms made)
unfolding row
full_goes_on [] [] f = tt
full_goes_on [] (c ∷ made) f = absurd f
full_goes_on (Err r ∷ ms) made f = rw f.0 (refl, full_goes_on ms made f.1)
full_goes_on (Ok q ∷ ms) [] f = absurd f
full_goes_on (Ok q ∷ ms) (c ∷ made) f = rw (f.1, f.2) (refl, full_goes_on ms made f.3)

full_asked : (ms : List Message) (made : List Call) → IsFull ms made → requests ms ≡ asked made
unfolding requests
full_asked [] [] f = refl
full_asked [] (c ∷ made) f = absurd f
full_asked (Err r ∷ ms) made f = full_asked ms made f.1
full_asked (Ok q ∷ ms) [] f = absurd f
full_asked (Ok q ∷ ms) (c ∷ made) f = rw f.1 (ap (λ (x : List Request). q ∷ x) (full_asked ms made f.3))

pub full_dialogue : (ms : List Message) (made : List Call) → IsFull ms made → Dialogue ms made (replies ms made)
full_dialogue ms made f = record {
  calls = ([], full_asked ms made f ∙ sym (append-nil (asked made)));
  whole = inr (length-row ms made f);
  text = refl;
}
