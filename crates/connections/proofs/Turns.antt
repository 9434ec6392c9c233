-- What came of the messages of a connection.
use Rattle.std.proofs.Common.{◌≡◌, ◌≢◌, true, false, List, [], ◌∷◌, ◌++◌, map, Option, Some, Ok, Err, refl, sym, ap, subst, ◌∙◌, inl, inr}
use Rattle.std.specs.List.{AllByRecursion}
use Rattle.std.proofs.lemmas.List.{append-nil}
use Rattle.map_types.specs.declared.refusals.Refusal.{Refusal}
use Rattle.map_types.specs.declared.refusals.Refusal.TheVariants.{BadFrame}
use Rattle.wire_frames.specs.declared.requests.Request.{Request}
use Rattle.wire_frames.specs.Messages.{Message}
use Rattle.connections.specs.Dialogue.{Answer, Call, ends, row, requests, asked, IsFront, IsEnded}
use Rattle.connections.specs.Connection.{GoesOn}
use Rattle.connections.specs.Moves.{calls_of}
use Rattle.connections.specs.Past.{LastEnds}
use Rattle.connections.specs.Progress.{IsFull}

-- each refused message has its refusal as its answer, and there are as many outcomes as messages
abbrev pub Fits : List Message → List (Option Answer) → Type 0
Fits [] [] = Unit {0}
Fits [] (outcome ∷ came) = ⊥
Fits (message ∷ messages) [] = ⊥
Fits (Err refusal ∷ messages) (outcome ∷ came) = (outcome ≡ Some (Err refusal)) × Fits messages came
Fits (Ok request ∷ messages) (outcome ∷ came) = Fits messages came

-- what goes on in front of other outcomes stands in front of the row
pub row_goes : (answers : List Answer) (came : List (Option Answer)) (messages : List Message) → Fits messages (map Some answers ++ came) → GoesOn answers → (others : List Message) × Fits others came × (row messages (calls_of messages (map Some answers ++ came)) ≡ answers ++ row others (calls_of others came))
unfolding row
row_goes [] came messages f on = (messages, f, refl)
row_goes (a ∷ answers) came [] f on = absurd f
row_goes (a ∷ answers) came (Err r ∷ messages) f on =
    let rest = row_goes answers came messages f.1 on.1 in
    let same : Err r ≡ a = let e = f.0 in cc in
    let goes : ends (Err r) ≡ false = subst (λ (x : Answer). ends x ≡ false) (sym same) on.0 in
    (rest.0, rest.1, rw goes (rw rest.2 (ap (λ (x : Answer). x ∷ (answers ++ row rest.0 (calls_of rest.0 came))) same)))
row_goes (a ∷ answers) came (Ok q ∷ messages) f on =
    let rest = row_goes answers came messages f on.1 in
    (rest.0, rest.1, rw on.0 (rw rest.2 refl))

-- an answer that ends the connection is the last of the row
row_ends : (answer : Answer) (came : List (Option Answer)) (messages : List Message) → Fits messages (Some answer ∷ came) → ends answer ≡ true → row messages (calls_of messages (Some answer ∷ came)) ≡ answer ∷ []
unfolding row
row_ends a came [] f e = absurd f
row_ends a came (Err r ∷ messages) f e =
    let same : Err r ≡ a = let e = f.0 in cc in
    let last : ends (Err r) ≡ true = subst (λ (x : Answer). ends x ≡ true) (sym same) e in
    rw last (ap (λ (x : Answer). x ∷ []) same)
row_ends a came (Ok q ∷ messages) f e = rw e refl

-- a row that ends has these answers alone
pub row_last : (answers : List Answer) (came : List (Option Answer)) (messages : List Message) → Fits messages (map Some answers ++ came) → LastEnds answers → row messages (calls_of messages (map Some answers ++ came)) ≡ answers
unfolding row
row_last [] came messages f e = absurd e
row_last (a ∷ []) came messages f (inl e) = row_ends a came messages f e.0
row_last (a ∷ b ∷ answers) came messages f (inl e) = let no : b ∷ answers ≡ [] = e.1 in cc
row_last (a ∷ answers) came [] f (inr e) = absurd f
row_last (a ∷ answers) came (Err r ∷ messages) f (inr e) =
    let same : Err r ≡ a = let e = f.0 in cc in
    let goes : ends (Err r) ≡ false = subst (λ (x : Answer). ends x ≡ false) (sym same) e.0 in
    rw goes (rw (row_last answers came messages f.1 e.1) (ap (λ (x : Answer). x ∷ answers) same))
row_last (a ∷ answers) came (Ok q ∷ messages) f (inr e) = rw e.0 (rw (row_last answers came messages f e.1) refl)

-- a row that goes on has these answers alone, where no other message is left
pub row_full : (answers : List Answer) (messages : List Message) → Fits messages (map Some answers ++ []) → GoesOn answers → row messages (calls_of messages (map Some answers ++ [])) ≡ answers
unfolding row
row_full [] [] f on = refl
row_full [] (m ∷ messages) f on = absurd f
row_full (a ∷ answers) [] f on = absurd f
row_full (a ∷ answers) (Err r ∷ messages) f on =
    let same : Err r ≡ a = let e = f.0 in cc in
    let goes : ends (Err r) ≡ false = subst (λ (x : Answer). ends x ≡ false) (sym same) on.0 in
    rw goes (rw (row_full answers messages f.1 on.1) (ap (λ (x : Answer). x ∷ answers) same))
row_full (a ∷ answers) (Ok q ∷ messages) f on = rw on.0 (rw (row_full answers messages f on.1) refl)

pub last_is_ended : (answers : List Answer) → LastEnds answers → IsEnded answers
last_is_ended [] e = absurd e
last_is_ended (a ∷ answers) (inl e) = ([], a, ap (λ (x : List Answer). a ∷ x) e.1, e.0)
last_is_ended (a ∷ answers) (inr e) =
    let rest = last_is_ended answers e.1 in (a ∷ rest.0, rest.1, ap (λ (x : List Answer). a ∷ x) rest.2, rest.3)

pub full_of : (answers : List Answer) (messages : List Message) → Fits messages (map Some answers ++ []) → GoesOn answers → IsFull messages (calls_of messages (map Some answers ++ []))
full_of [] [] f on = tt
full_of [] (m ∷ messages) f on = absurd f
full_of (a ∷ answers) [] f on = absurd f
full_of (a ∷ answers) (Err r ∷ messages) f on =
    let same : a ≡ Err r = let e = f.0 in cc in
    (subst (λ (x : Answer). ends x ≡ false) same on.0, full_of answers messages f.1 on.1)
full_of (a ∷ answers) (Ok q ∷ messages) f on = (a, refl, on.0, full_of answers messages f on.1)

fits_requests : (messages : List Message) (came : List (Option Answer)) → Fits messages came → requests messages ≡ asked (calls_of messages came)
unfolding requests
fits_requests [] [] f = refl
fits_requests [] (x ∷ came) f = absurd f
fits_requests (m ∷ messages) [] f = absurd f
fits_requests (Err r ∷ messages) (x ∷ came) f = fits_requests messages came f.1
fits_requests (Ok q ∷ messages) (x ∷ came) f = ap (λ (x : List Request). q ∷ x) (fits_requests messages came f)

pub front_of : (messages : List Message) (came : List (Option Answer)) → Fits messages came → IsFront (calls_of messages came) messages
front_of messages came f = ([], fits_requests messages came f ∙ sym (append-nil (asked (calls_of messages came))))

-- where each message is answered and the connection goes on, none is refused with `BadFrame`
pub none_bad : (messages : List Message) (made : List Call) → IsFull messages made → AllByRecursion (λ m. m ≢ Err BadFrame) messages
none_bad [] [] f = tt
none_bad [] (c ∷ made) f = absurd f
none_bad (Err r ∷ messages) made f =
    (λ h. let same : r ≡ BadFrame = cc in let no : true ≡ false = subst (λ (x : Refusal). ends (Err x) ≡ false) same f.0 in cc, none_bad messages made f.1)
none_bad (Ok q ∷ messages) [] f = absurd f
none_bad (Ok q ∷ messages) (c ∷ made) f = (λ h. cc, none_bad messages made f.3)
