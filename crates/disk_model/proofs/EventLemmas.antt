-- What holds after a call of a file that added one event.
use Rattle.std.proofs.Common.{◌≡◌, List, ◌∷◌, Result, Ok, Err, IfOk, OnOk, OnErr, sym, subst}
use Rattle.disk_model.specs.Events.{Event}

-- after one that gives a value
pub after_look : {A E : Type 0} (P : List Event → Type 0) (result : Result A E) (made : A → Event) (lost : Event) (old new : List Event)
    → IfOk result (λ a. new ≡ made a ∷ old) → OnErr result (new ≡ lost ∷ old) → ((a : A) → P (made a ∷ old)) → P (lost ∷ old) → P new
after_look P (Ok a) made lost old new ok err good bad = subst P (sym ok) (good a)
after_look P (Err e) made lost old new ok err good bad = subst P (sym err) bad

-- after one that gives none
pub after_act : {A E : Type 0} (P : List Event → Type 0) (result : Result A E) (made lost : Event) (old new : List Event)
    → OnOk result (new ≡ made ∷ old) → OnErr result (new ≡ lost ∷ old) → P (made ∷ old) → P (lost ∷ old) → P new
after_act P (Ok a) made lost old new ok err good bad = subst P (sym ok) good
after_act P (Err e) made lost old new ok err good bad = subst P (sym err) bad
