-- LOOK, SEE, ALIVE, DURABLE, FAIL and TICKET.
use Rattle.std.proofs.Common.{ℕ, ◌≡◌, ◌+◌, ◌*◌, ◌%◌, ◌^◌, ◌<◌, Bool, true, false, not, eqb, max, List, length, get_or, set, refl, arith, sym, ◌∙◌, ap, subst, length-set}
use Rattle.std.proofs.lemmas.List.{get_or-set_same, get_or-set_other}
use Rattle.std.proofs.Math.Nat.{mod-eq_of_lt}
use mathlib.Core.Option.{none}
use Rattle.atomic_table.specs.Table.{step, keeps, Allows}
use Rattle.map_types.specs.declared.commands.Command.{Command}
use Rattle.ticket_order.specs.declared.record.Opening.{Opening}
use Rattle.ticket_order.specs.declared.record.StepMade.TheVariants as made
use Rattle.ticket_order.specs.declared.record.Record.{Record}
use Rattle.ticket_order.specs.StepRules.{Looks, MayDraw, Draws, MayPublish, Publishes, Sees, Fails, Lives}
use Rattle.one_history.specs.declared.book.Book.{Book}
use Rattle.one_history.specs.declared.slot.Slot.{Slot}
use Rattle.one_history.specs.declared.slot.Slot.TheVariants.{Home, HeldBy}
use Rattle.one_history.specs.Turns.{record_of}
use Rattle.one_history.specs.Turns as turns
use Rattle.one_history.specs.SharedWords.{slot_of}
use Rattle.one_history.proofs.Fronts.{front_refl, front_one}
use Rattle.one_history.proofs.Watching.{kept_looked, looks, moves_looked, kept_saw, sees, moves_saw, kept_found_alive, lives, moves_found_alive, kept_published, publishes, moves_published, kept_failed, fails, moves_failed}
use Rattle.one_history.proofs.Drawing.{kept_drew, draws, moves_drew, small}
use Rattle.stripe_locks.specs.Rule.{bit, Stands, Kept}
use Rattle.stripe_locks.specs.Plays.{IsSameOne, looked, saw, lived, published, failed, drew}
use Rattle.stripe_locks.proofs.Turning.{M, Homes, view_of, seated, in_book, turned, reread}

-- a stripe's word stays, where a word before those of the stripes changes
pub stands_on : (words : List ℕ) (homes : Homes) (i n x : ℕ) → i < 32 → (slot : Slot) → Stands words homes n slot → Stands (set words i x) homes n slot
stands_on words homes i n x lt (Home content) z = (get_or-set_other words i (n * 8 + 32) x 0 (λ e. omega arith) ∙ z.0, z.1)
stands_on words homes i n x lt (HeldBy j) z = get_or-set_other words i (n * 8 + 32) x 0 (λ e. omega arith) ∙ z

pub allows_look : (o : Opening) (n id : ℕ) (me : M) → me.0.pass.enrolled ≡ true → Allows (Kept o) n id me 0 (λ x. x) (looked (step n 0 0 0 none) me)
allows_look o n id me is_pass s k wide at range =
    let q = seated o s k id me.0 at is_pass in let j : ℕ = q.place in let in_it = in_book o s k id me.0 at is_pass in
    let w : Record = record_of j (turns.looked j k.book) in
    let told : Looks me.0.pass (get_or s.words 0 0) w = subst (λ v. Looks v (get_or s.words 0 0) w) q.view_is (looks _ _ _ _ _ k.book j k.kept in_it) in
    let same : IsSameOne me.0.pass w = record { enrolled = ap (λ (r : Record). r.enrolled) told.is; passes = ap (λ (r : Record). r.passes) told.is; keeper = ap (λ (r : Record). r.keeper) told.is; opening = ap (λ (r : Record). r.opening) told.is } in
    (view_of j (turns.looked j k.book), keeps, tt, reread o s k id me.0 at is_pass (made.Looked (get_or s.words 0 0)) (turns.looked j k.book) 0 me.1 (moves_looked _ _ _ _ _ k.book j k.kept in_it) refl refl same (kept_looked _ _ _ _ _ k.book j k.kept in_it), (refl, told))

pub allows_see : (o : Opening) (n id : ℕ) (me : M) → me.0.pass.enrolled ≡ true → Allows (Kept o) n id me 8 (λ x. x) (saw (step n 8 0 0 none) me)
allows_see o n id me is_pass s k wide at range =
    let q = seated o s k id me.0 at is_pass in let j : ℕ = q.place in let in_it = in_book o s k id me.0 at is_pass in
    let w : Record = record_of j (turns.saw j k.book) in
    let told : Sees me.0.pass (get_or s.words 8 0) w = subst (λ v. Sees v (get_or s.words 8 0) w) q.view_is (sees _ _ _ _ _ k.book j k.kept in_it) in
    let same : IsSameOne me.0.pass w = record { enrolled = ap (λ (r : Record). r.enrolled) told.is; passes = ap (λ (r : Record). r.passes) told.is; keeper = ap (λ (r : Record). r.keeper) told.is; opening = ap (λ (r : Record). r.opening) told.is } in
    (view_of j (turns.saw j k.book), keeps, tt, reread o s k id me.0 at is_pass (made.Saw (get_or s.words 8 0)) (turns.saw j k.book) 8 me.1 (moves_saw _ _ _ _ _ k.book j k.kept in_it) refl refl same (kept_saw _ _ _ _ _ k.book j k.kept in_it), (refl, told))

-- the failure word is 0 where no FAIL was made
alive_is : (b : Bool) (x : ℕ) → x ≡ bit b → eqb x 0 ≡ not b
alive_is true x e = ap (λ (y : ℕ). eqb y 0) e
alive_is false x e = ap (λ (y : ℕ). eqb y 0) e

pub allows_alive : (o : Opening) (n id : ℕ) (me : M) → me.0.pass.enrolled ≡ true → Allows (Kept o) n id me 16 (λ x. x) (lived (step n 16 0 0 none) me)
allows_alive o n id me is_pass s k wide at range =
    let q = seated o s k id me.0 at is_pass in let j : ℕ = q.place in let in_it = in_book o s k id me.0 at is_pass in
    let w : Record = record_of j (turns.found_alive j k.book) in
    let law : Lives me.0.pass (not k.book.effects.failed) w = subst (λ v. Lives v (not k.book.effects.failed) w) q.view_is (lives _ _ _ _ _ k.book j k.kept in_it) in
    let told : Lives me.0.pass (eqb (get_or s.words 16 0) 0) w = subst (λ x. Lives me.0.pass x w) (sym (alive_is k.book.effects.failed (get_or s.words 16 0) k.failure)) law in
    let same : IsSameOne me.0.pass w = record { enrolled = ap (λ (r : Record). r.enrolled) law.is; passes = ap (λ (r : Record). r.passes) law.is; keeper = ap (λ (r : Record). r.keeper) law.is; opening = ap (λ (r : Record). r.opening) law.is } in
    (view_of j (turns.found_alive j k.book), keeps, tt, reread o s k id me.0 at is_pass (made.FoundAlive (not k.book.effects.failed)) (turns.found_alive j k.book) 16 me.1 (moves_found_alive _ _ _ _ _ k.book j k.kept in_it) refl refl same (kept_found_alive _ _ _ _ _ k.book j k.kept in_it), (refl, told))

pub allows_publish : (o : Opening) (n id : ℕ) (me : M) (x : ℕ) → me.0.pass.enrolled ≡ true → MayPublish me.0.pass x → Allows (Kept o) n id me 8 (λ z. max z x) (published (step n 8 x 0 none) me)
allows_publish o n id me x is_pass may s k wide at range =
    let q = seated o s k id me.0 at is_pass in let j : ℕ = q.place in let in_it = in_book o s k id me.0 at is_pass in
    let d : ℕ = max (get_or s.words 8 0) x in let words' : List ℕ = set s.words 8 d in
    let b' : Book = turns.published j x k.book in
    let w : Record = record_of j b' in
    let told : Publishes me.0.pass x w = subst (λ v. Publishes v x w) q.view_is (publishes _ _ _ _ _ k.book j k.kept in_it x) in
    let same : IsSameOne me.0.pass w = record { enrolled = ap (λ (r : Record). r.enrolled) told; passes = ap (λ (r : Record). r.passes) told; keeper = ap (λ (r : Record). r.keeper) told; opening = ap (λ (r : Record). r.opening) told } in
    let zero_on : get_or words' 0 0 ≡ get_or s.words 0 0 = get_or-set_other s.words 8 0 d 0 (λ e. omega arith) in
    let one : get_or words' 8 0 ≡ d = get_or-set_same s.words 8 d 0 (let n4 : length s.words ≡ length s.homes * 8 + 32 = k.wide in omega arith) in
    let law = kept_published _ _ _ _ _ k.book j k.kept in_it x (subst (λ v. MayPublish v x) (sym q.view_is) may) in (
      view_of j b',
      keeps,
      tt,
      turned o s k id me.0 at is_pass (made.Published x) b' k.slots words' s.homes (moves_published _ _ _ _ _ k.book j k.kept in_it x) refl (front_refl k.book.history) same
          (rw (zero_on, one) law) (length-set s.words 8 d) refl (get_or-set_other s.words 8 16 d 0 (λ e. omega arith) ∙ k.failure) (get_or-set_other s.words 8 24 d 0 (λ e. omega arith))
          (λ i lt. stands_on s.words s.homes 8 i d (omega arith) (slot_of i k.slots) (k.each_stripe i lt)),
      (refl, told),
    )

pub allows_fail : (o : Opening) (n id : ℕ) (me : M) → me.0.pass.enrolled ≡ true → me.0.pass.keeper ≡ true → Allows (Kept o) n id me 16 (λ _. 1) (λ _. failed (step n 16 1 0 none) me 1)
allows_fail o n id me is_pass keeper s k wide at range =
    let q = seated o s k id me.0 at is_pass in let j : ℕ = q.place in let in_it = in_book o s k id me.0 at is_pass in
    let words' : List ℕ = set s.words 16 1 in
    let b' : Book = turns.failed j k.book in
    let w : Record = record_of j b' in
    let told : Fails me.0.pass w = subst (λ v. Fails v w) q.view_is (fails _ _ _ _ _ k.book j k.kept in_it) in
    let same : IsSameOne me.0.pass w = record { enrolled = ap (λ (r : Record). r.enrolled) told; passes = ap (λ (r : Record). r.passes) told; keeper = ap (λ (r : Record). r.keeper) told; opening = ap (λ (r : Record). r.opening) told } in
    let zero_on : get_or words' 0 0 ≡ get_or s.words 0 0 = get_or-set_other s.words 16 0 1 0 (λ e. omega arith) in
    let one_on : get_or words' 8 0 ≡ get_or s.words 8 0 = get_or-set_other s.words 16 8 1 0 (λ e. omega arith) in
    let law = kept_failed _ _ _ _ _ k.book j k.kept in_it (ap (λ (r : Record). r.keeper) q.view_is ∙ keeper) in (
      view_of j b',
      keeps,
      tt,
      turned o s k id me.0 at is_pass made.Failed b' k.slots words' s.homes (moves_failed _ _ _ _ _ k.book j k.kept in_it) refl (front_refl k.book.history) same
          (rw (zero_on, one_on) law) (length-set s.words 16 1) refl (get_or-set_same s.words 16 1 0 (let n4 : length s.words ≡ length s.homes * 8 + 32 = k.wide in omega arith)) (get_or-set_other s.words 16 24 1 0 (λ e. omega arith))
          (λ i lt. stands_on s.words s.homes 16 i 1 (omega arith) (slot_of i k.slots) (k.each_stripe i lt)),
      (refl, told),
    )

pub allows_draw : (o : Opening) (n id : ℕ) (me : M) (c : Command) → me.0.pass.enrolled ≡ true → MayDraw n me.0.pass c → Allows (Kept o) n id me 0 (λ x. (x + 1) % 2 ^ 64) (drew c (step n 0 1 0 none) me)
allows_draw o n id me c is_pass may s k wide at range =
    let q = seated o s k id me.0 at is_pass in let j : ℕ = q.place in let in_it = in_book o s k id me.0 at is_pass in
    let stripes : k.book.stripes ≡ n = k.kept.stripes_are ∙ wide in
    let may' : MayDraw k.book.stripes (record_of j k.book) c = subst (λ v. MayDraw k.book.stripes v c) (sym q.view_is) (subst (λ (m : ℕ). MayDraw m me.0.pass c) (sym stripes) may) in
    let low : get_or s.words 0 0 < 2 ^ 63 = small _ _ _ _ _ k.book j k.kept in_it c may' in
    let next : (get_or s.words 0 0 + 1) % 2 ^ 64 ≡ get_or s.words 0 0 + 1 = mod-eq_of_lt (omega arith) in
    let t : ℕ = (get_or s.words 0 0 + 1) % 2 ^ 64 in let words' : List ℕ = set s.words 0 t in
    let b' : Book = turns.drew j c k.book in
    let w : Record = record_of j b' in
    let told : Draws me.0.pass c (get_or s.words 0 0) w = subst (λ v. Draws v c (get_or s.words 0 0) w) q.view_is (draws _ _ _ _ _ k.book j k.kept in_it c may') in
    let same : IsSameOne me.0.pass w = record { enrolled = ap (λ (r : Record). r.enrolled) told.is; passes = ap (λ (r : Record). r.passes) told.is; keeper = ap (λ (r : Record). r.keeper) told.is; opening = ap (λ (r : Record). r.opening) told.is } in
    let zero_now : get_or words' 0 0 ≡ get_or s.words 0 0 + 1 = get_or-set_same s.words 0 t 0 (let n4 : length s.words ≡ length s.homes * 8 + 32 = k.wide in omega arith) ∙ next in
    let one_on : get_or words' 8 0 ≡ get_or s.words 8 0 = get_or-set_other s.words 0 8 t 0 (λ e. omega arith) in
    let law = kept_drew _ _ _ _ _ k.book j k.kept in_it c may' in (
      view_of j b',
      keeps,
      tt,
      turned o s k id me.0 at is_pass (made.Drew (get_or s.words 0 0)) b' k.slots words' s.homes (moves_drew _ _ _ _ _ k.book j k.kept in_it c may') refl (front_one k.book.history c) same
          (rw (zero_now, one_on) law) (length-set s.words 0 t) refl (get_or-set_other s.words 0 16 t 0 (λ e. omega arith) ∙ k.failure) (get_or-set_other s.words 0 24 t 0 (λ e. omega arith))
          (λ i lt. stands_on s.words s.homes 0 i t (omega arith) (slot_of i k.slots) (k.each_stripe i lt)),
      (refl, told),
    )
