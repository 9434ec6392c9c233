-- A record that is read is spelled so, and what is spelled so is read, whatever follows it.
use Rattle.std.proofs.Common.{◌≡◌, ℕ, List, [], ◌∷◌, ◌++◌, Ok, refl, sym, ap, subst, ◌∙◌, append_assoc}
use Rattle.map_types.specs.declared.commands.Change.{Change}
use Rattle.map_types.specs.declared.commands.Command.{Command}
use Rattle.log_records.specs.declared.methods.Method.{Method}
use Rattle.log_records.specs.Agreement.{IsBytes, Takes, Agrees}
use Rattle.log_records.specs.Layout.{Layout, IsLayout}
use Rattle.log_records.specs.Methods.{method_number, method_of}
use Rattle.log_records.specs.Spelling.{key_bytes, argument_bytes, record_bytes, IsCommand, IsRecord}
use Rattle.log_records.specs.Reading.{◌>>=◌, method_at, key_at, change_at, record_at}
use Rattle.log_records.proofs.Agreeing.{bind_ok, ok_is, Takes-then, same_meaning}
use Rattle.log_records.proofs.Fields.{method_agrees, key_agrees}
use Rattle.log_records.proofs.Changes.{change_takes, change_again}

abbrev pub TakesRecord : Layout → List ℕ → Command × List ℕ → Type 0
TakesRecord layout bytes x = Takes bytes (record_bytes layout x.0) x.1 × IsCommand layout x.0

record_takes : (layout : Layout) → IsLayout layout → (bytes : List ℕ) (c : Command) (rest : List ℕ) → IsBytes bytes → record_at layout bytes ≡ Ok (c, rest) → TakesRecord layout bytes (c, rest)
unfolding record_at
record_takes layout room bytes c rest fits e =
    let command : List ℕ → Change → Command = λ k a. record { key = k; change = a } in
    let m = bind_ok (method_at bytes) (λ m. key_at layout m.1 >>= λ k. change_at m.0 k.1 >>= λ a. Ok (command k.0 a.0, a.1)) (c, rest) e in
    let k = bind_ok (key_at layout m.0.1) (λ k. change_at m.0.0 k.1 >>= λ a. Ok (command k.0 a.0, a.1)) (c, rest) m.2 in
    let a = bind_ok (change_at m.0.0 k.0.1) (λ a. Ok (command k.0.0 a.0, a.1)) (c, rest) k.2 in
    let is = ok_is (command k.0.0 a.0.0, a.0.1) (c, rest) a.2 in
    let tm = method_agrees.takes bytes m.0.0 m.0.1 fits m.1 in
    let tk = (key_agrees layout room).takes m.0.1 k.0.0 k.0.1 tm.0.rest_fits k.1 in
    let ta = change_takes m.0.0 k.0.1 a.0.0 a.0.1 tk.0.rest_fits a.1 in
    let inner = Takes-then m.0.1 (key_bytes layout k.0.0) k.0.1 (argument_bytes a.0.0) a.0.1 tk.0 ta.0 in
    let whole = Takes-then bytes (method_number m.0.0 ∷ []) m.0.1 (key_bytes layout k.0.0 ++ argument_bytes a.0.0) a.0.1 tm.0 inner in
    let taken : Takes bytes (method_number (method_of a.0.0) ∷ (key_bytes layout k.0.0 ++ argument_bytes a.0.0)) a.0.1 =
    subst (λ (n : Method). Takes bytes (method_number n ∷ (key_bytes layout k.0.0 ++ argument_bytes a.0.0)) a.0.1) (sym ta.2) whole in
    subst (TakesRecord layout bytes) is (taken, (tk.1, ta.1))

record_again : (layout : Layout) → IsLayout layout → (c : Command) (rest : List ℕ) → IsCommand layout c → record_at layout (record_bytes layout c ++ rest) ≡ Ok (c, rest)
unfolding record_at
record_again layout room c rest fits =
    let key : List ℕ = key_bytes layout c.key in
    let arguments : List ℕ = argument_bytes c.change in
    let m = method_agrees.again (method_of c.change) ((key ++ arguments) ++ rest) tt in
    let k : key_at layout ((key ++ arguments) ++ rest) ≡ Ok (c.key, arguments ++ rest) =
    ap (key_at layout) (append_assoc key arguments rest) ∙ (key_agrees layout room).again c.key (arguments ++ rest) fits.0 in
    let a = change_again c.change rest fits.1 in
    rw (m, k, a) refl

pub record_agrees : (layout : Layout) → IsLayout layout → Agrees (record_at layout) (record_bytes layout) (IsCommand layout)
record_agrees layout room = record { takes = record_takes layout room; again = record_again layout room }

-- no record begins another, and none has two meanings or two spellings
pub one_record : (layout : Layout) (a b after_a after_b : List ℕ) (c d : Command) → IsLayout layout → IsRecord layout a c → IsRecord layout b d → a ++ after_a ≡ b ++ after_b → (a ≡ b) × (c ≡ d)
one_record layout a b after_a after_b c d room p q e =
    let text : record_bytes layout c ++ after_a ≡ record_bytes layout d ++ after_b =
    ap (λ (t : List ℕ). t ++ after_a) (sym p.spelled) ∙ e ∙ ap (λ (t : List ℕ). t ++ after_b) q.spelled in
    let same : c ≡ d = same_meaning (record_at layout) (record_bytes layout) (IsCommand layout) (record_agrees layout room) c d after_a after_b p.fits q.fits text in
    (p.spelled ∙ ap (record_bytes layout) same ∙ sym q.spelled, same)
