use Rattle.std.proofs.Common.{◌≡◌, true, sym, ◌∙◌}
use Rattle.std.specs.Cmp.Lexicographic.{told_text}
use Rattle.schedule_sim.proofs.TracedCalls.{same_chosen, same_torn}
use Rattle.schedule_sim.proofs.traced.is_same_fill.Goals as goal

pub returns-then-eq : goal.returns-then-eq
returns-then-eq c = λ same.
    let two = c.in-Chosen-Chosen in
    let items : two.bytes.items ≡ two.other_bytes.items = told_text two.bytes.items two.other_bytes.items true c.if-eq.ensures in
    let lens : two.lens ≡ two.other_lens = told_text two.lens two.other_lens true (sym same ∙ c.eq-then-eq.ensures) in
    same_torn c.args.one.now c.args.other.now (λ number at bytes file. rw (two.is-0, two.is-1) (same_chosen items lens number at bytes file))
