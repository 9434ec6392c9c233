use Rattle.std.proofs.Common.{◌≡◌, ◌++◌, ℕ, List, ap, ◌∙◌, arith}
use Rattle.byteorder.specs.Endian.{big_bytes}
use Rattle.recovery.proofs.FirstBytes.{Sections, one_more}
use Rattle.recovery.proofs.first_bytes.empty_sections.Goals as goal

pub loop-preserved : goal.loop-preserved
loop-preserved c = λ layout.
    one_more layout c.loop.counter c.loop.bytes.items c.put_number-in-loop.new.out.items (c.loop.invariant layout)
    (c.in_ok-put_number-2.ensures.ok ∙ ap (λ (l : List ℕ). l ++ big_bytes 4 0) c.in_ok-put_number.ensures.ok)

pub returns-clause-ok : goal.returns-clause-ok
returns-clause-ok c = λ layout.
    let all : c.loop.counter ≡ c.args.stripes.count = let e = c.get-end.ensures.value in let over = c.loop-test.false in let end = c.loop.auto.counter-end in omega (arith, e, over, end) in
    c.loop.invariant layout ∙ ap (Sections layout) all
