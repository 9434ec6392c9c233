use Rattle.std.proofs.Common.{◌≡◌, ℕ, ◌+◌, List, ◌++◌, length, take, sym, ap, ◌∙◌, arith}
use Rattle.std.proofs.Math.Seq.{take-append_seam}
use Rattle.std.proofs.lemmas.List.{take-take, length-append}
use Rattle.std.proofs.lemmas.Result.{on_err_weaker}
use Rattle.log_records.proofs.writing.append_record.Goals as goal

-- bytes at whose front a longer text stays have the shorter one there too
stays : (text more longer bytes : List ℕ) → longer ≡ text ++ more → take (length longer) bytes ≡ longer → take (length text) bytes ≡ text
stays text more longer bytes is kept =
    let len : length longer ≡ length text + length more = ap (λ (t : List ℕ). length t) is ∙ length-append text more in
    sym (take-take (length text) (length longer) bytes (omega (arith, len))) ∙ ap (λ (t : List ℕ). take (length text) t) (kept ∙ is) ∙ take-append_seam text more

pub returns-clause-err : goal.returns-clause-err
returns-clause-err c = on_err_weaker c.append_arguments.result
    (λ kept. stays _ _ _ _ c.in_ok-push.ensures.items (stays _ _ _ _ c.in_ok-append_key.ensures.ok kept)) c.append_arguments.ensures.err
