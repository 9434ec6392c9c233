use Rattle.std.proofs.Common.{◌≡◌, ◌∙◌, ◌+◌, ℕ, Err, List, [], inl, inr, refl, ap, subst, arith}
use Rattle.map_types.specs.declared.refusals.Refusal.{Refusal}
use Rattle.map_types.specs.declared.refusals.Refusal.TheVariants as refusal
use Rattle.gate_log.specs.Scan.{failed_in}
use Rattle.call_text.specs.Printing.{Prints}
use Rattle.cmd_directory.specs.Directory.{CannotFormat, formatted_line}
use Rattle.cmd_directory.proofs.directory.init_disk.Goals as goal

pub returns-in_default : goal.returns-in_default
returns-in_default g c = record {
  was_honest = λ h. h;
  moments = λ honest at. record { added = []; longer = refl; first = λ contents leaves. inl (at contents leaves); each = tt };
  ends = inr (record { refusal = refusal.NoMemory; reason = inr (inl refl); untouched = λ other. inl refl; prints = (refl, c.refuse.ensures) });
}

pub returns-in-Ok-format : goal.returns-in-Ok-format
returns-in-Ok-format g c =
    let made = c.in-Ok-format.ensures in
    let line : c.as_str.result.now ≡ formatted_line c.args.stripes.count = c.as_str.ensures.value ∙ (c.in-Ok.ensures.ok ∙ ap formatted_line c.get-count.ensures.value) in
    record {
      was_honest = made.was_honest;
      moments = made.moments;
      ends = inl (record {
        unformatted = λ honest. made.unformatted honest (λ e. absurd cc) (λ e. absurd cc);
        unfailing = let same = made.failures in omega (arith, same);
        stands = made.ok;
        written = made.written;
        reads = made.reads;
        read_in = made.read_in;
        prints = subst (λ (text : List ℕ). Prints text (g.W.Write.contents c.args.output.now) (g.W.Write.contents c.print.new.output) c.print.result) line c.print.ensures;
      });
    }

pub returns : goal.returns
returns g c =
    let why = c.in-Err.ensures in
    let reason : CannotFormat g.D.Disk.states g.D.Disk.failures g.D.Disk.honest c.args.disk.now c.format-2.new.disk c.in-Err.refusal =
    elim why.refusals [
      | inl failed ↦ inl (failed, subst (λ (r : Refusal). g.D.Disk.failures c.format-2.new.disk ≡ g.D.Disk.failures c.args.disk.now + failed_in {X = Unit {0}} (Err r)) failed why.failures)
      | inr more ↦ elim more [ inl memory ↦ inr (inl memory) | inr sealed ↦ inr (inr (sealed, why.formatted sealed)) ]
    ] in
    record {
      was_honest = why.was_honest;
      moments = why.moments;
      ends = inr (record { refusal = c.in-Err.refusal; reason = reason; untouched = λ other. inr (why.untouched other); prints = (refl, c.refuse_directory.ensures) });
    }
