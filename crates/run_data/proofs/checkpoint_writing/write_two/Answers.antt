use Rattle.std.proofs.Common.{◌≡◌, [], ◌∷◌, ◌≤◌, rules, subst, sym, T}
use Rattle.std.specs.FinMap.Entries.{is_sorted}
use Rattle.std.specs.Ordering.{nat_cmp}
use Rattle.std.specs.Cmp.Lexicographic.{slice_cmp}
use Rattle.std.specs.declared.cmp.Ordering.TheVariants.{Less}
use Rattle.java_hash.specs.Stripes.{stripe_of}
use Rattle.checkpoint_file.specs.States.{AreKeysOf}
use Rattle.run_data.proofs.WritingLemmas.{may_stage, two_sorted}
use Rattle.run_data.proofs.checkpoint_writing.write_two.Goals as goal

pub advance_times-requires : goal.advance_times-requires
advance_times-requires g c =
    let w = c.args.writer.now in
    let one = c.args.entries.0 in
    let other = c.args.entries.1 in
    let low : w.low ≤ c.args.mark = search rules in
    let key : stripe_of w.stripes one.0 ≡ w.count = search rules in
    let next : stripe_of w.stripes other.0 ≡ w.count = search rules in
    let less : slice_cmp nat_cmp one.0 other.0 ≡ Less = search rules in
    let is : c.lent_two.result ≡ one ∷ other ∷ [] = c.lent_two.ensures in
    may_stage g.D.Disk.states g.D.Disk.honest w c.section.new.self c.args.disk.now c.args.mark c.lent_two.result c.requires c.in_ok-section.ensures.ok c.in_ok-section.ensures.staged
    (subst (λ xs. T (is_sorted (slice_cmp nat_cmp) xs)) (sym is) (two_sorted one other less))
    (subst (λ xs. AreKeysOf w.stripes w.count xs) (sym is) (key, (next, tt))) low
