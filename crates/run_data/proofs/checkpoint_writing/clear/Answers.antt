use Rattle.std.proofs.Common.{◌≡◌, ◌∷◌, subst, rules}
use Rattle.disk_model.specs.Files.{now, synced, with_file}
use Rattle.store_layout.specs.Checkpoints.{checkpoint_file, is_to_close}
use Rattle.run_data.proofs.WritingLemmas.{begun_may}
use Rattle.run_data.proofs.checkpoint_writing.clear.Goals as goal

pub advance_times-requires : goal.advance_times-requires
advance_times-requires g c =
    let states = g.D.Disk.states in
    let disk = c.args.disk.now in
    let v = c.begin.new.self in
    let number : c.checkpoint_file-file.result ≡ checkpoint_file v.generation = search rules in
    let is : states c.sync.new.self ≡ with_file c.checkpoint_file-file.result (synced (now (states disk) c.checkpoint_file-file.result)) (now (states disk)) ∷ states disk = search rules in
    begun_may states g.D.Disk.failures g.D.Disk.honest disk c.sync.new.self c.must_close.new.disk v c.in_ok-must_close.must_close
    (subst (λ n. states c.sync.new.self ≡ with_file n (synced (now (states disk) n)) (now (states disk)) ∷ states disk) number is)
    c.in_ok-must_close.ensures.looks
    (λ honest. subst (λ n. c.in_ok-must_close.must_close ≡ is_to_close (now (states c.sync.new.self) n).seen) number (c.in_ok-must_close.ensures.value honest))
    c.in_ok-begin.ensures.stands
