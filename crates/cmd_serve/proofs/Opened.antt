-- A disk that was opened, as it was or upgraded.
use Rattle.std.proofs.Common.{◌≡◌, ℕ, List, refl, ap, ◌∙◌}
use Rattle.disk_model.specs.Files.{Contents, Files, now}
use Rattle.log_records.specs.Layout.{Layout, layout_of}
use Rattle.log_records.specs.declared.versions.Version.{Version}
use Rattle.log_records.specs.declared.versions.Version.TheVariants.{First, Second}
use Rattle.store_layout.specs.Logs.{log_file, new_version}
use Rattle.store_layout.specs.Opening.{Holds, Opened as FoundStore, log_layout, map_of, newest_of, prefix_of}
use Rattle.recovery.specs.LogReading.{contents_of}
use Rattle.recovery.specs.Syncing.{LeavesOnly, SyncsAndLooks}
use Rattle.recovery.specs.Upgrading.{IsNewest, IsUpgraded, StaysStanding}
use Rattle.cmd_serve.specs.Opening.{IsEarlier, IsFound, Upgrades}

pub newest : (version : Version) → (version ≡ First → ⊥) → version ≡ new_version
newest First is_not = absurd (is_not refl)
newest Second is_not = refl

pub earlier : (version : Version) → (version ≡ Second → ⊥) → (contents : Contents) (found : FoundStore) → layout_of version ≡ log_layout (contents (log_file (newest_of found).generation)) → IsEarlier contents found
earlier First is_not contents found of = λ is. let x : ◌≡◌ {A = ℕ} 1 2 = ap (λ (l : Layout). l.version) (of ∙ is) in absurd cc
earlier Second is_not contents found of = absurd (is_not refl)

module _ {D : Type 0} (states : D → List Files) (failures : D → ℕ) (honest : D → Type 0) where
  -- it was opened, and then upgraded
  pub upgrades : (disk opened upgraded : D) → IsFound states failures honest IsEarlier disk opened → StaysStanding states failures honest opened upgraded → failures upgraded ≡ failures opened
      → (honest upgraded → (found : FoundStore) → Holds (contents_of states opened) found → IsUpgraded (prefix_of found) (map_of found) (contents_of states upgraded))
      → Upgrades states failures honest disk upgraded
  upgrades disk opened upgraded is stays unfailing reads = record {
    opened = opened;
    is_earlier = is;
    stays = stays;
    unfailing = unfailing;
    stands = λ h. let kept = stays.keeps h in (kept.found, (kept.holds, reads h kept.found kept.holds));
  }

  -- and then opened again
  pub found_again : (old upgraded new : D) → Upgrades states failures honest old upgraded → SyncsAndLooks states failures honest 4 0 upgraded new → LeavesOnly (now (states new)) (contents_of states upgraded)
      → (honest new → honest upgraded) → IsFound states failures honest IsNewest upgraded new
  found_again old upgraded new up looks left was = record {
    looks = looks;
    left = left;
    holds = λ h. let stands = (up.stands (was h)).1.1 in (was h, (stands.found, (stands.holds, stands.newest)));
  }
