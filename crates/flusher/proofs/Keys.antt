-- A record of the keeper's log may have each key that is within the limit of its life.
use Rattle.std.proofs.Common.{◌≡◌, ◌≤◌, sym, subst, arith}
use Rattle.log_records.specs.declared.versions.Version.{Version}
use Rattle.log_records.specs.declared.versions.Version.TheVariants.{First, Second}
use Rattle.log_records.specs.Layout.{layout_of}
use Rattle.store_layout.specs.Logs.{new_layout, new_version}
use Rattle.ticket_order.specs.declared.record.Opening.{Opening}
use Rattle.ticket_order.specs.declared.record.Record.{Record}
use Rattle.gate_log.specs.States.{LogState}
use Rattle.flusher.specs.Fitting.{AllowsKeys}

pub keys_beside : (log : LogState) (p w : Record) → w.opening ≡ p.opening → AllowsKeys log p → AllowsKeys log w
keys_beside log p w is k = subst (λ (o : Opening). o.key_limit ≤ (layout_of log.version).key_limit) (sym is) k

pub keys_kept : (old new : LogState) (p : Record) → new.version ≡ old.version → AllowsKeys old p → AllowsKeys new p
keys_kept old new p is k = subst (λ (v : Version). p.opening.key_limit ≤ (layout_of v).key_limit) (sym is) k

-- no version allows longer keys than that of a new generation
below_new : (version : Version) → (layout_of version).key_limit ≤ new_layout.key_limit
below_new First = omega arith
below_new Second = omega arith

pub keys_in_new : (old new : LogState) (p : Record) → new.version ≡ new_version → AllowsKeys old p → AllowsKeys new p
keys_in_new old new p is k =
    let most : (layout_of old.version).key_limit ≤ new_layout.key_limit = below_new old.version in
    subst (λ (v : Version). p.opening.key_limit ≤ (layout_of v).key_limit) (sym is) (omega (arith, k, most))
