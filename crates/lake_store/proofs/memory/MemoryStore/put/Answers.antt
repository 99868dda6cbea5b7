use Rattle.std.proofs.Common.{◌≡◌, ◌∙◌, sym, subst}
use Rattle.lake_store.specs.Disk.{Disk, SameElsewhere, stored}
use Rattle.lake_store.proofs.DiskLaws.{stored_elsewhere}
use Rattle.lake_store.proofs.PastLaws.{past_at, same_disk}
use Rattle.lake_store.proofs.memory.MemoryStore.put.Goals as goal

pub returns-clause-ok : goal.returns-clause-ok
returns-clause-ok c =
    let old : Disk = record { files = c.self.inside.files; dirty = c.self.inside.dirty } in
    let new : Disk = record { files = c.insert.new.self; dirty = c.remove-dirty.new.self } in
    let path = c.args.path.now in
    let is : new ≡ stored old path c.in_ok-bytes.bytes = same_disk new (stored old path c.in_ok-bytes.bytes) c.in_ok-before.ensures.ok c.remove-dirty.ensures.removed in
    let here : new ≡ stored c.args.self.now.disk path c.args.bytes.now =
    is ∙ (λ i. stored (c.self.view_is i).disk path (c.in_ok-bytes.ensures i)) in
    let past = past_at c.args.self.now c.self.inside.files c.self.inside.dirty c.self.inside.past.items c.reserve.new.self.items c.push_front_reserved.new.self.items c.self.view_is new path c.in_ok-changed.changed
    c.in_ok-before.before c.remove-dirty.result c.push_front_reserved.ensures.items c.reserve.ensures.items c.in_ok-changed.ensures c.in_ok-before.ensures.before c.remove-dirty.ensures.before
    (subst (SameElsewhere path old) (sym is) (stored_elsewhere old path c.in_ok-bytes.bytes)) in
    λ i. record { disk = here i; past = past i }
