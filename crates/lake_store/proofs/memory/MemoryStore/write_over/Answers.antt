use Rattle.std.proofs.Common.{◌≡◌, ◌∙◌, sym, subst}
use Rattle.lake_store.specs.Disk.{Disk, SameElsewhere, written}
use Rattle.lake_store.proofs.DiskLaws.{written_elsewhere}
use Rattle.lake_store.proofs.PastLaws.{past_at, same_disk}
use Rattle.lake_store.proofs.memory.MemoryStore.write_over.Goals as goal

pub returns-clause-ok : goal.returns-clause-ok
returns-clause-ok c =
    let old : Disk = record { files = c.self.inside.files; dirty = c.self.inside.dirty } in
    let new : Disk = record { files = c.write_file.new.files; dirty = c.write_file.new.dirty } in
    let path = c.args.path.now in
    let is : new ≡ written old path c.in_ok-bytes.bytes = same_disk new (written old path c.in_ok-bytes.bytes) c.in_ok-bytes-2.ensures.files c.in_ok-bytes-2.ensures.dirty in
    let here : new ≡ written c.args.self.now.disk path c.args.bytes.now =
    is ∙ (λ i. written (c.self.view_is i).disk path (c.in_ok-bytes.ensures i)) in
    let past = past_at c.args.self.now c.self.inside.files c.self.inside.dirty c.self.inside.past.items c.reserve.new.self.items c.push_front_reserved.new.self.items c.self.view_is new path c.in_ok-changed.changed
    c.in_ok-bytes-2.bytes c.in_ok-bytes-2.dirty c.push_front_reserved.ensures.items c.reserve.ensures.items c.in_ok-changed.ensures c.in_ok-bytes-2.ensures.before.0 c.in_ok-bytes-2.ensures.before.1
    (subst (SameElsewhere path old) (sym is) (written_elsewhere old path c.in_ok-bytes.bytes)) in
    λ i. record { disk = here i; past = past i }
