use Rattle.std.proofs.Common.{sym, subst}
use Rattle.lake_store.specs.Disk.{Disk, SameElsewhere, removed}
use Rattle.lake_store.proofs.DiskLaws.{removed_elsewhere}
use Rattle.lake_store.proofs.PastLaws.{elapses_changed, past_at, same_disk}
use Rattle.lake_store.proofs.memory.MemoryStoreStore.remove.Goals as goal

pub returns-clause-elapses : goal.returns-clause-elapses
returns-clause-elapses c = λ told.
    let old : Disk = record { files = c.self.inside.files; dirty = c.self.inside.dirty } in
    let new : Disk = record { files = c.remove-bytes.new.self; dirty = c.remove-dirty.new.self } in
    let path = c.args.path.now in
    let same = subst (SameElsewhere path old) (sym (same_disk new (removed old path) c.remove-bytes.ensures.removed c.remove-dirty.ensures.removed)) (removed_elsewhere old path) in
    elapses_changed c.args.self.now _
    (past_at c.args.self.now c.self.inside.files c.self.inside.dirty c.self.inside.past.items c.reserve.new.self.items c.push_front_reserved.new.self.items c.self.view_is new path c.in_ok-changed.changed
    c.remove-bytes.result c.remove-dirty.result c.push_front_reserved.ensures.items c.reserve.ensures.items c.in_ok-changed.ensures c.remove-bytes.ensures.before c.remove-dirty.ensures.before same)
