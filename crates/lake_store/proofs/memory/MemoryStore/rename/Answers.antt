use Rattle.std.proofs.Common.{◌≡◌, ◌∙◌, ap, sym, None}
use Rattle.std.specs.FinMap as map
use Rattle.lake_store.specs.Disk.{Disk, moved}
use Rattle.lake_store.specs.Memory.{Memory}
use Rattle.lake_store.proofs.PastLaws.{past_moved, same_disk}
use Rattle.lake_store.proofs.memory.MemoryStore.rename.Goals as goal

pub returns-clause-ok : goal.returns-clause-ok
returns-clause-ok c =
    let old : Disk = record { files = c.self.inside.files; dirty = c.self.inside.dirty } in
    let new : Disk = record { files = c.rename.new.self; dirty = c.remove-dirty.new.self } in
    let from = c.args.from.now in
    let to = c.args.to.now in
    let move = c.in_ok-rename.ensures.ok in
    let is : new ≡ moved old from to move.0 = same_disk new (moved old from to move.0) move.2 c.remove-dirty.ensures.removed in
    let here : new ≡ moved c.args.self.now.disk from to move.0 = is ∙ (λ i. moved (c.self.view_is i).disk from to move.0) in
    let free : map.get c.self.inside.files to ≡ None = ap (λ (m : Memory). map.get m.disk.files to) c.self.view_is ∙ c.requires.free in
    let past = past_moved c.args.self.now c.self.inside.files c.self.inside.dirty c.self.inside.past.items c.reserve.new.self.items c.push_front_reserved.new.self.items c.self.view_is new from to move.0 c.in_ok-moved_from.moved_from
    c.in_ok-moved_to.moved_to c.remove-dirty.result c.push_front_reserved.ensures.items c.reserve.ensures.items c.in_ok-moved_from.ensures c.in_ok-moved_to.ensures c.remove-dirty.ensures.before move.1 free is in (
      move.0,
      sym (ap (λ (m : Memory). map.get m.disk.files from) c.self.view_is) ∙ move.1,
      λ i. record { disk = here i; past = past i },
    )
