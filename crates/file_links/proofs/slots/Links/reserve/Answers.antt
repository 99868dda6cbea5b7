use Rattle.std.proofs.Common.{arith, ◌∙◌, ap, subst, refl, ◌≡◌, ◌+◌, ◌++◌, ℕ, List, Option, None, replicate}
use Rattle.file_links.specs.declared.slots.Held.{Held}
use Rattle.file_links.specs.Chains.{Grows}
use Rattle.file_links.specs.Buckets.{AreBuckets}
use Rattle.file_links.specs.Rows.{OwnedRows, Reserves}
use Rattle.file_links.specs.Slots.{view_of}
use Rattle.file_links.proofs.GrowLemmas.{growth_links, growth, held_links, held_view}
use Rattle.file_links.proofs.slots.Links.reserve.Goals as goal

pub invariant_of-self : goal.invariant_of-self
invariant_of-self c = held_links c.self.inside _ c.self.invariant refl refl refl c.reserve.ensures.items

pub returns-in_err-reserve-clause-err : goal.returns-in_err-reserve-clause-err
returns-in_err-reserve-clause-err c =
    let e : view_of (record { alloc = c.self.inside.alloc; held = c.reserve.new.self; rows = c.self.inside.rows; buckets = c.self.inside.buckets; owners = c.self.inside.owners }) ≡ c.args.self.now =
    held_view c.self.inside (record { alloc = c.self.inside.alloc; held = c.reserve.new.self; rows = c.self.inside.rows; buckets = c.self.inside.buckets; owners = c.self.inside.owners }) refl refl c.reserve.ensures.items ∙ c.self.view_is in
    grind (arith, e)

pub invariant_of-self-2 : goal.invariant_of-self-2
invariant_of-self-2 c =
    growth_links c.self.inside _ c.growth-more_owners.result c.growth-more_rows.result c.self.invariant (record {
      owners_sound = c.in_ok-owners.ensures.sound;
      owners = c.in_ok-owners.ensures.grown;
      rows_sound = c.in_ok-rows.ensures.sound;
      rows = (let P : ℕ → Type 0 = λ n. Grows c.self.inside.rows c.in_ok-rows.rows (n + 1) c.growth-more_rows.result in subst P c.slot_count.ensures.value c.in_ok-rows.ensures.grown);
      buckets_sound = c.in_ok-buckets.ensures.sound;
      bucket_slots = grind arith;
      buckets = (let P : List (Option Held) → Type 0 = λ l. AreBuckets l c.in_ok-buckets.buckets in subst P c.deref.ensures.value c.in_ok-buckets.ensures.buckets);
      held = c.add_free.ensures ∙ ap (λ l. l ++ replicate c.growth-more_rows.result None) c.in_ok-reserve.ensures.items;
    })

pub returns-clause-ok : goal.returns-clause-ok
returns-clause-ok c =
    let P : OwnedRows → Type 0 = λ v. Reserves v (view_of (record { alloc = c.self.inside.alloc; held = c.add_free.new.held; rows = c.in_ok-rows.rows; buckets = c.in_ok-buckets.buckets; owners = c.in_ok-owners.owners })) c.args.owners c.args.rows in
    subst P c.self.view_is (growth c.self.inside (record { alloc = c.self.inside.alloc; held = c.add_free.new.held; rows = c.in_ok-rows.rows; buckets = c.in_ok-buckets.buckets; owners = c.in_ok-owners.owners }) c.growth-more_owners.result c.growth-more_rows.result c.args.owners c.args.rows c.self.invariant (record {
      owners_sound = c.in_ok-owners.ensures.sound;
      owners = c.in_ok-owners.ensures.grown;
      rows_sound = c.in_ok-rows.ensures.sound;
      rows = (let P : ℕ → Type 0 = λ n. Grows c.self.inside.rows c.in_ok-rows.rows (n + 1) c.growth-more_rows.result in subst P c.slot_count.ensures.value c.in_ok-rows.ensures.grown);
      buckets_sound = c.in_ok-buckets.ensures.sound;
      bucket_slots = grind arith;
      buckets = (let P : List (Option Held) → Type 0 = λ l. AreBuckets l c.in_ok-buckets.buckets in subst P c.deref.ensures.value c.in_ok-buckets.ensures.buckets);
      held = c.add_free.ensures ∙ ap (λ l. l ++ replicate c.growth-more_rows.result None) c.in_ok-reserve.ensures.items;
    })
    c.growth-more_owners.ensures.enough c.growth-more_owners.ensures.room c.growth-more_rows.ensures.enough c.growth-more_rows.ensures.room)
