-- How a run of store calls goes on. For the crates above too: `g.S.Store` is the store, and `g.met.S.Store.only_now` the law.
use Rattle.std.proofs.Common.{inl, inr, ⊎_elim, ℕ, arith}
use Rattle.lake_store.specs.Disk.{Disk, Files, MayLeave}
use Rattle.lake_store.specs.Moments.{Elapses}
use Rattle.lake_store.specs.Runs.{LeavesOnly}
use Rattle.lake_store.specs.declared.store.Store.{Ghosts}

module _ {S : Type 0} (store : Ghosts S) where
  -- before the first call
  pub started : ((s : S) (image : Files) → store.tells → store.left_since s (store.time s) image → MayLeave (store.disk s) image) → (old : S) (P : Files → Type 0)
      → (store.tells → (image : Files) → MayLeave (store.disk old) image → P image) → LeavesOnly store old old P
  started only_now old P here told = record {
    later = omega arith;
    each = λ image left. here told image (only_now old image told left);
    before = λ t image le left. inl left;
  }

  -- one call more, after which a crash leaves what has P
  pub goes_on : (old mid new : S) (P : Files → Type 0) → LeavesOnly store old mid P
      → (store.tells → Elapses store.disk store.time store.left_since mid new)
      → (store.tells → (image : Files) → MayLeave (store.disk new) image → P image) → LeavesOnly store old new P
  goes_on old mid new P before_it call here told =
      let so_far = before_it told in
      let elapses = call told in
      record {
        later = omega (arith, so_far.later, elapses.later);
        each = λ image left. ⊎_elim (so_far.each image) (here told image) (elapses.nothing_else (store.time old) image so_far.later left);
        before = λ t image le left. ⊎_elim (so_far.before t image le) (λ now. inr (here told image now)) (elapses.nothing_else t image (omega (arith, le, so_far.later)) left);
      }

  -- a run of calls more
  pub goes_further : (old mid new : S) (P : Files → Type 0) → LeavesOnly store old mid P → LeavesOnly store mid new P → LeavesOnly store old new P
  goes_further old mid new P before_it run told =
      let so_far = before_it told in
      let more = run told in
      record {
        later = omega (arith, so_far.later, more.later);
        each = λ image left. ⊎_elim (so_far.each image) (λ p. p) (more.before (store.time old) image so_far.later left);
        before = λ t image le left. ⊎_elim (so_far.before t image le) inr (more.before t image (omega (arith, le, so_far.later)) left);
      }

  -- what has P has Q
  pub weaker : (old new : S) (P Q : Files → Type 0) → ((image : Files) → P image → Q image) → LeavesOnly store old new P → LeavesOnly store old new Q
  weaker old new P Q so run told =
      let more = run told in
      record {
        later = more.later;
        each = λ image left. so image (more.each image left);
        before = λ t image le left. ⊎_elim inl (λ p. inr (so image p)) (more.before t image le left);
      }

  -- what has P and what has Q
  pub both : (old new : S) (P Q : Files → Type 0) → LeavesOnly store old new P → LeavesOnly store old new Q → LeavesOnly store old new (λ image. P image × Q image)
  both old new P Q one other told =
      let p = one told in
      let q = other told in
      record {
        later = p.later;
        each = λ image left. (p.each image left, q.each image left);
        before = λ t image le left. ⊎_elim inl (λ here. ⊎_elim inl (λ there. inr (here, there)) (q.before t image le left)) (p.before t image le left);
      }

-- a store that keeps another one inside has its moments
pub elapses_inside : {S T : Type 0} (disk : T → Disk) (time : T → ℕ) (left_since : T → ℕ → Files → Type 0) (inside : S → T) (old new : S) → Elapses disk time left_since (inside old) (inside new)
    → Elapses (λ (s : S). disk (inside s)) (λ (s : S). time (inside s)) (λ (s : S). left_since (inside s)) old new
elapses_inside disk time left_since inside old new call = record { later = call.later; nothing_else = call.nothing_else; keeps = call.keeps }
