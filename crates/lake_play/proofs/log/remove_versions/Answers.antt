use Rattle.std.proofs.Common.{◌≡◌, ◌≤◌, ℕ, inl, inr, ⊎_elim, refl, subst, arith}
use Rattle.lake_store.specs.Memory.{disk_of}
use Rattle.lake_play.specs.Playing.{Sheds}
use Rattle.lake_play.proofs.Logs.{sheds_fewer, sheds_more, sheds_none}
use Rattle.lake_play.proofs.log.remove_versions.Goals as goal

pub loop-version-init : goal.loop-version-init
loop-version-init c = record { sheds = sheds_none c.args.from (disk_of c.args.store.now); low = omega arith; up = inr refl }

pub loop-version-preserved : goal.loop-version-preserved
loop-version-preserved c =
    let so_far = c.loop-version.invariant in
    let removed = c.in_ok-remove_version.ensures in
    let low = so_far.low in
    let less = c.loop-version-test.true in
    record {
      sheds = sheds_more c.args.from c.loop-version.version (disk_of c.args.store.now) (disk_of c.loop-version.store) (disk_of c.remove_version.new.store) removed.0 low so_far.sheds removed.1 removed.2;
      low = omega (arith, low);
      up = inl (omega (arith, less));
    }

pub returns : goal.returns
returns c =
    let so_far = c.loop-version.invariant in
    let past = c.loop-version-test.false in
    ⊎_elim
    (λ (up : c.loop-version.version ≤ c.args.to).
    let end : c.loop-version.version ≡ c.args.to = omega (arith, past, up) in
    subst (λ (n : ℕ). Sheds c.args.from n (disk_of c.args.store.now) (disk_of c.loop-version.store)) end so_far.sheds)
    (λ (none : c.loop-version.version ≡ c.args.from).
    sheds_fewer c.args.from c.args.to (disk_of c.args.store.now) (disk_of c.loop-version.store) (omega (arith, past, none))
    (subst (λ (n : ℕ). Sheds c.args.from n (disk_of c.args.store.now) (disk_of c.loop-version.store)) none so_far.sheds))
    so_far.up
