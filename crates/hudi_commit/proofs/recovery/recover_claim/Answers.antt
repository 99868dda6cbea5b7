use Rattle.lake_store.specs.Runs.{LeavesAlone}
use Rattle.std.proofs.Common.{◌≡◌, refl, sym, ◌∙◌, ap, subst}
use Rattle.std.specs.Prelude.{None}
use Rattle.std.specs.FinMap as map
use Rattle.hudi_names.specs.Time.{IsSomeTime}
use Rattle.hudi_commit.specs.Names.{completed_path}
use Rattle.hudi_commit.proofs.OpenLaws.{not_of, read_none}
use Rattle.lake_store.proofs.RunLaws.{alone_further, alone_of_fewer}
use Rattle.hudi_commit.specs.Runs.{IsNotOf, IsNotOpen}
use Rattle.hudi_commit.proofs.AloneLaws.{alone_begun, alone_read}
use Rattle.hudi_commit.proofs.KeepLaws.{begun, keeps_then, read_keeps}
use Rattle.hudi_commit.proofs.RecoveryLaws.{clearing_recovers, clearing_tidies, no_name, real_name}
use Rattle.lake_basics.specs.declared.limits.TheConstants.{MAX_FILE_BYTES}
use Rattle.lake_store.specs.Disk.{Disk}
use Rattle.lake_store.proofs.ShortLaws.{short_same, short_then}
use Rattle.hudi_commit.proofs.recovery.recover_claim.Goals as goal

pub returns-then-is_none-clause-keeps : goal.returns-then-is_none-clause-keeps
returns-then-is_none-clause-keeps g c told base stands = begun g.S.Store told base g.met.S.Store.only_now c.args.store.now stands

pub returns-then-is_none-clause-recovered : goal.returns-then-is_none-clause-recovered
returns-then-is_none-clause-recovered g c told is found =
    absurd (no_name c.as_bytes.result.now c.args.name.now c.as_bytes.ensures.value c.is_none.result c.read_time.result c.read_time.ensures c.is_none.ensures c.if-is_none.true is)

pub returns-in_err-paths-clause-keeps : goal.returns-in_err-paths-clause-keeps
returns-in_err-paths-clause-keeps g c told base stands = begun g.S.Store told base g.met.S.Store.only_now c.args.store.now stands

pub returns-in_err-completed-clause-keeps : goal.returns-in_err-completed-clause-keeps
returns-in_err-completed-clause-keeps g c told base stands =
    read_keeps g.S.Store told base c.args.store.now c.args.store.now c.read_part.new.self (begun g.S.Store told base g.met.S.Store.only_now c.args.store.now stands)
    (c.read_part.ensures.same told) (c.read_part.ensures.elapses told)

pub returns-in-Some-clause-keeps : goal.returns-in-Some-clause-keeps
returns-in-Some-clause-keeps g c told base stands =
    read_keeps g.S.Store told base c.args.store.now c.args.store.now c.read_part.new.self (begun g.S.Store told base g.met.S.Store.only_now c.args.store.now stands)
    (c.read_part.ensures.same told) (c.read_part.ensures.elapses told)

pub returns-in-Some-clause-alone : goal.returns-in-Some-clause-alone
returns-in-Some-clause-alone g c told =
    let store = g.S.Store in
    let K = IsNotOpen (store.disk c.args.store.now).files in
    alone_read store told g.met.S.Store.only_now K c.args.store.now c.args.store.now c.read_part.new.self (alone_begun store told g.met.S.Store.only_now K c.args.store.now) c.read_part.ensures.elapses c.read_part.ensures.same

pub returns-clause-keeps : goal.returns-clause-keeps
returns-clause-keeps g c told base stands =
    let read = read_keeps g.S.Store told base c.args.store.now c.args.store.now c.read_part.new.self (begun g.S.Store told base g.met.S.Store.only_now c.args.store.now stands)
    (c.read_part.ensures.same told) (c.read_part.ensures.elapses told) in
    keeps_then g.S.Store told base c.args.store.now c.read_part.new.self c.clear_claim.new.store read (c.clear_claim.ensures.keeps told base read.disk)

pub returns-clause-tidied : goal.returns-clause-tidied
returns-clause-tidied g c told =
    let time = real_name c.as_bytes.result.now c.args.name.now c.as_bytes.ensures.value c.is_none.result c.read_time.result c.read_time.ensures c.is_none.ensures c.if-is_none.false in
    let none : map.get (g.S.Store.disk c.args.store.now).files (completed_path c.in_ok-paths.paths) ≡ None =
    ap (map.get (g.S.Store.disk c.args.store.now).files) (sym c.completed.ensures) ∙ read_none _ _ _ (c.in_ok-completed.ensures.bytes told) c.in-None.is in
    clearing_tidies c.clear_claim.result c.in_ok-paths.paths c.args.name.now c.in_ok-paths.ensures
    (g.S.Store.disk c.args.store.now) (g.S.Store.disk c.read_part.new.self) (g.S.Store.disk c.clear_claim.new.store) (c.read_part.ensures.same told) (c.clear_claim.ensures.cleared told)
    time (subst (λ t. map.get (g.S.Store.disk c.args.store.now).files (completed_path t) ≡ None) c.in_ok-paths.ensures none)

pub returns-clause-recovered : goal.returns-clause-recovered
returns-clause-recovered g c told =
    clearing_recovers c.clear_claim.result c.in_ok-paths.paths c.args.name.now c.in_ok-paths.ensures
    (g.S.Store.disk c.args.store.now) (g.S.Store.disk c.read_part.new.self) (g.S.Store.disk c.clear_claim.new.store) (c.read_part.ensures.same told) (c.clear_claim.ensures.cleared told)

pub returns-clause-alone : goal.returns-clause-alone
returns-clause-alone g c told =
    let store = g.S.Store in
    let files = (store.disk c.args.store.now).files in
    let t = c.in_ok-paths.paths in
    let time = real_name c.as_bytes.result.now c.args.name.now c.as_bytes.ensures.value c.is_none.result c.read_time.result c.read_time.ensures c.is_none.ensures c.if-is_none.false in
    let real : IsSomeTime t = subst IsSomeTime (sym c.in_ok-paths.ensures) time in
    let none : map.get files (completed_path t) ≡ None = ap (map.get files) (sym c.completed.ensures) ∙ read_none _ _ _ (c.in_ok-completed.ensures.bytes told) c.in-None.is in
    let read : store.tells → LeavesAlone store (IsNotOpen files) c.args.store.now c.read_part.new.self = λ told. alone_read store told g.met.S.Store.only_now (IsNotOpen files) c.args.store.now c.args.store.now c.read_part.new.self
    (alone_begun store told g.met.S.Store.only_now (IsNotOpen files) c.args.store.now) c.read_part.ensures.elapses c.read_part.ensures.same in
    let cleared : store.tells → LeavesAlone store (IsNotOpen files) c.read_part.new.self c.clear_claim.new.store = λ told.
    alone_of_fewer store (IsNotOf t) (IsNotOpen files) c.read_part.new.self c.clear_claim.new.store (λ q. not_of files q t real none) (c.clear_claim.ensures.alone told) in
    alone_further store (IsNotOpen files) c.args.store.now c.read_part.new.self c.clear_claim.new.store read cleared told

pub returns-then-is_none-clause-short : goal.returns-then-is_none-clause-short
returns-then-is_none-clause-short g c told =
    let disk = g.S.Store.disk in
    let d0 = disk c.args.store.now in
    short_same MAX_FILE_BYTES d0.files d0.files refl

pub returns-in_err-paths-clause-short : goal.returns-in_err-paths-clause-short
returns-in_err-paths-clause-short g c told =
    let disk = g.S.Store.disk in
    let d0 = disk c.args.store.now in
    short_same MAX_FILE_BYTES d0.files d0.files refl

pub returns-in_err-completed-clause-short : goal.returns-in_err-completed-clause-short
returns-in_err-completed-clause-short g c told =
    let disk = g.S.Store.disk in
    let d0 = disk c.args.store.now in
    let d1 = disk c.read_part.new.self in
    short_same MAX_FILE_BYTES d0.files d1.files (ap (λ (d : Disk). d.files) (c.read_part.ensures.same told))

pub returns-in-Some-clause-short : goal.returns-in-Some-clause-short
returns-in-Some-clause-short g c told =
    let disk = g.S.Store.disk in
    let d0 = disk c.args.store.now in
    let d1 = disk c.read_part.new.self in
    short_same MAX_FILE_BYTES d0.files d1.files (ap (λ (d : Disk). d.files) (c.read_part.ensures.same told))

pub returns-clause-short : goal.returns-clause-short
returns-clause-short g c told =
    let disk = g.S.Store.disk in
    let d0 = disk c.args.store.now in
    let d1 = disk c.read_part.new.self in
    let d2 = disk c.clear_claim.new.store in
    short_then MAX_FILE_BYTES d0.files d1.files d2.files (short_same MAX_FILE_BYTES d0.files d1.files (ap (λ (d : Disk). d.files) (c.read_part.ensures.same told))) (c.clear_claim.ensures.short told)
