use Rattle.std.proofs.Common.{◌≡◌, refl, ap, sym, ◌∙◌, subst, rules}
use Rattle.std.specs.Prelude.{Some}
use Rattle.std.specs.Option.{option_copied}
use Rattle.std.specs.FinMap as map
use Rattle.std.proofs.lemmas.Result.{err_from_is_err_and}
use Rattle.lake_store.specs.Disk.{Disk}
use Rattle.lake_store.specs.Runs.{IsEachMoment}
use Rattle.lake_store.proofs.RunLaws.{alone_further, alone_of_fewer}
use Rattle.hudi_names.specs.Time.{IsDigits, IsSomeTime}
use Rattle.hudi_commit.specs.Names.{completed_path, staged_properties_path}
use Rattle.hudi_commit.specs.Runs.{HasCome, IsCommitted, IsKept, IsKeptBut, IsNext, IsNoFileOf, IsNotOpen, IsOneStep, LacksOrIs, completed, prepared}
use Rattle.hudi_commit.proofs.AloneLaws.{alone_begun, alone_sync}
use Rattle.hudi_commit.proofs.ClaimLaws.{others_not_grown}
use Rattle.hudi_commit.proofs.CommitLaws.{before_step, committed, completed_here, completed_kept_but, entry_stands, kept_but, kept_from, prepared_next, recovered_idle, step_then, synced_clean, synced_stands, tidied_ready}
use Rattle.hudi_commit.proofs.KeepLaws.{begun, keeps_then, sync_keeps}
use Rattle.hudi_commit.proofs.OpenLaws.{completed_not_open, open_same}
use Rattle.hudi_commit.proofs.OtherLaws.{others_kept, staged_no_file}
use Rattle.hudi_commit.proofs.StagingLaws.{alike_before, before_then, never_come}
use Rattle.hudi_commit.proofs.TheirsLaws.{IsCompleted, none_yet, theirs_after}
use Rattle.lake_basics.specs.declared.limits.TheConstants.{MAX_FILE_BYTES}
use Rattle.lake_store.proofs.ShortLaws.{short_same, short_sync, short_then}
use Rattle.hudi_commit.proofs.commit.publish_commit.Goals as goal

pub returns-in_err-paths-clause-one_step : goal.returns-in_err-paths-clause-one_step
returns-in_err-paths-clause-one_step g c told free orderly settled ready =
    let store = g.S.Store in
    let disk = g.S.Store.disk in
    let props = option_copied c.args.properties in
    let t = c.args.instant.now in
    let b = c.args.text.now in
    let s0 = c.args.store.now in
    let entry = (disk s0).files in
    let stands = entry_stands (disk s0) orderly settled in
    let k0 = begun store told entry g.met.S.Store.only_now s0 stands in
    before_step store told props t b s0 s0 (alike_before store told props entry s0 s0 k0)

pub returns-in_err-sync-clause-one_step : goal.returns-in_err-sync-clause-one_step
returns-in_err-sync-clause-one_step g c told free orderly settled ready =
    let store = g.S.Store in
    let disk = g.S.Store.disk in
    let props = option_copied c.args.properties in
    let t = c.args.instant.now in
    let b = c.args.text.now in
    let s0 = c.args.store.now in
    let s1 = c.sync.new.self in
    let entry = (disk s0).files in
    let stands = entry_stands (disk s0) orderly settled in
    let k0 = begun store told entry g.met.S.Store.only_now s0 stands in
    let k1 = sync_keeps store told entry s0 s0 s1 k0 c.sync.result c.sync.ensures.ok c.sync.ensures.err c.sync.ensures.elapses in
    before_step store told props t b s0 s1 (alike_before store told props entry s0 s1 k1)

pub returns-in_err-clear_claims-clause-one_step : goal.returns-in_err-clear_claims-clause-one_step
returns-in_err-clear_claims-clause-one_step g c told free orderly settled ready =
    let store = g.S.Store in
    let disk = g.S.Store.disk in
    let props = option_copied c.args.properties in
    let t = c.args.instant.now in
    let b = c.args.text.now in
    let s0 = c.args.store.now in
    let s1 = c.sync.new.self in
    let s2 = c.clear_claims.new.store in
    let entry = (disk s0).files in
    let stands = entry_stands (disk s0) orderly settled in
    let k0 = begun store told entry g.met.S.Store.only_now s0 stands in
    let k1 = sync_keeps store told entry s0 s0 s1 k0 c.sync.result c.sync.ensures.ok c.sync.ensures.err c.sync.ensures.elapses in
    let k2 = keeps_then store told entry s0 s1 s2 k1 (c.clear_claims.ensures.keeps told entry k1.disk) in
    before_step store told props t b s0 s2 (alike_before store told props entry s0 s2 k2)

pub returns-in_err-prepare-clause-one_step : goal.returns-in_err-prepare-clause-one_step
returns-in_err-prepare-clause-one_step g c told free orderly settled ready =
    let exit = err_from_is_err_and c.from_residual-in_err-prepare.result c.from_residual-in_err-prepare.ensures.1 in
    let store = g.S.Store in
    let disk = g.S.Store.disk in
    let props = option_copied c.args.properties in
    let t = c.args.instant.now in
    let b = c.args.text.now in
    let s0 = c.args.store.now in
    let s1 = c.sync.new.self in
    let s2 = c.clear_claims.new.store in
    let s3 = c.prepare.new.store in
    let entry = (disk s0).files in
    let stands = entry_stands (disk s0) orderly settled in
    let k0 = begun store told entry g.met.S.Store.only_now s0 stands in
    let k1 = sync_keeps store told entry s0 s0 s1 k0 c.sync.result c.sync.ensures.ok c.sync.ensures.err c.sync.ensures.elapses in
    let k2 = keeps_then store told entry s0 s1 s2 k1 (c.clear_claims.ensures.keeps told entry k1.disk) in
    let ok1 = c.in_ok-sync.ensures.ok told in
    let tidied = c.in_ok-clear_claims.ensures.tidied told in
    let recovered = c.in_ok-clear_claims.ensures.recovered told in
    let is_ready = tidied_ready props (disk s0) (disk s1) (disk s2) ok1 tidied ready in
    let idle = recovered_idle entry (disk s1) (disk s2) (synced_clean (disk s0) (disk s1) ok1) tidied recovered k2.disk in
    let b2 = alike_before store told props entry s0 s2 k2 in
    before_step store told props t b s0 s3 (before_then store told props entry s0 s2 s3 b2 (c.in_err-prepare.ensures.keeps told (λ e. (rw exit.1 at free) (exit.2 ∙ e)) entry k2.disk idle is_ready))

pub complete-requires-clause-real : goal.complete-requires-clause-real
complete-requires-clause-real g c =
    subst IsSomeTime (sym c.in_ok-paths.ensures) c.requires.real

pub complete-requires-clause-free : goal.complete-requires-clause-free
complete-requires-clause-free g c told =
    let disk = g.S.Store.disk in
    let props = option_copied c.args.properties in
    let t = c.args.instant.now in
    let is = c.requires.real.1.digits in
    let s0 = c.args.store.now in
    let s1 = c.sync.new.self in
    let s2 = c.clear_claims.new.store in
    let s3 = c.prepare.new.store in
    let ok1 = c.in_ok-sync.ensures.ok told in
    let free2 = (c.clear_claims.ensures.alone told).disk.files (completed_path t) (completed_not_open (disk s1).files t is) ∙ ap (λ (d : Disk). map.get d.files (completed_path t)) ok1 ∙ c.requires.free told in
    let free3 = (c.prepare.ensures.alone told).disk.files (completed_path t) (completed_kept_but props t is) ∙ free2 in
    let at = c.in_ok-paths.ensures in
    ap (λ x. map.get (disk s3).files (completed_path x)) at ∙ free3

pub returns-clause-one_step : goal.returns-clause-one_step
returns-clause-one_step g c told free orderly settled ready =
    let store = g.S.Store in
    let disk = g.S.Store.disk in
    let props = option_copied c.args.properties in
    let t = c.args.instant.now in
    let b = c.args.text.now in
    let is = c.requires.real.1.digits in
    let s0 = c.args.store.now in
    let s1 = c.sync.new.self in
    let s2 = c.clear_claims.new.store in
    let s3 = c.prepare.new.store in
    let s4 = c.complete.new.store in
    let entry = (disk s0).files in
    let stands = entry_stands (disk s0) orderly settled in
    let k0 = begun store told entry g.met.S.Store.only_now s0 stands in
    let k1 = sync_keeps store told entry s0 s0 s1 k0 c.sync.result c.sync.ensures.ok c.sync.ensures.err c.sync.ensures.elapses in
    let k2 = keeps_then store told entry s0 s1 s2 k1 (c.clear_claims.ensures.keeps told entry k1.disk) in
    let ok1 = c.in_ok-sync.ensures.ok told in
    let tidied = c.in_ok-clear_claims.ensures.tidied told in
    let recovered = c.in_ok-clear_claims.ensures.recovered told in
    let is_ready = tidied_ready props (disk s0) (disk s1) (disk s2) ok1 tidied ready in
    let idle = recovered_idle entry (disk s1) (disk s2) (synced_clean (disk s0) (disk s1) ok1) tidied recovered k2.disk in
    let b2 = alike_before store told props entry s0 s2 k2 in
    let free2 = (c.clear_claims.ensures.alone told).disk.files (completed_path t) (completed_not_open (disk s1).files t is) ∙ ap (λ (d : Disk). map.get d.files (completed_path t)) ok1 ∙ c.requires.free told in
    let free3 = (c.prepare.ensures.alone told).disk.files (completed_path t) (completed_kept_but props t is) ∙ free2 in
    let prep = c.in_ok-prepare.ensures.prepared told entry k2.disk idle is_ready in
    let next = prepared_next props entry (disk s2) (disk s3) t is prep free3 in
    let b3 = before_then store told props entry s0 s2 s3 b2 (c.in_ok-prepare.ensures.keeps told tt entry k2.disk idle is_ready) in
    let at = c.in_ok-paths.ensures in
    subst (λ x. IsOneStep store props x b s0 s4) at
    (step_then store told props c.in_ok-paths.paths b s0 s3 s4 b3 (c.complete.ensures.gains told free (prepared props entry) prep.stands (subst (λ x. IsNext x (disk s3)) (sym at) next)))

-- no file of the instant is completed before the last call
pub returns-in_err-paths-clause-comes : goal.returns-in_err-paths-clause-comes
returns-in_err-paths-clause-comes g c told come =
    let exit = err_from_is_err_and c.from_residual.result c.from_residual.ensures.1 in
    never_come c.from_residual.result exit.0 c.args.instant.now (g.S.Store.disk c.args.store.now).files exit.1 (c.requires.free told) come

pub returns-in_err-sync-clause-comes : goal.returns-in_err-sync-clause-comes
returns-in_err-sync-clause-comes g c told come =
    let exit = err_from_is_err_and c.from_residual-in_err-sync.result c.from_residual-in_err-sync.ensures.1 in
    let store = g.S.Store in
    let t = c.args.instant.now in
    let s0 = c.args.store.now in
    let s1 = c.sync.new.self in
    let K = IsCompleted store told t in
    let a1 = alone_sync store told g.met.S.Store.only_now K s0 s0 s1 (alone_begun store told g.met.S.Store.only_now K s0) c.sync.ensures.elapses c.sync.result c.sync.ensures.ok c.sync.ensures.err in
    never_come c.from_residual-in_err-sync.result exit.0 t (store.disk s1).files exit.1 (a1.disk.files (completed_path t) refl ∙ c.requires.free told) come

pub returns-in_err-clear_claims-clause-comes : goal.returns-in_err-clear_claims-clause-comes
returns-in_err-clear_claims-clause-comes g c told come =
    let exit = err_from_is_err_and c.from_residual-in_err-clear_claims.result c.from_residual-in_err-clear_claims.ensures.1 in
    let disk = g.S.Store.disk in
    let t = c.args.instant.now in
    let is = c.requires.real.1.digits in
    let free2 = (c.clear_claims.ensures.alone told).disk.files (completed_path t) (completed_not_open (disk c.sync.new.self).files t is) ∙ ap (λ (d : Disk). map.get d.files (completed_path t)) (c.in_ok-sync.ensures.ok told) ∙ c.requires.free told in
    never_come c.from_residual-in_err-clear_claims.result exit.0 t (disk c.clear_claims.new.store).files exit.1 free2 come

pub returns-in_err-prepare-clause-comes : goal.returns-in_err-prepare-clause-comes
returns-in_err-prepare-clause-comes g c told come =
    let exit = err_from_is_err_and c.from_residual-in_err-prepare.result c.from_residual-in_err-prepare.ensures.1 in
    let disk = g.S.Store.disk in
    let t = c.args.instant.now in
    let is = c.requires.real.1.digits in
    let free2 = (c.clear_claims.ensures.alone told).disk.files (completed_path t) (completed_not_open (disk c.sync.new.self).files t is) ∙ ap (λ (d : Disk). map.get d.files (completed_path t)) (c.in_ok-sync.ensures.ok told) ∙ c.requires.free told in
    never_come c.from_residual-in_err-prepare.result exit.0 t (disk c.prepare.new.store).files exit.1 ((c.prepare.ensures.alone told).disk.files (completed_path t) (completed_kept_but (option_copied c.args.properties) t is) ∙ free2) come

pub returns-clause-comes : goal.returns-clause-comes
returns-clause-comes g c told come_now =
    let store = g.S.Store in
    let disk = g.S.Store.disk in
    let props = option_copied c.args.properties in
    let t = c.args.instant.now in
    let b = c.args.text.now in
    let real = c.requires.real in
    let is = real.1.digits in
    let s0 = c.args.store.now in
    let s1 = c.sync.new.self in
    let s2 = c.clear_claims.new.store in
    let s3 = c.prepare.new.store in
    let s4 = c.complete.new.store in
    let entry = (disk s0).files in
    let at = c.in_ok-paths.ensures in
    let come = subst (λ x. HasCome c.complete.result x (disk s4).files) (sym at) come_now in
    let ok1 = c.in_ok-sync.ensures.ok told in
    let tidied = c.in_ok-clear_claims.ensures.tidied told in
    let recovered = c.in_ok-clear_claims.ensures.recovered told in
    let free2 = (c.clear_claims.ensures.alone told).disk.files (completed_path t) (completed_not_open (disk s1).files t is) ∙ ap (λ (d : Disk). map.get d.files (completed_path t)) ok1 ∙ c.requires.free told in
    let free3 = (c.prepare.ensures.alone told).disk.files (completed_path t) (completed_kept_but props t is) ∙ free2 in
    let done = c.complete.ensures.completed told come in
    let others = others_kept props t b real (disk s0) (disk s1) (disk s2) (disk s3) (disk s4) ok1 tidied
    (λ u is_u. (c.prepare.ensures.alone told).disk.files (completed_path u) (completed_kept_but props u is_u)) (c.in_ok-prepare.ensures.others told) free3 (subst (λ x. disk s4 ≡ completed x b (disk s3)) at done) in
    record {
      committed = λ orderly ready.
          let k1s = synced_stands (disk s0) (disk s1) ok1 orderly in
          let run2 = c.clear_claims.ensures.keeps told entry k1s in
          let is_ready = tidied_ready props (disk s0) (disk s1) (disk s2) ok1 tidied ready in
          let idle = recovered_idle entry (disk s1) (disk s2) (synced_clean (disk s0) (disk s1) ok1) tidied recovered run2.disk in
          let prep = c.in_ok-prepare.ensures.prepared told entry run2.disk idle is_ready in
          let next = prepared_next props entry (disk s2) (disk s3) t is prep free3 in
          subst (λ x. IsCommitted props x b (disk s0) (disk s4)) at
          (committed props c.in_ok-paths.paths b (disk s0) (disk s2) (disk s3) (disk s4) recovered prep (c.complete.ensures.published told (prepared props entry) prep.stands (subst (λ x. IsNext x (disk s3)) (sym at) next) come));
      completed = subst (λ x. map.get (disk s4).files (completed_path x) ≡ Some b) at (completed_here c.in_ok-paths.paths b (disk s3) (disk s4) done);
      staged = λ some. (c.complete.ensures.alone told).disk.files staged_properties_path (staged_no_file c.in_ok-paths.paths (subst IsDigits (sym at) is)) ∙ c.in_ok-prepare.ensures.staged told some;
      others = others;
      not_grown = others_not_grown props t is entry (disk s4).files others;
    }

pub returns-in_err-clear_claims-clause-too_long : goal.returns-in_err-clear_claims-clause-too_long
returns-in_err-clear_claims-clause-too_long g c n long =
    let disk = g.S.Store.disk in
    let t = c.args.instant.now in
    let s0 = c.args.store.now in
    let s1 = c.sync.new.self in
    record {
      many = search rules;
      names = λ told. search rules;
      unpublished = λ told. (c.clear_claims.ensures.alone told).disk.files (completed_path t) (completed_not_open (disk s1).files t c.requires.real.1.digits)
          ∙ ap (λ (d : Disk). map.get d.files (completed_path t)) (c.in_ok-sync.ensures.ok told) ∙ c.requires.free told;
      unmoved = λ told orderly. (c.clear_claims.ensures.keeps told (disk s0).files (synced_stands (disk s0) (disk s1) (c.in_ok-sync.ensures.ok told) orderly)).disk;
    }

pub returns-in_err-paths-clause-kept : goal.returns-in_err-paths-clause-kept
returns-in_err-paths-clause-kept g c told =
    let store = g.S.Store in
    let disk = g.S.Store.disk in
    let props = option_copied c.args.properties in
    let t = c.args.instant.now in
    let s0 = c.args.store.now in
    let a0 = alone_begun store told g.met.S.Store.only_now (IsKept props t (disk s0).files) s0 in
    a0

pub returns-in_err-sync-clause-kept : goal.returns-in_err-sync-clause-kept
returns-in_err-sync-clause-kept g c told =
    let store = g.S.Store in
    let disk = g.S.Store.disk in
    let props = option_copied c.args.properties in
    let t = c.args.instant.now in
    let s0 = c.args.store.now in
    let s1 = c.sync.new.self in
    let a0 = alone_begun store told g.met.S.Store.only_now (IsKept props t (disk s0).files) s0 in
    let a1 = alone_sync store told g.met.S.Store.only_now (IsKept props t (disk s0).files) s0 s0 s1 a0 c.sync.ensures.elapses c.sync.result c.sync.ensures.ok c.sync.ensures.err in
    a1

pub returns-in_err-clear_claims-clause-kept : goal.returns-in_err-clear_claims-clause-kept
returns-in_err-clear_claims-clause-kept g c told =
    let store = g.S.Store in
    let disk = g.S.Store.disk in
    let props = option_copied c.args.properties in
    let t = c.args.instant.now in
    let s0 = c.args.store.now in
    let s1 = c.sync.new.self in
    let s2 = c.clear_claims.new.store in
    let ok1 = c.in_ok-sync.ensures.ok told in
    let a0 = alone_begun store told g.met.S.Store.only_now (IsKept props t (disk s0).files) s0 in
    let a1 = alone_sync store told g.met.S.Store.only_now (IsKept props t (disk s0).files) s0 s0 s1 a0 c.sync.ensures.elapses c.sync.result c.sync.ensures.ok c.sync.ensures.err in
    let f2 = alone_of_fewer store (IsNotOpen (disk s1).files) (IsKept props t (disk s0).files) s1 s2 (λ q kept. open_same (disk s0).files q (disk s1).files (λ u is_u. ap (λ (d : Disk). map.get d.files (completed_path u)) ok1) kept.leftover) (c.clear_claims.ensures.alone told) in
    let a2 = alone_further store (IsKept props t (disk s0).files) s0 s1 s2 (λ _. a1) (λ _. f2) told in
    a2

pub returns-in_err-prepare-clause-kept : goal.returns-in_err-prepare-clause-kept
returns-in_err-prepare-clause-kept g c told =
    let store = g.S.Store in
    let disk = g.S.Store.disk in
    let props = option_copied c.args.properties in
    let t = c.args.instant.now in
    let s0 = c.args.store.now in
    let s1 = c.sync.new.self in
    let s2 = c.clear_claims.new.store in
    let s3 = c.prepare.new.store in
    let ok1 = c.in_ok-sync.ensures.ok told in
    let a0 = alone_begun store told g.met.S.Store.only_now (IsKept props t (disk s0).files) s0 in
    let a1 = alone_sync store told g.met.S.Store.only_now (IsKept props t (disk s0).files) s0 s0 s1 a0 c.sync.ensures.elapses c.sync.result c.sync.ensures.ok c.sync.ensures.err in
    let f2 = alone_of_fewer store (IsNotOpen (disk s1).files) (IsKept props t (disk s0).files) s1 s2 (λ q kept. open_same (disk s0).files q (disk s1).files (λ u is_u. ap (λ (d : Disk). map.get d.files (completed_path u)) ok1) kept.leftover) (c.clear_claims.ensures.alone told) in
    let a2 = alone_further store (IsKept props t (disk s0).files) s0 s1 s2 (λ _. a1) (λ _. f2) told in
    let f3 = alone_of_fewer store (IsKeptBut props) (IsKept props t (disk s0).files) s2 s3 (kept_but props t (disk s0).files) (c.prepare.ensures.alone told) in
    let a3 = alone_further store (IsKept props t (disk s0).files) s0 s2 s3 (λ _. a2) (λ _. f3) told in
    a3

pub returns-clause-kept : goal.returns-clause-kept
returns-clause-kept g c told =
    let store = g.S.Store in
    let disk = g.S.Store.disk in
    let props = option_copied c.args.properties in
    let t = c.args.instant.now in
    let s0 = c.args.store.now in
    let s1 = c.sync.new.self in
    let s2 = c.clear_claims.new.store in
    let s3 = c.prepare.new.store in
    let s4 = c.complete.new.store in
    let ok1 = c.in_ok-sync.ensures.ok told in
    let at = c.in_ok-paths.ensures in
    let a0 = alone_begun store told g.met.S.Store.only_now (IsKept props t (disk s0).files) s0 in
    let a1 = alone_sync store told g.met.S.Store.only_now (IsKept props t (disk s0).files) s0 s0 s1 a0 c.sync.ensures.elapses c.sync.result c.sync.ensures.ok c.sync.ensures.err in
    let f2 = alone_of_fewer store (IsNotOpen (disk s1).files) (IsKept props t (disk s0).files) s1 s2 (λ q kept. open_same (disk s0).files q (disk s1).files (λ u is_u. ap (λ (d : Disk). map.get d.files (completed_path u)) ok1) kept.leftover) (c.clear_claims.ensures.alone told) in
    let a2 = alone_further store (IsKept props t (disk s0).files) s0 s1 s2 (λ _. a1) (λ _. f2) told in
    let f3 = alone_of_fewer store (IsKeptBut props) (IsKept props t (disk s0).files) s2 s3 (kept_but props t (disk s0).files) (c.prepare.ensures.alone told) in
    let a3 = alone_further store (IsKept props t (disk s0).files) s0 s2 s3 (λ _. a2) (λ _. f3) told in
    let f4 = alone_of_fewer store (IsNoFileOf c.in_ok-paths.paths) (IsKept props t (disk s0).files) s3 s4 (λ q kept. subst (λ x. IsNoFileOf x q) (sym at) (kept_from props t (disk s0).files c.requires.real (c.requires.free told) q kept)) (c.complete.ensures.alone told) in
    let a4 = alone_further store (IsKept props t (disk s0).files) s0 s3 s4 (λ _. a3) (λ _. f4) told in
    a4

-- up to the last call no image has the instant's completed file
pub returns-in_err-prepare-clause-theirs : goal.returns-in_err-prepare-clause-theirs
returns-in_err-prepare-clause-theirs g c told taken =
    let store = g.S.Store in
    let disk = g.S.Store.disk in
    let props = option_copied c.args.properties in
    let t = c.args.instant.now in
    let is = c.requires.real.1.digits in
    let s0 = c.args.store.now in
    let s1 = c.sync.new.self in
    let s2 = c.clear_claims.new.store in
    let s3 = c.prepare.new.store in
    let K = IsCompleted store told t in
    let a1 = alone_sync store told g.met.S.Store.only_now K s0 s0 s1 (alone_begun store told g.met.S.Store.only_now K s0) c.sync.ensures.elapses c.sync.result c.sync.ensures.ok c.sync.ensures.err in
    let f2 = alone_of_fewer store (IsNotOpen (disk s1).files) K s1 s2 (λ q same. subst (IsNotOpen (disk s1).files) (sym same) (completed_not_open (disk s1).files t is)) (c.clear_claims.ensures.alone told) in
    let a2 = alone_further store K s0 s1 s2 (λ _. a1) (λ _. f2) told in
    let f3 = alone_of_fewer store (IsKeptBut props) K s2 s3 (λ q same. subst (IsKeptBut props) (sym same) (completed_kept_but props t is)) (c.prepare.ensures.alone told) in
    let a3 = alone_further store K s0 s2 s3 (λ _. a2) (λ _. f3) told in
    none_yet store told t s0 s3 (disk s3).files (c.requires.free told) a3

pub returns-clause-theirs : goal.returns-clause-theirs
returns-clause-theirs g c told taken =
    let store = g.S.Store in
    let disk = g.S.Store.disk in
    let props = option_copied c.args.properties in
    let t = c.args.instant.now in
    let is = c.requires.real.1.digits in
    let s0 = c.args.store.now in
    let s1 = c.sync.new.self in
    let s2 = c.clear_claims.new.store in
    let s3 = c.prepare.new.store in
    let K = IsCompleted store told t in
    let a1 = alone_sync store told g.met.S.Store.only_now K s0 s0 s1 (alone_begun store told g.met.S.Store.only_now K s0) c.sync.ensures.elapses c.sync.result c.sync.ensures.ok c.sync.ensures.err in
    let f2 = alone_of_fewer store (IsNotOpen (disk s1).files) K s1 s2 (λ q same. subst (IsNotOpen (disk s1).files) (sym same) (completed_not_open (disk s1).files t is)) (c.clear_claims.ensures.alone told) in
    let a2 = alone_further store K s0 s1 s2 (λ _. a1) (λ _. f2) told in
    let f3 = alone_of_fewer store (IsKeptBut props) K s2 s3 (λ q same. subst (IsKeptBut props) (sym same) (completed_kept_but props t is)) (c.prepare.ensures.alone told) in
    let a3 = alone_further store K s0 s2 s3 (λ _. a2) (λ _. f3) told in
    let s4 = c.complete.new.store in
    theirs_after store told t s0 s3 s4 (c.requires.free told) a3
    (subst (λ x. IsEachMoment store s3 s4 (LacksOrIs x (disk s3) (disk s4).files)) c.in_ok-paths.ensures (c.complete.ensures.theirs told taken))

pub returns-in_err-paths-clause-short : goal.returns-in_err-paths-clause-short
returns-in_err-paths-clause-short g c told few le =
    let disk = g.S.Store.disk in
    let d0 = disk c.args.store.now in
    short_same MAX_FILE_BYTES d0.files d0.files refl

pub returns-in_err-sync-clause-short : goal.returns-in_err-sync-clause-short
returns-in_err-sync-clause-short g c told few le =
    let disk = g.S.Store.disk in
    let d0 = disk c.args.store.now in
    let d1 = disk c.sync.new.self in
    short_sync c.sync.result MAX_FILE_BYTES d0 d1 (c.sync.ensures.ok told) (c.sync.ensures.err told)

pub returns-in_err-clear_claims-clause-short : goal.returns-in_err-clear_claims-clause-short
returns-in_err-clear_claims-clause-short g c told few le =
    let disk = g.S.Store.disk in
    let d0 = disk c.args.store.now in
    let d1 = disk c.sync.new.self in
    let d2 = disk c.clear_claims.new.store in
    short_then MAX_FILE_BYTES d0.files d1.files d2.files (short_sync c.sync.result MAX_FILE_BYTES d0 d1 (c.sync.ensures.ok told) (c.sync.ensures.err told)) (c.clear_claims.ensures.short told)

pub returns-in_err-prepare-clause-short : goal.returns-in_err-prepare-clause-short
returns-in_err-prepare-clause-short g c told few le =
    let disk = g.S.Store.disk in
    let d0 = disk c.args.store.now in
    let d1 = disk c.sync.new.self in
    let d2 = disk c.clear_claims.new.store in
    let d3 = disk c.prepare.new.store in
    short_then MAX_FILE_BYTES d0.files d1.files d3.files (short_sync c.sync.result MAX_FILE_BYTES d0 d1 (c.sync.ensures.ok told) (c.sync.ensures.err told))
    (short_then MAX_FILE_BYTES d1.files d2.files d3.files (c.clear_claims.ensures.short told) (c.prepare.ensures.short told few))

pub returns-clause-short : goal.returns-clause-short
returns-clause-short g c told few le =
    let disk = g.S.Store.disk in
    let d0 = disk c.args.store.now in
    let d1 = disk c.sync.new.self in
    let d2 = disk c.clear_claims.new.store in
    let d3 = disk c.prepare.new.store in
    let d4 = disk c.complete.new.store in
    short_then MAX_FILE_BYTES d0.files d1.files d4.files (short_sync c.sync.result MAX_FILE_BYTES d0 d1 (c.sync.ensures.ok told) (c.sync.ensures.err told))
    (short_then MAX_FILE_BYTES d1.files d2.files d4.files (c.clear_claims.ensures.short told)
    (short_then MAX_FILE_BYTES d2.files d3.files d4.files (c.prepare.ensures.short told few) (c.complete.ensures.short told le)))
