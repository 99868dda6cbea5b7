use Rattle.std.proofs.Common.{List, ℕ, inl, inr, refl, ap, sym, ◌∙◌, subst, ⊎_elim}
use Rattle.std.specs.Prelude.{is_some}
use Rattle.std.specs.FinMap as map
use Rattle.std.proofs.lemmas.Result.{err_from_is_err_and}
use Rattle.lake_store.specs.Disk.{moved}
use Rattle.lake_store.proofs.RunLaws.{alone_further, alone_of_fewer}
use Rattle.hudi_commit.specs.Names.{claim_path, completed_path}
use Rattle.hudi_commit.specs.Runs.{IsNoFileOf, IsNotOf, IsPublished, announced}
use Rattle.hudi_commit.specs.Settled.{Stands}
use Rattle.hudi_commit.proofs.AloneLaws.{alone_publish}
use Rattle.hudi_commit.proofs.KeepLaws.{keeps_then}
use Rattle.hudi_commit.proofs.PublishLaws.{stored_there}
use Rattle.hudi_commit.proofs.StagingLaws.{announced_clean, claim_here, claimed_announceable, commit_published, gains_on, has_come_at, never_come, not_yet, still_free, uncontested_at}
use Rattle.hudi_commit.proofs.TheirsLaws.{IsCompleted, completed_not_of, theirs_come}
use Rattle.lake_basics.specs.declared.limits.TheConstants.{MAX_FILE_BYTES}
use Rattle.lake_store.proofs.ShortLaws.{short_publish, short_then}
use Rattle.hudi_commit.proofs.publication.complete.Goals as goal

pub returns-in_err-claim-clause-gains : goal.returns-in_err-claim-clause-gains
returns-in_err-claim-clause-gains g c told free base stands next =
    not_yet g.S.Store told base c.args.paths.now c.args.bytes.now c.args.store.now c.claim.new.store (c.claim.ensures.keeps told base stands next.unannounced)

pub returns-in_err-announce-clause-gains : goal.returns-in_err-announce-clause-gains
returns-in_err-announce-clause-gains g c told free base stands next =
    let store = g.S.Store in
    let s₀ = c.args.store.now in
    let s₁ = c.claim.new.store in
    let s₂ = c.announce.new.store in
    let k₁ = c.claim.ensures.keeps told base stands next.unannounced in
    let is_next = claimed_announceable c.args.paths.now c.args.bytes.now c.requires.real (store.disk s₀) (store.disk s₁) (c.in_ok-claim.ensures.claimed told) next.properties in
    not_yet store told base c.args.paths.now c.args.bytes.now s₀ s₂ (keeps_then store told base s₀ s₁ s₂ k₁ (c.announce.ensures.keeps told base k₁.disk is_next))

pub publish-requires-clause-there : goal.publish-requires-clause-there
publish-requires-clause-there g c = λ told.
    let disk = g.S.Store.disk in
    ap is_some (ap (map.get (disk c.announce.new.store).files) c.claim-2.ensures
    ∙ claim_here c.args.paths.now c.args.bytes.now c.requires.real (disk c.args.store.now) (disk c.claim.new.store) (disk c.announce.new.store) (c.in_ok-claim.ensures.claimed told) (c.in_ok-announce.ensures.announced told))

pub publish-requires-clause-durable : goal.publish-requires-clause-durable
publish-requires-clause-durable g c = λ told.
    let disk = g.S.Store.disk in
    announced_clean c.args.paths.now c.args.bytes.now c.requires.real (disk c.args.store.now) (disk c.claim.new.store) (disk c.announce.new.store) (c.in_ok-claim.ensures.claimed told) (c.in_ok-announce.ensures.announced told) c.claim-2.result.now

pub publish-requires-clause-free : goal.publish-requires-clause-free
publish-requires-clause-free g c = λ told.
    let disk = g.S.Store.disk in
    ap (map.get (disk c.announce.new.store).files) c.completed.ensures
    ∙ still_free c.args.paths.now c.args.bytes.now c.requires.real (disk c.args.store.now) (disk c.claim.new.store) (disk c.announce.new.store) (c.in_ok-claim.ensures.claimed told) (c.in_ok-announce.ensures.announced told) (c.requires.free told)

pub returns-clause-gains : goal.returns-clause-gains
returns-clause-gains g c told free base stands next =
    let store = g.S.Store in
    let disk = store.disk in
    let t = c.args.paths.now in
    let b = c.args.bytes.now in
    let is = c.requires.real in
    let s₀ = c.args.store.now in
    let s₁ = c.claim.new.store in
    let s₂ = c.announce.new.store in
    let s₃ = c.publish.new.self in
    let ok₁ = c.in_ok-claim.ensures.claimed told in
    let ok₂ = c.in_ok-announce.ensures.announced told in
    let k₁ = c.claim.ensures.keeps told base stands next.unannounced in
    let is_next = claimed_announceable t b is (disk s₀) (disk s₁) ok₁ next.properties in
    let k₂ = keeps_then store told base s₀ s₁ s₂ k₁ (c.announce.ensures.keeps told base k₁.disk is_next) in
    gains_on store told base t b s₀ s₂ s₃ (not_yet store told base t b s₀ s₂ k₂) (c.publish.ensures.elapses told)
    (⊎_elim
    (λ same. inl (subst (Stands base) (sym same) k₂.disk))
    (λ gone. inr (subst (IsPublished base t b (disk s₀)) (sym gone) (commit_published t b is (disk s₀) (disk s₁) (disk s₂) ok₁ ok₂ base next.properties k₂.disk)))
    (uncontested_at c.publish.result (disk s₂) (disk s₃) c.claim-2.result.now c.completed.result.now (claim_path t) (completed_path t) b c.claim-2.ensures c.completed.ensures free
    (claim_here t b is (disk s₀) (disk s₁) (disk s₂) ok₁ ok₂) (c.publish.ensures.ok told) (c.publish.ensures.taken told) (c.publish.ensures.err told)))

-- no file of the instant is completed before the last call
pub returns-in_err-claim-clause-published : goal.returns-in_err-claim-clause-published
returns-in_err-claim-clause-published g c told base stands next come =
    let t = c.args.paths.now in
    let exit = err_from_is_err_and c.from_residual.result c.from_residual.ensures.1 in
    never_come c.from_residual.result exit.0 t (g.S.Store.disk c.claim.new.store).files exit.1
    ((c.claim.ensures.alone told).disk.files (completed_path t) (completed_not_of t c.requires.real.1.digits (completed_path t) refl) ∙ c.requires.free told) come

pub returns-in_err-claim-clause-completed : goal.returns-in_err-claim-clause-completed
returns-in_err-claim-clause-completed g c told come =
    let t = c.args.paths.now in
    let exit = err_from_is_err_and c.from_residual.result c.from_residual.ensures.1 in
    never_come c.from_residual.result exit.0 t (g.S.Store.disk c.claim.new.store).files exit.1
    ((c.claim.ensures.alone told).disk.files (completed_path t) (completed_not_of t c.requires.real.1.digits (completed_path t) refl) ∙ c.requires.free told) come

pub returns-in_err-announce-clause-published : goal.returns-in_err-announce-clause-published
returns-in_err-announce-clause-published g c told base stands next come =
    let t = c.args.paths.now in
    let apart = completed_not_of t c.requires.real.1.digits (completed_path t) refl in
    let exit = err_from_is_err_and c.from_residual-in_err-announce.result c.from_residual-in_err-announce.ensures.1 in
    never_come c.from_residual-in_err-announce.result exit.0 t (g.S.Store.disk c.announce.new.store).files exit.1
    ((c.announce.ensures.alone told).disk.files (completed_path t) apart ∙ (c.claim.ensures.alone told).disk.files (completed_path t) apart ∙ c.requires.free told) come

pub returns-in_err-announce-clause-completed : goal.returns-in_err-announce-clause-completed
returns-in_err-announce-clause-completed g c told come =
    let t = c.args.paths.now in
    let apart = completed_not_of t c.requires.real.1.digits (completed_path t) refl in
    let exit = err_from_is_err_and c.from_residual-in_err-announce.result c.from_residual-in_err-announce.ensures.1 in
    never_come c.from_residual-in_err-announce.result exit.0 t (g.S.Store.disk c.announce.new.store).files exit.1
    ((c.announce.ensures.alone told).disk.files (completed_path t) apart ∙ (c.claim.ensures.alone told).disk.files (completed_path t) apart ∙ c.requires.free told) come

pub returns-clause-published : goal.returns-clause-published
returns-clause-published g c told base stands next come =
    let store = g.S.Store in
    let disk = store.disk in
    let t = c.args.paths.now in
    let b = c.args.bytes.now in
    let is = c.requires.real in
    let s₀ = c.args.store.now in
    let s₁ = c.claim.new.store in
    let s₂ = c.announce.new.store in
    let s₃ = c.publish.new.self in
    let ok₁ = c.in_ok-claim.ensures.claimed told in
    let ok₂ = c.in_ok-announce.ensures.announced told in
    let k₁ = c.claim.ensures.keeps told base stands next.unannounced in
    let is_next = claimed_announceable t b is (disk s₀) (disk s₁) ok₁ next.properties in
    let k₂ = keeps_then store told base s₀ s₁ s₂ k₁ (c.announce.ensures.keeps told base k₁.disk is_next) in
    let here = claim_here t b is (disk s₀) (disk s₁) (disk s₂) ok₁ ok₂ in
    subst (IsPublished base t b (disk s₀))
    (sym (has_come_at c.publish.result (disk s₂) (disk s₃) c.claim-2.result.now c.completed.result.now t b c.claim-2.ensures c.completed.ensures come here (still_free t b is (disk s₀) (disk s₁) (disk s₂) ok₁ ok₂ (c.requires.free told)) (c.publish.ensures.ok told)
    (c.publish.ensures.taken told) (c.publish.ensures.err told)))
    (commit_published t b is (disk s₀) (disk s₁) (disk s₂) ok₁ ok₂ base next.properties k₂.disk)

pub returns-clause-completed : goal.returns-clause-completed
returns-clause-completed g c told come =
    let disk = g.S.Store.disk in
    let t = c.args.paths.now in
    let b = c.args.bytes.now in
    let is = c.requires.real in
    let s₀ = c.args.store.now in
    let s₁ = c.claim.new.store in
    let s₂ = c.announce.new.store in
    let s₃ = c.publish.new.self in
    let ok₁ = c.in_ok-claim.ensures.claimed told in
    let ok₂ = c.in_ok-announce.ensures.announced told in
    has_come_at c.publish.result (disk s₂) (disk s₃) c.claim-2.result.now c.completed.result.now t b c.claim-2.ensures c.completed.ensures come (claim_here t b is (disk s₀) (disk s₁) (disk s₂) ok₁ ok₂) (still_free t b is (disk s₀) (disk s₁) (disk s₂) ok₁ ok₂ (c.requires.free told)) (c.publish.ensures.ok told)
    (c.publish.ensures.taken told) (c.publish.ensures.err told)
    ∙ ap (λ d. moved d (claim_path t) (completed_path t) b) (ok₂ ∙ ap (announced t) ok₁)

fewer : (t path : List ℕ) → IsNoFileOf t path → IsNotOf t path
fewer t path kept = kept.leftover

pub returns-in_err-claim-clause-alone : goal.returns-in_err-claim-clause-alone
returns-in_err-claim-clause-alone g c told =
    let t = c.args.paths.now in
    alone_of_fewer g.S.Store (IsNotOf t) (IsNoFileOf t) c.args.store.now c.claim.new.store (fewer t) (c.claim.ensures.alone told)

pub returns-in_err-announce-clause-alone : goal.returns-in_err-announce-clause-alone
returns-in_err-announce-clause-alone g c told =
    let t = c.args.paths.now in
    alone_of_fewer g.S.Store (IsNotOf t) (IsNoFileOf t) c.args.store.now c.announce.new.store (fewer t)
    (alone_further g.S.Store (IsNotOf t) c.args.store.now c.claim.new.store c.announce.new.store c.claim.ensures.alone c.announce.ensures.alone told)

pub returns-clause-alone : goal.returns-clause-alone
returns-clause-alone g c told =
    let store = g.S.Store in
    let t = c.args.paths.now in
    let s₀ = c.args.store.now in
    let s₂ = c.announce.new.store in
    let a₂ = alone_of_fewer store (IsNotOf t) (IsNoFileOf t) s₀ s₂ (fewer t) (alone_further store (IsNotOf t) s₀ c.claim.new.store s₂ c.claim.ensures.alone c.announce.ensures.alone told) in
    alone_publish store told g.met.S.Store.only_now (IsNoFileOf t) s₀ s₂ c.publish.new.self a₂ c.publish.ensures.elapses c.publish.result c.claim-2.result.now c.completed.result.now
    (λ kept. kept.leftover (inl c.claim-2.ensures))
    (λ kept. kept.completed c.completed.ensures)
    c.publish.ensures.ok c.publish.ensures.taken c.publish.ensures.err

pub returns-clause-taken : goal.returns-clause-taken
returns-clause-taken g c told taken =
    let disk = g.S.Store.disk in
    stored_there (disk c.announce.new.store) (disk c.publish.new.self) c.completed.result.now (completed_path c.args.paths.now) c.completed.ensures (c.publish.ensures.taken told taken)

pub returns-clause-theirs : goal.returns-clause-theirs
returns-clause-theirs g c told taken =
    let store = g.S.Store in
    let disk = store.disk in
    let t = c.args.paths.now in
    let s₀ = c.args.store.now in
    let s₁ = c.claim.new.store in
    let s₂ = c.announce.new.store in
    let a₂ = alone_of_fewer store (IsNotOf t) (IsCompleted store told t) s₀ s₂ (completed_not_of t c.requires.real.1.digits) (alone_further store (IsNotOf t) s₀ s₁ s₂ c.claim.ensures.alone c.announce.ensures.alone told) in
    theirs_come store told t s₀ s₂ c.publish.new.self (c.requires.free told) a₂
    (announced_clean t c.args.bytes.now c.requires.real (disk s₀) (disk s₁) (disk s₂) (c.in_ok-claim.ensures.claimed told) (c.in_ok-announce.ensures.announced told))
    c.publish.ensures.elapses c.completed.result.now (c.publish.ensures.taken told taken)

pub returns-in_err-claim-clause-short : goal.returns-in_err-claim-clause-short
returns-in_err-claim-clause-short g c told le =
    c.claim.ensures.short told le

pub returns-in_err-announce-clause-short : goal.returns-in_err-announce-clause-short
returns-in_err-announce-clause-short g c told le =
    let disk = g.S.Store.disk in
    let d0 = disk c.args.store.now in
    let d1 = disk c.claim.new.store in
    let d2 = disk c.announce.new.store in
    short_then MAX_FILE_BYTES d0.files d1.files d2.files (c.claim.ensures.short told le) (c.announce.ensures.short told)

pub returns-clause-short : goal.returns-clause-short
returns-clause-short g c told le =
    let disk = g.S.Store.disk in
    let d0 = disk c.args.store.now in
    let d1 = disk c.claim.new.store in
    let d2 = disk c.announce.new.store in
    let d3 = disk c.publish.new.self in
    let b = c.args.bytes.now in
    short_then MAX_FILE_BYTES d0.files d1.files d3.files (c.claim.ensures.short told le)
    (short_then MAX_FILE_BYTES d1.files d2.files d3.files (c.announce.ensures.short told)
    (short_publish c.publish.result d2 d3 c.claim-2.result.now c.completed.result.now b
    (ap (map.get d2.files) c.claim-2.ensures ∙ claim_here c.args.paths.now b c.requires.real d0 d1 d2 (c.in_ok-claim.ensures.claimed told) (c.in_ok-announce.ensures.announced told))
    le (c.publish.ensures.ok told) (c.publish.ensures.taken told) (c.publish.ensures.err told) (c.publish.ensures.short told)))
