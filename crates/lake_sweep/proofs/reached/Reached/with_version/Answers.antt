use Rattle.std.proofs.Common.{◌≡◌, ◌⊎◌, inl, inr, ◌++◌, ◌∷◌, [], ℕ, List, map, Result, Ok, Err, sym, subst}
use Rattle.std.specs.Prelude.{IfErr, IfOk}
use Rattle.std.proofs.lemmas.Result.{err_from_is_err_and}
use Rattle.lake_store.specs.Disk.{Disk, Files}
use Rattle.lake_store.proofs.RunLaws.{reading_further}
use Rattle.iceberg_metadata.specs.declared.metadata.Metadata.{Metadata}
use Rattle.lake_sweep.specs.Reading.{HasRead, HasReadVersions, list_at}
use Rattle.lake_sweep.specs.Refusals.{HasCause}
use Rattle.lake_sweep.specs.Versions.{HasListRefused, IsOneRefused, IsVersionRefused, SaysLists}
use Rattle.lake_sweep.specs.declared.error.SweepError.{SweepError}
use Rattle.lake_sweep.specs.declared.reached.Reached.{Reached}
use Rattle.lake_sweep.proofs.ReadingLaws.{versions_more}
use Rattle.lake_sweep.proofs.CauseLaws.{cause_weaker, refused_weaker}
use Rattle.lake_sweep.proofs.reached.Reached.with_version.Goals as goal

-- with the lists of this version
all_read : (files : Files) (versions : List ℕ) (version : ℕ) (m : Metadata) (paths : List (List ℕ)) (before : Reached) (has : HasReadVersions files versions before) → SaysLists files version m paths
    → (r : Result Reached SweepError) → IfOk r (HasRead files (has.lists ++ map (list_at m) paths)) → IfOk r (HasReadVersions files (versions ++ version ∷ []))
all_read files versions version m paths before has says (Ok after) read = record { lists = has.lists ++ map (list_at m) paths; are = versions_more files versions version has.lists has.are m paths says; read = read }
all_read files versions version m paths before has says (Err e) read = tt

pub returns-clause-read : goal.returns-clause-read
returns-clause-read g c told versions has =
    let store = g.S.Store in
    let files = (store.disk c.args.store.now).files in
    let m = c.in_ok-read.read.metadata in
    let same : store.disk c.read_lists.new.store ≡ store.disk c.args.store.now = (c.read_lists.ensures.only_reads told).disk in
    let at = c.in_ok-reached.ensures.at in
    let here = c.in_ok-reached.ensures.read (store.disk c.read_lists.new.store).files has.lists (subst (λ (d : Disk). HasRead d.files has.lists c.args.self) (sym same) has.read) in
    let all = subst (λ (d : Disk). IfOk c.with_lists.result (HasRead d.files (has.lists ++ map (list_at m) c.as_slice.result.now))) same (c.with_lists.ensures.read told has.lists at here) in
    all_read files versions c.args.version m c.in_ok-read.read.paths c.args.self has (c.in_ok-read.ensures.says told) c.with_lists.result
    (subst (λ (l : List (List ℕ)). IfOk c.with_lists.result (HasRead files (has.lists ++ map (list_at m) l))) c.as_slice.ensures all)

pub returns-in_err-read-clause-refused : goal.returns-in_err-read-clause-refused
returns-in_err-read-clause-refused g c told versions has =
    let files = (g.S.Store.disk c.args.store.now).files in
    let P : SweepError → Type 0 = IsVersionRefused files c.args.version in
    let Q : SweepError → Type 0 = λ (e : SweepError). IsVersionRefused files c.args.version e ⊎ HasListRefused files c.args.version e in
    let exit = err_from_is_err_and c.from_residual.result c.from_residual.ensures.1 in
    subst (λ (r : Result Reached SweepError). IfErr r (HasCause Q)) (sym exit.1) (cause_weaker P Q (λ e refused. inl refused) exit.0 (subst (HasCause P) (sym exit.2) (c.in_err-read.ensures.refused told)))

pub returns-in_err-reached-clause-refused : goal.returns-in_err-reached-clause-refused
returns-in_err-reached-clause-refused g c told versions has =
    let files = (g.S.Store.disk c.args.store.now).files in
    let Q : SweepError → Type 0 = λ (e : SweepError). IsVersionRefused files c.args.version e ⊎ HasListRefused files c.args.version e in
    let exit = err_from_is_err_and c.from_residual-in_err-reached.result c.from_residual-in_err-reached.ensures.1 in
    subst (λ (r : Result Reached SweepError). IfErr r (HasCause Q)) (sym exit.1) (subst (HasCause Q) (sym exit.2) tt)

pub returns-clause-refused : goal.returns-clause-refused
returns-clause-refused g c told versions has =
    let store = g.S.Store in
    let files = (store.disk c.args.store.now).files in
    let m = c.in_ok-read.read.metadata in
    let paths = c.in_ok-read.read.paths in
    let same : store.disk c.read_lists.new.store ≡ store.disk c.args.store.now = (c.read_lists.ensures.only_reads told).disk in
    let here = c.in_ok-reached.ensures.read (store.disk c.read_lists.new.store).files has.lists (subst (λ (d : Disk). HasRead d.files has.lists c.args.self) (sym same) has.read) in
    let one = subst (λ (d : Disk). IfErr c.with_lists.result (HasCause (IsOneRefused d.files m c.as_slice.result.now))) same (c.with_lists.ensures.refused told has.lists c.in_ok-reached.ensures.at here) in
    let P : SweepError → Type 0 = IsOneRefused files m paths in
    let Q : SweepError → Type 0 = λ (e : SweepError). IsVersionRefused files c.args.version e ⊎ HasListRefused files c.args.version e in
    refused_weaker P Q (λ e refused. inr (m, paths, c.in_ok-read.ensures.says told, refused)) c.with_lists.result
    (subst (λ (l : List (List ℕ)). IfErr c.with_lists.result (HasCause (IsOneRefused files m l))) c.as_slice.ensures one)

pub returns-clause-only_reads : goal.returns-clause-only_reads
returns-clause-only_reads g c told =
    reading_further g.S.Store c.args.store.now c.read_lists.new.store c.with_lists.new.store (λ t. c.read_lists.ensures.only_reads t) (λ t. c.with_lists.ensures.only_reads t) told
