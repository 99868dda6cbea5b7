-- What is kept of the same files is the same as far as the next commit rests on it.
use Rattle.std.proofs.Common.{◌≡◌, ◌⊎◌, inl, inr, ⊎_elim, ℕ, suc, List, [], false, Some, refl, sym, ap, subst, ◌∙◌, arith}
use Rattle.std.proofs.lemmas.Bool.{cases_lt}
use Rattle.lake_store.specs.Disk.{Files}
use Rattle.delta_log.specs.declared.commit.DeltaCommit.{DeltaCommit}
use Rattle.delta_log.specs.declared.commit.MetaData.{MetaData}
use Rattle.delta_log.specs.declared.commit.Protocol.{Protocol}
use Rattle.delta_table.specs.Log.{IsNewestProtocol, SaysCommit}
use Rattle.delta_table.proofs.PathLaws.{says_once}
use Rattle.target_core.specs.Folders.{SameIn}
use Rattle.target_core.specs.Views.{IsUnpublished, SameView, View, absent}
use Rattle.target_core.proofs.Unpublished.{no_commits, schema_of_absent}
use Rattle.delta_table.specs.Versions.{log_folder}
use Rattle.target_delta.specs.Kept.{HoldsEnd, IsFirst, StandsFor, end_of, view_of}
use Rattle.target_delta.specs.Names.{HasVersions}
use Rattle.target_delta.specs.Reading.{IsAbsent, Reads}
use Rattle.target_delta.specs.Writing.{LogEnd, names_ntz}
use Rattle.target_delta.specs.declared.kept.DeltaKept.{DeltaKept}
use Rattle.delta_table.specs.SameVersions.{own_versions, says_too}
use Rattle.target_delta.specs.LogLemmas.{newest_below}
use Rattle.target_delta.specs.ReadingLemmas.{one_view, reads_own}
use Rattle.lake_basics.proofs.Options.{some_or_none}

one_meta : (files : Files) (version : ℕ) (c d : DeltaCommit) (m n : MetaData) → SaysCommit files version c → SaysCommit files version d → c.meta ≡ Some m → d.meta ≡ Some n → m ≡ n
one_meta files version c d m n h k is also =
    let both : Some m ≡ Some n = sym is ∙ ap (λ (e : DeltaCommit). e.meta) (says_once files version c d h k) ∙ also in
    cc

pub one_protocol : (files : Files) (count : ℕ) (p q : Protocol) → IsNewestProtocol files count p → IsNewestProtocol files count q → p ≡ q
one_protocol files count p q h k =
    elim (cases_lt h.version k.version) [
      | inl lt ↦ absurd (some_or_none k.commit.protocol q k.is (h.last k.version k.commit lt k.within k.says))
      | inr le ↦ elim (cases_lt k.version h.version) [
        | inl gt ↦ absurd (some_or_none h.commit.protocol p h.is (k.last h.version h.commit gt h.within h.says))
        | inr ge ↦
            let version : h.version ≡ k.version = omega (arith, le, ge) in
            let commit : h.commit ≡ k.commit = says_once files k.version h.commit k.commit (subst (λ (n : ℕ). SaysCommit files n h.commit) version h.says) k.says in
            let both : Some p ≡ Some q = sym h.is ∙ ap (λ (c : DeltaCommit). c.protocol) commit ∙ k.is in
            cc
      ]
    ]

-- the ends are one by their parts
pub ends_by : (a b : LogEnd) → a.version ≡ b.version → a.id ≡ b.id → a.schema ≡ b.schema → a.partition ≡ b.partition → a.ntz ≡ b.ntz → a ≡ b
ends_by a b version id schema partition ntz = λ i. record { version = version i; id = id i; schema = schema i; partition = partition i; ntz = ntz i }

-- of the views that the same files stand for, the schemas are one
pub one_schema : (files : Files) (v w : View) → Reads files v → Reads files w → v.table.schema ≡ w.table.schema
one_schema files v w h k =
    ⊎_elim (λ (same : SameView v w). same.schema) (λ none. schema_of_absent v none.0 ∙ sym (schema_of_absent w none.1)) (one_view files v w h k)

pub one_end : (files : Files) (id : List ℕ) (kept other : DeltaKept) → StandsFor id kept files → StandsFor id other files → kept.table.partition ≡ other.table.partition → end_of kept ≡ end_of other
one_end files id kept other h k partition =
    let schema = one_schema files (view_of kept) (view_of other) h.reads k.reads in
    both h.end k.end schema
  where
    first_or_held : (k l : DeltaKept) → IsFirst files id k → HoldsEnd files l → ⊥
    first_or_held k l first held = first.none.versions held.newest (held.says.bytes, held.says.holds)

    both : IsFirst files id kept ⊎ HoldsEnd files kept → IsFirst files id other ⊎ HoldsEnd files other → kept.table.schema ≡ other.table.schema → end_of kept ≡ end_of other
    both (inl a) (inl b) schema = ends_by (end_of kept) (end_of other) (a.commits ∙ sym b.commits) (a.id_is ∙ sym b.id_is) schema partition (a.ntz ∙ sym b.ntz)
    both (inl a) (inr b) schema = absurd (first_or_held kept other a b)
    both (inr a) (inl b) schema = absurd (first_or_held other kept b a)
    both (inr a) (inr b) schema =
        let counts : kept.commits ≡ other.commits = ⊎_elim (λ (same : SameView (view_of kept) (view_of other)). same.commits) (λ none. no_commits (view_of kept) none.0 ∙ sym (no_commits (view_of other) none.1)) (one_view files (view_of kept) (view_of other) h.reads k.reads) in
        let sucs : suc a.newest ≡ suc b.newest = sym a.count ∙ counts ∙ b.count in
        let newest : a.newest ≡ b.newest = cc in
        let meta : a.meta ≡ b.meta = one_meta files b.newest a.commit b.commit a.meta b.meta (subst (λ (n : ℕ). SaysCommit files n a.commit) newest a.says) b.says a.stated b.stated in
        let protocol : a.protocol ≡ b.protocol = one_protocol files (suc b.newest) a.protocol b.protocol (subst (λ (n : ℕ). IsNewestProtocol files n a.protocol) sucs a.newest_protocol) b.newest_protocol in
        ends_by (end_of kept) (end_of other) counts (sym a.id ∙ ap (λ (m : MetaData). m.id) meta ∙ b.id) schema partition (sym a.ntz ∙ ap names_ntz protocol ∙ b.ntz)

-- ---- the same folder

pub kept_own : (id : List ℕ) (kept : DeltaKept) (a b : Files) → SameIn log_folder a b → StandsFor id kept a → StandsFor id kept b
kept_own id kept a b same h =
    let versions = own_versions a b same in
    record {
      reads = reads_own a b (view_of kept) same h.reads;
      end = ⊎_elim
          (λ (first : IsFirst a id kept). inl (record { none = absent_own first.none; commits = first.commits; id_is = first.id_is; ntz = first.ntz }))
          (λ (held : HoldsEnd a kept). inr (record {
            newest = held.newest;
            count = held.count;
            commit = held.commit;
            says = says_too a b versions held.newest held.commit held.says;
            meta = held.meta;
            stated = held.stated;
            id = held.id;
            at = held.at;
            protocol = held.protocol;
            newest_protocol = protocol_too held.newest held.protocol held.newest_protocol;
            ntz = held.ntz;
          }))
          h.end;
    }
  where
    absent_own : IsAbsent a → IsAbsent b
    absent_own none = ⊎_elim (λ (is : IsAbsent b × IsUnpublished (absent [])). is.0) (λ ours. absurd (let count = ours.count in omega (arith, count))) (reads_own a b (absent []) same (inl (none, refl)))

    protocol_too : (newest : ℕ) (p : Protocol) → IsNewestProtocol a (suc newest) p → IsNewestProtocol b (suc newest) p
    protocol_too newest p h = newest_below (λ (c : DeltaCommit). c.protocol) a b (suc newest) p (λ path version lt is. own_versions a b same path version is) h

-- ---- how many versions there are

pub versions_of_reads : (files : Files) (view : View) → Reads files view → HasVersions files view.commits
versions_of_reads files view (inl h) = let none = no_commits view h.1 in record {
  within = omega (arith, none);
  there = λ version lt. absurd (omega (arith, lt, none));
  none = λ version le. h.0.versions version;
}
versions_of_reads files view (inr h) = subst (λ (n : ℕ). HasVersions files n) (sym h.count) h.versions

-- what stands for an absent target
pub fresh_stands : (id : List ℕ) (kept : DeltaKept) (p : List (List ℕ)) → view_of kept ≡ absent p → kept.id ≡ id → kept.names_ntz ≡ false → (files : Files) → Reads files (absent []) → StandsFor id kept files
fresh_stands id kept p view ids ntz files reads =
    let none : IsAbsent files = ⊎_elim (λ (is : IsAbsent files × IsUnpublished (absent [])). is.0) (λ ours. absurd (let count = ours.count in omega (arith, count))) reads in
    let partition : kept.table.partition ≡ p = ap (λ (v : View). v.table.partition) view in
    record {
      reads = inl (none, view ∙ ap absent (sym partition));
      end = inl (record { none = none; commits = ap (λ (v : View). v.commits) view; id_is = ids; ntz = ntz });
    }
