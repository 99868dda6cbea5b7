-- Files have one head, and the commits since a position end there.
use Rattle.std.proofs.Common.{◌≡◌, ◌≤◌, ◌<◌, ◌+◌, ◌^◌, ℕ, List, [], ◌∷◌, length, Option, Some, None, refl, sym, ap, ◌∙◌, arith}
use Rattle.std.proofs.lemmas.Fmt.{decimal_injective}
use Rattle.std.specs.Fmt.{decimal}
use Rattle.std.proofs.lemmas.Option.{same_Some}
use Rattle.lake_basics.specs.declared.limits.TheConstants.{MAX_DELTA_VERSION}
use Rattle.lake_store.specs.Disk.{Files}
use Rattle.table_history.specs.declared.table.Commit.{Commit}
use Rattle.table_history.specs.declared.table.Table.{Table}
use Rattle.delta_log.specs.declared.commit.DeltaCommit.{DeltaCommit}
use Rattle.delta_log.specs.declared.commit.MetaData.{MetaData}
use Rattle.delta_table.specs.Versions.{HasVersion}
use Rattle.delta_table.proofs.PathLaws.{says_once}
use Rattle.source_core.specs.Since.{EndAt}
use Rattle.source_core.specs.declared.head.Head.{Head}
use Rattle.source_core.proofs.Heads.{same_parts}
use Rattle.source_delta.specs.Heads.{IsAbsent, IsDeltaHead, IsNewest, IsTableId}
use Rattle.source_delta.specs.Since.{AreCommits, IsSince}

pub version_within : (files : Files) (version : ℕ) → HasVersion files version → version ≤ MAX_DELTA_VERSION
version_within files version there = there.1.is.named.within

-- the number of a version fits in 64 bits
pub small : (n : ℕ) → n ≤ MAX_DELTA_VERSION → n < 2 ^ 64
small n h = omega (arith, h)

-- ---- the head

pub one_newest : (files : Files) (a b : ℕ) → IsNewest files a → IsNewest files b → a ≡ b
one_newest files a b x y =
    let up = y.last a x.there in
    let down = x.last b y.there in omega (arith, up, down)

one_id : (files : Files) (a b : Option (List ℕ)) → IsTableId files a → IsTableId files b → a ≡ b
one_id files None None x y = refl
one_id files None (Some id) x y = absurd (x (y.3.bytes, y.3.holds))
one_id files (Some id) None x y = absurd (y (x.3.bytes, x.3.holds))
one_id files (Some id) (Some other) x y =
    let says = says_once files 0 x.0 y.0 x.3 y.3 in
    let meta = same_Some x.1 y.1 (sym x.4 ∙ ap (λ (c : DeltaCommit). c.meta) says ∙ y.4) in
    ap (λ (i : List ℕ). Some i) (x.5 ∙ ap (λ (m : MetaData). m.id) meta ∙ sym y.5)

pub one_head : (files : Files) (a b : Head) → IsDeltaHead files a → IsDeltaHead files b → a ≡ b
one_head files a b x y =
    same_parts a b (x.position ∙ ap decimal (one_newest files x.newest y.newest x.is y.is) ∙ sym y.position) (x.pending ∙ sym y.pending) (one_id files a.table b.table x.table y.table)

pub head_there : (files : Files) (head : Head) → IsDeltaHead files head → IsAbsent files → ⊥
head_there files head is absent = absent is.newest is.is.there

-- ---- where the commits end

end_at : (files : Files) (commits : List Commit) (version : ℕ) (before last : Table) (head position : List ℕ)
    → position ≡ decimal version → head ≡ decimal (version + length commits) → AreCommits files version before commits last → EndAt head position commits
end_at files [] version before last head position spelled is are =
    let none : version + 0 ≡ version = omega arith in
    spelled ∙ sym (is ∙ ap decimal none)
end_at files (commit ∷ commits) version before last head position spelled is are =
    let one : version + length (commit ∷ commits) ≡ version + 1 + length commits = omega arith in
    end_at files commits (version + 1) are.0 last head commit.position are.1.made.position (is ∙ ap decimal one) are.2

pub ends : (files : Files) (head : Head) (position : List ℕ) (base : Table) (commits : List Commit)
    → IsDeltaHead files head → IsSince files position base commits → EndAt head.position position commits
ends files head position base commits is since =
    end_at files commits since.version base since.last head.position position since.spelled
    (is.position ∙ ap decimal (one_newest files is.newest (since.version + length commits) is.is since.newest)) since.are

none_of : (commits : List Commit) → length commits ≡ 0 → commits ≡ []
none_of [] none = refl
none_of (commit ∷ commits) none = absurd (omega (arith, none))

pub none_at_head : (files : Files) (head : Head) (base : Table) (commits : List Commit)
    → IsDeltaHead files head → IsSince files head.position base commits → commits ≡ []
none_at_head files head base commits is since =
    let last : since.version + length commits ≤ MAX_DELTA_VERSION = version_within files (since.version + length commits) since.newest.there in
    let newest = one_newest files is.newest (since.version + length commits) is.is since.newest in
    let up : since.version ≤ MAX_DELTA_VERSION = omega (arith, last) in
    let same : is.newest ≡ since.version =
    decimal_injective is.newest since.version (small is.newest (version_within files is.newest is.is.there)) (small since.version up) (sym is.position ∙ since.spelled) in
    let none : length commits ≡ 0 = omega (arith, newest, same) in none_of commits none
