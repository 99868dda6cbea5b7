-- Blocks that can be joined aren't refused, and what is written for one agrees with its commits.
use Rattle.std.proofs.Common.{◌≡◌, ◌⊎◌, inl, inr, ⊎_elim, ℕ, ◌+◌, ◌<◌, ◌≤◌, List, [], ◌∷◌, ◌++◌, length, All, sym, ap, subst, ◌∙◌, length-append, arith}
use Rattle.std.proofs.lemmas.List.Elements.{All-head}
use Rattle.lake_basics.specs.declared.limits.TheConstants.{MAX_ACTIONS, MAX_FILE_BYTES}
use Rattle.lake_store.specs.Disk.{Files}
use Rattle.table_history.specs.declared.feature.Feature.{Feature}
use Rattle.table_history.specs.declared.feature.Feature.TheVariants.{CompactAction}
use Rattle.delta_log.specs.declared.commit.DeltaCommit.{DeltaCommit}
use Rattle.delta_log.specs.declared.error.DeltaError.{DeltaError}
use Rattle.delta_log.specs.declared.error.DeltaError.TheVariants as delta
use Rattle.delta_log.proofs.ReadableLemmas.{fault_excluded}
use Rattle.delta_compaction.specs.declared.error.CompactError.{CompactError}
use Rattle.delta_compaction.specs.declared.error.CompactError.TheVariants as join
use Rattle.delta_compaction.specs.declared.key.LineKey.{LineKey}
use Rattle.delta_compaction.specs.Agreeing.{Agrees}
use Rattle.delta_compaction.specs.Lines.{IsStray}
use Rattle.delta_compaction.specs.Reconciled.{AreNewest, text_of}
use Rattle.delta_compaction.specs.Taken.{AreTaken, IsCommitRefusal, IsFirstRefused, IsJoinRefusal, IsStrayAt, IsTaken, IsUnread, error_at}
use Rattle.delta_compaction.proofs.KeyLemmas.{key_total}
use Rattle.delta_compaction.proofs.LawLemmas.{all_both}
use Rattle.delta_compaction.proofs.SortedLemmas.{same_rising}
use Rattle.delta_compaction.proofs.TextLemmas.{text_agrees}
use Rattle.source_core.specs.declared.error.SourceError.{SourceError}
use Rattle.source_core.specs.declared.error.SourceError.TheVariants as source
use Rattle.delta_compact.specs.Joinable.{IsJoinable, file_count, whole_length}
use Rattle.delta_compact.specs.Refusals.{HasCause, HaveManyActions, IsLong, IsUnjoinable, IsUnjoined, TellsJoin, of_source}
use Rattle.delta_compact.specs.Steps.{TellsAmong}
use Rattle.delta_compact.specs.declared.error.CompactFault.{CompactFault}
use Rattle.delta_compact.specs.declared.error.CompactFault.TheVariants.{Memory, Absent, Malformed, Unsupported, Limit, Contested, Stale, StoreFault}
use Rattle.delta_compact.proofs.Held.{block_once}

-- ---- causes

-- of one relation to another, where the first tells of a want of memory or the second holds
pub cause_by : (P Q : CompactFault → Type 0) → ((e : CompactFault) → P e → (e ≡ Memory) ⊎ Q e) → (e : CompactFault) → HasCause P e → HasCause Q e
cause_by P Q so Memory h = tt
cause_by P Q so StoreFault h = tt
cause_by P Q so Contested h = tt
cause_by P Q so Absent h = ⊎_elim (λ is. absurd (cc)) (λ q. q) (so Absent h)
cause_by P Q so (Malformed path) h = ⊎_elim (λ is. absurd (cc)) (λ q. q) (so (Malformed path) h)
cause_by P Q so (Unsupported feature path) h = ⊎_elim (λ is. absurd (cc)) (λ q. q) (so (Unsupported feature path) h)
cause_by P Q so (Limit which number) h = ⊎_elim (λ is. absurd (cc)) (λ q. q) (so (Limit which number) h)
cause_by P Q so (Stale path) h = ⊎_elim (λ is. absurd (cc)) (λ q. q) (so (Stale path) h)

pub cause_weaker : (P Q : CompactFault → Type 0) → ((e : CompactFault) → P e → Q e) → (e : CompactFault) → HasCause P e → HasCause Q e
cause_weaker P Q so e h = cause_by P Q (λ f p. inr (so f p)) e h

-- what has a cause, whatever it is
pub cause_of : (P : CompactFault → Type 0) (e : CompactFault) → P e → HasCause P e
cause_of P Memory h = tt
cause_of P StoreFault h = tt
cause_of P Contested h = tt
cause_of P Absent h = h
cause_of P (Malformed path) h = h
cause_of P (Unsupported feature path) h = h
cause_of P (Limit which number) h = h
cause_of P (Stale path) h = h

-- ---- commits that can be joined

taken_at : (front : List (List ℕ)) (bytes : List ℕ) (later : List (List ℕ)) (said : List DeltaCommit) → AreTaken (front ++ bytes ∷ later) said → (c : DeltaCommit) × IsTaken bytes c
taken_at [] bytes later [] taken = absurd taken
taken_at [] bytes later (c ∷ said) taken = (c, taken.0)
taken_at (b ∷ front) bytes later [] taken = absurd taken
taken_at (b ∷ front) bytes later (c ∷ said) taken = taken_at front bytes later said taken.1

stray_excluded : (bytes : List ℕ) (c : DeltaCommit) (n : ℕ) → IsTaken bytes c → IsStrayAt bytes n → ⊥
stray_excluded bytes c n taken at =
    All-head (λ (l : List ℕ). IsStray l → ⊥) at.line at.later
    (all_both (λ (l : List ℕ). IsStray l → ⊥) at.front (at.line ∷ at.later) (subst (All (λ (l : List ℕ). IsStray l → ⊥)) at.split taken.plain)).1 at.stray

unread_excluded : (bytes : List ℕ) (c : DeltaCommit) (e : DeltaError) → IsTaken bytes c → IsUnread bytes e → ⊥
unread_excluded bytes c e taken unread = fault_excluded bytes c e taken.readable unread.first

-- Of commits that can be joined none is told.
pub not_refused : (commits : List (List ℕ)) (said : List DeltaCommit) → AreTaken commits said → (e : CompactError) → IsFirstRefused commits e → e ≡ join.Memory
not_refused commits said taken e h = by h.cause h.refused h.told
  where
    here : (c : DeltaCommit) × IsTaken h.bytes c
    here = taken_at h.front h.bytes h.later said (subst (λ (l : List (List ℕ)). AreTaken l said) h.split taken)

    by : (cause : DeltaError) → IsCommitRefusal h.bytes cause → e ≡ error_at (length h.front) cause → e ≡ join.Memory
    by delta.Memory refused told = told
    by (delta.Malformed n) refused told = absurd (unread_excluded h.bytes here.0 (delta.Malformed n) here.1 refused)
    by (delta.DoublePath n) refused told = absurd (unread_excluded h.bytes here.0 (delta.DoublePath n) here.1 refused)
    by (delta.Unsupported f n) refused told = absurd (⊎_elim (unread_excluded h.bytes here.0 (delta.Unsupported f n) here.1) (λ (stray : (f ≡ CompactAction) × IsStrayAt h.bytes n). stray_excluded h.bytes here.0 n here.1 stray.1) refused)
    by (delta.Limit w) refused told = absurd (unread_excluded h.bytes here.0 (delta.Limit w) here.1 refused)

not_unjoined : (block : ℕ) (commits : List (List ℕ)) (said : List DeltaCommit) → AreTaken commits said → (e : CompactFault) → IsUnjoined block commits e → e ≡ Memory
not_unjoined block commits said taken e h = subst (λ (c : CompactError). TellsJoin block c e) (not_refused commits said taken h.0 h.1) h.2

entries_once : (commits : List (List ℕ)) (a b : List (LineKey × List ℕ)) → AreNewest commits a → AreNewest commits b → a ≡ b
entries_once commits a b one other =
    same_rising (λ (e : LineKey × List ℕ). e.0) key_total a b one.sorted other.sorted (λ e. (
      (λ there. (other.newest e.0 e.1).1 ((one.newest e.0 e.1).0 there)),
      (λ there. (one.newest e.0 e.1).1 ((other.newest e.0 e.1).0 there)),
    ))

not_many : (files : Files) (block : ℕ) (h : IsJoinable files block) (e : CompactFault) → HaveManyActions h.commits e → ⊥
not_many files block h e many =
    let same : file_count many.entries ≡ file_count h.entries = ap file_count (entries_once h.commits many.entries h.entries many.newest h.newest) in
    let passes = many.many in
    let few = h.few in
    omega (arith, same, passes, few)

-- why it isn't joined
abbrev Why : ℕ → CompactFault → List (List ℕ) → Type 0
Why block e commits = IsLong commits e ⊎ ((whole_length commits ≤ MAX_FILE_BYTES) × (IsUnjoined block commits e ⊎ HaveManyActions commits e))

no_why : (files : Files) (block : ℕ) (h : IsJoinable files block) (e : CompactFault) → Why block e h.commits → e ≡ Memory
no_why files block h e (inl long) = let few = h.short in let many = long.0 in absurd (omega (arith, few, many))
no_why files block h e (inr (short, inl unjoined)) = not_unjoined block h.commits h.said h.taken e unjoined
no_why files block h e (inr (short, inr many)) = absurd (not_many files block h e many)

-- A block that can be joined isn't refused.
pub not_unjoinable : (files : Files) (block : ℕ) → IsJoinable files block → (e : CompactFault) → IsUnjoinable files block e → e ≡ Memory
not_unjoinable files block h e refused = no_why files block h e (subst (Why block e) (block_once files block refused.0 h.commits refused.1 h.held) refused.2)

-- ---- what is written

pub text_joined : (commits : List (List ℕ)) (entries : List (LineKey × List ℕ)) (text : List ℕ) → ((said : List DeltaCommit) × AreTaken commits said) → AreNewest commits entries → file_count entries ≤ MAX_ACTIONS → text ≡ text_of entries → Agrees text commits
text_joined commits entries text taken newest few is = subst (λ (t : List ℕ). Agrees t commits) (sym is) (text_agrees commits taken.0 taken.1 entries newest few)

-- ---- which commit is told

at_front : (commits : List (List ℕ)) (count index : ℕ) → length commits ≡ count → (front : List (List ℕ)) (bytes : List ℕ) (later : List (List ℕ)) → commits ≡ front ++ bytes ∷ later → index ≡ length front → index < count
at_front commits count index len front bytes later split is =
    let whole : length commits ≡ length front + length (bytes ∷ later) = ap length split ∙ length-append front (bytes ∷ later) in
    omega (arith, whole, len, is)

place_malformed : (n index line : ℕ) (cause : DeltaError) → join.Malformed index line ≡ error_at n cause → index ≡ n
place_malformed n index line delta.Memory is = absurd (cc)
place_malformed n index line (delta.Malformed m) is = cc
place_malformed n index line (delta.DoublePath m) is = cc
place_malformed n index line (delta.Unsupported f m) is = absurd (cc)
place_malformed n index line (delta.Limit w) is = absurd (cc)

place_unsupported : (feature : Feature) (n index line : ℕ) (cause : DeltaError) → join.Unsupported feature index line ≡ error_at n cause → index ≡ n
place_unsupported feature n index line delta.Memory is = absurd (cc)
place_unsupported feature n index line (delta.Malformed m) is = absurd (cc)
place_unsupported feature n index line (delta.DoublePath m) is = absurd (cc)
place_unsupported feature n index line (delta.Unsupported f m) is = cc
place_unsupported feature n index line (delta.Limit w) is = absurd (cc)

-- The commit that is refused is one of them.
pub tells_among : (commits : List (List ℕ)) (count : ℕ) (e : CompactError) → length commits ≡ count → IsJoinRefusal commits e → TellsAmong count e
tells_among commits count join.Memory len h = tt
tells_among commits count (join.Malformed index line) len h = at_front commits count index len h.front h.bytes h.later h.split (place_malformed (length h.front) index line h.cause h.told)
tells_among commits count (join.Unsupported feature index line) len h = at_front commits count index len h.front h.bytes h.later h.split (place_unsupported feature (length h.front) index line h.cause h.told)
tells_among commits count (join.Limit which) len h = tt

-- and it is told as the first of them that can't be joined
pub unjoined_of : (block : ℕ) (commits : List (List ℕ)) (e : CompactError) (told : CompactFault) → IsJoinRefusal commits e → HasCause (TellsJoin block e) told → HasCause (IsUnjoined block commits) told
unjoined_of block commits join.Memory told h tells = cause_by (TellsJoin block join.Memory) (IsUnjoined block commits) (λ f is. inl is) told tells
unjoined_of block commits (join.Malformed index line) told h tells = cause_weaker (TellsJoin block (join.Malformed index line)) (IsUnjoined block commits) (λ f is. (join.Malformed index line, h, is)) told tells
unjoined_of block commits (join.Unsupported feature index line) told h tells = cause_weaker (TellsJoin block (join.Unsupported feature index line)) (IsUnjoined block commits) (λ f is. (join.Unsupported feature index line, h, is)) told tells
unjoined_of block commits (join.Limit which) told h tells = cause_weaker (TellsJoin block (join.Limit which)) (IsUnjoined block commits) (λ f is. (join.Limit which, h, is)) told tells

-- ---- what isn't told as stale

not_told : (block : ℕ) (cause : CompactError) (path : List ℕ) → TellsJoin block cause (Stale path) → ⊥
not_told block join.Memory path told = cc
not_told block (join.Malformed index line) path told = let is = told.2 in cc
not_told block (join.Unsupported feature index line) path told = let is = told.2 in cc
not_told block (join.Limit which) path told = cc

pub joins_fresh : (block : ℕ) (commits : List (List ℕ)) (at : List ℕ) → IsUnjoined block commits (Stale at) ⊎ HaveManyActions commits (Stale at) → ⊥
joins_fresh block commits at (inl unjoined) = not_told block unjoined.0 at unjoined.2
joins_fresh block commits at (inr many) = let is = many.told in cc

pub unjoinable_fresh : (files : Files) (block : ℕ) (at : List ℕ) → IsUnjoinable files block (Stale at) → ⊥
unjoinable_fresh files block at h = by h.2
  where
    by : IsLong h.0 (Stale at) ⊎ ((whole_length h.0 ≤ MAX_FILE_BYTES) × (IsUnjoined block h.0 (Stale at) ⊎ HaveManyActions h.0 (Stale at))) → ⊥
    by (inl long) = let is = long.1 in cc
    by (inr rest) = joins_fresh block h.0 at rest.1

pub source_fresh : (e : SourceError) (at : List ℕ) → Stale at ≡ of_source e → ⊥
source_fresh source.Memory at is = cc
source_fresh source.Absent at is = cc
source_fresh (source.Malformed path) at is = cc
source_fresh (source.Unsupported feature path) at is = cc
source_fresh (source.Limit which number) at is = cc
source_fresh source.StoreFault at is = cc
