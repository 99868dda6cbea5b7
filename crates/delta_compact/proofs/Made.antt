-- The table that the files make, read one after another, is the one that their versions stand for.
use Rattle.std.proofs.Common.{◌≡◌, ◌↔◌, ◌⊎◌, inl, inr, ⊎_elim, ℕ, zero, suc, ◌+◌, ◌-◌, ◌*◌, ◌<◌, ◌≤◌, List, [], ◌∷◌, ◌++◌, length, Contains, Option, Some, None, refl, sym, ap, subst, ◌∙◌, append_assoc, length-append, arith}
use Rattle.std.specs.Prelude.{min}
use Rattle.std.specs.FinMap as map
use Rattle.std.proofs.lemmas.Bool.{cases_eq, cases_lt}
use Rattle.std.proofs.lemmas.List.Elements.{All-nil, All-push}
use Rattle.std.proofs.lemmas.Option.{same_Some}
use Rattle.lake_basics.specs.declared.limits.TheConstants.{MAX_DELTA_VERSION}
use Rattle.lake_store.specs.Disk.{Files}
use Rattle.table_history.specs.Row.{Row}
use Rattle.table_history.specs.Rows.{SameRows}
use Rattle.table_history.specs.declared.table.Table.{Table}
use Rattle.table_history.proofs.RowListLemmas.{Contains-none}
use Rattle.delta_change.specs.TableBehind.{IsSchemaBehind, Spells, partition_behind}
use Rattle.delta_change.proofs.ColumnLemmas.{one_schema}
use Rattle.delta_change.proofs.KindLemmas.{same_columns}
use Rattle.delta_change.proofs.LawLemmas.{one_kind}
use Rattle.delta_live.specs.Live.{ArePartColumns, IsLive, IsLiveOver, PartColumns}
use Rattle.delta_live.proofs.LiveLemmas.{live_behind}
use Rattle.delta_log.specs.Readable.{IsReadableCommit}
use Rattle.delta_log.specs.declared.commit.DeltaCommit.{DeltaCommit}
use Rattle.delta_log.specs.declared.commit.MetaData.{MetaData}
use Rattle.delta_table.specs.Log.{IsLiveBefore, IsNewestMeta, IsReadLog, IsStep, SaysCommit}
use Rattle.delta_table.specs.Versions.{IsVersionPath}
use Rattle.delta_table.proofs.PathLaws.{says_once}
use Rattle.delta_table.proofs.LogLaws.{columns_stay}
use Rattle.delta_compaction.specs.Law.{IsNewestPart, StandsFor}
use Rattle.delta_compaction.proofs.AgreeLemmas.{agreeing_stands}
use Rattle.delta_compact.specs.Blocks.{IsBlockPath}
use Rattle.delta_compact.specs.Compacting.{AreBlocksOf}
use Rattle.delta_compact.specs.Whole.{AllCompacted, AreReadParts, IsTableBefore, SaysFile, part_count}
use Rattle.delta_compact.proofs.Counting.{block_under}
use Rattle.delta_compact.proofs.Paths.{one_path}
use Rattle.delta_compact.proofs.Said.{HaveSaid, live_held, live_listed, newest_held, said_behind, said_taken, taken_length}

-- ---- a table made of what was said

-- The table has the live rows of these commits, and what the newest metadata among them says of its columns.
pub record IsMade (said : List DeltaCommit) (table : Table) : Type 0 where
  pub meta : MetaData
  pub newest : IsNewestPart (λ (d : DeltaCommit). d.meta) said meta
  pub schema : Spells meta table.schema
  pub partition : table.partition ≡ meta.partition
  pub columns : PartColumns
  pub kinds : ArePartColumns table.schema table.partition columns
  pub rows : (row : Row) → Contains table.rows row ↔ IsLive columns said row

-- nothing was said before the first table
abbrev pub IsMadeOf : List DeltaCommit → Option Table → Type 0
IsMadeOf said None = said ≡ []
IsMadeOf said (Some t) = IsMade said t

-- ---- one commit more

pub newest_last : (said : List DeltaCommit) (c : DeltaCommit) (m : MetaData) → c.meta ≡ Some m → IsNewestPart (λ (d : DeltaCommit). d.meta) (said ++ c ∷ []) m
newest_last said c m is = record { front = said; commit = c; later = []; split = refl; is = is; newest = All-nil (λ (d : DeltaCommit). d.meta ≡ None) }

pub newest_before : (said : List DeltaCommit) (c : DeltaCommit) (m : MetaData) → c.meta ≡ None → IsNewestPart (λ (d : DeltaCommit). d.meta) said m → IsNewestPart (λ (d : DeltaCommit). d.meta) (said ++ c ∷ []) m
newest_before said c m none was = record {
  front = was.front;
  commit = was.commit;
  later = was.later ++ c ∷ [];
  split = ap (λ l. l ++ c ∷ []) was.split ∙ append_assoc was.front (was.commit ∷ was.later) (c ∷ []);
  is = was.is;
  newest = All-push (λ (d : DeltaCommit). d.meta ≡ None) was.later c was.newest none;
}

none_live : (columns : PartColumns) (row : Row) → IsLive columns [] row → ⊥
none_live columns row live = none_longer live.front live.commit live.behind live.split
  where
    none_longer : (front : List DeltaCommit) (x : DeltaCommit) (behind : List DeltaCommit) → [] ≡ front ++ x ∷ behind → ⊥
    none_longer [] x behind e = cc
    none_longer (z ∷ front) x behind e = cc

made_first : (c : DeltaCommit) (next : Table) → IsStep c None next → IsMade (c ∷ []) next
made_first c next step = by c.meta refl step.schema step.partition
  where
    rows : (row : Row) → Contains next.rows row ↔ IsLive step.columns (c ∷ []) row
    rows row =
        let live = live_behind step.columns [] c [] (λ r. ((λ there. absurd (Contains-none r there)), (λ live. absurd (none_live step.columns r live)))) row in
        ((λ there. live.0 ((step.rows.rows row).0 there)), (λ is. (step.rows.rows row).1 (live.1 is)))

    by : (o : Option MetaData) → c.meta ≡ o → IsSchemaBehind o None next.schema → next.partition ≡ partition_behind o None → IsMade (c ∷ []) next
    by None is schema partition = absurd (step.grammar (inl (refl, inr is)))
    by (Some m) is schema partition = record {
      meta = m;
      newest = newest_last [] c m is;
      schema = schema;
      partition = partition;
      columns = step.columns;
      kinds = step.kinds;
      rows = rows;
    }

made_next : (said : List DeltaCommit) (c : DeltaCommit) (t next : Table) → IsMade said t → IsStep c (Some t) next → IsMade (said ++ c ∷ []) next
made_next said c t next was step = by c.meta refl step.schema step.partition
  where
    same : step.columns ≡ was.columns
    same = columns_stay c t next was.columns step was.kinds

    rows : (row : Row) → Contains next.rows row ↔ IsLive step.columns (said ++ c ∷ []) row
    rows row =
        let live = live_behind step.columns said c t.rows (subst (λ cs. (r : Row) → Contains t.rows r ↔ IsLive cs said r) (sym same) was.rows) row in
        ((λ there. live.0 ((step.rows.rows row).0 there)), (λ is. (step.rows.rows row).1 (live.1 is)))

    by : (o : Option MetaData) → c.meta ≡ o → IsSchemaBehind o (Some t) next.schema → next.partition ≡ partition_behind o (Some t) → IsMade (said ++ c ∷ []) next
    by None is schema partition = record {
      meta = was.meta;
      newest = newest_before said c was.meta is was.newest;
      schema = subst (Spells was.meta) (sym schema) was.schema;
      partition = partition ∙ was.partition;
      columns = step.columns;
      kinds = step.kinds;
      rows = rows;
    }
    by (Some m) is schema partition = record {
      meta = m;
      newest = newest_last said c m is;
      schema = schema;
      partition = partition;
      columns = step.columns;
      kinds = step.kinds;
      rows = rows;
    }

made_one : (said : List DeltaCommit) (c : DeltaCommit) (base : Option Table) (next : Table) → IsMadeOf said base → IsStep c base next → IsMade (said ++ c ∷ []) next
made_one said c None next was step = subst (λ l. IsMade (l ++ c ∷ []) next) (sym was) (made_first c next step)
made_one said c (Some t) next was step = made_next said c t next was step

-- ---- one that stands for several

live_only : (columns : PartColumns) (commits : List DeltaCommit) (row : Row) → IsLiveOver columns [] commits row → IsLive columns commits row
live_only columns commits row (inl live) = live
live_only columns commits row (inr kept) = absurd (Contains-none row kept.0)

made_for : (said more : List DeltaCommit) (c : DeltaCommit) (next : Table) → StandsFor more c → IsMade (said ++ c ∷ []) next → IsMade (said ++ more) next
made_for said more c next stands was = record {
  meta = was.meta;
  newest = (stands.meta said was.meta).0 was.newest;
  schema = was.schema;
  partition = was.partition;
  columns = was.columns;
  kinds = was.kinds;
  rows = λ row. (
    (λ there. live_only was.columns (said ++ more) row ((stands.rows was.columns [] said row).0 (inl ((was.rows row).0 there)))),
    (λ live. (was.rows row).1 (live_only was.columns (said ++ c ∷ []) row ((stands.rows was.columns [] said row).1 (inl live)))),
  );
}

-- a commit stands for itself
stands_alone : (c : DeltaCommit) → StandsFor (c ∷ []) c
stands_alone c = record {
  rows = λ columns origin before row. ((λ live. live), (λ live. live));
  protocol = λ before p. ((λ newest. newest), (λ newest. newest));
  meta = λ before m. ((λ newest. newest), (λ newest. newest));
}

-- ---- all of them

-- So many versions have said what makes this table.
pub record IsMadeBefore (files : Files) (count : ℕ) (last : Option Table) : Type 0 where
  pub said : List DeltaCommit
  pub have : HaveSaid files 0 said
  pub many : length said ≡ count
  pub made : IsMadeOf said last

-- the table is the one that these versions stand for
pub before_of : (files : Files) (count : ℕ) (t : Table) → IsMadeBefore files count (Some t) → IsTableBefore files count t
before_of files count t h = subst (λ n. IsTableBefore files n t) h.many (record {
  meta = h.made.meta;
  newest = newest_held (λ (d : DeltaCommit). d.meta) files h.said h.made.meta h.have h.made.newest;
  schema = h.made.schema;
  partition = h.made.partition;
  live = record {
    columns = h.made.columns;
    kinds = h.made.kinds;
    rows = λ row. (
      (λ there. live_held files h.made.columns h.said row h.have ((h.made.rows row).0 there)),
      (λ live. (h.made.rows row).1 (live_listed files h.made.columns h.said row h.have live)),
    );
  };
})

pub more_made : (files : Files) (count more : ℕ) (base : Option Table) (c : DeltaCommit) (next : Table) (said : List DeltaCommit) → IsMadeBefore files count base → IsStep c base next → HaveSaid files count said → length said ≡ more → StandsFor said c
    → IsMadeBefore files (count + more) (Some next)
more_made files count more base c next said h step have len stands = record {
  said = h.said ++ said;
  have = said_behind files 0 h.said said h.have (let many = h.many in let place : count ≡ 0 + length h.said = omega (arith, many) in subst (λ v. HaveSaid files v said) place have);
  many = length-append h.said said ∙ (let many = h.many in omega (arith, many, len));
  made = made_for h.said said c next stands (made_one h.said c base next h.made step);
}

-- how many versions stand before one of the files
abbrev pub versions_before : ℕ → ℕ → ℕ
versions_before blocks part = part + 9 * min part blocks

none_made : (files : Files) → IsMadeBefore files 0 None
none_made files = record { said = []; have = tt; many = refl; made = refl }

module _ (files : Files) (head blocks : ℕ) (compacted : AllCompacted files head) (are : AreBlocksOf head blocks) (within : head ≤ MAX_DELTA_VERSION) where
  -- a block's log compaction
  made_block : (part : ℕ) (path : List ℕ) (base : Option Table) (c : DeltaCommit) (next : Table) → part < blocks → IsBlockPath path part → SaysFile files path c → IsStep c base next
      → IsMadeBefore files (versions_before blocks part) base → IsMadeBefore files (versions_before blocks (suc part)) (Some next)
  made_block part path base c next under is says step was =
      let inside = block_under head blocks part are under in
      let h = compacted part inside in
      let same : path ≡ h.there.path = one_path part path h.there.path (omega (arith, inside, within)) is h.there.is in
      let text : says.bytes ≡ h.text = same_Some says.bytes h.text (sym says.there ∙ ap (map.get files) same ∙ h.there.there) in
      let readable = subst (λ b. IsReadableCommit b c) text says.readable in
      let first : versions_before blocks part ≡ 10 * part = omega (arith, under) in
      let count : versions_before blocks part + 10 ≡ versions_before blocks (suc part) = omega (arith, under) in
      subst (λ n. IsMadeBefore files n (Some next)) count
      (more_made files (versions_before blocks part) 10 base c next h.said was step
      (subst (λ v. HaveSaid files v h.said) (sym first) (said_taken files (10 * part) h.commits h.said h.held.there h.taken))
      (taken_length h.commits h.said h.taken ∙ h.held.count) (agreeing_stands h.commits h.text h.agrees h.said c h.taken readable))

  -- a version behind the last block
  made_version : (part : ℕ) (path : List ℕ) (base : Option Table) (c : DeltaCommit) (next : Table) → blocks ≤ part → IsVersionPath path (9 * blocks + part) → SaysFile files path c → IsStep c base next
      → IsMadeBefore files (versions_before blocks part) base → IsMadeBefore files (versions_before blocks (suc part)) (Some next)
  made_version part path base c next behind is says step was =
      let first : 9 * blocks + part ≡ versions_before blocks part = omega (arith, behind) in
      let count : versions_before blocks part + 1 ≡ versions_before blocks (suc part) = omega (arith, behind) in
      let said : SaysCommit files (9 * blocks + part) c = record { bytes = says.bytes; holds = record { path = path; is = is; there = says.there }; readable = says.readable } in
      subst (λ n. IsMadeBefore files n (Some next)) count
      (more_made files (versions_before blocks part) 1 base c next (c ∷ []) was step (subst (λ v. SaysCommit files v c) first said, tt) refl (stands_alone c))

  pub made_parts : (part : ℕ) (last : Option Table) → AreReadParts files blocks part last → IsMadeBefore files (versions_before blocks part) last
  made_parts zero last read =
      let none : 0 ≡ versions_before blocks 0 = omega arith in
      subst (λ n. IsMadeBefore files n last) none (subst (IsMadeBefore files 0) (sym read) (none_made files))
  made_parts (suc part) last read =
      let was = made_parts part read.0 read.1 in
      let says = read.5.1 in
      let step = read.5.2.0 in
      subst (IsMadeBefore files (versions_before blocks (suc part))) (sym read.6)
      (⊎_elim
      (λ (block : (part < blocks) × IsBlockPath read.2 part). made_block part read.2 read.0 read.5.0 read.4 block.0 block.1 says step was)
      (λ (version : (blocks ≤ part) × IsVersionPath read.2 (9 * blocks + part)). made_version part read.2 read.0 read.5.0 read.4 version.0 version.1 says step was)
      read.3)

  -- all that are read
  pub table_of_parts : (t : Table) → AreReadParts files blocks (part_count head blocks) (Some t) → IsTableBefore files (head + 1) t
  table_of_parts t read =
      let all = are.all in
      let count : versions_before blocks (part_count head blocks) ≡ head + 1 = omega (arith, all) in
      before_of files (head + 1) t (subst (λ n. IsMadeBefore files n (Some t)) count (made_parts (part_count head blocks) (Some t) read))

-- ---- as the versions alone make it

pub log_made : (files : Files) (count : ℕ) (last : Option Table) → IsReadLog files count last → IsMadeBefore files count last
log_made files zero last log = subst (IsMadeBefore files 0) (sym log) (none_made files)
log_made files (suc version) last log =
    let was = log_made files version log.0 log.1 in
    let count : version + 1 ≡ suc version = omega arith in
    subst (IsMadeBefore files (suc version)) (sym log.6)
    (subst (λ n. IsMadeBefore files n (Some log.4)) count (more_made files version 1 log.0 log.2 log.4 (log.2 ∷ []) was log.5.0 (log.3, tt) refl (stands_alone log.2)))

pub table_of_log : (files : Files) (count : ℕ) (t : Table) → IsReadLog files count (Some t) → IsTableBefore files count t
table_of_log files count t log = before_of files count t (log_made files count (Some t) log)

-- ---- one table

meta_none : (m : MetaData) (o : Option MetaData) → o ≡ Some m → o ≡ None → ⊥
meta_none m o is none = cc

pub one_meta : (files : Files) (count : ℕ) (m n : MetaData) → IsNewestMeta files count m → IsNewestMeta files count n → m ≡ n
one_meta files count m n x y = ⊎_elim
    (λ (here : x.version ≡ y.version).
    let same = says_once files y.version x.commit y.commit (subst (λ v. SaysCommit files v x.commit) here x.says) y.says in
    same_Some m n (sym x.is ∙ ap (λ (c : DeltaCommit). c.meta) same ∙ y.is))
    (λ (apart : x.version ≡ y.version → ⊥). ⊎_elim
    (λ (less : x.version < y.version). absurd (meta_none n y.commit.meta y.is (x.last y.version y.commit less y.within y.says)))
    (λ (most : y.version ≤ x.version). absurd (meta_none m x.commit.meta x.is (y.last x.version x.commit (omega (arith, most, apart)) x.within x.says)))
    (cases_lt x.version y.version))
    (cases_eq x.version y.version)

-- Versions stand for one table, but for the order of its rows.
pub record IsSame (a b : Table) : Type 0 where
  pub schema : a.schema ≡ b.schema
  pub partition : a.partition ≡ b.partition
  pub rows : SameRows a.rows b.rows

pub one_table : (files : Files) (count : ℕ) (a b : Table) → IsTableBefore files count a → IsTableBefore files count b → IsSame a b
one_table files count a b x y =
    let meta = one_meta files count x.meta y.meta x.newest y.newest in
    let schema : a.schema ≡ b.schema = one_schema y.meta a.schema b.schema (subst (λ m. Spells m a.schema) meta x.schema) y.schema in
    let partition : a.partition ≡ b.partition = x.partition ∙ ap (λ (m : MetaData). m.partition) meta ∙ sym y.partition in
    let mine = subst (λ s. ArePartColumns s b.partition x.live.columns) schema (subst (λ p. ArePartColumns a.schema p x.live.columns) partition x.live.kinds) in
    let columns : x.live.columns ≡ y.live.columns = same_columns b.schema b.schema b.partition x.live.columns y.live.columns mine y.live.kinds (one_kind b.schema b.partition) in
    record {
      schema = schema;
      partition = partition;
      rows = λ row. (
        (λ there. (y.live.rows row).1 (subst (λ cs. IsLiveBefore files count cs row) columns ((x.live.rows row).0 there))),
        (λ there. (x.live.rows row).1 (subst (λ cs. IsLiveBefore files count cs row) (sym columns) ((y.live.rows row).0 there))),
      );
    }
