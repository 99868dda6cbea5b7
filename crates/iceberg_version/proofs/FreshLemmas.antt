-- What is kept before the first commit.
use Rattle.std.proofs.Common.{◌≡◌, ℕ, List, [], map, true, None, Some, nat_eq, sym, ap, subst, ◌∙◌, slice_get}
use Rattle.std.specs.List.{IsDistinct, list_all}
use Rattle.table_history.specs.History.{IsSoundTable}
use Rattle.table_history.specs.Row.{Row}
use Rattle.table_history.specs.Tables.{empty_table}
use Rattle.table_history.specs.declared.table.Table.{Table}
use Rattle.table_history.proofs.RowListLemmas.{Contains-none}
use Rattle.file_links.specs.Rows.{Entry, OwnedRows, Owns, joined, rows_of}
use Rattle.iceberg_metadata.specs.declared.metadata.Metadata.{Metadata}
use Rattle.iceberg_version.specs.Sound.{AreRowsOf, OwnEachPath, has_content, is_sound_metadata}
use Rattle.iceberg_version.specs.Writing.{no_version}
use Rattle.iceberg_version.specs.declared.kept.KeptManifest.{KeptManifest}
use Rattle.iceberg_version.proofs.Shared.{nothing_twice}

pub fresh_metadata : (id location : List ℕ) (m : Metadata) → m ≡ no_version id location → is_sound_metadata 0 m ≡ true
fresh_metadata id location m is = ap (is_sound_metadata 0) is

pub fresh_contents : (ms : List KeptManifest) → ms ≡ [] → list_all (λ m. has_content m.info) ms ≡ true
fresh_contents ms none = ap (list_all (λ (m : KeptManifest). has_content m.info)) none

pub fresh_owners : (ms : List KeptManifest) → ms ≡ [] → ∥ IsDistinct nat_eq (map (λ m. m.owner) ms) ∥₁
fresh_owners ms none = ∣ subst (λ (l : List KeptManifest). IsDistinct nat_eq (map (λ m. m.owner) l)) (sym none) (nothing_twice nat_eq) ∣₁

pub fresh_table : (partition : List (List ℕ)) (t : Table) → t ≡ empty_table partition → ∥ IsSoundTable t ∥₁
fresh_table partition t is = ∣ subst IsSoundTable (sym is) (record { distinct = nothing_twice _; values = λ row there. absurd (Contains-none row there) }) ∣₁

none_owned : (links : OwnedRows) (owner : ℕ) (e : Entry) → links.owners ≡ [] → Owns links owner e → ⊥
none_owned links owner e none owned = let is : rows_of links owner ≡ None = ap (λ os. joined (slice_get os owner)) none in let both : Some owned.0 ≡ None = sym owned.1 ∙ is in cc

pub fresh_rows : (rows : List Row) (links : OwnedRows) → links.owners ≡ [] → ∥ AreRowsOf rows links ∥₁
fresh_rows rows links none = ∣ (λ owner e owned. absurd (none_owned links owner e none owned)) ∣₁

pub fresh_paths : (links : OwnedRows) → links.owners ≡ [] → OwnEachPath links
fresh_paths links none = λ a b d e owns_d owns_e same. absurd (none_owned links a d none owns_d)
