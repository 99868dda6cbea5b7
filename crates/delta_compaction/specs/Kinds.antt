-- What becomes of each line of a commit, as a function, and the newest lines put together one after another.
use Rattle.std.specs.Prelude.{◌≡◌, ℕ, ◌+◌, ◌||◌, not, List, [], ◌∷◌, ◌++◌, map, length, All, Bool, true, false, Option, Some, None, if◌then◌else◌, codes}
use Rattle.std.specs.BTreeMap.{insert_entry}
use Rattle.std.specs.Borrow.{Bor}
use Rattle.std.specs.Str.{bytes_eq}
use Rattle.serde_json.specs.Data.{Data, null, boolean, number, string, array, object}
use Rattle.json_reading.specs.Json.{present, text_member, pairs}
use Rattle.delta_log.specs.Judging.{is_newline, lines_of}
use Rattle.partition_map.specs.UriPath.{UriPath, inside_table, too_long, outside_table, no_path, uri_path}
use Rattle.delta_compaction.specs.declared.key.LineKey.{LineKey}
use Rattle.delta_compaction.specs.declared.key.LineKey.TheVariants as key
use Rattle.delta_compaction.specs.declared.kind.LineKind.{LineKind}
use Rattle.delta_compaction.specs.declared.kind.LineKind.TheVariants as kind
use Rattle.delta_compaction.specs.Lines.{is_null, key_order, line_json}
use Rattle.delta_compaction.specs.Reconciled.{ended}

-- ---- one line

abbrev pub is_known : List ℕ → Bool
is_known name =
    bytes_eq name (codes "protocol") || (bytes_eq name (codes "metaData") || (bytes_eq name (codes "add") || (bytes_eq name (codes "remove")
    || (bytes_eq name (codes "txn") || (bytes_eq name (codes "domainMetadata") || (bytes_eq name (codes "commitInfo") || bytes_eq name (codes "cdc")))))))

-- Behind a member other than null, if one was seen, there is another, or there is one whose name isn't known.
abbrev pub has_stray : Bool → List (List ℕ × Data) → Bool
has_stray seen [] = false
has_stray seen (p ∷ ps) = if is_null p.1 then has_stray seen ps else (if seen || not (is_known p.0) then true else has_stray true ps)

abbrev pub file_kind : UriPath → LineKind
file_kind (inside_table path) = kind.Kept (key.File path)
file_kind (too_long path) = kind.Dropped
file_kind outside_table = kind.Dropped
file_kind no_path = kind.Dropped

-- the kind of an add or a remove, by its URI
abbrev pub uri_kind : Option (List ℕ) → LineKind
uri_kind None = kind.Dropped
uri_kind (Some uri) = file_kind (uri_path uri)

-- a text that has to be there, with what it names
abbrev pub named_kind : (List ℕ → LineKey) → Option (List ℕ) → LineKind
named_kind named None = kind.Stray
named_kind named (Some name) = kind.Kept (named name)

-- the kind of an object, by those of its members that name what it is about
abbrev pub kind_by : Option Data → Option Data → Option Data → Option Data → Option Data → Option Data → LineKind
kind_by (Some m) meta_data add remove txn domain = kind.Kept key.Protocol
kind_by None (Some m) add remove txn domain = kind.Kept key.MetaData
kind_by None None (Some m) remove txn domain = uri_kind (text_member (codes "path") m)
kind_by None None None (Some m) txn domain = uri_kind (text_member (codes "path") m)
kind_by None None None None (Some m) domain = named_kind (λ app. key.Transaction app) (text_member (codes "appId") m)
kind_by None None None None None (Some m) = named_kind (λ name. key.Domain name) (text_member (codes "domain") m)
kind_by None None None None None None = kind.Dropped

abbrev pub member_kind : Data → LineKind
member_kind d =
    kind_by (present (codes "protocol") d) (present (codes "metaData") d) (present (codes "add") d) (present (codes "remove") d)
    (present (codes "txn") d) (present (codes "domainMetadata") d)

unfoldable pub object_kind : Data → LineKind
object_kind null = kind.Dropped
object_kind (boolean b) = kind.Dropped
object_kind (number n) = kind.Dropped
object_kind (string s) = kind.Dropped
object_kind (array ds) = kind.Dropped
object_kind (object ms) = if has_stray false (pairs ms) then kind.Stray else member_kind (object ms)

abbrev pub json_kind : Option Data → LineKind
json_kind None = kind.Dropped
json_kind (Some d) = object_kind d

unfoldable pub line_kind : List ℕ → LineKind
line_kind line = json_kind (line_json line)

abbrev pub is_stray : LineKind → Bool
is_stray kind.Stray = true
is_stray kind.Dropped = false
is_stray (kind.Kept k) = false

-- ---- lines one after another

abbrev pub put_line : List ℕ → LineKind → List (LineKey × List ℕ) → List (LineKey × List ℕ)
put_line line kind.Stray entries = entries
put_line line kind.Dropped entries = entries
put_line line (kind.Kept k) entries = insert_entry key_order entries k line

-- the entries, with these lines put in by what they are about
abbrev pub with_lines : List (List ℕ) → List (LineKey × List ℕ) → List (LineKey × List ℕ)
with_lines [] entries = entries
with_lines (line ∷ lines) entries = with_lines lines (put_line line (line_kind line) entries)

-- the entries of a map of lines that are borrowed
abbrev pub plain : List (LineKey × Bor (List ℕ)) → List (LineKey × List ℕ)
plain entries = map (λ e. (e.0, e.1.now)) entries

abbrev pub is_file : LineKey → Bool
is_file key.Protocol = false
is_file key.MetaData = false
is_file (key.Transaction app) = false
is_file (key.Domain domain) = false
is_file (key.File path) = true

-- ---- the lines of a commit, read one after another

-- what stands behind a line, with a newline at the end of all
abbrev pub rest_of : Option (List ℕ) → List ℕ
rest_of None = []
rest_of (Some rest) = rest ++ 10 ∷ []

abbrev pub IsOneLine : List ℕ → Type 0
IsOneLine line = All (λ b. is_newline b ≡ false) line

-- The bytes begin with this line, and this stands behind its newline.
pub record IsFirstLine (bytes line : List ℕ) (behind : Option (List ℕ)) : Type 0 where
  pub one : IsOneLine line
  pub split : bytes ++ 10 ∷ [] ≡ ended line ++ rest_of behind

-- no line is stray, and the entries are those before with these lines put in
pub record HasLines (bytes : List ℕ) (before after : List (LineKey × List ℕ)) : Type 0 where
  pub plain : All (λ line. is_stray (line_kind line) ≡ false) (lines_of bytes)
  pub put : after ≡ with_lines (lines_of bytes) before

-- The n-th line is the first stray one, and `upto` is the commit up to its end.
pub record StraysAt (bytes : List ℕ) (n : ℕ) (upto : List ℕ) : Type 0 where
  pub front : List (List ℕ)
  pub line : List ℕ
  pub later : List (List ℕ)
  pub split : lines_of bytes ≡ front ++ line ∷ later
  pub number : n ≡ length front + 1
  pub plain : All (λ l. is_stray (line_kind l) ≡ false) front
  pub stray : is_stray (line_kind line) ≡ true
  pub cut : lines_of upto ≡ front ++ line ∷ []
