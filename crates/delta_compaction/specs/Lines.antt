-- What the lines of Delta commits are about (Delta protocol, "Actions" and "Action Reconciliation"), and which lines can't stand in a log compaction.
use Rattle.std.specs.Prelude.{◌≡◌, ◌⊎◌, ℕ, ◌<◌, not, List, [], ◌∷◌, map, filter, length, codes, Bool, Option, Some, None, is_some, Contains, if◌then◌else◌}
use Rattle.std.specs.List.{list_all}
use Rattle.std.specs.declared.cmp.Ordering.{Ordering}
use Rattle.percent_encoding.specs.Percent.{percent_decode}
use Rattle.serde_json.specs.Data.{Data, object}
use Rattle.serde_json.specs.Find.{as_null}
use Rattle.json_reading.specs.Json.{json, present, text_member, pairs}
use Rattle.delta_log.specs.Grammar.{is_space}
use Rattle.delta_compaction.specs.declared.key.LineKey.{LineKey}
use Rattle.delta_compaction.specs.declared.key.LineKey.TheVariants as key
use Rattle.delta_compaction.specs.contracts.key.LineKeyOrd.TheImpl as line_key_ord

-- the order of what lines are about: the protocol, the metadata, transactions, domains, and files, in byte order of their texts
abbrev pub key_order : LineKey → LineKey → Ordering
key_order = (line_key_ord.ghosts).cmp

-- the JSON of a line that isn't blank
abbrev pub line_json : List ℕ → Option Data
line_json line = if list_all is_space line then None else json line

-- The line is an object that has this member, and it isn't null.
abbrev pub HasMember : List ℕ → List ℕ → Data → Type 0
HasMember line name member = (d : Data) × (line_json line ≡ Some d) × (present name d ≡ Some member)

-- The line adds or removes the file of this URI.
abbrev pub ActsOnUri : List ℕ → List ℕ → Type 0
ActsOnUri line uri = (m : Data) × (HasMember line (codes "add") m ⊎ HasMember line (codes "remove") m) × (text_member (codes "path") m ≡ Some uri)

-- The line is about this.
abbrev pub IsAbout : List ℕ → LineKey → Type 0
IsAbout line key.Protocol = (m : Data) × HasMember line (codes "protocol") m
IsAbout line key.MetaData = (m : Data) × HasMember line (codes "metaData") m
IsAbout line (key.Transaction app) = (m : Data) × HasMember line (codes "txn") m × (text_member (codes "appId") m ≡ Some app)
IsAbout line (key.Domain domain) = (m : Data) × HasMember line (codes "domainMetadata") m × (text_member (codes "domain") m ≡ Some domain)
IsAbout line (key.File path) = (uri : List ℕ) × ActsOnUri line uri × (path ≡ percent_decode uri)

-- ---- lines that can't stand in a log compaction

abbrev pub is_null : Data → Bool
is_null d = is_some (as_null d)

abbrev pub is_member : List ℕ × Data → Bool
is_member p = not (is_null p.1)

-- the names of the members that aren't null
abbrev pub member_names : Data → List (List ℕ)
member_names (object ms) = map (λ p. p.0) (filter is_member (pairs ms))
member_names _ = []

-- the actions that a log compaction keeps, and those that it leaves out
abbrev pub known_members : List (List ℕ)
known_members =
    codes "protocol" ∷ codes "metaData" ∷ codes "add" ∷ codes "remove" ∷ codes "txn" ∷ codes "domainMetadata" ∷ codes "commitInfo" ∷ codes "cdc" ∷ []

abbrev pub HasOtherMember : Data → Type 0
HasOtherMember d = (name : List ℕ) × Contains (member_names d) name × ¬ Contains known_members name

-- The member is there, and lacks a text of this name.
abbrev pub LacksText : List ℕ → List ℕ → Data → Type 0
LacksText member name d = (m : Data) × (present member d ≡ Some m) × (text_member name m ≡ None)

-- The line has a member other than null whose name isn't known, or two members other than null, or a transaction without an application, or the
-- metadata of a domain without a domain.
abbrev pub IsStray : List ℕ → Type 0
IsStray line =
    (d : Data) × (line_json line ≡ Some d)
    × (HasOtherMember d ⊎ ((1 < length (member_names d)) ⊎ (LacksText (codes "txn") (codes "appId") d ⊎ LacksText (codes "domainMetadata") (codes "domain") d)))
