-- The mark that a target's commit carries, as JSON (RFC 8259): which commit it stands in, and up to which commit of which source the target then stands.
use Rattle.std.specs.Prelude.{◌≡◌, ◌⊎◌, ℕ, List, Option, Some, None, codes, option_and_then}
use Rattle.serde_json.specs.Data.{Data, number, unsigned, string, object, member, no_members}
use Rattle.serde_json.specs.Read.{read}
use Rattle.json_reading.specs.Json.{text_member, text_or_null_data}
use Rattle.table_history.specs.Words.{kind_named, kind_word}
use Rattle.table_history.specs.declared.kind.Kind.{Kind}
use Rattle.target_core.specs.declared.mark.Mark.{Mark}

-- an object of exactly these six members: version 2, which is written
abbrev pub mark_data : Mark → Data
mark_data m = object
    (member (codes "at") (string m.at)
    (member (codes "by") (string (codes "lakebridge"))
    (member (codes "source") (string (kind_word m.source))
    (member (codes "table") (text_or_null_data m.table)
    (member (codes "to") (string m.to)
    (member (codes "version") (number (unsigned 2)) no_members))))))

-- an object of exactly these five members: version 1, which says nothing of the table
abbrev pub earlier_mark_data : Mark → Data
earlier_mark_data m = object
    (member (codes "at") (string m.at)
    (member (codes "by") (string (codes "lakebridge"))
    (member (codes "source") (string (kind_word m.source))
    (member (codes "to") (string m.to)
    (member (codes "version") (number (unsigned 1)) no_members)))))

-- the JSON is the mark in one of its two versions
abbrev pub IsMarkData : Data → Mark → Type 0
IsMarkData d m = (d ≡ mark_data m) ⊎ ((m.table ≡ None) × (d ≡ earlier_mark_data m))

-- the text is JSON that is the mark
abbrev pub IsMarkText : List ℕ → Mark → Type 0
IsMarkText text m = (d : Data) × (read text ≡ Some d) × IsMarkData d m

-- the mark that a text is, or that it is none
abbrev pub IsMark : List ℕ → Option Mark → Type 0
IsMark text None = (m : Mark) → IsMarkText text m → ⊥
IsMark text (Some m) = IsMarkText text m

-- ---- for the reader

abbrev mark_of : List ℕ → List ℕ → Option (List ℕ) → Kind → Mark
mark_of at to table source = record { at = at; source = source; to = to; table = table }

-- the only mark that JSON may be, if it may be one
abbrev pub candidate : Data → Option Mark
candidate d =
    option_and_then (λ at. option_and_then (λ to. option_and_then (λ word. option_and_then (λ kind. Some (mark_of at to (text_member (codes "table") d) kind))
    (kind_named word)) (text_member (codes "source") d)) (text_member (codes "to") d)) (text_member (codes "at") d)
