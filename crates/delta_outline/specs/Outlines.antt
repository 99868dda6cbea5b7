-- The outline of a schema's text, and what it tells of the text.
use Rattle.std.specs.Prelude.{◌≡◌, ℕ, List, Bool, true, false, Some, Result, Ok, Err, if◌then◌else◌, codes}
use Rattle.std.specs.Str.{bytes_eq}
use Rattle.serde_json.specs.Data.{Data, Items}
use Rattle.serde_json.specs.Read.{max_depth}
use Rattle.lake_basics.specs.Outcome.{◌>>=◌, required, each}
use Rattle.lake_basics.specs.declared.outcome.ReadError.{ReadError}
use Rattle.lake_basics.specs.declared.outcome.ReadError.TheVariants as read_errors
use Rattle.json_reading.specs.Json.{json, text_member, list_member, items}
use Rattle.schema_delta.specs.DeltaRefusal.{IsBadDeltaSchema, DeltaColumnHasOther, IsDeltaRefused}
use Rattle.schema_map.specs.Places.{field_names}
use Rattle.schema_map.specs.declared.fault.MapError.TheVariants as map_errors
use Rattle.delta_outline.specs.declared.fault.OutlineFault.{OutlineFault}
use Rattle.delta_outline.specs.declared.fault.OutlineFault.TheVariants as fault
use Rattle.delta_outline.specs.declared.form.Form.{Form}
use Rattle.delta_outline.specs.declared.form.Form.TheVariants.{Known, Other, Malformed}
use Rattle.delta_outline.specs.declared.outline.Outline.{Outline}
use Rattle.delta_outline.specs.Forms.{field_name, form}

-- ---- as a function

abbrev pub outlined : Bool → Data → Result Outline OutlineFault
outlined has_other d =
    required fault.Malformed (list_member (codes "fields") d) >>= λ fields. each field_name (items fields) >>= λ names. Ok (record { names = names; has_other = has_other })

abbrev pub outline_by : Form → Data → Result Outline OutlineFault
outline_by Known d = outlined false d
outline_by Other d = outlined true d
outline_by Malformed d = Err fault.Malformed

abbrev pub outline_of : Data → Result Outline OutlineFault
outline_of d = required fault.Malformed (text_member (codes "type") d) >>= λ word. if bytes_eq word (codes "struct") then outline_by (form max_depth d) d else Err fault.Malformed

-- the outline of a text, which is gone over whole
unfoldable pub outline_of_text : List ℕ → Result Outline OutlineFault
outline_of_text text = required fault.Malformed (json text) >>= outline_of

-- ---- what it tells

-- The text is in the grammar; the outline has the names of its fields, and tells whether a column has a place of a type that isn't in the table of types.
pub record IsOutline (text : List ℕ) (o : Outline) : Type 0 where
  pub whole : Data
  pub fields : Items
  pub reads : json text ≡ Some whole
  pub lists : list_member (codes "fields") whole ≡ Some fields
  pub names : o.names ≡ field_names fields
  pub grammar : IsBadDeltaSchema whole → ⊥
  pub other : o.has_other ≡ true → (name : List ℕ) × DeltaColumnHasOther whole name
  pub none : o.has_other ≡ false → (name : List ℕ) → DeltaColumnHasOther whole name → ⊥

-- Memory ran out, or the text isn't in the grammar.
abbrev pub IsNoOutline : List ℕ → ReadError OutlineFault → Type 0
IsNoOutline text read_errors.Memory = Unit {0}
IsNoOutline text (read_errors.Fault f) = IsDeltaRefused text map_errors.BadSchema
