-- What a schema text has defined so far, as the reading sees it.
use Rattle.std.specs.Prelude.{ℕ, List, [], ◌∷◌}
use Rattle.avro_schema.specs.declared.schema.Schema.{Schema}
use Rattle.avro_schema.specs.declared.definitions.Definitions.{Definitions}
use Rattle.avro_schema.specs.Tree.{tree_of}
use Rattle.avro_schema.specs.Names.{Definition}
use Rattle.avro_schema.specs.Reading.{State}

abbrev pub definitions_of : List (List ℕ × Schema) → List Definition
definitions_of [] = []
definitions_of (e ∷ es) = (e.0, tree_of e.1) ∷ definitions_of es

abbrev pub state_of : Definitions → State
state_of d = record { open_names = d.open_names.items; definitions = definitions_of d.types.entries; budget = d.budget }
