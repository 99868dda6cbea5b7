-- The JSON that is written for an instant, token by token: its arrays stand as their runs do.
use Rattle.std.specs.Prelude.{ℕ, List, [], ◌∷◌, map, Option, Some, None}
use Rattle.json.specs.Token.{Token, key, string}
use Rattle.serde_json.specs.Data.{Data, array, object, Members, no_members, member}
use Rattle.serde_json.specs.View.{items_of}
use Rattle.hudi_instant.specs.declared.instant.Instant.{Instant}
use Rattle.hudi_instant.specs.InstantText.{stat_data, runs_by, partition_of, replaced_partition, id_data, extra_data, whole_data}

-- a member for each run, in their order: the array of what stands in it
abbrev pub run_members : {A : Type 0} → (A → Data) → List (List ℕ × List A) → Members
run_members shown [] = no_members
run_members shown (g ∷ gs) = member g.0 (array (items_of (map shown g.1))) (run_members shown gs)

-- the tokens of a member with a text, where there is such
abbrev pub text_tokens : List ℕ → Option (List ℕ) → List Token
text_tokens name None = []
text_tokens name (Some text) = key name ∷ string text ∷ []

abbrev pub written_data : Instant → Data
written_data i = whole_data (extra_data i.mark i.schema) (object (run_members id_data (runs_by replaced_partition i.replaced))) (object (run_members stat_data (runs_by partition_of i.stats)))
