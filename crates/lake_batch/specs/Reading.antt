-- How the form of a batch is read from a TOML document.
use Rattle.std.specs.Prelude.{◌&&◌, ℕ, List, [], ◌∷◌, codes, Option, Some, None, Result, Ok, Err, if◌then◌else◌}
use Rattle.std.specs.Str.{bytes_eq}
use Rattle.toml.specs.Data.{Data, Items, no_items, item, Members, no_members, member, as_array, as_str, as_table}
use Rattle.lake_basics.specs.Outcome.{◌>>=◌, each, required}
use Rattle.lake_batch.specs.declared.batch.Item.{Item}
use Rattle.lake_batch.specs.declared.batch.Why.{Why}
use Rattle.lake_batch.specs.declared.batch.Why.TheVariants.{Shape}

abbrev pub text_in : Data → Result (List ℕ) Why
text_in d = required Shape (as_str d)

abbrev pub list_of : Items → List Data
list_of no_items = []
list_of (item d ds) = d ∷ list_of ds

abbrev pub texts_in : Data → Result (List (List ℕ)) Why
texts_in d = required Shape (as_array d) >>= (λ ds. each text_in (list_of ds))

-- the one member, where there is just one
abbrev pub only_member : Members → Option (List ℕ × Data)
only_member (member k d no_members) = Some (k, d)
only_member _ = None

abbrev pub two_members : Members → Option ((List ℕ × Data) × (List ℕ × Data))
two_members (member k d (member l e no_members)) = Some ((k, d), (l, e))
two_members _ = None

unfoldable pub item_of_members : Option ((List ℕ × Data) × (List ℕ × Data)) → Result Item Why
item_of_members None = Err Shape
item_of_members (Some (command, folder)) =
    if bytes_eq command.0 (codes "command") && bytes_eq folder.0 (codes "folder")
    then texts_in command.1 >>= (λ texts. text_in folder.1 >>= (λ text. Ok (record { folder = text; command = texts })))
    else Err Shape

unfoldable pub item_in : Data → Result Item Why
item_in d = required Shape (as_table d) >>= (λ ms. item_of_members (two_members ms))

abbrev pub items_in : Data → Result (List Item) Why
items_in d = required Shape (as_array d) >>= (λ ds. each item_in (list_of ds))

unfoldable pub tables_of_member : Option (List ℕ × Data) → Result (List Item) Why
tables_of_member None = Err Shape
tables_of_member (Some m) = if bytes_eq m.0 (codes "table") then items_in m.1 else Err Shape

abbrev pub tables_in : Members → Result (List Item) Why
tables_in ms = tables_of_member (only_member ms)
