-- The JSON value that a `Node` stands for (RFC 8259).
use Rattle.std.specs.Prelude.{ℕ, List, [], ◌∷◌, map}
use Rattle.std.specs.Borrow.{Bor}
use Rattle.serde_json.specs.Data.{Num, unsigned, negative, float, Data, null, boolean, number, string, array, object, Items, Members, no_members, member, put}
use Rattle.serde_json.specs.View.{items_of}
use Rattle.json_outline.specs.declared.number.Number.{Number}
use Rattle.json_outline.specs.declared.number.Number.TheVariants.{Unsigned, Negative, Float}
use Rattle.json_outline.specs.declared.node.Node.{Node, fold-Node}
use Rattle.json_outline.specs.declared.node.Node.TheOpen.{Node-F}

abbrev pub number_view : Number → Num
number_view (Unsigned n) = unsigned n
number_view (Negative z) = negative z
number_view (Float x) = float x

-- the members put in one after another, so that of two with one name the later stands
abbrev pub put_all : List (Bor (List ℕ) × Data) → Members → Members
put_all [] ms = ms
put_all (m ∷ rest) ms = put_all rest (put m.0.now m.1 ms)

-- one level, with each value inside already seen as its data
abbrev pub view_step : Node-F Data → Data
view_step Node-F.Null = null
view_step (Node-F.Bool b) = boolean b
view_step (Node-F.Number n) = number (number_view n)
view_step (Node-F.Text s) = string s.now
view_step (Node-F.Array v) = array (items_of v.items)
view_step (Node-F.Object v) = object (put_all v.items no_members)

abbrev pub view : Node → Data
view = fold-Node Data view_step

abbrev pub items_view : List Node → Items
items_view nodes = items_of (map view nodes)

abbrev pub members_view : List (Bor (List ℕ) × Node) → Members
members_view members = put_all (map (λ m. (m.0, view m.1)) members) no_members

-- the members in the order of their names
abbrev pub sorted_view : List (Bor (List ℕ) × Bor Node) → Members
sorted_view [] = no_members
sorted_view (e ∷ es) = member e.0.now (view e.1.now) (sorted_view es)
