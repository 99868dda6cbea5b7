-- What loops over arrays and objects use, and that bytes which are JSON are UTF-8.
use Rattle.std.proofs.Common.{◌≡◌, ℕ, ◌+◌, ◌<◌, List, [], ◌∷◌, length, get_or, drop, map, Option, Some, None, Bool, true, false, cond, refl, ap, ◌∙◌, arith, add-one, drop-cons}
use Rattle.std.proofs.lemmas.Str.{IsUtf8-from_is_utf8, is_utf8-from_IsUtf8}
use Rattle.std.specs.Str.{IsUtf8, is_utf8}
use Rattle.serde_json.specs.Data.{Data, no_items, item}
use Rattle.serde_json.specs.Read.{read}
use Rattle.serde_json.specs.View.{view, items_view, items_of}
use Rattle.serde_json.specs.declared.value.Value.{Value}
use Rattle.json_reading.specs.Json.{json, items}

pub json_read : (bytes : List ℕ) (d : Data) → IsUtf8 bytes → read bytes ≡ Some d → json bytes ≡ Some d
json_read bytes d utf8 is = rw (is_utf8-from_IsUtf8 bytes utf8) is

refused : (b : Bool) (o : Option Data) → (b ≡ true → o ≡ None) → cond b o None ≡ None
refused true o none = none refl
refused false o none = refl

pub json_refused : (bytes : List ℕ) → (IsUtf8 bytes → read bytes ≡ None) → json bytes ≡ None
json_refused bytes none = refused (is_utf8 bytes) (read bytes) (λ is. none (IsUtf8-from_is_utf8 bytes is))

-- an array of one item has some
pub one_not_none : (d : Data) → item d no_items ≡ no_items → ⊥
one_not_none d e = absurd cc

pub items-items_of : (ds : List Data) → items (items_of ds) ≡ ds
items-items_of [] = refl
items-items_of (d ∷ ds) = ap (λ es. d ∷ es) (items-items_of ds)

pub items-items_view : (vs : List Value) → items (items_view vs) ≡ map view vs
items-items_view vs = items-items_of (map view vs)

-- the value at a place of an array, and those behind it
pub items-drop : (vs : List Value) (i : ℕ) (v : Value) → i < length vs → v ≡ get_or vs i v → items (items_view (drop i vs)) ≡ view v ∷ items (items_view (drop (i + 1) vs))
items-drop vs i v within is = ap (λ ws. items (items_view ws)) (drop-cons vs i v within) ∙ rw (add-one, ← is)
