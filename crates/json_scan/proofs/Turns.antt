-- A turn of the loop over the items of an array that are passed, under the conversion to data.
use Rattle.std.proofs.Common.{◌≡◌, ℕ, ◌-◌, ◌<◌, List, Option, Some, None, refl, ap, ◌∙◌}
use Rattle.json.specs.Token.{Token}
use Rattle.json.specs.Json as json
use Rattle.json.specs.Json.{Parse, after_end_array, items}
use Rattle.json.proofs.Grammar.{items_more, left-parse_map}
use Rattle.serde_json.specs.Data.{Data, item}
use Rattle.serde_json.specs.Read.{of_json, of_items, converted}
use Rattle.json_reading.proofs.Turns.{converted_some, with_item}
use Rattle.json_scan.specs.Passing.{behind}

pub behind_none : {A : Type 0} (r : Option (A × List Token)) → behind r ≡ None → r ≡ None
behind_none None e = refl
behind_none (Some q) e = absurd (cc)

module _ (p : Parse json.Json) where
  pub item_read : (n : ℕ) (ts r : List Token) (d : Data) → 0 < n → after_end_array ts ≡ None → converted of_json (p ts) ≡ Some (d, r)
      → behind (converted of_items (items p n ts)) ≡ behind (converted of_items (items p (n - 1) r))
  item_read n ts r d some going e =
      let j = converted_some of_json (p ts) d r e in
      ap (λ o. behind (converted of_items o)) (items_more p n ts r j.0 some going j.1) ∙ ap behind (with_item j.0 d j.2 _) ∙ left-parse_map (item d) _
