-- What the word of a type tells in the JSON of a schema, and how deep the JSON among that of an array nests.
use Rattle.std.proofs.Common.{◌≡◌, ℕ, ◌≤◌, List, true, Some, codes, refl, sym, ap, subst, ◌∙◌, inl, inr, arith}
use Rattle.std.specs.Str.{bytes_eq}
use Rattle.std.proofs.lemmas.Slice.Eq.{bytes_eq-Decides}
use Rattle.serde_json.specs.Data.{Data, Items, no_items, item, depth, items_depth}
use Rattle.json_reading.specs.Json.{text_member, items}
use Rattle.schema_map.specs.Among.{IsAmong}
use Rattle.schema_map.specs.Places.{IsNamed}
use Rattle.schema_map.proofs.Failing.{not_word}

pub named_word : (d : Data) (w name : List ℕ) → text_member (codes "type") d ≡ Some w → bytes_eq w name ≡ true → IsNamed name d
named_word d w name is same = is ∙ ap Some ((bytes_eq-Decides w name).0 same)

pub two_words : (d : Data) (v w : List ℕ) → IsNamed v d → IsNamed w d → Some v ≡ Some w
two_words d v w a b = sym a ∙ b

pub struct_map : (d : Data) → IsNamed (codes "struct") d → IsNamed (codes "map") d → ⊥
struct_map d a b = not_word (codes "struct") (codes "map") refl (two_words d (codes "struct") (codes "map") a b)

pub among_depth : (ds : Items) (x : Data) → IsAmong x (items ds) → depth x ≤ items_depth ds
among_depth no_items x among = absurd among
among_depth (item d ds) x (inl same) = subst (λ y. depth y ≤ items_depth (item d ds)) same (omega arith)
among_depth (item d ds) x (inr later) = let below = among_depth ds x later in omega (arith, below)
