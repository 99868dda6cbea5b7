-- The worst form in the parts of a type, and how deep its parts are.
use Rattle.std.proofs.Common.{◌≡◌, ◌⊎◌, ℕ, suc, ◌≤◌, Bool, true, false, cond, List, [], ◌∷◌, Option, Some, None, codes, refl, sym, ap, subst, ◌∙◌, inl, inr, ⊎_elim, arith}
use Rattle.std.specs.Str.{bytes_eq}
use Rattle.serde_json.specs.Data.{Data, array, Items, depth, items_depth}
use Rattle.serde_json.specs.Find.{get}
use Rattle.json_reading.specs.Json.{text_member, list_member, items}
use Rattle.json_reading.proofs.Depth.{get_depth}
use Rattle.schema_delta.specs.DeltaRefusal.{IsDeltaPart}
use Rattle.schema_map.specs.Among.{IsAmong}
use Rattle.schema_map.specs.Places.{IsNamed}
use Rattle.schema_map.proofs.Bound.{was_array}
use Rattle.schema_map.proofs.Places.{named_word, among_depth}
use Rattle.delta_outline.specs.declared.form.Form.{Form}
use Rattle.delta_outline.specs.declared.form.Form.TheVariants.{Known}
use Rattle.delta_outline.specs.Forms.{worse, form_at, member_form, types_form, listed_types, named_parts, parts_form}
use Rattle.delta_outline.proofs.WorseLemmas.{one_of, Below, below_self, below_left, below_right, below_trans}

module _ (part : Data → Form) where
  -- ---- the worst form is that of some part

  abbrev AtMember : List ℕ → Data → Type 0
  AtMember name d = (p : Data) × (get name d ≡ Some p) × (part p ≡ member_form part name d)

  at_member : (name : List ℕ) (d : Data) → (member_form part name d ≡ Known) ⊎ AtMember name d
  at_member name d = at (get name d)
    where
      at : (o : Option Data) → (form_at part o ≡ Known) ⊎ ((p : Data) × (o ≡ Some p) × (part p ≡ form_at part o))
      at None = inl refl
      at (Some p) = inr (p, refl, refl)

  abbrev AtTypes : List Data → Type 0
  AtTypes ds = (field : Data) × (p : Data) × IsAmong field ds × (get (codes "type") field ≡ Some p) × (part p ≡ types_form part ds)

  at_types : (ds : List Data) → (types_form part ds ≡ Known) ⊎ AtTypes ds
  at_types [] = inl refl
  at_types (d ∷ ds) =
      ⊎_elim
      (λ first. ⊎_elim (λ known. inl (first ∙ known)) (λ at. inr (d, at.0, inl refl, at.1, at.2 ∙ sym first)) (at_member (codes "type") d))
      (λ later. ⊎_elim (λ known. inl (later ∙ known)) (λ at. inr (at.0, at.1, inr at.2, at.3, at.4 ∙ sym later)) (at_types ds))
      (one_of (member_form part (codes "type") d) (types_form part ds))

  abbrev AtPart : Data → Form → Type 0
  AtPart d f = (f ≡ Known) ⊎ ((p : Data) × IsDeltaPart d p × (part p ≡ f))

  at_struct : (d : Data) (o : Option Items) → IsNamed (codes "struct") d → list_member (codes "fields") d ≡ o → AtPart d (listed_types part o)
  at_struct d None named is = inl refl
  at_struct d (Some ds) named is = ⊎_elim (λ known. inl known) (λ at. inr (at.1, inl (ds, at.0, named, is, at.2, at.3), at.4)) (at_types (items ds))

  at_array : (d : Data) → IsNamed (codes "array") d → AtPart d (member_form part (codes "elementType") d)
  at_array d named = ⊎_elim (λ known. inl known) (λ at. inr (at.0, inr (inl (named, at.1)), at.2)) (at_member (codes "elementType") d)

  at_map : (d : Data) → IsNamed (codes "map") d → AtPart d (worse (member_form part (codes "keyType") d) (member_form part (codes "valueType") d))
  at_map d named =
      ⊎_elim
      (λ key. ⊎_elim (λ known. inl (key ∙ known)) (λ at. inr (at.0, inr (inr (named, inl at.1)), at.2 ∙ sym key)) (at_member (codes "keyType") d))
      (λ value. ⊎_elim (λ known. inl (value ∙ known)) (λ at. inr (at.0, inr (inr (named, inr at.1)), at.2 ∙ sym value)) (at_member (codes "valueType") d))
      (one_of (member_form part (codes "keyType") d) (member_form part (codes "valueType") d))

  pub parts_at : (d : Data) → AtPart d (parts_form part d)
  parts_at d = by (text_member (codes "type") d) refl
    where
      by : (o : Option (List ℕ)) → text_member (codes "type") d ≡ o → AtPart d (named_parts part o d)
      by None is = inl refl
      by (Some w) is = at (bytes_eq w (codes "struct")) (bytes_eq w (codes "array")) (bytes_eq w (codes "map")) refl refl refl
        where
          at : (a b c : Bool) → bytes_eq w (codes "struct") ≡ a → bytes_eq w (codes "array") ≡ b → bytes_eq w (codes "map") ≡ c
              → AtPart d (cond a (listed_types part (list_member (codes "fields") d)) (cond b (member_form part (codes "elementType") d) (cond c (worse (member_form part (codes "keyType") d) (member_form part (codes "valueType") d)) Known)))
          at true b c ea eb ec = at_struct d (list_member (codes "fields") d) (named_word d w (codes "struct") is ea) refl
          at false true c ea eb ec = at_array d (named_word d w (codes "array") is eb)
          at false false true ea eb ec = at_map d (named_word d w (codes "map") is ec)
          at false false false ea eb ec = inl refl

  -- ---- no part has a worse one

  below_member : (name : List ℕ) (d p : Data) → get name d ≡ Some p → Below (part p) (member_form part name d)
  below_member name d p is = subst (λ o. Below (part p) (form_at part o)) (sym is) (below_self (part p))

  below_types : (ds : List Data) (field p : Data) → IsAmong field ds → get (codes "type") field ≡ Some p → Below (part p) (types_form part ds)
  below_types [] field p among is = absurd among
  below_types (d ∷ ds) field p (inl same) is =
      below_trans (part p) (member_form part (codes "type") d) (types_form part (d ∷ ds)) (below_member (codes "type") d p (ap (get (codes "type")) same ∙ is)) (below_left (member_form part (codes "type") d) (types_form part ds))
  below_types (d ∷ ds) field p (inr later) is =
      below_trans (part p) (types_form part ds) (types_form part (d ∷ ds)) (below_types ds field p later is) (below_right (member_form part (codes "type") d) (types_form part ds))

  named_below : (d p : Data) (word : List ℕ) → IsNamed word d → Below (part p) (named_parts part (Some word) d) → Below (part p) (parts_form part d)
  named_below d p word named h = subst (λ o. Below (part p) (named_parts part o d)) (sym named) h

  pub parts_below : (d p : Data) → IsDeltaPart d p → Below (part p) (parts_form part d)
  parts_below d p (inl s) = named_below d p (codes "struct") s.2 (subst (λ o. Below (part p) (listed_types part o)) (sym s.3) (below_types (items s.0) s.1 p s.4 s.5))
  parts_below d p (inr (inl l)) = named_below d p (codes "array") l.0 (below_member (codes "elementType") d p l.1)
  parts_below d p (inr (inr m)) =
      let key = member_form part (codes "keyType") d in
      let value = member_form part (codes "valueType") d in
      named_below d p (codes "map") m.0
      (⊎_elim (λ is. below_trans (part p) key (worse key value) (below_member (codes "keyType") d p is) (below_left key value))
      (λ is. below_trans (part p) value (worse key value) (below_member (codes "valueType") d p is) (below_right key value)) m.1)

-- ---- depth

pub part_depth : (d p : Data) → IsDeltaPart d p → suc (depth p) ≤ depth d
part_depth d p (inl s) =
    let list : suc (depth (array s.0)) ≤ depth d = get_depth (codes "fields") d (array s.0) (was_array (get (codes "fields") d) s.0 s.3) in
    let field : depth s.1 ≤ items_depth s.0 = among_depth s.0 s.1 s.4 in
    let kind : suc (depth p) ≤ depth s.1 = get_depth (codes "type") s.1 p s.5 in
    omega (arith, list, field, kind)
part_depth d p (inr (inl l)) = get_depth (codes "elementType") d p l.1
part_depth d p (inr (inr m)) = ⊎_elim (λ is. get_depth (codes "keyType") d p is) (λ is. get_depth (codes "valueType") d p is) m.1
