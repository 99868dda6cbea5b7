-- What stands in the JSON of a type, by its parts.
use Rattle.std.proofs.Common.{◌≡◌, ◌⊎◌, ℕ, zero, suc, ◌++◌, ℤ, List, [], ◌∷◌, Some, None, codes, refl, sym, ap, subst, ◌∙◌, append_assoc, inl, inr, ⊎_elim}
use Rattle.serde_json.specs.Data.{Data, string}
use Rattle.schema_map.specs.Paths.{Path}
use Rattle.schema_map.specs.Places.{IsWithin, IsNamed}
use Rattle.schema_map.proofs.Failing.{not_word}
use Rattle.schema_map.proofs.Places.{two_words}
use Rattle.schema_iceberg.specs.IcebergRefusal.{IsIcebergPart, IsBadIcebergType, IsOtherIcebergType}
use Rattle.iceberg_metadata.specs.declared.outline.Outline.{Outline}
use Rattle.iceberg_schemas.specs.SchemaOutlines.{IsNamedPart, HasColumn}
use Rattle.iceberg_schemas.proofs.FactLemmas.{Fact, Adds, adds_as}

-- ---- words apart

pub struct_list : (d : Data) → IsNamed (codes "struct") d → IsNamed (codes "list") d → ⊥
struct_list d a b = not_word (codes "struct") (codes "list") refl (two_words d (codes "struct") (codes "list") a b)

pub list_map : (d : Data) → IsNamed (codes "list") d → IsNamed (codes "map") d → ⊥
list_map d a b = not_word (codes "list") (codes "map") refl (two_words d (codes "list") (codes "map") a b)

pub no_string : (w word : List ℕ) → IsNamed word (string w) → ⊥
no_string w word h = absurd cc

-- ---- places

abbrev pub HasBad : Data → Type 0
HasBad d = (k : ℕ) × (p : Data) × IsWithin IsIcebergPart k d p × IsBadIcebergType p

abbrev pub HasOther : Data → Type 0
HasOther d = (k : ℕ) × (p : Data) × IsWithin IsIcebergPart k d p × IsOtherIcebergType p

pub bad_here : (d : Data) → IsBadIcebergType d → HasBad d
unfolding IsWithin
bad_here d bad = (0, d, refl, bad)

pub bad_part : (d part : Data) → IsIcebergPart d part → HasBad part → HasBad d
unfolding IsWithin
bad_part d part is bad = (suc bad.0, bad.1, (part, is, bad.2), bad.3)

pub bad_inside : (d : Data) → HasBad d → IsBadIcebergType d ⊎ ((part : Data) × IsIcebergPart d part × HasBad part)
unfolding IsWithin
bad_inside d bad = by bad.0 bad.1 bad.2 bad.3
  where
    by : (k : ℕ) (p : Data) → IsWithin IsIcebergPart k d p → IsBadIcebergType p → IsBadIcebergType d ⊎ ((part : Data) × IsIcebergPart d part × HasBad part)
    by zero p within is = inl (subst IsBadIcebergType (sym within) is)
    by (suc k) p within is = inr (within.0, within.1, (k, p, within.2, is))

pub other_here : (d : Data) → IsOtherIcebergType d → HasOther d
unfolding IsWithin
other_here d other = (0, d, refl, other)

pub other_part : (d part : Data) → IsIcebergPart d part → HasOther part → HasOther d
unfolding IsWithin
other_part d part is other = (suc other.0, other.1, (part, is, other.2), other.3)

pub other_inside : (d : Data) → HasOther d → IsOtherIcebergType d ⊎ ((part : Data) × IsIcebergPart d part × HasOther part)
unfolding IsWithin
other_inside d other = by other.0 other.1 other.2 other.3
  where
    by : (k : ℕ) (p : Data) → IsWithin IsIcebergPart k d p → IsOtherIcebergType p → IsOtherIcebergType d ⊎ ((part : Data) × IsIcebergPart d part × HasOther part)
    by zero p within is = inl (subst IsOtherIcebergType (sym within) is)
    by (suc k) p within is = inr (within.0, within.1, (k, p, within.2, is))

-- ---- parts

pub part_of : (d : Data) (name : List ℕ) (id : ℤ) (part : Data) → IsNamedPart d name id part → IsIcebergPart d part
part_of d name id part (inl s) = inl (s.0, s.1, s.2, s.3, s.4, s.7)
part_of d name id part (inr (inl l)) = inr (inl (l.0, l.3))
part_of d name id part (inr (inr (inl k))) = inr (inr (k.0, inl k.3))
part_of d name id part (inr (inr (inr v))) = inr (inr (v.0, inr v.3))

-- ---- facts of a type at a column path

abbrev pub Facts : Path → Data → Fact → Type 0
Facts prefix d None = HasOther d
Facts prefix d (Some column) = (rest : Path) × (column.0 ≡ prefix ++ rest) × HasColumn rest column.1 d

-- those of a part: its own column, and what stands inside it
abbrev pub PartFacts : Path → List ℕ → ℤ → Data → Fact → Type 0
PartFacts prefix name id part f = (f ≡ Some (prefix ++ name ∷ [], id)) ⊎ Facts (prefix ++ name ∷ []) part f

abbrev pub InParts : Path → Data → Fact → Type 0
InParts prefix d f = (name : List ℕ) × (id : ℤ) × (part : Data) × IsNamedPart d name id part × PartFacts prefix name id part f

-- Each part has a name and an id.
abbrev pub AreNamed : Data → Type 0
AreNamed d = (part : Data) → IsIcebergPart d part → (name : List ℕ) × (id : ℤ) × IsNamedPart d name id part

pub to_facts : (prefix : Path) (d : Data) (f : Fact) → InParts prefix d f → Facts prefix d f
to_facts prefix d None p = ⊎_elim (λ e. absurd (let wrong : None ≡ Some (prefix ++ p.0 ∷ [], p.1) = e in cc)) (λ inside. other_part d p.2 (part_of d p.0 p.1 p.2 p.3) inside) p.4
to_facts prefix d (Some column) p =
    ⊎_elim
    (λ e. let same : column ≡ (prefix ++ p.0 ∷ [], p.1) = cc in
    (p.0 ∷ [], ap (λ x. x.0) same, (p.1, p.2, p.3, inl (refl, sym (ap (λ x. x.1) same)))))
    (λ inside. (p.0 ∷ inside.0, inside.1 ∙ append_assoc prefix (p.0 ∷ []) inside.0, (p.1, p.2, p.3, inr inside.2)))
    p.4

pub from_facts : (prefix : Path) (d : Data) → AreNamed d → (f : Fact) → Facts prefix d f → (IsOtherIcebergType d × (f ≡ None)) ⊎ InParts prefix d f
from_facts prefix d named None h =
    ⊎_elim (λ other. inl (other, refl)) (λ inside. let is = named inside.0 inside.1 in inr (is.0, is.1, inside.0, is.2, inr inside.2)) (other_inside d h)
from_facts prefix d named (Some column) h = by h.0 h.1 h.2
  where
    by : (rest : Path) → column.0 ≡ prefix ++ rest → HasColumn rest column.1 d → (IsOtherIcebergType d × (Some column ≡ None)) ⊎ InParts prefix d (Some column)
    by [] at has = absurd has
    by (name ∷ rest) at has =
        ⊎_elim
        (λ here. let end : column.0 ≡ prefix ++ name ∷ [] = at ∙ ap (λ r. prefix ++ name ∷ r) here.0 in
        inr (name, has.0, has.1, has.2, inl (λ i. Some (end i, sym here.1 i))))
        (λ inside. inr (name, has.0, has.1, has.2, inr (rest, at ∙ sym (append_assoc prefix (name ∷ []) rest), inside)))
        has.3

-- ---- a type that was gone over

abbrev pub IsGood : Data → Type 0
IsGood d = HasBad d → ⊥

pub record Walked (prefix : Path) (d : Data) (one other : Outline) : Type 0 where
  pub good : IsGood d
  pub adds : Adds (Facts prefix d) one other

-- by its parts, where it is of a type with parts
pub walked_parts : (prefix : Path) (d : Data) (one other : Outline) → (IsBadIcebergType d → ⊥) → (IsOtherIcebergType d → ⊥) → AreNamed d → ((part : Data) → IsIcebergPart d part → IsGood part) → Adds (InParts prefix d) one other → Walked prefix d one other
walked_parts prefix d one other own known named parts adds =
    record {
      good = λ bad. ⊎_elim own (λ inside. parts inside.0 inside.1 inside.2) (bad_inside d bad);
      adds = adds_as (InParts prefix d) (Facts prefix d) one other adds (to_facts prefix d) (λ f h. ⊎_elim (λ is. absurd (known is.0)) (λ p. p) (from_facts prefix d named f h));
    }

pub same_part : (prefix : Path) (n m : List ℕ) (i j : ℤ) (p q : Data) (f : Fact) → n ≡ m → i ≡ j → p ≡ q → PartFacts prefix n i p f → PartFacts prefix m j q f
same_part prefix n m i j p q f names ids parts h =
    subst (λ x. PartFacts prefix m j x f) parts (subst (λ x. PartFacts prefix m x p f) ids (subst (λ x. PartFacts prefix x i p f) names h))
