-- Laws of the order of keys.
use Rattle.std.proofs.Common.{◌≡◌, ℕ, List, [], ◌∷◌, ◌++◌, append_assoc, Equal, Less, Greater, Ordering, Bor, refl, sym, ap, ◌∙◌}
use Rattle.std.specs.Cmp.{IsTotalOrder}
use Rattle.std.specs.Prelude.{flat_map, map}
use Rattle.std.specs.BTreeMap.{insert_entry}
use Rattle.std.specs.Map.{keys_of, values_of}
use Rattle.std.proofs.lemmas.Grind.{flat_map-append}
use Rattle.std.proofs.lemmas.List.{append-nil}
use Rattle.std.specs.Ordering.{match_ordering}
use Rattle.std.proofs.lemmas.Map.Lookups.{CmpEqualImpliesEq, exact_bytes}
use Rattle.delta_compaction.specs.declared.key.LineKey.{LineKey}
use Rattle.delta_compaction.specs.declared.key.LineKey.TheVariants.{Protocol, MetaData, Transaction, Domain, File}
use Rattle.delta_compaction.specs.Lines.{key_order}
use Rattle.delta_compaction.specs.Kinds.{plain}
use Rattle.delta_compaction.specs.Reconciled.{ended, text_of}
use Rattle.delta_compaction.specs.contracts.key.LineKeyOrd.TheImpl.Laws as laws

pub key_total : IsTotalOrder key_order
key_total = laws.total-law

pub key_exact : CmpEqualImpliesEq key_order
key_exact Protocol Protocol e = refl
key_exact Protocol MetaData e = absurd (cc)
key_exact Protocol (Transaction b) e = absurd (cc)
key_exact Protocol (Domain b) e = absurd (cc)
key_exact Protocol (File b) e = absurd (cc)
key_exact MetaData Protocol e = absurd (cc)
key_exact MetaData MetaData e = refl
key_exact MetaData (Transaction b) e = absurd (cc)
key_exact MetaData (Domain b) e = absurd (cc)
key_exact MetaData (File b) e = absurd (cc)
key_exact (Transaction a) Protocol e = absurd (cc)
key_exact (Transaction a) MetaData e = absurd (cc)
key_exact (Transaction a) (Transaction b) e = ap (λ x. Transaction x) (exact_bytes a b e)
key_exact (Transaction a) (Domain b) e = absurd (cc)
key_exact (Transaction a) (File b) e = absurd (cc)
key_exact (Domain a) Protocol e = absurd (cc)
key_exact (Domain a) MetaData e = absurd (cc)
key_exact (Domain a) (Transaction b) e = absurd (cc)
key_exact (Domain a) (Domain b) e = ap (λ x. Domain x) (exact_bytes a b e)
key_exact (Domain a) (File b) e = absurd (cc)
key_exact (File a) Protocol e = absurd (cc)
key_exact (File a) MetaData e = absurd (cc)
key_exact (File a) (Transaction b) e = absurd (cc)
key_exact (File a) (Domain b) e = absurd (cc)
key_exact (File a) (File b) e = ap (λ x. File x) (exact_bytes a b e)

plain_at : (o : Ordering) (k : LineKey) (v : Bor (List ℕ)) (e : LineKey × Bor (List ℕ)) (es : List (LineKey × Bor (List ℕ))) → plain (insert_entry key_order es k v) ≡ insert_entry key_order (plain es) k v.now
    → plain (match_ordering o ((k, v) ∷ e ∷ es) ((e.0, v) ∷ es) (e ∷ insert_entry key_order es k v)) ≡ match_ordering o ((k, v.now) ∷ (e.0, e.1.now) ∷ plain es) ((e.0, v.now) ∷ plain es) ((e.0, e.1.now) ∷ insert_entry key_order (plain es) k v.now)
plain_at Less k v e es more = refl
plain_at Equal k v e es more = refl
plain_at Greater k v e es more = ap (λ l. (e.0, e.1.now) ∷ l) more

pub plain_put : (es : List (LineKey × Bor (List ℕ))) (k : LineKey) (v : Bor (List ℕ)) → plain (insert_entry key_order es k v) ≡ insert_entry key_order (plain es) k v.now
plain_put [] k v = refl
plain_put (e ∷ es) k v = plain_at (key_order k e.0) k v e es (plain_put es k v)

pub plain_put_by : (m es : List (LineKey × Bor (List ℕ))) (k : LineKey) (v : Bor (List ℕ)) → m ≡ insert_entry key_order es k v → plain m ≡ insert_entry key_order (plain es) k v.now
plain_put_by m es k v e = ap plain e ∙ plain_put es k v

pub keys_plain : (es : List (LineKey × Bor (List ℕ))) → keys_of es ≡ keys_of (plain es)
keys_plain [] = refl
keys_plain (e ∷ es) = ap (λ l. e.0 ∷ l) (keys_plain es)

-- ---- the text of a map's lines

abbrev pub lines_in : List (Bor (Bor (List ℕ))) → List (List ℕ)
lines_in vs = map (λ v. v.now.now) vs

lines_more : (vs : List (Bor (Bor (List ℕ)))) (v : Bor (Bor (List ℕ))) → lines_in (vs ++ v ∷ []) ≡ lines_in vs ++ v.now.now ∷ []
lines_more [] v = refl
lines_more (w ∷ vs) v = ap (λ l. w.now.now ∷ l) (lines_more vs v)

pub text_more : (vs : List (Bor (Bor (List ℕ)))) (v : Bor (Bor (List ℕ))) (a b c : List ℕ) → a ≡ flat_map ended (lines_in vs) → b ≡ a ++ v.now.now → c ≡ b ++ 10 ∷ [] → c ≡ flat_map ended (lines_in (vs ++ v ∷ []))
text_more vs v a b c was one other =
    other ∙ ap (λ l. l ++ 10 ∷ []) one ∙ append_assoc a v.now.now (10 ∷ []) ∙ ap (λ l. l ++ ended v.now.now) was ∙ ap (λ l. flat_map ended (lines_in vs) ++ l) (sym (append-nil (ended v.now.now)))
    ∙ sym (ap (flat_map ended) (lines_more vs v) ∙ flat_map-append ended (lines_in vs) (v.now.now ∷ []))

lines_shown : (vs : List (Bor (Bor (List ℕ)))) → lines_in vs ≡ map (λ (w : Bor (List ℕ)). w.now) (map (λ (v : Bor (Bor (List ℕ))). v.now) vs)
lines_shown [] = refl
lines_shown (v ∷ vs) = ap (λ l. v.now.now ∷ l) (lines_shown vs)

values_plain : (es : List (LineKey × Bor (List ℕ))) → map (λ (w : Bor (List ℕ)). w.now) (values_of es) ≡ values_of (plain es)
values_plain [] = refl
values_plain (e ∷ es) = ap (λ l. e.1.now ∷ l) (values_plain es)

pub text_whole : (vs : List (Bor (Bor (List ℕ)))) (es : List (LineKey × Bor (List ℕ))) (text : List ℕ) → map (λ (v : Bor (Bor (List ℕ))). v.now) vs ≡ values_of es → text ≡ flat_map ended (lines_in vs) → text ≡ text_of (plain es)
text_whole vs es text shown is = is ∙ ap (flat_map ended) (lines_shown vs ∙ ap (map (λ (w : Bor (List ℕ)). w.now)) shown ∙ values_plain es)
