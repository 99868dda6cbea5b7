-- What a file of Avro values gives, from what reading it as a container gave.
use Rattle.std.proofs.Common.{◌≡◌, ℕ, ◌⊎◌, inl, inr, ◌≤◌, List, [], ◌∷◌, length, map, Bool, true, false, Result, Ok, Err, IfOk, IfErr, MatchResult, refl, sym, ap, ◌∙◌, subst, arith}
use Rattle.std.specs.Result.{ForOk}
use Rattle.lake_basics.specs.Outcome.{GivesUnlessMemory, FailsUnlessMemory}
use Rattle.avro_schema.specs.Tree.{SchemaTree, tree_of}
use Rattle.avro_value.specs.ValueTree.{ValueTree, value_tree, value_count, total}
use Rattle.avro_value.proofs.ValueLaws.{size_pos}
use Rattle.avro_container.specs.Format.{Pairs, IsWithin}
use Rattle.avro_container.specs.Laws.{IsRefused, IsThat}
use Rattle.avro_container.specs.declared.container.Container.{Container}
use Rattle.avro_container.specs.declared.error.ContainerError.{ContainerError}
use Rattle.avro_container.specs.declared.error.ContainerError.TheVariants as container
use Rattle.iceberg_manifest.specs.Containers.{Scan, StandsFor, IsRefusedBy, container_error, scan_of}
use Rattle.iceberg_manifest.specs.Errors.{is_memory}
use Rattle.iceberg_manifest.specs.declared.error.ManifestError.{ManifestError}
use Rattle.iceberg_manifest.specs.declared.error.ManifestError.TheVariants as errors

-- what reading a container promises
pub record Reads (limit : ℕ) (bytes : List ℕ) (r : Result Container ContainerError) : Type 0 where
  pub found : IfOk r (λ c. IsWithin limit bytes c.meta (tree_of c.schema) (map value_tree c.values))
  pub only : (meta : Pairs) (t : SchemaTree) (vs : List ValueTree) → IsWithin limit bytes meta t vs → MatchResult r (λ c. IsThat c meta t vs) (λ e. e ≡ container.Memory)
  pub refused : IfErr r (λ e. (e ≡ container.Memory) ⊎ IsRefused limit bytes e)
  pub first : (e : ContainerError) → IsRefused limit bytes e → (r ≡ Err e) ⊎ (r ≡ Err container.Memory)

pub memory_alone : (e : ManifestError) → is_memory e ≡ true → e ≡ errors.Memory
memory_alone errors.Memory h = refl
memory_alone errors.Malformed h = absurd (cc)
memory_alone errors.Codec h = absurd (cc)
memory_alone errors.RowDeletes h = absurd (cc)
memory_alone errors.FileFormat h = absurd (cc)
memory_alone errors.OutsideTable h = absurd (cc)
memory_alone (errors.Limit which) h = absurd (cc)

fails_by : {B : Type 0} (e : ManifestError) (reading : Result B ManifestError) (b : Bool) → is_memory e ≡ b → FailsUnlessMemory b e reading → (e ≡ errors.Memory) ⊎ (reading ≡ Err e)
fails_by e reading true is h = inl (memory_alone e is)
fails_by e reading false is h = inr h

-- an error is want of memory, or what the reading refuses
pub fails : {B : Type 0} (e : ManifestError) (reading : Result B ManifestError) → FailsUnlessMemory (is_memory e) e reading → (e ≡ errors.Memory) ⊎ (reading ≡ Err e)
fails e reading h = fails_by e reading (is_memory e) refl h

pub same_ok : {B : Type 0} (r : Result B ManifestError) (x y : B) → r ≡ Ok x → r ≡ Ok y → x ≡ y
same_ok r x y p q = cc

pub same_err : {B : Type 0} (r : Result B ManifestError) (d e : ManifestError) → r ≡ Err d → r ≡ Err e → d ≡ e
same_err r d e p q = cc

pub clash : {B : Type 0} (r : Result B ManifestError) (x : B) (e : ManifestError) → r ≡ Ok x → r ≡ Err e → ⊥
clash r x e p q = cc

module _ {B : Type 0} (scan : Scan B) (limit : ℕ) (bytes : List ℕ) where
  pub found : (r : Result Container ContainerError) (x : B) → Reads limit bytes r → scan_of scan r ≡ Ok x → StandsFor limit scan bytes x
  found (Ok c) x reads is = record { meta = c.meta; schema = tree_of c.schema; values = map value_tree c.values; container = reads.found; read = is }
  found (Err e) x reads is = absurd (cc)

  -- what a container with these values gives
  scanned : (r : Result Container ContainerError) (meta : Pairs) (t : SchemaTree) (vs : List ValueTree) → MatchResult r (λ c. IsThat c meta t vs) (λ e. e ≡ container.Memory) → (scan_of scan r ≡ scan t vs) ⊎ (scan_of scan r ≡ Err errors.Memory)
  scanned (Ok c) meta t vs that = inl (ap (λ (u : SchemaTree). scan u (map value_tree c.values)) that.schema ∙ ap (scan t) that.values)
  scanned (Err e) meta t vs is = inr (ap (λ (d : ContainerError). Err (container_error d)) is)

  only_by : (res : Result B ManifestError) (reading : Result B ManifestError) (x : B) → GivesUnlessMemory is_memory (λ y. y) res reading → (reading ≡ Ok x) ⊎ (reading ≡ Err errors.Memory) → MatchResult res (λ y. y ≡ x) (λ e. e ≡ errors.Memory)
  only_by (Ok y) reading x h (inl is) = same_ok reading y x h is
  only_by (Ok y) reading x h (inr is) = absurd (clash reading y errors.Memory h is)
  only_by (Err e) reading x h (inl is) = elim (fails e reading h) [
    | inl m ↦ m
    | inr f ↦ absurd (clash reading x e is f)
  ]
  only_by (Err e) reading x h (inr is) = elim (fails e reading h) [
    | inl m ↦ m
    | inr f ↦ same_err reading e errors.Memory f is
  ]

  read_as : (r : Result Container ContainerError) (x : B) → Reads limit bytes r → StandsFor limit scan bytes x → (scan_of scan r ≡ Ok x) ⊎ (scan_of scan r ≡ Err errors.Memory)
  read_as r x reads s = elim (scanned r s.meta s.schema s.values (reads.only s.meta s.schema s.values s.container)) [
    | inl is ↦ inl (is ∙ s.read)
    | inr is ↦ inr is
  ]

  pub only : (r : Result Container ContainerError) (res : Result B ManifestError) (x : B) → Reads limit bytes r → GivesUnlessMemory is_memory (λ y. y) res (scan_of scan r) → StandsFor limit scan bytes x → MatchResult res (λ y. y ≡ x) (λ e. e ≡ errors.Memory)
  only r res x reads h s = only_by res (scan_of scan r) x h (read_as r x reads s)

  refused_as : (r : Result Container ContainerError) (e : ManifestError) → Reads limit bytes r → scan_of scan r ≡ Err e → (e ≡ errors.Memory) ⊎ IsRefusedBy limit scan bytes e
  refused_as (Ok c) e reads is = inr (inr (record { meta = c.meta; schema = tree_of c.schema; values = map value_tree c.values; container = reads.found; read = is }))
  refused_as (Err d) e reads is =
      let same : container_error d ≡ e = cc in
      elim reads.refused [
        | inl m ↦ inl (sym same ∙ ap container_error m)
        | inr flaw ↦ inr (inl (d, flaw, sym same))
      ]

  pub refused : (r : Result Container ContainerError) (res : Result B ManifestError) → Reads limit bytes r → GivesUnlessMemory is_memory (λ y. y) res (scan_of scan r) → IfErr res (λ e. (e ≡ errors.Memory) ⊎ IsRefusedBy limit scan bytes e)
  refused r (Ok x) reads h = tt
  refused r (Err e) reads h = elim (fails e (scan_of scan r) h) [ inl m ↦ inl m | inr f ↦ refused_as r e reads f ]

  first_by : (res : Result B ManifestError) (reading : Result B ManifestError) (e : ManifestError) → GivesUnlessMemory is_memory (λ y. y) res reading → (reading ≡ Err e) ⊎ (reading ≡ Err errors.Memory) → (res ≡ Err e) ⊎ (res ≡ Err errors.Memory)
  first_by (Ok y) reading e h (inl is) = absurd (clash reading y e h is)
  first_by (Ok y) reading e h (inr is) = absurd (clash reading y errors.Memory h is)
  first_by (Err d) reading e h (inl is) = elim (fails d reading h) [
    | inl m ↦ inr (ap Err m)
    | inr f ↦ inl (sym f ∙ is)
  ]
  first_by (Err d) reading e h (inr is) = elim (fails d reading h) [
    | inl m ↦ inr (ap Err m)
    | inr f ↦ inr (sym f ∙ is)
  ]

  flawed : (r : Result Container ContainerError) (d : ContainerError) (e : ManifestError) → e ≡ container_error d → (r ≡ Err d) ⊎ (r ≡ Err container.Memory) → (scan_of scan r ≡ Err e) ⊎ (scan_of scan r ≡ Err errors.Memory)
  flawed r d e is (inl same) = inl (ap (scan_of scan) same ∙ ap Err (sym is))
  flawed r d e is (inr same) = inr (ap (scan_of scan) same)

  refused_by : (r : Result Container ContainerError) (e : ManifestError) → Reads limit bytes r → IsRefusedBy limit scan bytes e → (scan_of scan r ≡ Err e) ⊎ (scan_of scan r ≡ Err errors.Memory)
  refused_by r e reads (inl w) = flawed r w.0 e w.2 (reads.first w.0 w.1)
  refused_by r e reads (inr s) = elim (scanned r s.meta s.schema s.values (reads.only s.meta s.schema s.values s.container)) [
    | inl is ↦ inl (is ∙ s.read)
    | inr is ↦ inr is
  ]

  pub first : (r : Result Container ContainerError) (res : Result B ManifestError) (e : ManifestError) → Reads limit bytes r → GivesUnlessMemory is_memory (λ y. y) res (scan_of scan r) → IsRefusedBy limit scan bytes e → (res ≡ Err e) ⊎ (res ≡ Err errors.Memory)
  first r res e reads h s = first_by res (scan_of scan r) e h (refused_by r e reads s)

  pub found_by : (r : Result Container ContainerError) (res : Result B ManifestError) → Reads limit bytes r → GivesUnlessMemory is_memory (λ y. y) res (scan_of scan r) → IfOk res (StandsFor limit scan bytes)
  found_by r (Ok x) reads h = found r x reads h
  found_by r (Err e) reads h = tt

-- ---- how many values a container has

length_within : {A : Type 0} (f : A → ValueTree) (xs : List A) → length xs ≤ total value_count (map f xs)
length_within f [] = omega arith
length_within f (x ∷ xs) = omega (arith, size_pos (f x), length_within f xs)

pub few_values : (limit : ℕ) (bytes : List ℕ) (r : Result Container ContainerError) → IfOk r (λ c. IsWithin limit bytes c.meta (tree_of c.schema) (map value_tree c.values)) → ForOk r (λ c. length c.values ≤ limit)
few_values limit bytes (Ok c) h x is = let same : c ≡ x = cc in subst (λ (d : Container). length d.values ≤ limit) same (omega (arith, length_within value_tree c.values, h.few))
few_values limit bytes (Err e) h x is = absurd (cc)
