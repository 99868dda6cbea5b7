-- That two commits say the same.
use Rattle.std.proofs.Common.{◌≡◌, ◌↔◌, ℕ, ℤ, List, [], Option, Some, None, Bool, false, Contains, refl, sym, ap, subst, ◌∙◌, ◌+◌, ◌<◌, length, get_or, is_eq, is_lt, nat_cmp, arith}
use Rattle.std.specs.Prelude.{◌&&◌}
use Rattle.std.specs.Ordering.{ordering_reverse}
use Rattle.std.specs.Bool.{Decides}
use Rattle.std.specs.Cmp.{IsStrictWeakOrder}
use Rattle.std.specs.Cmp.Lexicographic.{pointwise, slice_cmp, texts_ties}
use Rattle.std.specs.List.{IsDistinct}
use Rattle.std.specs.List.Sorted.{IsPermutation, IsSortedBy, IsStrictlySortedBy}
use Rattle.std.specs.Option.{option_eq}
use Rattle.std.specs.Str.{bytes_eq}
use Rattle.std.proofs.lemmas.Bool.Decides.{Decides-and, Decides-eqb, Decides-int_eq, Decides-like}
use Rattle.std.proofs.lemmas.Cmp.{nat_list_cmp_total, nat_list_eq_equiv}
use Rattle.std.proofs.lemmas.List.Sorted.{ranks_by, IsPermutation-map, IsPermutation-sym, Contains-permutation}
use Rattle.std.proofs.lemmas.List.{length-map, get_or-map}
use Rattle.std.proofs.lemmas.Map.Keys.{IsDistinct-IsPermutation, apart_from_distinct, sorted_from_all_adjacent}
use Rattle.std.proofs.lemmas.Slice.Eq.{bytes_eq-Decides, slice_eq-Decides}
use Rattle.delta_log.specs.declared.commit.DeltaCommit.{DeltaCommit}
use Rattle.delta_log.specs.declared.commit.FileAction.{FileAction}
use Rattle.delta_log.specs.declared.commit.FileAction.TheVariants as file
use Rattle.delta_log.specs.declared.commit.MetaData.{MetaData}
use Rattle.delta_log.specs.declared.commit.Protocol.{Protocol}
use Rattle.delta_log.specs.Commit.{file_path, file_paths}
use Rattle.delta_compaction.specs.Agreeing.{SaysSame}
use Rattle.delta_compaction.specs.Same.{features_eq, file_eq, files_eq, meta_eq, protocol_eq, setting_eq, settings_eq, value_eq, versions_eq}
use Rattle.delta_compaction.proofs.SortedLemmas.{same_rising}
use Rattle.lake_basics.proofs.Truth.{rising}

-- ---- equality of parts

lists_decide : {A : Type 0} {E : A → A → Bool} → ((a b : A) → Decides (E a b) (a ≡ b)) → (xs ys : List A) → Decides (pointwise E xs ys) (xs ≡ ys)
lists_decide d xs ys = slice_eq-Decides d xs ys (pointwise _ xs ys) refl

option_decides : {A : Type 0} {E : A → A → Bool} → ((a b : A) → Decides (E a b) (a ≡ b)) → (x y : Option A) → Decides (option_eq E x y) (x ≡ y)
option_decides d None None = ((λ e. refl), (λ e. refl))
option_decides d None (Some y) = ((λ e. absurd (cc)), (λ e. absurd (cc)))
option_decides d (Some x) None = ((λ e. absurd (cc)), (λ e. absurd (cc)))
option_decides d (Some x) (Some y) = ((λ e. ap (λ z. Some z) ((d x y).0 e)), (λ e. let same : x ≡ y = cc in (d x y).1 same))

pair_decides : {A B : Type 0} {E : A → A → Bool} {F : B → B → Bool} → ((a b : A) → Decides (E a b) (a ≡ b)) → ((a b : B) → Decides (F a b) (a ≡ b)) → (p q : A × B) → Decides (E p.0 q.0 && F p.1 q.1) (p ≡ q)
pair_decides {A} {B} {E} {F} d e p q =
    Decides-like (E p.0 q.0 && F p.1 q.1) (λ (h : (p.0 ≡ q.0) × (p.1 ≡ q.1)). ap (λ x. (x, p.1)) h.0 ∙ ap (λ y. (q.0, y)) h.1) (λ (h : p ≡ q). (ap (λ x. x.0) h, ap (λ x. x.1) h))
    (Decides-and (E p.0 q.0) (F p.1 q.1) (d p.0 q.0) (e p.1 q.1))

features_decide : (x y : Option (List (List ℕ))) → Decides (features_eq x y) (x ≡ y)
features_decide = option_decides (lists_decide bytes_eq-Decides)

abbrev versions_with : ℤ → ℤ → Option (List (List ℕ)) → Option (List (List ℕ)) → Protocol
versions_with reader writer needed known = record { reader = reader; writer = writer; reader_features = needed; writer_features = known }

versions_decide : (p q : Protocol) → Decides (versions_eq p q) (p ≡ q)
versions_decide p q = Decides-like (versions_eq p q)
    (λ (h : (p.reader ≡ q.reader) × ((p.writer ≡ q.writer) × ((p.reader_features ≡ q.reader_features) × (p.writer_features ≡ q.writer_features)))).
    ap (λ x. versions_with x p.writer p.reader_features p.writer_features) h.0
    ∙ ap (λ x. versions_with q.reader x p.reader_features p.writer_features) h.1.0
    ∙ ap (λ x. versions_with q.reader q.writer x p.writer_features) h.1.1.0
    ∙ ap (λ x. versions_with q.reader q.writer q.reader_features x) h.1.1.1)
    (λ (h : p ≡ q). (ap (λ (x : Protocol). x.reader) h, (ap (λ (x : Protocol). x.writer) h, (ap (λ (x : Protocol). x.reader_features) h, ap (λ (x : Protocol). x.writer_features) h))))
    (Decides-and _ _ (Decides-int_eq p.reader q.reader) (Decides-and _ _ (Decides-int_eq p.writer q.writer)
    (Decides-and _ _ (features_decide p.reader_features q.reader_features) (features_decide p.writer_features q.writer_features))))

protocols_decide : (x y : Option Protocol) → Decides (protocol_eq x y) (x ≡ y)
protocols_decide None None = ((λ e. refl), (λ e. refl))
protocols_decide None (Some q) = ((λ e. absurd (cc)), (λ e. absurd (cc)))
protocols_decide (Some p) None = ((λ e. absurd (cc)), (λ e. absurd (cc)))
protocols_decide (Some p) (Some q) = ((λ e. ap (λ z. Some z) ((versions_decide p q).0 e)), (λ e. let same : p ≡ q = cc in (versions_decide p q).1 same))

setting_decides : (p q : List ℕ × List ℕ) → Decides (setting_eq p q) (p ≡ q)
setting_decides = pair_decides bytes_eq-Decides bytes_eq-Decides

abbrev meta_with : List ℕ → List ℕ → List (List ℕ) → List (List ℕ × List ℕ) → MetaData
meta_with id schema partition configuration = record { id = id; schema = schema; partition = partition; configuration = configuration }

settings_decide : (m n : MetaData) → Decides (settings_eq m n) (m ≡ n)
settings_decide m n = Decides-like (settings_eq m n)
    (λ (h : (m.id ≡ n.id) × ((m.schema ≡ n.schema) × ((m.partition ≡ n.partition) × (m.configuration ≡ n.configuration)))).
    ap (λ x. meta_with x m.schema m.partition m.configuration) h.0
    ∙ ap (λ x. meta_with n.id x m.partition m.configuration) h.1.0
    ∙ ap (λ x. meta_with n.id n.schema x m.configuration) h.1.1.0
    ∙ ap (λ x. meta_with n.id n.schema n.partition x) h.1.1.1)
    (λ (h : m ≡ n). (ap (λ (x : MetaData). x.id) h, (ap (λ (x : MetaData). x.schema) h, (ap (λ (x : MetaData). x.partition) h, ap (λ (x : MetaData). x.configuration) h))))
    (Decides-and _ _ (bytes_eq-Decides m.id n.id) (Decides-and _ _ (bytes_eq-Decides m.schema n.schema)
    (Decides-and _ _ (lists_decide bytes_eq-Decides m.partition n.partition) (lists_decide setting_decides m.configuration n.configuration))))

metas_decide : (x y : Option MetaData) → Decides (meta_eq x y) (x ≡ y)
metas_decide None None = ((λ e. refl), (λ e. refl))
metas_decide None (Some q) = ((λ e. absurd (cc)), (λ e. absurd (cc)))
metas_decide (Some p) None = ((λ e. absurd (cc)), (λ e. absurd (cc)))
metas_decide (Some p) (Some q) = ((λ e. ap (λ z. Some z) ((settings_decide p q).0 e)), (λ e. let same : p ≡ q = cc in (settings_decide p q).1 same))

value_decides : (p q : List ℕ × Option (List ℕ)) → Decides (value_eq p q) (p ≡ q)
value_decides = pair_decides bytes_eq-Decides (option_decides bytes_eq-Decides)

file_decides : (f g : FileAction) → Decides (file_eq f g) (f ≡ g)
file_decides (file.Add p vs size count) (file.Add q ws bytes records) = Decides-like (file_eq (file.Add p vs size count) (file.Add q ws bytes records))
    (λ (h : (p ≡ q) × ((vs ≡ ws) × ((size ≡ bytes) × (count ≡ records)))).
    ap (λ x. file.Add x vs size count) h.0 ∙ ap (λ x. file.Add q x size count) h.1.0 ∙ ap (λ x. file.Add q ws x count) h.1.1.0 ∙ ap (λ x. file.Add q ws bytes x) h.1.1.1)
    (λ (h : file.Add p vs size count ≡ file.Add q ws bytes records). (cc, (cc, (cc, cc))))
    (Decides-and _ _ (bytes_eq-Decides p q) (Decides-and _ _ (lists_decide value_decides vs ws) (Decides-and _ _ (Decides-eqb size bytes) (Decides-eqb count records))))
file_decides (file.Add p vs size count) (file.Remove q) = ((λ e. absurd (cc)), (λ e. absurd (cc)))
file_decides (file.Remove p) (file.Add q ws bytes records) = ((λ e. absurd (cc)), (λ e. absurd (cc)))
file_decides (file.Remove p) (file.Remove q) = ((λ e. ap (λ x. file.Remove x) ((bytes_eq-Decides p q).0 e)), (λ e. let same : p ≡ q = cc in (bytes_eq-Decides p q).1 same))

-- ---- sorted file actions

abbrev pub file_below : FileAction → FileAction → Bool
file_below f g = is_lt (slice_cmp nat_cmp (file_path f) (file_path g))

pub file_below-order : IsStrictWeakOrder file_below
file_below-order = ranks_by nat_list_cmp_total file_path

pub sorted_members : (old new : List FileAction) → IsPermutation old new → (f : FileAction) → Contains new f ↔ Contains old f
sorted_members old new moved f = (Contains-permutation _ _ f (IsPermutation-sym _ _ moved), Contains-permutation _ _ f moved)

nothing : FileAction
nothing = file.Remove []

pub files_rise : (old new : List FileAction) → IsPermutation old new → IsDistinct bytes_eq (file_paths old) → IsSortedBy file_below new → IsStrictlySortedBy (slice_cmp nat_cmp) (file_paths new)
files_rise old new moved apart_old up =
    let distinct : IsDistinct bytes_eq (file_paths new) = IsDistinct-IsPermutation bytes_eq nat_list_eq_equiv.symm _ _ (IsPermutation-map file_path _ _ moved) apart_old in
    sorted_from_all_adjacent nat_list_cmp_total (file_paths new) [] (λ k within.
    let inside : k + 1 < length new = subst (λ n. k + 1 < n) (length-map new file_path) within in
    let before : k < length new = omega arith in
    let x = file_path (get_or new k nothing) in
    let y = file_path (get_or new (k + 1) nothing) in
    let is_x : get_or (file_paths new) k [] ≡ x = get_or-map file_path new k nothing [] before in
    let is_y : get_or (file_paths new) (k + 1) [] ≡ y = get_or-map file_path new (k + 1) nothing [] inside in
    let same : slice_cmp nat_cmp (get_or (file_paths new) k []) (get_or (file_paths new) (k + 1) []) ≡ slice_cmp nat_cmp x y = λ i. slice_cmp nat_cmp (is_x i) (is_y i) in
    let apart : bytes_eq (get_or (file_paths new) k []) (get_or (file_paths new) (k + 1) []) ≡ false = apart_from_distinct bytes_eq (file_paths new) k (k + 1) [] distinct (omega arith) within in
    let not_tied : is_eq (slice_cmp nat_cmp x y) ≡ false = sym (ap is_eq same) ∙ sym (texts_ties (get_or (file_paths new) k []) (get_or (file_paths new) (k + 1) [])) ∙ apart in
    let not_back : is_lt (ordering_reverse (slice_cmp nat_cmp x y)) ≡ false = ap is_lt (sym (nat_list_cmp_total.antisymm y x)) ∙ up k nothing (omega arith) inside in
    same ∙ rising (slice_cmp nat_cmp x y) not_back not_tied)

-- ---- two commits

-- sorted file actions that are the same list have the same members, and the other way round
pub same_files : (xs ys a b : List FileAction) (r : Bool) → ((f : FileAction) → Contains xs f ↔ Contains a f) → ((f : FileAction) → Contains ys f ↔ Contains b f)
    → IsStrictlySortedBy (slice_cmp nat_cmp) (file_paths xs) → IsStrictlySortedBy (slice_cmp nat_cmp) (file_paths ys) → r ≡ files_eq xs ys → Decides r ((f : FileAction) → Contains a f ↔ Contains b f)
same_files xs ys a b r of_a of_b up_x up_y is =
    let decides = slice_eq-Decides file_decides xs ys r is in (
      (λ e f.
          let same = decides.0 e in
          ((λ there. (of_b f).0 (subst (λ l. Contains l f) same ((of_a f).1 there))), (λ there. (of_a f).0 (subst (λ l. Contains l f) (sym same) ((of_b f).1 there))))),
      (λ h. decides.1 (same_rising file_path nat_list_cmp_total xs ys up_x up_y (λ f. ((λ there. (of_b f).1 ((h f).0 ((of_a f).0 there))), (λ there. (of_a f).1 ((h f).1 ((of_b f).0 there))))))),
    )

same_parts : (a b : DeltaCommit) (table files : Bool) → table ≡ (protocol_eq a.protocol b.protocol && meta_eq a.meta b.meta) → Decides files ((f : FileAction) → Contains a.files f ↔ Contains b.files f) → Decides (table && files) (SaysSame a b)
same_parts a b table files is decides =
    let beside : Decides table ((a.protocol ≡ b.protocol) × (a.meta ≡ b.meta)) = subst (λ t. Decides t ((a.protocol ≡ b.protocol) × (a.meta ≡ b.meta))) (sym is) (Decides-and _ _ (protocols_decide a.protocol b.protocol) (metas_decide a.meta b.meta)) in
    Decides-like (table && files) (λ (h : ((a.protocol ≡ b.protocol) × (a.meta ≡ b.meta)) × ((f : FileAction) → Contains a.files f ↔ Contains b.files f)). record { protocol = h.0.0; meta = h.0.1; files = h.1 })
    (λ (h : SaysSame a b). ((h.protocol, h.meta), h.files)) (Decides-and table files beside decides)

-- the same of their file actions, given beside them
pub says_same : (a b : DeltaCommit) (xs ys : List FileAction) → xs ≡ a.files → ys ≡ b.files → (table files : Bool) → table ≡ (protocol_eq a.protocol b.protocol && meta_eq a.meta b.meta) → Decides files ((f : FileAction) → Contains xs f ↔ Contains ys f)
    → Decides (table && files) (SaysSame a b)
says_same a b xs ys is_a is_b table files is decides =
    same_parts a b table files is
    (subst (λ (l : List FileAction). Decides files ((f : FileAction) → Contains a.files f ↔ Contains l f)) is_b (subst (λ (l : List FileAction). Decides files ((f : FileAction) → Contains l f ↔ Contains ys f)) is_a decides))
