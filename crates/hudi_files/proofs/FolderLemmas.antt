-- What the folder of a file spells, and what the folders of files show.
use Rattle.std.proofs.Common.{◌≡◌, ℕ, ◌+◌, ◌-◌, ◌<◌, nat_le, Bool, true, false, ◌&&◌, if◌then◌else◌, List, [], ◌∷◌, ◌++◌, length, take, drop, get_or, All, Option, Some, None, IfSome, Vec, Bor, Global, refl, sym, ap, ◌∙◌, inr, ⊎_elim, arith}
use Rattle.std.specs.List.{slice_split, onto_first}
use Rattle.std.specs.Option.{option_map, option_and_then, is_some}
use Rattle.std.proofs.lemmas.Bool.{cases_Bool, false_from_ne_true, false≢true}
use Rattle.std.proofs.lemmas.List.{drop_more, get_or-drop, length-append, length-drop, length-map, take-append-drop}
use Rattle.std.proofs.lemmas.List.Elements.{All-from_get_or}
use Rattle.std.proofs.Math.Seq.{take-append_seam}
use Rattle.std.proofs.lemmas.List.Splits.{length-slice_split, slice_split-cons_no, slice_split-cons_yes, slice_split_none}
use Rattle.memchr.specs.Find.{NoneAfter, Passes, is_byte}
use Rattle.table_history.specs.Path.{is_slash}
use Rattle.table_history.specs.declared.feature.Feature.{Feature}
use Rattle.table_history.specs.declared.row.FileRow.{FileRow}
use Rattle.partition_map.specs.Folder.{folder_components, texts_of}
use Rattle.partition_map.specs.declared.kind.PartKind.{PartKind}
use Rattle.partition_map.specs.declared.folder.FolderStyle.{FolderStyle}
use Rattle.hudi_names.specs.declared.error.HudiError.{HudiError}
use Rattle.hudi_names.specs.declared.error.HudiError.TheVariants as errors
use Rattle.hudi_files.specs.FileFaults.{OnlyFeature, IsFolderFault, IsRowFault, IsSomeRowFault}
use Rattle.hudi_files.specs.Values.{HaveValues, ShowsNoValue, SpellsNoValues, are_in_folders, component_parts, is_in_folder, value_parts}
use Rattle.hudi_files.proofs.StatLemmas.{all_at}
use Rattle.hudi_files.proofs.ValueLemmas.{now_of, value_parts-length}

-- ---- the components of a folder stand before its last `/`

onto_append : {X : Type 0} (x : X) (parts : List (List X)) (last : List X) → 0 < length parts → onto_first x (parts ++ last ∷ []) ≡ onto_first x parts ++ last ∷ []
onto_append x [] last some = absurd (omega (arith, some))
onto_append x (part ∷ parts) last some = refl

some_part : {X : Type 0} (p : X → Bool) (xs : List X) → 0 < length (slice_split p xs)
some_part p xs = omega (arith, length-slice_split p xs)

split_at_last : {X : Type 0} (p : X → Bool) (front : List X) (y : X) (last : List X) → p y ≡ true → slice_split p last ≡ last ∷ [] → slice_split p (front ++ y ∷ last) ≡ slice_split p front ++ last ∷ []
split_at_last p [] y last hit one = slice_split-cons_yes p y last hit ∙ ap (λ parts. [] ∷ parts) one
split_at_last p (x ∷ xs) y last hit one =
    let rest = split_at_last p xs y last hit one in
    ⊎_elim
    (λ is. slice_split-cons_yes p x (xs ++ y ∷ last) is ∙ ap (λ parts. [] ∷ parts) rest ∙ ap (λ parts. parts ++ last ∷ []) (sym (slice_split-cons_yes p x xs is)))
    (λ miss. slice_split-cons_no p x (xs ++ y ∷ last) miss ∙ ap (onto_first x) rest ∙ onto_append x (slice_split p xs) last (some_part p xs) ∙ ap (λ parts. parts ++ last ∷ []) (sym (slice_split-cons_no p x xs miss)))
    (cases_Bool (p x))

all_but_one : {X : Type 0} (xs : List X) (x : X) → take (length (xs ++ x ∷ []) - 1) (xs ++ x ∷ []) ≡ xs
all_but_one xs x = ap (λ n. take n (xs ++ x ∷ [])) (omega (arith, length-append xs (x ∷ []))) ∙ take-append_seam xs (x ∷ [])

components_before : (path : List ℕ) (k : ℕ) → NoneAfter (Passes (is_byte 47) path) 0 (length path) k → Passes (is_byte 47) path k → folder_components path ≡ slice_split is_slash (take k path)
components_before path k last here =
    let name = drop (k + 1) path in
    let none : All (λ b. is_slash b ≡ false) name =
    All-from_get_or (λ b. is_slash b ≡ false) name 0 (λ i within. ap is_slash (get_or-drop (k + 1) path i 0) ∙ false_from_ne_true _ (last.after (k + 1 + i) (omega arith) (omega (arith, within, length-drop (k + 1) path)))) in
    let cut : path ≡ take k path ++ get_or path k 0 ∷ name = sym (take-append-drop k path) ∙ ap (λ rest. take k path ++ rest) (drop_more path k 0 last.high) in
    let parts : slice_split is_slash path ≡ slice_split is_slash (take k path) ++ name ∷ [] =
    ap (slice_split is_slash) cut ∙ split_at_last is_slash (take k path) (get_or path k 0) name here (slice_split_none is_slash name none) in
    ap (λ all. take (length all - 1) all) parts ∙ all_but_one (slice_split is_slash (take k path)) name

pub same_components : (path other : List ℕ) (k l : ℕ) → NoneAfter (Passes (is_byte 47) path) 0 (length path) k × Passes (is_byte 47) path k
    → NoneAfter (Passes (is_byte 47) other) 0 (length other) l × Passes (is_byte 47) other l → take k path ≡ take l other → folder_components path ≡ folder_components other
same_components path other k l last other_last same =
    components_before path k last.0 last.1 ∙ ap (slice_split is_slash) same ∙ sym (components_before other l other_last.0 other_last.1)

pub same_parts : (style : FolderStyle) (names : List (List ℕ)) (path other : List ℕ) → folder_components path ≡ folder_components other → value_parts style names path ≡ value_parts style names other
same_parts style names path other same =
    let count = length names in
    ap (λ (all : List (List ℕ)). option_and_then (component_parts style names) (if nat_le count (length all) then Some (drop (length all - count) all) else None)) same

pub parts_counted : (style : FolderStyle) (names : List (List ℕ)) (kinds : List PartKind) (path : List ℕ) (parts : Option (Vec (Bor (List ℕ)) Global)) → option_map texts_of parts ≡ value_parts style names path
    → length kinds ≡ length names → IfSome parts (λ found. length kinds ≡ length found.items)
parts_counted style names kinds path None spelled counted = tt
parts_counted style names kinds path (Some found) spelled counted =
    counted ∙ sym (value_parts-length style names path (texts_of found) (sym spelled)) ∙ length-map found.items now_of

-- ---- what folders show

pub have_inside : (style : FolderStyle) (names : List (List ℕ)) (kinds : List PartKind) (files rows : List FileRow) → HaveValues style names kinds files rows → are_in_folders style names files ≡ true
have_inside style names kinds [] rows h = refl
have_inside style names kinds (file ∷ files) rows h = (λ i. is_some (h.2.spelled i) && have_inside style names kinds files h.1 h.3 i)

pub shown_weaker : (P Q : Feature → Type 0) → ((shown : Feature) → P shown → Q shown) → (e : HudiError) → OnlyFeature P e → OnlyFeature Q e
shown_weaker P Q f errors.Memory h = tt
shown_weaker P Q f (errors.Malformed line) h = absurd h
shown_weaker P Q f (errors.Unsupported shown) h = f shown h
shown_weaker P Q f (errors.Limit which) h = absurd h

pub shows_row : (style : FolderStyle) (names : List (List ℕ)) (kinds : List PartKind) (file : FileRow) (e : HudiError) → ShowsNoValue (SpellsNoValues style names kinds file.path) e → OnlyFeature (IsRowFault style names kinds file) e
shows_row style names kinds file errors.Memory h = tt
shows_row style names kinds file (errors.Malformed line) h = absurd h
shows_row style names kinds file (errors.Unsupported shown) h = inr h
shows_row style names kinds file (errors.Limit which) h = absurd h

-- where all files are in folders, what one shows is the folders' fault
pub some_fault : (style : FolderStyle) (names : List (List ℕ)) (kinds : List PartKind) (files : List FileRow) → are_in_folders style names files ≡ true
    → (e : HudiError) → OnlyFeature (IsSomeRowFault style names kinds files) e → OnlyFeature (IsFolderFault style names kinds files) e
some_fault style names kinds files inside = shown_weaker _ _ (λ shown fault.
    ⊎_elim
    (λ outside. absurd (false≢true (sym outside.1 ∙ all_at (is_in_folder style names) files fault.0 inside fault.1)))
    (λ value. inr (value.0, inside, fault.0, fault.1, value.1))
    fault.2)
