-- The id of the table that a new target is (RFC 9562, "UUID Version 5").
use Rattle.std.specs.Prelude.{ℕ, List, [], ◌∷◌, ◌++◌, take, codes}
use Rattle.sha1.specs.Sha1.{sha1}
use Rattle.uuid.specs.Parts.{with_variant, with_version}
use Rattle.uuid.specs.Text.{hyphenated_text, lower}
use Rattle.uuid.specs.declared.Variant.TheVariants.{RFC4122}
use Rattle.uuid.specs.declared.Version.TheVariants.{Sha1}

-- the namespace of URLs
abbrev pub url_namespace : List ℕ
url_namespace = 107 ∷ 167 ∷ 184 ∷ 17 ∷ 157 ∷ 173 ∷ 17 ∷ 209 ∷ 128 ∷ 180 ∷ 0 ∷ 192 ∷ 79 ∷ 212 ∷ 48 ∷ 200 ∷ []

abbrev pub id_name : List ℕ → List ℕ
id_name location = codes "lakebridge:iceberg:" ++ location

-- the UUID of the location's name, in lower case with hyphens
unfoldable pub table_id : List ℕ → List ℕ
table_id location = hyphenated_text lower (with_version (with_variant (take 16 (sha1 (url_namespace ++ id_name location))) RFC4122) Sha1)
