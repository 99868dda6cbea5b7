-- What a text of metadata says, it says once.
use Rattle.std.proofs.Common.{◌≡◌, ℕ, List, Result, Ok, ap, ◌∙◌}
use Rattle.lake_basics.proofs.Options.{ok_once, some_once}
use Rattle.iceberg_metadata.specs.Grammar.{IsMetadataText}
use Rattle.iceberg_metadata.specs.Judging.{contents}
use Rattle.iceberg_metadata.specs.Schemas.{HeldUnread, SchemaReading, schema_ids, unread}
use Rattle.iceberg_metadata.specs.declared.error.MetadataError.{MetadataError}
use Rattle.iceberg_metadata.specs.declared.metadata.Metadata.{Metadata}
use Rattle.iceberg_metadata.proofs.ConsistentLemmas.{consistent_Decides}
use Rattle.iceberg_metadata.proofs.ContentLemmas.{contents_are}

first_once : (m n : Metadata) (es fs : List HeldUnread) (r : Result (Metadata × List HeldUnread) MetadataError) → r ≡ Ok (m, es) → r ≡ Ok (n, fs) → m ≡ n
first_once m n es fs r a b = ap (λ (p : Metadata × List HeldUnread). p.0) (ok_once r (m, es) (n, fs) a b)

pub text_once : (bytes : List ℕ) (rs qs : List SchemaReading) (m n : Metadata) → IsMetadataText bytes rs m → IsMetadataText bytes qs n → m ≡ n
text_once bytes rs qs m n a b =
    let value : a.value ≡ b.value = some_once _ a.value b.value a.is b.is in
    let one : contents a.value ≡ Ok (m, unread rs) = contents_are a.value rs m a.says ((consistent_Decides m (schema_ids rs)).1 a.consistent) in
    let two : contents b.value ≡ Ok (n, unread qs) = contents_are b.value qs n b.says ((consistent_Decides n (schema_ids qs)).1 b.consistent) in
    first_once m n (unread rs) (unread qs) (contents a.value) one (ap contents value ∙ two)
