-- What the end of the bytes gives is what reading the whole container gives.
use Rattle.std.specs.List.{concat}
use Rattle.std.proofs.Common.{◌≡◌, ℕ, ◌+◌, ◌-◌, ◌^◌, ◌<◌, List, length, Some, Result, Ok, Err, refl, sym, ap, subst, ◌∙◌}
use Rattle.lake_basics.specs.Outcome.{◌>>=◌}
use Rattle.avro_schema.specs.Tree.{SchemaTree}
use Rattle.avro_value.specs.declared.api.TheConstants.{MAX_VALUES}
use Rattle.avro_value.specs.Layout.{layout_of}
use Rattle.avro_value.specs.ValueTree.{ValueTree}
use Rattle.avro_value.proofs.NumberLaws.{bind_ok, ok_is}
use Rattle.avro_container.specs.declared.error.ContainerError.{ContainerError}
use Rattle.avro_container.specs.Format.{Pairs, IsWithin}
use Rattle.avro_container.specs.Laws.{error_of}
use Rattle.avro_container.specs.Reading.{Step, step_of, header_at, schema_in, codec_in, blocks_at, container_at}
use Rattle.avro_container.proofs.Containers.{behind_codec, behind_header, behind_schema, container_is, container_takes, container_again, container_faulty, container_refused}
use Rattle.avro_container.proofs.Headers.{placed_ok}
use Rattle.avro_feeding.specs.Feeding.{State, Fed, nothing_read, fed, fed_all, joined, ended, schema_at, schema_of_state}
use Rattle.avro_feeding.specs.Laws.{IsWholeReading}
use Rattle.avro_feeding.proofs.EndLemmas.{answer, all_values, end_is_whole}
use Rattle.avro_feeding.proofs.HeaderLemmas.{schema_of_read}
use Rattle.avro_feeding.proofs.PieceLemmas.{any_cut}

abbrev Contents : Type 0
Contents = Pairs × SchemaTree × List ValueTree

-- the schema of a container is known
container_schema : (bytes : List ℕ) (c : Contents) → container_at MAX_VALUES bytes ≡ Ok c → schema_at bytes ≡ Some c.1
unfolding schema_at
container_schema bytes c e =
    let h = bind_ok (header_at MAX_VALUES bytes) (behind_header MAX_VALUES bytes) c (sym (container_is MAX_VALUES bytes) ∙ e) in
    let t = bind_ok (step_of (length bytes) (schema_in h.0.0)) (behind_schema MAX_VALUES bytes h.0) c h.2 in
    let p = bind_ok (step_of (length bytes) (codec_in h.0.0)) (behind_codec MAX_VALUES h.0 t.0) c t.2 in
    let vs = bind_ok (blocks_at (layout_of t.0) h.0.1 (length h.0.2 + 1) h.0.2 MAX_VALUES) (λ vs. Ok (h.0.0, t.0, vs)) c p.2 in
    let same = ok_is (h.0.0, t.0, vs.0) c vs.2 in
    rw (h.1, placed_ok (length bytes) (schema_in h.0.0) t.0 t.1) (ap (λ (d : Contents). Some d.1) same)

by_reading : (bytes : List ℕ) (r : Fed) (result : Result (Unit {0}) ContainerError) (q : Step Contents) → schema_of_state r.0 ≡ schema_at bytes → container_at MAX_VALUES bytes ≡ q → (result >>= λ _. Ok (joined r.1)) ≡ answer (length bytes) q → IsWholeReading bytes r result
by_reading bytes r (Ok tt) (Ok c) known is e =
    let same : joined r.1 ≡ c.2 = ok_is (joined r.1) c.2 e in
    record {
      found = (c.0, c.1, known ∙ container_schema bytes c is, subst (λ (vs : List ValueTree). IsWithin MAX_VALUES bytes c.0 c.1 vs) (sym same) (container_takes MAX_VALUES bytes c is));
      only = λ meta t vs w. (let both = ok_is c (meta, t, vs) (sym is ∙ container_again MAX_VALUES bytes meta t vs w) in (refl, same ∙ ap (λ (d : Contents). d.2) both));
      fault = tt;
      first = λ d h. absurd (let both : ◌≡◌ {A = Step Contents} (Ok c) (Err h.fault) = sym is ∙ container_refused MAX_VALUES bytes h.fault h.first in cc);
    }
by_reading bytes r (Ok tt) (Err f) known is e = absurd (cc)
by_reading bytes r (Err d) (Ok c) known is e = absurd (cc)
by_reading bytes r (Err d) (Err f) known is e =
    let h = container_faulty MAX_VALUES bytes f is in
    let same : d ≡ error_of (length bytes) f = cc in
    record {
      found = tt;
      only = λ meta t vs w. absurd (let both : ◌≡◌ {A = Step Contents} (Err f) (Ok (meta, t, vs)) = sym is ∙ container_again MAX_VALUES bytes meta t vs w in cc);
      fault = record { fault = f; first = h.fault; within = h.within; is = same };
      first = λ b g. (let both : ◌≡◌ {A = Step Contents} (Err f) (Err g.fault) = sym is ∙ container_refused MAX_VALUES bytes g.fault g.first in let one : f ≡ g.fault = cc in ap Err (same ∙ ap (error_of (length bytes)) one ∙ sym g.is));
    }

read_whole : (bytes : List ℕ) (r : Fed) → fed nothing_read bytes ≡ r → length bytes < 2 ^ 64 - 1 → IsWholeReading bytes r (ended r.0)
read_whole bytes r is small =
    by_reading bytes r (ended r.0) (container_at MAX_VALUES bytes)
    (ap (λ (s : Fed). schema_of_state s.0) (sym is) ∙ schema_of_read bytes)
    refl
    (ap all_values (sym is) ∙ end_is_whole bytes small)

pub whole_reading : (pieces : List (List ℕ)) (state : State) (result : Result (Unit {0}) ContainerError) → result ≡ ended state → state ≡ (fed_all pieces).0 → length (concat pieces) < 2 ^ 64 - 1 → IsWholeReading (concat pieces) (fed_all pieces) result
whole_reading pieces state result is read small =
    subst (λ (e : Result (Unit {0}) ContainerError). IsWholeReading (concat pieces) (fed_all pieces) e) (sym (is ∙ ap ended read)) (read_whole (concat pieces) (fed_all pieces) (sym (any_cut pieces)) small)
