use Rattle.std.proofs.Common.{◌≡◌, Some, None, inl, inr, refl, sym, subst, ◌∙◌}
use Rattle.std.proofs.lemmas.Option.{same_Some}
use Rattle.lake_store.specs.Disk.{Disk}
use Rattle.lake_store.proofs.RunLaws.{reading_further}
use Rattle.source_core.specs.Answers.{IsReadRefusal}
use Rattle.source_delta.specs.Heads.{IsDeltaHead, IsNewest, IsTableAtHead}
use Rattle.source_delta.specs.Reading.{ShowsFromScratch}
use Rattle.source_delta.specs.SinceLemmas.{version_within}
use Rattle.delta_compact.specs.Refusals.{HasCause, IsUnread, of_source}
use Rattle.delta_compact.proofs.Joins.{cause_of}
use Rattle.delta_compact.proofs.reading.read_whole.Goals as goal

pub whole-requires : goal.whole-requires
whole-requires g c told = subst (λ (d : Disk). IsDeltaHead d.files c.in-Ok.head) (sym (c.in-Ok.ensures.only_reads told).disk) (c.in-Ok.ensures.head told).1

pub returns-in-Err-clause-refused : goal.returns-in-Err-clause-refused
returns-in-Err-clause-refused g c told =
    let files = (g.S.Store.disk c.args.store.now).files in
    let e = c.in-Err.error in
    subst (HasCause (IsUnread files)) (sym c.source_fault.ensures) (cause_of (IsUnread files) (of_source e) (e, inl (c.in-Err.ensures.head told), refl))

pub returns-clause-refused : goal.returns-clause-refused
returns-clause-refused g c told =
    let files = (g.S.Store.disk c.args.store.now).files in
    let e = c.in-Err-whole.error in
    let refused = subst (λ (d : Disk). IsReadRefusal (ShowsFromScratch d.files) e) (c.in-Ok.ensures.only_reads told).disk (c.in-Err-whole.ensures.refused told) in
    subst (HasCause (IsUnread files)) (sym c.source_fault-in-Err-whole.ensures) (cause_of (IsUnread files) (of_source e) (e, inr (c.in-Ok.head, (c.in-Ok.ensures.head told).1, refused), refl))

pub returns-in-Ok-whole-clause-whole : goal.returns-in-Ok-whole-clause-whole
returns-in-Ok-whole-clause-whole g c told =
    let files = (g.S.Store.disk c.args.store.now).files in
    let head = (c.in-Ok.ensures.head told).1 in
    let known = c.version_at.ensures.known head.newest (version_within files head.newest head.is.there) (c.as_str.ensures.value ∙ head.position) in
    let newest : head.newest ≡ c.in-Some.newest = same_Some head.newest c.in-Some.newest (sym known ∙ c.in-Some.is) in
    let table = subst (λ (d : Disk). IsTableAtHead d.files c.in-Ok-whole.table) (c.in-Ok.ensures.only_reads told).disk (c.in-Ok-whole.ensures.table told) in
    (c.in-Ok-whole.table, record { few = head.few; is = subst (λ n. IsNewest files n) newest head.is; head = table }, c.len.ensures.len)

pub returns-in_default-clause-refused : goal.returns-in_default-clause-refused
returns-in_default-clause-refused g c told =
    let files = (g.S.Store.disk c.args.store.now).files in
    let head = (c.in-Ok.ensures.head told).1 in
    let known = c.version_at.ensures.known head.newest (version_within files head.newest head.is.there) (c.as_str.ensures.value ∙ head.position) in
    let none : None ≡ Some head.newest = sym c.in_default.is ∙ known in
    absurd (cc)

pub returns-clause-only_reads : goal.returns-clause-only_reads
returns-clause-only_reads g c = reading_further g.S.Store c.args.store.now c.head.new.store c.whole.new.store c.in-Ok.ensures.only_reads c.in-Err-whole.ensures.only_reads

pub returns-in-Ok-whole-clause-only_reads : goal.returns-in-Ok-whole-clause-only_reads
returns-in-Ok-whole-clause-only_reads g c = reading_further g.S.Store c.args.store.now c.head.new.store c.whole.new.store c.in-Ok.ensures.only_reads c.in-Ok-whole.ensures.only_reads
