use Rattle.std.proofs.Common.{List, ap, map, subst, sym}
use Rattle.iceberg_manifest.specs.Entry.{EntryData}
use Rattle.iceberg_manifest_writing.specs.RowEntries.{entry_in}
use Rattle.iceberg_commit.specs.Texts.{AddsKept}
use Rattle.iceberg_version.specs.declared.kept.KeptManifest.{KeptManifest}
use Rattle.iceberg_commit.proofs.TextLemmas.{MadeNew, adds_kept, adds_new, made_added, made_anew, made_written, part_within, refusal_new}
use Rattle.iceberg_commit.proofs.texts.push_next.Goals as goal

pub push_new-requires-clause-entries : goal.push_new-requires-clause-entries
push_new-requires-clause-entries c =
    let written = map (entry_in c.args.layout.now.front) in
    let entries : List EntryData = written c.in_ok-entries-in-Anew.entries.items in
    let made : MadeNew c.args.layout.now c.args.before.now c.args.next entries = made_anew c.args.layout.now c.args.before.now c.args.next c.in-Anew.place entries c.in-Anew.is c.requires.can c.in_ok-entries-in-Anew.ensures in
    made_written c.args.layout.now c.args.before.now c.args.next entries (written c.as_slice.result.now) c.requires.can made (ap written c.as_slice.ensures.value)

pub entries_added-requires : goal.entries_added-requires
entries_added-requires c = part_within c.args.layout.now c.args.before.now c.args.next c.in-Added.place c.in-Added.is c.requires.can

pub push_new-requires-in-Added-clause-entries : goal.push_new-requires-in-Added-clause-entries
push_new-requires-in-Added-clause-entries c =
    let written = map (entry_in c.args.layout.now.front) in
    let entries : List EntryData = written c.in_ok-entries-in-Added.entries.items in
    let made : MadeNew c.args.layout.now c.args.before.now c.args.next entries = made_added c.args.layout.now c.args.before.now c.args.next c.in-Added.place entries c.in-Added.is c.requires.can c.in_ok-entries-in-Added.ensures in
    made_written c.args.layout.now c.args.before.now c.args.next entries (written c.as_slice-in-Added.result.now) c.requires.can made (ap written c.as_slice-in-Added.ensures.value)

pub returns-in_ok-push_kept-in-Stays-clause-adds :
    goal.returns-in_ok-push_kept-in-Stays-clause-adds
returns-in_ok-push_kept-in-Stays-clause-adds c = adds_kept c.args.layout.now c.args.before.now c.args.next c.in-Stays.place c.index-before-place.result c.args.list.now c.push_kept.new.list c.in-Stays.is c.index-before-place.is (subst (λ (x : KeptManifest). AddsKept x.info c.args.list.now c.push_kept.new.list) (sym c.index-before-place.is) c.in_ok-push_kept-in-Stays.ensures)

pub returns-in_ok-entries-in-Anew-clause-adds : goal.returns-in_ok-entries-in-Anew-clause-adds
returns-in_ok-entries-in-Anew-clause-adds c =
    let written = map (entry_in c.args.layout.now.front) in
    let entries : List EntryData = written c.in_ok-entries-in-Anew.entries.items in
    let made : MadeNew c.args.layout.now c.args.before.now c.args.next entries = made_anew c.args.layout.now c.args.before.now c.args.next c.in-Anew.place entries c.in-Anew.is c.requires.can c.in_ok-entries-in-Anew.ensures in
    adds_new c.push_new.result c.args.layout.now c.args.before.now c.args.next entries (written c.as_slice.result.now) c.args.list.now c.push_new.new.list made (ap written c.as_slice.ensures.value) c.push_new.ensures.adds

pub returns-in_ok-entries-in-Anew-clause-refusal :
    goal.returns-in_ok-entries-in-Anew-clause-refusal
returns-in_ok-entries-in-Anew-clause-refusal c =
    let written = map (entry_in c.args.layout.now.front) in
    let entries : List EntryData = written c.in_ok-entries-in-Anew.entries.items in
    let made : MadeNew c.args.layout.now c.args.before.now c.args.next entries = made_anew c.args.layout.now c.args.before.now c.args.next c.in-Anew.place entries c.in-Anew.is c.requires.can c.in_ok-entries-in-Anew.ensures in
    refusal_new c.push_new.result c.args.layout.now c.args.before.now c.args.next entries (written c.as_slice.result.now) made (ap written c.as_slice.ensures.value) c.push_new.ensures.refusal

pub returns-in_ok-entries-in-Added-clause-adds : goal.returns-in_ok-entries-in-Added-clause-adds
returns-in_ok-entries-in-Added-clause-adds c =
    let written = map (entry_in c.args.layout.now.front) in
    let entries : List EntryData = written c.in_ok-entries-in-Added.entries.items in
    let made : MadeNew c.args.layout.now c.args.before.now c.args.next entries = made_added c.args.layout.now c.args.before.now c.args.next c.in-Added.place entries c.in-Added.is c.requires.can c.in_ok-entries-in-Added.ensures in
    adds_new c.push_new-in-Added.result c.args.layout.now c.args.before.now c.args.next entries (written c.as_slice-in-Added.result.now) c.args.list.now c.push_new-in-Added.new.list made (ap written c.as_slice-in-Added.ensures.value) c.push_new-in-Added.ensures.adds

pub returns-in_ok-entries-in-Added-clause-refusal :
    goal.returns-in_ok-entries-in-Added-clause-refusal
returns-in_ok-entries-in-Added-clause-refusal c =
    let written = map (entry_in c.args.layout.now.front) in
    let entries : List EntryData = written c.in_ok-entries-in-Added.entries.items in
    let made : MadeNew c.args.layout.now c.args.before.now c.args.next entries = made_added c.args.layout.now c.args.before.now c.args.next c.in-Added.place entries c.in-Added.is c.requires.can c.in_ok-entries-in-Added.ensures in
    refusal_new c.push_new-in-Added.result c.args.layout.now c.args.before.now c.args.next entries (written c.as_slice-in-Added.result.now) made (ap written c.as_slice-in-Added.ensures.value) c.push_new-in-Added.ensures.refusal
