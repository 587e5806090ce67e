use Rattle.std.proofs.Common.{◌≡◌, ℕ, List, Err, Result, refl, sym, ◌∙◌, ap, subst}
use Rattle.std.specs.Prelude.{All, AllPairs}
use Rattle.std.proofs.lemmas.Bool.{false≢true}
use Rattle.tdb_append.specs.declared.head.Head.{Head}
use Rattle.tdb_append.specs.declared.laid.Laid.{Laid}
use Rattle.tdb_append.specs.Placed.{FitsOneSegment, IsApart, Placed, placed}
use Rattle.tdb_base.specs.declared.failed.Failed.{Failed}
use Rattle.tdb_list.specs.declared.entry.Entry.{Entry}
use Rattle.tdb_model.specs.declared.error.CommitError.TheVariants as refusals
use Rattle.tdb_overlay.specs.Covering.{Covers, noted_all}
use Rattle.tdb_overlay.specs.SealedOnly.{IsRecord}
use Rattle.tdb_chunk.specs.Known.{store_of}
use Rattle.tdb_overlay.specs.declared.batch.LayError.{LayError}
use Rattle.tdb_chunk.proofs.Calling.{PutCommit, done_call, fault_call, refused_call, refused_is_no_fault, if_no_room}
use Rattle.tdb_chunk.proofs.Committing.{list_refused}
use Rattle.tdb_chunk.proofs.Unchanged.{same_but}
use Rattle.tdb_chunk.proofs.open_log.OpenLog.commit_entries.Goals as goal

taken : (m n : ℕ) (x y : Covers) (es ds : List Entry) → (m ≡ n) × (es ≡ ds) → x ≡ y → noted_all m x es ≡ noted_all n y ds
taken m n x y es ds same covers =
    ap (λ (k : ℕ). noted_all k x es) same.0 ∙ ap (λ (z : Covers). noted_all n z es) covers ∙ ap (noted_all n y) same.1

pub returns-in-Err-clause-commit : goal.returns-in-Err-clause-commit
returns-in-Err-clause-commit g c = λ changes prepared.
    let was = c.args.self.now in
    let o = g.P.Platform.outside c.args.platform.now in
    refused_call g.P.Platform.outside g.P.Platform.crash_states g.met.P.Platform.counts changes was was c.args.platform.now c.refused.result c.requires.settled
    (refused_is_no_fault c.in-Err.error c.refused.result c.refused.ensures.answer) refl
    (λ last known refusal.
    if_no_room (store_of was) last changes c.in-Err.error c.refused.result c.refused.ensures.answer refusal
    (λ r is.
    list_refused o was c.args.keep c.args.entries.now (placed c.args.batch.pieces.items) c.args.batch.segments changes prepared c.requires.list c.requires.not_full c.requires.counts_on last known r
    (c.in-Err.ensures.refused r (ap (λ (e : LayError). Err e) is))))

pub returns-in_default-clause-commit : goal.returns-in_default-clause-commit
returns-in_default-clause-commit g c = λ changes prepared.
    refused_call g.P.Platform.outside g.P.Platform.crash_states g.met.P.Platform.counts changes c.args.self.now _ c.args.platform.now refusals.Memory c.requires.settled
    (λ is. cc) (same_but _ c.args.self.now refl refl refl refl c.reserve.ensures.stays refl)
    (λ last known refusal. absurd (false≢true refusal))

pub put_commit-requires-clause-in_segments : goal.put_commit-requires-clause-in_segments
put_commit-requires-clause-in_segments g c = subst (λ (l : List Laid). All FitsOneSegment (placed l)) (sym c.deref.ensures.value) c.in-Ok.ensures.next.laid.in_segments

pub put_commit-requires-clause-apart : goal.put_commit-requires-clause-apart
put_commit-requires-clause-apart g c = subst (λ (l : List Laid). AllPairs IsApart (placed l)) (sym c.deref.ensures.value) c.in-Ok.ensures.next.laid.apart

pub returns-in_default-put_commit-clause-commit : goal.returns-in_default-put_commit-clause-commit
returns-in_default-put_commit-clause-commit g c = λ changes prepared.
    let was = c.args.self.now in
    let outside = g.P.Platform.outside in
    let crash_states = g.P.Platform.crash_states in
    let old = c.args.platform.now in
    let new = c.put_commit.new.platform in
    let commit = c.in-Ok.next.commit in
    let batch = c.in-Ok.next.batch in
    let ps : List Placed = placed batch.pieces.items in
    let records = subst (λ (l : List Laid). All (λ (p : Placed). IsRecord was.keys p.bytes) (placed l)) (sym c.deref.ensures.value) c.in-Ok.ensures.next.laid.sealed in
    let put : PutCommit outside crash_states was.keys was.log.head commit (placed c.deref.result.now) old new c.put_commit.result = record {
      puts = c.put_commit.ensures.puts;
      advanced = c.put_commit.ensures.advanced;
      only = c.put_commit.ensures.only;
      head_is = c.put_commit.ensures.head;
      reads = c.put_commit.ensures.reads;
      told = c.put_commit.ensures.told;
      quiet = c.put_commit.ensures.quiet;
      sealed = c.put_commit.ensures.sealed records;
      steps = c.put_commit.ensures.steps records;
    } in
    let laid : PutCommit outside crash_states was.keys was.log.head commit ps old new c.put_commit.result =
    subst (λ (l : List Laid). PutCommit outside crash_states was.keys was.log.head commit (placed l) old new c.put_commit.result) c.deref.ensures.value put in
    fault_call outside crash_states g.met.P.Platform.counts was c.args.keep c.args.entries.now (placed c.args.batch.pieces.items) c.args.batch.segments changes old new prepared c.requires.list c.requires.values c.requires.not_full c.requires.counts_on
    commit ps batch.segments c.in-Ok.ensures.next c.requires.at_head c.requires.settled _ c.in_default-put_commit.field-0
    (subst (λ (r : Result Head Failed). PutCommit outside crash_states was.keys was.log.head commit ps old new r) c.in_default-put_commit.is laid)
    (same_but _ was refl refl refl refl c.reserve.ensures.stays refl)

pub returns-clause-commit : goal.returns-clause-commit
returns-clause-commit g c = λ changes prepared.
    let was = c.args.self.now in
    let outside = g.P.Platform.outside in
    let crash_states = g.P.Platform.crash_states in
    let old = c.args.platform.now in
    let new = c.put_commit.new.platform in
    let commit = c.in-Ok.next.commit in
    let batch = c.in-Ok.next.batch in
    let ps : List Placed = placed batch.pieces.items in
    let records = subst (λ (l : List Laid). All (λ (p : Placed). IsRecord was.keys p.bytes) (placed l)) (sym c.deref.ensures.value) c.in-Ok.ensures.next.laid.sealed in
    let put : PutCommit outside crash_states was.keys was.log.head commit (placed c.deref.result.now) old new c.put_commit.result = record {
      puts = c.put_commit.ensures.puts;
      advanced = c.put_commit.ensures.advanced;
      only = c.put_commit.ensures.only;
      head_is = c.put_commit.ensures.head;
      reads = c.put_commit.ensures.reads;
      told = c.put_commit.ensures.told;
      quiet = c.put_commit.ensures.quiet;
      sealed = c.put_commit.ensures.sealed records;
      steps = c.put_commit.ensures.steps records;
    } in
    let laid : PutCommit outside crash_states was.keys was.log.head commit ps old new c.put_commit.result =
    subst (λ (l : List Laid). PutCommit outside crash_states was.keys was.log.head commit (placed l) old new c.put_commit.result) c.deref.ensures.value put in
    done_call outside crash_states g.met.P.Platform.counts was c.args.keep c.args.entries.now (placed c.args.batch.pieces.items) c.args.batch.segments changes old new prepared c.requires.list c.requires.values c.requires.not_full c.requires.counts_on
    commit ps batch.segments c.in-Ok.ensures.next c.requires.at_head c.requires.settled _ tt c.in-Ok-put_commit.head
    (subst (λ (r : Result Head Failed). PutCommit outside crash_states was.keys was.log.head commit ps old new r) c.in-Ok-put_commit.is laid) refl refl refl refl
    (c.take_in.ensures ∙ taken c.in-Ok-reserve.reserved.count commit.count _ was.log.overlay c.in-Ok-reserve.reserved.entries.items c.args.entries.now
    c.in-Ok-reserve.ensures.same c.reserve.ensures.stays) refl
