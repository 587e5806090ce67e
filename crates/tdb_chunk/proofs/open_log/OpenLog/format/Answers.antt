use Rattle.std.proofs.Common.{List, None, ℕ, ◌++◌, [], ◌∷◌, refl, sym, ap, ◌∙◌, arith, subst}
use Rattle.std.specs.Prelude.{All, AllPairs}
use Rattle.tdb_append.specs.declared.laid.Laid.{Laid}
use Rattle.tdb_append.specs.Placed.{FitsOneSegment, IsApart, Placed, placed}
use Rattle.tdb_append.specs.Put.{Puts}
use Rattle.tdb_append.specs.declared.head.Head.{Head}
use Rattle.tdb_mark.specs.declared.commit.Commit.{Commit}
use Rattle.tdb_model.specs.State.{no_partitions}
use Rattle.tdb_overlay.specs.BaseTree.{HasToldRoots, TellsRoster}
use Rattle.tdb_overlay.specs.Covering.{Covers, IsCovering}
use Rattle.tdb_overlay.specs.Found.{Finds, Store, store_under}
use Rattle.tdb_overlay.specs.Needed.{needed}
use Rattle.tdb_overlay.specs.SealedOnly.{IsRecord}
use Rattle.tdb_overlay.proofs.BaseTrees.{no_roster_told, none_told}
use Rattle.tdb_overlay.proofs.Coverings.{covering_none}
use Rattle.tdb_chunk.specs.Formatting.{Formatted}
use Rattle.tdb_overlay.specs.PutStep.{IsPutStep}
use Rattle.tdb_overlay.specs.Text.{anchor_of, text_in_slot}
use Rattle.tdb_chunk.proofs.FirstTexts.{first_text}
use Rattle.tdb_chunk.proofs.Growing.{added_always, added_err, added_ok, none_added}
use Rattle.tdb_overlay.proofs.PutLogs.{unread_by}
use Rattle.tdb_chunk.proofs.Starting.{format_added}
use Rattle.tdb_chunk.proofs.Stepping.{format_goes_on}
use Rattle.tdb_overlay.proofs.StepResults.{none_by, step_err, step_ok}
use Rattle.tdb_chunk.proofs.open_log.OpenLog.format.Goals as goal

pub put_commit-requires-clause-in_segments : goal.put_commit-requires-clause-in_segments
put_commit-requires-clause-in_segments g c = subst (λ (l : List Laid). All FitsOneSegment (placed l)) (sym c.deref.ensures.value) c.in_ok-commit.ensures.start.laid.in_segments

pub put_commit-requires-clause-apart : goal.put_commit-requires-clause-apart
put_commit-requires-clause-apart g c = subst (λ (l : List Laid). AllPairs IsApart (placed l)) (sym c.deref.ensures.value) c.in_ok-commit.ensures.start.laid.apart

pub returns-in_err-commit-clause-added : goal.returns-in_err-commit-clause-added
returns-in_err-commit-clause-added g c tells =
    added_always g.P.Platform.outside g.P.Platform.crash_states (λ _. Unit {0}) _ _ c.args.platform.now c.args.platform.now _ (λ before from is. tt)
    (none_added g.P.Platform.outside g.P.Platform.crash_states g.met.P.Platform.counts (λ _. Unit {0}) _ _ c.args.platform.now _ tells c.requires.settled c.from_residual.ensures.0)

pub returns-in_default-clause-added : goal.returns-in_default-clause-added
returns-in_default-clause-added g c tells =
    let outside = g.P.Platform.outside in
    let secret : List ℕ = c.args.keys in
    let store : Store = store_under secret c.args.suite in
    let commit = c.in_ok-commit.field-0.commit in
    let batch = c.in_ok-commit.field-0.batch in
    let ps : List Placed = placed batch.pieces.items in
    let puts = subst (λ (l : List Laid). Puts outside g.P.Platform.crash_states c.args.platform.now c.put_commit.new.platform (placed l ++ text_in_slot secret commit ∷ []) (anchor_of secret commit) c.put_commit.result) c.deref.ensures.value c.put_commit.ensures.puts in
    added_always outside g.P.Platform.crash_states (λ _. Unit {0}) _ _ c.args.platform.now c.put_commit.new.platform _ (λ before from is. tt)
    (added_err outside g.P.Platform.crash_states (λ _. Unit {0}) (Formatted store c.args.segments) store c.args.platform.now c.put_commit.new.platform c.put_commit.result _ refl
    (format_added outside g.P.Platform.crash_states g.met.P.Platform.counts store c.no_head-head.result c.args.segments commit ps batch.segments c.args.platform.now c.put_commit.new.platform c.put_commit.result
    c.in_ok-commit.ensures.start c.no_head-head.ensures.count c.no_head-head.ensures.mark c.put_commit.ensures.reads tells (c.requires.first tells) c.requires.settled puts (c.put_commit.ensures.advanced tells) (c.put_commit.ensures.only tells)))

pub returns-clause-added : goal.returns-clause-added
returns-clause-added g c tells =
    let outside = g.P.Platform.outside in
    let secret : List ℕ = c.args.keys in
    let store : Store = store_under secret c.args.suite in
    let commit = c.in_ok-commit.field-0.commit in
    let batch = c.in_ok-commit.field-0.batch in
    let ps : List Placed = placed batch.pieces.items in
    let puts = subst (λ (l : List Laid). Puts outside g.P.Platform.crash_states c.args.platform.now c.put_commit.new.platform (placed l ++ text_in_slot secret commit ∷ []) (anchor_of secret commit) c.put_commit.result) c.deref.ensures.value c.put_commit.ensures.puts in
    added_always outside g.P.Platform.crash_states (λ _. Unit {0}) _ _ c.args.platform.now c.put_commit.new.platform _ (λ before from is. tt)
    (added_ok outside g.P.Platform.crash_states (λ _. Unit {0}) (Formatted store c.args.segments) store c.args.platform.now c.put_commit.new.platform c.put_commit.result _ _ c.in-Ok.is
    (format_added outside g.P.Platform.crash_states g.met.P.Platform.counts store c.no_head-head.result c.args.segments commit ps batch.segments c.args.platform.now c.put_commit.new.platform c.put_commit.result
    c.in_ok-commit.ensures.start c.no_head-head.ensures.count c.no_head-head.ensures.mark c.put_commit.ensures.reads tells (c.requires.first tells) c.requires.settled puts (c.put_commit.ensures.advanced tells) (c.put_commit.ensures.only tells)))

pub returns-in_default-clause-sealed : goal.returns-in_default-clause-sealed
returns-in_default-clause-sealed g c =
    c.put_commit.ensures.sealed (subst (λ (l : List Laid). All (λ (p : Placed). IsRecord c.args.keys p.bytes) (placed l)) (sym c.deref.ensures.value) c.in_ok-commit.ensures.start.laid.sealed)

pub returns-clause-sealed : goal.returns-clause-sealed
returns-clause-sealed g c =
    c.put_commit.ensures.sealed (subst (λ (l : List Laid). All (λ (p : Placed). IsRecord c.args.keys p.bytes) (placed l)) (sym c.deref.ensures.value) c.in_ok-commit.ensures.start.laid.sealed)

pub returns-in_default-clause-unread : goal.returns-in_default-clause-unread
returns-in_default-clause-unread g c tells = unread_by _ _ c.put_commit.ensures.puts.done (c.put_commit.ensures.puts.wrote.trace tells)

pub returns-clause-unread : goal.returns-clause-unread
returns-clause-unread g c tells = unread_by _ _ c.put_commit.ensures.puts.done (c.put_commit.ensures.puts.wrote.trace tells)

pub returns-in_default-clause-texts : goal.returns-in_default-clause-texts
returns-in_default-clause-texts g c =
    let outside = g.P.Platform.outside in
    let secret : List ℕ = c.args.keys in
    let store : Store = store_under secret c.args.suite in
    let commit = c.in_ok-commit.field-0.commit in
    let batch = c.in_ok-commit.field-0.batch in
    let ps : List Placed = placed batch.pieces.items in
    let puts = subst (λ (l : List Laid). Puts outside g.P.Platform.crash_states c.args.platform.now c.put_commit.new.platform
    (placed l ++ text_in_slot secret commit ∷ []) (anchor_of secret commit) c.put_commit.result)
    c.deref.ensures.value c.put_commit.ensures.puts in
    first_text outside g.P.Platform.crash_states store c.no_head-head.result c.args.segments commit ps batch.segments
    c.args.platform.now c.put_commit.new.platform c.put_commit.result
    c.in_ok-commit.ensures.start c.no_head-head.ensures.count c.put_commit.ensures.reads puts

pub returns-clause-texts : goal.returns-clause-texts
returns-clause-texts g c =
    let outside = g.P.Platform.outside in
    let secret : List ℕ = c.args.keys in
    let store : Store = store_under secret c.args.suite in
    let commit = c.in_ok-commit.field-0.commit in
    let batch = c.in_ok-commit.field-0.batch in
    let ps : List Placed = placed batch.pieces.items in
    let puts = subst (λ (l : List Laid). Puts outside g.P.Platform.crash_states c.args.platform.now c.put_commit.new.platform (placed l ++ text_in_slot secret commit ∷ []) (anchor_of secret commit) c.put_commit.result) c.deref.ensures.value c.put_commit.ensures.puts in
    first_text outside g.P.Platform.crash_states store c.no_head-head.result c.args.segments commit ps batch.segments c.args.platform.now c.put_commit.new.platform c.put_commit.result
    c.in_ok-commit.ensures.start c.no_head-head.ensures.count c.put_commit.ensures.reads puts

pub returns-clause-knows : goal.returns-clause-knows
returns-clause-knows g c =
    let o = g.P.Platform.outside c.put_commit.new.platform in
    let secret : List ℕ = c.args.keys in
    let store : Store = store_under secret c.args.suite in
    let finds : Finds = needed o.trace.written store o.anchor in
    let head = c.in-Ok.ensures.head in
    let start = c.in_ok-commit.ensures.start in
    record {
      suite = refl;
      count = omega (arith, ap (λ (h : Head). h.count) head, ap (λ (k : Commit). k.count) start.commit, c.no_head-head.ensures.count);
      base = ap (λ (h : Head). h.base) head ∙ c.no_head-head.ensures.base;
      space = start.is_first;
      chunks = subst (λ (covers : Covers). IsCovering finds secret covers no_partitions) (sym c.new.ensures) (covering_none finds secret);
      root = refl;
      leaders = subst (TellsRoster finds store None) (sym c.new-2.ensures) (no_roster_told finds store);
      roots = subst (HasToldRoots finds store None) (sym c.new.ensures) (none_told finds store None);
    }

pub returns-in_err-commit-clause-steps : goal.returns-in_err-commit-clause-steps
returns-in_err-commit-clause-steps g c =
    none_by g.P.Platform.outside g.P.Platform.crash_states (store_under c.args.keys c.args.suite) [] c.args.platform.now _ c.from_residual.ensures.0

pub returns-in_default-clause-steps : goal.returns-in_default-clause-steps
returns-in_default-clause-steps g c =
    let outside = g.P.Platform.outside in
    let crash_states = g.P.Platform.crash_states in
    let secret : List ℕ = c.args.keys in
    let commit = c.in_ok-commit.field-0.commit in
    let batch = c.in_ok-commit.field-0.batch in
    let old = c.args.platform.now in
    let new = c.put_commit.new.platform in
    let start = c.in_ok-commit.ensures.start in
    let records = subst (λ (l : List Laid). All (λ (p : Placed). IsRecord secret p.bytes) (placed l)) (sym c.deref.ensures.value)
    start.laid.sealed in
    let steps = subst (λ (l : List Laid). IsPutStep outside crash_states secret commit (placed l) old new c.put_commit.result)
    c.deref.ensures.value (c.put_commit.ensures.steps records) in
    step_err outside crash_states (store_under secret c.args.suite) [] old new c.put_commit.result _ _ c.in_default.is
    (steps c.args.suite [] c.requires.settled
    (λ sound. format_goes_on (outside old) (store_under secret c.args.suite) c.no_head-head.result c.args.segments commit (placed batch.pieces.items) batch.segments
    start c.no_head-head.ensures.count c.no_head-head.ensures.mark (c.requires.first sound.tells)))

pub returns-clause-steps : goal.returns-clause-steps
returns-clause-steps g c =
    let outside = g.P.Platform.outside in
    let crash_states = g.P.Platform.crash_states in
    let secret : List ℕ = c.args.keys in
    let commit = c.in_ok-commit.field-0.commit in
    let batch = c.in_ok-commit.field-0.batch in
    let old = c.args.platform.now in
    let new = c.put_commit.new.platform in
    let start = c.in_ok-commit.ensures.start in
    let records = subst (λ (l : List Laid). All (λ (p : Placed). IsRecord secret p.bytes) (placed l)) (sym c.deref.ensures.value)
    start.laid.sealed in
    let steps = subst (λ (l : List Laid). IsPutStep outside crash_states secret commit (placed l) old new c.put_commit.result)
    c.deref.ensures.value (c.put_commit.ensures.steps records) in
    step_ok outside crash_states (store_under secret c.args.suite) [] old new c.put_commit.result _ _ c.in-Ok.is
    (steps c.args.suite [] c.requires.settled
    (λ sound. format_goes_on (outside old) (store_under secret c.args.suite) c.no_head-head.result c.args.segments commit (placed batch.pieces.items) batch.segments
    start c.no_head-head.ensures.count c.no_head-head.ensures.mark (c.requires.first sound.tells)))
