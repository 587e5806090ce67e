use Rattle.std.proofs.Common.{◌≡◌, Some, List, [], ◌∷◌, ◌++◌, ℕ, sym, ◌∙◌, ap, subst, ◌+◌}
use Rattle.std.specs.Prelude.{OnOk}
use Rattle.sha2.specs.Sha256.{sha256}
use Rattle.tdb_append.specs.Placed.{Placed, placed}
use Rattle.tdb_append.specs.Put.{Puts, slot_place}
use Rattle.tdb_mark.specs.declared.commit.Commit.{Commit}
use Rattle.tdb_mark.specs.CommitFormat.{IsCommitValue, IsInFormat}
use Rattle.tdb_mark.specs.CommitText.{commit_key_of, commit_of, commit_text}
use Rattle.tdb_mark.proofs.TextLemmas.{commit_of-commit_text}
use Rattle.tdb_platform.specs.Outside.{Anchor}
use Rattle.tdb_platform.specs.CrashStates.{now}
use Rattle.tdb_overlay.specs.NextText.{IsLaidText}
use Rattle.tdb_overlay.specs.SealedOnly.{IsTextInSlot}
use Rattle.tdb_overlay.proofs.PutRan.{put_ran}
use Rattle.tdb_overlay.specs.Found.{store_under}
use Rattle.tdb_overlay.proofs.SealedPuts.{put_sealed}
use Rattle.tdb_overlay.proofs.text.put_commit.Goals as goal

pub returns-clause-sealed : goal.returns-clause-sealed
returns-clause-sealed g c records tells =
    let puts = c.put.ensures.puts in
    let secret : List ℕ = c.args.keys.now in
    let text : List ℕ = c.write_commit_with-text.result in
    let n : ℕ = c.args.head.now.count in
    let ps : List Placed = placed c.args.pieces.now in
    let spelled : text ≡ commit_text (commit_key_of secret) c.args.commit.now =
    c.write_commit_with-text.ensures ∙ ap (λ (key : List ℕ). commit_text key c.args.commit.now) c.commit.ensures in
    let is : IsTextInSlot secret (slot_place (n + 1)) text =
    record { commit = c.args.commit.now; value = c.requires.value; spelled = record { in_format = c.requires.in_format; spelled = spelled }; slot = ap slot_place (sym c.requires.next_count) } in
    put_sealed secret (n + 1) ps puts.done puts.rest text
    (g.P.Platform.outside c.args.platform.now).trace (g.P.Platform.outside c.put.new.platform).trace
    records c.requires.in_segments is puts.in_order (puts.wrote.trace tells)

reads_back : (secret : List ℕ) (commit : Commit) → IsCommitValue commit → IsInFormat commit → commit_of (commit_key_of secret) (commit_text (commit_key_of secret) commit) ≡ Some commit
reads_back secret commit value in_format = commit_of-commit_text (commit_key_of secret) commit value in_format

pub returns-clause-reads : goal.returns-clause-reads
returns-clause-reads g c = reads_back c.args.keys.now c.args.commit.now c.requires.value c.requires.in_format

pub returns-clause-steps : goal.returns-clause-steps
returns-clause-steps g c records suite added settled goes =
    let outside = g.P.Platform.outside in
    let crash_states = g.P.Platform.crash_states in
    let old = c.args.platform.now in
    let new = c.put.new.platform in
    let secret : List ℕ = c.args.keys.now in
    let commit = c.args.commit.now in
    let text : List ℕ = c.write_commit_with-text.result in
    let ps : List Placed = placed c.args.pieces.now in
    let spelled : text ≡ commit_text (commit_key_of secret) commit =
    c.write_commit_with-text.ensures ∙ ap (λ (key : List ℕ). commit_text key commit) c.commit.ensures in
    let laid : IsLaidText secret text commit ps = record {
      value = c.requires.value;
      accepted = subst (λ (bytes : List ℕ). commit_of (commit_key_of secret) bytes ≡ Some commit) (sym spelled)
          (reads_back secret commit c.requires.value c.requires.in_format);
      records = records;
      in_segments = c.requires.in_segments;
      apart = c.requires.apart;
    } in
    let next = sym c.requires.next_count in
    put_ran outside crash_states g.met.P.Platform.counts g.met.P.Platform.numbered (store_under secret suite) old new text commit ps added
    laid settled goes c.put.result
    (subst (λ (n : ℕ). Puts outside crash_states old new (ps ++ record { place = slot_place n; bytes = text } ∷ []) (n, sha256 text)
    c.put.result) next c.put.ensures.puts) c.put.ensures.told
    (λ tells. subst (λ (n : ℕ). OnOk c.put.result ((outside new).anchor ≡ (n, sha256 text))) next (c.put.ensures.advanced tells))
    (λ tells. subst (λ (n : ℕ). OnOk c.put.result ((i : List ℕ) (a : Anchor) → now outside crash_states new i a → a ≡ (n, sha256 text)))
    next (c.put.ensures.only tells))
