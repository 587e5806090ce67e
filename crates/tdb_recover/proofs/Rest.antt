-- The texts of a log that weren't taken in yet.
use Rattle.std.proofs.Common.{◌≡◌, ◌≤◌, ◌⊎◌, inl, inr, ℕ, List, [], ◌∷◌, ◌++◌, Some, sym, ◌∙◌, ap, subst, arith, append_assoc}
use Rattle.std.specs.List.{AllByRecursion}
use Rattle.tdb_base.specs.declared.piece.Piece.{Piece}
use Rattle.tdb_base.specs.Trace.{Trace, WrittenPiece}
use Rattle.tdb_mark.specs.declared.commit.Commit.{Commit}
use Rattle.tdb_mark.specs.CommitChain.{commit_chain}
use Rattle.tdb_mark.specs.CommitText.{commit_key_of, commit_of}
use Rattle.tdb_model.specs.declared.change.Change.{Change}
use Rattle.tdb_model.specs.Apply.{History}
use Rattle.tdb_overlay.specs.Changes.{HasChanges, named_records}
use Rattle.tdb_overlay.specs.Found.{in_trace}
use Rattle.tdb_overlay.specs.Log.{IsCheckpointOn, IsCommitOn, IsLogOf, IsStep}
use Rattle.tdb_overlay.specs.Needed.{needed}
use Rattle.tdb_overlay.specs.Required.{IsOpeningPiece, IsRequired, base_of}
use Rattle.tdb_overlay.specs.StoreState.{StoreState}
use Rattle.tdb_overlay.specs.declared.recovered.Recovered.{Recovered}
use Rattle.tdb_overlay.proofs.Needing.{records_needed}
use Rattle.tdb_recover.specs.Chain.{EndsWith, IsBehind, IsGiven, WholeLog}
use Rattle.tdb_recover.specs.Replay.{IsCommitIn, IsReplayOf, IsRest}
use Rattle.tdb_recover.proofs.Ends.{is_opening}
use Rattle.tdb_recover.proofs.Steps.{no_checkpoint}

-- the next text, as the commit that it is
pub record NextCommit (written : List WrittenPiece) (trace : Trace) (secret : List ℕ) (log : WholeLog) (before : StoreState) (text : Commit) (later : List Commit) : Type 0 where
  pub changes : List Change
  pub after : StoreState
  pub commit : IsCommitIn written trace secret log.store log.anchor before text changes after
  pub history : History
  pub tells : IsLogOf (in_trace written) log.store after later history log.last

module _ (written : List WrittenPiece) (trace : Trace) (secret : List ℕ) (log : WholeLog) (given : IsGiven written trace secret log) where
  -- a text behind the last checkpoint stands in the chain since its base
  stands : (base text : Commit) (done later all : List Commit) → EndsWith written secret log.chain base all → all ≡ done ++ text ∷ later → IsBehind base text
      → (earlier : List Commit) × (log.chain ≡ earlier ++ text ∷ later) × (base_of log.chain ≤ text.count)
  stands base text done later all ends parts behind = (
    ends.front ++ base ∷ done,
    ends.parts ∙ ap (λ (l : List Commit). ends.front ++ base ∷ l) parts ∙ sym (append_assoc ends.front (base ∷ done) (text ∷ later)),
    omega (arith, ends.base, behind.base, behind.commit),
  )

  -- so the records that its list names are needed
  named_needed : (earlier : List Commit) (text : Commit) (later : List Commit) (changes : List Change) → log.chain ≡ earlier ++ text ∷ later → base_of log.chain ≤ text.count → text.kind ≡ 1
      → (list : HasChanges (in_trace written) log.store.secret text changes) → AllByRecursion (IsRequired written log.store log.anchor) (named_records list.entries)
  named_needed earlier text later changes in_chain since kind list =
      records_needed written log.store log.anchor log.chain
      (subst (λ (s : List ℕ). commit_chain written (commit_of (commit_key_of s)) log.anchor.0 log.anchor.1 ≡ Some log.chain) (sym given.keys) given.ends)
      text earlier later changes in_chain since kind list

  next_by : (before : StoreState) (text : Commit) (earlier later : List Commit) (added : History) (after : StoreState) (history : History) → log.chain ≡ earlier ++ text ∷ later → base_of log.chain ≤ text.count → (text.kind ≡ 2 → ⊥) → IsStep (in_trace written) log.store before text added after
      → IsLogOf (in_trace written) log.store after later history log.last → NextCommit written trace secret log before text later
  next_by before text earlier later added after history in_chain since no_base step tells = by_kind step.adds
    where
      by_kind : ((IsCheckpointOn (in_trace written) log.store before text after × (added ≡ [])) ⊎ ((changes : List Change) × IsCommitOn (in_trace written) log.store before text changes after × (added ≡ (text.count, changes) ∷ [])))
          → NextCommit written trace secret log before text later
      by_kind (inl checkpoint) = absurd (no_base checkpoint.0.kind)
      by_kind (inr commit) = record {
        changes = commit.0;
        after = after;
        commit = record { keys = given.keys; unforged = given.unforged; suite = step.suite; commit = commit.1; records = named_needed earlier text later commit.0 in_chain since commit.1.kind commit.1.list };
        history = history;
        tells = tells;
      }

  pub next_commit : (base text : Commit) (done later all : List Commit) (r : Recovered) → EndsWith written secret log.chain base all → all ≡ done ++ text ∷ later → IsBehind base text → (rest : IsRest written log (text ∷ later) r) → NextCommit written trace secret log rest.state text later
  next_commit base text done later all r ends whole behind rest =
      let parts = rest.tells in
      let at = stands base text done later all ends whole behind in
      next_by rest.state text at.0 later parts.0 parts.1 parts.2 at.1 at.2 (no_checkpoint text behind.format behind.commit) parts.3 parts.4

  pub rest_goes : (text : Commit) (later : List Commit) (before : StoreState) (r : Recovered) → (next : NextCommit written trace secret log before text later) → IsReplayOf (needed written log.store log.anchor) log.store r next.after → IsRest written log later r
  rest_goes text later before r next kept = record { state = next.after; history = next.history; tells = next.tells; kept = kept }

  pub rest_ends : (r : Recovered) → IsRest written log [] r → IsReplayOf (needed written log.store log.anchor) log.store r log.last
  rest_ends r rest = subst (IsReplayOf (needed written log.store log.anchor) log.store r) (sym rest.tells.1) rest.kept

  -- opening reads the list of a commit behind the last checkpoint
  pub list_opening : (base text : Commit) (done later all : List Commit) (piece : Piece) → EndsWith written secret log.chain base all → all ≡ done ++ text ∷ later → IsBehind base text → piece ≡ text.first → IsOpeningPiece written log.store log.anchor piece
  list_opening base text done later all piece ends parts behind same =
      let at = stands base text done later all ends parts behind in
      is_opening written trace secret log given text at.0 later piece at.1 at.2 (inr same)
