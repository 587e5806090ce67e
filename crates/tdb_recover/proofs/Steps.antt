-- The parts of a log.
use Rattle.std.proofs.Common.{◌≡◌, ◌⊎◌, inl, inr, ⊎_elim, ◌<◌, List, [], ◌∷◌, ◌++◌, refl, sym, ◌∙◌, ap, arith, append_assoc, length, length-append}
use Rattle.std.specs.List.{AllByRecursion}
use Rattle.tdb_mark.specs.declared.commit.Commit.{Commit}
use Rattle.tdb_mark.specs.CommitFormat.{IsInFormat}
use Rattle.tdb_model.specs.declared.change.Change.{Change}
use Rattle.tdb_model.specs.Apply.{History}
use Rattle.tdb_overlay.specs.Found.{Finds, Store}
use Rattle.tdb_overlay.specs.Log.{IsCheckpointOn, IsCommitOn, IsLogOf, IsStep}
use Rattle.tdb_overlay.specs.StoreState.{StoreState, first_state}
use Rattle.tdb_overlay.proofs.Chains.{LogCounts, log_counts}

-- a text whose base is earlier is no checkpoint
pub no_checkpoint : (c : Commit) → IsInFormat c → c.base < c.count → c.kind ≡ 2 → ⊥
no_checkpoint c format earlier kind = ⊎_elim (λ commit. omega (arith, commit.0, kind)) (λ checkpoint. omega (arith, checkpoint.1, earlier)) format.kind

-- the counts of a chain with a last text
pub counts_of : (finds : Finds) (store : Store) (front : List Commit) (c : Commit) (chain : List Commit) (history : History) (last : StoreState) → chain ≡ front ++ c ∷ [] → AllByRecursion IsInFormat chain
    → IsLogOf finds store first_state chain history last → LogCounts chain last
counts_of finds store front c chain history last parts formats is =
    log_counts finds store chain history last (omega (arith, ap (λ (l : List Commit). length l) parts, length-append front (c ∷ []))) formats is

-- a text of a commit has the base of the state before it
pub commit_base : (finds : Finds) (store : Store) (before : StoreState) (c : Commit) (added : History) (after : StoreState) → IsInFormat c → c.base < c.count → IsStep finds store before c added after → c.base ≡ before.base
commit_base finds store before c added after format is_commit step = by_kind step.adds
  where
    by_kind : ((IsCheckpointOn finds store before c after × (added ≡ [])) ⊎ ((changes : List Change) × IsCommitOn finds store before c changes after × (added ≡ (c.count, changes) ∷ []))) → c.base ≡ before.base
    by_kind (inl checkpoint) = absurd (no_checkpoint c format is_commit checkpoint.0.kind)
    by_kind (inr commit) = commit.1.base

-- and as many segments as there are
pub commit_many : (finds : Finds) (store : Store) (before : StoreState) (c : Commit) (added : History) (after : StoreState) → IsInFormat c → c.base < c.count → IsStep finds store before c added after
    → c.segments ≡ before.space.segments
commit_many finds store before c added after format is_commit step = by_kind step.adds
  where
    by_kind : ((IsCheckpointOn finds store before c after × (added ≡ [])) ⊎ ((changes : List Change) × IsCommitOn finds store before c changes after × (added ≡ (c.count, changes) ∷ []))) → c.segments ≡ before.space.segments
    by_kind (inl checkpoint) = absurd (no_checkpoint c format is_commit checkpoint.0.kind)
    by_kind (inr commit) = commit.1.segments

-- the states between two parts of a chain
pub record IsSplit (finds : Finds) (store : Store) (before : StoreState) (front texts : List Commit) (history : History) (last : StoreState) : Type 0 where
  pub earlier : History
  pub mid : StoreState
  pub later : History
  pub first : IsLogOf finds store before front earlier mid
  pub second : IsLogOf finds store mid texts later last
  pub whole : history ≡ earlier ++ later

pub split : (finds : Finds) (store : Store) (before : StoreState) (front texts : List Commit) (history : History) (last : StoreState) → IsLogOf finds store before (front ++ texts) history last → IsSplit finds store before front texts history last
split finds store before [] texts history last is = record { earlier = []; mid = before; later = history; first = (refl, refl); second = is; whole = refl }
split finds store before (c ∷ front) texts history last is =
    let rest = split finds store is.1 front texts is.2 last is.4 in
    record {
      earlier = is.0 ++ rest.earlier;
      mid = rest.mid;
      later = rest.later;
      first = (is.0, is.1, rest.earlier, is.3, rest.first, refl);
      second = rest.second;
      whole = is.5 ∙ ap (λ (h : History). is.0 ++ h) rest.whole ∙ sym (append_assoc is.0 rest.earlier rest.later);
    }
