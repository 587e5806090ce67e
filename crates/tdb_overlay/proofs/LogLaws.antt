-- A log stays as more is written, becomes longer by a text, and leads to the state of its history.
use Rattle.std.proofs.Common.{◌⊎◌, ◌≡◌, inl, inr, ⊎_elim, ◌+◌, ◌==◌, ℕ, Bool, true, false, cond, List, [], ◌∷◌, ◌++◌, Option, Some, None, Result, Ok, Err, refl, sym, ◌∙◌, ap, subst, append-nil, append_assoc}
use Rattle.std.proofs.lemmas.Bool.{false≢true, eq-eqb}
use Rattle.std.proofs.lemmas.Option.{same_Some}
use Rattle.tdb_base.specs.declared.piece.Piece.{Piece}
use Rattle.tdb_base.specs.declared.piece.Place.{Place}
use Rattle.tdb_base.specs.declared.piece.NoRoom as refusals
use Rattle.tdb_base.specs.Trace.{WrittenPiece}
use Rattle.tdb_list.specs.declared.entry.Entry.{Entry}
use Rattle.tdb_mark.specs.declared.commit.Commit.{Commit}
use Rattle.tdb_mark.specs.CommitText.{commit_key_of, commit_of}
use Rattle.tdb_mark.proofs.DigestLemmas.{text_of_digest-stays}
use Rattle.tdb_mark.proofs.ChainLemmas.{commit_chain-stays}
use Rattle.tdb_model.specs.declared.change.Change.{Change}
use Rattle.tdb_model.specs.declared.change.Change.TheVariants.{Write, Free, Make, Copy, Drop}
use Rattle.tdb_model.specs.declared.error.CommitError.{CommitError}
use Rattle.tdb_model.specs.declared.error.CommitError.TheVariants.{RingFull, CounterEnd}
use Rattle.tdb_model.specs.Apply.{History, apply_all, replay, state_of}
use Rattle.tdb_model.specs.Check.{check_commit}
use Rattle.tdb_model.specs.State.{State}
use Rattle.tdb_platform.specs.Outside.{Anchor}
use Rattle.tdb_seg.specs.SegmentSpace.{SegmentSpace}
use Rattle.tdb_overlay.specs.CheckpointState.{IsReached}
use Rattle.tdb_overlay.proofs.CheckpointLaws.{narrow_stays, reached_before, tree_stays}
use Rattle.tdb_overlay.specs.Changes.{IsChangeOf, AreChangesOf, HasChanges, HasTable}
use Rattle.tdb_overlay.specs.Found.{Finds, FindsOne, Finer, Store, in_trace}
use Rattle.tdb_overlay.specs.Log.{IsCommitOn, IsCheckpointOn, Adds, IsStep, IsLogOf, IsLog}
use Rattle.tdb_overlay.specs.StoreState.{StoreState, first_state, commit_fits, commit_on, committed, where_placed, where_passed}

-- a longer trace finds what a trace finds
pub found_still : (written more : List WrittenPiece) → Finer (in_trace written) (in_trace (written ++ more))
found_still written more piece bytes found = (text_of_digest-stays written more piece.digest.0 bytes found.0, found.1)

-- a trace finds one list of bytes at most
pub trace_finds_one : (written : List WrittenPiece) → FindsOne (in_trace written)
trace_finds_one written piece x y a b = same_Some x y (sym a.0 ∙ b.0)

module _ (f g : Finds) (finer : Finer f g) where
  change_stays : (secret : List ℕ) (e : Entry) (change : Change) → IsChangeOf f secret e change → IsChangeOf g secret e change
  change_stays secret e (Write part rank bytes) is =
      let w = is.3 in
      (is.0, is.1, is.2, record { suite = w.suite; numbered = w.numbered; sealed = w.sealed; found = finer e.piece w.sealed w.found; opened = w.opened })
  change_stays secret e (Free part rank) is = is
  change_stays secret e (Make part suite) is = is
  change_stays secret e (Copy from to) is = is
  change_stays secret e (Drop part) is = is

  pub changes_stay : (secret : List ℕ) (entries : List Entry) (changes : List Change) → AreChangesOf f secret entries changes → AreChangesOf g secret entries changes
  changes_stay secret [] [] are = tt
  changes_stay secret (e ∷ entries) (change ∷ changes) are = (change_stays secret e change are.0, changes_stay secret entries changes are.1)
  changes_stay secret [] (change ∷ changes) are = absurd are
  changes_stay secret (e ∷ entries) [] are = absurd are

  abbrev pub list_stays : (secret : List ℕ) (c : Commit) (changes : List Change) → HasChanges f secret c changes → HasChanges g secret c changes
  list_stays secret c changes h = record {
    sealed = h.sealed;
    plain = h.plain;
    entries = h.entries;
    found = finer c.first h.sealed h.found;
    opened = h.opened;
    list = h.list;
    each = changes_stay secret h.entries changes h.each;
  }

  abbrev pub table_stays : (secret : List ℕ) (c : Commit) → HasTable f secret c → HasTable g secret c
  table_stays secret c h = record {
    sealed = h.sealed;
    table = h.table;
    found = finer c.first h.sealed h.found;
    opened = h.opened;
    is_table = h.is_table;
    value = h.value;
    segments = h.segments;
    used = h.used;
  }

  module _ (store : Store) where
    pub commit_stays : (before : StoreState) (c : Commit) (changes : List Change) (after : StoreState) → IsCommitOn f store before c changes after → IsCommitOn g store before c changes after
    commit_stays before c changes after is = record {
      kind = is.kind;
      next = is.next;
      base = is.base;
      segments = is.segments;
      allowed = is.allowed;
      list = list_stays store.secret c changes is.list;
      owned = is.owned;
      placed = is.placed;
    }

    module _ (one : FindsOne g) where
      pub checkpoint_stays : (before : StoreState) (c : Commit) (after : StoreState) → IsCheckpointOn f store before c after → IsCheckpointOn g store before c after
      checkpoint_stays before c after is =
          let rested : (piece : Piece) → (piece ≡ c.first) ⊎ IsReached g store c.root piece → (piece ≡ c.first) ⊎ IsReached f store c.root piece =
          λ piece here. ⊎_elim (λ same. inl same) (λ reached. inr (reached_before f g finer one store c.root before.chunks piece is.tree reached)) here in
          record {
            kind = is.kind;
            next = is.next;
            segments = is.segments;
            table = table_stays store.secret c is.table;
            tree = tree_stays f g finer store c.root before.chunks is.tree;
            narrow = narrow_stays f g finer store c.root is.narrow;
            after_is = is.after_is;
            placed = λ piece here. is.placed piece (rested piece here);
            apart = λ p q p_here q_here. is.apart p q (rested p p_here) (rested q q_here);
          }

      adds_stays : (before : StoreState) (c : Commit) (added : History) (after : StoreState) → Adds f store before c added after → Adds g store before c added after
      adds_stays before c added after (inl checkpoint) = inl (checkpoint_stays before c after checkpoint.0, checkpoint.1)
      adds_stays before c added after (inr commit) = inr (commit.0, commit_stays before c commit.0 after commit.1, commit.2)

      pub step_stays : (before : StoreState) (c : Commit) (added : History) (after : StoreState) → IsStep f store before c added after → IsStep g store before c added after
      step_stays before c added after is = record { suite = is.suite; adds = adds_stays before c added after is.adds }

      pub log_of_stays : (before : StoreState) (chain : List Commit) (history : History) (last : StoreState) → IsLogOf f store before chain history last → IsLogOf g store before chain history last
      log_of_stays before [] history last is = is
      log_of_stays before (c ∷ chain) history last is =
          (is.0, is.1, is.2, step_stays before c is.0 is.1 is.3, log_of_stays is.1 chain is.2 last is.4, is.5)

-- The log of an anchor stays as more is written.
pub log_stays : (written more : List WrittenPiece) (store : Store) (anchor : Anchor) (history : History) (last : StoreState) → IsLog written store anchor history last
    → IsLog (written ++ more) store anchor history last
log_stays written more store anchor history last is = record {
  chain = is.chain;
  ends = commit_chain-stays written more (commit_of (commit_key_of store.secret)) anchor.0 anchor.1 is.chain is.ends;
  tells = log_of_stays (in_trace written) (in_trace (written ++ more)) (found_still written more) store (trace_finds_one (written ++ more)) first_state is.chain history last is.tells;
}

-- A log becomes longer by a text.
pub log_longer : (f : Finds) (store : Store) (before : StoreState) (chain : List Commit) (c : Commit) (history added : History) (mid last : StoreState)
    → IsLogOf f store before chain history mid → IsStep f store mid c added last → IsLogOf f store before (chain ++ c ∷ []) (history ++ added) last
log_longer f store before [] c history added mid last is step =
    (added, last, [], subst (λ (s : StoreState). IsStep f store s c added last) is.1 step, (refl, refl), ap (λ (h : History). h ++ added) is.0 ∙ sym (append-nil added))
log_longer f store before (d ∷ chain) c history added mid last is step =
    (is.0, is.1, is.2 ++ added, is.3, log_longer f store is.1 chain c is.2 added mid last is.4 step, ap (λ (h : History). h ++ added) is.5 ∙ append_assoc is.0 is.2 added)

-- What it takes that a commit is allowed, and what it leads to.
pub record Allows (store : Store) (s : StoreState) (changes : List Change) (after : StoreState) : Type 0 where
  pub passes : check_commit s.chunks changes ≡ None
  pub not_full : s.count ≡ s.base + 1000 → ⊥
  pub not_end : s.count ≡ 18446744073709551615 → ⊥
  pub places : List Place
  pub space : SegmentSpace
  pub fits : commit_fits store s changes ≡ Ok (places, space)
  pub after_is : after ≡ committed s changes space

module _ (store : Store) (s : StoreState) (changes : List Change) (after : StoreState) where
  placed_is : (r : Result (List Place × SegmentSpace) refusals.NoRoom) → where_placed s changes r ≡ Ok after
      → (places : List Place) × (space : SegmentSpace) × (r ≡ Ok (places, space)) × (after ≡ committed s changes space)
  placed_is (Ok placed) is = (placed.0, placed.1, refl, same (committed s changes placed.1) after is)
    where
      same : (x y : StoreState) → ◌≡◌ {A = Result StoreState CommitError} (Ok x) (Ok y) → y ≡ x
      same x y e = cc
  placed_is (Err refusal) is = absurd (cc is)

  passed_tests : (full end : Bool) (r : Result StoreState CommitError) → cond full (Err RingFull) (cond end (Err CounterEnd) r) ≡ Ok after → (full ≡ false) × (end ≡ false) × (r ≡ Ok after)
  passed_tests true end r is = absurd (cc is)
  passed_tests false true r is = absurd (cc is)
  passed_tests false false r is = (refl, refl, is)

  passed_is : (o : Option CommitError) → check_commit s.chunks changes ≡ o → where_passed store s changes o ≡ Ok after → Allows store s changes after
  passed_is (Some refusal) passes is = absurd (cc is)
  passed_is None passes is =
      let tests = passed_tests (s.count == s.base + 1000) (s.count == 18446744073709551615) (where_placed s changes (commit_fits store s changes)) is in
      let placed = placed_is (commit_fits store s changes) tests.2 in
      record {
        passes = passes;
        not_full = λ full. false≢true (sym tests.0 ∙ eq-eqb s.count (s.base + 1000) full);
        not_end = λ end. false≢true (sym tests.1 ∙ eq-eqb s.count 18446744073709551615 end);
        places = placed.0;
        space = placed.1;
        fits = placed.2;
        after_is = placed.3;
      }

  pub allows : commit_on store s changes ≡ Ok after → Allows store s changes after
  unfolding commit_on
  allows is = passed_is (check_commit s.chunks changes) refl is

-- the changes of some commits, and those of others behind them
replay-both : (state : State) (first later : History) → replay state (first ++ later) ≡ replay (replay state first) later
replay-both state [] later = refl
replay-both state (commit ∷ first) later = replay-both (apply_all commit.0 state commit.1) first later

module _ (f : Finds) (store : Store) where
  adds_state : (before : StoreState) (c : Commit) (added : History) (after : StoreState) → Adds f store before c added after → after.chunks ≡ replay before.chunks added
  adds_state before c added after (inl checkpoint) =
      ap (λ (s : StoreState). s.chunks) checkpoint.0.after_is ∙ sym (ap (replay before.chunks) checkpoint.1)
  adds_state before c added after (inr commit) =
      let is = commit.1 in
      ap (λ (s : StoreState). s.chunks) (allows store before commit.0 after is.allowed).after_is
      ∙ ap (λ (n : ℕ). apply_all n before.chunks commit.0) (sym is.next)
      ∙ sym (ap (replay before.chunks) commit.2)

  log_of_state : (before : StoreState) (chain : List Commit) (history : History) (last : StoreState) → IsLogOf f store before chain history last → last.chunks ≡ replay before.chunks history
  log_of_state before [] history last is = ap (λ (s : StoreState). s.chunks) is.1 ∙ sym (ap (replay before.chunks) is.0)
  log_of_state before (c ∷ chain) history last is =
      log_of_state is.1 chain is.2 last is.4
      ∙ ap (λ (state : State). replay state is.2) (adds_state before c is.0 is.1 is.3.adds)
      ∙ sym (ap (replay before.chunks) is.5 ∙ replay-both before.chunks is.0 is.2)

  -- A log leads to the state of its history.
  pub log_state : (chain : List Commit) (history : History) (last : StoreState) → IsLogOf f store first_state chain history last → last.chunks ≡ state_of history
  log_state chain history last is = log_of_state first_state chain history last is
