-- The log of a commit that was begun behind an anchor: that of the anchor, and the commit for a step.
use Rattle.std.proofs.Common.{◌≡◌, inl, inr, ⊎_elim, ℕ, ◌+◌, ◌≤◌, List, [], ◌∷◌, ◌++◌, Option, Some, refl, sym, ◌∙◌, ap, subst, add-one, arith}
use Rattle.std.proofs.lemmas.Option.{same_Some}
use Rattle.sha2.specs.Sha256.{sha256}
use Rattle.tdb_base.specs.Trace.{Trace}
use Rattle.tdb_mark.specs.declared.commit.Commit.{Commit}
use Rattle.tdb_mark.specs.CommitChain.{commit_chain}
use Rattle.tdb_mark.specs.CommitFormat.{IsInFormat}
use Rattle.tdb_mark.specs.CommitText.{commit_key_of, commit_of}
use Rattle.tdb_mark.specs.Unforged.{IsUnforged}
use Rattle.tdb_mark.proofs.DigestLemmas.{text_of_digest_is}
use Rattle.tdb_mark.proofs.TextLemmas.{commit_of_is}
use Rattle.tdb_model.specs.declared.change.Change.{Change}
use Rattle.tdb_model.specs.Apply.{History}
use Rattle.tdb_platform.specs.Outside.{Anchor}
use Rattle.tdb_overlay.specs.Found.{Finds, Store, in_trace, store_of_text}
use Rattle.tdb_overlay.specs.Log.{Adds, IsCommitOn, IsLog, IsLogOf, IsStep}
use Rattle.tdb_overlay.specs.Required.{base_of}
use Rattle.tdb_overlay.specs.StoreState.{StoreState, first_state}
use Rattle.tdb_overlay.specs.WellFormedLog.{IsWellFormedTrace, TextLog}
use Rattle.tdb_overlay.proofs.Chains.{LogCounts, log_counts, log_split}
use Rattle.tdb_overlay.proofs.OneLog.{chain_length, log_is_one}
use Rattle.tdb_overlay.proofs.RequiredLaws.{formats}
use Rattle.tdb_recover.specs.Pending.{IsPending}
use Rattle.tdb_recover.proofs.Ends.{LastText, last_text}

-- a text of a commit adds one
adds_commit : (f : Finds) (store : Store) (before : StoreState) (c : Commit) (added : History) (after : StoreState) → c.kind ≡ 1
    → Adds f store before c added after
    → (changes : List Change) × IsCommitOn f store before c changes after × (added ≡ (c.count, changes) ∷ [])
adds_commit f store before c added after kind (inl checkpoint) = absurd (omega (arith, checkpoint.0.kind, kind))
adds_commit f store before c added after kind (inr commit) = commit

module _ (store : Store) (t : Trace) (unforged : IsUnforged t (commit_of (commit_key_of store.secret)))
    (kept : IsWellFormedTrace t.written store.secret) (anchor : Anchor) (text : List ℕ) (c : Commit)
    (is : IsPending t.written store.secret anchor text c) (history : History) (from : StoreState)
    (log : IsLog t.written store anchor history from) where
  abbrev grammar : List ℕ → Option Commit
  grammar = commit_of (commit_key_of store.secret)

  abbrev other : Store
  other = store_of_text store.secret c

  pub format : IsInFormat c
  format = (commit_of_is (commit_key_of store.secret) text c is.accepted).in_format

  -- the base of a commit comes before it
  pub earlier_base : c.base + 1 ≤ c.count
  earlier_base = ⊎_elim (λ commit. omega (arith, commit.1)) (λ checkpoint. absurd (omega (arith, checkpoint.0, is.kind))) format.kind

  -- it comes after some text
  pub later : 1 ≤ anchor.0
  later = omega (arith, earlier_base, format.base, is.count)

  -- The text's log is the anchor's, and a step.
  pub record Behind : Type 0 where
    pub changes : List Change
    pub to : StoreState
    pub suite : c.suite ≡ store.suite
    pub commit : IsCommitOn (in_trace t.written) store from c changes to
    pub goes_on : commit_chain t.written (commit_of (commit_key_of store.secret)) c.count (sha256 text) ≡ Some (log.chain ++ c ∷ [])
    pub whole : IsLog t.written store (c.count, sha256 text) (history ++ (c.count, changes) ∷ []) to

  of_text : TextLog t.written store.secret text c (λ last. Unit {0})
  of_text = kept.texts text c is.was_written is.accepted

  ending : LastText t.written grammar anchor.0 (sha256 text) of_text.log.chain
  ending = last_text t.written grammar anchor.0 (sha256 text) of_text.log.chain
      (subst (λ (n : ℕ). commit_chain t.written grammar n (sha256 text) ≡ Some of_text.log.chain) (is.count ∙ add-one anchor.0)
      of_text.log.ends)

  is_last : ending.commit ≡ c
  is_last =
      let found = text_of_digest_is t.written (sha256 text) ending.text ending.found in
      let same : ending.text ≡ text = unforged.no_collision ending.text text (inl found.0) (inl is.was_written) found.1 in
      same_Some ending.commit c (sym ending.reads ∙ ap grammar same ∙ is.accepted)

  -- What stands before it is the anchor's chain.
  is_front : ending.front ≡ log.chain
  is_front = same_Some ending.front log.chain (sym ending.before ∙ ap (commit_chain t.written grammar anchor.0) marked ∙ log.ends)
    where
      marked : ending.commit.prev.0 ≡ anchor.1
      marked = ap (λ (d : Commit). d.prev.0) is_last ∙ is.mark

  chain_is : of_text.log.chain ≡ log.chain ++ c ∷ []
  chain_is = ending.parts ∙ ap (λ (d : Commit). ending.front ++ d ∷ []) is_last ∙ ap (λ (l : List Commit). l ++ c ∷ []) is_front

  -- The log of the text, in its two parts.
  record Split : Type 0 where
    before : History
    mid : StoreState
    added : History
    front : IsLogOf (in_trace t.written) other first_state log.chain before mid
    step : IsStep (in_trace t.written) other mid c added of_text.last
    whole : of_text.history ≡ before ++ added

  split : Split
  split =
      let parts = log_split (in_trace t.written) other first_state log.chain c of_text.history of_text.last
      (subst (λ (l : List Commit). IsLogOf (in_trace t.written) other first_state l of_text.history of_text.last) chain_is
      of_text.log.tells) in
      record { before = parts.0; mid = parts.1; added = parts.2; front = parts.3; step = parts.4; whole = parts.5 }

  one : (history ≡ split.before) × (from ≡ split.mid) × (1 ≤ anchor.0 → store ≡ other)
  one = log_is_one t.written store other refl anchor history split.before from split.mid log
      (record { chain = log.chain; ends = log.ends; tells = split.front })

  store_is : other ≡ store
  store_is = sym (one.2 later)

  pub behind : Behind
  behind =
      let adds = adds_commit (in_trace t.written) other split.mid c split.added of_text.last is.kind split.step.adds in
      let history_is : of_text.history ≡ history ++ (c.count, adds.0) ∷ [] =
      split.whole ∙ ap (λ (h : History). h ++ split.added) (sym one.0) ∙ ap (λ (h : History). history ++ h) adds.2 in
      record {
        changes = adds.0;
        to = of_text.last;
        suite = ap (λ (s : Store). s.suite) store_is;
        commit = subst (λ (s : Store). IsCommitOn (in_trace t.written) s from c adds.0 of_text.last) store_is
            (subst (λ (s : StoreState). IsCommitOn (in_trace t.written) other s c adds.0 of_text.last) (sym one.1) adds.1);
        goes_on = of_text.log.ends ∙ ap (λ (l : List Commit). Some l) chain_is;
        whole = subst (λ (s : Store). IsLog t.written s (c.count, sha256 text) (history ++ (c.count, adds.0) ∷ []) of_text.last) store_is
            (subst (λ (h : History). IsLog t.written other (c.count, sha256 text) h of_text.last) history_is of_text.log);
      }

  -- the counts of the log that it comes behind
  pub counted : LogCounts log.chain from
  counted = log_counts (in_trace t.written) store log.chain history from
      (omega (arith, later, chain_length t.written (commit_key_of store.secret) anchor.0 anchor.1 log.chain log.ends))
      (formats t.written store anchor history from log) log.tells

  pub base : c.base ≡ base_of log.chain
  base = behind.commit.base ∙ sym counted.base
