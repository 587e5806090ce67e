-- A commit that was begun on an anchor: its text was written, and the anchor wasn't advanced to it.
use Rattle.std.proofs.Common.{◌≡◌, ◌⊎◌, inl, inr, ⊎_elim, ℕ, ◌+◌, ◌≤◌, List, [], ◌∷◌, ◌++◌, Option, Some, refl, sym, ◌∙◌, ap, subst, append-nil, arith}
use Rattle.std.proofs.lemmas.Option.{same_Some}
use Rattle.sha2.specs.Sha256.{sha256}
use Rattle.tdb_base.specs.declared.piece.Piece.{Piece}
use Rattle.tdb_base.specs.Trace.{Trace}
use Rattle.tdb_mark.specs.declared.commit.Commit.{Commit}
use Rattle.tdb_mark.specs.CommitChain.{commit_chain}
use Rattle.tdb_mark.specs.CommitFormat.{IsInFormat}
use Rattle.tdb_mark.specs.CommitText.{commit_key_of, commit_of}
use Rattle.tdb_mark.specs.Unforged.{IsUnforged, WasWritten}
use Rattle.tdb_mark.proofs.DigestLemmas.{text_of_digest_is}
use Rattle.tdb_mark.proofs.TextLemmas.{commit_of_is}
use Rattle.tdb_model.specs.declared.change.Change.{Change}
use Rattle.tdb_model.specs.Apply.{History}
use Rattle.tdb_platform.specs.Outside.{Anchor}
use Rattle.tdb_overlay.specs.Changes.{HasChanges}
use Rattle.tdb_overlay.specs.Found.{Store, in_trace, store_of_text}
use Rattle.tdb_overlay.specs.Log.{Adds, IsLog, IsLogOf, IsStep}
use Rattle.tdb_overlay.specs.NextText.{NamesMark}
use Rattle.tdb_overlay.specs.Ran.{Leads}
use Rattle.tdb_overlay.specs.Required.{IsRequired, RestsOn, base_of}
use Rattle.tdb_overlay.specs.StoreState.{StoreState, first_state}
use Rattle.tdb_overlay.specs.WellFormedLog.{IsAccepted, IsWellFormedTrace, NamesText}
use Rattle.tdb_overlay.proofs.Chains.{chain_last-at, log_split}
use Rattle.tdb_overlay.proofs.LogLaws.{trace_finds_one}
use Rattle.tdb_overlay.proofs.Needing.{base_of-last}
use Rattle.tdb_overlay.proofs.NextLaws.{last_or_front}
use Rattle.tdb_overlay.proofs.OneLog.{log_is_one, text_changes_one}
use Rattle.tdb_overlay.proofs.RequiredLaws.{counts}

one_commit : (x y : Commit) → ◌≡◌ {A = Option Commit} (Some x) (Some y) → x ≡ y
one_commit x y e = cc e

module _ (secret : List ℕ) (t : Trace) (unforged : IsUnforged t (commit_of (commit_key_of secret)))
    (kept : IsWellFormedTrace t.written secret) (anchor : Anchor) (text : List ℕ) (c : Commit)
    (was : WasWritten t.written text) (accepted : IsAccepted secret text c) (kind : c.kind ≡ 1) (count : c.count ≡ anchor.0 + 1)
    (mark : NamesMark anchor c) where
  abbrev grammar : List ℕ → Option Commit
  grammar = commit_of (commit_key_of secret)

  format : IsInFormat c
  format = (commit_of_is (commit_key_of secret) text c accepted).in_format

  -- it comes after some text
  later : 1 ≤ anchor.0
  later = ⊎_elim (λ commit. omega (arith, commit.1, format.base, count))
      (λ checkpoint. absurd (omega (arith, checkpoint.0, kind))) format.kind

  -- The text's log is one of the anchor, and a step.
  record Splits : Type 0 where
    before : History
    mid : StoreState
    added : History
    last : StoreState
    front : List Commit
    ends : commit_chain t.written grammar anchor.0 anchor.1 ≡ Some front
    all_ends : commit_chain t.written grammar c.count (sha256 text) ≡ Some (front ++ c ∷ [])
    log : IsLog t.written (store_of_text secret c) anchor before mid
    step : IsStep (in_trace t.written) (store_of_text secret c) mid c added last
    whole : IsLog t.written (store_of_text secret c) (c.count, sha256 text) (before ++ added) last

  marked : NamesMark anchor c → anchor.1 ≡ c.prev.0
  marked (inl first) = absurd (omega (arith, first.0, later))
  marked (inr named) = sym named.1

  splits : Splits
  splits =
      let of_text = kept.texts text c was accepted in
      let a = chain_last-at t.written grammar (sha256 text) of_text.log.chain anchor.0 c.count count of_text.log.ends in
      let found = text_of_digest_is t.written (sha256 text) a.0 a.3 in
      let same_text : a.0 ≡ text = unforged.no_collision a.0 text (inl found.0) (inl was) found.1 in
      let same : a.1 ≡ c = one_commit a.1 c (sym a.4 ∙ ap grammar same_text ∙ accepted) in
      let chain : of_text.log.chain ≡ a.2 ++ c ∷ [] = a.7 ∙ ap (λ (d : Commit). a.2 ++ d ∷ []) same in
      let ends : commit_chain t.written grammar anchor.0 anchor.1 ≡ Some a.2 =
      ap (commit_chain t.written grammar anchor.0) (marked mark ∙ ap (λ (d : Commit). d.prev.0) (sym same)) ∙ a.6 in
      let split = log_split (in_trace t.written) (store_of_text secret c) first_state a.2 c of_text.history of_text.last
      (subst (λ (l : List Commit). IsLogOf (in_trace t.written)
      (store_of_text secret c) first_state l of_text.history of_text.last) chain of_text.log.tells) in
      record {
        before = split.0;
        mid = split.1;
        added = split.2;
        last = of_text.last;
        front = a.2;
        ends = ends;
        all_ends = of_text.log.ends ∙ ap (λ (l : List Commit). Some l) chain;
        log = record { chain = a.2; ends = ends; tells = split.3 };
        step = split.4;
        whole = subst (λ (h : History). IsLog t.written (store_of_text secret c) (c.count, sha256 text) h of_text.last) split.5 of_text.log;
      }

  -- Its log has the changes of its list, behind the anchor's.
  pub pending_leads : (store : Store) → store.secret ≡ secret → (changes : List Change) → HasChanges (in_trace t.written) secret c changes
      → Leads store t.written t.written ((c.count, changes) ∷ []) [] anchor (c.count, sha256 text)
  pending_leads store secrets changes list before from is =
      let s = splits in
      let one = log_is_one t.written store (store_of_text secret c) secrets anchor before s.before from s.mid is s.log in
      let store_is : store ≡ store_of_text secret c = one.2 later in
      let adds : s.added ≡ (c.count, changes) ∷ [] = by s.mid s.added s.last s.step.adds in (
        [],
        s.last,
        ([], refl),
        subst (λ (x : Store). IsLog t.written x (c.count, sha256 text) (before ++ (((c.count, changes) ∷ []) ++ [])) s.last) (sym store_is)
            (subst (λ (h : History). IsLog t.written (store_of_text secret c) (c.count, sha256 text) h s.last)
            (ap (λ (h : History). h ++ s.added) (sym one.0)
            ∙ ap (λ (h : History). before ++ h) (adds ∙ sym (append-nil ((c.count, changes) ∷ [])))) s.whole),
      )
    where
      by : (mid : StoreState) (added : History) (last : StoreState)
          → Adds (in_trace t.written) (store_of_text secret c) mid c added last → added ≡ (c.count, changes) ∷ []
      by mid added last (inl checkpoint) = absurd (omega (arith, checkpoint.0.kind, kind))
      by mid added last (inr commit) =
          commit.2 ∙ ap (λ (cs : List Change). let h : History = (c.count, cs) ∷ [] in h)
          (text_changes_one (in_trace t.written) (trace_finds_one t.written) secret c commit.0 changes commit.1.list list)

  -- The anchor of it names a text.
  pub pending_named : NamesText t.written secret (c.count, sha256 text)
  pending_named = record { text = text; commit = c; was_written = was; accepted = accepted; count = refl; mark = refl }

  -- Its log needs what it rests on, and what the anchor's needed.
  pub pending_required : (store : Store) → store.secret ≡ secret → (piece : Piece)
      → IsRequired t.written store (c.count, sha256 text) piece → RestsOn (in_trace t.written) store.secret c piece
      ⊎ IsRequired t.written store anchor piece
  pending_required store secrets piece r =
      let s = splits in
      let own : commit_chain t.written (commit_of (commit_key_of store.secret)) c.count (sha256 text) ≡ Some (s.front ++ c ∷ []) =
      ap (λ (k : List ℕ). commit_chain t.written (commit_of (commit_key_of k)) c.count (sha256 text)) secrets ∙ s.all_ends in
      let chain : r.chain ≡ s.front ++ c ∷ [] = same_Some r.chain (s.front ++ c ∷ []) (sym r.ends ∙ own) in
      ⊎_elim
      (λ last. inl (subst (λ (k : Commit). RestsOn (in_trace t.written) store.secret k piece) last r.rests))
      (λ front. inr (record {
        chain = s.front;
        ends = ap (λ (k : List ℕ). commit_chain t.written (commit_of (commit_key_of k)) anchor.0 anchor.1) secrets ∙ s.ends;
        text = r.text;
        earlier = r.earlier;
        later = front.0;
        in_chain = front.1;
        since_base = since r.earlier r.text front.0 front.1 (omega (arith, base_of-last s.front c, ap base_of chain, r.since_base));
        rests = r.rests;
      }))
      (last_or_front s.front c r.earlier r.text r.later (sym chain ∙ r.in_chain))
    where
      since : (earlier : List Commit) (d : Commit) (more : List Commit) → splits.front ≡ earlier ++ d ∷ more → c.base ≤ d.count
          → base_of splits.front ≤ d.count
      since earlier d more split low =
          let own : splits.log.chain ≡ splits.front = same_Some splits.log.chain splits.front (sym splits.log.ends ∙ splits.ends) in
          let counted = counts t.written (store_of_text secret c) anchor splits.before splits.mid splits.log earlier d more (own ∙ split) in
          omega (arith, counted.base, ap base_of own, low, base_is splits.mid splits.added splits.last splits.step.adds)
        where
          base_is : (mid : StoreState) (added : History) (last : StoreState)
              → Adds (in_trace t.written) (store_of_text secret c) mid c added last → c.base ≡ mid.base
          base_is mid added last (inl checkpoint) = absurd (omega (arith, checkpoint.0.kind, kind))
          base_is mid added last (inr commit) = commit.1.base
