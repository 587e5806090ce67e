-- Where the pieces stand that a log needs, and which those are in a longer trace.
use Rattle.std.proofs.Common.{◌≡◌, inl, inr, ⊎_elim, ◌≤◌, IsNone, List, [], ◌∷◌, ◌++◌, length, Option, Some, refl, sym, ◌∙◌, ap, subst, arith, ◌⊎◌, ℕ, zero, suc}
use Rattle.std.proofs.lemmas.Option.{same_Some}
use Rattle.std.specs.List.{AllByRecursion}
use Rattle.tdb_base.specs.declared.piece.Piece.{Piece}
use Rattle.tdb_base.specs.declared.suite.Suite.{Suite}
use Rattle.tdb_base.specs.Trace.{WrittenPiece}
use Rattle.tdb_mark.specs.declared.commit.Commit.{Commit}
use Rattle.tdb_mark.specs.CommitChain.{commit_chain}
use Rattle.tdb_mark.specs.CommitFormat.{IsInFormat}
use Rattle.sha2.specs.Sha256.{sha256}
use Rattle.tdb_mark.specs.CommitText.{commit_key_of, commit_of, commit_text}
use Rattle.tdb_mark.specs.TextOfDigest.{text_of_digest}
use Rattle.tdb_mark.proofs.DigestLemmas.{text_of_digest_is}
use Rattle.tdb_mark.proofs.TextLemmas.{commit_of_is}
use Rattle.tdb_mark.proofs.ChainLemmas.{commit_chain-stays}
use Rattle.tdb_model.specs.Apply.{History}
use Rattle.tdb_platform.specs.Outside.{Anchor}
use Rattle.tdb_seg.specs.SegmentSpace.{IsSegmentSpace}
use Rattle.tdb_overlay.specs.Changes.{named_records}
use Rattle.tdb_overlay.specs.CheckpointState.{IsReached}
use Rattle.tdb_overlay.specs.Found.{Finds, FindsOne, Finer, Store, in_trace, store_of_text}
use Rattle.tdb_overlay.specs.Log.{Adds, IsLog, IsLogOf}
use Rattle.tdb_overlay.specs.Required.{IsNamedBy, IsRequired, RestsOn, base_of}
use Rattle.tdb_overlay.specs.WellFormedLog.{IsAccepted}
use Rattle.tdb_seal.specs.SealedRecord.{IsSealedRecord}
use Rattle.tdb_seal.specs.declared.record.Name.{Name}
use Rattle.tdb_overlay.specs.RequiredPlaces.{IsWhereRequired}
use Rattle.tdb_overlay.specs.StoreState.{StoreState, first_state}
use Rattle.tdb_overlay.proofs.Chains.{LogCounts, chain_in_format, chain_last, log_counts}
use Rattle.tdb_overlay.proofs.CheckpointLaws.{none_reached, reached_before}
use Rattle.tdb_overlay.proofs.Lengths.{trace_sized}
use Rattle.tdb_overlay.proofs.Listed.{all_at, all_more}
use Rattle.tdb_overlay.proofs.Magics.{sealed_is_no_text}
use Rattle.tdb_overlay.proofs.LogLaws.{found_still, list_stays, trace_finds_one}
use Rattle.tdb_overlay.proofs.Needing.{rests_still}
use Rattle.tdb_overlay.proofs.PlacedLogs.{IsIn, TextAt, commit_pieces, is_none, log_space, one_list, reached_placed, text_at}

-- The text of a chain was written under its digest.
abbrev HasText : List WrittenPiece → List ℕ → Commit → Type 0
HasText written secret c = (text : List ℕ) × (text_of_digest written (sha256 text) ≡ Some text) × (commit_of (commit_key_of secret) text ≡ Some c)

all_texts : (written : List WrittenPiece) (secret : List ℕ) (n : ℕ) (mark : List ℕ) (chain : List Commit)
    → commit_chain written (commit_of (commit_key_of secret)) n mark ≡ Some chain → AllByRecursion (HasText written secret) chain
all_texts written secret zero mark chain ends = subst (AllByRecursion (HasText written secret)) (same_Some [] chain ends) tt
all_texts written secret (suc n) mark chain ends =
    let a = chain_last written (commit_of (commit_key_of secret)) mark chain n ends in
    let digest : sha256 a.0 ≡ mark = (text_of_digest_is written mark a.0 a.3).1 in
    let own : HasText written secret a.1 = (a.0, subst (λ (m : List ℕ). text_of_digest written m ≡ Some a.0) (sym digest) a.3, a.4) in
    subst (AllByRecursion (HasText written secret)) (sym a.7)
    (all_more (HasText written secret) a.2 a.1 (all_texts written secret n a.1.prev.0 a.2 a.6) own)

some_of : (earlier : List Commit) (text : Commit) (later : List Commit) → 1 ≤ length (earlier ++ text ∷ later)
some_of [] text later = omega arith
some_of (d ∷ earlier) text later = omega arith

-- a text of a log, and what it rests on
module _ (written : List WrittenPiece) (store : Store) (anchor : Anchor) (history : History) (last : StoreState)
    (is : IsLog written store anchor history last) where
  abbrev told : Finds
  told = in_trace written

  pub formats : AllByRecursion IsInFormat is.chain
  formats = chain_in_format written (commit_key_of store.secret) anchor.0 anchor.1 is.chain is.ends

  pub last_space : 1 ≤ length is.chain → IsSegmentSpace last.space
  last_space some =
      ⊎_elim (λ none. absurd (omega (arith, none, (log_counts told store is.chain history last some formats is.tells).some)))
      (λ valid. valid)
      (log_space told (trace_sized written) store first_state is.chain history last formats (inl refl) is.tells)

  module _ (earlier : List Commit) (text : Commit) (later : List Commit) (split : is.chain ≡ earlier ++ text ∷ later) where
    at_text : TextAt told (trace_sized written) store text last
    at_text =
        text_at told (trace_sized written) store earlier text later history last (subst (AllByRecursion IsInFormat) split formats)
        (subst (λ (chain : List Commit). IsLogOf told store first_state chain history last) split is.tells)

    pub counts : LogCounts is.chain last
    counts = log_counts told store is.chain history last
        (subst (λ (chain : List Commit). 1 ≤ length chain) (sym split) (some_of earlier text later)) formats is.tells

    module _ (since : last.base ≤ text.count) (piece : Piece) where
      -- What it rests on beside its own bytes was placed.
      rests_placed : (piece ≡ text.first) ⊎ IsNamedBy told store.secret text piece
          ⊎ IsReached told (store_of_text store.secret text) text.root piece → IsIn last.space piece
      rests_placed (inl same) = subst (IsIn last.space) (sym same) (at_text.first since)
      rests_placed (inr (inl named)) =
          let list = commit_pieces told (trace_sized written) store text last at_text named.kind in
          let entries : named.list.entries ≡ list.1.entries = one_list told
          (trace_finds_one written) store.secret text named.changes list.0 named.list list.1 in
          let names : named_records list.1.entries ≡ named.before ++ piece ∷ named.after = ap named_records (sym entries) ∙ named.names in
          all_at (IsIn last.space) named.before piece named.after (subst (AllByRecursion (IsIn last.space)) names (list.2 since))
      rests_placed (inr (inr reached)) = reached_placed told (trace_sized written) store text last at_text piece reached since

      rests_where : RestsOn told store.secret text piece → IsWhereRequired last piece
      rests_where (inl same) = inl (record {
        count = text.count;
        least = at_text.some;
        most = at_text.counted;
        near = omega (arith, counts.commits, since);
        place = ap (λ (p : Piece). p.place.0) same;
        size = ap (λ (p : Piece). p.length) same;
      })
      rests_where (inr rests) = inr (rests_placed rests)

    -- What it rests on where more was written, it rested on.
    pub rests_before : (g : Finds) → Finer told g → FindsOne g → (piece : Piece) → RestsOn g store.secret text piece
        → RestsOn told store.secret text piece
    rests_before g finer one piece (inl same) = inl same
    rests_before g finer one piece (inr (inl same)) = inr (inl same)
    rests_before g finer one piece (inr (inr (inl named))) =
        let list = commit_pieces told (trace_sized written) store text last at_text named.kind in
        let entries : named.list.entries ≡ list.1.entries = one_list g one store.secret text named.changes list.0 named.list
        (list_stays told g finer store.secret text list.0 list.1) in
        inr (inr (inl (record { kind = named.kind; changes = list.0; list = list.1; before = named.before; after = named.after; names = ap named_records (sym entries) ∙ named.names })))
    rests_before g finer one piece (inr (inr (inr reached))) = inr (inr (inr (by at_text.step.adds)))
      where
        in_store : IsReached g store text.root piece
        in_store = subst (λ (s : Suite). IsReached g
            (record { secret = store.secret; suite = s }) text.root piece) at_text.step.suite reached

        no_root : IsNone text.root → ⊥
        no_root none = none_reached g store piece
            (subst (λ (r : Option Piece). IsReached g store r piece) (is_none text.root none) in_store)

        by : Adds told store at_text.before text at_text.added at_text.after
            → IsReached told (store_of_text store.secret text) text.root piece
        by (inl checkpoint) =
            subst (λ (s : Suite). IsReached told (record { secret = store.secret; suite = s }) text.root piece) (sym at_text.step.suite)
            (reached_before told g finer one store text.root at_text.before.chunks piece checkpoint.0.tree in_store)
        by (inr commit) = absurd
            (⊎_elim (λ kind. no_root kind.2) (λ kind. absurd (omega (arith, kind.0, commit.1.kind))) at_text.format.kind)

  -- Each piece that a log needs has the slot of a recent text, or was placed.
  pub required_is_placed : (piece : Piece) → IsRequired written store anchor piece → IsWhereRequired last piece
  required_is_placed piece r =
      let chain : r.chain ≡ is.chain = same_Some r.chain is.chain (sym r.ends ∙ is.ends) in
      let split : is.chain ≡ r.earlier ++ r.text ∷ r.later = sym chain ∙ r.in_chain in
      rests_where r.earlier r.text r.later split
      (omega (arith, (counts r.earlier r.text r.later split).base, ap base_of chain, r.since_base)) piece r.rests

  -- A sealed record that a log needs was placed.
  pub record_is_placed : (piece : Piece) (bytes key plain : List ℕ) (name : Name) → IsRequired written store anchor piece
      → in_trace written piece bytes → IsSealedRecord key name plain bytes → IsIn last.space piece
  record_is_placed piece bytes key plain name r found sealed = by r.rests
    where
      chain : r.chain ≡ is.chain
      chain = same_Some r.chain is.chain (sym r.ends ∙ is.ends)

      split : is.chain ≡ r.earlier ++ r.text ∷ r.later
      split = sym chain ∙ r.in_chain

      since : last.base ≤ r.text.count
      since = omega (arith, (counts r.earlier r.text r.later split).base, ap base_of chain, r.since_base)

      by : RestsOn told store.secret r.text piece → IsIn last.space piece
      by (inl same) =
          let texts = all_texts written store.secret anchor.0 anchor.1 r.chain r.ends in
          let own = all_at (HasText written store.secret) r.earlier r.text r.later (subst (AllByRecursion (HasText written store.secret)) r.in_chain texts) in
          let spelled : own.0 ≡ commit_text (commit_key_of store.secret) r.text = (commit_of_is (commit_key_of store.secret) own.0 r.text own.2).spelled in
          let digest : sha256 own.0 ≡ piece.digest.0 = ap sha256 spelled ∙ ap (λ (p : Piece). p.digest.0) (sym same) in
          let one : own.0 ≡ bytes = same_Some own.0 bytes
          (sym (subst (λ (d : List ℕ). text_of_digest written d ≡ Some own.0) digest own.1) ∙ found.0) in
          absurd (sealed_is_no_text store.secret bytes key plain name r.text sealed (subst (λ (b : List ℕ). IsAccepted store.secret b r.text) one own.2))
      by (inr rests) = rests_placed r.earlier r.text r.later split since piece rests

  -- The last state has segments, where the log needs something.
  pub required_space : (piece : Piece) → IsRequired written store anchor piece → IsSegmentSpace last.space
  required_space piece r =
      let chain : is.chain ≡ r.earlier ++ r.text ∷ r.later = same_Some is.chain r.chain (sym is.ends ∙ r.ends) ∙ r.in_chain in
      last_space (subst (λ (l : List Commit). 1 ≤ length l) (sym chain) (some_of r.earlier r.text r.later))

  -- What it needs where more was written, it needed.
  pub required_before : (more : List WrittenPiece) (piece : Piece) → IsRequired (written ++ more) store anchor piece
      → IsRequired written store anchor piece
  required_before more piece r =
      let later : commit_chain (written ++ more) (commit_of (commit_key_of store.secret)) anchor.0 anchor.1 ≡ Some is.chain =
      commit_chain-stays written more (commit_of (commit_key_of store.secret)) anchor.0 anchor.1 is.chain is.ends in
      let chain : r.chain ≡ is.chain = same_Some r.chain is.chain (sym r.ends ∙ later) in
      let split : is.chain ≡ r.earlier ++ r.text ∷ r.later = sym chain ∙ r.in_chain in
      text_required r.earlier r.text r.later split (omega (arith, ap base_of chain, r.since_base)) (in_trace (written ++ more))
      (found_still written more) (trace_finds_one (written ++ more)) piece r.rests
    where
      text_required : (earlier : List Commit) (text : Commit) (rest : List Commit) → is.chain ≡ earlier ++ text ∷ rest
          → base_of is.chain ≤ text.count → (g : Finds) → Finer told g → FindsOne g → (piece : Piece)
          → RestsOn g store.secret text piece → IsRequired written store anchor piece
      text_required earlier text rest split since g finer one piece rests = record {
        chain = is.chain;
        ends = is.ends;
        text = text;
        earlier = earlier;
        later = rest;
        in_chain = split;
        since_base = since;
        rests = rests_before earlier text rest split g finer one piece rests;
      }

-- what it needed, it needs where more was written
pub required_still : (written more : List WrittenPiece) (store : Store) (anchor : Anchor) (piece : Piece)
    → IsRequired written store anchor piece → IsRequired (written ++ more) store anchor piece
required_still written more store anchor piece r = record {
  chain = r.chain;
  ends = commit_chain-stays written more (commit_of (commit_key_of store.secret)) anchor.0 anchor.1 r.chain r.ends;
  text = r.text;
  earlier = r.earlier;
  later = r.later;
  in_chain = r.in_chain;
  since_base = r.since_base;
  rests = rests_still (in_trace written) (in_trace (written ++ more)) (found_still written more) store.secret r.text piece r.rests;
}
