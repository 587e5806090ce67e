-- A log stays as more is written, and a put of records and the next text makes it longer.
use Rattle.std.proofs.Common.{◌≡◌, ◌⊎◌, inl, inr, ◌+◌, ℕ, List, [], ◌∷◌, ◌++◌, Option, Some, Bool, true, cond, ◌&&◌, ◌==◌, replicate, refl, sym, ◌∙◌, ap, subst, add-one}
use Rattle.std.specs.Str.{bytes_eq}
use Rattle.std.proofs.lemmas.Bool.Decides.{eqb_tells}
use Rattle.std.proofs.lemmas.Slice.Eq.{bytes_eq-Decides}
use Rattle.sha2.specs.Sha256.{sha256}
use Rattle.tdb_base.specs.Trace.{Trace, WrittenPiece, Extends, with_written}
use Rattle.tdb_base.proofs.Tracing.{extends_itself, extends_written, extends_along}
use Rattle.tdb_append.specs.Placed.{Placed, with_all_written}
use Rattle.tdb_mark.specs.declared.commit.Commit.{Commit}
use Rattle.tdb_mark.specs.CommitChain.{commit_chain, follows}
use Rattle.tdb_mark.specs.CommitText.{commit_key_of, commit_of}
use Rattle.tdb_mark.specs.TextOfDigest.{text_of_digest}
use Rattle.tdb_mark.specs.Unforged.{IsUnforged, WasWritten}
use Rattle.tdb_mark.proofs.DigestLemmas.{text_of_digest_is, text_of_digest_found, WasWritten-last}
use Rattle.tdb_mark.proofs.ChainLemmas.{commit_chain-stays, commit_chain-longer}
use Rattle.tdb_model.specs.Apply.{History}
use Rattle.tdb_platform.specs.Outside.{Anchor}
use Rattle.tdb_overlay.specs.Found.{Finer, Store, in_trace}
use Rattle.tdb_overlay.specs.Log.{IsLog, IsStep}
use Rattle.tdb_overlay.specs.StoreState.{StoreState, first_state}
use Rattle.tdb_overlay.proofs.LogLaws.{found_still, log_longer, log_of_stays, log_stays, trace_finds_one}
use Rattle.tdb_overlay.specs.LaidPieces.{IsOneOf, in_pieces}

-- in a later trace a piece stands for the same bytes
pub in_later_trace : (t u : Trace) → Extends t u → Finer (in_trace t.written) (in_trace u.written)
in_later_trace t u grows = subst (λ (ws : List WrittenPiece). Finer (in_trace t.written) (in_trace ws)) (sym grows.written)
    (found_still t.written grows.more_written)

-- so a chain stays
pub chain_still : (t u : Trace) (grammar : List ℕ → Option Commit) (n : ℕ) (mark : List ℕ) (chain : List Commit) → Extends t u
    → commit_chain t.written grammar n mark ≡ Some chain → commit_chain u.written grammar n mark ≡ Some chain
chain_still t u grammar n mark chain grows ends =
    subst (λ (ws : List WrittenPiece). commit_chain ws grammar n mark ≡ Some chain) (sym grows.written)
    (commit_chain-stays t.written grows.more_written grammar n mark chain ends)

-- and the log of an anchor
pub log_still : (t u : Trace) (store : Store) (anchor : Anchor) (history : History) (last : StoreState) → Extends t u
    → IsLog t.written store anchor history last → IsLog u.written store anchor history last
log_still t u store anchor history last grows is =
    subst (λ (ws : List WrittenPiece). IsLog ws store anchor history last) (sym grows.written)
    (log_stays t.written grows.more_written store anchor history last is)

pub grows_all : (t : Trace) (ps : List Placed) → Extends t (with_all_written t ps)
grows_all t [] = extends_itself t
grows_all t (p ∷ ps) =
    let next : Trace = with_written t p.place p.bytes in
    extends_along t next (with_all_written next ps) (extends_written t p.place p.bytes) (grows_all next ps)

pub with_all_written-push : (t : Trace) (ps : List Placed) (p : Placed)
    → with_all_written t (ps ++ p ∷ []) ≡ with_written (with_all_written t ps) p.place p.bytes
with_all_written-push t [] p = refl
with_all_written-push t (q ∷ qs) p = with_all_written-push (with_written t q.place q.bytes) qs p

reads_stay : (t : Trace) (ps : List Placed) → (with_all_written t ps).read ≡ t.read
reads_stay t [] = refl
reads_stay t (p ∷ ps) = reads_stay (with_written t p.place p.bytes) ps

-- what only writes reads nothing
pub unread_by : (t u : Trace) (ps : List Placed) → u ≡ with_all_written t ps → u.read ≡ t.read
unread_by t u ps wrote = ap (λ (v : Trace). v.read) wrote ∙ reads_stay t ps

pub was_written_more : (ws more : List WrittenPiece) (p : List ℕ) → WasWritten ws p → WasWritten (ws ++ more) p
was_written_more [] more p h = absurd h
was_written_more (w ∷ ws) more p (inl e) = inl e
was_written_more (w ∷ ws) more p (inr h) = inr (was_written_more ws more p h)

pub was_written_later : (t u : Trace) (p : List ℕ) → Extends t u → WasWritten t.written p → WasWritten u.written p
was_written_later t u p x h = subst (λ (ws : List WrittenPiece). WasWritten ws p) (sym x.written)
    (was_written_more t.written x.more_written p h)

-- each of the pieces was written
pub each_was_written : (t : Trace) (ps : List Placed) (place : ℕ) (bytes : List ℕ) → IsOneOf ps place bytes
    → WasWritten (with_all_written t ps).written bytes
each_was_written t [] place bytes is = absurd is
each_was_written t (p ∷ ps) place bytes (inl e) =
    let next : Trace = with_written t p.place p.bytes in
    subst (WasWritten (with_all_written next ps).written) e.1
    (was_written_later next (with_all_written next ps) p.bytes (grows_all next ps) (WasWritten-last t.written _))
each_was_written t (p ∷ ps) place bytes (inr is) = each_was_written (with_written t p.place p.bytes) ps place bytes is

-- what was written is what its digest finds
pub is_found : (t : Trace) (grammar : List ℕ → Option Commit) (p : List ℕ) → IsUnforged t grammar → WasWritten t.written p
    → text_of_digest t.written (sha256 p) ≡ Some p
is_found t grammar p unforged written =
    let found = text_of_digest_found t.written p (sha256 p) written refl in
    let was = text_of_digest_is t.written (sha256 p) found.0 found.1 in
    let is = unforged.no_collision found.0 p (inl was.0) (inl written) was.1 in
    subst (λ (q : List ℕ). text_of_digest t.written (sha256 p) ≡ Some q) is found.1

-- the pieces of a put are found behind it, and so is its text
pub found_in_put : (grammar : List ℕ → Option Commit) (t u : Trace) (ps : List Placed) (slot : Placed)
    → u ≡ with_all_written t (ps ++ slot ∷ []) → IsUnforged u grammar → Finer (in_pieces ps) (in_trace u.written)
found_in_put grammar t u ps slot wrote unforged piece bytes found =
    let mid : Trace = with_all_written t ps in
    let last : u ≡ with_written mid slot.place slot.bytes = wrote ∙ with_all_written-push t ps slot in
    let mid_to_u : Extends mid u = subst (Extends mid) (sym last) (extends_written mid slot.place slot.bytes) in (
      subst (λ (d : List ℕ). text_of_digest u.written d ≡ Some bytes) found.0
          (is_found u grammar bytes unforged (was_written_later mid u bytes mid_to_u (each_was_written t ps piece.place.0 bytes found.1))),
      found.2,
    )

pub text_in_put : (grammar : List ℕ → Option Commit) (t u : Trace) (ps : List Placed) (slot : Placed)
    → u ≡ with_all_written t (ps ++ slot ∷ []) → IsUnforged u grammar → text_of_digest u.written (sha256 slot.bytes) ≡ Some slot.bytes
text_in_put grammar t u ps slot wrote unforged =
    let mid : Trace = with_all_written t ps in
    let last : u ≡ with_written mid slot.place slot.bytes = wrote ∙ with_all_written-push t ps slot in
    is_found u grammar slot.bytes unforged
    (subst (λ (v : Trace). WasWritten v.written slot.bytes) (sym last) (WasWritten-last mid.written _))

pub follows_is : (n : ℕ) (c : Commit) → c.count ≡ n + 1 → (n ≡ 0 → c.prev.0 ≡ replicate 32 0) → follows n c ≡ true
follows_is n c count start =
    let counted : (c.count == n + 1) ≡ true = elim (eqb_tells c.count (n + 1)) [ inl t ↦ t.0 | inr f ↦ absurd (f.1 count) ] in
    let begins : cond (n == 0) (bytes_eq c.prev.0 (replicate 32 0)) true ≡ true =
    elim (eqb_tells n 0) [
      | inl t ↦ ap (λ (b : Bool). cond b (bytes_eq c.prev.0 (replicate 32 0)) true) t.0
          ∙ (bytes_eq-Decides c.prev.0 (replicate 32 0)).1 (start t.1)
      | inr f ↦ ap (λ (b : Bool). cond b (bytes_eq c.prev.0 (replicate 32 0)) true) f.0
    ] in
    ap (λ (b : Bool). b && cond (n == 0) (bytes_eq c.prev.0 (replicate 32 0)) true) counted ∙ begins

-- A put of pieces and of the next text makes the chain longer by the text.
pub longer_chain : (store : Store) (t u : Trace) (n : ℕ) (mark : List ℕ) (slot : Placed) (ps : List Placed) (c : Commit)
    (chain : List Commit)
    → commit_of (commit_key_of store.secret) slot.bytes ≡ Some c → c.prev.0 ≡ mark → follows n c ≡ true
    → u ≡ with_all_written t (ps ++ slot ∷ []) → IsUnforged u (commit_of (commit_key_of store.secret))
    → commit_chain t.written (commit_of (commit_key_of store.secret)) n mark ≡ Some chain
    → commit_chain u.written (commit_of (commit_key_of store.secret)) (n + 1) (sha256 slot.bytes) ≡ Some (chain ++ c ∷ [])
longer_chain store t u n mark slot ps c chain reads prev next wrote unforged ends =
    let grammar : List ℕ → Option Commit = commit_of (commit_key_of store.secret) in
    let all : Extends t u = subst (Extends t) (sym wrote) (grows_all t (ps ++ slot ∷ [])) in
    subst (λ (k : ℕ). commit_chain u.written grammar k (sha256 slot.bytes) ≡ Some (chain ++ c ∷ [])) (sym (add-one n))
    (commit_chain-longer u.written grammar n mark slot.bytes c chain (text_in_put grammar t u ps slot wrote unforged) reads prev next
    (chain_still t u grammar n mark chain all ends))

-- So does it make the log longer by what the text adds.
pub log_grown : (store : Store) (t u : Trace) (n : ℕ) (mark : List ℕ) (slot : Placed) (ps : List Placed) (c : Commit)
    (before added : History) (from to : StoreState)
    → commit_of (commit_key_of store.secret) slot.bytes ≡ Some c → c.prev.0 ≡ mark → follows n c ≡ true
    → IsStep (in_trace u.written) store from c added to
    → u ≡ with_all_written t (ps ++ slot ∷ []) → IsUnforged u (commit_of (commit_key_of store.secret))
    → IsLog t.written store (n, mark) before from → IsLog u.written store (n + 1, sha256 slot.bytes) (before ++ added) to
log_grown store t u n mark slot ps c before added from to reads prev next step wrote unforged is =
    let all : Extends t u = subst (Extends t) (sym wrote) (grows_all t (ps ++ slot ∷ [])) in
    record {
      chain = is.chain ++ c ∷ [];
      ends = longer_chain store t u n mark slot ps c is.chain reads prev next wrote unforged is.ends;
      tells = log_longer (in_trace u.written) store first_state is.chain c before added from to
          (log_of_stays (in_trace t.written) (in_trace u.written) (in_later_trace t u all) store
          (trace_finds_one u.written) first_state is.chain before from is.tells) step;
    }

-- At count 0 the mark doesn't matter.
pub head_log : (written : List WrittenPiece) (store : Store) (anchor : Anchor) (n : ℕ) (mark : List ℕ) (before : History)
    (from : StoreState) → anchor.0 ≡ n → (anchor ≡ (n, mark)) ⊎ (n ≡ 0)
    → IsLog written store anchor before from → IsLog written store (n, mark) before from
head_log written store anchor n mark before from count (inl at) is = subst (λ (a : Anchor). IsLog written store a before from) at is
head_log written store anchor n mark before from count (inr start) is =
    let grammar : List ℕ → Option Commit = commit_of (commit_key_of store.secret) in
    let first : commit_chain written grammar 0 mark ≡ Some is.chain = subst
    (λ (k : ℕ). commit_chain written grammar k anchor.1 ≡ Some is.chain) (count ∙ start) is.ends in
    record {
      chain = is.chain;
      ends = subst (λ (k : ℕ). commit_chain written grammar k mark ≡ Some is.chain)
          (sym start) first;
      tells = is.tells;
    }
