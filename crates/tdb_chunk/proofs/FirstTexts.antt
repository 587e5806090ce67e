-- The start of a log writes no text but the first.
use Rattle.std.proofs.Common.{◌≡◌, ◌⊎◌, inl, inr, ⊎_elim, ◌+◌, ℕ, List, [], ◌∷◌, ◌++◌, Some, Result, IsTrue, Bool, sym, ◌∙◌, ap}
use Rattle.std.proofs.Common.{arith, subst}
use Rattle.std.proofs.lemmas.Option.{same_Some}
use Rattle.std.specs.List.{AllByRecursion}
use Rattle.tdb_append.specs.Placed.{Placed, with_all_written}
use Rattle.tdb_append.specs.Put.{Puts}
use Rattle.tdb_append.specs.declared.head.Head.{Head}
use Rattle.tdb_base.specs.Trace.{Trace, WrittenPiece, calls_in, with_written}
use Rattle.tdb_mark.specs.declared.commit.Commit.{Commit}
use Rattle.tdb_mark.specs.CommitText.{commit_key_of, commit_of}
use Rattle.tdb_mark.specs.Unforged.{WasWritten}
use Rattle.tdb_platform.specs.CrashStates.{CrashStates}
use Rattle.tdb_platform.specs.Outside.{Outside}
use Rattle.tdb_seg.specs.SegmentSpace.{SegmentSpace}
use Rattle.tdb_overlay.specs.Found.{Store}
use Rattle.tdb_overlay.specs.SealedOnly.{IsRecord}
use Rattle.tdb_overlay.specs.WellFormedLog.{IsAccepted}
use Rattle.tdb_overlay.proofs.KeptLaws.{record_is_no_text}
use Rattle.tdb_overlay.proofs.Listed.{all_front, all_listed, all_more, all_weaker}
use Rattle.tdb_chunk.specs.Formatting.{IsStart, WritesFirstText}
use Rattle.tdb_overlay.specs.Text.{anchor_of, text_in_slot, text_of}

-- whatever was written, was written before the last piece, or is that
written_last : (ws : List WrittenPiece) (w : WrittenPiece) (bytes : List ℕ) → WasWritten (ws ++ w ∷ []) bytes
    → WasWritten ws bytes ⊎ (w.bytes ≡ bytes)
written_last [] w bytes (inl is) = inr is
written_last [] w bytes (inr none) = absurd none
written_last (v ∷ ws) w bytes (inl is) = inl (inl is)
written_last (v ∷ ws) w bytes (inr rest) = ⊎_elim (λ earlier. inl (inr earlier)) (λ is. inr is) (written_last ws w bytes rest)

-- what was written at the end of some writes was written before them, or is as their pieces are
written_before : (Is : List ℕ → Type 0) (t : Trace) (qs : List Placed) (bytes : List ℕ) → AllByRecursion (λ q. Is q.bytes) qs
    → WasWritten (with_all_written t qs).written bytes → WasWritten t.written bytes ⊎ Is bytes
written_before Is t [] bytes all was = inl was
written_before Is t (q ∷ qs) bytes all was =
    ⊎_elim
    (λ mid. ⊎_elim (λ earlier. inl earlier) (λ is. inr (subst Is is all.0))
    (written_last t.written (record { bytes = q.bytes; place = q.place; call = calls_in t + 1 }) bytes mid))
    (λ is. inr is) (written_before Is (with_written t q.place q.bytes) qs bytes all.1 was)

-- the bytes are no text, or the first
abbrev AtMostFirst : List ℕ → List ℕ → Type 0
AtMostFirst secret bytes = (c : Commit) → IsAccepted secret bytes c → c.count ≡ 1

-- A put of the start of a log, or of a part of it, writes records and the first text.
pub first_text : {D T E : Type 0} (outside : D → Outside) (crash_states : D → CrashStates) (store : Store) (head : Head) (segments : ℕ)
    (c : Commit) (ps : List Placed) (space : SegmentSpace) (old new : D) (result : Result T E)
    → IsStart store head segments c ps space → head.count ≡ 0
    → commit_of (commit_key_of store.secret) (text_of store.secret c) ≡ Some c
    → Puts outside crash_states old new (ps ++ text_in_slot store.secret c ∷ []) (anchor_of store.secret c) result
    → WritesFirstText store.secret (outside old) (outside new)
first_text outside crash_states store head segments c ps space old new result s zero_count reads puts tells text d was accepted =
    let secret : List ℕ = store.secret in
    let one : c.count ≡ 1 = omega (arith, ap (λ (k : Commit). k.count) s.commit, zero_count) in
    let records : AllByRecursion (λ (p : Placed). AtMostFirst secret p.bytes) ps =
    all_weaker (λ (p : Placed). IsRecord secret p.bytes) (λ (p : Placed). AtMostFirst secret p.bytes) ps
    (λ p is k told. absurd (record_is_no_text secret p.bytes k is told))
    (all_listed (λ (p : Placed). IsRecord secret p.bytes) ps s.laid.sealed) in
    let last : AtMostFirst secret (text_of secret c) = λ k told. ap (λ (x : Commit). x.count) (same_Some k c (sym told ∙ reads)) ∙ one in
    let all : AllByRecursion (λ (p : Placed). AtMostFirst secret p.bytes) (ps ++ text_in_slot secret c ∷ []) =
    all_more (λ (p : Placed). AtMostFirst secret p.bytes) ps (text_in_slot secret c) records last in
    let done : AllByRecursion (λ (p : Placed). AtMostFirst secret p.bytes) puts.done =
    all_front (λ (p : Placed). AtMostFirst secret p.bytes) puts.done puts.rest
    (subst (λ (l : List Placed). AllByRecursion (λ (p : Placed). AtMostFirst secret p.bytes) l) puts.in_order all) in
    ⊎_elim (λ earlier. inl earlier) (λ first. inr (first d accepted))
    (written_before (AtMostFirst secret) (outside old).trace puts.done text done
    (subst (λ (v : Trace). WasWritten v.written text) (puts.wrote.trace tells) was))

-- So it is where a call before that wrote nothing.
pub first_text_behind : (old mid new : Outside) (secret : List ℕ) → mid.tells ≡ old.tells → (IsTrue old.tells → mid.trace ≡ old.trace)
    → WritesFirstText secret mid new → WritesFirstText secret old new
first_text_behind old mid new secret same unwritten first tells text c was accepted =
    ⊎_elim (λ earlier. inl (subst (λ (v : Trace). WasWritten v.written text) (unwritten tells) earlier)) (λ one. inr one)
    (first (subst (λ (t : Bool). IsTrue t) (sym same) tells) text c was accepted)

-- A call that wrote nothing wrote no text.
pub first_text_unwritten : (old new : Outside) (secret : List ℕ) → (IsTrue old.tells → new.trace ≡ old.trace)
    → WritesFirstText secret old new
first_text_unwritten old new secret unwritten tells text c was accepted =
    inl (subst (λ (v : Trace). WasWritten v.written text) (unwritten tells) was)
