-- What a put hands to the device is sealed.
use Rattle.std.proofs.Common.{◌≡◌, inl, inr, ℕ, ◌+◌, Bool, List, [], ◌∷◌, ◌++◌, IsTrue, sym, ◌∙◌, ap, subst, append-nil, append_assoc, arith, refl}
use Rattle.std.specs.Prelude.{All}
use Rattle.std.proofs.lemmas.List.{length-append, get_or_append_left}
use Rattle.std.proofs.lemmas.List.Elements.{All-append, All-push, All-tail}
use Rattle.tdb_append.specs.Placed.{FitsOneSegment, Placed, with_all_written}
use Rattle.tdb_append.specs.Put.{slot_place}
use Rattle.tdb_base.specs.Trace.{Trace, WrittenPiece, calls_in, with_written}
use Rattle.tdb_platform.specs.Outside.{Outside}
use Rattle.tdb_overlay.specs.SealedOnly.{IsRecord, IsSealedPiece, IsTextInSlot, OnlySealed, WritesOnlySealed}

pub sealed_none : (secret : List ℕ) (t : Trace) → WritesOnlySealed secret t t
sealed_none secret t = record { more = []; written = sym (append-nil t.written); each = λ k d within. absurd (omega (arith, within)) }

sealed_one : (secret : List ℕ) (t : Trace) (place : ℕ) (bytes : List ℕ) → IsSealedPiece secret place bytes
    → WritesOnlySealed secret t (with_written t place bytes)
sealed_one secret t place bytes is =
    let w : WrittenPiece = record { bytes = bytes; place = place; call = calls_in t + 1 } in
    record {
      more = w ∷ [];
      written = refl;
      each = All-push (λ (x : WrittenPiece). IsSealedPiece secret x.place x.bytes) [] w
          (λ k d within. absurd (omega (arith, within))) is;
    }

-- What was written since a trace and since a later one, all of it is sealed.
pub sealed_along : (secret : List ℕ) (t u v : Trace) → WritesOnlySealed secret t u → WritesOnlySealed secret u v
    → WritesOnlySealed secret t v
sealed_along secret t u v first second = record {
  more = first.more ++ second.more;
  written = second.written ∙ ap (λ (l : List WrittenPiece). l ++ second.more) first.written ∙ append_assoc t.written first.more second.more;
  each = All-append (λ (w : WrittenPiece). IsSealedPiece secret w.place w.bytes) first.more second.more first.each second.each;
}

sealed_all : (secret : List ℕ) (t : Trace) (ps : List Placed) → All (λ (p : Placed). IsSealedPiece secret p.place p.bytes) ps
    → WritesOnlySealed secret t (with_all_written t ps)
sealed_all secret t [] all = sealed_none secret t
sealed_all secret t (p ∷ ps) all =
    let next : Trace = with_written t p.place p.bytes in
    sealed_along secret t next (with_all_written next ps) (sealed_one secret t p.place p.bytes (all 0 p (omega arith)))
    (sealed_all secret next ps (All-tail (λ (q : Placed). IsSealedPiece secret q.place q.bytes) p ps all))

-- Of the records of a batch and a text in its slot, a front was written.
pub put_sealed : (secret : List ℕ) (count : ℕ) (ps done rest : List Placed) (text : List ℕ) (t u : Trace)
    → All (λ (p : Placed). IsRecord secret p.bytes) ps → All FitsOneSegment ps → IsTextInSlot secret (slot_place count) text
    → ps ++ record { place = slot_place count; bytes = text } ∷ [] ≡ done ++ rest → u ≡ with_all_written t done
    → WritesOnlySealed secret t u
put_sealed secret count ps done rest text t u records in_segments is in_order wrote =
    let P : Placed → Type 0 = λ p. IsSealedPiece secret p.place p.bytes in
    let slot : Placed = record { place = slot_place count; bytes = text } in
    let in_slot : IsSealedPiece secret slot.place slot.bytes = inr is in
    let all : All P (ps ++ slot ∷ []) = All-push P ps slot (λ k d within. inl (records k d within, in_segments k d within)) in_slot in
    let front : All P done = λ k d within.
    subst P (get_or_append_left done rest d k within) (subst (All P) in_order all k d (omega (arith, length-append done rest, within))) in
    subst (WritesOnlySealed secret t) (sym wrote) (sealed_all secret t done front)

-- the same of platforms
pub only_sealed_none : (secret : List ℕ) (o : Outside) → OnlySealed secret o o
only_sealed_none secret o tells = sealed_none secret o.trace

pub only_sealed_along : (secret : List ℕ) (a b c : Outside) → b.tells ≡ a.tells → OnlySealed secret a b → OnlySealed secret b c
    → OnlySealed secret a c
only_sealed_along secret a b c same first second tells = sealed_along secret a.trace b.trace c.trace (first tells)
    (second (subst (λ (t : Bool). IsTrue t) (sym same) tells))
