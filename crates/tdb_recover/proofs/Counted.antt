-- How many pieces were read, one part after another.
use Rattle.std.proofs.Common.{◌≡◌, ℕ, ◌+◌, ◌<◌, ◌≤◌, ◌==◌, Bool, true, false, cond, List, [], ◌∷◌, ◌++◌, length}
use Rattle.std.proofs.Common.{get_or, take, IsTrue, refl, sym, ap, subst, arith}
use Rattle.std.proofs.lemmas.List.{length-append}
use Rattle.tdb_base.specs.declared.piece.Damage.{Damage}
use Rattle.tdb_base.specs.declared.piece.Piece.{Piece}
use Rattle.tdb_base.specs.Trace.{Trace, ReadPiece, calls_in, with_read}
use Rattle.tdb_list.specs.declared.entry.Entry.{Entry}
use Rattle.tdb_mark.specs.declared.commit.Commit.{Commit}
use Rattle.tdb_platform.specs.Outside.{Outside}
use Rattle.tdb_platform.specs.CrashStates.{CrashStates}
use Rattle.tdb_overlay.specs.Changes.{named_records}
use Rattle.tdb_overlay.specs.declared.fetching.FetchError.{FetchError}
use Rattle.tdb_overlay.specs.declared.fetching.FetchError.TheVariants.{Tampered, Fault, Memory}
use Rattle.tdb_overlay.specs.declared.recovered.Recovered.{Recovered}
use Rattle.tdb_overlay.specs.Reading.{OnlyReads}
use Rattle.tdb_recover.specs.Ahead.{HasSeen, IsMemberList}
use Rattle.tdb_recover.specs.Reads.{ReadsAtMost}
use Rattle.tdb_recover.proofs.ReadingAhead.{AllShown, named_from}

-- these were read
pub most_of : (n : ℕ) (old new : Outside) (reads : List ReadPiece) → (IsTrue old.tells → new.trace.read ≡ old.trace.read ++ reads)
    → length reads ≤ n → ReadsAtMost n old new
most_of n old new reads told few t more is =
    omega (arith, few, ap length (told t), ap length is, length-append old.trace.read reads, length-append old.trace.read more)

-- nothing was read
pub most_none : (n : ℕ) (old new : Outside) → (IsTrue old.tells → new.trace ≡ old.trace) → ReadsAtMost n old new
most_none n old new same t more is =
    omega (arith, ap length is, ap (λ (u : Trace). length u.read) (same t), length-append old.trace.read more)

-- one piece was read
pub most_one : (old new : Outside) (at asked : ℕ) (bytes : List ℕ) → (IsTrue old.tells → new.trace ≡ with_read old.trace at asked bytes)
    → ReadsAtMost 1 old new
most_one old new at asked bytes trace =
    let one : ReadPiece = record { bytes = bytes; place = at; call = calls_in old.trace + 1; asked = asked } in
    most_of 1 old new (one ∷ []) (λ t. ap (λ (u : Trace). u.read) (trace t)) (omega arith)

-- a piece was not read, or other bytes were read for it
pub most_failed : (old new : Outside) (at asked : ℕ) (error : FetchError)
    → ((damage : Damage) → error ≡ Tampered damage → IsTrue old.tells → (bytes : List ℕ) × (new.trace ≡ with_read old.trace at asked bytes))
    → (error ≡ Fault → IsTrue old.tells → new.trace ≡ old.trace) → (error ≡ Memory → IsTrue old.tells → new.trace ≡ old.trace)
    → ReadsAtMost 1 old new
most_failed old new at asked (Tampered damage) tampered fault memory = λ t.
    let shown = tampered damage refl t in
    most_one old new at asked shown.0 (λ _. shown.1) t
most_failed old new at asked Fault tampered fault memory = most_none 1 old new (fault refl)
most_failed old new at asked Memory tampered fault memory = most_none 1 old new (memory refl)

pub most_as : (m n : ℕ) (old new : Outside) → m ≤ n → ReadsAtMost m old new → ReadsAtMost n old new
most_as m n old new fewer most t more is = omega (arith, fewer, most t more is)

-- some calls, and others after them
pub most_then : {D : Type 0} (outside : D → Outside) (crash_states : D → CrashStates) (m n most : ℕ) (old mid new : D) → m + n ≤ most
    → OnlyReads outside crash_states old mid → OnlyReads outside crash_states mid new
    → ReadsAtMost m (outside old) (outside mid) → ReadsAtMost n (outside mid) (outside new) → ReadsAtMost most (outside old) (outside new)
most_then outside crash_states m n most old mid new few first then one two t more is =
    let tells : IsTrue (outside mid).tells = subst IsTrue (sym first.tells) t in
    let a = first.grows t in
    let b = then.grows tells in
    omega (
      arith,
      few,
      one t a.more_read a.read,
      two tells b.more_read b.read,
      ap length a.read,
      ap length b.read,
      ap length is,
      length-append (outside old).trace.read more,
      length-append (outside old).trace.read a.more_read,
      length-append (outside mid).trace.read b.more_read,
    )

-- what was seen was read, and nothing else
pub most_seen : {D : Type 0} (outside : D → Outside) (crash_states : D → CrashStates) (n : ℕ) (old new : D) (reads : List ReadPiece)
    → HasSeen outside crash_states old new reads → length reads ≤ n → ReadsAtMost n (outside old) (outside new)
most_seen outside crash_states n old new reads seen few = most_of n (outside old) (outside new) reads seen.told few

-- ---- reading ahead

-- each of the pieces was read once
pub shown_few : (pieces : List Piece) (reads : List ReadPiece) → AllShown pieces reads → length reads ≡ length pieces
shown_few [] reads shown = ap length shown
shown_few (p ∷ pieces) [] shown = absurd shown
shown_few (p ∷ pieces) (r ∷ reads) shown = let rest = shown_few pieces reads shown.2 in omega (arith, rest)

-- one entry names at most one record
pub named_few : (entries : List Entry) → length (named_records entries) ≤ length entries
named_few [] = omega arith
named_few (e ∷ entries) =
    let rest = named_few entries in
    elim (e.kind == 1) as (λ (b : Bool). length (cond b (e.piece ∷ named_records entries) (named_records entries)) ≤ length (e ∷ entries)) [
      | true ↦ omega (arith, rest)
      | false ↦ omega (arith, rest)
    ]

-- a list has at most 1,024 entries
pub listed_few : (secret : List ℕ) (log : Recovered) (c : Commit) (bytes : List ℕ) (entries : List Entry)
    → IsMemberList secret log c bytes entries → length (named_records entries) ≤ 1024
listed_few secret log c bytes entries is = let named = named_few entries in omega (arith, named, is.list.list.most)

-- the records before one that a list names, and that one
pub shown_before : (entries : List Entry) (i : ℕ) (d : Entry) (reads : List ReadPiece) → i < length entries → (get_or entries i d).kind ≡ 1
    → AllShown (named_records (take i entries)) reads → length reads + 1 ≤ length (named_records entries)
shown_before entries i d reads below kind shown =
    let rest = named_from entries i d below kind in
    let few = shown_few (named_records (take i entries)) reads shown in
    let piece = (get_or entries i d).piece in
    omega (arith, few, ap length rest.1, length-append (named_records (take i entries)) (piece ∷ rest.0))
