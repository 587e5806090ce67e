-- The list of a commit that is read ahead, and the records that it names.
use Rattle.std.proofs.Common.{◌≡◌, ◌≢◌, inl, inr, ℕ, ◌+◌, ◌<◌, ◌≤◌, ◌==◌, Bool, true, false, List, [], ◌∷◌, ◌++◌, length, get_or, take, refl, sym, subst}
use Rattle.std.specs.List.{AllByRecursion}
use Rattle.std.proofs.lemmas.Bool.{eqb-true, eq-eqb}
use Rattle.std.proofs.lemmas.List.{take_all}
use Rattle.sha2.specs.Sha256.{sha256}
use Rattle.tdb_base.specs.declared.piece.Piece.{Piece}
use Rattle.tdb_base.specs.Trace.{ReadPiece}
use Rattle.tdb_list.specs.declared.entry.Entry.{Entry}
use Rattle.tdb_list.specs.ChangeList.{IsChangeList}
use Rattle.tdb_list.proofs.ListSpelling.{same_list}
use Rattle.tdb_mark.specs.declared.commit.Commit.{Commit}
use Rattle.tdb_seal.specs.declared.record.Name.{Name}
use Rattle.tdb_seal.specs.SealedRecord.{IsSealedRecord}
use Rattle.tdb_overlay.specs.Changes.{named_records}
use Rattle.tdb_overlay.specs.Keys.{system_key}
use Rattle.tdb_overlay.specs.Placement.{LiesBelow}
use Rattle.tdb_overlay.specs.declared.recovered.Recovered.{Recovered}
use Rattle.tdb_recover.specs.Ahead.{Asked, AsksList, IsListed, IsMemberList}
use Rattle.tdb_recover.specs.AheadSteps.{IsOneRead}
use Rattle.tdb_recover.proofs.Noting.{named_more, named_same}
use Rattle.tdb_recover.proofs.ReadingAhead.{AllShown, list_is_one, named_from, shown_all, shown_next, shown_up_to}

all_push : (P : Piece → Type 0) (pieces : List Piece) (p : Piece) → AllByRecursion P pieces → P p → AllByRecursion P (pieces ++ p ∷ [])
all_push P [] p all holds = (holds, tt)
all_push P (q ∷ pieces) p all holds = (all.0, all_push P pieces p all.1 holds)

-- what holds of the records of the entries so far, and of that of the next, where it names one
pub all_next : (P : Piece → Type 0) (entries : List Entry) (i : ℕ) (d : Entry) → i < length entries
    → ((get_or entries i d).kind ≡ 1 → P (get_or entries i d).piece) → AllByRecursion P (named_records (take i entries))
    → AllByRecursion P (named_records (take (i + 1) entries))
all_next P entries i d below holds all =
    let e = get_or entries i d in
    elim (e.kind == 1) as (λ (b : Bool). (e.kind == 1) ≡ b → AllByRecursion P (named_records (take (i + 1) entries))) [
      | true ↦ λ is.
          let kind = eqb-true e.kind 1 is in
          subst (AllByRecursion P) (sym (named_more entries i d below kind))
          (all_push P (named_records (take i entries)) e.piece all (holds kind))
      | false ↦ λ isnt.
          subst (AllByRecursion P) (sym (named_same entries i d below (λ kind. absurd (cc (isnt, eq-eqb e.kind 1 kind))))) all
    ] refl

-- ---- the list

-- the name of its record
abbrev pub list_name : Commit → Name
list_name c = record { kind = 5; suite = c.suite; home = 0; rank = 0 }

module _ (secret : List ℕ) (log : Recovered) (c : Commit) (bytes plain : List ℕ)
    (opened : IsSealedRecord (system_key secret) (list_name c) plain bytes) where
  spelled : (entries : List Entry) → IsMemberList secret log c bytes entries → IsChangeList entries plain
  spelled entries given = subst (IsChangeList entries) (sym (list_is_one secret log c bytes plain entries opened given)) given.list

  pub is_list : (entries : List Entry) → sha256 bytes ≡ c.first.digest.0 → IsChangeList entries plain
      → AllByRecursion (LiesBelow log.segments.segments) (named_records entries) → IsMemberList secret log c bytes entries
  is_list entries digest list lie = record { digest = digest; plain = plain; opened = opened; list = list; records = lie }

  -- the record's plain text is no list
  pub not_spelled : ((entries : List Entry) → IsChangeList entries plain → ⊥) → (entries : List Entry)
      → IsMemberList secret log c bytes entries → ⊥
  not_spelled refuted entries given = refuted entries (spelled entries given)

  -- a record that the list names doesn't lie in the segments
  pub not_lying : (found : List Entry) → IsChangeList found plain
      → (AllByRecursion (LiesBelow log.segments.segments) (named_records found) → ⊥) → (entries : List Entry)
      → IsMemberList secret log c bytes entries → ⊥
  not_lying found list refuted entries given =
      let same : entries ≡ found = same_list entries found plain (spelled entries given) list in
      refuted (subst (λ (l : List Entry). AllByRecursion (LiesBelow log.segments.segments) (named_records l)) same given.records)

-- ---- its records

-- where all entries were looked at
pub asked_all : (entries : List Entry) (i : ℕ) (reads : List ReadPiece) → length entries ≤ i
    → AllShown (named_records (take i entries)) reads → Asked (named_records entries) reads true
asked_all entries i reads end shown =
    shown_all (named_records entries) reads (subst (λ (l : List Entry). AllShown (named_records l) reads) (take_all i entries end) shown)

-- an entry that names none
pub asked_same : (entries : List Entry) (i : ℕ) (d : Entry) (reads : List ReadPiece) → i < length entries
    → ((get_or entries i d).kind ≡ 1 → ⊥) → AllShown (named_records (take i entries)) reads
    → AllShown (named_records (take (i + 1) entries)) reads
asked_same entries i d reads below kind shown =
    subst (λ (l : List Piece). AllShown l reads) (sym (named_same entries i d below kind)) shown

module _ (entries : List Entry) (i : ℕ) (d : Entry) (below : i < length entries) (kind : (get_or entries i d).kind ≡ 1)
    (reads more : List ReadPiece) (bytes : List ℕ) (shown : AllShown (named_records (take i entries)) reads)
    (one : IsOneRead (get_or entries i d).piece.place.0 (get_or entries i d).piece.length bytes more) where
  -- the record was shown with its digest
  pub asked_next : sha256 bytes ≡ (get_or entries i d).piece.digest.0 → AllShown (named_records (take (i + 1) entries)) (reads ++ more)
  asked_next digest =
      let piece = (get_or entries i d).piece in
      let r : ReadPiece = record { bytes = bytes; place = piece.place.0; call = one.0; asked = piece.length } in
      subst (λ (l : List ReadPiece). AllShown (named_records (take (i + 1) entries)) (reads ++ l)) (sym one.1)
      (subst (λ (l : List Piece). AllShown l (reads ++ r ∷ [])) (sym (named_more entries i d below kind))
      (shown_next (named_records (take i entries)) reads piece r shown (refl, refl) digest))

  -- it wasn't, and nothing more is asked for
  pub asked_until : sha256 bytes ≢ (get_or entries i d).piece.digest.0 → Asked (named_records entries) (reads ++ more) false
  asked_until differs =
      let piece = (get_or entries i d).piece in
      let r : ReadPiece = record { bytes = bytes; place = piece.place.0; call = one.0; asked = piece.length } in
      let rest = named_from entries i d below kind in
      subst (λ (l : List ReadPiece). Asked (named_records entries) (reads ++ l) false) (sym one.1)
      (subst (λ (l : List Piece). Asked l (reads ++ r ∷ []) false) (sym rest.1)
      (shown_up_to (named_records (take i entries)) rest.0 reads piece r shown (refl, refl) differs))

-- ---- both

module _ (secret : List ℕ) (log : Recovered) (c : Commit) (bytes slice : List ℕ) (same : slice ≡ bytes) (first : List ReadPiece)
    (one : IsOneRead c.first.place.0 c.first.length bytes first) where
  of_slice : (entries : List Entry) → IsMemberList secret log c bytes entries → IsMemberList secret log c slice entries
  of_slice entries is = subst (λ (b : List ℕ). IsMemberList secret log c b entries) (sym same) is

  of_bytes : (entries : List Entry) → IsMemberList secret log c slice entries → IsMemberList secret log c bytes entries
  of_bytes entries is = subst (λ (b : List ℕ). IsMemberList secret log c b entries) same is

  -- the bytes are no list of the commit
  pub asks_no_more : ((entries : List Entry) → IsMemberList secret log c slice entries → ⊥) → AsksList secret log c first false
  asks_no_more refuted =
      subst (λ (l : List ReadPiece). AsksList secret log c l false) (sym one.1)
      ((refl, refl), inr (λ entries is. refuted entries (of_slice entries is), (refl, refl)))

  -- they are one, and its records are asked for
  pub asks_records : (entries named : List Entry) (more : List ReadPiece) (taken : Bool) → named ≡ entries
      → IsMemberList secret log c slice entries → Asked (named_records named) more taken → AsksList secret log c (first ++ more) taken
  asks_records entries named more taken are is asked =
      subst (λ (l : List ReadPiece). AsksList secret log c (l ++ more) taken) (sym one.1)
      ((refl, refl), inl (entries, of_bytes entries is, subst (λ (l : List Entry). Asked (named_records l) more taken) are asked))

  pub is_listed : (entries : List Entry) (more : List ReadPiece) → IsMemberList secret log c slice entries
      → IsListed secret log c entries (first ++ more)
  is_listed entries more is =
      subst (λ (l : List ReadPiece). IsListed secret log c entries (l ++ more)) (sym one.1) (of_bytes entries is)
