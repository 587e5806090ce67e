-- A commit that was shown whole, and the reads that showed it.
use Rattle.std.proofs.Common.{◌≡◌, ◌≢◌, ◌⊎◌, inl, inr, ◌+◌, ℕ, true, List, [], ◌∷◌, refl, sym, ◌∙◌, subst}
use Rattle.std.proofs.lemmas.Bool.{false≢true}
use Rattle.std.proofs.lemmas.Option.{same_Some}
use Rattle.sha2.specs.Sha256.{sha256}
use Rattle.tdb_append.specs.Put.{slot_place}
use Rattle.tdb_base.specs.declared.piece.Piece.{Piece}
use Rattle.tdb_base.specs.Trace.{ReadPiece}
use Rattle.tdb_list.specs.declared.entry.Entry.{Entry}
use Rattle.tdb_list.specs.ChangeList.{IsChangeList}
use Rattle.tdb_list.proofs.ListSpelling.{same_list}
use Rattle.tdb_mark.specs.declared.commit.Commit.{Commit}
use Rattle.tdb_overlay.specs.Changes.{named_records}
use Rattle.tdb_overlay.specs.Required.{IsReadOf}
use Rattle.tdb_overlay.specs.declared.recovered.Recovered.{Recovered}
use Rattle.tdb_recover.specs.Ahead.{Asked, AsksAhead, AsksList, AsksSlot, GoesOn, IsAsShown, IsMember, IsMemberList, IsPassed}
use Rattle.tdb_recover.specs.declared.ahead.Pending.{Pending}
use Rattle.tdb_recover.proofs.ReadingAhead.{AllShown, list_is_one}

-- The text came first and then the list, and behind them each record that it names.
pub record Shown (secret : List ℕ) (log : Recovered) (reads : List ReadPiece) (p : Pending) : Type 0 where
  pub first : ReadPiece
  pub second : ReadPiece
  pub rest : List ReadPiece
  pub in_order : reads ≡ first ∷ second ∷ rest
  pub place : first.place ≡ slot_place (log.head.count + 1)
  pub asked : first.asked ≡ 256
  pub member : IsMember secret log first.bytes p.commit
  pub mark : p.mark.0 ≡ sha256 first.bytes
  pub of_list : IsReadOf p.commit.first second
  pub list : IsMemberList secret log p.commit second.bytes p.entries.items
  pub records : AllShown (named_records p.entries.items) rest

shown_next : (p : Piece) (r : ReadPiece) (pieces : List Piece) (reads : List ReadPiece)
    → ((sha256 r.bytes ≡ p.digest.0) × Asked pieces reads true) ⊎ ((sha256 r.bytes ≢ p.digest.0) × IsPassed reads true)
    → (sha256 r.bytes ≡ p.digest.0) × Asked pieces reads true
shown_next p r pieces reads (inl shown) = shown
shown_next p r pieces reads (inr other) = absurd (false≢true (sym other.1.1))

asked_all : (pieces : List Piece) (reads : List ReadPiece) → Asked pieces reads true → AllShown pieces reads
asked_all [] reads asked = asked.0
asked_all (p ∷ pieces) [] asked = absurd asked
asked_all (p ∷ pieces) (r ∷ reads) asked =
    let next = shown_next p r pieces reads asked.1 in
    (asked.0, next.0, asked_all pieces reads next.1)

goes_on : {A : Type 0} (is : A → Type 0) (more : A → Type 0) (reads : List ReadPiece) → GoesOn is more reads true → (x : A) × is x × more x
goes_on is more reads (inl it) = it
goes_on is more reads (inr none) = absurd (false≢true (sym none.1.1))

asks_slot : (secret : List ℕ) (log : Recovered) (reads : List ReadPiece) → AsksAhead secret log reads true → AsksSlot secret log reads true
asks_slot secret log reads (inl may) = may.1
asks_slot secret log reads (inr none) = absurd (false≢true (sym none.1.1))

entries_one : (secret : List ℕ) (log : Recovered) (c : Commit) (bytes : List ℕ) (a b : List Entry)
    → IsMemberList secret log c bytes a → IsMemberList secret log c bytes b → a ≡ b
entries_one secret log c bytes a b x y =
    same_list a b y.plain (subst (IsChangeList a) (list_is_one secret log c bytes x.plain b x.opened y) x.list) y.list

-- Where the reads showed a commit whole, it is the one that is taken.
pub shown_whole : (secret : List ℕ) (log : Recovered) (reads : List ReadPiece) (p : Pending) → AsksAhead secret log reads true
    → IsAsShown secret log reads p → Shown secret log reads p
shown_whole secret log [] p asks is = absurd is
shown_whole secret log (r ∷ []) p asks is = absurd is.2
shown_whole secret log (r ∷ s ∷ rest) p asks is =
    let slot = asks_slot secret log (r ∷ s ∷ rest) asks in
    let text = goes_on (IsMember secret log r.bytes) (λ c. AsksList secret log c (s ∷ rest) true) (s ∷ rest) slot.2 in
    let same : text.0 ≡ p.commit = same_Some text.0 p.commit (sym text.1.0 ∙ is.0.0) in
    let asks_list : AsksList secret log p.commit (s ∷ rest) true =
    subst (λ (c : Commit). AsksList secret log c (s ∷ rest) true) same text.2 in
    let list = goes_on (IsMemberList secret log p.commit s.bytes) (λ entries. Asked (named_records entries) rest true) rest asks_list.1 in
    let entries : list.0 ≡ p.entries.items = entries_one secret log p.commit s.bytes list.0 p.entries.items list.1 is.2 in
    record {
      first = r;
      second = s;
      rest = rest;
      in_order = refl;
      place = slot.0;
      asked = slot.1;
      member = is.0;
      mark = is.1;
      of_list = asks_list.0;
      list = is.2;
      records = asked_all (named_records p.entries.items) rest
          (subst (λ (es : List Entry). Asked (named_records es) rest true) entries list.2);
    }
