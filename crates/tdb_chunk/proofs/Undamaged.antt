-- Where each read showed its piece with its digest, no damage was shown.
use Rattle.std.proofs.Common.{◌≡◌, inl, inr, ℕ, List, [], ◌∷◌, ◌++◌, Bool, IsTrue, append_assoc, arith, ap, sym, subst, ◌∙◌}
use Rattle.std.proofs.lemmas.List.{append_cancel_left}
use Rattle.std.specs.FinMap.{get}
use Rattle.std.specs.List.{AllByRecursion}
use Rattle.tdb_base.specs.declared.piece.Damage.{Damage}
use Rattle.tdb_base.specs.declared.piece.Piece.{Piece}
use Rattle.tdb_base.specs.declared.piece.Place.{Place}
use Rattle.tdb_base.specs.Trace.{ReadPiece}
use Rattle.tdb_map.specs.Shown.{EachShown, ShowsOneOf}
use Rattle.tdb_map.proofs.ShownLemmas.{shows_as}
use Rattle.tdb_mark.specs.CommitText.{commit_key_of, commit_of}
use Rattle.tdb_model.specs.Apply.{History}
use Rattle.tdb_platform.specs.CrashStates.{CrashStates}
use Rattle.tdb_platform.specs.Outside.{Outside}
use Rattle.tdb_overlay.specs.Found.{Store}
use Rattle.tdb_overlay.specs.Reading.{known_texts, shown_of}
use Rattle.tdb_overlay.specs.Required.{IsRequired}
use Rattle.tdb_overlay.specs.Sound.{IsSound}
use Rattle.tdb_overlay.specs.StoreState.{StoreState}
use Rattle.tdb_overlay.proofs.Apart.{required_apart}
use Rattle.tdb_chunk.specs.Shown.{Between, IsDamageOfChunk, IsPieceOf}
use Rattle.tdb_chunk.specs.Standing.{StandsAt}
use Rattle.tdb_chunk.specs.StoreView.{StoreView, head_in, store_in, written_in}
use Rattle.tdb_chunk.proofs.FoundChunks.{node_is, record_is}
use Rattle.tdb_chunk.proofs.WayPieces.{known_later, node_of, piece_in, piece_later, tells_of}

-- one among those of which all have Q
one_of : (Q : ReadPiece → Type 0) (earlier later after : List ReadPiece) (one : ReadPiece) → AllByRecursion Q ((earlier ++ one ∷ later) ++ after) → Q one
one_of Q [] later after one all = all.0
one_of Q (e ∷ earlier) later after one all = one_of Q earlier later after one all.1

one_behind : (Q : ReadPiece → Type 0) (before earlier later after : List ReadPiece) (one : ReadPiece)
    → AllByRecursion Q (before ++ ((earlier ++ one ∷ later) ++ after)) → Q one
one_behind Q [] earlier later after one all = one_of Q earlier later after one all
one_behind Q (b ∷ before) earlier later after one all = one_behind Q before earlier later after one all.1

-- one of the reads between two moments, in the reads between an earlier and a later one
one_between : (Q : ReadPiece → Type 0) (old mid then new before more earlier later after all : List ReadPiece) (one : ReadPiece) → mid ≡ old ++ before
    → then ≡ mid ++ more → more ≡ earlier ++ one ∷ later → new ≡ then ++ after → new ≡ old ++ all → AllByRecursion Q all → Q one
one_between Q old mid then new before more earlier later after all one is_mid is_then is_more is_new is_all each =
    let whole : all ≡ before ++ ((earlier ++ one ∷ later) ++ after) =
    append_cancel_left old _ _
    (sym is_all ∙ is_new ∙ ap (λ (l : List ReadPiece). l ++ after) is_then
    ∙ ap (λ (l : List ReadPiece). (l ++ more) ++ after) is_mid
    ∙ ap (λ (l : List ReadPiece). ((old ++ before) ++ l) ++ after) is_more
    ∙ append_assoc (old ++ before) (earlier ++ one ∷ later) after
    ∙ append_assoc old before ((earlier ++ one ∷ later) ++ after)) in
    one_behind Q before earlier later after one (subst (λ (l : List ReadPiece). AllByRecursion Q l) whole each)

module _ {P : Type 0} (outside : P → Outside) (crash_states : P → CrashStates) (s : StoreView P) (part rank : ℕ)
    (sound : IsSound s.secret (outside s.platform)) (history : History) (last : StoreState) (at : StandsAt outside s history last) where
  abbrev Required : Piece → Type 0
  Required = IsRequired (written_in outside s) (store_in s) (head_in s)

  -- The log of a store needs each piece on the way to a chunk.
  pub piece_required : (piece : Piece) → IsPieceOf (outside s.platform) s part rank piece → Required piece
  piece_required piece (inl is) =
      record_is (outside s.platform).trace (commit_of (commit_key_of s.secret)) sound.unforged (known_texts (outside s.platform))
      (λ digest bytes known. (known.0, known.1 sound.tells)) Required s.secret rank (get s.log.overlay part) (get last.chunks part) piece
      (at.knows.chunks part) (tells_of s part rank (outside s.platform) piece is)
  piece_required piece (inr (level, (p, n))) =
      node_is (outside s.platform).trace (commit_of (commit_key_of s.secret)) sound.unforged (known_texts (outside s.platform))
      (λ digest bytes known. (known.0, known.1 sound.tells)) Required s.secret rank (get s.log.overlay part) (get last.chunks part) level piece
      (at.knows.chunks part) (node_of s part rank (outside s.platform) level p piece n)

  -- two of them don't stand at one place
  pieces_apart : (p q : Piece) → IsPieceOf (outside s.platform) s part rank p → IsPieceOf (outside s.platform) s part rank q → p.place.0 ≡ q.place.0 → p ≡ q
  pieces_apart p q is_p is_q same = required_apart (written_in outside s) (store_in s) (head_in s) history last at.log p q (piece_required p is_p) (piece_required q is_q)
      (ap (λ (n : ℕ). let d : Place = record { 0 = n } in d) same)

  -- What began as the same store, and only read, showed no damage of them.
  pub no_damage : (old : StoreView P) → s.log ≡ old.log → s.secret ≡ old.secret → (outside s.platform).tells ≡ (outside old.platform).tells
      → EachShown (shown_of (outside old.platform)) (shown_of (outside s.platform)) (ShowsOneOf (IsPieceOf (outside s.platform) old part rank))
      → (damage : Damage) → Between outside crash_states old s (IsDamageOfChunk outside part rank damage) → ⊥
  no_damage old same secret tells each damage (m, n, first, mid, then, d) =
      let old_tells : IsTrue (outside old.platform).tells = subst (λ (b : Bool). IsTrue b) tells sound.tells in
      let n_tells : IsTrue (outside n.platform).tells = subst (λ (b : Bool). IsTrue b) then.tells sound.tells in
      let kept : m.log ≡ old.log = first.kept (omega (arith, first.count, mid.count, then.count, ap (λ (l : _). l.head.count) same)) in
      let keys : m.secret ≡ old.secret = ap (λ (x : Store). x.secret) first.same in
      let here : IsPieceOf (outside s.platform) s part rank d.piece =
      piece_in m s part rank (kept ∙ sym same) (keys ∙ sym secret) (outside s.platform) d.piece
      (piece_later m part rank (outside n.platform) (outside s.platform) (known_later (outside n.platform) (outside s.platform) then.tells then.grows) d.piece d.of_chunk) in
      let before = first.grows old_tells in
      let after = then.grows n_tells in
      let into = shows_as (shown_of (outside old.platform)) (shown_of (outside s.platform)) (IsPieceOf (outside s.platform) old part rank)
      (IsPieceOf (outside s.platform) s part rank) (λ p is. piece_in old s part rank (sym same) (sym secret) (outside s.platform) p is) each in
      let all = into old_tells in
      let one : ShowsOneOf (IsPieceOf (outside s.platform) s part rank) d.shown.last =
      one_between (ShowsOneOf (IsPieceOf (outside s.platform) s part rank)) (outside old.platform).trace.read (outside m.platform).trace.read (outside n.platform).trace.read
      (outside s.platform).trace.read before.more_read d.read.more d.shown.earlier d.shown.later after.more_read all.0 d.shown.last before.read d.read.read d.shown.in_order
      after.read all.1 all.2 in
      let is : one.piece ≡ d.piece = pieces_apart one.piece d.piece one.is_one here (sym one.place ∙ d.shown.of_piece.0) in
      d.shown.differs (sym d.shown.digest ∙ one.digest ∙ ap (λ (x : Piece). x.digest.0) is)
