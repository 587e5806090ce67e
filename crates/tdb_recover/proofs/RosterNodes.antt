-- The nodes of the roster of a checkpoint, as they were read.
use Rattle.std.proofs.Common.{◌≡◌, ◌⊎◌, inl, inr, ℕ, ◌/◌, ◌^◌, ◌<◌, List, [], ◌∷◌, ◌++◌, Option, None, Some, IsTrue, length, refl, sym, ◌∙◌, ap, subst, arith}
use Rattle.std.specs.List.{AllByRecursion}
use Rattle.std.specs.FinMap.{get}
use Rattle.sha2.specs.Sha256.{sha256}
use Rattle.tdb_base.specs.Trace.{ReadPiece, Trace}
use Rattle.tdb_base.specs.declared.piece.Damage.{Damage}
use Rattle.tdb_base.specs.declared.piece.Digest.{Digest}
use Rattle.tdb_base.specs.declared.piece.Piece.{Piece}
use Rattle.tdb_base.specs.declared.piece.Place.{Place}
use Rattle.tdb_map.specs.Nodes.{Texts, node_name, nodes_of}
use Rattle.tdb_map.specs.Shown.{AsksOneOf, EachShown, IsShownLast, Shows}
use Rattle.tdb_map.specs.Tree.{HasAt, HasNode, IsAt, IsOnWayTo, entry}
use Rattle.tdb_map.specs.TreeCause.{IsBlocked, IsTreeCause}
use Rattle.tdb_map.specs.Walk.{Ascends, IsTooWide, Listed, listed}
use Rattle.tdb_map.specs.declared.pieces.PieceError.{PieceError}
use Rattle.tdb_map.specs.declared.pieces.PieceError.TheVariants as pieces
use Rattle.tdb_map.specs.declared.tree.Tree.{Tree}
use Rattle.tdb_mark.specs.CommitText.{commit_key_of, commit_of}
use Rattle.tdb_mark.specs.Unforged.{IsUnforged, WasRead}
use Rattle.tdb_mark.specs.declared.commit.Commit.{Commit}
use Rattle.tdb_model.specs.State.{Partition, State}
use Rattle.tdb_node.specs.Node.{IsNode}
use Rattle.tdb_node.proofs.NodeSpelling.{same_node}
use Rattle.tdb_platform.specs.Outside.{Outside}
use Rattle.tdb_seal.specs.SealedRecord.{IsSealedRecord}
use Rattle.tdb_seal.proofs.RecordSpelling.{same_plain}
use Rattle.tdb_overlay.specs.CheckpointState.{IsOfRoster, IsPartitionOf}
use Rattle.tdb_overlay.specs.Found.{Store, in_trace, store_of_text}
use Rattle.tdb_overlay.specs.Images.{StandsIn}
use Rattle.tdb_overlay.specs.Placement.{LiesBelow}
use Rattle.tdb_overlay.specs.Reading.{ReadsImage, held, known_texts, shown_of}
use Rattle.tdb_overlay.specs.Required.{IsReadOf}
use Rattle.tdb_overlay.specs.Trees.{map_height, nodes_in, roster}
use Rattle.tdb_overlay.proofs.ReadingLaws.{shows_held}
use Rattle.tdb_overlay.proofs.TreeRead.{on_way_reaches, read_fits, read_leaf_is, read_on_way}
use Rattle.tdb_overlay.proofs.Unmistaken.{read_is_piece}
use Rattle.tdb_recover.specs.Damaged.{IsDamageOf, damaged_piece}
use Rattle.tdb_recover.specs.Explained.{IsExplained, open_error_of_piece}
use Rattle.tdb_recover.specs.Reads.{ReadsAtMost, ReadsOnly}
use Rattle.tdb_recover.specs.Roster.{IsRosterIn}
use Rattle.tdb_recover.proofs.RosterLists.{listed_above}

-- a read of a whole piece that stands shows bytes with its digest
pub stands_shown : (image : List ℕ) (piece : Piece) (bytes : List ℕ) → bytes ≡ held image piece.place.0 piece.length → StandsIn image piece
    → sha256 bytes ≡ piece.digest.0
stands_shown image piece bytes is stands =
    let same : held image piece.place.0 piece.length ≡ stands.bytes =
    ap (λ (n : ℕ). held image piece.place.0 n) (sym stands.size) ∙ shows_held image piece.place.0 stands.bytes stands.holds in
    ap sha256 (is ∙ same) ∙ stands.digest

-- the last of the reads of which each has Q
pub last_of : (Q : ReadPiece → Type 0) (before : List ReadPiece) (r : ReadPiece) → AllByRecursion Q (before ++ r ∷ []) → Q r
last_of Q [] r all = all.0
last_of Q (x ∷ before) r all = last_of Q before r all.1

pub same_more : (xs a b : List ReadPiece) → xs ++ a ≡ xs ++ b → a ≡ b
same_more [] a b is = is
same_more (x ∷ xs) a b is = let rest : xs ++ a ≡ xs ++ b = cc in same_more xs a b rest

-- A node of a root that was read is the one that was written.
module _ (t : Trace) (grammar : List ℕ → Option Commit) (unforged : IsUnforged t grammar) (tree : Tree) (texts : Texts)
    (read : (digest bytes : List ℕ) → texts digest bytes → (sha256 bytes ≡ digest) × WasRead t.read bytes) where
  root_is : (level number : ℕ) (root : Option Piece) (a b : List (Option Piece)) → HasNode (nodes_of texts tree) level number root a
      → HasNode (nodes_in (in_trace t.written) tree) level number root b → a ≡ b
  root_is level number None a b was is = was ∙ sym is
  root_is level number (Some piece) a b was is =
      let shown = read piece.digest.0 was.0 was.1 in
      let same : was.0 ≡ is.0 = read_is_piece t grammar unforged was.0 shown.1 piece is.0 is.1 shown.0 in
      let sealed = subst (λ (bytes : List ℕ). IsSealedRecord tree.key.0 (node_name tree level number) was.2.plain bytes) same was.2.sealed in
      let plain : was.2.plain ≡ is.2.plain = same_plain tree.key.0 (node_name tree level number) was.2.plain is.2.plain is.0 sealed is.2.sealed in
      same_node a b is.2.plain (subst (λ (p : List ℕ). IsNode a p) plain was.2.spelled) is.2.spelled

-- the read that was shown last was made since the earlier moment
shown_since : (old new : Outside) (piece : Piece) (bytes : List ℕ) → IsShownLast (shown_of old) (shown_of new) piece bytes
    → (before : List ReadPiece) × (call : ℕ) × (new.trace.read ≡ old.trace.read ++ (before ++ record { bytes = bytes; place = piece.place.0; call = call; asked = piece.length } ∷ []))
shown_since old new piece bytes last = (last.before, last.call, last.is)

-- Damage of a needed piece: the last read since an earlier moment showed it.
damaged : (old new : Outside) (needed : Piece → Type 0) (piece : Piece) (damage : Damage) (bytes : List ℕ) → IsTrue old.tells → ReadsImage old new
    → needed piece → damage.place ≡ piece.place → damage.expected ≡ piece.digest → damage.found.0 ≡ sha256 bytes
    → (sha256 bytes ≡ piece.digest.0 → ⊥) → (before : List ReadPiece) (call : ℕ)
    → new.trace.read ≡ old.trace.read ++ (before ++ record { bytes = bytes; place = piece.place.0; call = call; asked = piece.length } ∷ [])
    → IsDamageOf old new needed damage
damaged old new needed piece damage bytes tells image is_needed at expected found differs before call read =
    let r : ReadPiece = record { bytes = bytes; place = piece.place.0; call = call; asked = piece.length } in
    let same : piece ≡ damaged_piece damage piece.length =
    ap (λ (p : Place). let q : Piece = record { place = p; length = piece.length; digest = piece.digest } in q) (sym at)
    ∙ ap (λ (d : Digest). let q : Piece = record { place = damage.place; length = piece.length; digest = d } in q) (sym expected) in
    record {
      size = piece.length;
      is_needed = subst needed same is_needed;
      read = record { more = before ++ r ∷ []; read = read };
      shown = record {
        earlier = before;
        last = r;
        later = [];
        in_order = refl;
        of_piece = (ap (λ (p : Place). p.0) (sym at), refl);
        no_later = tt;
        digest = sym found;
        differs = λ e. differs (sym found ∙ e ∙ ap (λ (d : Digest). d.0) expected);
      };
      hidden = λ honest stands.
          let reads = image honest tells in
          let more : reads.0.more ≡ before ++ r ∷ [] = same_more old.trace.read reads.0.more (before ++ r ∷ []) (sym reads.0.read ∙ read) in
          let gave : bytes ≡ held old.image piece.place.0 piece.length =
          last_of (λ x. x.bytes ≡ held old.image x.place x.asked) before r
          (subst (λ (l : List ReadPiece). AllByRecursion (λ x. x.bytes ≡ held old.image x.place x.asked) l) more reads.1) in
          differs (stands_shown old.image piece bytes gave (subst (λ (p : Piece). StandsIn old.image p) (sym same) stands));
    }

-- the last of some reads was read
last_was_read : (before : List ReadPiece) (r : ReadPiece) → WasRead (before ++ r ∷ []) r.bytes
last_was_read [] r = inl refl
last_was_read (x ∷ before) r = inr (last_was_read before r)

read_since : (earlier before : List ReadPiece) (r : ReadPiece) → WasRead (earlier ++ (before ++ r ∷ [])) r.bytes
read_since [] before r = last_was_read before r
read_since (x ∷ earlier) before r = inr (read_since earlier before r)

module _ (o : Outside) (tells : IsTrue o.tells) (secret : List ℕ) (c : Commit) (state : State)
    (given : IsRosterIn o.trace.written o.trace secret c state) where
  abbrev store : Store
  store = store_of_text secret c

  abbrev tree : Tree
  tree = roster (store_of_text secret c) c.root

  was_read : (digest bytes : List ℕ) → known_texts o digest bytes → (sha256 bytes ≡ digest) × WasRead o.trace.read bytes
  was_read digest bytes known = (known.0, known.1 tells)

  -- what the roster has at a rank
  written_at : (rank : ℕ) → rank < 64 ^ map_height → IsAt (nodes_in (in_trace o.trace.written) tree) map_height 0 c.root rank (given.tree rank).leaf
  written_at rank below = (given.tree rank).at.at below

  -- What was walked is the roster.
  pub walked_at : (from : ℕ) (es : Listed) → Ascends from 4096 es
      → ((rank : ℕ) → rank < 64 ^ map_height → IsAt (nodes_of (known_texts o) tree) map_height 0 c.root rank (listed es rank))
      → (part : ℕ) → HasAt (nodes_in (in_trace o.trace.written) tree) map_height c.root part (listed es part)
  walked_at from es ascends walked part = record {
    at = λ below.
        let same : listed es part ≡ (given.tree part).leaf =
        read_leaf_is o.trace (commit_of (commit_key_of secret)) given.unforged tree (known_texts o) was_read map_height 0 c.root part
        (listed es part) (given.tree part).leaf (walked part below) (written_at part below) in
        subst (λ (leaf : Option Piece). IsAt (nodes_in (in_trace o.trace.written) tree) map_height 0 c.root part leaf) (sym same) (written_at part below);
    above = λ above. listed_above from 4096 es ascends part (omega (arith, above));
  }

  below_all : (rank : ℕ) → rank / 64 ^ map_height ≡ 0 → rank < 64 ^ map_height
  below_all rank within = omega (arith, within)

  -- A node that was on the way is one of the roster's.
  pub way_is : (piece : Piece) → IsOnWayTo (nodes_of (known_texts o) tree) (λ _. Unit {0}) map_height 0 c.root piece
      → IsOfRoster (in_trace o.trace.written) store c.root piece
  way_is piece is =
      let below = below_all is.rank is.within in
      on_way_reaches (nodes_in (in_trace o.trace.written) tree) map_height 0 c.root is.rank is.level piece
      (read_on_way o.trace (commit_of (commit_key_of secret)) given.unforged tree (known_texts o) was_read map_height 0 c.root is.rank
      (given.tree is.rank).leaf is.level piece (written_at is.rank below) is.on_way)

  -- The roster has no partition with the number 0.
  no_zero : (leaf : Option Piece) (found : Option Partition) → IsPartitionOf (in_trace o.trace.written) store 0 leaf found → found ≡ None → leaf ≡ None
  no_zero None found is none = refl
  no_zero (Some piece) None is none = absurd is
  no_zero (Some piece) (Some p) is none = absurd (cc none)

  pub numbered_from : (es : Listed)
      → ((rank : ℕ) → rank < 64 ^ map_height → IsAt (nodes_of (known_texts o) tree) map_height 0 c.root rank (listed es rank))
      → listed es 0 ≡ None
  numbered_from es walked =
      let h = given.tree 0 in
      read_leaf_is o.trace (commit_of (commit_key_of secret)) given.unforged tree (known_texts o) was_read map_height 0 c.root 0 (listed es 0) h.leaf
      (walked 0 (omega arith)) (written_at 0 (omega arith))
      ∙ no_zero h.leaf (get state 0) h.partition given.numbered

  -- It isn't too wide.
  pub not_wide : (error : PieceError) → IsTooWide (nodes_of (known_texts o) tree) c.root error → ⊥
  not_wide error wide =
      let same : wide.node ≡ given.narrow.node = root_is o.trace (commit_of (commit_key_of secret)) given.unforged tree (known_texts o) was_read 2 0 c.root wide.node
      given.narrow.node wide.is_node given.narrow.is_node in
      absurd (cc (given.narrow.beyond wide.digit wide.beyond, ap (λ (n : List (Option Piece)). entry n wide.digit) same, wide.is_there))

  -- why it couldn't be walked
  module _ (old : Outside) (told : IsTrue old.tells) (image : ReadsImage old o) (misfits : Piece → Type 0)
      (fits : (piece : Piece) → misfits piece → LiesBelow c.segments piece → ⊥) where
    blocked : (error : PieceError) → IsBlocked (shown_of old) (shown_of o) misfits (nodes_of (known_texts o) tree) tree (λ _. Unit {0}) map_height 0
        c.root error → IsExplained old o (IsOfRoster (in_trace o.trace.written) store c.root) (open_error_of_piece error)
    blocked (pieces.Tampered damage) is =
        let h = is.cause in
        let own = way_is is.piece (record { rank = is.rank; is_wanted = tt; within = is.within; level = is.level; on_way = is.on_way }) in
        let last = shown_since old o is.piece h.0 (h.5 told) in
        damaged old o (IsOfRoster (in_trace o.trace.written) store c.root) is.piece damage h.0 told image own h.1 h.2 h.3 h.4 last.0 last.1 last.2
    blocked (pieces.Form place) is =
        let h = is.cause in
        let own = way_is is.piece (record { rank = is.rank; is_wanted = tt; within = is.within; level = is.level; on_way = is.on_way }) in
        let below = below_all is.rank is.within in
        elim h.1 [
          | inl misfit ↦ fits is.piece misfit (given.lies is.piece (inl own))
          | inr unfit ↦
              let last = shown_since old o is.piece unfit.0 (unfit.3 told) in
              let was = subst (λ (l : List ReadPiece). WasRead l unfit.0) (sym last.2) (read_since old.trace.read last.0 _) in
              let fit = read_fits o.trace (commit_of (commit_key_of secret)) given.unforged tree (known_texts o) was_read map_height 0 c.root is.rank
              (given.tree is.rank).leaf is.level is.piece is.within (written_at is.rank below) is.on_way unfit.0 unfit.1 was in
              unfit.2 fit.0 fit.1
        ]
    blocked pieces.Fault is = tt
    blocked pieces.Memory is = tt

    pub walk_explained : (error : PieceError) → IsTooWide (nodes_of (known_texts o) tree) c.root error
        ⊎ IsTreeCause (shown_of old) (shown_of o) misfits (nodes_of (known_texts o) tree) tree (λ _. Unit {0}) map_height 0 c.root error
        → IsExplained old o (IsOfRoster (in_trace o.trace.written) store c.root) (open_error_of_piece error)
    walk_explained error (inl wide) = absurd (not_wide error wide)
    walk_explained error (inr (inl memory)) =
        subst (λ (e : PieceError). IsExplained old o (IsOfRoster (in_trace o.trace.written) store c.root) (open_error_of_piece e)) (sym memory) tt
    walk_explained error (inr (inr is)) = blocked error is

-- what was asked for on the way is pieces of the roster alone
asked_all : (some needed : Piece → Type 0) (reads : List ReadPiece) → ((piece : Piece) → some piece → needed piece)
    → AllByRecursion (AsksOneOf some) reads → AllByRecursion (λ r. (piece : Piece) × needed piece × IsReadOf piece r) reads
asked_all some needed [] weaker all = tt
asked_all some needed (r ∷ reads) weaker all =
    ((all.0.piece, weaker all.0.piece all.0.is_one, (all.0.place, all.0.asked)), asked_all some needed reads weaker all.1)

pub asked_only : (some needed : Piece → Type 0) (old new : Outside) → IsTrue old.tells → ((piece : Piece) → some piece → needed piece)
    → EachShown (shown_of old) (shown_of new) (AsksOneOf some) → ReadsOnly needed old new
asked_only some needed old new tells weaker each =
    let h = each tells in
    record { read = record { more = h.0; read = h.1 }; each = asked_all some needed h.0 weaker h.2 }

pub shows_most : (most : ℕ) (old new : Outside) → Shows (shown_of old) (shown_of new) most → ReadsAtMost most old new
shows_most most old new shows tells more is =
    let h = shows.read tells in
    let same : more ≡ h.0 = same_more old.trace.read more h.0 (sym is ∙ h.1) in
    omega (arith, h.2, ap length same)
