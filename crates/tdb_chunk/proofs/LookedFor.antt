-- A read of a chunk as the store's fields show it.
use Rattle.std.proofs.Common.{◌≡◌, ℕ, ◌≤◌, false, List, Option, Some, None, Result, Ok, Err, IsTrue, sym, subst}
use Rattle.std.specs.FinMap as finmap
use Rattle.std.specs.Global.{Vec}
use Rattle.std.specs.Option.{option_map}
use Rattle.tdb_base.specs.declared.names.PartId.{PartId}
use Rattle.tdb_base.specs.declared.names.Rank.{Rank}
use Rattle.tdb_base.specs.declared.piece.Piece.{Piece}
use Rattle.tdb_base.specs.Trace.{IsNumbered}
use Rattle.tdb_map.specs.Shown.{AsksOneOf, EachShown, ShowsOneOf}
use Rattle.tdb_model.specs.HasRead.{HasRead}
use Rattle.tdb_model.specs.declared.error.ReadError.{ReadError}
use Rattle.tdb_model.specs.declared.error.ReadError.TheVariants.{NoChunk, Memory}
use Rattle.tdb_platform.specs.CrashStates.{CrashStates}
use Rattle.tdb_platform.specs.Outside.{Anchor, Outside}
use Rattle.tdb_overlay.specs.Covering.{Covered}
use Rattle.tdb_overlay.specs.Lookup.{leader_of, seen_at}
use Rattle.tdb_overlay.specs.Reading.{shown_of}
use Rattle.tdb_overlay.specs.declared.overlay.Leader.{Leader}
use Rattle.tdb_overlay.specs.declared.overlay.Seen.TheVariants.{Base}
use Rattle.tdb_chunk.specs.Shown.{IsByTree, IsPieceOf}
use Rattle.tdb_chunk.specs.Standing.{IsReady}
use Rattle.tdb_chunk.specs.StoreMeans.{store_means}
use Rattle.tdb_chunk.specs.StoreView.{StoreView}
use Rattle.tdb_chunk.proofs.ChunkReads.{FindFacts, ReadFacts, Way, find_asks, find_shows, has_read, no_record, not_found, read_asks, read_unhidden, way_asks, way_found, way_listed}
use Rattle.tdb_chunk.proofs.FoundChunks.{seen_of}
use Rattle.tdb_chunk.proofs.StoreReads.{covered_one, over}

-- The record of a chunk was looked for, by reads alone: the store is now this one.
pub record Looked {P : Type 0} (outside : P → Outside) (crash_states : P → CrashStates) (s : StoreView P) (part rank : ℕ) (mid : StoreView P)
    (leaf : Option Piece) : Type 0 where
  pub platform : P
  pub way : Way outside crash_states s part rank platform leaf
  pub is : mid ≡ over s platform

abbrev pub Asked : {P : Type 0} → (P → Outside) → StoreView P → P → ℕ → ℕ → Type 0
Asked outside s q part rank = EachShown (shown_of (outside s.platform)) (shown_of (outside q)) (AsksOneOf (IsPieceOf (outside q) s part rank))

abbrev pub AllShown : {P : Type 0} → (P → Outside) → StoreView P → P → ℕ → ℕ → Type 0
AllShown outside s q part rank = EachShown (shown_of (outside s.platform)) (shown_of (outside q)) (ShowsOneOf (IsPieceOf (outside q) s part rank))

pub asked_as : {P : Type 0} (outside : P → Outside) (seen old : StoreView P) (q : P) (part rank : ℕ) → seen ≡ old → Asked outside seen q part rank
    → Asked outside old q part rank
asked_as outside seen old q part rank is asked = subst (λ (s : StoreView _). Asked outside s q part rank) is asked

pub shown_as : {P : Type 0} (outside : P → Outside) (seen old : StoreView P) (q : P) (part rank : ℕ) → seen ≡ old → AllShown outside seen q part rank
    → AllShown outside old q part rank
shown_as outside seen old q part rank is shown = subst (λ (s : StoreView _). AllShown outside s q part rank) is shown

module _ {P : Type 0} (outside : P → Outside) (crash_states : P → CrashStates)
    (counts : (p : P) (t u : ℕ) (i : List ℕ) (a : Anchor) → t ≤ u → u ≤ (outside p).clock → crash_states p u i a → crash_states p t i a)
    (numbered : (p : P) → IsTrue (outside p).tells → IsNumbered (outside p).trace) (old : StoreView P) (part : PartId) (rank : Rank)
    (leader : Leader) (ready : IsReady outside crash_states old) (running : old.stopped ≡ false)
    (led : Some leader ≡ option_map leader_of (finmap.get old.log.overlay part.0)) where
  -- a list told of it
  pub looked_listed : (leaf : Option Piece) (mid : StoreView P) → mid ≡ old → seen_at old.log.overlay part.0 rank.0 ≡ seen_of leaf
      → Looked outside crash_states old part.0 rank.0 mid leaf
  looked_listed leaf mid same is = record {
    platform = old.platform;
    way = way_listed outside crash_states counts numbered old part.0 rank.0 leaf is;
    is = same;
  }

  -- Nothing did, so the tree was asked.
  module _ (q : P) (base : Base ≡ seen_at old.log.overlay part.0 rank.0) where
    told : (c : Covered) × (finmap.get old.log.overlay part.0 ≡ Some c) × (leader ≡ leader_of c)
    told = covered_one (finmap.get old.log.overlay part.0) leader led

    by_tree : IsByTree old part.0 rank.0 told.0
    by_tree = record { is_there = told.1; unnamed = sym base }

    facts_told : (result : Result (Option Piece) ReadError) → FindFacts outside crash_states old q rank.0 leader result
        → FindFacts outside crash_states old q rank.0 (leader_of told.0) result
    facts_told result f = subst (λ (l : Leader). FindFacts outside crash_states old q rank.0 l result) told.2 f

    pub looked_found : (leaf : Option Piece) (mid : StoreView P) → mid ≡ over old q → FindFacts outside crash_states old q rank.0 leader (Ok leaf)
        → Looked outside crash_states old part.0 rank.0 mid leaf
    looked_found leaf mid same f = record {
      platform = q;
      way = way_found outside crash_states counts numbered old part.0 rank.0 q told.0 leaf (facts_told (Ok leaf) f) by_tree;
      is = same;
    }

    pub refused_read : (e : ReadError) → FindFacts outside crash_states old q rank.0 leader (Err e)
        → HasRead (store_means outside crash_states) part rank old (over old q) (Err e)
    refused_read e f = not_found outside crash_states counts numbered old part rank leader ready running led q told.0 by_tree e (facts_told (Err e) f)

    pub refused_asks : (e : ReadError) → FindFacts outside crash_states old q rank.0 leader (Err e) → Asked outside old q part.0 rank.0
    refused_asks e f = find_asks outside crash_states counts numbered old part.0 rank.0 q told.0 (facts_told (Err e) f) by_tree

    pub refused_shows : (e : ReadError) → FindFacts outside crash_states old q rank.0 leader (Err e) → e ≡ Memory
        → AllShown outside old q part.0 rank.0
    refused_shows e f memory = find_shows outside crash_states counts numbered old part.0 rank.0 q told.0 (facts_told (Err e) f) by_tree
        (λ damage is. absurd (cc (is, memory)))

  module _ (mid : StoreView P) where
    pub none_read : Looked outside crash_states old part.0 rank.0 mid None → HasRead (store_means outside crash_states) part rank old mid (Err NoChunk)
    none_read l = subst (λ (s : StoreView P). HasRead (store_means outside crash_states) part rank old s (Err NoChunk)) (sym l.is)
        (no_record outside crash_states counts numbered old part rank leader ready running led l.platform l.way)

    pub none_asks : Looked outside crash_states old part.0 rank.0 mid None → Asked outside old mid.platform part.0 rank.0
    none_asks l = subst (λ (s : StoreView P). Asked outside old s.platform part.0 rank.0) (sym l.is)
        (way_asks outside crash_states counts numbered old part.0 rank.0 l.platform None l.way)

    module _ (q : P) (piece : Piece) (l : Looked outside crash_states old part.0 rank.0 mid (Some piece)) (result : Result (Vec ℕ) ReadError)
        (f : ReadFacts outside crash_states mid q rank.0 leader piece result) where
      facts : ReadFacts outside crash_states (over old l.platform) q rank.0 leader piece result
      facts = subst (λ (s : StoreView P). ReadFacts outside crash_states s q rank.0 leader piece result) l.is f

      pub found_read : HasRead (store_means outside crash_states) part rank old (over mid q) result
      found_read = subst (λ (s : StoreView P). HasRead (store_means outside crash_states) part rank old (over s q) result) (sym l.is)
          (has_read outside crash_states counts numbered old part rank leader ready running led l.platform q piece l.way result facts)

      pub found_asks : Asked outside old q part.0 rank.0
      found_asks = read_asks outside crash_states counts numbered old part.0 rank.0 l.platform q leader piece l.way result facts

      pub found_shows : result ≡ Err Memory → AllShown outside old q part.0 rank.0
      found_shows memory = read_unhidden outside crash_states counts numbered old part.0 rank.0 l.platform q leader piece l.way result facts memory
