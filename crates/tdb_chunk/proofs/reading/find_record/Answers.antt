use Rattle.std.proofs.Common.{rules, ◌≡◌, ◌⊎◌, inr, Option, None, Some, Result, Err, is_some, false, refl, sym, ◌∙◌, subst}
use Rattle.std.proofs.lemmas.Bool.{false≢true}
use Rattle.tdb_base.specs.declared.piece.Damage.{Damage}
use Rattle.tdb_base.specs.declared.piece.Piece.{Piece}
use Rattle.tdb_base.specs.declared.piece.Place.{Place}
use Rattle.tdb_map.specs.Tree.{HasAt}
use Rattle.tdb_map.specs.declared.tree.Tree.{Tree}
use Rattle.tdb_map.specs.declared.pieces.PieceError.{PieceError}
use Rattle.tdb_map.specs.declared.pieces.PieceError.TheVariants as pieces
use Rattle.tdb_model.specs.declared.error.ReadError.{ReadError}
use Rattle.tdb_model.specs.declared.error.ReadError.TheVariants as answers
use Rattle.tdb_overlay.specs.ReadsJoin.{reads_nothing}
use Rattle.tdb_overlay.specs.Reading.{ReadsImage}
use Rattle.tdb_overlay.specs.Trees.{map_height}
use Rattle.tdb_chunk.specs.Finding.{IsDamageAbove, IsStrayAbove, IsUnfitAbove, nodes_read, tree_told}
use Rattle.tdb_chunk.proofs.Lookups.{AsksAbove, IsCauseAbove, ShowsAbove, damage_above, form_above, rootless}
use Rattle.tdb_chunk.proofs.reading.find_record.Goals as goal

the_damage : {T : Type 0} (a b : Damage) → ◌≡◌ {A = Result T ReadError} (Err (answers.Tampered a)) (Err (answers.Tampered b)) → a ≡ b
the_damage a b is = cc

the_place : {T : Type 0} (a b : Place) → ◌≡◌ {A = Result T ReadError} (Err (answers.Form a)) (Err (answers.Form b)) → a ≡ b
the_place a b is = cc

no_root : {T : Type 0} (root : Option T) → is_some root ≡ false → root ≡ None
no_root None is = refl
no_root (Some x) is = absurd (cc is)

pub returns-then-is_none-clause-reads : goal.returns-then-is_none-clause-reads
returns-then-is_none-clause-reads g c = reads_nothing g.P.Platform.outside g.P.Platform.crash_states g.met.P.Platform.counts c.args.platform.now

pub returns-then-is_none-clause-at : goal.returns-then-is_none-clause-at
returns-then-is_none-clause-at g c = rootless (g.P.Platform.outside c.args.platform.now) (tree_told c.args.keys.now c.args.leader.now) c.args.rank.0 (no_root c.args.leader.now.root (c.if-is_none.ensures))

pub returns-in-Err-Tampered-clause-asks : goal.returns-in-Err-Tampered-clause-asks
returns-in-Err-Tampered-clause-asks g c =
    let outside = g.P.Platform.outside in
    let old = c.args.platform.now in
    let new = c.lookup.new.pieces.platform.now in
    let rank = c.args.rank.0 in
    let tree : Tree = tree_told c.args.keys.now c.args.leader.now in
    let asks = subst (λ (p : _). AsksAbove (outside p) (outside new) tree rank) c.of.ensures.platform
    (subst (λ (t : Tree). AsksAbove (outside c.of.result.platform.now) (outside new) t rank) c.tree-tree.ensures c.lookup.ensures.asks) in
    subst (λ (p : _). AsksAbove (outside old) (outside p) tree rank) (search rules) asks

pub returns-in-Err-Tampered-clause-undamaged : goal.returns-in-Err-Tampered-clause-undamaged
returns-in-Err-Tampered-clause-undamaged g c none = absurd (none c.in-Err-Tampered.damage refl)

pub returns-in-Err-Form-clause-asks : goal.returns-in-Err-Form-clause-asks
returns-in-Err-Form-clause-asks g c =
    let outside = g.P.Platform.outside in
    let old = c.args.platform.now in
    let new = c.lookup.new.pieces.platform.now in
    let rank = c.args.rank.0 in
    let tree : Tree = tree_told c.args.keys.now c.args.leader.now in
    let asks = subst (λ (p : _). AsksAbove (outside p) (outside new) tree rank) c.of.ensures.platform
    (subst (λ (t : Tree). AsksAbove (outside c.of.result.platform.now) (outside new) t rank) c.tree-tree.ensures c.lookup.ensures.asks) in
    subst (λ (p : _). AsksAbove (outside old) (outside p) tree rank) (search rules) asks

pub returns-in-Err-Form-clause-undamaged : goal.returns-in-Err-Form-clause-undamaged
returns-in-Err-Form-clause-undamaged g c none =
    let outside = g.P.Platform.outside in
    let old = c.args.platform.now in
    let new = c.lookup.new.pieces.platform.now in
    let rank = c.args.rank.0 in
    let tree : Tree = tree_told c.args.keys.now c.args.leader.now in
    let shows = subst (λ (p : _). ShowsAbove (outside p) (outside new) tree rank) c.of.ensures.platform
    (subst (λ (t : Tree). ShowsAbove (outside c.of.result.platform.now) (outside new) t rank) c.tree-tree.ensures
    (c.lookup.ensures.undamaged (λ damage told. absurd (cc (c.in-Err-Form.is, c.in-Err-Form.field-0-is, told))))) in
    subst (λ (p : _). ShowsAbove (outside old) (outside p) tree rank) (search rules) shows

pub returns-in-Err-Fault-clause-asks : goal.returns-in-Err-Fault-clause-asks
returns-in-Err-Fault-clause-asks g c =
    let outside = g.P.Platform.outside in
    let old = c.args.platform.now in
    let new = c.lookup.new.pieces.platform.now in
    let rank = c.args.rank.0 in
    let tree : Tree = tree_told c.args.keys.now c.args.leader.now in
    let asks = subst (λ (p : _). AsksAbove (outside p) (outside new) tree rank) c.of.ensures.platform
    (subst (λ (t : Tree). AsksAbove (outside c.of.result.platform.now) (outside new) t rank) c.tree-tree.ensures c.lookup.ensures.asks) in
    subst (λ (p : _). AsksAbove (outside old) (outside p) tree rank) (search rules) asks

pub returns-in-Err-Fault-clause-undamaged : goal.returns-in-Err-Fault-clause-undamaged
returns-in-Err-Fault-clause-undamaged g c none =
    let outside = g.P.Platform.outside in
    let old = c.args.platform.now in
    let new = c.lookup.new.pieces.platform.now in
    let rank = c.args.rank.0 in
    let tree : Tree = tree_told c.args.keys.now c.args.leader.now in
    let shows = subst (λ (p : _). ShowsAbove (outside p) (outside new) tree rank) c.of.ensures.platform
    (subst (λ (t : Tree). ShowsAbove (outside c.of.result.platform.now) (outside new) t rank) c.tree-tree.ensures
    (c.lookup.ensures.undamaged (λ damage told. absurd (cc (c.in-Err-Fault.is, c.in-Err-Fault.field-0-is, told))))) in
    subst (λ (p : _). ShowsAbove (outside old) (outside p) tree rank) (search rules) shows

pub returns-in-Err-Memory-clause-asks : goal.returns-in-Err-Memory-clause-asks
returns-in-Err-Memory-clause-asks g c =
    let outside = g.P.Platform.outside in
    let old = c.args.platform.now in
    let new = c.lookup.new.pieces.platform.now in
    let rank = c.args.rank.0 in
    let tree : Tree = tree_told c.args.keys.now c.args.leader.now in
    let asks = subst (λ (p : _). AsksAbove (outside p) (outside new) tree rank) c.of.ensures.platform
    (subst (λ (t : Tree). AsksAbove (outside c.of.result.platform.now) (outside new) t rank) c.tree-tree.ensures c.lookup.ensures.asks) in
    subst (λ (p : _). AsksAbove (outside old) (outside p) tree rank) (search rules) asks

pub returns-in-Err-Memory-clause-undamaged : goal.returns-in-Err-Memory-clause-undamaged
returns-in-Err-Memory-clause-undamaged g c none =
    let outside = g.P.Platform.outside in
    let old = c.args.platform.now in
    let new = c.lookup.new.pieces.platform.now in
    let rank = c.args.rank.0 in
    let tree : Tree = tree_told c.args.keys.now c.args.leader.now in
    let shows = subst (λ (p : _). ShowsAbove (outside p) (outside new) tree rank) c.of.ensures.platform
    (subst (λ (t : Tree). ShowsAbove (outside c.of.result.platform.now) (outside new) t rank) c.tree-tree.ensures
    (c.lookup.ensures.undamaged (λ damage told. absurd (cc (c.in-Err-Memory.is, c.in-Err-Memory.field-0-is, told))))) in
    subst (λ (p : _). ShowsAbove (outside old) (outside p) tree rank) (search rules) shows

pub returns-in-Some-clause-asks : goal.returns-in-Some-clause-asks
returns-in-Some-clause-asks g c =
    let outside = g.P.Platform.outside in
    let old = c.args.platform.now in
    let new = c.lookup.new.pieces.platform.now in
    let rank = c.args.rank.0 in
    let tree : Tree = tree_told c.args.keys.now c.args.leader.now in
    let asks = subst (λ (p : _). AsksAbove (outside p) (outside new) tree rank) c.of.ensures.platform
    (subst (λ (t : Tree). AsksAbove (outside c.of.result.platform.now) (outside new) t rank) c.tree-tree.ensures c.lookup.ensures.asks) in
    subst (λ (p : _). AsksAbove (outside old) (outside p) tree rank) (search rules) asks

pub returns-in-Some-clause-undamaged : goal.returns-in-Some-clause-undamaged
returns-in-Some-clause-undamaged g c none =
    let outside = g.P.Platform.outside in
    let old = c.args.platform.now in
    let new = c.lookup.new.pieces.platform.now in
    let rank = c.args.rank.0 in
    let tree : Tree = tree_told c.args.keys.now c.args.leader.now in
    let shows = subst (λ (p : _). ShowsAbove (outside p) (outside new) tree rank) c.of.ensures.platform
    (subst (λ (t : Tree). ShowsAbove (outside c.of.result.platform.now) (outside new) t rank) c.tree-tree.ensures
    (c.lookup.ensures.undamaged (λ damage told. absurd (cc (c.in-Ok.is, told))))) in
    subst (λ (p : _). ShowsAbove (outside old) (outside p) tree rank) (search rules) shows

pub returns-in_default-clause-asks : goal.returns-in_default-clause-asks
returns-in_default-clause-asks g c =
    let outside = g.P.Platform.outside in
    let old = c.args.platform.now in
    let new = c.lookup.new.pieces.platform.now in
    let rank = c.args.rank.0 in
    let tree : Tree = tree_told c.args.keys.now c.args.leader.now in
    let asks = subst (λ (p : _). AsksAbove (outside p) (outside new) tree rank) c.of.ensures.platform
    (subst (λ (t : Tree). AsksAbove (outside c.of.result.platform.now) (outside new) t rank) c.tree-tree.ensures c.lookup.ensures.asks) in
    subst (λ (p : _). AsksAbove (outside old) (outside p) tree rank) (search rules) asks

pub returns-in_default-clause-undamaged : goal.returns-in_default-clause-undamaged
returns-in_default-clause-undamaged g c none =
    let outside = g.P.Platform.outside in
    let old = c.args.platform.now in
    let new = c.lookup.new.pieces.platform.now in
    let rank = c.args.rank.0 in
    let tree : Tree = tree_told c.args.keys.now c.args.leader.now in
    let shows = subst (λ (p : _). ShowsAbove (outside p) (outside new) tree rank) c.of.ensures.platform
    (subst (λ (t : Tree). ShowsAbove (outside c.of.result.platform.now) (outside new) t rank) c.tree-tree.ensures
    (c.lookup.ensures.undamaged (λ damage told. absurd (cc (c.in-Ok.is, told))))) in
    subst (λ (p : _). ShowsAbove (outside old) (outside p) tree rank) (search rules) shows

pub returns-in_default-2-clause-asks : goal.returns-in_default-2-clause-asks
returns-in_default-2-clause-asks g c =
    let outside = g.P.Platform.outside in
    let old = c.args.platform.now in
    let new = c.lookup.new.pieces.platform.now in
    let rank = c.args.rank.0 in
    let tree : Tree = tree_told c.args.keys.now c.args.leader.now in
    let asks = subst (λ (p : _). AsksAbove (outside p) (outside new) tree rank) c.of.ensures.platform
    (subst (λ (t : Tree). AsksAbove (outside c.of.result.platform.now) (outside new) t rank) c.tree-tree.ensures c.lookup.ensures.asks) in
    subst (λ (p : _). AsksAbove (outside old) (outside p) tree rank) (search rules) asks

pub returns-in_default-2-clause-undamaged : goal.returns-in_default-2-clause-undamaged
returns-in_default-2-clause-undamaged g c none =
    let outside = g.P.Platform.outside in
    let old = c.args.platform.now in
    let new = c.lookup.new.pieces.platform.now in
    let rank = c.args.rank.0 in
    let tree : Tree = tree_told c.args.keys.now c.args.leader.now in
    let shows = subst (λ (p : _). ShowsAbove (outside p) (outside new) tree rank) c.of.ensures.platform
    (subst (λ (t : Tree). ShowsAbove (outside c.of.result.platform.now) (outside new) t rank) c.tree-tree.ensures
    (c.lookup.ensures.undamaged (λ damage told. absurd (cc (c.in-Ok.is, told))))) in
    subst (λ (p : _). ShowsAbove (outside old) (outside p) tree rank) (search rules) shows

pub returns-in-Err-Tampered-clause-tampered : goal.returns-in-Err-Tampered-clause-tampered
returns-in-Err-Tampered-clause-tampered g c damage is =
    let outside = g.P.Platform.outside in
    let old = c.args.platform.now in
    let new = c.lookup.new.pieces.platform.now in
    let rank = c.args.rank.0 in
    let tree : Tree = tree_told c.args.keys.now c.args.leader.now in
    let same : c.lookup.new.pieces.segments.now ≡ c.args.segments.now = c.lookup.ensures.goes.1 ∙ c.of.ensures.segments in
    let why : IsCauseAbove (outside c.of.result.platform.now) (outside new) c.lookup.new.pieces.segments.now.segments c.tree-tree.result rank (pieces.Tampered c.in-Err-Tampered.damage) =
    subst (λ (e : PieceError). IsCauseAbove (outside c.of.result.platform.now) (outside new) c.lookup.new.pieces.segments.now.segments c.tree-tree.result rank e)
    c.in-Err-Tampered.field-0-is c.in-Err-Tampered.ensures.cause in
    let cause = subst (λ (p : _). IsCauseAbove (outside p) (outside new) c.args.segments.now.segments tree rank (pieces.Tampered c.in-Err-Tampered.damage)) c.of.ensures.platform
    (subst (λ (t : Tree). IsCauseAbove (outside c.of.result.platform.now) (outside new) c.args.segments.now.segments t rank (pieces.Tampered c.in-Err-Tampered.damage)) c.tree-tree.ensures
    (subst (λ (s : _). IsCauseAbove (outside c.of.result.platform.now) (outside new) s.segments c.tree-tree.result rank (pieces.Tampered c.in-Err-Tampered.damage)) same why)) in
    let image = subst (λ (p : _). ReadsImage (outside p) (outside new)) c.of.ensures.platform c.lookup.ensures.goes.2 in
    let here = damage_above (outside old) (outside new) c.args.segments.now.segments tree rank image c.in-Err-Tampered.damage cause in
    let it = subst (λ (d : Damage). IsDamageAbove (outside old) (outside new) tree rank d) (the_damage _ damage is) here in
    subst (λ (p : _). IsDamageAbove (outside old) (outside p) tree rank damage) (search rules) it

pub returns-in-Err-Form-clause-form : goal.returns-in-Err-Form-clause-form
returns-in-Err-Form-clause-form g c place is =
    let outside = g.P.Platform.outside in
    let old = c.args.platform.now in
    let new = c.lookup.new.pieces.platform.now in
    let rank = c.args.rank.0 in
    let tree : Tree = tree_told c.args.keys.now c.args.leader.now in
    let same : c.lookup.new.pieces.segments.now ≡ c.args.segments.now = c.lookup.ensures.goes.1 ∙ c.of.ensures.segments in
    let why : IsCauseAbove (outside c.of.result.platform.now) (outside new) c.lookup.new.pieces.segments.now.segments c.tree-tree.result rank (pieces.Form c.in-Err-Form.place) =
    subst (λ (e : PieceError). IsCauseAbove (outside c.of.result.platform.now) (outside new) c.lookup.new.pieces.segments.now.segments c.tree-tree.result rank e)
    c.in-Err-Form.field-0-is c.in-Err-Form.ensures.cause in
    let cause = subst (λ (p : _). IsCauseAbove (outside p) (outside new) c.args.segments.now.segments tree rank (pieces.Form c.in-Err-Form.place)) c.of.ensures.platform
    (subst (λ (t : Tree). IsCauseAbove (outside c.of.result.platform.now) (outside new) c.args.segments.now.segments t rank (pieces.Form c.in-Err-Form.place)) c.tree-tree.ensures
    (subst (λ (s : _). IsCauseAbove (outside c.of.result.platform.now) (outside new) s.segments c.tree-tree.result rank (pieces.Form c.in-Err-Form.place)) same why)) in
    let here = form_above (outside old) (outside new) c.args.segments.now.segments tree rank c.in-Err-Form.place cause in
    let it = subst (λ (x : Place). IsUnfitAbove (outside old) (outside new) tree rank x ⊎ IsStrayAbove (outside new) c.args.segments.now.segments tree rank x)
    (the_place _ place is) here in
    subst (λ (p : _). IsUnfitAbove (outside old) (outside p) tree rank place ⊎ IsStrayAbove (outside p) c.args.segments.now.segments tree rank place)
    (search rules) it

pub returns-in-Some-clause-form : goal.returns-in-Some-clause-form
returns-in-Some-clause-form g c place is =
    let outside = g.P.Platform.outside in
    let old = c.args.platform.now in
    let new = c.lookup.new.pieces.platform.now in
    let rank = c.args.rank.0 in
    let tree : Tree = tree_told c.args.keys.now c.args.leader.now in
    let piece = c.in-Some.piece in
    let found : HasAt (nodes_read (outside new) c.tree-tree.result) map_height c.tree-tree.result.root rank (Some piece) =
    subst (λ (l : Option Piece). HasAt (nodes_read (outside new) c.tree-tree.result) map_height c.tree-tree.result.root rank l) c.in-Some.is c.in-Ok.ensures.at in
    let leaf = subst (λ (t : Tree). HasAt (nodes_read (outside new) t) map_height t.root rank (Some piece)) c.tree-tree.ensures found in
    let stray : IsStrayAbove (outside new) c.args.segments.now.segments tree rank place = record {
      piece = piece;
      on_way = inr leaf;
      at_place = sym (the_place piece.place place is);
      strays = λ lies. false≢true (c.if-not-holds.ensures.1 lies);
    } in
    subst (λ (p : _). IsUnfitAbove (outside old) (outside p) tree rank place ⊎ IsStrayAbove (outside p) c.args.segments.now.segments tree rank place)
    (search rules) (inr stray)
