-- What is kept of the last checkpoint's tree stays as more is found, and as commits are noted behind it.
use Rattle.std.proofs.Common.{◌≡◌, ◌⊎◌, inl, inr, ℕ, ◌^◌, ◌==◌, Bool, true, false, cond, List, [], ◌∷◌, Option, None, Some, refl, sym, subst, arith}
use Rattle.std.proofs.lemmas.Bool.{cases_lt}
use Rattle.std.specs.FinMap.{get, get-empty, insert, remove}
use Rattle.std.specs.Option.{option_map}
use Rattle.std.specs.Ordering.{nat_cmp}
use Rattle.tdb_base.specs.declared.piece.Piece.{Piece}
use Rattle.tdb_list.specs.declared.entry.Entry.{Entry}
use Rattle.tdb_map.specs.Tree.{HasAt}
use Rattle.tdb_map.specs.declared.tree.Tree.{Tree}
use Rattle.tdb_map.proofs.TreeLemmas.{none_at}
use Rattle.tdb_model.proofs.MapLemmas.{get_inserted, get_removed}
use Rattle.tdb_overlay.specs.BaseTree.{HasToldRoots, IsTreeOfLeader, TellsRoster}
use Rattle.tdb_overlay.specs.CheckpointState.{IsOfRoster}
use Rattle.tdb_overlay.specs.Covering.{Covered, Covers, cover_copied, cover_freed, cover_made, cover_written, no_covers, noted, noted_all, with_cover}
use Rattle.tdb_overlay.specs.Found.{Finds, Finer, Store}
use Rattle.tdb_overlay.specs.Lookup.{cover_told}
use Rattle.tdb_overlay.specs.Roster.{TellsLeaf, kept_of}
use Rattle.tdb_overlay.specs.Trees.{map_height, nodes_in, roster}
use Rattle.tdb_overlay.proofs.CheckpointLaws.{leader_stays}
use Rattle.tdb_overlay.proofs.RosterCovers.{at_of_those, of_those}
use Rattle.tdb_overlay.proofs.TreeLaws.{has_at_later, nodes_finer}

module _ (f g : Finds) (finer : Finer f g) (store : Store) (root : Option Piece) where
  at_finer : (part : ℕ) (leaf : Option Piece) → HasAt (nodes_in f (roster store root)) map_height root part leaf
      → HasAt (nodes_in g (roster store root)) map_height root part leaf
  at_finer part leaf at =
      let tree : Tree = roster store root in
      has_at_later (nodes_in f tree) (nodes_in g tree) (nodes_finer f g tree finer) map_height root part leaf at

  leaf_finer : (part : ℕ) (leaf : Option Piece) (cover : Option Covered) → TellsLeaf f store part leaf cover
      → TellsLeaf g store part leaf cover
  leaf_finer part None cover tells = tells
  leaf_finer part (Some piece) cover tells = (tells.0, leader_stays f g finer store part piece tells.0 tells.1, tells.2)

  -- What tells the roster still tells it where more is found,
  pub roster_told_finer : (covers : Covers) → TellsRoster f store root covers → TellsRoster g store root covers
  roster_told_finer covers tells part =
      let t = tells part in
      record { leaf = t.leaf; at = at_finer part t.leaf t.at; tells = leaf_finer part t.leaf (get covers part) t.tells }

  tree_finer : (c : Covered) → IsTreeOfLeader f store root c → IsTreeOfLeader g store root c
  tree_finer c is = record {
    part = is.part;
    at = is.at;
    in_roster = at_finer is.part (Some is.at) is.in_roster;
    leader = is.leader;
    is_leader = leader_stays f g finer store is.part is.at is.leader is.is_leader;
    suite = is.suite;
    home = is.home;
    birth = is.birth;
    root_is = is.root_is;
  }

  -- and trees of its leaders are still those.
  pub told_roots_finer : (covers : Covers) → HasToldRoots f store root covers → HasToldRoots g store root covers
  told_roots_finer covers told part c there = still (told part c there)
    where
      still : (c.root ≡ None) ⊎ IsTreeOfLeader f store root c → (c.root ≡ None) ⊎ IsTreeOfLeader g store root c
      still (inl none) = inl none
      still (inr tree) = inr (tree_finer c tree)

-- A roster all of whose nodes and leaders have R is told by such pieces.
module _ (f : Finds) (R : Piece → Type 0) (store : Store) (root : Option Piece)
    (all : (piece : Piece) → IsOfRoster f store root piece → R piece) where
  at_those : (part : ℕ) (leaf : Option Piece) → HasAt (nodes_in f (roster store root)) map_height root part leaf
      → HasAt (nodes_in (of_those f R) (roster store root)) map_height root part leaf × ((piece : Piece) → leaf ≡ Some piece → R piece)
  at_those part leaf is = elim (cases_lt part (64 ^ map_height)) [
    | inl inside ↦
        let way = at_of_those f R (roster store root) map_height 0 root part leaf (is.at inside) all in
        (record { at = λ again. way.0; above = is.above }, way.1)
    | inr above ↦ (
      record { at = λ inside. absurd (omega (arith, inside, above)); above = is.above },
      λ piece same. absurd (cc (same, is.above above)),
    )
  ]

  leaf_those : (part : ℕ) (leaf : Option Piece) (cover : Option Covered) → ((piece : Piece) → leaf ≡ Some piece → R piece)
      → TellsLeaf f store part leaf cover → TellsLeaf (of_those f R) store part leaf cover
  leaf_those part None cover one tells = tells
  leaf_those part (Some piece) cover one tells = (
    tells.0,
    record {
      sealed = tells.1.sealed;
      plain = tells.1.plain;
      found = (tells.1.found, one piece refl);
      opened = tells.1.opened;
      spelled = tells.1.spelled;
    },
    tells.2,
  )

  pub roster_told_those : (covers : Covers) → TellsRoster f store root covers → TellsRoster (of_those f R) store root covers
  roster_told_those covers tells part =
      let t = tells part in
      let at = at_those part t.leaf t.at in
      record { leaf = t.leaf; at = at.0; tells = leaf_those part t.leaf (get covers part) at.1 t.tells }

-- the same of two equal roots
pub roster_told_at : (f : Finds) (store : Store) (root new : Option Piece) (covers : Covers) → root ≡ new → TellsRoster f store root covers
    → TellsRoster f store new covers
roster_told_at f store root new covers same tells = subst (λ (r : Option Piece). TellsRoster f store r covers) same tells

pub told_roots_at : (f : Finds) (store : Store) (root new : Option Piece) (covers : Covers) → root ≡ new → HasToldRoots f store root covers
    → HasToldRoots f store new covers
told_roots_at f store root new covers same told = subst (λ (r : Option Piece). HasToldRoots f store r covers) same told

module _ (f : Finds) (store : Store) (root : Option Piece) where
  -- the partition has no tree, or that of a leader
  abbrev IsToldRoot : Covered → Type 0
  IsToldRoot c = (c.root ≡ None) ⊎ IsTreeOfLeader f store root c

  -- each partition that is there has a told root
  abbrev IsToldIn : Option Covered → Type 0
  IsToldIn found = (c : Covered) → found ≡ Some c → IsToldRoot c

  told_as : (found other : Option Covered) → found ≡ other → IsToldIn other → IsToldIn found
  told_as found other same told = subst IsToldIn (sym same) told

  told_one : (c : Covered) → IsToldRoot c → IsToldIn (Some c)
  told_one c is d same = subst IsToldRoot (the_same c d same) is
    where
      the_same : (c d : Covered) → ◌≡◌ {A = Option Covered} (Some c) (Some d) → c ≡ d
      the_same c d same = cc

  told_none : IsToldIn None
  told_none c same = absurd (cc same)

  -- what is told by a leader has that leader's tree
  leaf_told : (part : ℕ) (leaf : Option Piece) → HasAt (nodes_in f (roster store root)) map_height root part leaf
      → (cover : Option Covered) → TellsLeaf f store part leaf cover → IsToldIn cover
  leaf_told part None at cover tells = told_as cover None tells told_none
  leaf_told part (Some piece) at cover tells =
      told_as cover (Some (cover_told (kept_of tells.0))) tells.2 (told_one (cover_told (kept_of tells.0)) (inr (record {
        part = part;
        at = piece;
        in_roster = at;
        leader = tells.0;
        is_leader = tells.1;
        suite = refl;
        home = refl;
        birth = refl;
        root_is = refl;
      })))

  -- Where the roster is told, each tree is that of its leader.
  pub roster_told_roots : (covers : Covers) → TellsRoster f store root covers → HasToldRoots f store root covers
  roster_told_roots covers tells part = leaf_told part (tells part).leaf (tells part).at (get covers part) (tells part).tells

  -- A change leaves the tree of its partition, and a copy has its source's.
  written_told : (rank : ℕ) (piece : Piece) (c : Covered) → IsToldRoot c → IsToldRoot (cover_written rank piece c)
  written_told rank piece c (inl none) = inl none
  written_told rank piece c (inr is) = inr (record {
    part = is.part;
    at = is.at;
    in_roster = is.in_roster;
    leader = is.leader;
    is_leader = is.is_leader;
    suite = is.suite;
    home = is.home;
    birth = is.birth;
    root_is = is.root_is;
  })

  freed_told : (rank : ℕ) (c : Covered) → IsToldRoot c → IsToldRoot (cover_freed rank c)
  freed_told rank c (inl none) = inl none
  freed_told rank c (inr is) = inr (record {
    part = is.part;
    at = is.at;
    in_roster = is.in_roster;
    leader = is.leader;
    is_leader = is.is_leader;
    suite = is.suite;
    home = is.home;
    birth = is.birth;
    root_is = is.root_is;
  })

  copied_told : (count from : ℕ) (c : Covered) → IsToldRoot c → IsToldRoot (cover_copied count from c)
  copied_told count from c (inl none) = inl none
  copied_told count from c (inr is) = inr (record {
    part = is.part;
    at = is.at;
    in_roster = is.in_roster;
    leader = is.leader;
    is_leader = is.is_leader;
    suite = is.suite;
    home = is.home;
    birth = is.birth;
    root_is = is.root_is;
  })

  changed_told : (change : Covered → Covered) → ((c : Covered) → IsToldRoot c → IsToldRoot (change c)) → (found : Option Covered)
      → IsToldIn found → IsToldIn (option_map change found)
  changed_told change keeps None told = told_none
  changed_told change keeps (Some c) told = told_one (change c) (keeps c (told c refl))

  inserted_told : (covers : Covers) (k : ℕ) (c : Covered) → HasToldRoots f store root covers → IsToldRoot c
      → HasToldRoots f store root (insert covers k c)
  inserted_told covers k c told is part =
      told_as (get (insert covers k c) part) (cond (part == k) (Some c) (get covers part)) (get_inserted covers k c part)
      (elim (part == k) as (λ (b : Bool). IsToldIn (cond b (Some c) (get covers part))) [
        | true ↦ told_one c is
        | false ↦ told part
      ])

  removed_told : (covers : Covers) (k : ℕ) → HasToldRoots f store root covers → HasToldRoots f store root (remove covers k)
  removed_told covers k told part =
      told_as (get (remove covers k) part) (cond (part == k) None (get covers part)) (get_removed covers k part)
      (elim (part == k) as (λ (b : Bool). IsToldIn (cond b None (get covers part))) [
        | true ↦ told_none
        | false ↦ told part
      ])

  with_told : (covers : Covers) (k : ℕ) (cover : Option Covered) → HasToldRoots f store root covers → IsToldIn cover
      → HasToldRoots f store root (with_cover covers k cover)
  with_told covers k None told is = told
  with_told covers k (Some c) told is = inserted_told covers k c told (is c refl)

  either_told : (b : Bool) (x y : Covers) → HasToldRoots f store root x → HasToldRoots f store root y
      → HasToldRoots f store root (cond b x y)
  either_told true x y told other = told
  either_told false x y told other = other

  -- One entry keeps it,
  pub noted_told : (count : ℕ) (covers : Covers) (e : Entry) → HasToldRoots f store root covers
      → HasToldRoots f store root (noted count covers e)
  noted_told count covers e told =
      let found = get covers e.part in
      either_told (e.kind == 1) _ _
      (with_told covers e.part _ told (changed_told (cover_written e.rank e.piece) (written_told e.rank e.piece) found (told e.part)))
      (either_told (e.kind == 2) _ _
      (with_told covers e.part _ told (changed_told (cover_freed e.rank) (freed_told e.rank) found (told e.part)))
      (either_told (e.kind == 3) _ _ (inserted_told covers e.part (cover_made count e) told (inl refl))
      (either_told (e.kind == 4) _ _
      (with_told covers e.rank _ told (changed_told (cover_copied count e.part) (copied_told count e.part) found (told e.part)))
      (removed_told covers e.part told))))

  -- and so do all of a list.
  pub noted_all_told : (count : ℕ) (covers : Covers) (entries : List Entry) → HasToldRoots f store root covers
      → HasToldRoots f store root (noted_all count covers entries)
  noted_all_told count covers [] told = told
  noted_all_told count covers (e ∷ entries) told = noted_all_told count (noted count covers e) entries (noted_told count covers e told)

  -- no partition has a tree that is not told
  pub none_told : HasToldRoots f store root no_covers
  none_told part = told_as (get no_covers part) None (get-empty {X = Covered} nat_cmp part) told_none

-- No cover tells the roster without a partition.
pub no_roster_told : (f : Finds) (store : Store) → TellsRoster f store None no_covers
no_roster_told f store part = record {
  leaf = None;
  at = record { at = λ below. none_at (nodes_in f (roster store None)) map_height 0 part; above = λ above. refl };
  tells = get-empty {X = Covered} nat_cmp part;
}
