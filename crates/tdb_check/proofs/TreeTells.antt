-- The tree of each partition is had, and what becomes of its leader tells the partition.
use Rattle.std.proofs.Common.{◌≡◌, ◌⊎◌, inl, inr, ℕ, List, Option, None, Some, refl, ap, sym, subst, ◌∙◌}
use Rattle.std.specs.FinMap.{get}
use Rattle.std.specs.Option.{option_map}
use Rattle.tdb_append.specs.Placed.{Placed}
use Rattle.tdb_base.specs.declared.piece.Piece.{Piece}
use Rattle.tdb_base.specs.declared.suite.Suite.{Suite}
use Rattle.tdb_map.specs.Edits.{edit_or}
use Rattle.tdb_map.specs.Tree.{HasAt}
use Rattle.tdb_map.specs.declared.tree.Tree.{Tree}
use Rattle.tdb_map.proofs.TreeLemmas.{none_at}
use Rattle.tdb_model.specs.State.{Partition, State}
use Rattle.tdb_node.specs.declared.leader.Leader.{Leader as NodeLeader}
use Rattle.tdb_platform.specs.Outside.{Outside}
use Rattle.tdb_overlay.specs.BaseTree.{IsTreeOfLeader}
use Rattle.tdb_overlay.specs.CheckpointState.{IsLeaderRecord, IsPartitionOf, IsToldBy, IsTreeState, partition_tree}
use Rattle.tdb_overlay.specs.Covering.{Covered, IsCoveredAt, IsCoveredPartition}
use Rattle.tdb_overlay.specs.Found.{Finds, FindsOne, Store}
use Rattle.tdb_overlay.specs.Lookup.{cover_told, leader_of}
use Rattle.tdb_overlay.specs.Roster.{TellsLeaf, kept_of}
use Rattle.tdb_overlay.specs.Trees.{HasChunk, map_height, nodes_in, roster, tree_of}
use Rattle.tdb_overlay.specs.declared.overlay.Leader.{Leader}
use Rattle.tdb_overlay.proofs.CheckpointLaws.{one_leader}
use Rattle.tdb_overlay.proofs.TreeLaws.{one_has_at, one_nodes_in}
use Rattle.tdb_check.specs.NewMap.{HasNewLeader, IsNewPart, IsNewRoot, told_with, tree_in}
use Rattle.tdb_check.proofs.NewTrees.{Agrees, new_chunks, with_pieces}

-- a tree has a leaf, or none, at a rank
abbrev pub HasSome : Finds → Tree → Option Piece → ℕ → Type 0
HasSome f tree root rank = (leaf : Option Piece) × HasAt (nodes_in f tree) map_height root rank leaf

-- a tree without a root has nothing at each rank
none_had : (f : Finds) (tree : Tree) (rank : ℕ) → HasSome f tree None rank
none_had f tree rank = (None, record { at = λ below. none_at (nodes_in f tree) map_height 0 rank; above = λ above. refl })

-- the tree of a leader that the state's roster has
leader_tree : (f : Finds) → FindsOne f → (store : Store) (part : ℕ) (piece : Piece) (l : NodeLeader) → IsLeaderRecord f store part piece l
    → (leaf : Option Piece) → leaf ≡ Some piece → (p : Option Partition) → IsPartitionOf f store part leaf p → (rank : ℕ)
    → HasSome f (partition_tree store.secret l) l.root rank
leader_tree f one store part piece l is None same None told rank = absurd (cc same)
leader_tree f one store part piece l is None same (Some p) told rank = absurd told
leader_tree f one store part piece l is (Some top) same None told rank = absurd told
leader_tree f one store part piece l is (Some top) same (Some p) told rank =
    let here : top ≡ piece = cc same in
    let own : IsLeaderRecord f store part piece told.leader =
    subst (λ (x : Piece). IsLeaderRecord f store part x told.leader) here told.is_leader in
    let same_one : told.leader ≡ l = one_leader f one store part piece told.leader l own is in
    let chunk = told.chunks rank in
    subst (λ (x : NodeLeader). HasSome f (partition_tree store.secret x) x.root rank) same_one (chunk.leaf, chunk.at)

-- a leader's tree, by what is told of the partition
tree_named : (f : Finds) (secret : List ℕ) (l : NodeLeader) (c : Covered) → l.suite ≡ c.suite → l.home ≡ c.home → l.birth ≡ c.birth
    → l.root ≡ c.root → (rank : ℕ) → HasSome f (partition_tree secret l) l.root rank → HasSome f (tree_in secret c) c.root rank
tree_named f secret l c suite home birth root rank had =
    subst (λ (r : Option Piece). HasSome f (tree_of secret c.suite c.home c.birth r) r rank) root
    (subst (λ (n : ℕ). HasSome f (tree_of secret c.suite c.home n l.root) l.root rank) birth
    (subst (λ (n : ℕ). HasSome f (tree_of secret c.suite n l.birth l.root) l.root rank) home
    (subst (λ (s : Suite). HasSome f (tree_of secret s l.home l.birth l.root) l.root rank) suite had)))

-- The tree of each partition at the last checkpoint is had.
pub told_tree : (f : Finds) → FindsOne f → (store : Store) (old : Option Piece) (based : State) → IsTreeState f store old based
    → (c : Covered) → (c.root ≡ None) ⊎ IsTreeOfLeader f store old c → (rank : ℕ) → HasSome f (tree_in store.secret c) c.root rank
told_tree f one store old based told c (inl none) rank =
    subst (λ (root : Option Piece). HasSome f (tree_in store.secret c) root rank) (sym none) (none_had f (tree_in store.secret c) rank)
told_tree f one store old based told c (inr is) rank =
    let h = told is.part in
    let top : Tree = roster store old in
    let leaf = one_has_at (nodes_in f top) (one_nodes_in f top one) map_height old is.part h.leaf (Some is.at) h.at is.in_roster in
    tree_named f store.secret is.leader c is.suite is.home is.birth is.root_is rank
    (leader_tree f one store is.part is.at is.leader is.is_leader h.leaf leaf (get based is.part) h.partition rank)

-- what a partition's leaf is, and what is told of it
pub record TellsNew (f : Finds) (store : Store) (part : ℕ) (leaf : Option Piece) (p : Option Partition)
    (told : Option Covered) : Type 0 where
  pub partition : IsPartitionOf f store part leaf p
  pub tells : TellsLeaf f store part leaf told

-- no leaf, no partition, and nothing told
tells_none : (f : Finds) (store : Store) (part : ℕ) (leaf : Option Piece) (told : Option Covered) → leaf ≡ None → told ≡ None
    → TellsNew f store part leaf None told
tells_none f store part leaf told none untold = subst (λ (x : Option Piece). TellsNew f store part x None told) (sym none)
    (record { partition = tt; tells = untold })

-- where the base tells nothing the roster has no leader
base_none : (f : Finds) (store : Store) (part : ℕ) (leaf : Option Piece) → TellsLeaf f store part leaf None → leaf ≡ None
base_none f store part None tells = refl
base_none f store part (Some piece) tells = absurd (cc tells.2)

-- The leader that the base tells of is the one that the roster has.
base_leader : (f : Finds) (store : Store) (part : ℕ) (leaf : Option Piece) (base : Option Covered) (led : Leader)
    → TellsLeaf f store part leaf base → option_map leader_of base ≡ Some led
    → (piece : Piece) × (l : NodeLeader) × (leaf ≡ Some piece) × IsLeaderRecord f store part piece l × (kept_of l ≡ led)
base_leader f store part None base led tells is =
    let none : option_map leader_of base ≡ None = ap (λ (b : Option Covered). option_map leader_of b) tells in
    absurd (cc (none, is))
base_leader f store part (Some piece) base led tells is =
    let own : option_map leader_of base ≡ Some (kept_of tells.0) = ap (λ (b : Option Covered). option_map leader_of b) tells.2 in
    (piece, tells.0, refl, tells.1, inner (kept_of tells.0) led (sym own ∙ is))
  where
    inner : (a b : Leader) → ◌≡◌ {A = Option Leader} (Some a) (Some b) → a ≡ b
    inner a b same = cc

module _ (f : Finds) (o : Outside) (ps : List Placed) (agrees : Agrees f o) (store : Store) (part : ℕ) (c : Covered) (p : Partition)
    (root : Option Piece) (covered : IsCoveredPartition f store.secret c p)
    (had : (rank : ℕ) → HasSome f (tree_in store.secret c) c.root rank) (new : IsNewRoot store.secret o ps c root) where
  -- the tree has the partition's chunk
  abbrev HasOwn : Suite → ℕ → ℕ → Option Piece → ℕ → Type 0
  HasOwn suite home birth top rank =
      HasChunk (with_pieces f ps) store.secret (tree_of store.secret suite home birth top) p rank (get p.chunks rank)

  -- A leader that tells of the new tree tells the partition.
  told_by : (piece : Piece) (l : NodeLeader) → IsLeaderRecord (with_pieces f ps) store part piece l
      → kept_of l ≡ leader_of (told_with c root) → IsToldBy (with_pieces f ps) store part piece p
  told_by piece l is kept =
      let suite : l.suite ≡ c.suite = ap (λ (x : Leader). x.suite) kept in
      let home : l.home ≡ c.home = ap (λ (x : Leader). x.home) kept in
      let birth : l.birth ≡ c.birth = ap (λ (x : Leader). x.birth) kept in
      let root_is : l.root ≡ root = ap (λ (x : Leader). x.root) kept in
      record {
        leader = l;
        is_leader = is;
        suite = suite ∙ covered.suite;
        home = home ∙ covered.home;
        birth = birth ∙ covered.birth;
        next = ap (λ (x : Leader). x.next) kept ∙ covered.next;
        parent = ap (λ (x : Leader). x.parent) kept ∙ covered.parent;
        born = ap (λ (x : Leader). x.born) kept ∙ covered.born;
        chunks = λ rank.
            subst (λ (r : Option Piece). HasOwn l.suite l.home l.birth r rank) (sym root_is)
            (subst (λ (n : ℕ). HasOwn l.suite l.home n root rank) (sym birth)
            (subst (λ (n : ℕ). HasOwn l.suite n c.birth root rank) (sym home)
            (subst (λ (s : Suite). HasOwn s c.home c.birth root rank) (sym suite)
            (new_chunks f o ps agrees store.secret c p root covered had new rank))));
      }

  -- so does its leaf
  tells_leader : (piece : Piece) (l : NodeLeader) (leaf : Option Piece) (told : Option Covered)
      → IsLeaderRecord (with_pieces f ps) store part piece l → kept_of l ≡ leader_of (told_with c root)
      → leaf ≡ Some piece → told ≡ Some (told_with c root) → TellsNew (with_pieces f ps) store part leaf (Some p) told
  tells_leader piece l leaf told is kept leaf_is told_is =
      subst (λ (x : Option Piece). TellsNew (with_pieces f ps) store part x (Some p) told) (sym leaf_is)
      (record {
        partition = told_by piece l is kept;
        tells = (l, is, told_is ∙ ap (λ (x : Leader). Some (cover_told x)) (sym kept));
      })

  -- A leader that stays is the roster's, and a new one is laid.
  tells_led : (base : Option Covered) (leaf : Option Piece) (edit : Option (Option Piece)) (told : Option Covered)
      → TellsLeaf f store part leaf base → told ≡ Some (told_with c root)
      → ((option_map leader_of base ≡ Some (leader_of (told_with c root))) × (edit ≡ None))
      ⊎ ((piece : Piece) × HasNewLeader store ps part (told_with c root) piece × (edit ≡ Some (Some piece)))
      → TellsNew (with_pieces f ps) store part (edit_or edit leaf) (Some p) told
  tells_led base leaf edit told tells told_is (inl (stays, is)) =
      let own = base_leader f store part leaf base (leader_of (told_with c root)) tells stays in
      let leader : IsLeaderRecord (with_pieces f ps) store part own.0 own.1 = record {
        sealed = own.3.sealed;
        plain = own.3.plain;
        found = inl own.3.found;
        opened = own.3.opened;
        spelled = own.3.spelled;
      } in
      tells_leader own.0 own.1 (edit_or edit leaf) told leader own.4 (ap (λ (e : Option (Option Piece)). edit_or e leaf) is ∙ own.2) told_is
  tells_led base leaf edit told tells told_is (inr (piece, new_leader, is)) =
      let l = new_leader.is_leader in
      let leader : IsLeaderRecord (with_pieces f ps) store part piece new_leader.leader = record {
        sealed = l.sealed;
        plain = l.plain;
        found = inr l.found;
        opened = l.opened;
        spelled = l.spelled;
      } in
      tells_leader piece new_leader.leader (edit_or edit leaf) told leader new_leader.kept
      (ap (λ (e : Option (Option Piece)). edit_or e leaf) is) told_is

-- What becomes of a partition's leader tells the partition.
module _ (f : Finds) (o : Outside) (ps : List Placed) (agrees : Agrees f o) (store : Store) (part : ℕ) where
  pub new_part : (cover base : Option Covered) (leaf : Option Piece) (edit : Option (Option Piece)) (p : Option Partition)
      (told : Option Covered) → ((c : Covered) → cover ≡ Some c → (rank : ℕ) → HasSome f (tree_in store.secret c) c.root rank)
      → IsCoveredAt f store.secret cover p → TellsLeaf f store part leaf base → IsNewPart store o ps part cover base edit told
      → TellsNew (with_pieces f ps) store part (edit_or edit leaf) p told
  new_part None base leaf edit (Some p) told had covered tells is = absurd covered
  new_part (Some c) base leaf edit None told had covered tells is = absurd covered
  new_part None None leaf edit None told had covered tells is =
      tells_none (with_pieces f ps) store part (edit_or edit leaf) told
      (ap (λ (e : Option (Option Piece)). edit_or e leaf) is.0 ∙ base_none f store part leaf tells) is.1
  new_part None (Some base) leaf edit None told had covered tells is =
      tells_none (with_pieces f ps) store part (edit_or edit leaf) told (ap (λ (e : Option (Option Piece)). edit_or e leaf) is.0) is.1
  new_part (Some c) base leaf edit (Some p) told had covered tells is =
      tells_led f o ps agrees store part c p is.0 covered (had c refl) is.1 base leaf edit told tells is.2 is.3
