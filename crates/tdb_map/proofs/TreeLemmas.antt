-- Trees, step by step.
use Rattle.std.proofs.Common.{◌≡◌, inl, inr, ℕ, zero, suc, ◌+◌, ◌*◌, ◌/◌, ◌^◌, ◌<◌, List, Option, None, Some, Result, Ok, Err, IfOk, IfErr, refl, sym, subst, ◌∙◌}
use Rattle.tdb_base.specs.declared.piece.Piece.{Piece}
use Rattle.tdb_node.specs.Node.{empty_node}
use Rattle.tdb_node.proofs.NodeSpelling.{empty_node_at}
use Rattle.tdb_map.specs.declared.tree.Tree.{Tree}
use Rattle.tdb_map.specs.declared.pieces.PieceError.{PieceError}
use Rattle.tdb_map.specs.Shown.{Shown, Shows}
use Rattle.tdb_map.specs.PieceCause.{IsPieceCause}
use Rattle.tdb_map.specs.Nodes.{Texts, Nodes, Grows, NodesGrow, nodes_of, IsUnfit}
use Rattle.tdb_map.specs.Tree.{IsAt, IsOnWay, HasNode, digit, entry}
use Rattle.tdb_map.specs.TreeCause.{IsBlocked}
use Rattle.tdb_map.proofs.NumberLemmas.{number_above, last_digit, number_up}
use Rattle.tdb_map.proofs.ShownLemmas.{cause_earlier}

-- what holds of a value in an Ok goes on to hold
pub if_ok_then : {T E : Type 0} {P Q : T → Type 0} (r : Result T E) → ((x : T) → P x → Q x) → IfOk r P → IfOk r Q
if_ok_then (Ok x) f h = f x h
if_ok_then (Err e) f h = tt

pub if_err_then : {T E : Type 0} {P Q : E → Type 0} (r : Result T E) → ((e : E) → P e → Q e) → IfErr r P → IfErr r Q
if_err_then (Ok x) f h = tt
if_err_then (Err e) f h = f e h

pub grows_same : (texts : Texts) → Grows texts texts
grows_same texts = record { each = λ digest bytes known. known }

pub grows_then : (old mid new : Texts) → Grows old mid → Grows mid new → Grows old new
grows_then old mid new f g = record { each = λ digest bytes known. g.each digest bytes (f.each digest bytes known) }

pub nodes_grow : (old new : Texts) (tree : Tree) → Grows old new → NodesGrow (nodes_of old tree) (nodes_of new tree)
nodes_grow old new tree grows = record { each = λ level number piece node known. (known.0, grows.each piece.digest.0 known.0 known.1, known.2) }

pub has_node_later : (old new : Nodes) → NodesGrow old new → (level number : ℕ) (root : Option Piece) (node : List (Option Piece)) → HasNode old level number root node → HasNode new level number root node
has_node_later old new grows level number None node h = h
has_node_later old new grows level number (Some piece) node h = grows.each level number piece node h

-- a tree without a root has nothing
pub none_at : (nodes : Nodes) (height number rank : ℕ) → IsAt nodes height number None rank None
none_at nodes zero number rank = refl
none_at nodes (suc height) number rank =
    (empty_node, refl, subst (λ (root : Option Piece). IsAt nodes height (number * 64 + digit height rank) root rank None) (sym (empty_node_at (digit height rank))) (none_at nodes height (number * 64 + digit height rank) rank))

-- what the tree below an entry has, the tree has
pub step_at : (nodes : Nodes) (height below number rank : ℕ) (root : Option Piece) (node : List (Option Piece)) (leaf : Option Piece) → height ≡ suc below
    → HasNode nodes below number root node → IsAt nodes below (number * 64 + digit below rank) (entry node (digit below rank)) rank leaf → IsAt nodes height number root rank leaf
step_at nodes height below number rank root node leaf is has at =
    subst (λ (h : ℕ). IsAt nodes h number root rank leaf) (sym is) (node, has, at)

-- the node of the root couldn't be had
pub blocked_here : (old new : Shown) (misfits : Piece → Type 0) (nodes : Nodes) (tree : Tree) (wanted : ℕ → Type 0) (height below number rank : ℕ) (root : Option Piece) (piece : Piece) (error : PieceError)
    → height ≡ suc below → root ≡ Some piece → wanted rank → rank / 64 ^ height ≡ number → IsPieceCause old new (misfits piece) (IsUnfit tree below number) piece error
    → IsBlocked old new misfits nodes tree wanted height number root error
blocked_here old new misfits nodes tree wanted height below number rank root piece error is root_is is_wanted within cause =
    let within_below : rank / 64 ^ suc below ≡ number = subst (λ (h : ℕ). rank / 64 ^ h ≡ number) is within in
    record {
      rank = rank;
      is_wanted = is_wanted;
      within = within;
      level = below;
      piece = piece;
      on_way = subst (λ (h : ℕ). IsOnWay nodes h number root rank below piece) (sym is) (inl (root_is, refl));
      cause = subst (λ (n : ℕ). IsPieceCause old new (misfits piece) (IsUnfit tree below n) piece error) (sym within_below) cause;
    }

-- a node below an entry couldn't be had
pub blocked_below : (first old new : Shown) (most : ℕ) (misfits : Piece → Type 0) (nodes : Nodes) (tree : Tree) (wanted : ℕ → Type 0) (height below number d : ℕ) (root : Option Piece) (node : List (Option Piece)) (error : PieceError)
    → height ≡ suc below → d < 64 → Shows first old most → HasNode nodes below number root node
    → IsBlocked old new misfits nodes tree wanted below (number * 64 + d) (entry node d) error → IsBlocked first new misfits nodes tree wanted height number root error
blocked_below first old new most misfits nodes tree wanted height below number d root node error is small no_fewer has b =
    let at_d : digit below b.rank ≡ d = last_digit (b.rank / 64 ^ below) number d small b.within in
    let within : b.rank / 64 ^ suc below ≡ number = number_above b.rank below ∙ number_up (b.rank / 64 ^ below) number d small b.within in
    record {
      rank = b.rank;
      is_wanted = b.is_wanted;
      within = subst (λ (h : ℕ). b.rank / 64 ^ h ≡ number) (sym is) within;
      level = b.level;
      piece = b.piece;
      on_way = subst (λ (h : ℕ). IsOnWay nodes h number root b.rank b.level b.piece) (sym is)
          (inr (node, has, subst (λ (k : ℕ). IsOnWay nodes below (number * 64 + k) (entry node k) b.rank b.level b.piece) (sym at_d) b.on_way));
      cause = cause_earlier first old new most (misfits b.piece) (IsUnfit tree b.level (b.rank / 64 ^ suc b.level)) b.piece error no_fewer b.cause;
    }
