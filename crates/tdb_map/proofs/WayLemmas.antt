-- The pieces that were asked for are on the way to a rank that is wanted.
use Rattle.std.proofs.Common.{◌≡◌, inl, inr, ℕ, zero, suc, ◌+◌, ◌*◌, ◌/◌, ◌^◌, ◌<◌, List, Option, Some, refl, ap, sym, subst, ◌∙◌}
use Rattle.tdb_base.specs.declared.piece.Piece.{Piece}
use Rattle.tdb_map.specs.Shown.{Shown, EachShown, AsksOneOf, ShowsOneOf}
use Rattle.tdb_map.specs.Nodes.{Nodes, NodesGrow}
use Rattle.tdb_map.specs.Tree.{IsOnWay, IsOnWayTo, HasNode, digit, entry}
use Rattle.tdb_map.proofs.NumberLemmas.{number_above, last_digit, number_up}
use Rattle.tdb_map.proofs.ShownLemmas.{each_then, asks_as, shows_as}
use Rattle.tdb_map.proofs.TreeLemmas.{has_node_later}

-- the root is on the way to each rank of its tree
on_way_here : (nodes : Nodes) (wanted : ℕ → Type 0) (height below number rank : ℕ) (root : Option Piece) (piece : Piece) → height ≡ suc below → wanted rank → rank / 64 ^ height ≡ number
    → root ≡ Some piece → IsOnWayTo nodes wanted height number root piece
on_way_here nodes wanted height below number rank root piece is is_wanted within root_is = record {
  rank = rank;
  is_wanted = is_wanted;
  within = within;
  level = below;
  on_way = subst (λ (h : ℕ). IsOnWay nodes h number root rank below piece) (sym is) (inl (root_is, refl));
}

-- what is on the way below an entry is so in the tree
on_way_below : (nodes : Nodes) (wanted : ℕ → Type 0) (height below number d : ℕ) (root : Option Piece) (node : List (Option Piece)) → height ≡ suc below → d < 64 → HasNode nodes below number root node
    → (piece : Piece) → IsOnWayTo nodes wanted below (number * 64 + d) (entry node d) piece → IsOnWayTo nodes wanted height number root piece
on_way_below nodes wanted height below number d root node is small has piece w =
    let at_d : digit below w.rank ≡ d = last_digit (w.rank / 64 ^ below) number d small w.within in
    let within : w.rank / 64 ^ suc below ≡ number = number_above w.rank below ∙ number_up (w.rank / 64 ^ below) number d small w.within in
    record {
      rank = w.rank;
      is_wanted = w.is_wanted;
      within = subst (λ (h : ℕ). w.rank / 64 ^ h ≡ number) (sym is) within;
      level = w.level;
      on_way = subst (λ (h : ℕ). IsOnWay nodes h number root w.rank w.level piece) (sym is)
          (inr (node, has, subst (λ (k : ℕ). IsOnWay nodes below (number * 64 + k) (entry node k) w.rank w.level piece) (sym at_d) w.on_way));
    }

way_later : (old new : Nodes) → NodesGrow old new → (height number : ℕ) (root : Option Piece) (rank level : ℕ) (piece : Piece) → IsOnWay old height number root rank level piece → IsOnWay new height number root rank level piece
way_later old new grows zero number root rank level piece h = h
way_later old new grows (suc height) number root rank level piece (inl h) = inl h
way_later old new grows (suc height) number root rank level piece (inr (node, has, below)) =
    inr (node, has_node_later old new grows height number root node has, way_later old new grows height (number * 64 + digit height rank) (entry node (digit height rank)) rank level piece below)

-- what is on the way stays so, as more is known
on_way_later : (old new : Nodes) (wanted : ℕ → Type 0) → NodesGrow old new → (height number : ℕ) (root : Option Piece) (piece : Piece) → IsOnWayTo old wanted height number root piece → IsOnWayTo new wanted height number root piece
on_way_later old new wanted grows height number root piece w = record {
  rank = w.rank;
  is_wanted = w.is_wanted;
  within = w.within;
  level = w.level;
  on_way = way_later old new grows height number root w.rank w.level piece w.on_way;
}

-- the piece of the root was asked for
pub asks_here : (old new : Shown) (nodes : Nodes) (wanted : ℕ → Type 0) (height below number rank : ℕ) (root : Option Piece) (piece : Piece) → height ≡ suc below → root ≡ Some piece → wanted rank → rank / 64 ^ height ≡ number
    → EachShown old new (AsksOneOf (λ p. p ≡ piece)) → EachShown old new (AsksOneOf (IsOnWayTo nodes wanted height number root))
asks_here old new nodes wanted height below number rank root piece is root_is is_wanted within each =
    asks_as old new (λ p. p ≡ piece) (IsOnWayTo nodes wanted height number root)
    (λ p same. on_way_here nodes wanted height below number rank root p is is_wanted within (root_is ∙ ap Some (sym same))) each

-- the piece of the root was asked for, if there is a root
pub asks_root : (old new : Shown) (nodes : Nodes) (wanted : ℕ → Type 0) (height below number rank : ℕ) (root : Option Piece) → height ≡ suc below → wanted rank → rank / 64 ^ height ≡ number
    → EachShown old new (AsksOneOf (λ p. root ≡ Some p)) → EachShown old new (AsksOneOf (IsOnWayTo nodes wanted height number root))
asks_root old new nodes wanted height below number rank root is is_wanted within each =
    asks_as old new (λ p. root ≡ Some p) (IsOnWayTo nodes wanted height number root) (λ p root_is. on_way_here nodes wanted height below number rank root p is is_wanted within root_is) each

-- what was asked for, and then below an entry
pub asks_below : (old mid new : Shown) (nodes later : Nodes) (wanted : ℕ → Type 0) (height below number d : ℕ) (root : Option Piece) (node : List (Option Piece)) → mid.tells ≡ old.tells → NodesGrow nodes later → height ≡ suc below → d < 64
    → HasNode later below number root node → EachShown old mid (AsksOneOf (IsOnWayTo nodes wanted height number root)) → EachShown mid new (AsksOneOf (IsOnWayTo later wanted below (number * 64 + d) (entry node d)))
    → EachShown old new (AsksOneOf (IsOnWayTo later wanted height number root))
asks_below old mid new nodes later wanted height below number d root node same grows is small has first then =
    each_then old mid new (AsksOneOf (IsOnWayTo later wanted height number root)) same
    (asks_as old mid (IsOnWayTo nodes wanted height number root) (IsOnWayTo later wanted height number root) (λ p w. on_way_later nodes later wanted grows height number root p w) first)
    (asks_as mid new (IsOnWayTo later wanted below (number * 64 + d) (entry node d)) (IsOnWayTo later wanted height number root) (on_way_below later wanted height below number d root node is small has) then)

-- the piece of the root was shown
pub shows_here : (old new : Shown) (nodes : Nodes) (wanted : ℕ → Type 0) (height below number rank : ℕ) (root : Option Piece) (piece : Piece) → height ≡ suc below → root ≡ Some piece → wanted rank → rank / 64 ^ height ≡ number
    → EachShown old new (ShowsOneOf (λ p. p ≡ piece)) → EachShown old new (ShowsOneOf (IsOnWayTo nodes wanted height number root))
shows_here old new nodes wanted height below number rank root piece is root_is is_wanted within each =
    shows_as old new (λ p. p ≡ piece) (IsOnWayTo nodes wanted height number root)
    (λ p same. on_way_here nodes wanted height below number rank root p is is_wanted within (root_is ∙ ap Some (sym same))) each

-- what was shown, and then below an entry
pub shows_below : (old mid new : Shown) (nodes later : Nodes) (wanted : ℕ → Type 0) (height below number d : ℕ) (root : Option Piece) (node : List (Option Piece)) → mid.tells ≡ old.tells → NodesGrow nodes later → height ≡ suc below → d < 64
    → HasNode later below number root node → EachShown old mid (ShowsOneOf (IsOnWayTo nodes wanted height number root)) → EachShown mid new (ShowsOneOf (IsOnWayTo later wanted below (number * 64 + d) (entry node d)))
    → EachShown old new (ShowsOneOf (IsOnWayTo later wanted height number root))
shows_below old mid new nodes later wanted height below number d root node same grows is small has first then =
    each_then old mid new (ShowsOneOf (IsOnWayTo later wanted height number root)) same
    (shows_as old mid (IsOnWayTo nodes wanted height number root) (IsOnWayTo later wanted height number root) (λ p w. on_way_later nodes later wanted grows height number root p w) first)
    (shows_as mid new (IsOnWayTo later wanted below (number * 64 + d) (entry node d)) (IsOnWayTo later wanted height number root) (on_way_below later wanted height below number d root node is small has) then)
