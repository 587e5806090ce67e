-- The tree of a log's last checkpoint is had by pieces that the log needs.
use Rattle.std.proofs.Common.{◌≡◌, ◌⊎◌, inl, inr, ⊎_elim, ◌≤◌, List, [], ◌∷◌, ◌++◌, length, Option, refl, sym, ◌∙◌, ap, subst, arith}
use Rattle.tdb_base.specs.declared.piece.Piece.{Piece}
use Rattle.tdb_base.specs.Trace.{WrittenPiece}
use Rattle.tdb_mark.specs.declared.commit.Commit.{Commit}
use Rattle.tdb_model.specs.Apply.{History}
use Rattle.tdb_model.specs.State.{State}
use Rattle.tdb_platform.specs.Outside.{Anchor}
use Rattle.tdb_overlay.specs.CheckpointState.{IsNarrow, IsReached, IsTreeState}
use Rattle.tdb_overlay.specs.Found.{Finds, FindsOne, Store, in_trace, store_of_text}
use Rattle.tdb_overlay.specs.Log.{Adds, IsCheckpointOn, IsLog, IsLogOf, IsStep}
use Rattle.tdb_overlay.specs.Needed.{needed}
use Rattle.tdb_overlay.specs.Required.{IsRequired}
use Rattle.tdb_overlay.specs.StoreState.{StoreState, first_state}
use Rattle.tdb_overlay.proofs.Chains.{LogCounts, log_counts}
use Rattle.tdb_overlay.proofs.LogLaws.{allows, trace_finds_one}
use Rattle.tdb_overlay.proofs.RequiredLaws.{formats}
use Rattle.tdb_check.proofs.BaseRosters.{narrow_of_those, tree_of_those}

-- a needed piece stands for one list of bytes
pub needed_one : (written : List WrittenPiece) (store : Store) (anchor : Anchor) → FindsOne (needed written store anchor)
needed_one written store anchor piece x y a b = trace_finds_one written piece x y a.0 b.0

-- The last checkpoint of a log, whose root and count the log's last state keeps.
pub record HasBase (f : Finds) (store : Store) (chain : List Commit) (last : StoreState) : Type 0 where
  pub text : Commit
  pub earlier : List Commit
  pub later : List Commit
  pub split : chain ≡ earlier ++ text ∷ later
  pub suite : text.suite ≡ store.suite
  pub before : StoreState
  pub after : StoreState
  pub checkpoint : IsCheckpointOn f store before text after
  pub count : text.count ≡ last.base
  pub root : text.root ≡ last.root

-- the base and its root are those from before
abbrev KeepsBase : StoreState → StoreState → Type 0
KeepsBase before last = (last.base ≡ before.base) × (last.root ≡ before.root)

module _ (f : Finds) (store : Store) where
  behind_text : (before : StoreState) (c : Commit) (added : History) (mid : StoreState) (chain : List Commit) (last : StoreState)
      → IsStep f store before c added mid → KeepsBase mid last → KeepsBase before last ⊎ HasBase f store (c ∷ chain) last
  behind_text before c added mid chain last step keeps = by step.adds
    where
      by : Adds f store before c added mid → KeepsBase before last ⊎ HasBase f store (c ∷ chain) last
      by (inl checkpoint) =
          let is = checkpoint.0.after_is in
          inr (record {
            text = c;
            earlier = [];
            later = chain;
            split = refl;
            suite = step.suite;
            before = before;
            after = mid;
            checkpoint = checkpoint.0;
            count = sym (keeps.0 ∙ ap (λ (s : StoreState). s.base) is);
            root = sym (keeps.1 ∙ ap (λ (s : StoreState). s.root) is);
          })
      by (inr commit) =
          let is = (allows store before commit.0 mid commit.1.allowed).after_is in
          inl (keeps.0 ∙ ap (λ (s : StoreState). s.base) is, keeps.1 ∙ ap (λ (s : StoreState). s.root) is)

  log_base : (before : StoreState) (chain : List Commit) (history : History) (last : StoreState) → IsLogOf f store before chain history last
      → KeepsBase before last ⊎ HasBase f store chain last
  log_base before [] history last is = inl (ap (λ (s : StoreState). s.base) is.1, ap (λ (s : StoreState). s.root) is.1)
  log_base before (c ∷ chain) history last is =
      ⊎_elim (λ keeps. behind_text before c is.0 is.1 chain last is.3 keeps)
      (λ base. inr (record {
        text = base.text;
        earlier = c ∷ base.earlier;
        later = base.later;
        split = ap (λ (l : List Commit). c ∷ l) base.split;
        suite = base.suite;
        before = base.before;
        after = base.after;
        checkpoint = base.checkpoint;
        count = base.count;
        root = base.root;
      }))
      (log_base is.1 chain is.2 last is.4)

module _ (written : List WrittenPiece) (store : Store) (anchor : Anchor) (history : History) (last : StoreState)
    (is : IsLog written store anchor history last) (some : 1 ≤ last.count) where
  abbrev told : Finds
  told = in_trace written

  some_text : (chain : List Commit) → IsLogOf told store first_state chain history last → 1 ≤ length chain
  some_text [] none = absurd (omega (arith, some, ap (λ (s : StoreState). s.count) none.1))
  some_text (c ∷ chain) tells = omega arith

  counts : LogCounts is.chain last
  counts = log_counts told store is.chain history last (some_text is.chain is.tells) (formats written store anchor history last is) is.tells

  base : HasBase told store is.chain last
  base = ⊎_elim (λ keeps. absurd (omega (arith, keeps.0, counts.some))) (λ last_one. last_one)
      (log_base told store first_state is.chain history last is.tells)

  -- The log needs what the root of its last checkpoint reaches.
  pub base_required : (piece : Piece) → IsReached told store last.root piece → IsRequired written store anchor piece
  base_required piece reached =
      let own : store ≡ store_of_text store.secret base.text = λ i. record { secret = store.secret; suite = sym base.suite i } in
      record {
        chain = is.chain;
        ends = is.ends;
        text = base.text;
        earlier = base.earlier;
        later = base.later;
        in_chain = base.split;
        since_base = omega (arith, counts.base, base.count);
        rests = inr (inr (inr
            (subst (λ (s : Store). IsReached told s base.text.root piece) own
            (subst (λ (r : Option Piece). IsReached told store r piece) (sym base.root) reached))));
      }

  -- So its tree is had by needed pieces, and its roster is narrow.
  pub base_told : (based : State) × IsTreeState (needed written store anchor) store last.root based
      × IsNarrow (needed written store anchor) store last.root
  base_told =
      let tree = subst (λ (r : Option Piece). IsTreeState told store r base.before.chunks) base.root base.checkpoint.tree in
      let narrow = subst (λ (r : Option Piece). IsNarrow told store r) base.root base.checkpoint.narrow in
      let needs = IsRequired written store anchor in (
        base.before.chunks,
        tree_of_those told store last.root needs base_required base.before.chunks tree,
        narrow_of_those told store last.root needs base_required narrow,
      )
