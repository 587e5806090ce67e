-- Texts that come next: of a commit, and of the start of a log, all of whose pieces are written before them.
use Rattle.std.proofs.Common.{◌≡◌, ◌⊎◌, inl, inr, ℕ, ◌+◌, ◌==◌, cond, List, [], ◌∷◌, Option, Some, None, replicate, refl, sym, ◌∙◌, ap, subst, arith}
use Rattle.std.specs.Prelude.{All}
use Rattle.std.specs.List.{AllByRecursion}
use Rattle.std.specs.Ordering.{nat_cmp}
use Rattle.std.specs.FinSet.{contains-empty}
use Rattle.std.proofs.lemmas.Bool.{false≢true}
use Rattle.std.proofs.lemmas.Option.{same_Some}
use Rattle.tdb_append.specs.Placed.{Placed}
use Rattle.tdb_base.specs.declared.piece.Piece.{Piece}
use Rattle.tdb_base.specs.Trace.{WrittenPiece}
use Rattle.tdb_list.specs.declared.entry.Entry.{Entry}
use Rattle.tdb_mark.specs.declared.commit.Commit.{Commit}
use Rattle.tdb_mark.specs.CommitChain.{commit_chain}
use Rattle.tdb_mark.specs.CommitText.{commit_key_of, commit_of}
use Rattle.tdb_mark.specs.TextOfDigest.{text_of_digest}
use Rattle.tdb_model.specs.declared.change.Change.{Change}
use Rattle.tdb_model.specs.declared.change.Change.TheVariants.{Write, Free, Make, Copy, Drop}
use Rattle.tdb_model.specs.Apply.{History}
use Rattle.tdb_platform.specs.Outside.{Anchor}
use Rattle.tdb_seg.specs.SegmentSpace.{fresh_space}
use Rattle.tdb_overlay.specs.Changes.{AreChangesOf, HasChanges, named_records}
use Rattle.tdb_overlay.specs.CheckpointState.{IsReached}
use Rattle.tdb_overlay.specs.Found.{Finds, Store, in_trace, store_of_text}
use Rattle.tdb_overlay.specs.LaidPieces.{IsFreshIn, IsLaidPiece, in_pieces}
use Rattle.tdb_overlay.specs.Log.{Adds, IsLog, IsLogOf, IsStep}
use Rattle.tdb_overlay.specs.NextText.{FindsAll, GoesOnWith, IsNextText, NamesMark}
use Rattle.tdb_overlay.specs.Required.{IsNamedBy, IsRequired, RestsOn, text_piece}
use Rattle.tdb_overlay.specs.StoreState.{StoreState, first_state}
use Rattle.tdb_overlay.proofs.Chains.{chain_last-at, log_split}
use Rattle.tdb_overlay.proofs.CheckpointLaws.{none_reached}
use Rattle.tdb_overlay.proofs.Listed.{all_at}
use Rattle.tdb_overlay.proofs.LogLaws.{list_stays, step_stays, trace_finds_one}
use Rattle.tdb_overlay.proofs.PlacedLogs.{one_list}

-- the piece stands for some bytes
abbrev IsFound : Finds → Piece → Type 0
IsFound f piece = (bytes : List ℕ) × f piece bytes

-- by the kind of the first entry
named_by : (f : Finds) (e : Entry) (entries : List Entry) (kind : ℕ) → e.kind ≡ kind
    → AllByRecursion (IsFound f) (cond (kind == 1) (e.piece ∷ named_records entries) (named_records entries))
    → AllByRecursion (IsFound f) (named_records (e ∷ entries))
named_by f e entries kind is all = subst
    (λ (k : ℕ). AllByRecursion (IsFound f) (cond (k == 1) (e.piece ∷ named_records entries) (named_records entries))) (sym is) all

-- the records of changes are found
records_found : (f : Finds) (secret : List ℕ) (entries : List Entry) (changes : List Change) → AreChangesOf f secret entries changes
    → AllByRecursion (IsFound f) (named_records entries)
records_found f secret [] [] are = tt
records_found f secret [] (change ∷ changes) are = absurd are
records_found f secret (e ∷ entries) [] are = absurd are
records_found f secret (e ∷ entries) (Write part rank bytes ∷ changes) are = named_by f e entries 1 are.0.0
    ((are.0.3.sealed, are.0.3.found), records_found f secret entries changes are.1)
records_found f secret (e ∷ entries) (Free part rank ∷ changes) are = named_by f e entries 2 are.0.0
    (records_found f secret entries changes are.1)
records_found f secret (e ∷ entries) (Make part suite ∷ changes) are = named_by f e entries 3 are.0.0
    (records_found f secret entries changes are.1)
records_found f secret (e ∷ entries) (Copy source to ∷ changes) are = named_by f e entries 4 are.0.0
    (records_found f secret entries changes are.1)
records_found f secret (e ∷ entries) (Drop part ∷ changes) are = named_by f e entries 5 are.0.0
    (records_found f secret entries changes are.1)

-- A step over the pieces alone, without a root, comes next as soon as they are fresh.
module _ (written : List WrittenPiece) (store : Store) (anchor : Anchor) (from : StoreState) (c : Commit) (ps : List Placed)
    (added : History) (to : StoreState) (step : IsStep (in_pieces ps) store from c added to) (rootless : c.root ≡ None) where
  module _ (later : List WrittenPiece) (finds : FindsAll written ps later) where
    first_found : Adds (in_pieces ps) store from c added to → IsLaidPiece ps c.first
    first_found (inl checkpoint) = (checkpoint.0.table.sealed, checkpoint.0.table.found)
    first_found (inr commit) = (commit.1.list.sealed, commit.1.list.found)

    named_found : (piece : Piece) → IsNamedBy (in_trace later) store.secret c piece → Adds (in_pieces ps) store from c added to
        → IsLaidPiece ps piece
    named_found piece named (inl checkpoint) = absurd (omega (arith, named.kind, checkpoint.0.kind))
    named_found piece named (inr commit) =
        let list : HasChanges (in_pieces ps) store.secret c commit.0 = commit.1.list in
        let entries : named.list.entries ≡ list.entries =
        one_list (in_trace later) (trace_finds_one later) store.secret c named.changes commit.0 named.list
        (list_stays (in_pieces ps) (in_trace later) finds.1 store.secret c commit.0 list) in
        all_at (IsFound (in_pieces ps)) named.before piece named.after
        (subst (AllByRecursion (IsFound (in_pieces ps))) (ap named_records (sym entries) ∙ named.names)
        (records_found (in_pieces ps) store.secret list.entries commit.0 list.each))

    rests : (piece : Piece) → RestsOn (in_trace later) store.secret c piece → (piece ≡ text_piece store.secret c) ⊎ IsLaidPiece ps piece
        ⊎ IsRequired written store anchor piece
    rests piece (inl text) = inl text
    rests piece (inr (inl first)) = inr (inl (subst (IsLaidPiece ps) (sym first) (first_found step.adds)))
    rests piece (inr (inr (inl named))) = inr (inl (named_found piece named step.adds))
    rests piece (inr (inr (inr reached))) =
        absurd (none_reached (in_trace later) (store_of_text store.secret c) piece
        (subst (λ (r : Option Piece). IsReached (in_trace later) (store_of_text store.secret c) r piece) rootless reached))

  pub next_by_pieces : c.count ≡ anchor.0 + 1 → NamesMark anchor c → All (IsFreshIn from.space) ps
      → IsNextText written store anchor from c ps added to
  next_by_pieces count mark fresh = record {
    count = count;
    mark = mark;
    fresh = fresh;
    step = λ later finds. step_stays (in_pieces ps) (in_trace later) finds.1 store (trace_finds_one later) from c added to step;
    only = λ later finds. rests later finds;
  }

-- Where the anchor counts nothing, the log is empty, of whichever store.
pub empty_log : (written : List WrittenPiece) (store other : Store) (count : ℕ) (mark : List ℕ) (before : History) (from : StoreState)
    → count ≡ 0 → IsLog written other (count, mark) before from
    → IsLog written store (count, mark) before from × (from ≡ first_state)
empty_log written store other count mark before from none is =
    let ends : commit_chain written (commit_of (commit_key_of other.secret)) 0 mark ≡ Some is.chain = subst
    (λ (n : ℕ). commit_chain written (commit_of (commit_key_of other.secret)) n mark ≡ Some is.chain) none is.ends in
    let tells = subst (λ (chain : List Commit). IsLogOf (in_trace written) other first_state chain before from)
    (sym (same_Some [] is.chain ends)) is.tells in (
      subst (λ (n : ℕ). IsLog written store (n, mark) before from) (sym none) (record { chain = []; ends = refl; tells = tells }),
      tells.1,
    )

nothing_placed : (n : ℕ) (p : Placed) → IsFreshIn (fresh_space n) p
nothing_placed n p q m placed = absurd (false≢true (sym (contains-empty nat_cmp placed.k) ∙ placed.used))

-- The start of a log comes next where the anchor counts nothing.
pub start_goes_on : (written : List WrittenPiece) (store : Store) (anchor : Anchor) (c : Commit) (ps : List Placed) (to : StoreState)
    → anchor.0 ≡ 0 → c.count ≡ 1 → c.prev.0 ≡ replicate 32 0 → c.root ≡ None
    → IsStep (in_pieces ps) store first_state c [] to → GoesOnWith written store anchor c ps []
start_goes_on written store anchor c ps to none count zeros rootless step other secrets before from is =
    let empty = empty_log written store other anchor.0 anchor.1 before from none is in (
      empty.0,
      (
        to,
        next_by_pieces written store anchor from c ps [] to
            (subst (λ (s : StoreState). IsStep (in_pieces ps) store s c [] to) (sym empty.1) step) rootless (omega (arith, count, none))
            (inl (none, zeros))
            (subst (λ (s : StoreState). All (IsFreshIn s.space) ps) (sym empty.1) (λ k d within. nothing_placed 0 _)),
      ),
    )

-- A text goes on with a store's own log, where the last text tells the suite.
pub goes_on_by : (written : List WrittenPiece) (store : Store) (anchor : Anchor) (c : Commit) (ps : List Placed) (added : History)
    → ((other : Store) → other.secret ≡ store.secret → (before : History) (from : StoreState) → IsLog written other anchor before from
    → other.suite ≡ store.suite)
    → ((before : History) (from : StoreState) → IsLog written store anchor before from → (to : StoreState)
    × IsNextText written store anchor from c ps added to) → GoesOnWith written store anchor c ps added
goes_on_by written store anchor c ps added suites next other secrets before from is =
    let suite = suites other secrets before from is in
    let same : other ≡ store = λ i. record { secret = secrets i; suite = suite i } in
    let own = subst (λ (s : Store). IsLog written s anchor before from) same is in
    (own, next before from own)

-- So does one whose pieces are all written before it, as soon as they are fresh.
pub pieces_go_on : (written : List WrittenPiece) (store : Store) (anchor : Anchor) (c : Commit) (ps : List Placed) (added : History)
    → c.count ≡ anchor.0 + 1 → NamesMark anchor c → c.root ≡ None
    → ((other : Store) → other.secret ≡ store.secret → (before : History) (from : StoreState) → IsLog written other anchor before from
    → other.suite ≡ store.suite)
    → ((before : History) (from : StoreState) → IsLog written store anchor before from → (to : StoreState)
    × IsStep (in_pieces ps) store from c added to × All (IsFreshIn from.space) ps)
    → GoesOnWith written store anchor c ps added
pieces_go_on written store anchor c ps added count mark rootless suites steps =
    goes_on_by written store anchor c ps added suites (λ before from is.
    let s = steps before from is in
    (s.0, next_by_pieces written store anchor from c ps added s.0 s.1 rootless count mark s.2))

-- The text that the anchor names has the suite of the log.
pub head_suite : (written : List WrittenPiece) (store : Store) (anchor : Anchor) (n : ℕ) (history : History) (last : StoreState)
    → anchor.0 ≡ n + 1 → IsLog written store anchor history last → (text : List ℕ) (c : Commit)
    → text_of_digest written anchor.1 ≡ Some text
    → commit_of (commit_key_of store.secret) text ≡ Some c → c.suite ≡ store.suite
head_suite written store anchor n history last some is text c found accepted =
    let a = chain_last-at written (commit_of (commit_key_of store.secret)) anchor.1 is.chain n anchor.0 some is.ends in
    let split = log_split (in_trace written) store first_state a.2 a.1 history last
    (subst (λ (chain : List Commit). IsLogOf (in_trace written) store first_state chain history last) a.7 is.tells) in
    let texts : a.0 ≡ text = same_Some a.0 text (sym a.3 ∙ found) in
    let same : a.1 ≡ c = one_commit a.1 c (sym a.4 ∙ ap (commit_of (commit_key_of store.secret)) texts ∙ accepted) in
    ap (λ (k : Commit). k.suite) (sym same) ∙ split.4.suite
  where
    one_commit : (x y : Commit) → ◌≡◌ {A = Option Commit} (Some x) (Some y) → x ≡ y
    one_commit x y e = cc e
