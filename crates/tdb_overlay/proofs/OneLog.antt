-- An anchor has one log: its history, its last state and its suite.
use Rattle.std.proofs.Common.{◌≡◌, ◌⊎◌, inl, inr, ℕ, zero, suc, ◌+◌, ◌≤◌, ◌&&◌, Bool, true, false, List, [], ◌∷◌, ◌++◌, length, Some, Ok, Result, refl, sym, ◌∙◌, ap, subst, arith, add-one, length-append}
use Rattle.std.proofs.lemmas.Bool.{eqb-true}
use Rattle.std.proofs.lemmas.Option.{same_Some}
use Rattle.tdb_base.specs.declared.names.PartId.{PartId}
use Rattle.tdb_base.specs.declared.names.Rank.{Rank}
use Rattle.tdb_base.specs.declared.suite.Suite.{Suite}
use Rattle.tdb_base.specs.SuiteNumber.{suite_number}
use Rattle.tdb_base.specs.Trace.{WrittenPiece}
use Rattle.tdb_list.specs.declared.entry.Entry.{Entry}
use Rattle.tdb_mark.specs.declared.commit.Commit.{Commit}
use Rattle.tdb_mark.specs.CommitChain.{commit_chain, follows}
use Rattle.tdb_mark.specs.CommitText.{commit_key_of, commit_of}
use Rattle.tdb_mark.proofs.DigestLemmas.{text_of_digest_is}
use Rattle.tdb_model.specs.declared.change.Change.{Change}
use Rattle.tdb_model.specs.declared.change.Change.TheVariants.{Write, Free, Make, Copy, Drop}
use Rattle.tdb_model.specs.declared.error.CommitError.{CommitError}
use Rattle.tdb_model.specs.Apply.{History}
use Rattle.tdb_node.specs.declared.table.Table.{Table}
use Rattle.tdb_node.specs.SegmentTable.{table_bytes}
use Rattle.tdb_node.proofs.TableSpelling.{same_table}
use Rattle.tdb_platform.specs.Outside.{Anchor}
use Rattle.tdb_seal.specs.SealedRecord.{IsSealedRecord}
use Rattle.tdb_seal.proofs.RecordSpelling.{same_plain}
use Rattle.tdb_seg.specs.TableSpace.{table_space}
use Rattle.tdb_overlay.specs.Changes.{AreChangesOf, HasChanges, HasTable, IsChangeOf, IsWritten}
use Rattle.tdb_overlay.specs.Covering.{suite_numbered}
use Rattle.tdb_overlay.specs.Found.{Finds, FindsOne, Store, in_trace}
use Rattle.tdb_overlay.specs.Keys.{partition_key, system_key}
use Rattle.tdb_overlay.specs.Log.{Adds, IsLog, IsLogOf, IsStep, end_of}
use Rattle.tdb_overlay.specs.StoreState.{StoreState, commit_on, first_state}
use Rattle.tdb_overlay.specs.WellFormedLog.{NamesText}
use Rattle.tdb_overlay.proofs.Chains.{chain_last, log_count}
use Rattle.tdb_overlay.proofs.Coverings.{suite_again}
use Rattle.tdb_overlay.proofs.LogLaws.{trace_finds_one}
use Rattle.tdb_overlay.proofs.PlacedLogs.{one_list}

-- two suites of one number
one_suite : (a b : Suite) → suite_number a ≡ suite_number b → a ≡ b
one_suite a b same = sym (suite_again a) ∙ ap suite_numbered same ∙ suite_again b

-- the kind of a change's entry
abbrev kind_of : Change → ℕ
kind_of (Write part rank bytes) = 1
kind_of (Free part rank) = 2
kind_of (Make part suite) = 3
kind_of (Copy from to) = 4
kind_of (Drop part) = 5

module _ (f : Finds) (one : FindsOne f) (secret : List ℕ) where
  kind_is : (e : Entry) (change : Change) → IsChangeOf f secret e change → e.kind ≡ kind_of change
  kind_is e (Write part rank bytes) is = is.0
  kind_is e (Free part rank) is = is.0
  kind_is e (Make part suite) is = is.0
  kind_is e (Copy from to) is = is.0
  kind_is e (Drop part) is = is.0

  bytes_one : (e : Entry) (a b : List ℕ) → IsWritten f secret e a → IsWritten f secret e b → a ≡ b
  bytes_one e a b x y =
      let sealed : x.sealed ≡ y.sealed = one e.piece x.sealed y.sealed x.found y.found in
      let suite : x.suite ≡ y.suite = one_suite x.suite y.suite (x.numbered ∙ sym y.numbered) in
      same_plain (partition_key secret e.home e.birth) (record { kind = 1; suite = y.suite; home = e.home; rank = e.rank }) a b y.sealed
      (subst (λ (s : Suite). IsSealedRecord (partition_key secret e.home e.birth)
      (record { kind = 1; suite = s; home = e.home; rank = e.rank }) a y.sealed) suite
      (subst (λ (s : List ℕ). IsSealedRecord (partition_key secret e.home e.birth)
      (record { kind = 1; suite = x.suite; home = e.home; rank = e.rank }) a s) sealed x.opened)) y.opened

  one_part : (n : ℕ) (p q : PartId) → n ≡ p.0 → n ≡ q.0 → p ≡ q
  one_part n p q a b = λ i. record { 0 = (sym a ∙ b) i }

  one_rank : (n : ℕ) (p q : Rank) → n ≡ p.0 → n ≡ q.0 → p ≡ q
  one_rank n p q a b = λ i. record { 0 = (sym a ∙ b) i }

  change_one : (e : Entry) (x y : Change) → IsChangeOf f secret e x → IsChangeOf f secret e y → x ≡ y
  change_one e (Write p r bs) (Write q s cs) x y =
      let part = one_part e.part p q x.1 y.1 in
      let rank = one_rank e.rank r s x.2 y.2 in
      let bytes = bytes_one e bs cs x.3 y.3 in
      λ i. Write (part i) (rank i) (bytes i)
  change_one e (Free p r) (Free q s) x y =
      let part = one_part e.part p q x.1 y.1 in
      let rank = one_rank e.rank r s x.2 y.2 in
      λ i. Free (part i) (rank i)
  change_one e (Make p a) (Make q b) x y =
      let part = one_part e.part p q x.1 y.1 in
      let suite = one_suite a b (x.2 ∙ sym y.2) in
      λ i. Make (part i) (suite i)
  change_one e (Copy p r) (Copy q s) x y =
      let source = one_part e.part p q x.1 y.1 in
      let target = one_part e.rank r s x.2 y.2 in
      λ i. Copy (source i) (target i)
  change_one e (Drop p) (Drop q) x y = let part = one_part e.part p q x.1 y.1 in λ i. Drop (part i)
  change_one e a b x y = absurd (omega (arith, kind_is e a x, kind_is e b y))

  -- Entries say one list of changes.
  changes_one : (entries : List Entry) (xs ys : List Change) → AreChangesOf f secret entries xs → AreChangesOf f secret entries ys → xs ≡ ys
  changes_one [] [] [] a b = refl
  changes_one [] [] (y ∷ ys) a b = absurd b
  changes_one [] (x ∷ xs) ys a b = absurd a
  changes_one (e ∷ entries) [] ys a b = absurd a
  changes_one (e ∷ entries) (x ∷ xs) [] a b = absurd b
  changes_one (e ∷ entries) (x ∷ xs) (y ∷ ys) a b =
      let first = change_one e x y a.0 b.0 in
      let rest = changes_one entries xs ys a.1 b.1 in
      λ i. first i ∷ rest i

  -- so does a text
  pub text_changes_one : (c : Commit) (xs ys : List Change) → HasChanges f secret c xs → HasChanges f secret c ys → xs ≡ ys
  text_changes_one c xs ys a b =
      changes_one b.entries xs ys
      (subst (λ (es : List Entry). AreChangesOf f secret es xs) (one_list f one secret c xs ys a b) a.each) b.each

  -- and one table
  pub table_one : (c : Commit) (a b : HasTable f secret c) → a.table ≡ b.table
  table_one c a b =
      let sealed : a.sealed ≡ b.sealed = one c.first a.sealed b.sealed a.found b.found in
      let plain : table_bytes a.table ≡ table_bytes b.table =
      same_plain (system_key secret) (record { kind = 4; suite = c.suite; home = 0; rank = 0 }) (table_bytes a.table)
      (table_bytes b.table) b.sealed
      (subst (λ (s : List ℕ). IsSealedRecord (system_key secret) (record { kind = 4; suite = c.suite; home = 0; rank = 0 })
      (table_bytes a.table) s) sealed a.opened) b.opened in
      same_table a.table b.table (table_bytes b.table) (record { value = a.value; table = a.is_table; spelled = sym plain })
      (record { value = b.value; table = b.is_table; spelled = refl })

-- what one text adds in a state, and the state after it
abbrev IsSame : History → StoreState → History → StoreState → Type 0
IsSame added after more next = (added ≡ more) × (after ≡ next)

same_ok : (a b : StoreState) (r : Result StoreState CommitError) → r ≡ Ok a → r ≡ Ok b → a ≡ b
same_ok a b r x y = let e : ◌≡◌ {A = Result StoreState CommitError} (Ok a) (Ok b) = sym x ∙ y in cc e

module _ (f : Finds) (one : FindsOne f) (store : Store) (before : StoreState) (c : Commit) where
  adds_one : (added more : History) (after next : StoreState) → Adds f store before c added after → Adds f store before c more next
      → IsSame added after more next
  adds_one added more after next (inl x) (inl y) =
      let table : x.0.table.table ≡ y.0.table.table = table_one f one store.secret c x.0.table y.0.table in (
        x.1 ∙ sym y.1,
        x.0.after_is ∙ ap
            (λ (t : Table). let s : StoreState = record {
              count = c.count;
              base = c.count;
              root = c.root;
              space = table_space t
                  (end_of c.first);
              chunks = before.chunks;
            } in s) table ∙ sym y.0.after_is,
      )
  adds_one added more after next (inl x) (inr y) = absurd (omega (arith, x.0.kind, y.1.kind))
  adds_one added more after next (inr x) (inl y) = absurd (omega (arith, x.1.kind, y.0.kind))
  adds_one added more after next (inr x) (inr y) =
      let changes : x.0 ≡ y.0 = text_changes_one f one store.secret c x.0 y.0 x.1.list y.1.list in (
        x.2 ∙ ap (λ (cs : List Change). let h : History = (c.count, cs) ∷ [] in h) changes ∙ sym y.2,
        same_ok after next _ (subst (λ (cs : List Change). commit_on store before cs ≡ Ok after) changes x.1.allowed) y.1.allowed,
      )

  pub step_one : (added more : History) (after next : StoreState) → IsStep f store before c added after
      → IsStep f store before c more next → IsSame added after more next
  step_one added more after next x y = adds_one added more after next x.adds y.adds

module _ (f : Finds) (one : FindsOne f) where
  logs_one : (store : Store) (before : StoreState) (chain : List Commit) (history other : History) (last end : StoreState)
      → IsLogOf f store before chain history last → IsLogOf f store before chain other end → IsSame history last other end
  logs_one store before [] history other last end x y = (x.0 ∙ sym y.0, x.1 ∙ sym y.1)
  logs_one store before (c ∷ chain) history other last end x y =
      let first = step_one f one store before c x.0 y.0 x.1 y.1 x.3 y.3 in
      let rest = logs_one store x.1 chain x.2 y.2 last end x.4
      (subst (λ (s : StoreState). IsLogOf f store s chain y.2 end) (sym first.1) y.4) in
      (x.5 ∙ ap (λ (h : History). h ++ x.2) first.0 ∙ ap (λ (h : History). y.0 ++ h) rest.0 ∙ sym y.5, rest.1)

  -- The same of two stores of one secret: some text of both tells their suite.
  of_suites : (store other : Store) → store.secret ≡ other.secret
      → (before : StoreState) (chain : List Commit) (history more : History) (last end : StoreState)
      → IsLogOf f store before chain history last → IsLogOf f other before chain more end
      → IsSame history last more end × (1 ≤ length chain → store ≡ other)
  of_suites store other secrets before [] history more last end x y = ((x.0 ∙ sym y.0, x.1 ∙ sym y.1), λ some. absurd (omega (arith, some)))
  of_suites store other secrets before (c ∷ chain) history more last end x y =
      let suites : store.suite ≡ other.suite = sym x.3.suite ∙ y.3.suite in
      let same : store ≡ other = λ i. record { secret = secrets i; suite = suites i } in (
        logs_one store before (c ∷ chain) history more last end x
            (subst (λ (s : Store). IsLogOf f s before (c ∷ chain) more end) (sym same) y),
        λ some. same,
      )

module _ (written : List WrittenPiece) (key : List ℕ) where
  -- A chain has as many texts as the anchor counts.
  pub chain_length : (n : ℕ) (mark : List ℕ) (chain : List Commit) → commit_chain written (commit_of key) n mark ≡ Some chain
      → length chain ≡ n
  chain_length zero mark chain ends = sym (ap length (same_Some [] chain ends))
  chain_length (suc n) mark chain ends =
      let a = chain_last written (commit_of key) mark chain n ends in
      omega (arith, ap length a.7, length-append a.2 (a.1 ∷ []), chain_length n a.1.prev.0 a.2 a.6)

pub log_at : (written : List WrittenPiece) (store : Store) (anchor : Anchor) (history : History) (last : StoreState)
    → IsLog written store anchor history last → last.count ≡ anchor.0
log_at written store anchor history last is =
    log_count (in_trace written) store is.chain history last is.tells
    ∙ chain_length written (commit_key_of store.secret) anchor.0 anchor.1 is.chain is.ends

-- The log of an anchor is one, whatever the suite.
pub log_is_one : (written : List WrittenPiece) (store other : Store) → store.secret ≡ other.secret
    → (anchor : Anchor) (history more : History) (last end : StoreState) → IsLog written store anchor history last
    → IsLog written other anchor more end
    → (history ≡ more) × (last ≡ end) × (1 ≤ anchor.0 → store ≡ other)
log_is_one written store other secrets anchor history more last end x y =
    let chains : x.chain ≡ y.chain =
    same_Some x.chain y.chain
    (sym x.ends ∙ ap (λ (s : List ℕ). commit_chain written (commit_of (commit_key_of s)) anchor.0 anchor.1) secrets ∙ y.ends) in
    let both = of_suites (in_trace written) (trace_finds_one written) store other secrets first_state x.chain history more last end x.tells
    (subst (λ (chain : List Commit). IsLogOf (in_trace written) other first_state chain more end) (sym chains) y.tells) in (
      both.0.0,
      both.0.1,
      λ some. both.1
          (omega (arith, some, chain_length written (commit_key_of store.secret) anchor.0 anchor.1 x.chain x.ends)),
    )

and_first : (a b : Bool) → (a && b) ≡ true → a ≡ true
and_first true b h = refl
and_first false b h = absurd (cc h)

counted : (n : ℕ) (c : Commit) → follows n c ≡ true → c.count ≡ n + 1
counted n c next = eqb-true c.count (n + 1) (and_first _ _ next)

-- An anchor that has a log counts nothing, or names a text.
names_by : (written : List WrittenPiece) (secret : List ℕ) (count : ℕ) (mark : List ℕ) (chain : List Commit)
    → commit_chain written (commit_of (commit_key_of secret)) count mark ≡ Some chain → (count ≡ 0) ⊎ NamesText written secret (count, mark)
names_by written secret zero mark chain ends = inl refl
names_by written secret (suc n) mark chain ends =
    let a = chain_last written (commit_of (commit_key_of secret)) mark chain n ends in
    let was = text_of_digest_is written mark a.0 a.3 in
    inr (record {
      text = a.0;
      commit = a.1;
      was_written = was.0;
      accepted = a.4;
      count = sym
          (counted n a.1 a.5 ∙ add-one n);
      mark = sym was.1;
    })

pub log_names : (written : List WrittenPiece) (store : Store) (anchor : Anchor) (history : History) (last : StoreState)
    → IsLog written store anchor history last → (anchor.0 ≡ 0) ⊎ NamesText written store.secret anchor
log_names written store anchor history last is = names_by written store.secret anchor.0 anchor.1 is.chain is.ends
