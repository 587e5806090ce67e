-- The last text of a chain, and the counts that a chain tells.
use Rattle.std.proofs.Common.{◌≡◌, inl, inr, ⊎_elim, ◌+◌, ◌≤◌, ℕ, zero, suc, true, false, cond, List, [], ◌∷◌, ◌++◌, length, Option, Some, None, option_and_then, refl, sym, ◌∙◌, ap, subst, append-nil, append_assoc, add-one, arith}
use Rattle.std.specs.List.{AllByRecursion}
use Rattle.tdb_base.specs.Trace.{WrittenPiece}
use Rattle.tdb_mark.specs.declared.commit.Commit.{Commit}
use Rattle.tdb_mark.specs.CommitChain.{commit_chain, ends_with, follows}
use Rattle.tdb_mark.specs.CommitFormat.{IsInFormat}
use Rattle.tdb_mark.specs.CommitText.{commit_of}
use Rattle.tdb_mark.specs.TextOfDigest.{text_of_digest}
use Rattle.tdb_mark.proofs.TextLemmas.{and_then, commit_of_is}
use Rattle.tdb_model.specs.Apply.{History}
use Rattle.tdb_overlay.specs.Found.{Finds, Store}
use Rattle.tdb_overlay.specs.Log.{Adds, IsStep, IsLogOf}
use Rattle.tdb_overlay.specs.Required.{base_of}
use Rattle.tdb_overlay.specs.StoreState.{StoreState, first_state}
use Rattle.tdb_overlay.proofs.LogLaws.{allows}

ends_with_is : (n : ℕ) (chains : List ℕ → Option (List Commit)) (c : Commit) (chain : List Commit) → ends_with n chains c ≡ Some chain
    → (front : List Commit) × (follows n c ≡ true) × (chains c.prev.0 ≡ Some front) × (chain ≡ front ++ c ∷ [])
ends_with_is n chains c chain h =
    (elim (follows n c) as (λ b. follows n c ≡ b → cond b (option_and_then (λ l. Some (l ++ c ∷ [])) (chains c.prev.0)) None ≡ Some chain
    → (front : List Commit) × (follows n c ≡ true) × (chains c.prev.0 ≡ Some front) × (chain ≡ front ++ c ∷ [])) [
      | true ↦ λ next e. let a = and_then (λ l. Some (l ++ c ∷ [])) (chains c.prev.0) chain e in (a.0, next, a.1, same_chain (a.0 ++ c ∷ []) chain a.2)
      | false ↦ λ next e. absurd (cc e)
    ]) refl h
  where
    same_chain : (x y : List Commit) → ◌≡◌ {A = Option (List Commit)} (Some x) (Some y) → y ≡ x
    same_chain x y e = cc

module _ (written : List WrittenPiece) (grammar : List ℕ → Option Commit) (mark : List ℕ) (chain : List Commit) where
  -- The last text of a chain has the mark for its digest. What stands before it ends at the mark that it names.
  pub chain_last : (n : ℕ) → commit_chain written grammar (suc n) mark ≡ Some chain
      → (text : List ℕ) × (c : Commit) × (front : List Commit) × (text_of_digest written mark ≡ Some text) × (grammar text ≡ Some c) × (follows n c ≡ true) × (commit_chain written grammar n c.prev.0 ≡ Some front) × (chain ≡ front ++ c ∷ [])
  chain_last n h =
      let a = and_then (λ text. option_and_then (ends_with n (commit_chain written grammar n)) (grammar text)) (text_of_digest written mark) chain h in
      let b = and_then (ends_with n (commit_chain written grammar n)) (grammar a.0) chain a.2 in
      let e = ends_with_is n (commit_chain written grammar n) b.0 chain b.2 in
      (a.0, b.0, e.0, a.1, b.1, e.1, e.2, e.3)

  -- the same of a count that is given by the one before it
  pub chain_last-at : (n count : ℕ) → count ≡ n + 1 → commit_chain written grammar count mark ≡ Some chain
      → (text : List ℕ) × (c : Commit) × (front : List Commit) × (text_of_digest written mark ≡ Some text) × (grammar text ≡ Some c) × (follows n c ≡ true) × (commit_chain written grammar n c.prev.0 ≡ Some front) × (chain ≡ front ++ c ∷ [])
  chain_last-at n count is h = chain_last n (subst (λ (k : ℕ). commit_chain written grammar k mark ≡ Some chain) (is ∙ add-one n) h)

-- A log whose chain ends with a text is the log of the texts before it, and then a step.
pub log_split : (f : Finds) (store : Store) (before : StoreState) (front : List Commit) (c : Commit) (history : History) (last : StoreState) → IsLogOf f store before (front ++ c ∷ []) history last
    → (h : History) × (mid : StoreState) × (added : History) × IsLogOf f store before front h mid × IsStep f store mid c added last × (history ≡ h ++ added)
log_split f store before [] c history last is =
    ([], before, is.0, (refl, refl), subst (λ (s : StoreState). IsStep f store before c is.0 s) (sym is.4.1) is.3, is.5 ∙ ap (λ (h : History). is.0 ++ h) is.4.0 ∙ append-nil is.0)
log_split f store before (d ∷ front) c history last is =
    let rest = log_split f store is.1 front c is.2 last is.4 in
    (is.0 ++ rest.0, rest.1, rest.2, (is.0, is.1, rest.0, is.3, rest.3, refl), rest.4, is.5 ∙ ap (λ (h : History). is.0 ++ h) rest.5 ∙ sym (append_assoc is.0 rest.0 rest.2))

-- what a text in the format makes of the counts
pub record StepCounts (before : StoreState) (c : Commit) (after : StoreState) : Type 0 where
  pub next : after.count ≡ before.count + 1
  pub count : after.count ≡ c.count
  pub base : after.base ≡ c.base
  pub ring : before.count ≤ before.base + 1000 → after.count ≤ after.base + 1000

checkpoint_base : (c : Commit) → IsInFormat c → c.kind ≡ 2 → c.base ≡ c.count
checkpoint_base c format kind = ⊎_elim (λ commit. absurd (omega (arith, commit.0))) (λ checkpoint. checkpoint.1) format.kind

adds_counts : (f : Finds) (store : Store) (before : StoreState) (c : Commit) (added : History) (after : StoreState) → IsInFormat c → Adds f store before c added after → StepCounts before c after
adds_counts f store before c added after format (inl checkpoint) =
    let is = checkpoint.0 in
    let count : after.count ≡ c.count = ap (λ (s : StoreState). s.count) is.after_is in
    let base : after.base ≡ c.count = ap (λ (s : StoreState). s.base) is.after_is in
    record { next = count ∙ is.next; count = count; base = base ∙ sym (checkpoint_base c format is.kind); ring = λ so_far. omega (arith, count, base) }
adds_counts f store before c added after format (inr commit) =
    let is = commit.1 in
    let allowed = allows store before commit.0 after is.allowed in
    let count : after.count ≡ before.count + 1 = ap (λ (s : StoreState). s.count) allowed.after_is in
    let base : after.base ≡ before.base = ap (λ (s : StoreState). s.base) allowed.after_is in
    let room : before.count ≡ before.base + 1000 → ⊥ = allowed.not_full in
    record { next = count; count = count ∙ sym is.next; base = base ∙ sym is.base; ring = λ so_far. omega (arith, count, base, so_far, room) }

pub step_counts : (f : Finds) (store : Store) (before : StoreState) (c : Commit) (added : History) (after : StoreState) → IsInFormat c → IsStep f store before c added after → StepCounts before c after
step_counts f store before c added after format is = adds_counts f store before c added after format is.adds

-- the counts that a log has come to
pub record LogCounts (chain : List Commit) (last : StoreState) : Type 0 where
  pub base : base_of chain ≡ last.base
  pub some : 1 ≤ last.base
  pub least : last.base ≤ last.count
  pub commits : last.count ≤ last.base + 1000

base_least : (c : Commit) → IsInFormat c → c.base ≤ c.count
base_least c format = ⊎_elim (λ commit. omega (arith, commit.1)) (λ checkpoint. omega (arith, checkpoint.1)) format.kind

counts_from : (f : Finds) (store : Store) (before : StoreState) (c : Commit) (chain : List Commit) (history : History) (last : StoreState) → before.count ≤ before.base + 1000
    → AllByRecursion IsInFormat (c ∷ chain) → IsLogOf f store before (c ∷ chain) history last → LogCounts (c ∷ chain) last
counts_from f store before c [] history last ring formats is =
    let step = step_counts f store before c is.0 is.1 formats.0 is.3 in
    subst (LogCounts (c ∷ [])) (sym is.4.1) (record {
      base = sym step.base;
      some = omega (arith, step.base, formats.0.base);
      least = omega (arith, step.base, step.count, base_least c formats.0);
      commits = step.ring ring;
    })
counts_from f store before c (d ∷ chain) history last ring formats is =
    let step = step_counts f store before c is.0 is.1 formats.0 is.3 in
    let rest = counts_from f store is.1 d chain is.2 last (step.ring ring) formats.1 is.4 in
    record { base = rest.base; some = rest.some; least = rest.least; commits = rest.commits }

module _ (f : Finds) (store : Store) where
  pub adds_one : (before : StoreState) (c : Commit) (added : History) (after : StoreState) → Adds f store before c added after → after.count ≡ before.count + 1
  adds_one before c added after (inl checkpoint) = ap (λ (s : StoreState). s.count) checkpoint.0.after_is ∙ checkpoint.0.next
  adds_one before c added after (inr commit) = ap (λ (s : StoreState). s.count) (allows store before commit.0 after commit.1.allowed).after_is

  pub count_from : (before : StoreState) (chain : List Commit) (history : History) (last : StoreState) → IsLogOf f store before chain history last → last.count ≡ before.count + length chain
  count_from before [] history last is = let same : last.count ≡ before.count = ap (λ (s : StoreState). s.count) is.1 in omega (arith, same)
  count_from before (c ∷ chain) history last is = omega (arith, adds_one before c is.0 is.1 is.3.adds, count_from is.1 chain is.2 last is.4)

  -- The last count is the number of the texts.
  pub log_count : (chain : List Commit) (history : History) (last : StoreState) → IsLogOf f store first_state chain history last → last.count ≡ length chain
  log_count chain history last is = omega (arith, count_from first_state chain history last is)

  -- A log of some texts has a checkpoint, and at most 1,000 commits behind the last one.
  pub log_counts : (chain : List Commit) (history : History) (last : StoreState) → 1 ≤ length chain → AllByRecursion IsInFormat chain → IsLogOf f store first_state chain history last → LogCounts chain last
  log_counts [] history last some formats is = absurd (omega (arith, some))
  log_counts (c ∷ chain) history last some formats is = counts_from f store first_state c chain history last (omega arith) formats is

format_last : (chain : List Commit) (c : Commit) → AllByRecursion IsInFormat chain → IsInFormat c → AllByRecursion IsInFormat (chain ++ c ∷ [])
format_last [] c all last = (last, tt)
format_last (d ∷ chain) c all last = (all.0, format_last chain c all.1 last)

-- Each text of a chain is in the format.
pub chain_in_format : (written : List WrittenPiece) (key : List ℕ) (n : ℕ) (mark : List ℕ) (chain : List Commit) → commit_chain written (commit_of key) n mark ≡ Some chain → AllByRecursion IsInFormat chain
chain_in_format written key zero mark chain h = subst (AllByRecursion IsInFormat) (no_text chain h) tt
  where
    no_text : (x : List Commit) → ◌≡◌ {A = Option (List Commit)} (Some []) (Some x) → [] ≡ x
    no_text x e = cc
chain_in_format written key (suc n) mark chain h =
    let a = chain_last written (commit_of key) mark chain n h in
    subst (AllByRecursion IsInFormat) (sym a.7) (format_last a.2 a.1 (chain_in_format written key n a.1.prev.0 a.2 a.6) (commit_of_is key a.0 a.1 a.4).in_format)
