-- A commit behind a log is none of those in its history, since it counts more.
use Rattle.std.proofs.Common.{◌≡◌, inl, inr, ℕ, ◌+◌, ◌≤◌, List, [], ◌∷◌, ◌++◌, sym, ◌∙◌, ap, subst, arith}
use Rattle.std.specs.List.{AllByRecursion}
use Rattle.tdb_base.specs.Trace.{WrittenPiece}
use Rattle.tdb_mark.specs.declared.commit.Commit.{Commit}
use Rattle.tdb_model.specs.Apply.{History}
use Rattle.tdb_platform.specs.Outside.{Anchor}
use Rattle.tdb_overlay.specs.Found.{Finds, Store, in_trace}
use Rattle.tdb_overlay.specs.Log.{Adds, IsLog, IsLogOf}
use Rattle.tdb_overlay.specs.StoreState.{StoreState, first_state}
use Rattle.tdb_overlay.proofs.LogLaws.{allows}
use Rattle.tdb_overlay.proofs.OneLog.{log_at}
use Rattle.tdb_recover.specs.Pending.{IsTaken}
use Rattle.tdb_run.specs.Runs.{IsWithin}

-- each commit counts at most so much
abbrev AreCounted : ℕ → History → Type 0
AreCounted most commits = AllByRecursion (λ commit. commit.0 ≤ most) commits

counted_rest : (most : ℕ) (before rest : History) → AreCounted most (before ++ rest) → AreCounted most rest
counted_rest most [] rest all = all
counted_rest most (x ∷ before) rest all = counted_rest most before rest all.1

counted_both : (most : ℕ) (one two : History) → AreCounted most one → AreCounted most two → AreCounted most (one ++ two)
counted_both most [] two first then = then
counted_both most (x ∷ one) two first then = (first.0, counted_both most one two first.1 then)

-- so each that is among such does
counted_within : (most : ℕ) (some all : History) → IsWithin some all → AreCounted most all → AreCounted most some
counted_within most [] all is counted = tt
counted_within most (x ∷ some) all is counted =
    let rest = counted_rest most is.0 (x ∷ is.1) (subst (AreCounted most) is.2 counted) in
    (rest.0, counted_within most some is.1 is.3 rest.1)

module _ (finds : Finds) (store : Store) where
  -- what a text adds counts as the state after it
  adds_counted : (before after : StoreState) (c : Commit) (added : History) → Adds finds store before c added after
      → (after.count ≡ before.count + 1) × AreCounted after.count added
  adds_counted before after c added (inl checkpoint) = (
    ap (λ (s : StoreState). s.count) checkpoint.0.after_is ∙ checkpoint.0.next,
    subst (AreCounted after.count) (sym checkpoint.1) tt,
  )
  adds_counted before after c added (inr commit) =
      let count : after.count ≡ before.count + 1 = ap (λ (s : StoreState). s.count)
      (allows store before commit.0 after commit.1.allowed).after_is in
      let next = commit.1.next in
      (count, subst (AreCounted after.count) (sym commit.2) (omega (arith, count, next), tt))

  more_counted : (less most : ℕ) (commits : History) → less ≤ most → AreCounted less commits → AreCounted most commits
  more_counted less most [] le all = tt
  more_counted less most (x ∷ commits) le all =
      let first = all.0 in
      (omega (arith, first, le), more_counted less most commits le all.1)

  -- the history of a log counts at most what its last state does
  log_counted : (chain : List Commit) (before last : StoreState) (history : History) → IsLogOf finds store before chain history last
      → (before.count ≤ last.count) × AreCounted last.count history
  log_counted [] before last history is = (
    let same = ap (λ (s : StoreState). s.count) is.1 in omega (arith, same),
    subst (AreCounted last.count) (sym is.0) tt,
  )
  log_counted (c ∷ chain) before last history is =
      let step = adds_counted before is.1 c is.0 is.3.adds in
      let rest = log_counted chain is.1 last is.2 is.4 in
      let count = step.0 in
      let more = rest.0 in (
        omega (arith, count, more),
        subst (AreCounted last.count) (sym is.5)
            (counted_both last.count is.0 is.2 (more_counted is.1.count last.count is.0 more step.1) rest.1),
      )

-- The commit that is taken isn't among commits that the history holds.
pub not_acknowledged : (written : List WrittenPiece) (store : Store) (anchor : Anchor) (history taken acknowledged : History)
    (from to : StoreState) → IsLog written store anchor history from → IsWithin acknowledged history
    → IsTaken written store anchor history from taken to → IsWithin taken acknowledged → ⊥
not_acknowledged written store anchor history taken acknowledged from to log holds is within =
    let counted : AreCounted from.count history =
    (log_counted (in_trace written) store log.chain first_state from history log.tells).1 in
    let one = subst (AreCounted from.count) is.one
    (counted_within from.count taken acknowledged within (counted_within from.count acknowledged history holds counted)) in
    let most = one.0 in
    let next = is.pending.count in
    let at = log_at written store anchor history from log in
    omega (arith, most, next, at)
