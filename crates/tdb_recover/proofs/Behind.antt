-- The texts behind one, the last first.
use Rattle.std.proofs.Common.{◌≡◌, List, [], ◌∷◌, ◌++◌, reverse, sym, ◌∙◌, arith, subst}
use Rattle.std.specs.List.{AllByRecursion}
use Rattle.std.proofs.lemmas.List.{reverse-append}
use Rattle.tdb_mark.specs.declared.commit.Commit.{Commit}
use Rattle.tdb_recover.specs.Chain.{IsBehind}

pub reverse_push : (commits : List Commit) (c : Commit) → reverse (commits ++ c ∷ []) ≡ c ∷ reverse commits
reverse_push commits c = reverse-append commits (c ∷ [])

-- what is behind a text is behind the one before it
pub behind_earlier : (first text : Commit) (commits : List Commit) → IsBehind first text → AllByRecursion (IsBehind text) commits → AllByRecursion (IsBehind first) commits
behind_earlier first text [] is all = tt
behind_earlier first text (c ∷ commits) is all =
    (record { format = all.0.format; later = omega (arith, is.later, all.0.later); commit = all.0.commit; base = all.0.base ∙ is.base; suite = all.0.suite ∙ is.suite; segments = all.0.segments ∙ is.segments }, behind_earlier first text commits is all.1)

pub behind_pushed : (first text : Commit) (commits : List Commit) → IsBehind first text → AllByRecursion (IsBehind text) (reverse commits) → AllByRecursion (IsBehind first) (reverse (commits ++ text ∷ []))
behind_pushed first text commits is all = subst (AllByRecursion (IsBehind first)) (sym (reverse_push commits text)) (is, behind_earlier first text (reverse commits) is all)
