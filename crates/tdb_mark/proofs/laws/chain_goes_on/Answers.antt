use Rattle.std.proofs.Common.{◌≡◌, ◌++◌, ◌∷◌, [], ℕ, List, Some, inl, refl, sym, subst, add-one}
use Rattle.sha2.specs.Sha256.{sha256}
use Rattle.tdb_base.specs.Trace.{with_written}
use Rattle.tdb_mark.specs.TextOfDigest.{text_of_digest}
use Rattle.tdb_mark.specs.CommitChain.{commit_chain}
use Rattle.tdb_mark.proofs.DigestLemmas.{text_of_digest_is, text_of_digest_found, WasWritten-last}
use Rattle.tdb_mark.proofs.ChainLemmas.{commit_chain-stays, commit_chain-longer}
use Rattle.tdb_mark.proofs.laws.chain_goes_on.Goals as goal

pub returns : goal.returns
returns c trace at text grammar commit count mark chain unforged before reads prev next =
    let new = with_written trace at text in
    let last = WasWritten-last trace.written _ in
    let found = text_of_digest_found new.written text (sha256 text) last refl in
    let was = text_of_digest_is new.written (sha256 text) found.0 found.1 in
    let is = unforged.no_collision found.0 text (inl was.0) (inl last) was.1 in
    let here = subst (λ (p : List ℕ). text_of_digest new.written (sha256 text) ≡ Some p) is found.1 in
    subst (λ (n : ℕ). commit_chain new.written grammar n (sha256 text) ≡ Some (chain ++ commit ∷ [])) (sym (add-one count))
    (commit_chain-longer new.written grammar count mark text commit chain here reads prev next (commit_chain-stays trace.written _ grammar count mark chain before))
