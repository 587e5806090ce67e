-- A chain over a longer list of pieces.
use Rattle.std.proofs.Common.{◌≡◌, ℕ, zero, suc, Bool, true, false, cond, List, [], ◌∷◌, ◌++◌, Option, Some, None, option_and_then, ◌∙◌, ap}
use Rattle.sha2.specs.Sha256.{sha256}
use Rattle.tdb_base.specs.Trace.{WrittenPiece}
use Rattle.tdb_mark.specs.declared.commit.Commit.{Commit}
use Rattle.tdb_mark.specs.TextOfDigest.{text_of_digest}
use Rattle.tdb_mark.specs.CommitChain.{commit_chain, ends_with, follows}
use Rattle.tdb_mark.proofs.DigestLemmas.{text_of_digest-stays}
use Rattle.tdb_mark.proofs.TextLemmas.{and_then}

ends_with-stays : (n : ℕ) (chains more : List ℕ → Option (List Commit)) (c : Commit) (chain : List Commit) → ((m : List ℕ) (l : List Commit) → chains m ≡ Some l → more m ≡ Some l) → ends_with n chains c ≡ Some chain → ends_with n more c ≡ Some chain
ends_with-stays n chains more c chain stay h =
    (elim (follows n c) as (λ b. cond b (option_and_then (λ l. Some (l ++ c ∷ [])) (chains c.prev.0)) None ≡ Some chain → cond b (option_and_then (λ l. Some (l ++ c ∷ [])) (more c.prev.0)) None ≡ Some chain) [
      | true ↦ λ e. let a = and_then (λ l. Some (l ++ c ∷ [])) (chains c.prev.0) chain e in ap (option_and_then (λ l. Some (l ++ c ∷ []))) (stay c.prev.0 a.0 a.1) ∙ a.2
      | false ↦ λ e. e
    ]) h

-- the chain of an anchor stays as more is written
pub commit_chain-stays : (ws more : List WrittenPiece) (grammar : List ℕ → Option Commit) (n : ℕ) (mark : List ℕ) (chain : List Commit) → commit_chain ws grammar n mark ≡ Some chain → commit_chain (ws ++ more) grammar n mark ≡ Some chain
commit_chain-stays ws more grammar zero mark chain h = h
commit_chain-stays ws more grammar (suc n) mark chain h =
    let all = ws ++ more in
    let a = and_then (λ text. option_and_then (ends_with n (commit_chain ws grammar n)) (grammar text)) (text_of_digest ws mark) chain h in
    let b = and_then (ends_with n (commit_chain ws grammar n)) (grammar a.0) chain a.2 in
    ap (option_and_then (λ text. option_and_then (ends_with n (commit_chain all grammar n)) (grammar text))) (text_of_digest-stays ws more mark a.0 a.1)
    ∙ ap (option_and_then (ends_with n (commit_chain all grammar n))) b.1
    ∙ ends_with-stays n (commit_chain ws grammar n) (commit_chain all grammar n) b.0 chain (λ m l. commit_chain-stays ws more grammar n m l) b.2

pub commit_chain-longer : (ws : List WrittenPiece) (grammar : List ℕ → Option Commit) (n : ℕ) (mark text : List ℕ) (c : Commit) (chain : List Commit)
    → text_of_digest ws (sha256 text) ≡ Some text → grammar text ≡ Some c → c.prev.0 ≡ mark → follows n c ≡ true → commit_chain ws grammar n mark ≡ Some chain → commit_chain ws grammar (suc n) (sha256 text) ≡ Some (chain ++ c ∷ [])
commit_chain-longer ws grammar n mark text c chain here reads prev next before =
    ap (option_and_then (λ t. option_and_then (ends_with n (commit_chain ws grammar n)) (grammar t))) here
    ∙ ap (option_and_then (ends_with n (commit_chain ws grammar n))) reads
    ∙ ap (λ (b : Bool). cond b (option_and_then (λ l. Some (l ++ c ∷ [])) (commit_chain ws grammar n c.prev.0)) None) next
    ∙ ap (λ (m : List ℕ). option_and_then (λ l. Some (l ++ c ∷ [])) (commit_chain ws grammar n m)) prev
    ∙ ap (option_and_then (λ l. Some (l ++ c ∷ []))) before
