-- When an open log is as it was.
use Rattle.std.proofs.Common.{◌≡◌, ℕ, List, ◌∙◌, ap, subst}
use Rattle.std.specs.Coded.{le_prop}
use Rattle.tdb_overlay.specs.Recovered.{HasCounts}
use Rattle.tdb_overlay.specs.declared.recovered.Recovered.{Recovered}
use Rattle.tdb_chunk.specs.declared.open_log.OpenLog.{OpenLog}

counts_one : (r : Recovered) → IsProp (HasCounts r)
counts_one r = hlevel le_prop

abbrev open_log : (keys : List ℕ) (r : Recovered) → HasCounts r → OpenLog
open_log keys r counts = record { keys = keys; log = r; counts = counts }

same_log : (keys : List ℕ) (r s : Recovered) → r ≡ s → (c : HasCounts r) (d : HasCounts s) → open_log keys r c ≡ open_log keys s d
same_log keys r s same = subst (λ (t : Recovered). (c : HasCounts r) (d : HasCounts t) → open_log keys r c ≡ open_log keys t d) same
    (λ c d. ap (λ (x : HasCounts r). open_log keys r x) (counts_one r c d))

-- It has the same keys, suite, head and segments and the same tree of the last checkpoint, and its overlay tells the same.
pub same_but : (a b : OpenLog) → a.keys ≡ b.keys → a.log.suite ≡ b.log.suite → a.log.head ≡ b.log.head → a.log.segments ≡ b.log.segments
    → a.log.overlay ≡ b.log.overlay → a.log.tree ≡ b.log.tree → a ≡ b
same_but a b keys suite head segments overlay tree =
    let log : a.log ≡ b.log =
    λ i. record { suite = suite i; head = head i; segments = segments i; overlay = overlay i; tree = tree i } in
    ap (λ (ks : List ℕ). open_log ks a.log a.counts) keys ∙ same_log b.keys a.log b.log log a.counts b.counts
