use Rattle.std.proofs.Common.{◌≡◌, ◌≢◌, List, ℕ, IsTrue, refl, sym, ◌∙◌, ap, subst, take, drop}
use Rattle.std.proofs.lemmas.Grind.{common_steps}
use Rattle.std.proofs.Common.{arith}
use Rattle.std.proofs.lemmas.Bool.{false≢true}
use Rattle.std.proofs.lemmas.Slice.Eq.{bytes_eq-Decides}
use Rattle.sha2.specs.Sha256.{sha256}
use Rattle.tdb_base.specs.declared.piece.Damage.{Damage}
use Rattle.tdb_base.specs.declared.piece.Digest.{Digest}
use Rattle.tdb_base.specs.Trace.{with_read}
use Rattle.tdb_overlay.proofs.ReadingLaws.{reads_nothing, reads_none, reads_one, shows_held}
use Rattle.tdb_overlay.specs.Reading.{held}
use Rattle.tdb_overlay.proofs.fetching.fetch.Goals as goal

pub returns-then-eq-clause-digest : goal.returns-then-eq-clause-digest
returns-then-eq-clause-digest g c =
    sym (c.digest.ensures ∙ ap sha256 c.as_slice.ensures.value) ∙ (bytes_eq-Decides c.digest.result c.args.piece.now.digest.0).0 (sym c.if-eq.ensures)

pub returns-in_default-clause-reads : goal.returns-in_default-clause-reads
returns-in_default-clause-reads g c = reads_nothing g.P.Platform.outside g.P.Platform.crash_states g.met.P.Platform.counts c.args.platform.now

pub returns-in_default-read-clause-reads : goal.returns-in_default-read-clause-reads
returns-in_default-read-clause-reads g c =
    let e = c.in_default-read.ensures in
    reads_none g.P.Platform.outside g.P.Platform.crash_states g.met.P.Platform.counts c.args.platform.now c.read.new.self _ e.trace_err e.image e.anchor e.now e.time e.told

pub returns-then-eq-clause-reads : goal.returns-then-eq-clause-reads
returns-then-eq-clause-reads g c =
    let e = c.in-Ok-read.ensures in
    reads_one g.P.Platform.outside g.P.Platform.crash_states g.met.P.Platform.counts c.args.platform.now c.read.new.self _ _ _ _ e.trace e.image e.anchor e.now e.time e.told

pub returns-else-eq-clause-reads : goal.returns-else-eq-clause-reads
returns-else-eq-clause-reads g c =
    let e = c.in-Ok-read.ensures in
    reads_one g.P.Platform.outside g.P.Platform.crash_states g.met.P.Platform.counts c.args.platform.now c.read.new.self _ _ _ _ e.trace e.image e.anchor e.now e.time e.told

pub returns-else-eq-clause-tampered : goal.returns-else-eq-clause-tampered
returns-else-eq-clause-tampered g c damage is =
    let outside = g.P.Platform.outside in
    let piece = c.args.piece.now in
    let bytes = c.truncate.new.self.items in
    let found : Digest = record { 0 = c.digest.result } in
    let same : record { place = piece.place; expected = piece.digest; found = found } ≡ damage = cc is in
    let differs : found ≡ piece.digest → ⊥ = λ e. false≢true (c.if-eq.ensures ∙ (bytes_eq-Decides c.digest.result piece.digest.0).1 (ap (λ (d : Digest). d.0) e)) in
    let hashed : sha256 bytes ≡ found.0 = sym (c.digest.ensures ∙ ap sha256 c.as_slice.ensures.value) in
    let read : IsTrue (outside c.args.platform.now).tells → (outside c.read.new.self).trace ≡ with_read (outside c.args.platform.now).trace piece.place.0 piece.length bytes = grind (arith, common_steps) in
    subst (λ (d : Damage). (d.place ≡ piece.place) × (d.expected ≡ piece.digest) × ((b : List ℕ) × (sha256 b ≡ d.found.0)
    × (d.found ≢ piece.digest) × (IsTrue (outside c.args.platform.now).tells
    → (outside c.read.new.self).trace ≡ with_read (outside c.args.platform.now).trace piece.place.0 piece.length b)
    × (IsTrue (outside c.args.platform.now).honest → b ≡ held (outside c.args.platform.now).image piece.place.0 piece.length)))
    same (refl, refl, (bytes, hashed, differs, read, λ honest. (let given = c.in-Ok-read.ensures.piece honest in grind (arith, common_steps))))

pub returns-else-eq-clause-stands : goal.returns-else-eq-clause-stands
returns-else-eq-clause-stands g c honest stands damage is =
    let piece = c.args.piece.now in
    let image = (g.P.Platform.outside c.args.platform.now).image in
    let given = c.in-Ok-read.ensures.piece honest in
    let asked : c.truncate.new.self.items ≡ take piece.length (drop piece.place.0 image) = grind (arith, common_steps) in
    let whole : take piece.length (drop piece.place.0 image) ≡ stands.bytes =
    ap (λ (n : ℕ). take n (drop piece.place.0 image)) (sym stands.size) ∙ shows_held image piece.place.0 stands.bytes stands.holds in
    let hashed : c.digest.result ≡ piece.digest.0 =
    c.digest.ensures ∙ ap sha256 c.as_slice.ensures.value ∙ ap sha256 (asked ∙ whole) ∙ stands.digest in
    false≢true (c.if-eq.ensures ∙ (bytes_eq-Decides c.digest.result piece.digest.0).1 hashed)
