use Rattle.std.proofs.Common.{◌≡◌, ◌∙◌, ◌≤◌, ℕ, sym, ap, arith, take, drop, length}
use Rattle.std.proofs.lemmas.Bool.{false≢true}
use Rattle.std.proofs.lemmas.Grind.{common_steps}
use Rattle.std.proofs.lemmas.List.{length-take, take_all}
use Rattle.std.proofs.lemmas.Slice.Eq.{bytes_eq-Decides}
use Rattle.sha2.specs.Sha256.{sha256}
use Rattle.tdb_append.specs.Put.{slot_place}
use Rattle.tdb_overlay.proofs.ReadingLaws.{reads_none, reads_one, shows_held}
use Rattle.tdb_overlay.proofs.fetching.fetch_text.Goals as goal
use Rattle.tdb_overlay.proofs.fetching.fetch_text.Goals.{else-length-eq-TEXT_LENGTH-via-then-length-eq-TEXT_LENGTH+else-eq}
use Rattle.tdb_overlay.proofs.fetching.fetch_text.Goals.{else-length-eq-TEXT_LENGTH-via-else-length-eq-TEXT_LENGTH}

pub returns-in_default-clause-reads : goal.returns-in_default-clause-reads
returns-in_default-clause-reads g c =
    let e = c.in_default.ensures in
    reads_none g.P.Platform.outside g.P.Platform.crash_states g.met.P.Platform.counts c.args.platform.now c.read.new.self _ e.trace_err e.image e.anchor e.now e.time e.told

pub returns-then-eq-clause-reads : goal.returns-then-eq-clause-reads
returns-then-eq-clause-reads g c =
    let e = c.in-Ok.ensures in
    reads_one g.P.Platform.outside g.P.Platform.crash_states g.met.P.Platform.counts c.args.platform.now c.read.new.self _ _ _ _ e.trace e.image e.anchor e.now e.time e.told

pub returns-else-length-eq-TEXT_LENGTH-clause-reads : goal.returns-else-length-eq-TEXT_LENGTH-clause-reads
returns-else-length-eq-TEXT_LENGTH-clause-reads g c =
    let e = c.in-Ok.ensures in
    reads_one g.P.Platform.outside g.P.Platform.crash_states g.met.P.Platform.counts c.args.platform.now c.read.new.self _ _ _ _ e.trace e.image e.anchor e.now e.time e.told

pub returns-then-eq-clause-digest : goal.returns-then-eq-clause-digest
returns-then-eq-clause-digest g c =
    let whole : take c.in-Ok.length c.read.new.into ≡ c.read.new.into = take_all c.in-Ok.length c.read.new.into (omega (arith, c.read.auto.into)) in
    sym (ap sha256 whole) ∙ sym c.digest.ensures ∙ (bytes_eq-Decides c.digest.result c.args.mark.now.0).0 (sym c.if-eq.ensures)

pub returns-else-length-eq-TEXT_LENGTH-clause-stands : goal.returns-else-length-eq-TEXT_LENGTH-clause-stands
returns-else-length-eq-TEXT_LENGTH-clause-stands g c honest stands damage is =
    let image = (g.P.Platform.outside c.args.platform.now).image in
    let at = slot_place c.args.count in
    let into = c.read.new.into in
    let given = c.in-Ok.ensures.piece honest in
    let asked : take c.in-Ok.length into ≡ take 256 (drop at image) = grind (arith, common_steps) in
    let whole : take 256 (drop at image) ≡ stands.bytes =
    ap (λ (n : ℕ). take n (drop at image)) (sym stands.size) ∙ shows_held image at stands.bytes stands.holds in
    let shown = asked ∙ whole in
    let hashed : c.digest.result ≡ c.args.mark.now.0 = c.digest.ensures ∙ ap sha256 shown ∙ stands.digest in
    elim c.else-length-eq-TEXT_LENGTH.branch [
      | else-length-eq-TEXT_LENGTH-via-then-length-eq-TEXT_LENGTH+else-eq w ↦
          false≢true (w.if-eq.ensures ∙ (bytes_eq-Decides c.digest.result c.args.mark.now.0).1 hashed)
      | else-length-eq-TEXT_LENGTH-via-else-length-eq-TEXT_LENGTH w ↦
          let size : length (take c.in-Ok.length into) ≡ 256 = ap length shown ∙ stands.size in
          let most : c.in-Ok.length ≤ 256 = omega (arith, c.in-Ok.ensures.count) in
          w.if-length-eq-TEXT_LENGTH.false (omega (arith, size, most, length-take c.in-Ok.length into))
    ]
