use Rattle.std.proofs.Common.{◌≡◌, ◌∙◌, ap, sym, subst, Err, List, ℕ}
use Rattle.tdb_mark.specs.CommitText.{commit_key_of, commit_of}
use Rattle.tdb_seal.specs.SealedRecord.{IsSealedRecord}
use Rattle.tdb_seal.proofs.RecordSpelling.{same_plain}
use Rattle.tdb_platform.specs.Outside.{Outside}
use Rattle.tdb_overlay.specs.Keys.{system_key}
use Rattle.tdb_recover.specs.Explained.{IsExplained}
use Rattle.tdb_recover.proofs.Answering.{if_err_and}
use Rattle.tdb_recover.proofs.Counted.{most_failed, most_one}
use Rattle.tdb_recover.proofs.Only.{only_one}
use Rattle.tdb_recover.proofs.Showing.{piece_error, read_is}
use Rattle.tdb_recover.proofs.records.open_record.Goals as goal

pub returns-in-Ok-clause-plain : goal.returns-in-Ok-clause-plain
returns-in-Ok-clause-plain g c t plain given =
    let old = g.P.Platform.outside c.args.platform.now in
    let new = g.P.Platform.outside c.fetch.new.platform in
    let bytes = c.in_ok-bytes.bytes.items in
    let piece = c.args.piece.now in
    let is = read_is (commit_of (commit_key_of c.args.keys.now)) old.trace new.trace piece.place.0 piece.length bytes given.sealed piece.digest.0 (c.in_ok-bytes.ensures.read t) given.unforged given.found.0 c.in_ok-bytes.ensures.digest in
    same_plain (system_key c.args.keys.now) c.args.name.now c.in-Ok.plain.items plain given.sealed
    (subst (λ (b : List ℕ). IsSealedRecord (system_key c.args.keys.now) c.args.name.now c.in-Ok.plain.items b) (c.as_slice.ensures.value ∙ is) c.in-Ok.ensures.found)
    given.opened

pub returns-in_err-bytes-clause-explained : goal.returns-in_err-bytes-clause-explained
returns-in_err-bytes-clause-explained g c t =
    let old = g.P.Platform.outside c.args.platform.now in
    let new = g.P.Platform.outside c.fetch.new.platform in
    if_err_and c.from_residual.result _ _ c.from_residual.ensures.1
    (λ e is plain given.
    subst (IsExplained old new (λ p. p ≡ c.args.piece.now)) (sym is)
    (piece_error old new c.args.piece.now c.in_err-bytes.field-0.0
    (λ damage same. let h = c.in_err-bytes.ensures.tampered damage (ap Err same) in (h.0, h.1, (h.2.0, h.2.3 t, h.2.1, h.2.2)))
    (λ honest stands damage same. c.in_err-bytes.ensures.stands honest stands damage (ap Err same))))

pub returns-in-Err-Form-clause-explained : goal.returns-in-Err-Form-clause-explained
returns-in-Err-Form-clause-explained g c t plain given =
    let old = g.P.Platform.outside c.args.platform.now in
    let new = g.P.Platform.outside c.fetch.new.platform in
    let bytes = c.in_ok-bytes.bytes.items in
    let piece = c.args.piece.now in
    let is = read_is (commit_of (commit_key_of c.args.keys.now)) old.trace new.trace piece.place.0 piece.length bytes given.sealed piece.digest.0 (c.in_ok-bytes.ensures.read t) given.unforged given.found.0 c.in_ok-bytes.ensures.digest in
    c.in-Err-Form.ensures.form (ap Err c.in-Err-Form.field-0-is) plain
    (subst (λ (b : List ℕ). IsSealedRecord (system_key c.args.keys.now) c.args.name.now plain b) (sym (c.as_slice.ensures.value ∙ is)) given.opened)

pub returns-in-Ok-clause-only : goal.returns-in-Ok-clause-only
returns-in-Ok-clause-only g c t = only_one (g.P.Platform.outside c.args.platform.now) (g.P.Platform.outside c.fetch.new.platform) c.args.piece.now c.in_ok-bytes.bytes.items (c.in_ok-bytes.ensures.read t)

pub returns-in_err-bytes-clause-most : goal.returns-in_err-bytes-clause-most
returns-in_err-bytes-clause-most g c =
    let outside = g.P.Platform.outside in
    let piece = c.args.piece.now in
    most_failed (outside c.args.platform.now) (outside c.fetch.new.platform) piece.place.0 piece.length c.in_err-bytes.field-0.0
    (λ damage same t. let h = c.in_err-bytes.ensures.tampered damage (ap Err same) in (h.2.0, h.2.3 t))
    (λ same. c.in_err-bytes.ensures.failed (ap Err same))
    (λ same t. ap (λ (o : Outside). o.trace) (ap outside (c.in_err-bytes.ensures.unread (ap Err same))))

pub returns-in-Ok-clause-most : goal.returns-in-Ok-clause-most
returns-in-Ok-clause-most g c =
    most_one (g.P.Platform.outside c.args.platform.now) (g.P.Platform.outside c.fetch.new.platform) c.args.piece.now.place.0
    c.args.piece.now.length c.in_ok-bytes.bytes.items c.in_ok-bytes.ensures.read

pub returns-in-Err-Form-clause-most : goal.returns-in-Err-Form-clause-most
returns-in-Err-Form-clause-most g c =
    most_one (g.P.Platform.outside c.args.platform.now) (g.P.Platform.outside c.fetch.new.platform) c.args.piece.now.place.0
    c.args.piece.now.length c.in_ok-bytes.bytes.items c.in_ok-bytes.ensures.read

pub returns-clause-most : goal.returns-clause-most
returns-clause-most g c =
    most_one (g.P.Platform.outside c.args.platform.now) (g.P.Platform.outside c.fetch.new.platform) c.args.piece.now.place.0
    c.args.piece.now.length c.in_ok-bytes.bytes.items c.in_ok-bytes.ensures.read
