use Rattle.std.proofs.Common.{◌≡◌, ◌∙◌, ap, sym, subst, Err, Some, List, ℕ}
use Rattle.tdb_append.specs.Put.{slot_place}
use Rattle.tdb_base.specs.declared.piece.Piece.{Piece}
use Rattle.tdb_mark.specs.declared.commit.Commit.{Commit}
use Rattle.tdb_mark.specs.CommitText.{commit_of}
use Rattle.tdb_recover.specs.Explained.{IsExplained}
use Rattle.tdb_recover.proofs.Answering.{if_err_and}
use Rattle.tdb_recover.proofs.Counted.{most_failed, most_one}
use Rattle.tdb_recover.proofs.Only.{only_one}
use Rattle.tdb_recover.proofs.Showing.{text_read, text_error, some_none}
use Rattle.tdb_recover.proofs.texts.read_text.Goals as goal

some_is : (c d : Commit) → Some c ≡ Some d → c ≡ d
some_is c d e = cc

pub returns-in-Some-clause-text : goal.returns-in-Some-clause-text
returns-in-Some-clause-text g c t d of =
    let old = g.P.Platform.outside c.args.platform.now in
    let new = g.P.Platform.outside c.fetch_text.new.platform in
    let reads = text_read old.trace new.trace (slot_place c.args.count) 256 c.args.keys.now c.args.mark.now.0 c.in_ok-bytes.bytes d (c.in_ok-bytes.ensures.read t) c.in_ok-bytes.ensures.digest of in
    some_is c.in-Some.text d (c.in-Some.ensures.value ∙ ap (λ (k : List ℕ). commit_of k c.in_ok-bytes.bytes) c.commit.ensures ∙ reads)

pub returns-in_err-bytes-clause-explained : goal.returns-in_err-bytes-clause-explained
returns-in_err-bytes-clause-explained g c t =
    let old = g.P.Platform.outside c.args.platform.now in
    let new = g.P.Platform.outside c.fetch_text.new.platform in
    let piece : Piece = record { place = record { 0 = slot_place c.args.count }; length = 256; digest = c.args.mark.now } in
    if_err_and c.from_residual.result _ _ c.from_residual.ensures.1
    (λ e is d of.
    subst (IsExplained old new (λ p. p ≡ piece)) (sym is)
    (text_error old new c.args.keys.now piece d c.in_err-bytes.field-0.0
    (λ damage same. let h = c.in_err-bytes.ensures.tampered damage (ap Err same) in (h.0, h.1, h.2 t))
    (λ honest stands damage same. c.in_err-bytes.ensures.stands honest stands damage (ap Err same)) of))

pub returns-in-None-clause-explained : goal.returns-in-None-clause-explained
returns-in-None-clause-explained g c t d of =
    let old = g.P.Platform.outside c.args.platform.now in
    let new = g.P.Platform.outside c.fetch_text.new.platform in
    let reads = text_read old.trace new.trace (slot_place c.args.count) 256 c.args.keys.now c.args.mark.now.0 c.in_ok-bytes.bytes d (c.in_ok-bytes.ensures.read t) c.in_ok-bytes.ensures.digest of in
    some_none d (c.in-None.ensures.value ∙ ap (λ (k : List ℕ). commit_of k c.in_ok-bytes.bytes) c.commit.ensures ∙ reads)

pub returns-in-Some-clause-only : goal.returns-in-Some-clause-only
returns-in-Some-clause-only g c t =
    let piece : Piece = record { place = record { 0 = slot_place c.args.count }; length = 256; digest = c.args.mark.now } in
    only_one (g.P.Platform.outside c.args.platform.now) (g.P.Platform.outside c.fetch_text.new.platform) piece c.in_ok-bytes.bytes (c.in_ok-bytes.ensures.read t)

pub returns-in_err-bytes-clause-most : goal.returns-in_err-bytes-clause-most
returns-in_err-bytes-clause-most g c =
    most_failed (g.P.Platform.outside c.args.platform.now) (g.P.Platform.outside c.fetch_text.new.platform) (slot_place c.args.count) 256
    c.in_err-bytes.field-0.0
    (λ damage same t. let h = c.in_err-bytes.ensures.tampered damage (ap Err same) in let shown = h.2 t in (shown.0, shown.1))
    (λ same. c.in_err-bytes.ensures.failed (ap Err same))
    (λ same t. absurd (c.in_err-bytes.ensures.no_memory (ap Err same)))

pub returns-in-Some-clause-most : goal.returns-in-Some-clause-most
returns-in-Some-clause-most g c =
    most_one (g.P.Platform.outside c.args.platform.now) (g.P.Platform.outside c.fetch_text.new.platform) (slot_place c.args.count) 256
    c.in_ok-bytes.bytes c.in_ok-bytes.ensures.read

pub returns-in-None-clause-most : goal.returns-in-None-clause-most
returns-in-None-clause-most g c =
    most_one (g.P.Platform.outside c.args.platform.now) (g.P.Platform.outside c.fetch_text.new.platform) (slot_place c.args.count) 256
    c.in_ok-bytes.bytes c.in_ok-bytes.ensures.read
