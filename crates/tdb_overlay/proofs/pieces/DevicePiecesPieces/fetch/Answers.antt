use Rattle.std.proofs.Common.{IsTrue, Bool, Err, refl, sym, ap, subst, ◌∙◌}
use Rattle.tdb_overlay.specs.declared.fetching.FetchError.{FetchError}
use Rattle.tdb_overlay.proofs.PiecesRead.{image_none, image_one, shown_last, texts_grow, was_last}
use Rattle.tdb_overlay.specs.ReadsJoin.{image_nothing, reads_nothing}
use Rattle.tdb_overlay.proofs.pieces.DevicePiecesPieces.fetch.Goals as goal

pub returns-then-not-holds-clause-goes : goal.returns-then-not-holds-clause-goes
returns-then-not-holds-clause-goes g c =
    let p = c.args.self.now.platform.now in
    (reads_nothing g.P.Platform.outside g.P.Platform.crash_states g.met.P.Platform.counts p, refl, image_nothing (g.P.Platform.outside p), refl)

pub returns-in-Ok-clause-goes : goal.returns-in-Ok-clause-goes
returns-in-Ok-clause-goes g c = (
  c.fetch.ensures.reads,
  refl,
  image_one (g.P.Platform.outside c.args.self.now.platform.now) (g.P.Platform.outside c.fetch.new.platform) c.args.piece.now c.in-Ok.bytes.items
      c.in-Ok.ensures.read c.in-Ok.ensures.held,
  refl,
)

pub returns-in-Err-Tampered-clause-goes : goal.returns-in-Err-Tampered-clause-goes
returns-in-Err-Tampered-clause-goes g c =
    let h = c.in-Err-Tampered.ensures.tampered c.in-Err-Tampered.damage (ap (λ (e : FetchError). Err e) c.in-Err-Tampered.field-0-is) in (
      c.fetch.ensures.reads,
      refl,
      image_one (g.P.Platform.outside c.args.self.now.platform.now) (g.P.Platform.outside c.fetch.new.platform) c.args.piece.now h.2.0 h.2.3 h.2.4,
      refl,
    )

pub returns-in-Err-Fault-clause-goes : goal.returns-in-Err-Fault-clause-goes
returns-in-Err-Fault-clause-goes g c = (
  c.fetch.ensures.reads,
  refl,
  image_none (g.P.Platform.outside c.args.self.now.platform.now) (g.P.Platform.outside c.fetch.new.platform)
      (c.in-Err-Fault.ensures.failed (ap (λ (e : FetchError). Err e) c.in-Err-Fault.field-0-is)),
  refl,
)

pub returns-in-Err-Memory-clause-goes : goal.returns-in-Err-Memory-clause-goes
returns-in-Err-Memory-clause-goes g c = (
  c.fetch.ensures.reads,
  refl,
  image_none (g.P.Platform.outside c.args.self.now.platform.now) (g.P.Platform.outside c.fetch.new.platform)
      (λ tells. ap (λ (p : _). (g.P.Platform.outside p).trace)
      (c.in-Err-Memory.ensures.unread (ap (λ (e : FetchError). Err e) c.in-Err-Memory.field-0-is))),
  refl,
)

pub returns-in-Err-Tampered-clause-undamaged : goal.returns-in-Err-Tampered-clause-undamaged
returns-in-Err-Tampered-clause-undamaged g c none = absurd (none c.in-Err-Tampered.damage refl)

pub returns-in-Ok-clause-text : goal.returns-in-Ok-clause-text
returns-in-Ok-clause-text g c = (
  c.in-Ok.ensures.digest,
  λ tells. was_last (g.P.Platform.outside c.args.self.now.platform.now).trace (g.P.Platform.outside c.fetch.new.platform).trace
      c.args.piece.now c.in-Ok.bytes.items
      (c.in-Ok.ensures.read (subst (λ (b : Bool). IsTrue b) c.fetch.ensures.reads.tells tells)),
)

pub returns-in-Ok-clause-grows : goal.returns-in-Ok-clause-grows
returns-in-Ok-clause-grows g c = texts_grow g.P.Platform.outside g.P.Platform.crash_states c.args.self.now.platform.now c.fetch.new.platform
    c.fetch.ensures.reads

pub returns-in-Err-Tampered-clause-cause : goal.returns-in-Err-Tampered-clause-cause
returns-in-Err-Tampered-clause-cause g c =
    let damage = c.in-Err-Tampered.damage in
    let piece = c.args.piece.now in
    let h = c.in-Err-Tampered.ensures.tampered damage (ap (λ (e : FetchError). Err e) c.in-Err-Tampered.field-0-is) in (
      h.2.0,
      h.0,
      h.1,
      sym h.2.1,
      λ same. h.2.2 (λ i. record { 0 = (sym h.2.1 ∙ same) i }),
      λ tells. shown_last (g.P.Platform.outside c.args.self.now.platform.now).trace (g.P.Platform.outside c.fetch.new.platform).trace piece h.2.0
          (h.2.3 tells) _ _ _ _,
    )

pub returns-in-Err-Tampered-clause-grows : goal.returns-in-Err-Tampered-clause-grows
returns-in-Err-Tampered-clause-grows g c = texts_grow g.P.Platform.outside g.P.Platform.crash_states c.args.self.now.platform.now
    c.fetch.new.platform c.fetch.ensures.reads
