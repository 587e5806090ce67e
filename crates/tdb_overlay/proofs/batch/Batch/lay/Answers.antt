use Rattle.std.proofs.Common.{◌≡◌, ℕ, List, [], ◌∷◌, ◌++◌, Ok, length, sym, ◌∙◌, ap, subst, rules, arith}
use Rattle.std.proofs.lemmas.List.{map-append}
use Rattle.tdb_append.specs.Placed.{Placed, placed, placed_one}
use Rattle.tdb_seg.specs.SegmentSpace.{place_in}
use Rattle.tdb_seg.proofs.PlacingLaws.{place_in-is}
use Rattle.tdb_overlay.specs.LaidOut.{LaidOut}
use Rattle.tdb_overlay.proofs.LaidOutLaws.{laid_out_push}
use Rattle.tdb_overlay.proofs.batch.Batch.lay.Goals as goal

pub returns-clause-laid_out : goal.returns-clause-laid_out
returns-clause-laid_out c secret start is laid =
    let bytes : List ℕ = c.args.bytes.items in
    let old : List Placed = placed c.args.self.now.pieces.items in
    let long : c.len-length.result ≡ length bytes = search rules in
    let pushed : placed c.push.new.self.items ≡ old ++ record { place = c.in-Ok.place.0; bytes = bytes } ∷ [] =
    ap placed c.in_ok-push.ensures.items ∙ map-append placed_one c.args.self.now.pieces.items _ ∙ ap (λ (b : List ℕ). old ++ record { place = c.in-Ok.place.0; bytes = b } ∷ []) c.from.ensures in
    subst (λ (ps : List Placed). LaidOut secret start c.place.new.self ps) (sym pushed)
    (laid_out_push secret start c.args.self.now.segments c.place.new.self old c.in-Ok.place bytes c.args.keep laid is c.requires.some c.requires.most
    (subst (λ (n : ℕ). place_in c.args.self.now.segments n c.args.keep ≡ Ok (c.in-Ok.place, c.place.new.self)) long c.in-Ok.ensures.placed))

pub returns-clause-lies : goal.returns-clause-lies
returns-clause-lies c =
    let long : c.len-length.result ≡ length c.args.bytes.items = search rules in
    let one = place_in-is c.args.self.now.segments c.known.ensures c.len-length.result c.args.keep c.in-Ok.place c.place.new.self
    (omega (arith, long, c.requires.some)) (omega (arith, long, c.requires.most)) c.in-Ok.ensures.placed in
    (one.fresh.k, omega (arith, one.fresh.within, c.known.ensures.most), one.fresh.lies)
