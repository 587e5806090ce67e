use Rattle.std.proofs.Common.{◌≡◌, ◌∙◌, ◌+◌, [], ◌∷◌, List, ℕ, IsTrue, refl, sym, ap, arith, subst, append-nil, append_assoc}
use Rattle.std.specs.Prelude.{take, drop}
use Rattle.std.proofs.lemmas.Bool.{false≢true}
use Rattle.std.proofs.lemmas.List.{take_all}
use Rattle.tdb_platform.specs.Image.{Holds}
use Rattle.tdb_platform.specs.ImageLaws.{overwritten_holds}
use Rattle.tdb_append.specs.Placed.{Placed, EachHolds, placed, placed_one}
use Rattle.tdb_append.proofs.Writing.{Progress, at_start, writes_one, write_failed, not_both, rose_before}
use Rattle.tdb_append.proofs.Images.{holds_more, placed_split, placed_more, fits_at, ends_on_device}
use Rattle.tdb_append.proofs.append.write_all.Goals as goal

pub write-requires : goal.write-requires
write-requires g c =
    let p : Placed = record { place = c.piece-item.result.place.0; bytes = c.as_slice.result.now } in
    let same : p ≡ placed_one c.piece-item.result = ap (λ (b : List ℕ). record { place = c.piece-item.result.place.0; bytes = b }) c.as_slice.ensures in
    ends_on_device p (fits_at c.args.pieces.now c.loop-piece.piece-index c.piece-item.result p c.loop-piece-test.true c.piece-item.is same c.requires.in_segments)

pub loop-piece-init : goal.loop-piece-init
loop-piece-init g c = record {
  progress = at_start g.P.Platform.outside g.P.Platform.crash_states g.met.P.Platform.counts c.args.platform.now;
  holds = λ h k d within. absurd (omega (arith, within));
  anchor = λ t. refl;
  quiet = refl;
}

pub loop-piece-preserved : goal.loop-piece-preserved
loop-piece-preserved g c =
    let outside = g.P.Platform.outside in
    let states = g.P.Platform.crash_states in
    let so_far = c.loop-piece.invariant in
    let wrote = c.write.ensures in
    let mid = c.loop-piece.platform in
    let new = c.write.new.self in
    let pieces = c.args.pieces.now in
    let k = c.loop-piece.piece-index in
    let p : Placed = record { place = c.piece-item.result.place.0; bytes = c.as_slice.result.now } in
    let same : p ≡ placed_one c.piece-item.result = ap (λ (b : List ℕ). record { place = c.piece-item.result.place.0; bytes = b }) c.as_slice.ensures in
    let split = placed_split pieces k c.piece-item.result p c.loop-piece-test.true c.piece-item.is same in
    let more = placed_more pieces k c.piece-item.result p c.loop-piece-test.true c.piece-item.is same in
    record {
      progress = subst (λ (l : List Placed). Progress outside states c.args.platform.now new l) (sym more)
          (writes_one outside states g.met.P.Platform.counts c.args.platform.now mid new (placed (take k pieces)) p so_far.progress
          (record { tells = wrote.told.tells; honest = wrote.told.honest; no_fewer_faults = wrote.told.no_fewer_faults; time = wrote.time })
          c.in_ok-write.ensures.trace wrote.image wrote.now);
      holds = λ h.
          let still : IsTrue (outside mid).honest = subst IsTrue (sym so_far.progress.honest) h in
          subst (λ (l : List Placed). EachHolds (outside new).image l) (sym more)
          (holds_more (placed pieces) (placed (take k pieces)) (placed (drop (k + 1) pieces)) p (outside mid).image (outside new).image split c.requires.apart (so_far.holds h) (wrote.image still)
          (subst (λ (i : List ℕ). Holds i p.place p.bytes) (sym (c.in_ok-write.ensures.written still)) (overwritten_holds (outside mid).image p.place p.bytes)));
      anchor = λ t. wrote.anchor (subst IsTrue (sym so_far.progress.tells) t) ∙ so_far.anchor t;
      quiet = c.in_ok-write.ensures.quiet ∙ so_far.quiet;
    }

pub returns-in_err-write-clause-writes : goal.returns-in_err-write-clause-writes
returns-in_err-write-clause-writes g c =
    let outside = g.P.Platform.outside in
    let states = g.P.Platform.crash_states in
    let so_far = c.loop-piece.invariant in
    let wrote = c.write.ensures in
    let pieces = c.args.pieces.now in
    let k = c.loop-piece.piece-index in
    let p : Placed = record { place = c.piece-item.result.place.0; bytes = c.as_slice.result.now } in
    let same : p ≡ placed_one c.piece-item.result = ap (λ (b : List ℕ). record { place = c.piece-item.result.place.0; bytes = b }) c.as_slice.ensures in
    let split = placed_split pieces k c.piece-item.result p c.loop-piece-test.true c.piece-item.is same in
    let front = write_failed outside states g.met.P.Platform.counts c.args.platform.now c.loop-piece.platform c.write.new.self
    (placed pieces) (placed (take k pieces)) (placed (drop (k + 1) pieces)) p split (split ∙ sym (append_assoc (placed (take k pieces)) (p ∷ []) (placed (drop (k + 1) pieces))))
    so_far.progress (record { tells = wrote.told.tells; honest = wrote.told.honest; no_fewer_faults = wrote.told.no_fewer_faults; time = wrote.time })
    c.in_err-write.ensures.trace_err wrote.image wrote.now in
    record {
      done = front.done;
      rest = front.rest;
      in_order = front.in_order;
      complete = λ ok. absurd (not_both c.from_residual.result c.from_residual.ensures.0 ok);
      wrote = front.progress.wrote;
      any_moment = front.progress.any_moment;
      tells = front.progress.tells;
      honest = front.progress.honest;
      ticks = λ err. rose_before (outside c.args.platform.now).clock (outside c.loop-piece.platform).clock (outside c.write.new.self).clock so_far.progress.any_moment.later wrote.told.ticks;
      no_fewer_faults = front.progress.no_fewer_faults;
      cause = λ err. rose_before (outside c.args.platform.now).faults (outside c.loop-piece.platform).faults (outside c.write.new.self).faults so_far.progress.no_fewer_faults (c.in_err-write.ensures.told.cause refl);
    }

pub returns-in_err-write-clause-anchor : goal.returns-in_err-write-clause-anchor
returns-in_err-write-clause-anchor g c t = c.write.ensures.anchor (subst IsTrue (sym c.loop-piece.invariant.progress.tells) t) ∙ c.loop-piece.invariant.anchor t

pub returns-clause-writes : goal.returns-clause-writes
returns-clause-writes g c =
    let so_far = c.loop-piece.invariant.progress in
    let done = placed (take c.loop-piece.piece-index c.args.pieces.now) in
    record {
      done = done;
      rest = [];
      in_order = ap placed (sym (take_all c.loop-piece.piece-index c.args.pieces.now c.loop-piece-test.false)) ∙ sym (append-nil done);
      complete = λ ok. refl;
      wrote = so_far.wrote;
      any_moment = so_far.any_moment;
      tells = so_far.tells;
      honest = so_far.honest;
      ticks = λ err. absurd (false≢true err);
      no_fewer_faults = so_far.no_fewer_faults;
      cause = λ err. absurd (false≢true err);
    }

pub returns-clause-holds : goal.returns-clause-holds
returns-clause-holds g c h =
    subst (λ (l : List _). EachHolds (g.P.Platform.outside c.loop-piece.platform).image (placed l)) (take_all c.loop-piece.piece-index c.args.pieces.now c.loop-piece-test.false) (c.loop-piece.invariant.holds h)

pub returns-clause-anchor : goal.returns-clause-anchor
returns-clause-anchor g c t = c.loop-piece.invariant.anchor t
