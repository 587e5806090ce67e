use Rattle.std.proofs.Common.{◌≡◌, inl, inr, ⊎_elim, ◌∙◌, ◌+◌, [], ◌∷◌, ◌++◌, List, ℕ, IsTrue, sym, ap, subst, append-nil, append_assoc}
use Rattle.std.specs.Prelude.{is_err, is_ok}
use Rattle.tdb_platform.specs.Image.{Holds}
use Rattle.tdb_platform.specs.ImageLaws.{overwritten_holds}
use Rattle.tdb_append.specs.Placed.{Placed, EachHolds, placed}
use Rattle.tdb_append.specs.Put.{writes_of, next_anchor, slot_place}
use Rattle.tdb_append.proofs.Writing.{Progress, all_written, writes_one, writes_none, write_failed, not_both}
use Rattle.tdb_append.proofs.Images.{holds_with_text, in_ring}
use Rattle.tdb_append.proofs.Advancing.{before_advance, after_advance}
use Rattle.tdb_append.proofs.append.put.Goals as goal

pub returns-in_err-write_all-clause-puts : goal.returns-in_err-write_all-clause-puts
returns-in_err-write_all-clause-puts g c =
    let writes = c.write_all.ensures.writes in
    let text = record { place = slot_place (c.args.head.now.count + 1); bytes = c.args.text.now } ∷ [] in
    before_advance g.P.Platform.outside g.P.Platform.crash_states g.met.P.Platform.counts c.args.platform.now c.write_all.new.platform
    (writes_of c.args.head.now c.args.pieces.now c.args.text.now) (next_anchor c.args.head.now c.args.text.now) c.from_residual.result
    (record {
      done = writes.done;
      rest = writes.rest ++ text;
      in_order = ap (λ (l : List Placed). l ++ text) writes.in_order ∙ append_assoc writes.done writes.rest text;
      progress = record { wrote = writes.wrote; any_moment = writes.any_moment; tells = writes.tells; honest = writes.honest; no_fewer_faults = writes.no_fewer_faults };
    })
    (not_both c.from_residual.result c.from_residual.ensures.0)
    c.write_all.ensures.anchor

pub returns-in_err-write-clause-puts : goal.returns-in_err-write-clause-puts
returns-in_err-write-clause-puts g c =
    let outside = g.P.Platform.outside in
    let states = g.P.Platform.crash_states in
    let counts = g.met.P.Platform.counts in
    let old = c.args.platform.now in
    let mid = c.write_all.new.platform in
    let new = c.write.new.self in
    let pieces = placed c.args.pieces.now in
    let all = writes_of c.args.head.now c.args.pieces.now c.args.text.now in
    let wrote = c.write.ensures in
    let text : Placed = record { place = c.slot_of.result.0; bytes = c.args.text.now } in
    let split : all ≡ pieces ++ text ∷ [] = ap (λ (n : ℕ). pieces ++ record { place = n; bytes = c.args.text.now } ∷ []) (sym c.slot_of.ensures.place) in
    let so_far = all_written outside states counts old mid pieces c.write_all.result c.write_all.ensures.writes (ap is_ok c.in_ok-write_all.was) in
    before_advance outside states counts old new all (next_anchor c.args.head.now c.args.text.now) c.from_residual-in_err-write.result
    (write_failed outside states counts old mid new all pieces [] text split (split ∙ sym (append-nil (pieces ++ text ∷ []))) so_far
    (record { tells = wrote.told.tells; honest = wrote.told.honest; no_fewer_faults = wrote.told.no_fewer_faults; time = wrote.time })
    c.in_err-write.ensures.trace_err wrote.image wrote.now)
    (not_both c.from_residual-in_err-write.result c.from_residual-in_err-write.ensures.0)
    (λ t. wrote.anchor (subst IsTrue (sym so_far.tells) t) ∙ c.write_all.ensures.anchor t)

pub returns-in_err-sync-clause-puts : goal.returns-in_err-sync-clause-puts
returns-in_err-sync-clause-puts g c =
    let outside = g.P.Platform.outside in
    let states = g.P.Platform.crash_states in
    let counts = g.met.P.Platform.counts in
    let old = c.args.platform.now in
    let pieces = placed c.args.pieces.now in
    let all = writes_of c.args.head.now c.args.pieces.now c.args.text.now in
    let wrote = c.write.ensures in
    let synced = c.sync.ensures in
    let text : Placed = record { place = c.slot_of.result.0; bytes = c.args.text.now } in
    let split : all ≡ pieces ++ text ∷ [] = ap (λ (n : ℕ). pieces ++ record { place = n; bytes = c.args.text.now } ∷ []) (sym c.slot_of.ensures.place) in
    let first = all_written outside states counts old c.write_all.new.platform pieces c.write_all.result c.write_all.ensures.writes (ap is_ok c.in_ok-write_all.was) in
    let second : Progress outside states old c.write.new.self all = subst (λ (l : List Placed). Progress outside states old c.write.new.self l) (sym split)
    (writes_one outside states counts old c.write_all.new.platform c.write.new.self pieces text first
    (record { tells = wrote.told.tells; honest = wrote.told.honest; no_fewer_faults = wrote.told.no_fewer_faults; time = wrote.time })
    c.in_ok-write.ensures.trace wrote.image wrote.now) in
    before_advance outside states counts old c.sync.new.self all (next_anchor c.args.head.now c.args.text.now) c.from_residual-in_err-sync.result
    (record {
      done = all;
      rest = [];
      in_order = sym (append-nil all);
      progress = writes_none outside states counts old c.write.new.self c.sync.new.self all second
          (record { tells = synced.told.tells; honest = synced.told.honest; no_fewer_faults = synced.told.no_fewer_faults; time = synced.time })
          synced.trace synced.image synced.now;
    })
    (not_both c.from_residual-in_err-sync.result c.from_residual-in_err-sync.ensures.0)
    (λ t. synced.anchor (subst IsTrue (sym second.tells) t) ∙ wrote.anchor (subst IsTrue (sym first.tells) t) ∙ c.write_all.ensures.anchor t)

pub returns-in_err-advance-clause-puts : goal.returns-in_err-advance-clause-puts
returns-in_err-advance-clause-puts g c =
    let outside = g.P.Platform.outside in
    let states = g.P.Platform.crash_states in
    let counts = g.met.P.Platform.counts in
    let old = c.args.platform.now in
    let pieces = placed c.args.pieces.now in
    let all = writes_of c.args.head.now c.args.pieces.now c.args.text.now in
    let next = next_anchor c.args.head.now c.args.text.now in
    let wrote = c.write.ensures in
    let synced = c.sync.ensures in
    let advanced = c.advance.ensures in
    let text : Placed = record { place = c.slot_of.result.0; bytes = c.args.text.now } in
    let split : all ≡ pieces ++ text ∷ [] = ap (λ (n : ℕ). pieces ++ record { place = n; bytes = c.args.text.now } ∷ []) (sym c.slot_of.ensures.place) in
    let first = all_written outside states counts old c.write_all.new.platform pieces c.write_all.result c.write_all.ensures.writes (ap is_ok c.in_ok-write_all.was) in
    let second : Progress outside states old c.write.new.self all = subst (λ (l : List Placed). Progress outside states old c.write.new.self l) (sym split)
    (writes_one outside states counts old c.write_all.new.platform c.write.new.self pieces text first
    (record { tells = wrote.told.tells; honest = wrote.told.honest; no_fewer_faults = wrote.told.no_fewer_faults; time = wrote.time })
    c.in_ok-write.ensures.trace wrote.image wrote.now) in
    let third = writes_none outside states counts old c.write.new.self c.sync.new.self all second
    (record { tells = synced.told.tells; honest = synced.told.honest; no_fewer_faults = synced.told.no_fewer_faults; time = synced.time })
    synced.trace synced.image synced.now in
    let holds : IsTrue (outside old).honest → EachHolds (outside c.sync.new.self).image all = λ h.
    let at_pieces : IsTrue (outside c.write_all.new.platform).honest = subst IsTrue (sym first.honest) h in
    let stands : Holds (outside c.write.new.self).image text.place text.bytes =
    subst (λ (i : List ℕ). Holds i text.place text.bytes) (sym (c.in_ok-write.ensures.written at_pieces)) (overwritten_holds (outside c.write_all.new.platform).image text.place text.bytes) in
    subst (λ (i : List ℕ). EachHolds i all) (sym (synced.image (subst IsTrue (sym second.honest) h)))
    (subst (λ (l : List Placed). EachHolds (outside c.write.new.self).image l) (sym split)
    (holds_with_text pieces text (outside c.write_all.new.platform).image (outside c.write.new.self).image c.requires.in_segments
    (in_ring c.args.head.now.count text c.slot_of.ensures.place c.told-text) (c.in_ok-write_all.ensures.holds h) (wrote.image at_pieces) stands)) in
    let same : IsTrue (outside old).tells → (outside c.sync.new.self).anchor ≡ (outside old).anchor = λ t.
    synced.anchor (subst IsTrue (sym second.tells) t) ∙ wrote.anchor (subst IsTrue (sym first.tells) t) ∙ c.write_all.ensures.anchor t in
    let next_is : (c.args.head.now.count + 1, c.digest.result) ≡ next = ap (λ (m : List ℕ). (c.args.head.now.count + 1, m)) c.digest.ensures in
    after_advance outside states counts old c.sync.new.self c.advance.new.self all next c.from_residual-in_err-advance.result
    third (record { tells = advanced.told.tells; honest = advanced.told.honest; no_fewer_faults = advanced.told.no_fewer_faults; time = advanced.time })
    advanced.trace advanced.image
    (λ t. ⊎_elim (λ unchanged. inl (unchanged ∙ same t)) (λ is. inr (is ∙ next_is)) (c.in_err-advance.ensures.either (subst IsTrue (sym third.tells) t)))
    (λ h i a left. subst (λ (x : List ℕ). EachHolds x all) (sym (c.in_ok-sync.ensures.durable (subst IsTrue (sym second.honest) h) i a left)) (holds h))
    (λ i a left.
    let was = advanced.now i a left in
    (was.0, was.1, ⊎_elim (λ unchanged. inl unchanged) (λ is. inr (is ∙ next_is)) was.2))

pub returns-clause-puts : goal.returns-clause-puts
returns-clause-puts g c =
    let outside = g.P.Platform.outside in
    let states = g.P.Platform.crash_states in
    let counts = g.met.P.Platform.counts in
    let old = c.args.platform.now in
    let pieces = placed c.args.pieces.now in
    let all = writes_of c.args.head.now c.args.pieces.now c.args.text.now in
    let next = next_anchor c.args.head.now c.args.text.now in
    let wrote = c.write.ensures in
    let synced = c.sync.ensures in
    let advanced = c.advance.ensures in
    let text : Placed = record { place = c.slot_of.result.0; bytes = c.args.text.now } in
    let split : all ≡ pieces ++ text ∷ [] = ap (λ (n : ℕ). pieces ++ record { place = n; bytes = c.args.text.now } ∷ []) (sym c.slot_of.ensures.place) in
    let first = all_written outside states counts old c.write_all.new.platform pieces c.write_all.result c.write_all.ensures.writes (ap is_ok c.in_ok-write_all.was) in
    let second : Progress outside states old c.write.new.self all = subst (λ (l : List Placed). Progress outside states old c.write.new.self l) (sym split)
    (writes_one outside states counts old c.write_all.new.platform c.write.new.self pieces text first
    (record { tells = wrote.told.tells; honest = wrote.told.honest; no_fewer_faults = wrote.told.no_fewer_faults; time = wrote.time })
    c.in_ok-write.ensures.trace wrote.image wrote.now) in
    let third = writes_none outside states counts old c.write.new.self c.sync.new.self all second
    (record { tells = synced.told.tells; honest = synced.told.honest; no_fewer_faults = synced.told.no_fewer_faults; time = synced.time })
    synced.trace synced.image synced.now in
    let holds : IsTrue (outside old).honest → EachHolds (outside c.sync.new.self).image all = λ h.
    let at_pieces : IsTrue (outside c.write_all.new.platform).honest = subst IsTrue (sym first.honest) h in
    let stands : Holds (outside c.write.new.self).image text.place text.bytes =
    subst (λ (i : List ℕ). Holds i text.place text.bytes) (sym (c.in_ok-write.ensures.written at_pieces)) (overwritten_holds (outside c.write_all.new.platform).image text.place text.bytes) in
    subst (λ (i : List ℕ). EachHolds i all) (sym (synced.image (subst IsTrue (sym second.honest) h)))
    (subst (λ (l : List Placed). EachHolds (outside c.write.new.self).image l) (sym split)
    (holds_with_text pieces text (outside c.write_all.new.platform).image (outside c.write.new.self).image c.requires.in_segments
    (in_ring c.args.head.now.count text c.slot_of.ensures.place c.told-text) (c.in_ok-write_all.ensures.holds h) (wrote.image at_pieces) stands)) in
    let same : IsTrue (outside old).tells → (outside c.sync.new.self).anchor ≡ (outside old).anchor = λ t.
    synced.anchor (subst IsTrue (sym second.tells) t) ∙ wrote.anchor (subst IsTrue (sym first.tells) t) ∙ c.write_all.ensures.anchor t in
    let next_is : (c.args.head.now.count + 1, c.digest.result) ≡ next = ap (λ (m : List ℕ). (c.args.head.now.count + 1, m)) c.digest.ensures in
    after_advance outside states counts old c.sync.new.self c.advance.new.self all next _
    third (record { tells = advanced.told.tells; honest = advanced.told.honest; no_fewer_faults = advanced.told.no_fewer_faults; time = advanced.time })
    advanced.trace advanced.image
    (λ t. inr (c.in_ok-advance.ensures.advanced (subst IsTrue (sym third.tells) t) ∙ next_is))
    (λ h i a left. subst (λ (x : List ℕ). EachHolds x all) (sym (c.in_ok-sync.ensures.durable (subst IsTrue (sym second.honest) h) i a left)) (holds h))
    (λ i a left.
    let was = advanced.now i a left in
    (was.0, was.1, ⊎_elim (λ unchanged. inl unchanged) (λ is. inr (is ∙ next_is)) was.2))

pub returns-clause-holds : goal.returns-clause-holds
returns-clause-holds g c h =
    let outside = g.P.Platform.outside in
    let states = g.P.Platform.crash_states in
    let counts = g.met.P.Platform.counts in
    let old = c.args.platform.now in
    let pieces = placed c.args.pieces.now in
    let all = writes_of c.args.head.now c.args.pieces.now c.args.text.now in
    let wrote = c.write.ensures in
    let synced = c.sync.ensures in
    let advanced = c.advance.ensures in
    let text : Placed = record { place = c.slot_of.result.0; bytes = c.args.text.now } in
    let split : all ≡ pieces ++ text ∷ [] = ap (λ (n : ℕ). pieces ++ record { place = n; bytes = c.args.text.now } ∷ []) (sym c.slot_of.ensures.place) in
    let first = all_written outside states counts old c.write_all.new.platform pieces c.write_all.result c.write_all.ensures.writes (ap is_ok c.in_ok-write_all.was) in
    let second : Progress outside states old c.write.new.self all = subst (λ (l : List Placed). Progress outside states old c.write.new.self l) (sym split)
    (writes_one outside states counts old c.write_all.new.platform c.write.new.self pieces text first
    (record { tells = wrote.told.tells; honest = wrote.told.honest; no_fewer_faults = wrote.told.no_fewer_faults; time = wrote.time })
    c.in_ok-write.ensures.trace wrote.image wrote.now) in
    let third = writes_none outside states counts old c.write.new.self c.sync.new.self all second
    (record { tells = synced.told.tells; honest = synced.told.honest; no_fewer_faults = synced.told.no_fewer_faults; time = synced.time })
    synced.trace synced.image synced.now in
    let holds : IsTrue (outside old).honest → EachHolds (outside c.sync.new.self).image all = λ h.
    let at_pieces : IsTrue (outside c.write_all.new.platform).honest = subst IsTrue (sym first.honest) h in
    let stands : Holds (outside c.write.new.self).image text.place text.bytes =
    subst (λ (i : List ℕ). Holds i text.place text.bytes) (sym (c.in_ok-write.ensures.written at_pieces)) (overwritten_holds (outside c.write_all.new.platform).image text.place text.bytes) in
    subst (λ (i : List ℕ). EachHolds i all) (sym (synced.image (subst IsTrue (sym second.honest) h)))
    (subst (λ (l : List Placed). EachHolds (outside c.write.new.self).image l) (sym split)
    (holds_with_text pieces text (outside c.write_all.new.platform).image (outside c.write.new.self).image c.requires.in_segments
    (in_ring c.args.head.now.count text c.slot_of.ensures.place c.told-text) (c.in_ok-write_all.ensures.holds h) (wrote.image at_pieces) stands)) in
    subst (λ (i : List ℕ). EachHolds i all) (sym (advanced.image (subst IsTrue (sym third.honest) h))) (holds h)

pub returns-in_err-write_all-clause-told : goal.returns-in_err-write_all-clause-told
returns-in_err-write_all-clause-told g c =
    let writes = c.write_all.ensures.writes in
    let failed = ap is_err c.in_err-write_all.was in
    record { tells = writes.tells; honest = writes.honest; ticks = writes.ticks failed; no_fewer_faults = writes.no_fewer_faults; cause = λ err. writes.cause failed }
