use Rattle.std.proofs.Common.{◌∙◌, ◌+◌, ◌∷◌, [], List, arith, ap, length, subst, sym, reverse}
use Rattle.std.proofs.lemmas.List.{length-append}
use Rattle.tdb_mark.specs.declared.commit.Commit.{Commit}
use Rattle.tdb_overlay.specs.Required.{IsOpeningPiece}
use Rattle.tdb_overlay.proofs.ReadingLaws.{reads_then}
use Rattle.std.specs.List.{AllByRecursion}
use Rattle.tdb_recover.specs.Chain.{EndsWith, IsBehind}
use Rattle.tdb_recover.specs.Explained.{IsCaused, IsExplained}
use Rattle.tdb_recover.specs.Reads.{ReadsOnly}
use Rattle.tdb_recover.proofs.Answering.{if_err_and}
use Rattle.tdb_recover.proofs.Behind.{behind_pushed, reverse_push}
use Rattle.tdb_recover.proofs.Composing.{caused_later, explained_then, given_before, given_then, tells_then, written_then, written_back}
use Rattle.tdb_recover.proofs.Counted.{most_as, most_then}
use Rattle.tdb_recover.proofs.Ends.{base_not_later}
use Rattle.tdb_recover.proofs.FirstRead.{first_longer}
use Rattle.tdb_recover.proofs.Only.{only_then}
use Rattle.tdb_recover.proofs.Showing.{explained_as}
use Rattle.tdb_recover.proofs.texts.read_chain.Goals as goal

pub loop-text-init : goal.loop-text-init
loop-text-init g c = record {
  reads = c.read_newest.ensures.reads;
  format = c.in_ok-text.ensures.format;
  counts = let h = c.in_ok-text.ensures.counts in (omega (arith, h.0), omega (arith, h.1));
  commits = subst (λ (l : List Commit). AllByRecursion (IsBehind c.in_ok-text.text) (reverse l)) (sym c.new-commits.ensures.items) tt;
  accepted = c.in_ok-text.ensures.accepted;
  ends = λ t log given at. subst (λ (l : List Commit). EndsWith (g.P.Platform.outside c.args.platform.now).trace.written c.args.keys.now log.chain c.in_ok-text.text (reverse l)) (sym c.new-commits.ensures.items) (c.in_ok-text.ensures.ends t log given at);
  quiet = c.in_ok-text.ensures.quiet (λ same. cc same);
  only = c.in_ok-text.ensures.only;
  many = omega (arith, ap length c.new-commits.ensures.items, c.in_ok-text.ensures.counts.0);
  most = most_as 1 (length c.new-commits.result.items + 1) (g.P.Platform.outside c.args.platform.now)
      (g.P.Platform.outside c.read_newest.new.platform) (omega arith) c.read_newest.ensures.most;
}

pub returns-in_err-text-clause-most : goal.returns-in_err-text-clause-most
returns-in_err-text-clause-most g c =
    most_as 1 1001 (g.P.Platform.outside c.args.platform.now) (g.P.Platform.outside c.read_newest.new.platform) (omega arith)
    c.read_newest.ensures.most

pub read_before-requires-clause-format : goal.read_before-requires-clause-format
read_before-requires-clause-format g c = c.loop-text.invariant.format

pub returns-in_err-earlier-clause-reads : goal.returns-in_err-earlier-clause-reads
returns-in_err-earlier-clause-reads g c =
    reads_then g.P.Platform.outside g.P.Platform.crash_states g.met.P.Platform.counts c.args.platform.now c.loop-text.platform c.read_before.new.platform c.loop-text.invariant.reads c.read_before.ensures.reads

pub returns-in_err-earlier-clause-caused : goal.returns-in_err-earlier-clause-caused
returns-in_err-earlier-clause-caused g c =
    let outside = g.P.Platform.outside in
    if_err_and c.from_residual-in_err-earlier.result _ _ c.from_residual-in_err-earlier.ensures.1
    (λ e is.
    subst (IsCaused (outside c.args.platform.now) (outside c.read_before.new.platform)) (sym is)
    (caused_later (outside c.args.platform.now) (outside c.loop-text.platform) (outside c.read_before.new.platform) c.in_err-earlier.field-0.0 c.loop-text.invariant.reads.faults c.in_err-earlier.ensures.caused))

pub returns-in_err-earlier-clause-explained : goal.returns-in_err-earlier-clause-explained
returns-in_err-earlier-clause-explained g c =
    let outside = g.P.Platform.outside in
    let states = g.P.Platform.crash_states in
    let old = c.args.platform.now in
    let mid = c.loop-text.platform in
    let new = c.read_before.new.platform in
    let first = c.loop-text.invariant.reads in
    let keys = c.args.keys.now in
    let later = reverse c.loop-text.commits.items in
    if_err_and c.from_residual-in_err-earlier.result _ _ c.from_residual-in_err-earlier.ensures.1
    (λ e is t log given at.
    let then = tells_then outside states old mid first t in
    let before = given_before (outside old).trace.written (outside mid).trace (outside new).trace keys log (g.met.P.Platform.numbered mid then) (c.read_before.ensures.reads.grows then) given in
    let ends = c.loop-text.invariant.ends t log before at in
    subst (IsExplained (outside old) (outside new) (IsOpeningPiece (outside old).trace.written log.store log.anchor)) (sym is)
    (explained_as (outside old) (outside new) (IsOpeningPiece (outside mid).trace.written log.store log.anchor) (IsOpeningPiece (outside old).trace.written log.store log.anchor) c.in_err-earlier.field-0.0
    (λ piece needed. written_back outside states old mid first t (λ ws. IsOpeningPiece ws log.store log.anchor piece) needed)
    (explained_then outside states old mid first t new (IsOpeningPiece (outside mid).trace.written log.store log.anchor) c.in_err-earlier.field-0.0
    (c.in_err-earlier.ensures.explained then log (given_then outside states old mid first t (outside new).trace keys log given) later
    (written_then outside states old mid first t (λ ws. EndsWith ws keys log.chain c.loop-text.text later) ends)))))

pub returns-in_err-push-clause-reads : goal.returns-in_err-push-clause-reads
returns-in_err-push-clause-reads g c =
    reads_then g.P.Platform.outside g.P.Platform.crash_states g.met.P.Platform.counts c.args.platform.now c.loop-text.platform c.read_before.new.platform c.loop-text.invariant.reads c.read_before.ensures.reads

pub loop-text-preserved : goal.loop-text-preserved
loop-text-preserved g c =
    let outside = g.P.Platform.outside in
    let states = g.P.Platform.crash_states in
    let old = c.args.platform.now in
    let mid = c.loop-text.platform in
    let new = c.read_before.new.platform in
    let so_far = c.loop-text.invariant in
    let first = so_far.reads in
    let keys = c.args.keys.now in
    let earlier = c.in_ok-earlier.earlier in
    let text = c.loop-text.text in
    let commits = c.loop-text.commits.items in
    let behind = c.in_ok-earlier.ensures.behind in
    record {
      reads = reads_then outside states g.met.P.Platform.counts old mid new first c.read_before.ensures.reads;
      format = c.in_ok-earlier.ensures.format;
      counts = (omega (arith, so_far.counts.0, behind.later), omega (arith, so_far.counts.1, behind.base));
      commits = subst (λ (l : List Commit). AllByRecursion (IsBehind earlier) (reverse l)) (sym c.in_ok-push.ensures.items) (behind_pushed earlier text commits behind so_far.commits);
      accepted = λ t. first_longer keys (c.args.count, c.args.mark.now.0) (outside old) (outside mid) (outside new) (so_far.accepted t)
          (c.read_before.ensures.reads.grows (tells_then outside states old mid first t));
      ends = λ t log given at.
          let then = tells_then outside states old mid first t in
          let before = given_before (outside old).trace.written (outside mid).trace (outside new).trace keys log (g.met.P.Platform.numbered mid then) (c.read_before.ensures.reads.grows then) given in
          let ends = so_far.ends t log before at in
          let next = c.in_ok-earlier.ensures.ends then log (given_then outside states old mid first t (outside new).trace keys log given) (reverse commits)
          (written_then outside states old mid first t (λ ws. EndsWith ws keys log.chain text (reverse commits)) ends) in
          let here : EndsWith (outside old).trace.written keys log.chain earlier (text ∷ reverse commits) = written_back outside states old mid first t (λ ws. EndsWith ws keys log.chain earlier (text ∷ reverse commits)) next in
          subst (λ (l : List Commit). EndsWith (outside old).trace.written keys log.chain earlier l) (sym (ap (λ (l : List Commit). reverse l) c.in_ok-push.ensures.items ∙ reverse_push commits text)) here;
      quiet = c.in_ok-earlier.ensures.quiet (λ same. cc same) ∙ so_far.quiet;
      only = λ t log given at.
          let then = tells_then outside states old mid first t in
          let before = given_before (outside old).trace.written (outside mid).trace (outside new).trace keys log (g.met.P.Platform.numbered mid then) (c.read_before.ensures.reads.grows then) given in
          let ends = so_far.ends t log before at in
          only_then (outside old) (outside mid) (outside new) (IsOpeningPiece (outside old).trace.written log.store log.anchor) (so_far.only t log before at)
          (written_back outside states old mid first t (λ ws. ReadsOnly (IsOpeningPiece ws log.store log.anchor) (outside mid) (outside new))
          (c.in_ok-earlier.ensures.only then log (given_then outside states old mid first t (outside new).trace keys log given) (reverse commits)
          (written_then outside states old mid first t (λ ws. EndsWith ws keys log.chain text (reverse commits)) ends)));
      many = omega
          (arith, ap length c.in_ok-push.ensures.items, length-append commits (text ∷ []), so_far.many, c.in_ok-earlier.ensures.counts);
      most = most_then outside states (length commits + 1) 1 (length c.push.new.self.items + 1) old mid new
          (omega (arith, ap length c.in_ok-push.ensures.items, length-append commits (text ∷ []))) first c.read_before.ensures.reads
          so_far.most c.read_before.ensures.most;
    }

pub returns-clause-reads : goal.returns-clause-reads
returns-clause-reads g c = c.loop-text.invariant.reads

pub returns-clause-format : goal.returns-clause-format
returns-clause-format g c = c.loop-text.invariant.format

pub returns-clause-base : goal.returns-clause-base
returns-clause-base g c =
    let least = base_not_later c.loop-text.text c.loop-text.invariant.format in
    omega (arith, least, c.loop-text-test.false)

pub returns-clause-counts : goal.returns-clause-counts
returns-clause-counts g c =
    let least = base_not_later c.loop-text.text c.loop-text.invariant.format in
    (omega (arith, c.loop-text.invariant.counts.0), omega (arith, c.loop-text.invariant.counts.1, least))

pub returns-clause-commits : goal.returns-clause-commits
returns-clause-commits g c = c.loop-text.invariant.commits

pub returns-clause-ends : goal.returns-clause-ends
returns-clause-ends g c = c.loop-text.invariant.ends

pub returns-clause-only : goal.returns-clause-only
returns-clause-only g c = c.loop-text.invariant.only

pub returns-in_err-earlier-clause-most : goal.returns-in_err-earlier-clause-most
returns-in_err-earlier-clause-most g c =
    let so_far = c.loop-text.invariant in
    most_then g.P.Platform.outside g.P.Platform.crash_states (length c.loop-text.commits.items + 1) 1 1001 c.args.platform.now
    c.loop-text.platform c.read_before.new.platform (omega (arith, so_far.many, so_far.counts.1, c.loop-text-test.true)) so_far.reads
    c.read_before.ensures.reads
    so_far.most c.read_before.ensures.most

pub returns-in_err-push-clause-most : goal.returns-in_err-push-clause-most
returns-in_err-push-clause-most g c =
    let so_far = c.loop-text.invariant in
    most_then g.P.Platform.outside g.P.Platform.crash_states (length c.loop-text.commits.items + 1) 1 1001 c.args.platform.now
    c.loop-text.platform c.read_before.new.platform (omega (arith, so_far.many, so_far.counts.1, c.loop-text-test.true)) so_far.reads
    c.read_before.ensures.reads
    so_far.most c.read_before.ensures.most

pub returns-clause-many : goal.returns-clause-many
returns-clause-many g c = c.loop-text.invariant.many

pub returns-clause-most : goal.returns-clause-most
returns-clause-most g c =
    let so_far = c.loop-text.invariant in
    let least = base_not_later c.loop-text.text so_far.format in
    most_as (length c.loop-text.commits.items + 1) 1001 (g.P.Platform.outside c.args.platform.now)
    (g.P.Platform.outside c.loop-text.platform) (omega (arith, so_far.many, so_far.counts.1, least)) so_far.most

pub returns-clause-most_ok : goal.returns-clause-most_ok
returns-clause-most_ok g c = c.loop-text.invariant.most

pub returns-clause-accepted : goal.returns-clause-accepted
returns-clause-accepted g c = c.loop-text.invariant.accepted
