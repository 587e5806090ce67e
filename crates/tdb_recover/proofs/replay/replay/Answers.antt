use Rattle.std.proofs.Common.{◌≡◌, ◌∙◌, ◌-◌, ◌∷◌, ◌++◌, [], List, arith, ap, length, subst, sym, refl, reverse, append_assoc}
use Rattle.std.specs.List.{AllByRecursion}
use Rattle.std.proofs.lemmas.List.{length-append, nil_from_length}
use Rattle.tdb_mark.specs.declared.commit.Commit.{Commit}
use Rattle.tdb_overlay.specs.Needed.{needed}
use Rattle.tdb_overlay.specs.Required.{IsOpeningPiece}
use Rattle.tdb_overlay.proofs.ReadingLaws.{reads_nothing, reads_then}
use Rattle.tdb_recover.specs.Chain.{IsBehind}
use Rattle.tdb_recover.specs.Explained.{IsCaused, IsExplained}
use Rattle.tdb_recover.specs.Replay.{IsCommitIn, IsReplayOf, IsRest}
use Rattle.tdb_recover.proofs.Answering.{if_err_and}
use Rattle.tdb_recover.proofs.Behind.{reverse_push}
use Rattle.tdb_recover.proofs.Composing.{caused_later, explained_then, given_before, tells_then, written_then, written_back}
use Rattle.tdb_recover.proofs.Counted.{most_as, most_none, most_then}
use Rattle.tdb_recover.proofs.Only.{only_as, only_none, only_then}
use Rattle.tdb_recover.proofs.Rest.{list_opening, next_commit, rest_ends, rest_goes}
use Rattle.tdb_recover.proofs.Showing.{explained_as}
use Rattle.tdb_recover.proofs.replay.replay.Goals as goal

pub loop-text-init : goal.loop-text-init
loop-text-init g c = record {
  reads = reads_nothing g.P.Platform.outside g.P.Platform.crash_states g.met.P.Platform.counts c.args.platform.now;
  head = refl;
  suite = refl;
  done = ([], refl);
  behind = c.requires.commits;
  rest = λ t whole given rest ends. rest;
  quiet = refl;
  only = λ t whole given rest ends.
      let old = g.P.Platform.outside c.args.platform.now in
      only_none old old (IsOpeningPiece old.trace.written whole.store whole.anchor) refl;
  left = omega arith;
  most = most_none (length c.args.chain.commits.items - length c.args.chain.commits.items) (g.P.Platform.outside c.args.platform.now)
      (g.P.Platform.outside c.args.platform.now) (λ t. refl);
}

pub loop-text-smaller : goal.loop-text-smaller
loop-text-smaller g c = omega (arith, c.in-Some.ensures.len)

pub replay_list-requires : goal.replay_list-requires
replay_list-requires g c =
    let left = c.pop.new.self.items in
    let base = c.args.chain.base in
    let popped : reverse c.loop-text.commits.items ≡ c.in-Some.text ∷ reverse left = ap (λ (l : List Commit). reverse l) c.in-Some.ensures.items ∙ reverse_push left c.in-Some.text in
    let behind : AllByRecursion (IsBehind base) (c.in-Some.text ∷ reverse left) = subst (AllByRecursion (IsBehind base)) popped c.loop-text.invariant.behind in
    omega (arith, behind.0.later)

pub loop-text-preserved : goal.loop-text-preserved
loop-text-preserved g c =
    let outside = g.P.Platform.outside in
    let states = g.P.Platform.crash_states in
    let old = c.args.platform.now in
    let mid = c.loop-text.platform in
    let new = c.replay_list.new.platform in
    let so_far = c.loop-text.invariant in
    let first = so_far.reads in
    let keys = c.args.keys.now in
    let text = c.in-Some.text in
    let left = c.pop.new.self.items in
    let base = c.args.chain.base in
    let popped : reverse c.loop-text.commits.items ≡ text ∷ reverse left = ap (λ (l : List Commit). reverse l) c.in-Some.ensures.items ∙ reverse_push left text in
    let behind : AllByRecursion (IsBehind base) (text ∷ reverse left) = subst (AllByRecursion (IsBehind base)) popped so_far.behind in
    record {
      reads = reads_then outside states g.met.P.Platform.counts old mid new first c.replay_list.ensures.reads;
      head = c.in_ok-replay_list.ensures.head ∙ so_far.head;
      suite = c.in_ok-replay_list.ensures.suite ∙ so_far.suite;
      done = (so_far.done.0 ++ text ∷ [], so_far.done.1 ∙ ap (λ (l : List Commit). so_far.done.0 ++ l) popped ∙ sym (append_assoc so_far.done.0 (text ∷ []) (reverse left)));
      behind = behind.1;
      rest = λ t whole given rest ends.
          let then = tells_then outside states old mid first t in
          let before = given_before (outside old).trace.written (outside mid).trace (outside new).trace keys whole (g.met.P.Platform.numbered mid then) (c.replay_list.ensures.reads.grows then) given in
          let here : IsRest (outside old).trace.written whole (text ∷ reverse left) c.loop-text.log =
          subst (λ (l : List Commit). IsRest (outside old).trace.written whole l c.loop-text.log) popped (so_far.rest t whole before rest ends) in
          let next = next_commit (outside old).trace.written (outside new).trace keys whole given base text so_far.done.0 (reverse left) (reverse c.args.chain.commits.items) c.loop-text.log ends (so_far.done.1 ∙ ap (λ (l : List Commit). so_far.done.0 ++ l) popped) behind.0 here in
          let kept = c.in_ok-replay_list.ensures.replayed then whole.store whole.anchor here.state next.changes next.after
          (written_then outside states old mid first t (λ ws. IsCommitIn ws (outside new).trace keys whole.store whole.anchor here.state text next.changes next.after) next.commit)
          (written_then outside states old mid first t (λ ws. IsReplayOf (needed ws whole.store whole.anchor) whole.store c.loop-text.log here.state) here.kept) in
          rest_goes (outside old).trace.written (outside new).trace keys whole given text (reverse left) here.state c.replay_list.new.log next
          (written_back outside states old mid first t (λ ws. IsReplayOf (needed ws whole.store whole.anchor) whole.store c.replay_list.new.log next.after) kept);
      quiet = c.in_ok-replay_list.ensures.quiet (λ same. cc same) ∙ so_far.quiet;
      only = λ t whole given rest ends.
          let then = tells_then outside states old mid first t in
          let before = given_before (outside old).trace.written (outside mid).trace (outside new).trace keys whole (g.met.P.Platform.numbered mid then) (c.replay_list.ensures.reads.grows then) given in
          only_then (outside old) (outside mid) (outside new) (IsOpeningPiece (outside old).trace.written whole.store whole.anchor) (so_far.only t whole before rest ends)
          (only_as (outside mid) (outside new) (λ p. p ≡ text.first) (IsOpeningPiece (outside old).trace.written whole.store whole.anchor)
          (λ piece same.
          list_opening (outside old).trace.written (outside new).trace keys whole given base text so_far.done.0 (reverse left) (reverse c.args.chain.commits.items) piece ends
          (so_far.done.1 ∙ ap (λ (l : List Commit). so_far.done.0 ++ l) popped) behind.0 same)
          (c.in_ok-replay_list.ensures.only then));
      left = omega (arith, so_far.left, ap length c.in-Some.ensures.items, length-append left (text ∷ []));
      most =
          let all = length c.args.chain.commits.items in
          most_then outside states (all - length c.loop-text.commits.items) 1 (all - length left) old mid new
          (omega (arith, so_far.left, ap length c.in-Some.ensures.items, length-append left (text ∷ []))) first c.replay_list.ensures.reads
          so_far.most c.replay_list.ensures.most;
    }

pub returns-in_err-replay_list-clause-reads : goal.returns-in_err-replay_list-clause-reads
returns-in_err-replay_list-clause-reads g c =
    reads_then g.P.Platform.outside g.P.Platform.crash_states g.met.P.Platform.counts c.args.platform.now c.loop-text.platform c.replay_list.new.platform c.loop-text.invariant.reads c.replay_list.ensures.reads

pub returns-in_err-replay_list-clause-caused : goal.returns-in_err-replay_list-clause-caused
returns-in_err-replay_list-clause-caused g c =
    let outside = g.P.Platform.outside in
    if_err_and c.from_residual.result _ _ c.from_residual.ensures.1
    (λ e is.
    subst (IsCaused (outside c.args.platform.now) (outside c.replay_list.new.platform)) (sym is)
    (caused_later (outside c.args.platform.now) (outside c.loop-text.platform) (outside c.replay_list.new.platform) c.in_err-replay_list.field-0.0 c.loop-text.invariant.reads.faults c.in_err-replay_list.ensures.caused))

pub returns-in_err-replay_list-clause-explained : goal.returns-in_err-replay_list-clause-explained
returns-in_err-replay_list-clause-explained g c =
    let outside = g.P.Platform.outside in
    let states = g.P.Platform.crash_states in
    let old = c.args.platform.now in
    let mid = c.loop-text.platform in
    let new = c.replay_list.new.platform in
    let so_far = c.loop-text.invariant in
    let first = so_far.reads in
    let keys = c.args.keys.now in
    let text = c.in-Some.text in
    let left = c.pop.new.self.items in
    let base = c.args.chain.base in
    let popped : reverse c.loop-text.commits.items ≡ text ∷ reverse left = ap (λ (l : List Commit). reverse l) c.in-Some.ensures.items ∙ reverse_push left text in
    let behind : AllByRecursion (IsBehind base) (text ∷ reverse left) = subst (AllByRecursion (IsBehind base)) popped so_far.behind in
    if_err_and c.from_residual.result _ _ c.from_residual.ensures.1
    (λ e is t whole given rest ends.
    let then = tells_then outside states old mid first t in
    let before = given_before (outside old).trace.written (outside mid).trace (outside new).trace keys whole (g.met.P.Platform.numbered mid then) (c.replay_list.ensures.reads.grows then) given in
    let here : IsRest (outside old).trace.written whole (text ∷ reverse left) c.loop-text.log =
    subst (λ (l : List Commit). IsRest (outside old).trace.written whole l c.loop-text.log) popped (so_far.rest t whole before rest ends) in
    let next = next_commit (outside old).trace.written (outside new).trace keys whole given base text so_far.done.0 (reverse left) (reverse c.args.chain.commits.items) c.loop-text.log ends (so_far.done.1 ∙ ap (λ (l : List Commit). so_far.done.0 ++ l) popped) behind.0 here in
    subst (IsExplained (outside old) (outside new) (IsOpeningPiece (outside old).trace.written whole.store whole.anchor)) (sym is)
    (explained_as (outside old) (outside new) (λ p. p ≡ text.first) (IsOpeningPiece (outside old).trace.written whole.store whole.anchor) c.in_err-replay_list.field-0.0
    (λ piece same.
    list_opening (outside old).trace.written (outside new).trace keys whole given base text so_far.done.0 (reverse left) (reverse c.args.chain.commits.items) piece ends
    (so_far.done.1 ∙ ap (λ (l : List Commit). so_far.done.0 ++ l) popped) behind.0 same)
    (explained_then outside states old mid first t new (λ p. p ≡ text.first) c.in_err-replay_list.field-0.0
    (c.in_err-replay_list.ensures.explained then whole.store whole.anchor here.state next.changes next.after
    (written_then outside states old mid first t (λ ws. IsCommitIn ws (outside new).trace keys whole.store whole.anchor here.state text next.changes next.after) next.commit)
    (written_then outside states old mid first t (λ ws. IsReplayOf (needed ws whole.store whole.anchor) whole.store c.loop-text.log here.state) here.kept)))))

pub returns-clause-reads : goal.returns-clause-reads
returns-clause-reads g c = c.loop-text.invariant.reads

pub returns-clause-head : goal.returns-clause-head
returns-clause-head g c = c.loop-text.invariant.head

pub returns-clause-suite : goal.returns-clause-suite
returns-clause-suite g c = c.loop-text.invariant.suite

pub returns-clause-replayed : goal.returns-clause-replayed
returns-clause-replayed g c t whole given rest ends =
    let old = g.P.Platform.outside c.args.platform.now in
    let new = g.P.Platform.outside c.loop-text.platform in
    let none : c.loop-text.commits.items ≡ [] = nil_from_length c.loop-text.commits.items (sym c.loop-text.commits.ok.0 ∙ c.in_default.ensures.cases.0) in
    rest_ends old.trace.written new.trace c.args.keys.now whole given c.loop-text.log
    (subst (λ (l : List Commit). IsRest old.trace.written whole (reverse l) c.loop-text.log) none (c.loop-text.invariant.rest t whole given rest ends))

pub returns-clause-only : goal.returns-clause-only
returns-clause-only g c = c.loop-text.invariant.only

pub returns-in_err-replay_list-clause-most : goal.returns-in_err-replay_list-clause-most
returns-in_err-replay_list-clause-most g c =
    let so_far = c.loop-text.invariant in
    let left = c.pop.new.self.items in
    let all = length c.args.chain.commits.items in
    most_then g.P.Platform.outside g.P.Platform.crash_states (all - length c.loop-text.commits.items) 1 all c.args.platform.now
    c.loop-text.platform c.replay_list.new.platform
    (omega (arith, so_far.left, ap length c.in-Some.ensures.items, length-append left (c.in-Some.text ∷ []))) so_far.reads
    c.replay_list.ensures.reads so_far.most c.replay_list.ensures.most

pub returns-clause-most : goal.returns-clause-most
returns-clause-most g c =
    let all = length c.args.chain.commits.items in
    most_as (all - length c.loop-text.commits.items) all (g.P.Platform.outside c.args.platform.now)
    (g.P.Platform.outside c.loop-text.platform) (omega arith) c.loop-text.invariant.most
