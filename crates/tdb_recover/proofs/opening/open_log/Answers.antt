use Rattle.std.proofs.Common.{◌≡◌, ◌+◌, ◌-◌, ◌*◌, ap, arith, length, refl, subst, sym, reverse}
use Rattle.tdb_append.specs.declared.head.Head.{Head}
use Rattle.tdb_overlay.specs.CheckpointState.{IsOfRoster}
use Rattle.tdb_overlay.specs.Found.{in_trace, store_of_text}
use Rattle.tdb_overlay.specs.declared.recovered.Recovered.{Recovered}
use Rattle.tdb_overlay.specs.Needed.{needed}
use Rattle.tdb_overlay.specs.Required.{IsOpeningPiece}
use Rattle.tdb_overlay.proofs.ReadingLaws.{reads_then}
use Rattle.tdb_base.proofs.Tracing.{extends_itself}
use Rattle.tdb_recover.specs.Chain.{EndsWith}
use Rattle.tdb_recover.specs.Explained.{IsExplained}
use Rattle.tdb_recover.specs.Reads.{ReadsOnly}
use Rattle.tdb_recover.specs.Records.{IsTableIn}
use Rattle.tdb_recover.specs.Replay.{IsReplayOf}
use Rattle.tdb_recover.proofs.Answering.{if_err_and}
use Rattle.tdb_recover.proofs.Bases.{base_step, given_at_chain, is_recovered, rest_begins, roster_here, roster_opens, table_in, table_opening}
use Rattle.tdb_recover.proofs.Beside.{beside_roster, beside_some, beside_then}
use Rattle.tdb_recover.proofs.Composing.{explained_then, given_before, given_then, tells_then, written_then, written_back}
use Rattle.tdb_recover.proofs.Counted.{most_then}
use Rattle.tdb_recover.proofs.FirstRead.{first_longer}
use Rattle.tdb_recover.proofs.Only.{only_as, only_then}
use Rattle.tdb_recover.proofs.Showing.{explained_as}
use Rattle.tdb_recover.proofs.opening.open_log.Goals as goal

pub returns-clause-recovered : goal.returns-clause-recovered
returns-clause-recovered g c t whole given at =
    let outside = g.P.Platform.outside in
    let states = g.P.Platform.crash_states in
    let numbered = g.met.P.Platform.numbered in
    let counts = g.met.P.Platform.counts in
    let old = c.args.platform.now in
    let mid = c.read_chain.new.platform in
    let then = c.read_segments.new.platform in
    let led = c.read_roster.new.platform in
    let first = c.read_chain.ensures.reads in
    let second = c.read_segments.ensures.reads in
    let third = c.read_roster.ensures.reads in
    let both = reads_then outside states counts old mid then first second in
    let all = reads_then outside states counts old then led both third in
    let keys = c.args.keys.now in
    let chain = c.in_ok-chain.chain in
    let base = chain.base in
    let format = c.in_ok-chain.ensures.format in
    let own = c.in_ok-chain.ensures.base in
    let later = reverse chain.commits.items in
    let new = c.replay.new.platform in
    let fourth = c.replay.ensures.reads in
    let r : Recovered = record {
      suite = base.suite;
      head = record { count = c.args.count; mark = c.args.mark; base = base.count };
      segments = c.in_ok-segments.segments;
      overlay = c.in_ok-overlay.overlay;
      tree = record { root = base.root; leaders = c.in_ok-copied.field-0 };
    } in
    let told = tells_then outside states old led all t in
    let grows = fourth.grows told in
    let trace = (outside new).trace in
    let ends = c.in_ok-chain.ensures.ends t whole (given_at_chain outside states numbered old mid then led first second third both all t trace grows keys whole given) at in
    let rest = rest_begins outside states numbered old mid then led first second third both all t trace grows keys whole given base later format own ends r
    (c.in_ok-segments.ensures.segments (tells_then outside states old mid first t)) refl c.in_ok-copied.ensures
    (c.in_ok-overlay.ensures.told (tells_then outside states old then both t)) in
    let here = given_then outside states old led all t trace keys whole given in
    let ends_here = written_then outside states old led all t (λ ws. EndsWith ws keys whole.chain base later) ends in
    let kept = c.in_ok-replay.ensures.replayed told whole here rest ends_here in
    let head : c.replay.new.log.head ≡ r.head = c.in_ok-replay.ensures.head in
    is_recovered (outside old).trace.written trace keys whole given base later format own ends c.args.count c.args.mark.0 c.replay.new.log c.requires at
    (ap (λ (h : Head). h.count) head) (ap (λ (h : Head). h.base) head) c.in_ok-replay.ensures.suite
    (written_back outside states old led all t (λ ws. IsReplayOf (needed ws whole.store whole.anchor) whole.store c.replay.new.log whole.last) kept)

pub returns-clause-only : goal.returns-clause-only
returns-clause-only g c t whole given at =
    let outside = g.P.Platform.outside in
    let states = g.P.Platform.crash_states in
    let numbered = g.met.P.Platform.numbered in
    let counts = g.met.P.Platform.counts in
    let old = c.args.platform.now in
    let mid = c.read_chain.new.platform in
    let then = c.read_segments.new.platform in
    let led = c.read_roster.new.platform in
    let first = c.read_chain.ensures.reads in
    let second = c.read_segments.ensures.reads in
    let third = c.read_roster.ensures.reads in
    let both = reads_then outside states counts old mid then first second in
    let all = reads_then outside states counts old then led both third in
    let keys = c.args.keys.now in
    let chain = c.in_ok-chain.chain in
    let base = chain.base in
    let format = c.in_ok-chain.ensures.format in
    let own = c.in_ok-chain.ensures.base in
    let later = reverse chain.commits.items in
    let new = c.replay.new.platform in
    let fourth = c.replay.ensures.reads in
    let r : Recovered = record {
      suite = base.suite;
      head = record { count = c.args.count; mark = c.args.mark; base = base.count };
      segments = c.in_ok-segments.segments;
      overlay = c.in_ok-overlay.overlay;
      tree = record { root = base.root; leaders = c.in_ok-copied.field-0 };
    } in
    let told = tells_then outside states old led all t in
    let grows = fourth.grows told in
    let trace = (outside new).trace in
    let ends = c.in_ok-chain.ensures.ends t whole (given_at_chain outside states numbered old mid then led first second third both all t trace grows keys whole given) at in
    let rest = rest_begins outside states numbered old mid then led first second third both all t trace grows keys whole given base later format own ends r
    (c.in_ok-segments.ensures.segments (tells_then outside states old mid first t)) refl c.in_ok-copied.ensures
    (c.in_ok-overlay.ensures.told (tells_then outside states old then both t)) in
    let here = given_then outside states old led all t trace keys whole given in
    let ends_here = written_then outside states old led all t (λ ws. EndsWith ws keys whole.chain base later) ends in
    let pieces = IsOpeningPiece (outside old).trace.written whole.store whole.anchor in
    let at_chain = given_at_chain outside states numbered old mid then led first second third both all t trace grows keys whole given in
    let roster = roster_here outside states numbered old mid then led first second third both all t trace grows keys whole given base later format own ends in
    only_then (outside old) (outside led) (outside new) pieces
    (only_then (outside old) (outside then) (outside led) pieces
    (only_then (outside old) (outside mid) (outside then) pieces (c.in_ok-chain.ensures.only t whole at_chain at)
    (only_as (outside mid) (outside then) (λ p. p ≡ base.first) pieces
    (λ piece same. table_opening (outside old).trace.written trace keys whole given base later format own ends piece same)
    (c.in_ok-segments.ensures.only (tells_then outside states old mid first t))))
    (only_as (outside then) (outside led) (IsOfRoster (in_trace (outside then).trace.written) (store_of_text keys base) base.root) pieces
    (roster_opens outside states numbered old mid then led first second third both all t trace grows keys whole given base later format own ends)
    (c.in_ok-overlay.ensures.only (tells_then outside states old then both t) _ roster)))
    (written_back outside states old led all t (λ ws. ReadsOnly (IsOpeningPiece ws whole.store whole.anchor) (outside led) (outside new))
    (c.in_ok-replay.ensures.only told whole here rest ends_here))

pub returns-in_err-segments-clause-reads : goal.returns-in_err-segments-clause-reads
returns-in_err-segments-clause-reads g c =
    reads_then g.P.Platform.outside g.P.Platform.crash_states g.met.P.Platform.counts c.args.platform.now c.read_chain.new.platform c.read_segments.new.platform c.read_chain.ensures.reads c.read_segments.ensures.reads

pub returns-in_err-overlay-clause-reads : goal.returns-in_err-overlay-clause-reads
returns-in_err-overlay-clause-reads g c =
    let outside = g.P.Platform.outside in
    let states = g.P.Platform.crash_states in
    let numbered = g.met.P.Platform.numbered in
    let counts = g.met.P.Platform.counts in
    let old = c.args.platform.now in
    let mid = c.read_chain.new.platform in
    let then = c.read_segments.new.platform in
    let led = c.read_roster.new.platform in
    let first = c.read_chain.ensures.reads in
    let second = c.read_segments.ensures.reads in
    let third = c.read_roster.ensures.reads in
    let both = reads_then outside states counts old mid then first second in
    let all = reads_then outside states counts old then led both third in
    all

pub returns-in_err-copied-clause-reads : goal.returns-in_err-copied-clause-reads
returns-in_err-copied-clause-reads g c =
    let outside = g.P.Platform.outside in
    let states = g.P.Platform.crash_states in
    let numbered = g.met.P.Platform.numbered in
    let counts = g.met.P.Platform.counts in
    let old = c.args.platform.now in
    let mid = c.read_chain.new.platform in
    let then = c.read_segments.new.platform in
    let led = c.read_roster.new.platform in
    let first = c.read_chain.ensures.reads in
    let second = c.read_segments.ensures.reads in
    let third = c.read_roster.ensures.reads in
    let both = reads_then outside states counts old mid then first second in
    let all = reads_then outside states counts old then led both third in
    all

pub returns-in_err-replay-clause-reads : goal.returns-in_err-replay-clause-reads
returns-in_err-replay-clause-reads g c =
    let outside = g.P.Platform.outside in
    let states = g.P.Platform.crash_states in
    let numbered = g.met.P.Platform.numbered in
    let counts = g.met.P.Platform.counts in
    let old = c.args.platform.now in
    let mid = c.read_chain.new.platform in
    let then = c.read_segments.new.platform in
    let led = c.read_roster.new.platform in
    let first = c.read_chain.ensures.reads in
    let second = c.read_segments.ensures.reads in
    let third = c.read_roster.ensures.reads in
    let both = reads_then outside states counts old mid then first second in
    let all = reads_then outside states counts old then led both third in
    reads_then outside states counts old led c.replay.new.platform all c.replay.ensures.reads

pub returns-clause-reads : goal.returns-clause-reads
returns-clause-reads g c =
    let outside = g.P.Platform.outside in
    let states = g.P.Platform.crash_states in
    let numbered = g.met.P.Platform.numbered in
    let counts = g.met.P.Platform.counts in
    let old = c.args.platform.now in
    let mid = c.read_chain.new.platform in
    let then = c.read_segments.new.platform in
    let led = c.read_roster.new.platform in
    let first = c.read_chain.ensures.reads in
    let second = c.read_segments.ensures.reads in
    let third = c.read_roster.ensures.reads in
    let both = reads_then outside states counts old mid then first second in
    let all = reads_then outside states counts old then led both third in
    reads_then outside states counts old led c.replay.new.platform all c.replay.ensures.reads

pub returns-in_err-segments-clause-explained : goal.returns-in_err-segments-clause-explained
returns-in_err-segments-clause-explained g c =
    let outside = g.P.Platform.outside in
    let states = g.P.Platform.crash_states in
    let old = c.args.platform.now in
    let mid = c.read_chain.new.platform in
    let new = c.read_segments.new.platform in
    let first = c.read_chain.ensures.reads in
    let keys = c.args.keys.now in
    let chain = c.in_ok-chain.chain in
    if_err_and c.from_residual-in_err-segments.result _ _ c.from_residual-in_err-segments.ensures.1
    (λ e is t whole given at.
    let then = tells_then outside states old mid first t in
    let before = given_before (outside old).trace.written (outside mid).trace (outside new).trace keys whole (g.met.P.Platform.numbered mid then) (c.read_segments.ensures.reads.grows then) given in
    let ends = c.in_ok-chain.ensures.ends t whole before at in
    let format = c.in_ok-chain.ensures.format in
    let own = c.in_ok-chain.ensures.base in
    let step = base_step (outside old).trace.written (outside new).trace keys whole given chain.base (reverse chain.commits.items) format own ends in
    let table = table_in (outside old).trace.written (outside new).trace keys whole given chain.base (reverse chain.commits.items) format own ends step in
    subst (IsExplained (outside old) (outside new) (IsOpeningPiece (outside old).trace.written whole.store whole.anchor)) (sym is)
    (explained_as (outside old) (outside new) (λ p. p ≡ chain.base.first) (IsOpeningPiece (outside old).trace.written whole.store whole.anchor) c.in_err-segments.field-0.0
    (λ piece same. table_opening (outside old).trace.written (outside new).trace keys whole given chain.base (reverse chain.commits.items) format own ends piece same)
    (explained_then outside states old mid first t new (λ p. p ≡ chain.base.first) c.in_err-segments.field-0.0
    (c.in_err-segments.ensures.explained then (written_then outside states old mid first t (λ ws. IsTableIn ws (outside new).trace keys chain.base) table.0)))))

pub returns-in_err-overlay-clause-explained : goal.returns-in_err-overlay-clause-explained
returns-in_err-overlay-clause-explained g c =
    let outside = g.P.Platform.outside in
    let states = g.P.Platform.crash_states in
    let numbered = g.met.P.Platform.numbered in
    let counts = g.met.P.Platform.counts in
    let old = c.args.platform.now in
    let mid = c.read_chain.new.platform in
    let then = c.read_segments.new.platform in
    let led = c.read_roster.new.platform in
    let first = c.read_chain.ensures.reads in
    let second = c.read_segments.ensures.reads in
    let third = c.read_roster.ensures.reads in
    let both = reads_then outside states counts old mid then first second in
    let all = reads_then outside states counts old then led both third in
    let keys = c.args.keys.now in
    let chain = c.in_ok-chain.chain in
    let base = chain.base in
    let format = c.in_ok-chain.ensures.format in
    let own = c.in_ok-chain.ensures.base in
    let later = reverse chain.commits.items in
    if_err_and c.from_residual-in_err-overlay.result _ _ c.from_residual-in_err-overlay.ensures.1
    (λ e is t whole given at.
    let trace = (outside led).trace in
    let grows = extends_itself trace in
    let told = tells_then outside states old then both t in
    let ends = c.in_ok-chain.ensures.ends t whole (given_at_chain outside states numbered old mid then led first second third both all t trace grows keys whole given) at in
    let roster = roster_here outside states numbered old mid then led first second third both all t trace grows keys whole given base later format own ends in
    let of_roster = IsOfRoster (in_trace (outside then).trace.written) (store_of_text keys base) base.root in
    let pieces = IsOpeningPiece (outside old).trace.written whole.store whole.anchor in
    subst (IsExplained (outside old) (outside led) pieces) (sym is)
    (explained_as (outside old) (outside led) of_roster pieces c.in_err-overlay.field-0.0
    (roster_opens outside states numbered old mid then led first second third both all t trace grows keys whole given base later format own ends)
    (explained_then outside states old then both t led of_roster c.in_err-overlay.field-0.0
    (c.in_err-overlay.ensures.explained told _ roster))))

pub returns-in_err-replay-clause-explained : goal.returns-in_err-replay-clause-explained
returns-in_err-replay-clause-explained g c =
    let outside = g.P.Platform.outside in
    let states = g.P.Platform.crash_states in
    let numbered = g.met.P.Platform.numbered in
    let counts = g.met.P.Platform.counts in
    let old = c.args.platform.now in
    let mid = c.read_chain.new.platform in
    let then = c.read_segments.new.platform in
    let led = c.read_roster.new.platform in
    let first = c.read_chain.ensures.reads in
    let second = c.read_segments.ensures.reads in
    let third = c.read_roster.ensures.reads in
    let both = reads_then outside states counts old mid then first second in
    let all = reads_then outside states counts old then led both third in
    let keys = c.args.keys.now in
    let chain = c.in_ok-chain.chain in
    let base = chain.base in
    let format = c.in_ok-chain.ensures.format in
    let own = c.in_ok-chain.ensures.base in
    let later = reverse chain.commits.items in
    let new = c.replay.new.platform in
    let fourth = c.replay.ensures.reads in
    let r : Recovered = record {
      suite = base.suite;
      head = record { count = c.args.count; mark = c.args.mark; base = base.count };
      segments = c.in_ok-segments.segments;
      overlay = c.in_ok-overlay.overlay;
      tree = record { root = base.root; leaders = c.in_ok-copied.field-0 };
    } in
    if_err_and c.from_residual-in_err-replay.result _ _ c.from_residual-in_err-replay.ensures.1
    (λ e is t whole given at.
    let told = tells_then outside states old led all t in
    let grows = fourth.grows told in
    let trace = (outside new).trace in
    let ends = c.in_ok-chain.ensures.ends t whole (given_at_chain outside states numbered old mid then led first second third both all t trace grows keys whole given) at in
    let rest = rest_begins outside states numbered old mid then led first second third both all t trace grows keys whole given base later format own ends r
    (c.in_ok-segments.ensures.segments (tells_then outside states old mid first t)) refl c.in_ok-copied.ensures
    (c.in_ok-overlay.ensures.told (tells_then outside states old then both t)) in
    let here = given_then outside states old led all t trace keys whole given in
    let ends_here = written_then outside states old led all t (λ ws. EndsWith ws keys whole.chain base later) ends in
    subst (IsExplained (outside old) (outside new) (IsOpeningPiece (outside old).trace.written whole.store whole.anchor)) (sym is)
    (explained_as (outside old) (outside new) (IsOpeningPiece (outside led).trace.written whole.store whole.anchor) (IsOpeningPiece (outside old).trace.written whole.store whole.anchor) c.in_err-replay.field-0.0
    (λ piece needed. written_back outside states old led all t (λ ws. IsOpeningPiece ws whole.store whole.anchor piece) needed)
    (explained_then outside states old led all t new (IsOpeningPiece (outside led).trace.written whole.store whole.anchor) c.in_err-replay.field-0.0
    (c.in_err-replay.ensures.explained told whole here rest ends_here))))

pub returns-in_err-chain-clause-most : goal.returns-in_err-chain-clause-most
returns-in_err-chain-clause-most g c =
    beside_some 1001 2002 4161 (g.P.Platform.outside c.args.platform.now) (g.P.Platform.outside c.read_chain.new.platform) (omega arith)
    c.read_chain.ensures.most

pub returns-in_err-segments-clause-most : goal.returns-in_err-segments-clause-most
returns-in_err-segments-clause-most g c =
    beside_some 1002 2002 4161 (g.P.Platform.outside c.args.platform.now) (g.P.Platform.outside c.read_segments.new.platform) (omega arith)
    (most_then g.P.Platform.outside g.P.Platform.crash_states 1001 1 1002 c.args.platform.now c.read_chain.new.platform
    c.read_segments.new.platform (omega arith) c.read_chain.ensures.reads c.read_segments.ensures.reads c.read_chain.ensures.most
    c.read_segments.ensures.most)

pub returns-in_err-overlay-clause-most : goal.returns-in_err-overlay-clause-most
returns-in_err-overlay-clause-most g c =
    let outside = g.P.Platform.outside in
    let states = g.P.Platform.crash_states in
    let counts = g.met.P.Platform.counts in
    let old = c.args.platform.now in
    let mid = c.read_chain.new.platform in
    let then = c.read_segments.new.platform in
    let led = c.read_roster.new.platform in
    let first = c.read_chain.ensures.reads in
    let second = c.read_segments.ensures.reads in
    let third = c.read_roster.ensures.reads in
    let both = reads_then outside states counts old mid then first second in
    beside_roster outside states old then led both third 2002 4161
    (most_then outside states 1001 1 2002 old mid then (omega arith) first second c.read_chain.ensures.most c.read_segments.ensures.most)
    c.read_roster.ensures.most

pub returns-in_err-copied-clause-most : goal.returns-in_err-copied-clause-most
returns-in_err-copied-clause-most g c =
    let outside = g.P.Platform.outside in
    let states = g.P.Platform.crash_states in
    let counts = g.met.P.Platform.counts in
    let old = c.args.platform.now in
    let mid = c.read_chain.new.platform in
    let then = c.read_segments.new.platform in
    let led = c.read_roster.new.platform in
    let first = c.read_chain.ensures.reads in
    let second = c.read_segments.ensures.reads in
    let third = c.read_roster.ensures.reads in
    let both = reads_then outside states counts old mid then first second in
    beside_roster outside states old then led both third 2002 4161
    (most_then outside states 1001 1 2002 old mid then (omega arith) first second c.read_chain.ensures.most c.read_segments.ensures.most)
    c.read_roster.ensures.most

pub returns-in_err-replay-clause-most : goal.returns-in_err-replay-clause-most
returns-in_err-replay-clause-most g c =
    let outside = g.P.Platform.outside in
    let states = g.P.Platform.crash_states in
    let counts = g.met.P.Platform.counts in
    let old = c.args.platform.now in
    let mid = c.read_chain.new.platform in
    let then = c.read_segments.new.platform in
    let led = c.read_roster.new.platform in
    let first = c.read_chain.ensures.reads in
    let second = c.read_segments.ensures.reads in
    let third = c.read_roster.ensures.reads in
    let both = reads_then outside states counts old mid then first second in
    let all = reads_then outside states counts old then led both third in
    let n = length c.in_ok-chain.chain.commits.items in
    beside_then outside states old led c.replay.new.platform all c.replay.ensures.reads 1002 n 2002 4161
    (omega (arith, c.in_ok-chain.ensures.many, c.in_ok-chain.ensures.counts.1))
    (beside_roster outside states old then led both third 1002 4161
    (most_then outside states 1001 1 1002 old mid then (omega arith) first second c.read_chain.ensures.most c.read_segments.ensures.most)
    c.read_roster.ensures.most)
    c.replay.ensures.most

pub returns-clause-most : goal.returns-clause-most
returns-clause-most g c =
    let outside = g.P.Platform.outside in
    let states = g.P.Platform.crash_states in
    let counts = g.met.P.Platform.counts in
    let old = c.args.platform.now in
    let mid = c.read_chain.new.platform in
    let then = c.read_segments.new.platform in
    let led = c.read_roster.new.platform in
    let first = c.read_chain.ensures.reads in
    let second = c.read_segments.ensures.reads in
    let third = c.read_roster.ensures.reads in
    let both = reads_then outside states counts old mid then first second in
    let all = reads_then outside states counts old then led both third in
    let n = length c.in_ok-chain.chain.commits.items in
    beside_then outside states old led c.replay.new.platform all c.replay.ensures.reads 1002 n 2002 4161
    (omega (arith, c.in_ok-chain.ensures.many, c.in_ok-chain.ensures.counts.1))
    (beside_roster outside states old then led both third 1002 4161
    (most_then outside states 1001 1 1002 old mid then (omega arith) first second c.read_chain.ensures.most c.read_segments.ensures.most)
    c.read_roster.ensures.most)
    c.replay.ensures.most

pub returns-clause-most_ok : goal.returns-clause-most_ok
returns-clause-most_ok g c =
    let outside = g.P.Platform.outside in
    let states = g.P.Platform.crash_states in
    let counts = g.met.P.Platform.counts in
    let old = c.args.platform.now in
    let mid = c.read_chain.new.platform in
    let then = c.read_segments.new.platform in
    let led = c.read_roster.new.platform in
    let first = c.read_chain.ensures.reads in
    let second = c.read_segments.ensures.reads in
    let third = c.read_roster.ensures.reads in
    let both = reads_then outside states counts old mid then first second in
    let all = reads_then outside states counts old then led both third in
    let n = length c.in_ok-chain.chain.commits.items in
    let head = c.replay.new.log.head in
    let count = ap (λ (h : Head). h.count) c.in_ok-replay.ensures.head in
    let base = ap (λ (h : Head). h.base) c.in_ok-replay.ensures.head in
    beside_then outside states old led c.replay.new.platform all c.replay.ensures.reads (n + 2) n (2 * (head.count - head.base) + 2) 4161
    (omega (arith, c.in_ok-chain.ensures.many, count, base))
    (beside_roster outside states old then led both third (n + 2) 4161
    (most_then outside states (n + 1) 1 (n + 2) old mid then (omega arith) first second c.in_ok-chain.ensures.most_ok c.read_segments.ensures.most)
    c.read_roster.ensures.most)
    c.replay.ensures.most

pub returns-clause-accepted : goal.returns-clause-accepted
returns-clause-accepted g c t =
    let outside = g.P.Platform.outside in
    let states = g.P.Platform.crash_states in
    let counts = g.met.P.Platform.counts in
    let old = c.args.platform.now in
    let mid = c.read_chain.new.platform in
    let new = c.replay.new.platform in
    let first = c.read_chain.ensures.reads in
    let behind = reads_then outside states counts mid c.read_roster.new.platform new
    (reads_then outside states counts mid c.read_segments.new.platform c.read_roster.new.platform c.read_segments.ensures.reads c.read_roster.ensures.reads)
    c.replay.ensures.reads in
    first_longer c.args.keys.now (c.args.count, c.args.mark.0) (outside old) (outside mid) (outside new) (c.in_ok-chain.ensures.accepted t)
    (behind.grows (tells_then outside states old mid first t))
