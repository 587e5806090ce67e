use Rattle.std.proofs.Common.{◌≡◌, ℕ, Option, None, Some, Result, Err, refl, sym, ◌∙◌, ap, subst}
use Rattle.std.proofs.lemmas.Result.{err_from_is_err_and}
use Rattle.std.specs.Global.{Vec}
use Rattle.tdb_base.specs.declared.piece.Piece.{Piece}
use Rattle.tdb_model.specs.HasRead.{HasRead}
use Rattle.tdb_model.specs.declared.error.ReadError.{ReadError}
use Rattle.tdb_model.specs.declared.error.ReadError.TheVariants.{Memory}
use Rattle.tdb_chunk.specs.StoreMeans.{store_means}
use Rattle.tdb_chunk.specs.StoreView.{StoreView}
use Rattle.tdb_chunk.specs.declared.store.Store.TheInside.{Inside}
use Rattle.tdb_chunk.proofs.ChunkReads.{FindFacts, ReadFacts}
use Rattle.tdb_chunk.proofs.LookedFor.{Looked, asked_as, found_asks, found_read, found_shows, looked_found, looked_listed, none_asks, none_read, refused_asks, refused_read, refused_shows, shown_as}
use Rattle.tdb_chunk.proofs.StoreReads.{as_seen, over, read_no_partition, read_stopped, with_secret}
use Rattle.tdb_chunk.proofs.store_chunks.StoreChunks.read.Goals as goal
use Rattle.tdb_chunk.proofs.store_chunks.StoreChunks.read.Goals.{in-Here, in-Gone, in-Base+in_ok-record-in-Base}

-- what the store's fields tell
abbrev fields_of : {P : Type 0} → Inside P → StoreView P
fields_of i = record { platform = i.platform; secret = i.chain.keys; log = i.chain.log; stopped = i.stopped }

the_error : {T : Type 0} (a b : ReadError) → ◌≡◌ {A = Result T ReadError} (Err a) (Err b) → a ≡ b
the_error a b is = cc

pub returns-then-self-clause-read : goal.returns-then-self-clause-read
returns-then-self-clause-read g c =
    let outside = g.P.Platform.outside in
    let crash_states = g.P.Platform.crash_states in
    as_seen outside crash_states c.args.part c.args.rank _ _ _ _ c.self.view_is c.self.view_is
    (read_stopped outside crash_states g.met.P.Platform.counts g.met.P.Platform.numbered _ c.args.part c.args.rank c.if-self.true)

pub returns-in_default-clause-read : goal.returns-in_default-clause-read
returns-in_default-clause-read g c =
    let outside = g.P.Platform.outside in
    let crash_states = g.P.Platform.crash_states in
    as_seen outside crash_states c.args.part c.args.rank _ _ _ _ c.self.view_is c.self.view_is
    (read_no_partition outside crash_states g.met.P.Platform.counts g.met.P.Platform.numbered _ c.args.part c.args.rank c.if-self.false
    c.in_default.ensures)

pub returns-in_err-record-in-Base : goal.returns-in_err-record-in-Base
returns-in_err-record-in-Base g c =
    let outside = g.P.Platform.outside in
    let crash_states = g.P.Platform.crash_states in
    let h = c.in_err-record-in-Base.ensures in
    let e = c.in_err-record-in-Base.field-0.0 in
    let seen = fields_of c.self.inside in
    let q = c.find_record.new.platform in
    let facts : FindFacts outside crash_states seen q c.args.rank.0 c.in-Some.leader (Err e) = record {
      reads = h.reads;
      at = tt;
      asks = h.asks;
      undamaged = h.undamaged;
      tampered = h.tampered;
      form = h.form;
      fault = h.fault;
      quiet = h.quiet;
      late = h.late;
    } in
    let from = err_from_is_err_and c.from_residual.result c.from_residual.ensures.1 in
    let same : c.from_residual.result ≡ Err e = from.1 ∙ ap Err from.2 in
    record {
      read = subst (λ (r : Result (Vec ℕ) ReadError). HasRead (store_means outside crash_states) c.args.part c.args.rank c.args.self.now (over seen q) r) (sym same)
          (as_seen outside crash_states c.args.part c.args.rank seen c.args.self.now (over seen q) (over seen q) c.self.view_is refl
          (refused_read outside crash_states g.met.P.Platform.counts g.met.P.Platform.numbered seen c.args.part c.args.rank c.in-Some.leader c.self.invariant
          c.if-self.false c.in-Some.ensures q c.in-Base.ensures e facts));
      asks = asked_as outside seen c.args.self.now q c.args.part.0 c.args.rank.0 c.self.view_is
          (refused_asks outside crash_states g.met.P.Platform.counts g.met.P.Platform.numbered seen c.args.part c.args.rank c.in-Some.leader c.self.invariant
          c.if-self.false c.in-Some.ensures q c.in-Base.ensures e facts);
      unhidden = λ memory. shown_as outside seen c.args.self.now q c.args.part.0 c.args.rank.0 c.self.view_is
          (refused_shows outside crash_states g.met.P.Platform.counts g.met.P.Platform.numbered seen c.args.part c.args.rank c.in-Some.leader c.self.invariant
          c.if-self.false c.in-Some.ensures q c.in-Base.ensures e facts (the_error e Memory (sym same ∙ memory)));
    }

pub returns-in_default-record : goal.returns-in_default-record
returns-in_default-record g c =
    let outside = g.P.Platform.outside in
    let crash_states = g.P.Platform.crash_states in
    let counts = g.met.P.Platform.counts in
    let numbered = g.met.P.Platform.numbered in
    let seen = fields_of c.self.inside in
    let mid = fields_of c.match-get.self-inside in
    let part = c.args.part in
    let rank = c.args.rank in
    let leader = c.in-Some.leader in
    let looked : Looked outside crash_states seen part.0 rank.0 mid c.match-get.record = elim c.match-get.branch [
      | in-Here w ↦ subst (λ (leaf : Option Piece). Looked outside crash_states seen part.0 rank.0 mid leaf) (sym w.record-is)
          (looked_listed outside crash_states counts numbered seen part rank leader c.self.invariant c.if-self.false c.in-Some.ensures (Some w.in-Here.piece) mid
          (ap (λ (m : Inside _). fields_of m) w.self-inside-is) (sym w.in-Here.ensures))
      | in-Gone w ↦ subst (λ (leaf : Option Piece). Looked outside crash_states seen part.0 rank.0 mid leaf) (sym w.record-is)
          (looked_listed outside crash_states counts numbered seen part rank leader c.self.invariant c.if-self.false c.in-Some.ensures None mid
          (ap (λ (m : Inside _). fields_of m) w.self-inside-is) (sym w.in-Gone.ensures))
      | in-Base+in_ok-record-in-Base w ↦
          let h = w.in_ok-record-in-Base.ensures in
          subst (λ (leaf : Option Piece). Looked outside crash_states seen part.0 rank.0 mid leaf) (sym w.record-is)
          (looked_found outside crash_states counts numbered seen part rank leader c.self.invariant c.if-self.false c.in-Some.ensures w.find_record.new.platform
          w.in-Base.ensures w.in_ok-record-in-Base.record mid (ap (λ (m : Inside _). fields_of m) w.self-inside-is) (record {
            reads = h.reads;
            at = h.at;
            asks = h.asks;
            undamaged = h.undamaged;
            tampered = h.tampered;
            form = h.form;
            fault = h.fault;
            quiet = h.quiet;
            late = h.late;
          }))
    ] in
    let none = subst (λ (leaf : Option Piece). Looked outside crash_states seen part.0 rank.0 mid leaf) c.in_default-record.is looked in
    record {
      read = as_seen outside crash_states part rank seen c.args.self.now mid mid c.self.view_is refl
          (none_read outside crash_states counts numbered seen part rank leader c.self.invariant c.if-self.false c.in-Some.ensures mid none);
      asks = asked_as outside seen c.args.self.now mid.platform part.0 rank.0 c.self.view_is
          (none_asks outside crash_states counts numbered seen part rank leader c.self.invariant c.if-self.false c.in-Some.ensures mid none);
      unhidden = λ memory. absurd (cc memory);
    }

pub returns : goal.returns
returns g c =
    let outside = g.P.Platform.outside in
    let crash_states = g.P.Platform.crash_states in
    let counts = g.met.P.Platform.counts in
    let numbered = g.met.P.Platform.numbered in
    let seen = fields_of c.self.inside in
    let mid = fields_of c.match-get.self-inside in
    let part = c.args.part in
    let rank = c.args.rank in
    let leader = c.in-Some.leader in
    let looked : Looked outside crash_states seen part.0 rank.0 mid c.match-get.record = elim c.match-get.branch [
      | in-Here w ↦ subst (λ (leaf : Option Piece). Looked outside crash_states seen part.0 rank.0 mid leaf) (sym w.record-is)
          (looked_listed outside crash_states counts numbered seen part rank leader c.self.invariant c.if-self.false c.in-Some.ensures (Some w.in-Here.piece) mid
          (ap (λ (m : Inside _). fields_of m) w.self-inside-is) (sym w.in-Here.ensures))
      | in-Gone w ↦ subst (λ (leaf : Option Piece). Looked outside crash_states seen part.0 rank.0 mid leaf) (sym w.record-is)
          (looked_listed outside crash_states counts numbered seen part rank leader c.self.invariant c.if-self.false c.in-Some.ensures None mid
          (ap (λ (m : Inside _). fields_of m) w.self-inside-is) (sym w.in-Gone.ensures))
      | in-Base+in_ok-record-in-Base w ↦
          let h = w.in_ok-record-in-Base.ensures in
          subst (λ (leaf : Option Piece). Looked outside crash_states seen part.0 rank.0 mid leaf) (sym w.record-is)
          (looked_found outside crash_states counts numbered seen part rank leader c.self.invariant c.if-self.false c.in-Some.ensures w.find_record.new.platform
          w.in-Base.ensures w.in_ok-record-in-Base.record mid (ap (λ (m : Inside _). fields_of m) w.self-inside-is) (record {
            reads = h.reads;
            at = h.at;
            asks = h.asks;
            undamaged = h.undamaged;
            tampered = h.tampered;
            form = h.form;
            fault = h.fault;
            quiet = h.quiet;
            late = h.late;
          }))
    ] in
    let one = subst (λ (leaf : Option Piece). Looked outside crash_states seen part.0 rank.0 mid leaf) c.in-Some-record.is looked in
    let e = c.read_chunk.ensures in
    let q = c.read_chunk.new.platform in
    let facts : ReadFacts outside crash_states mid q rank.0 leader c.in-Some-record.piece c.read_chunk.result = record {
      reads = e.reads;
      bytes = e.bytes;
      tampered = e.tampered;
      stands = e.stands;
      shown = e.shown;
      misshapen = e.misshapen;
      once = e.once;
      at_most_once = e.at_most_once;
      memory = e.memory;
      fault = e.fault;
      quiet = e.quiet;
      late = e.late;
    } in
    record {
      read = as_seen outside crash_states part rank seen c.args.self.now (over mid q) _ c.self.view_is
          (with_secret q mid.log mid.stopped mid.secret c.read_chunk.new.keys (sym e.same))
          (found_read outside crash_states counts numbered seen part rank leader c.self.invariant c.if-self.false c.in-Some.ensures mid q
          c.in-Some-record.piece one c.read_chunk.result facts);
      asks = asked_as outside seen c.args.self.now q part.0 rank.0 c.self.view_is
          (found_asks outside crash_states counts numbered seen part rank leader c.self.invariant c.if-self.false c.in-Some.ensures mid q
          c.in-Some-record.piece one c.read_chunk.result facts);
      unhidden = λ memory. shown_as outside seen c.args.self.now q part.0 rank.0 c.self.view_is
          (found_shows outside crash_states counts numbered seen part rank leader c.self.invariant c.if-self.false c.in-Some.ensures mid q
          c.in-Some-record.piece one c.read_chunk.result facts memory);
    }
