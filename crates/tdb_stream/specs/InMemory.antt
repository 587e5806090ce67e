-- Sources, sinks and archives in memory, and what a call makes of them.
use Rattle.std.specs.Prelude.{◌≡◌, ◌⊎◌, ◌++◌, ℕ, List, [], Contains, drop}
use Rattle.tdb_base.specs.Rose.{risen}

pub record SourceInMemory : Type 0 where
  -- the bytes that it has yet to give
  pub rest : List ℕ
  -- the numbers of the calls that fail, counted from 1
  pub failing : List ℕ
  -- how many calls it has had
  pub calls : ℕ
  pub faults : ℕ

pub record SinkInMemory : Type 0 where
  pub held : List ℕ
  pub failing : List ℕ
  pub calls : ℕ
  -- how many calls found no memory
  pub short : ℕ
  pub faults : ℕ

pub record ArchiveInMemory : Type 0 where
  pub number : ℕ
  pub sink : SinkInMemory

abbrev pub empty_sink : List ℕ → SinkInMemory
empty_sink failing = record { held = []; failing = failing; calls = 0; short = 0; faults = 0 }

-- It gave its first n bytes.
abbrev pub source_gave : SourceInMemory → ℕ → SourceInMemory
source_gave s n = record s { rest = drop n s.rest; calls = risen s.calls }

-- A call whose number is listed failed, and took nothing.
abbrev pub source_failed : SourceInMemory → SourceInMemory
source_failed s = record s { calls = risen s.calls; faults = risen s.faults }

-- It added a piece.
abbrev pub sink_added : SinkInMemory → List ℕ → SinkInMemory
sink_added s piece = record s { held = s.held ++ piece; calls = risen s.calls }

-- A call whose number is listed failed, and added nothing.
abbrev pub sink_failed : SinkInMemory → SinkInMemory
sink_failed s = record s { calls = risen s.calls; faults = risen s.faults }

-- A call found no memory, and touched nothing.
abbrev pub sink_was_short : SinkInMemory → SinkInMemory
sink_was_short s = record s { calls = risen s.calls; short = risen s.short; faults = risen s.faults }

-- A put failed, since its number is listed or memory was wanting.
abbrev pub FailsPut : SinkInMemory → SinkInMemory → Type 0
FailsPut old new = (Contains old.failing (risen old.calls) × (new ≡ sink_failed old)) ⊎ (new ≡ sink_was_short old)
