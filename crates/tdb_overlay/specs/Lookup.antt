-- What the change lists say of a partition, and of one rank. A partition that isn't there has no rank that was changed.
use Rattle.std.specs.Prelude.{◌≤◌, ℕ, List, map, Option, Some, None}
use Rattle.std.specs.FinMap.{empty, entries, get}
use Rattle.std.specs.Option.{option_and_then}
use Rattle.tdb_base.specs.declared.names.PartId.{PartId}
use Rattle.tdb_base.specs.declared.piece.Piece.{Piece}
use Rattle.tdb_model.specs.declared.change.PartInfo.{PartInfo}
use Rattle.tdb_overlay.specs.Covering.{Covered, Covers}
use Rattle.tdb_overlay.specs.declared.overlay.Leader.{Leader}
use Rattle.tdb_overlay.specs.declared.overlay.Seen.{Seen}
use Rattle.tdb_overlay.specs.declared.overlay.Seen.TheVariants.{Base, Gone, Here}

-- what is told of a partition
abbrev pub leader_of : Covered → Leader
leader_of p = record { suite = p.suite; home = p.home; birth = p.birth; next = p.next; parent = p.parent; born = p.born; root = p.root }

-- a partition of which that is told, and no rank was changed
abbrev pub cover_told : Leader → Covered
cover_told l = record {
  suite = l.suite;
  home = l.home;
  birth = l.birth;
  next = l.next;
  parent = l.parent;
  born = l.born;
  root = l.root;
  edits = empty;
}

-- the numbers of a partition's key are in range: its home is one of the 4,095 partitions, and its birth the count of a commit
abbrev pub NamesKey : Leader → Type 0
NamesKey leader = (1 ≤ leader.home) × (leader.home ≤ 4095) × (1 ≤ leader.birth)

-- what a partition's edits say of a rank
abbrev pub seen_in : Option (Option Piece) → Seen
seen_in None = Base
seen_in (Some None) = Gone
seen_in (Some (Some piece)) = Here piece

-- what is told of a partition under its number to those who ask
abbrev pub info_told : PartId → Leader → PartInfo
info_told part led = record { part = part; suite = led.suite; parent = record { 0 = led.parent }; born = led.born; next = led.next }

-- and of each, by number
abbrev pub infos_told : Covers → List PartInfo
infos_told covers = map (λ e. info_told (record { 0 = e.0 }) (leader_of e.1)) (entries covers)

abbrev pub seen_at : Covers → ℕ → ℕ → Seen
seen_at covers part rank = seen_in (option_and_then (λ p. get p.edits rank) (get covers part))
