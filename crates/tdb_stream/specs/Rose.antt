-- Counts of faults, as the base has them.
pub use Rattle.tdb_base.specs.Rose.{Rose, risen}
