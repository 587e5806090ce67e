use Rattle.std.proofs.Common.{rules}
use Rattle.tdb_node.proofs.TableSpelling.{zeros_fit}
use Rattle.tdb_node.proofs.table.words_of.Goals as goal

pub loop-word-init : goal.loop-word-init
loop-word-init c = record { length = search rules; words = λ k. zeros_fit 64 k; spelled = search rules }
