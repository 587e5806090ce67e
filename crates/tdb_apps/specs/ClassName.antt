-- The names of the classes.
use Rattle.std.specs.Prelude.{ℕ, ◌==◌, List, Option, Some, None, codes, if◌then◌else◌}

abbrev pub name_of_class : ℕ → Option (List ℕ)
name_of_class class =
    if class == 1 then Some (codes "note")
    else (if class == 2 then Some (codes "account") else (if class == 3 then Some (codes "licence") else None))
