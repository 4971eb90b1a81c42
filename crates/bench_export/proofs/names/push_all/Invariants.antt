use Rattle.std.proofs.Common.{◌≡◌, ◌++◌, drop}
use Rattle.std.specs.Prelude.{map}
use Rattle.bench_export.proofs.names.push_all.Given as goal

-- the names so far, and those that are left
abbrev pub invariant-names : goal.invariant-names
invariant-names l = l.row ++ map (λ name. name.now) (drop l.name-index l.names) ≡ l.fn.row ++ map (λ name. name.now) l.names
